-- A step of the code is the theory's step: what that takes, and the check (a) to (d).
-- Assumes nothing.
use Rattle.std.specs.Prelude.{ℕ, ◌+◌, ◌<◌, ◌≡◌, refl, ltb, eqb, length, get_or, Option, None, Some}
use Rattle.std.proofs.Common.{sym, ap, ◌∙◌, arith, lt-ltb}
use Rattle.std.proofs.Math.Decide.{ℕ_discrete, dec_lt}
use Rattle.numbers.specs.Numbers.{most_segments, segment_of, offset_of, process_of, place_of}
use Rattle.logic.specs.Pick.{pick}
use Rattle.lanes.specs.Ranges.{lane_of, marks_of}
use Rattle.steps.specs.Steps.{makes, start_of, pool_word, check_mark, check, op_turn}
use Rattle.steps.specs.Changes.{top_after, memory_after}
use Rattle.numbers.specs.Cells.{mark_of, index_of}
use Rattle.theory.proofs.Interface as Theory
use Rattle.demands.specs.Types.{Cell, Terms, Check, Op, State, Memory, Found, Change, Next, Turn}
use Rattle.demands.specs.Book.{Book}
use Rattle.demands.specs.Agrees.{Does}
use Rattle.bridge.specs.Shadow.{grid_of, seen_of, check_at, stage_of, change_of, next_of, starts_in, words_of}
use Rattle.bridge.proofs.ShadowLaws.{pick_yes, pick_both, pick_lt, pick_eq, upd_self}
use Rattle.bridge.proofs.Good.{HeldIn, Held, Good, law, behind}

-- the word that a change stores in the readings or the links lies inside them
abbrev pub Stores : Memory → Change → Type 0
Stores mem Change.Nothing = Unit {0}
Stores mem (Change.Reading i v) = i < length mem.readings
Stores mem (Change.Link i w) = i < length mem.links
Stores mem (Change.Directory k start) = Unit {0}
Stores mem (Change.Mark start n mark) = Unit {0}
Stores mem (Change.Marks n) = Unit {0}
Stores mem (Change.Top top drawn) = Unit {0}

-- the operation that goes on is the one asked, and holds the start x if it holds one
abbrev pub Carries : Terms → Theory.Op → ℕ → ℕ → Next → Type 0
Carries z o i x (Next.Going op) = Does z o i op × Held op x
Carries z o i x (Next.Read v t) = Unit {0}
Carries z o i x Next.Written = Unit {0}
Carries z o i x (Next.Asked t) = Unit {0}

abbrev pub turn_as : Option Turn → Theory.Turn
turn_as None = Theory.turn_to Theory.keep (Theory.go Theory.store)
turn_as (Some t) = Theory.turn_to (change_of t.change) (next_of t.next)

-- a check that touches inside its memory; it holds the start x if it holds one
abbrev pub Fine : ℕ → Option Found → Type 0
Fine x None = ⊥
Fine x (Some (Found.On c)) = HeldIn c x
Fine x (Some (Found.NotWritten w)) = Unit {0}
Fine x (Some Found.Written) = Unit {0}

module _ {s : State} {mem : Memory} {b : Book} (H : Good s mem b) (q : ℕ) where
  abbrev pub memory : Theory.Mem
  memory = (behind H).watch.mem

  abbrev pub turn_for : Op → Option Turn
  turn_for op = op_turn s.terms s.top q (lane_of s q) (marks_of s) mem op

  -- a step at an operation is the theory's step; `start` is the start held after it
  pub record Goes (o : Theory.Op) (i : ℕ) (op : Op) : Type 0 where
    pub change : Change
    pub next : Next
    pub start : ℕ
    pub turned : turn_for op ≡ Some (makes change next)
    pub same : Theory.take_turn (grid_of s.terms) memory q o i (stage_of op) ≡ turn_as (Some (makes change next))
    pub stores : Stores mem change
    pub words : Theory.words_after (grid_of s.terms) (behind H).words q i (stage_of op)
        ≡ words_of (top_after change s.top) (memory_after change mem) (Theory.upd H.held q start)
    pub carries : Carries s.terms o i start next

  -- the words where a step changes none of them
  pub still : words_of s.top mem H.held ≡ words_of s.top mem (Theory.upd H.held q (H.held q))
  still = ap (words_of s.top mem) (sym (upd_self H.held q (H.held q) refl))

  -- ---- the check

  abbrev pub found : Cell → Check → Option Found
  found j c = check s.terms (marks_of s) mem.links mem.directory mem.pool j c

  abbrev pub after : Theory.Op → ℕ → Option Found → Theory.Next
  after o i None = Theory.go Theory.store
  after o i (Some (Found.On c)) = Theory.go (check_at c)
  after o i (Some (Found.NotWritten w)) = Theory.failed (grid_of s.terms) memory q o i (seen_of w)
  after o i (Some Found.Written) = Theory.passed o

  pub record Checked (o : Theory.Op) (j : Cell) (c : Check) : Type 0 where
    pub start : ℕ
    pub same : Theory.take_turn (grid_of s.terms) memory q o (index_of s.terms j) (check_at c)
        ≡ Theory.turn_to Theory.keep (after o (index_of s.terms j) (found j c))
    pub words : Theory.words_after (grid_of s.terms) (behind H).words q (index_of s.terms j) (check_at c)
        ≡ words_of s.top mem (Theory.upd H.held q start)
    pub fine : Fine start (found j c)

  -- a pool word that the touched place has
  pub word_at : (start n : ℕ) → start + offset_of n < length mem.pool
      → pool_word mem.pool start n ≡ Some (get_or mem.pool (start + offset_of n) 0)
  word_at start n h = rw (lt-ltb (start + offset_of n) (length mem.pool) h)

  pub checked : (o : Theory.Op) (j : Cell) (c : Check) → (behind H).watch.lane q ≡ Theory.busy o (index_of s.terms j) (check_at c)
      → HeldIn c (H.held q) → Checked o j c
  checked o j Check.Link e h = record {
    start = H.held q;
    same = ap (Theory.turn_to Theory.keep) (pick_lt (λ f. after o i (Some f)) (process_of w) s.terms.p (Found.On (Check.Marks w)) (Found.NotWritten w));
    words = still;
    fine = pick_both (λ f. Fine (H.held q) (Some f)) (ltb (process_of w) s.terms.p) (Found.On (Check.Marks w)) (Found.NotWritten w) tt tt;
  }
    where
      i : ℕ
      i = index_of s.terms j

      w : ℕ
      w = get_or mem.links (index_of s.terms j) 0
  checked o j (Check.Marks w) e h = record {
    start = H.held q;
    same =
        ap (Theory.turn_to Theory.keep)
        (pick_lt (λ f. after o (index_of s.terms j) (Some f)) (place_of w) (marks_of s (process_of w)) (Found.On (Check.Directory w)) (Found.NotWritten w));
    words = still;
    fine = pick_both (λ f. Fine (H.held q) (Some f)) (ltb (place_of w) (marks_of s (process_of w))) (Found.On (Check.Directory w)) (Found.NotWritten w) tt tt;
  }
  checked o j (Check.Directory w) e h = record {
    start = starts_in mem.directory (process_of w) (segment_of (place_of w));
    same = refl;
    words = refl;
    fine =
        pick_yes (dec_lt (segment_of (place_of w)) most_segments) (start_of mem.directory (process_of w) (place_of w)) 0
        (Theory.touches (law H) H.whole q e).1;
  }
  checked o j (Check.Mark start w) e h = record {
    start = H.held q;
    same =
        ap (λ (y : ℕ). Theory.turn_to Theory.keep (Theory.pick (ℕ_discrete y own) (Theory.passed o)
        (Theory.failed (grid_of s.terms) memory q o i (seen_of w)))) (sym read)
        ∙ ap (Theory.turn_to Theory.keep) (pick_eq (λ f. after o i (Some f)) x own Found.Written (Found.NotWritten w) ∙ ap (after o i) (sym is));
    words = still;
    fine = rw is (pick_both (λ f. Fine (H.held q) (Some f)) (eqb x own) Found.Written (Found.NotWritten w) tt tt);
  }
    where
      i : ℕ
      i = index_of s.terms j

      own : ℕ
      own = mark_of j

      x : ℕ
      x = get_or mem.pool (start + offset_of (place_of w)) 0

      read : x ≡ H.marks (process_of w) (place_of w)
      read = ap (λ (y : ℕ). get_or mem.pool (y + offset_of (place_of w)) 0) (sym h) ∙ Theory.mark_read (law H) H.whole q e

      is : found j (Check.Mark start w) ≡ Some (pick (eqb x own) Found.Written (Found.NotWritten w))
      is = ap (check_mark own w) (word_at start (place_of w) (omega (arith, H.lengths.pool, h, (Theory.touches (law H) H.whole q e).1.0)))
