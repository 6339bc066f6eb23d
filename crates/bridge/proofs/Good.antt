-- What holds of every state, memory and book that calls can reach, and that every number of such a state is in its range.
-- Assumes nothing.
use Rattle.std.specs.Prelude.{ℕ, ◌≤◌, ◌<◌, ◌≡◌, refl, true, length}
use Rattle.std.proofs.Common.{ap, arith, lt-ltb, le-leb, eq-eqb}
use Rattle.numbers.specs.Numbers.{most_processes, most_segments, most_steps, most_marks, pool_words, process_of, place_of}
use Rattle.numbers.specs.Cells.{cell_fits, index_of}
use Rattle.numbers.specs.CellLaws.{cell_inside}
use Rattle.logic.specs.BelowLaws.{below_all}
use Rattle.lanes.specs.Ranges.{rest, lane_of, place_in, place_fits, check_fits, op_fits, lane_fits, state_fits}
use Rattle.acts.specs.Lent.{Bounds, Lengths, bounds_fit}
use Rattle.theory.proofs.Interface as Theory
use Rattle.demands.specs.Types.{Cell, Terms, Check, Marking, Op, State, Memory}
use Rattle.demands.specs.Book.{Doing, nothing, busy, Book}
use Rattle.demands.specs.Agrees.{Does, LaneAgrees}
use Rattle.bridge.proofs.ShadowLaws.{lawful}
use Rattle.bridge.specs.Shadow.{grid_of, check_at, mark_at, stage_of, lane_for, shadow}

-- The start that an operation under way holds: read in (c), or drawn.
abbrev pub HeldIn : Check → ℕ → Type 0
HeldIn Check.Link x = Unit {0}
HeldIn (Check.Marks w) x = Unit {0}
HeldIn (Check.Directory w) x = Unit {0}
HeldIn (Check.Mark start w) x = x ≡ start

abbrev pub HeldAt : Marking → ℕ → Type 0
HeldAt (Marking.Draw stored w n) x = Unit {0}
HeldAt (Marking.Enter stored start w n) x = x ≡ start
HeldAt (Marking.Tombstone w n) x = Unit {0}
HeldAt (Marking.Mark w n) x = Unit {0}
HeldAt (Marking.Force w n) x = Unit {0}
HeldAt (Marking.Swap w n) x = Unit {0}
HeldAt (Marking.TakeBack n) x = Unit {0}

abbrev pub Held : Op → ℕ → Type 0
Held Op.Idle x = Unit {0}
Held (Op.Read i c) x = HeldIn c x
Held (Op.Reading i) x = Unit {0}
Held (Op.Asked i c) x = HeldIn c x
Held (Op.Store i v) x = Unit {0}
Held (Op.Write i c) x = HeldIn c x
Held (Op.Marking i k) x = HeldAt k x

-- `beyond`: the lanes from p on are empty.
pub record Good (s : State) (mem : Memory) (b : Book) : Type 0 where
  pub bounds : Bounds s.terms
  pub lanes : length s.lanes ≡ most_processes
  pub lengths : Lengths s.terms mem
  pub agrees : (q : ℕ) → LaneAgrees s.terms (lane_of s q) (b.doing q)
  pub beyond : (q : ℕ) → s.terms.p ≤ q → lane_of s q ≡ rest
  pub marks : ℕ → ℕ → ℕ
  pub held : ℕ → ℕ
  pub holds : (q : ℕ) → Held (lane_of s q).op (held q)
  pub whole : Theory.Whole (grid_of s.terms) (shadow s mem b marks held)

-- A later state, memory and book, with an order grown from this one's.
pub record Later {s : State} {mem : Memory} {b : Book} (H : Good s mem b) (s' : State) (mem' : Memory) (b' : Book) : Type 0 where
  pub good : Good s' mem' b'
  pub grown : Theory.Grown H.whole.log good.whole.log

-- ---- an operation whose next step touches a word inside its memory is in its ranges

module _ (z : Terms) (P : Theory.Words) (q i : ℕ) where
  check_fits_lem : (c : Check) → Theory.Touch (grid_of z) P q i (check_at c) → check_fits z c ≡ true
  check_fits_lem Check.Link t = refl
  check_fits_lem (Check.Marks w) t = lt-ltb (process_of w) z.p t
  check_fits_lem (Check.Directory w) t = rw (lt-ltb (process_of w) z.p t.0) (le-leb (place_of w) (most_marks z.m) (omega arith))
  check_fits_lem (Check.Mark start w) t = rw (lt-ltb (process_of w) z.p t.0) (le-leb (place_of w) (most_marks z.m) (omega arith))

  place_fits_lem : (k : Marking) → Theory.TouchIn (grid_of z) P q i (mark_at k) → place_fits z (place_in k) ≡ true
  place_fits_lem (Marking.Draw stored w n) t = le-leb n.0 (most_marks z.m) (omega arith)
  place_fits_lem (Marking.Enter stored start w n) t = le-leb n.0 (most_marks z.m) (omega arith)
  place_fits_lem (Marking.Tombstone w n) t = le-leb n.0 (most_marks z.m) (omega arith)
  place_fits_lem (Marking.Mark w n) t = le-leb n.0 (most_marks z.m) (omega arith)
  place_fits_lem (Marking.Force w n) t = le-leb n.0 (most_marks z.m) (omega arith)
  place_fits_lem (Marking.Swap w n) t = le-leb n.0 (most_marks z.m) (omega arith)
  place_fits_lem (Marking.TakeBack n) t = le-leb n.0 (most_marks z.m) (omega arith)

  module _ (here : i < z.m) where
    cell_is : (j : Cell) → index_of z j ≡ i → cell_fits z j ≡ true
    cell_is j e = cell_inside z j (rw e here)

    op_fits_lem : (o : Theory.Op) (op : Op) (n : ℕ) → n ≤ most_steps → Does z o i op → Theory.Touch (grid_of z) P q i (stage_of op) → op_fits z n op ≡ true
    op_fits_lem Theory.read (Op.Read j c) n few e t = rw (le-leb n most_steps few, cell_is j e) (check_fits_lem c t)
    op_fits_lem Theory.read (Op.Reading j) n few e t = rw (le-leb n most_steps few, cell_is j e)
    op_fits_lem Theory.asked (Op.Asked j c) n few e t = rw (le-leb n most_steps few, cell_is j e) (check_fits_lem c t)
    op_fits_lem (Theory.write v) (Op.Store j w) n few e t = rw (le-leb n most_steps few, cell_is j e.0)
    op_fits_lem (Theory.write v) (Op.Write j c) n few e t = rw (le-leb n most_steps few, cell_is j e) (check_fits_lem c t)
    op_fits_lem (Theory.write v) (Op.Marking j k) n few e t = rw (le-leb n most_steps few, cell_is j e) (place_fits_lem k t)
    -- no operation does what another is for: `Does` is empty there
    op_fits_lem _ _ n few e t = elim e [ ]

steps_few : (o : Theory.Op) (n : ℕ) → n < Theory.bound o → n ≤ most_steps
steps_few Theory.read n h = omega arith
steps_few Theory.asked n h = omega arith
steps_few (Theory.write v) n h = omega arith

module _ {s : State} {mem : Memory} {b : Book} (H : Good s mem b) where
  pub law : Theory.Lawful (grid_of s.terms)
  law = lawful s.terms H.bounds.m_high

  pub inside : (q : ℕ) → q < s.terms.p → q < length s.lanes
  inside q h = omega (arith, H.lanes, H.bounds.p_high)

  abbrev pub behind : Theory.Run
  behind = shadow s mem b H.marks H.held

  -- a process with an operation under way
  module _ (q : ℕ) {began taken : ℕ} {o : Theory.Op} {i : ℕ} (e : b.doing q ≡ busy began o i taken) where
    pub at_work_lem : behind.watch.lane q ≡ Theory.busy o i (stage_of (lane_of s q).op)
    at_work_lem = ap (λ (d : Doing). lane_for d (lane_of s q).op) e

    pub does : Does s.terms o i (lane_of s q).op × ((lane_of s q).steps ≡ taken)
    does = rw e at (H.agrees q)

    pub few_steps : taken < Theory.bound o
    few_steps = rw e at (Theory.steps_under_way law H.whole q at_work_lem)

    pub touch : Theory.Touch (grid_of s.terms) behind.words q i (stage_of (lane_of s q).op)
    touch = Theory.touches law H.whole q at_work_lem

  pub lane_fits_lem : (q : ℕ) → lane_fits s.terms (lane_of s q) ≡ true
  lane_fits_lem q = by (b.doing q) refl
    where
      fits : op_fits s.terms (lane_of s q).steps (lane_of s q).op ≡ true → lane_fits s.terms (lane_of s q) ≡ true
      fits o =
          rw (
            le-leb (lane_of s q).marks (most_marks s.terms.m) (Theory.marks_fit law H.whole q),
            le-leb (lane_of s q).drawn most_segments (Theory.drawn_fits law H.whole q),
          ) o

      by : (d : Doing) → b.doing q ≡ d → lane_fits s.terms (lane_of s q) ≡ true
      by nothing e = let h : LaneAgrees s.terms (lane_of s q) nothing = rw e at (H.agrees q) in fits (rw h.0 (eq-eqb (lane_of s q).steps 0 h.1))
      by (busy began o i taken) e =
          fits
          (op_fits_lem s.terms behind.words q i (Theory.cell_fits_lem law H.whole q (at_work_lem q e)) o (lane_of s q).op (lane_of s q).steps
          (omega (arith, (does q e).1, steps_few o taken (few_steps q e))) (does q e).0 (touch q e))

  pub top_fits : s.top ≤ pool_words s.terms.p s.terms.m
  top_fits = Theory.top_fits law H.whole

  pub state_fits_lem : state_fits s ≡ true
  state_fits_lem =
      rw (bounds_fit H.bounds s.top top_fits)
      (below_all s.terms.p (λ (q : ℕ). lane_fits s.terms (lane_of s q)) (λ q h. lane_fits_lem q))
