-- Proof: a step sees one shared word.
-- Assumes nothing.
use Rattle.std.specs.Prelude.{ℕ, ◌+◌, ◌≡◌, refl, true, List, length, get_or, Option, None, Some}
use Rattle.std.proofs.Common.{ap, ◌∙◌}
use Rattle.numbers.specs.Numbers.{segment_of, offset_of, directory_word, place_of}
use Rattle.numbers.specs.declared.Cell.{Cell}
use Rattle.numbers.specs.declared.Place.{Place}
use Rattle.numbers.specs.declared.Terms.{Terms}
use Rattle.lanes.specs.declared.Check.{Check}
use Rattle.lanes.specs.declared.Marking.{Marking}
use Rattle.lanes.specs.declared.Op.{Op}
use Rattle.lanes.specs.declared.Lane.{Lane}
use Rattle.lanes.specs.declared.State.{State}
use Rattle.lanes.specs.Ranges.{lane_of, marks_of}
use Rattle.steps.specs.declared.Found.{Found}
use Rattle.steps.specs.declared.Next.{Next}
use Rattle.steps.specs.Memory.{Memory}
use Rattle.steps.specs.Steps as Steps
use Rattle.steps.specs.Steps.{start_of, pool_word, ends, check, check_link, checked_turn, put_turn, read_turn, asked_turn, marking_turn, found, op_turn}
use Rattle.steps.specs.Touched.{touched_in, touched}
use Rattle.claims.specs.Words.{word_at, past_check}
use Rattle.claims.specs.Claims.{SeesOneWord}

-- a word of two pools of one length that agree there
word_same : (a b : List ℕ) (start n : ℕ) → length a ≡ length b → get_or a (start + offset_of n) 0 ≡ get_or b (start + offset_of n) 0
    → pool_word a start n ≡ pool_word b start n
word_same a b start n h e = rw (h, e)

check_same : (z : Terms) (i : Cell) (c : Check) (s s' : State) (mem mem' : Memory) → length mem.pool ≡ length mem'.pool
    → word_at s mem (touched_in z i c) ≡ word_at s' mem' (touched_in z i c)
    → check z (marks_of s) mem.links mem.directory mem.pool i c ≡ check z (marks_of s') mem'.links mem'.directory mem'.pool i c
check_same z i Check.Link s s' mem mem' h e = rw e
check_same z i (Check.Marks w) s s' mem mem' h e = rw e
check_same z i (Check.Directory w) s s' mem mem' h e = rw e
check_same z i (Check.Mark start w) s s' mem mem' h e = rw (word_same mem.pool mem'.pool start (place_of w) h e)

module _ (z : Terms) (q : ℕ) (l : Lane) (s s' : State) (mem mem' : Memory) (hl : length mem.pool ≡ length mem'.pool) where
  abbrev Agree : Op → Type 0
  Agree o = word_at s mem (touched z q mem.directory o) ≡ word_at s' mem' (touched z q mem.directory o)

  abbrev Own : Type 0
  Own = (k : ℕ) → get_or mem.directory (directory_word q k) 0 ≡ get_or mem'.directory (directory_word q k) 0

  abbrev Same : Op → Type 0
  Same o = op_turn z s.top q l (marks_of s) mem o ≡ op_turn z s'.top q l (marks_of s') mem' o

  put_same : (i : Cell) (n : Place) (mark : ℕ) (k : Marking) → Own
      → get_or mem.pool (start_of mem.directory q n.0 + offset_of n.0) 0 ≡ get_or mem'.pool (start_of mem.directory q n.0 + offset_of n.0) 0
      → put_turn q mem.directory mem.pool i n mark k ≡ put_turn q mem'.directory mem'.pool i n mark k
  put_same i n mark k w e =
      ap (λ (g : Option ℕ). Steps.stored (start_of mem.directory q n.0) i n mark k g)
      (word_same mem.pool mem'.pool (start_of mem.directory q n.0) n.0 hl e)
      ∙ ap (λ (x : ℕ). Steps.stored x i n mark k (pool_word mem'.pool x n.0)) (w (segment_of n.0))

  same_marking : (i : Cell) (k : Marking) → Agree (Op.Marking i k) → Own → Same (Op.Marking i k)
  same_marking i (Marking.Draw stored x n) e w = rw e
  same_marking i (Marking.Enter stored start x n) e w = refl
  same_marking i (Marking.Tombstone x n) e w = put_same i n _ _ w e
  same_marking i (Marking.Mark x n) e w = put_same i n _ _ w e
  same_marking i (Marking.Force x n) e w = refl
  same_marking i (Marking.Swap x n) e w = rw e
  same_marking i (Marking.TakeBack n) e w = refl

  same_turn : (o : Op) → Agree o → (past_check o ≡ true → Own) → Same o
  same_turn Op.Idle e w = refl
  same_turn (Op.Read i c) e w = ap (read_turn z i) (check_same z i c s s' mem mem' hl e)
  same_turn (Op.Reading i) e w = rw e
  same_turn (Op.Asked i c) e w = ap (asked_turn i) (check_same z i c s s' mem mem' hl e)
  same_turn (Op.Store i v) e w = refl
  same_turn (Op.Write i c) e w = ap (checked_turn q l i) (check_same z i c s s' mem mem' hl e)
  same_turn (Op.Marking i k) e w = same_marking i k e (w refl)

-- of the terms, a turn takes p and the fill rule
module _ (z z' : Terms) (hp : z.p ≡ z'.p) (hf : z.first ≡ z'.first) (hs : z.step ≡ z'.step) (top q : ℕ) (l : Lane) (in_force : ℕ → ℕ)
    (mem : Memory) where
  check_of_three : (i : Cell) (c : Check) → found z top q l in_force mem i c ≡ found z' top q l in_force mem i c
  check_of_three i Check.Link = ap (λ (p : ℕ). Some (check_link p (get_or mem.links i.0 0))) hp
  check_of_three i (Check.Marks w) = refl
  check_of_three i (Check.Directory w) = refl
  check_of_three i (Check.Mark start w) = refl

  marking_of_three : (i : Cell) (k : Marking)
      → marking_turn z top q l mem.links mem.directory mem.pool i k ≡ marking_turn z' top q l mem.links mem.directory mem.pool i k
  marking_of_three i (Marking.Draw stored x n) = refl
  marking_of_three i (Marking.Enter stored start x n) = refl
  marking_of_three i (Marking.Tombstone x n) = refl
  marking_of_three i (Marking.Mark x n) = refl
  marking_of_three i (Marking.Force x n) = refl
  marking_of_three i (Marking.Swap x n) = refl
  marking_of_three i (Marking.TakeBack n) = refl

  read_of_three : (i : Cell) (f : Option Found) → read_turn z i f ≡ read_turn z' i f
  read_of_three i None = refl
  read_of_three i (Some (Found.On c)) = refl
  read_of_three i (Some (Found.NotWritten link)) = ap (λ (n : Next). Some (ends n)) (rw (hf, hs) refl)
  read_of_three i (Some Found.Written) = refl

  turn_of_three : (o : Op) → op_turn z top q l in_force mem o ≡ op_turn z' top q l in_force mem o
  turn_of_three Op.Idle = refl
  turn_of_three (Op.Read i c) = ap (read_turn z i) (check_of_three i c) ∙ read_of_three i (found z' top q l in_force mem i c)
  turn_of_three (Op.Reading i) = refl
  turn_of_three (Op.Asked i c) = ap (asked_turn i) (check_of_three i c)
  turn_of_three (Op.Store i v) = refl
  turn_of_three (Op.Write i c) = ap (checked_turn q l i) (check_of_three i c)
  turn_of_three (Op.Marking i k) = marking_of_three i k

pub a_step_sees_one_word : SeesOneWord
a_step_sees_one_word q s s' mem mem' h =
    same_turn s.terms q (lane_of s q) s s' mem mem' h.pool (lane_of s q).op h.word h.own
    ∙ ap (λ (l : Lane). op_turn s.terms s'.top q l (marks_of s') mem' l.op) h.lane
    ∙ turn_of_three s.terms s'.terms h.p h.first h.step s'.top q (lane_of s' q) (marks_of s') mem' (lane_of s' q).op
