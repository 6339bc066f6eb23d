-- Which word a step of each stage touches, and that it has to lie inside its memory: what refusal 9 tests.
-- Assumes nothing.
use Rattle.std.specs.Prelude.{ℕ, suc, ◌+◌, ◌^◌, ◌≤◌, ◌<◌}
use Rattle.theory.specs.Machine.{Grid, most_marks, pool_words, Marking, Stage, marking}
use Rattle.theory.specs.Words.{Words}

module _ (G : Grid) where
  -- place n's word in the pool, in a segment at a start: the word, and the whole segment
  abbrev pub Inside : ℕ → ℕ → Type 0
  Inside start n = (start + G.shape.off n < pool_words G) × (start + 2 ^ suc (G.shape.seg n) ≤ pool_words G)

  -- place n has a segment of its own lane, and lies where its start says
  abbrev pub Reached : ℕ → ℕ → Type 0
  Reached start n = Inside start n × (G.shape.seg n < G.shape.segments) × (n < most_marks G)

  -- what a step touches: at rules 3 to 8, and at any stage
  abbrev pub TouchIn : Words → ℕ → ℕ → Marking → Type 0
  TouchIn P q i (Marking.draw s S n) =
      (G.shape.seg n < G.shape.segments) × (P.top + 2 ^ suc (G.shape.seg n) ≤ pool_words G) × (n < most_marks G)
  TouchIn P q i (Marking.enter s S n) = (G.shape.seg n < G.shape.segments) × (n < most_marks G)
  TouchIn P q i (Marking.tombstone S n) = Reached (P.directory q (G.shape.seg n)) n
  TouchIn P q i (Marking.mark S n) = Reached (P.directory q (G.shape.seg n)) n
  TouchIn P q i (Marking.force S n) = n < most_marks G
  TouchIn P q i (Marking.swap S n) = (i < G.m) × (n < most_marks G)
  TouchIn P q i (Marking.take_back n) = n < most_marks G

  abbrev pub Touch : Words → ℕ → ℕ → Stage → Type 0
  Touch P q i Stage.store = i < G.m
  Touch P q i Stage.check_link = i < G.m
  Touch P q i (Stage.check_marks S) = S.at.proc < G.p
  Touch P q i (Stage.check_directory S) =
      (S.at.proc < G.p) × (G.shape.seg S.at.place < G.shape.segments) × (S.at.place < most_marks G)
  Touch P q i (Stage.check_mark S) = (S.at.proc < G.p) × Inside (P.held q) S.at.place × (S.at.place < most_marks G)
  Touch P q i Stage.fetch = i < G.m
  Touch P q i (marking k) = TouchIn P q i k
