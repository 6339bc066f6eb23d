-- The words that stand for the marks: directory, pool and top, and what a step of each stage does to them.
-- Assumes nothing.
use Rattle.std.specs.Prelude.{ℕ, suc, ◌+◌, ◌^◌}
use Rattle.theory.specs.Base.{upd}
use Rattle.theory.specs.Machine.{Grid, Seen, Marking, Stage, marking}

-- the directory (by lane and segment), the pool, its top, and the start that each process has read or drawn
pub record Words : Type 0 where
  pub directory : ℕ → ℕ → ℕ
  pub pool : ℕ → ℕ
  pub top : ℕ
  pub held : ℕ → ℕ

module _ (G : Grid) where
  -- where in the pool place n of lane q lies
  abbrev pub address : Words → ℕ → ℕ → ℕ
  address P q n = P.directory q (G.shape.seg n) + G.shape.off n

  -- (c) reads a start
  abbrev after_read : Words → ℕ → Seen → Words
  after_read P q S = record {
    directory = P.directory;
    pool = P.pool;
    top = P.top;
    held = upd P.held q (P.directory S.at.proc (G.shape.seg S.at.place));
  }

  -- 3. The segment is drawn from the top, and its start held; then it is entered.
  abbrev after_draw : Words → ℕ → ℕ → Words
  after_draw P q n = record { directory = P.directory; pool = P.pool; top = P.top + 2 ^ suc (G.shape.seg n); held = upd P.held q P.top }

  abbrev after_enter : Words → ℕ → ℕ → Words
  after_enter P q n =
      record { directory = upd P.directory q (upd (P.directory q) (G.shape.seg n) (P.held q)); pool = P.pool; top = P.top; held = P.held }

  -- 4, 5. A word is stored at a place of the own lane.
  abbrev pub after_stamp : Words → ℕ → ℕ → ℕ → Words
  after_stamp P q n c = record { directory = P.directory; pool = upd P.pool (address P q n) c; top = P.top; held = P.held }

  -- what a step does to those words: at rules 3 to 8, and at any stage
  abbrev pub words_marked : Words → ℕ → ℕ → Marking → Words
  words_marked P q i (Marking.draw s S n) = after_draw P q n
  words_marked P q i (Marking.enter s S n) = after_enter P q n
  words_marked P q i (Marking.tombstone S n) = after_stamp P q n G.grave
  words_marked P q i (Marking.mark S n) = after_stamp P q n (G.code i)
  words_marked P q i (Marking.force S n) = P
  words_marked P q i (Marking.swap S n) = P
  words_marked P q i (Marking.take_back n) = P

  abbrev pub words_after : Words → ℕ → ℕ → Stage → Words
  words_after P q i Stage.store = P
  words_after P q i Stage.check_link = P
  words_after P q i (Stage.check_marks S) = P
  words_after P q i (Stage.check_directory S) = after_read P q S
  words_after P q i (Stage.check_mark S) = P
  words_after P q i Stage.fetch = P
  words_after P q i (marking k) = words_marked P q i k
