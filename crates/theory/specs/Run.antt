-- A run: the machine, the words that stand for its marks, what an observer counts, and what a call does to all of them.
-- Assumes nothing.
use Rattle.std.specs.Prelude.{List, [], ◌∷◌, ℕ, suc}
use Rattle.std.proofs.Math.Decide.{dec_lt}
use Rattle.theory.specs.Base.{pick, upd}
use Rattle.theory.specs.Array.{Op, read, asked, write}
use Rattle.theory.specs.Machine.{Grid, Link, Stage, Lane, idle, busy, take_turn, Watch, pass, started, stepped, opened}
use Rattle.theory.specs.Words.{Words, words_after}

-- whether a write of the cell has begun, and whether the process has begun one: 1 or 0
pub record Tally : Type 0 where
  pub cells : ℕ → ℕ
  pub procs : ℕ → ℕ

abbrev pub tallied : Tally → ℕ → Op → ℕ → Tally
tallied T q read i = T
tallied T q asked i = T
tallied T q (write v) i = record { cells = upd T.cells i 1; procs = upd T.procs q 1 }

pub data Call : Type 0 where
  begin : ℕ → Op → ℕ → Call
  step : ℕ → Call

-- `taken q`: the steps of its own that q's operation has taken
pub record Run : Type 0 where
  pub watch : Watch
  pub words : Words
  pub tally : Tally
  pub taken : ℕ → ℕ

-- a refused call, a beginning, a step
abbrev pub pass_run : Run → Run
pass_run R = record { watch = pass R.watch; words = R.words; tally = R.tally; taken = R.taken }

abbrev pub begin_run : Run → ℕ → Op → ℕ → Run
begin_run R q o i = record { watch = started R.watch q o i; words = R.words; tally = tallied R.tally q o i; taken = upd R.taken q 0 }

abbrev pub step_run : Grid → Run → ℕ → Op → ℕ → Stage → Run
step_run G R q o i g = record {
  watch = stepped R.watch q o i (take_turn G R.watch.mem q o i g);
  words = words_after G R.words q i g;
  tally = R.tally;
  taken = upd R.taken q (suc (R.taken q));
}

module _ (G : Grid) (R : Run) where
  abbrev pub call_begin : ℕ → Op → ℕ → Lane → Run
  call_begin q o i idle = pick (dec_lt q G.p) (pick (dec_lt i G.m) (begin_run R q o i) (pass_run R)) (pass_run R)
  call_begin q o i (busy o' i' g) = pass_run R

  abbrev pub call_step : ℕ → Lane → Run
  call_step q idle = pass_run R
  call_step q (busy o i g) = step_run G R q o i g

  abbrev pub after_call : Call → Run
  after_call (begin q o i) = call_begin q o i (R.watch.lane q)
  after_call (step q) = call_step q (R.watch.lane q)

unfoldable pub after_calls : Grid → Run → List Call → Run
after_calls G R [] = R
after_calls G R (c ∷ cs) = after_calls G (after_call G R c) cs

-- a grid opened over any words (marks and held starts are ghosts, and may be anything)
abbrev pub opened_run : (ℕ → ℕ) → (ℕ → Link) → (ℕ → ℕ → ℕ) → (ℕ → ℕ → ℕ) → (ℕ → ℕ) → (ℕ → ℕ) → Run
opened_run readings links marks directory pool held = record {
  watch = opened readings links marks;
  words = record { directory = directory; pool = pool; top = 0; held = held };
  tally = record { cells = λ i. 0; procs = λ q. 0 };
  taken = λ q. 0;
}
