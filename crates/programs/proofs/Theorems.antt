-- The theorems: for all bytes of a file, what each program prints is what a run of the grid answers.
-- Assumes nothing.
use Prim.Native.Nat.{ℕ, zero, suc, ◌≤◌}
use Rattle.std.specs.Prelude.{◌≡◌, Bool, true, false, not, ◌≢◌, ltb, eqb, length, Ok, Err}
use Rattle.std.proofs.Math.Path.{refl, ap}
use Rattle.std.proofs.Common.{sym, ◌∙◌, arith}
use mathlib.Core.List.{List, ◌++◌}
use Rattle.logic.specs.Pick.{pick}
use Rattle.lists.specs.Lists.{gathered}
use Rattle.numbers.specs.Cells.{cell_fits}
use Rattle.refusals.specs.Numbers.{number_of}
use Rattle.refusals.specs.Laws.{orders_then}
use Rattle.qhs.specs.declared.Header.{Header}
use Rattle.qhs.specs.declared.Record.{Record}
use Rattle.qhs.specs.Qhs.{terms_of, record_at, read_of, scheduled}
use Rattle.qhs.specs.Laws.{schedule}
use Rattle.acts.specs.Calls as Grid
use Rattle.acts.specs.Worlds.{grid, begin, step, World, answer_to, Accepted, opened_world}
use Rattle.byte_lists.specs.Bytes.{splice}
use Rattle.text.specs.Text.{answer_line, sizes_line}
use Rattle.planners_text.specs.PlannersText.{text_of, page}
use Rattle.play.specs.Play.{filled, ask_of, call_of, calls, after, lines_to, schedule_text, output_as}
use Rattle.play.specs.Fold.{after_calls_lem, answer_call}
use Rattle.play.proofs.Opens as Opens
use Rattle.sheet.specs.Sheet.{shown, shown_of, left, sheet_as, sheet_of}
use Rattle.demands.specs.Types.{Refusal, Terms, State, Memory}
use Rattle.demands.specs.Kinds.{writing}
use Rattle.demands.specs.Book.{Book, Run, start}
use Rattle.demands.specs.Demand1.{Said, refused, begins, steps, said}
use Rattle.demands.specs.Demanded.{is_busy, expected, Meets}
use Rattle.bridge.proofs.Runs.{run_world}
use Rattle.bridge.proofs.Proved.{demanded}
use Rattle.resting.specs.AtRest.{rests_in}
use Rattle.resting.proofs.Hours.{rests_resting}
use Rattle.resting.specs.AtRest as AtRest
use Rattle.paper.specs.OnPaper.{array_text, refusals_in, OnPaper}
use Rattle.paper.proofs.Theorems.{on_paper}
use Rattle.programs.specs.Printed.{run_of, call_on, answer_on, LeavesARun, Printed, sheet_in, Sheet, PrintsARun, SheetOfARun}
use Rattle.programs.specs.Lines.{line_refused}

-- ---- what a record's call is told

-- A refusal's number; 0 for what is none.
abbrev spoken : Said → ℕ
spoken (refused r) = number_of r
spoken begins = 0
spoken steps = 0

-- 4, 6, 5 at a beginning, 4, 7 at a step.
few_said : (z : Terms) (b : Book) (r : Record) → spoken (expected writing b (call_of z r)) ≤ 7
few_said z b r = by (eqb r.kind 0)
  where
    at_begin : (x y w : Bool)
        → spoken (pick x (refused Refusal.NoSuchProcess) (pick y (refused Refusal.UnderWay) (pick w (refused Refusal.NoSuchCell) begins))) ≤ 7
    at_begin true y w = omega arith
    at_begin false true w = omega arith
    at_begin false false true = omega arith
    at_begin false false false = omega arith

    at_step : (x y : Bool) → spoken (pick x (refused Refusal.NoSuchProcess) (pick y (refused Refusal.NothingUnderWay) steps)) ≤ 7
    at_step true y = omega arith
    at_step false true = omega arith
    at_step false false = omega arith

    by : (s : Bool) → spoken (expected writing {z = z} b (pick s (step r.process) (begin r.process (ask_of r)))) ≤ 7
    by true = at_step (not (ltb r.process z.p)) (not (is_busy (b.doing r.process)))
    by false = at_begin (not (ltb r.process z.p)) (is_busy (b.doing r.process)) (not (cell_fits z (Grid.cell_of (ask_of r))))

-- ---- the fold of the records is the run of their calls

module _ (bytes : List ℕ) (h : Header) (mem : Memory) where
  abbrev z : Terms
  z = terms_of h

  abbrev opened : World State
  opened = opened_world grid z mem

  left_by : (k : ℕ) → after bytes opened k ≡ (run_of bytes h mem k).world
  left_by k = after_calls_lem z bytes opened k ∙ sym (run_world writing grid (start opened) (calls z bytes k))

  answered : (k : ℕ) → answer_to grid (after bytes opened k) (call_of opened.state.terms (record_at bytes k)) ≡ answer_on bytes h mem k
  answered k =
      answer_call z bytes opened k
      ∙ ap (λ (w : World State). answer_to grid w (call_on bytes h mem k)) (sym (run_world writing grid (start opened) (calls z bytes k)))

  lines : (n : ℕ) → lines_to bytes opened n ≡ gathered n (λ (k : ℕ). answer_line k (answer_on bytes h mem k))
  unfolding lines_to gathered
  lines zero = refl
  lines (suc n) = rw (lines n, answered n)

  module _ (ok : Accepted grid (terms_of h) mem) where
    met : (k : ℕ) → Meets writing grid z (run_of bytes h mem k)
    met k = demanded.runs z mem ok (calls z bytes k)

    few : (k : ℕ) (r : Refusal) → 8 ≤ number_of r → answer_line k (answer_on bytes h mem k) ≢ answer_line k (Err r)
    few k r high e =
        let is : said (answer_on bytes h mem k) ≡ refused r = ap said (line_refused k (answer_on bytes h mem k) r e) in
        let told = ap spoken (sym is ∙ (met k).refusals (call_on bytes h mem k)) in
        let low = few_said z (run_of bytes h mem k).book (record_at bytes k) in
        let y : ⊥ = omega arith in
        y

pub leaves_a_run : LeavesARun
leaves_a_run bytes h mem n ok = (left_by bytes h mem n, met bytes h mem ok n)

-- ---- the programs

module _ (bytes : List ℕ) (h : Header) (n : ℕ) (e : read_of bytes ≡ scheduled h n) where
  -- What the reader accepts, open accepts.
  pub accepted : Accepted grid (terms_of h) (filled h)
  accepted = Opens.accepted h (schedule bytes (read_of bytes) h n refl e).counts

  printed : Printed bytes h n
  unfolding schedule_text
  printed = record {
    accepted = accepted;
    demanded = met bytes h (filled h) accepted;
    prints = ap (output_as bytes) e ∙ ap (λ (l : List ℕ). sizes_line h.p h.m ++ l) (lines bytes h (filled h) n);
    few = few bytes h (filled h) accepted;
  }

  abbrev end : Run State
  end = run_of bytes h (filled h) n

  abbrev text : List ℕ
  text = text_of end.world.state end.world.memory

  paper : OnPaper (terms_of h) end
  paper = on_paper (terms_of h) (filled h) accepted (calls (terms_of h) bytes n)

  abbrev array : List ℕ
  array = array_text (AtRest.filled (terms_of h)) paper.one_order.order h.m

  shown_is : (out : List ℕ) → sheet_of bytes out ≡ sheet_in (terms_of h) end.book text out
  unfolding sheet_of left
  shown_is out =
      ap (sheet_as bytes out) e
      ∙ ap (λ (w : World State). shown_of w out) (left_by bytes h (filled h) n)
      ∙ ap shown (paper.writes out)
      ∙ orders_then shown (λ r. page (Err r) out) (refusals_in (terms_of h) end.book text out) (page (Ok (length text)) (splice out 0 text))

  -- with an operation under way no text is looked at
  by_array : (out : List ℕ) → sheet_in (terms_of h) end.book text out ≡ sheet_in (terms_of h) end.book array out
  by_array out = by (rests_in (terms_of h) end.book) refl
    where
      by : (b : Bool) → rests_in (terms_of h) end.book ≡ b → sheet_in (terms_of h) end.book text out ≡ sheet_in (terms_of h) end.book array out
      by true x = ap (λ (l : List ℕ). sheet_in (terms_of h) end.book l out) (paper.text (rests_resting (terms_of h) end x))
      by false x = rw x

  sheet : Sheet bytes h n
  sheet = record { one_order = paper.one_order; prints = λ out. shown_is out ∙ by_array out }

-- THE THEOREMS
pub prints_a_run : PrintsARun
prints_a_run = printed

pub sheet_of_a_run : SheetOfARun
sheet_of_a_run = sheet
