-- In a good state: the scan finds it at rest exactly if the book does, and the hour summary is of the array's values of the written cells.
-- Assumes nothing.
use Rattle.std.specs.Prelude.{ℕ, ◌+◌, ◌*◌, ◌/◌, ◌≤◌, ◌<◌, ◌≡◌, refl, Bool, true, false, not, List, Err}
use Rattle.std.proofs.Common.{sym, ap, ◌∙◌}
use Rattle.std.proofs.Math.Decide.{dec_lt}
use native.Mathlib.Omega.{arith}
use borrow.Author.Tests.{lt-ltb, le-ltb}
use Rattle.logic.specs.Truth.{both_ways}
use Rattle.logic.specs.BelowLaws.{below_at, below_all}
use Rattle.logic.specs.Pick.{pick}
use Rattle.lanes.specs.Ranges.{lane_of, idle}
use Rattle.acts.specs.Lent.{lengths_fit_lem}
use Rattle.quiet.specs.declared.Scan.TheVariants as Scan
use Rattle.quiet.specs.Quiet.{at_rest, scan_of}
use Rattle.summary.specs.Summary.{summary_of}
use Rattle.demands.specs.Types.{Refusal, Terms, State, Memory}
use Rattle.demands.specs.Book.{Doing, nothing, busy, Book, Run}
use Rattle.demands.specs.Demanded.{is_busy}
use Rattle.bridge.proofs.Good.{Good, does, state_fits_lem}
use Rattle.bridge.proofs.Views.{works, rests}
use Rattle.resting.specs.AtRest.{Resting, rests_in, filled, hour_in, summary_in}
use Rattle.resting.proofs.Cells.{order, reading_shown}

-- The test and the book.
pub resting_rests : (z : Terms) (r : Run State) → Resting z r → rests_in z r.book ≡ true
resting_rests z r rest = below_all z.p (λ (q : ℕ). not (is_busy (r.book.doing q))) (λ q h. ap (λ (d : Doing). not (is_busy d)) (rest q h))

pub rests_resting : (z : Terms) (r : Run State) → rests_in z r.book ≡ true → Resting z r
rests_resting z r h q hq = by (r.book.doing q) (below_at z.p q (λ (q : ℕ). not (is_busy (r.book.doing q))) hq h)
  where
    by : (d : Doing) → not (is_busy d) ≡ true → d ≡ nothing
    by nothing e = refl
    by (busy began o i taken) e = absurd (let y : ◌≡◌ {A = ℕ} 0 1 = cc in omega arith)

module _ {s : State} {mem : Memory} {b : Book} (H : Good s mem b) where
  idle_told : (q : ℕ) → idle (lane_of s q).op ≡ not (is_busy (b.doing q))
  idle_told q = by (b.doing q) refl
    where
      by : (d : Doing) → b.doing q ≡ d → idle (lane_of s q).op ≡ not (is_busy d)
      by nothing e = rests H q e
      by (busy began o i taken) e = works s.terms o i (lane_of s q).op (does H q e).0

  rest_told : at_rest s ≡ rests_in s.terms b
  rest_told =
      let p = s.terms.p in
      let f : ℕ → Bool = λ q. idle (lane_of s q).op in
      let g : ℕ → Bool = λ q. not (is_busy (b.doing q)) in
      both_ways (at_rest s) (rests_in s.terms b)
      (λ x. below_all p g (λ q h. sym (idle_told q) ∙ below_at p q f h x))
      (λ x. below_all p f (λ q h. idle_told q ∙ below_at p q g h x))

  pub scan_told : scan_of s ≡ pick (rests_in s.terms b) Scan.AtRest Scan.AtWork
  scan_told = rw (state_fits_lem H, rest_told)

  -- ---- with an operation under way

  pub summary_busy : rests_in s.terms b ≡ false → (h : ℕ) → summary_of s h mem ≡ Err Refusal.AtWork
  unfolding summary_of
  summary_busy e h = rw (scan_told, e, lengths_fit_lem H.lengths)

  -- ---- at rest

  module _ (rest : (q : ℕ) → q < s.terms.p → b.doing q ≡ nothing) (e : rests_in s.terms b ≡ true) where
    abbrev values : ℕ → List ℕ
    values h = hour_in (filled s.terms) (order H rest) h

    pub summary_resting : (h : ℕ) → summary_of s h mem ≡ summary_in s.terms b h (values h)
    unfolding summary_of
    summary_resting h = by (dec_lt h (s.terms.m / 4))
      where
        by : Dec (h < s.terms.m / 4) → summary_of s h mem ≡ summary_in s.terms b h (values h)
        by (no k) = let hh : s.terms.m / 4 ≤ h = omega arith in rw (scan_told, e, lengths_fit_lem H.lengths, le-ltb h (s.terms.m / 4) hh)
        by (yes k) =
            rw (
              scan_told,
              e,
              lengths_fit_lem H.lengths,
              lt-ltb h (s.terms.m / 4) k,
              reading_shown H rest (4 * h) (omega arith),
              reading_shown H rest (4 * h + 1) (omega arith),
              reading_shown H rest (4 * h + 2) (omega arith),
              reading_shown H rest (4 * h + 3) (omega arith),
            )
