-- What a page comes to: one outcome, a refusal that writes nothing, and a file after which all bytes stay.
-- Assumes nothing.
use Rattle.std.specs.Prelude.{ℕ, ◌+◌, ◌≤◌, ◌≡◌, Bool, true, false, List, [], ◌∷◌, take, Ok, Err}
use Rattle.std.proofs.Common.{sym, ◌∙◌, ltb-false, lt-ltb, le-ltb, le-leb}
use Rattle.std.proofs.Math.Path.{ap}
use native.Mathlib.Omega.{arith}
use Rattle.std.proofs.Math.ListN.{length, drop}
use Rattle.std.proofs.Math.Seq.{take-append_seam, drop-append_seam}
use Rattle.std.proofs.lemmas.Bool.{not-false}
use Rattle.logic.specs.Determined.{by_part}
use Rattle.refusals.specs.Laws.{past}
use Rattle.refusals.specs.Orders.{Rule, orders}
use Rattle.logic.specs.Pick.{pick}
use Rattle.refusals.specs.declared.Refusal.{Refusal}
use Rattle.qhs.specs.declared.Header.{Header}
use Rattle.qhs.specs.Qhs.{most_bytes, most_file_cells}
use Rattle.qhs.specs.Laws.{Counted, none_counted}
use Rattle.byte_lists.specs.Bytes.{splice}
use Rattle.byte_lists.specs.Places.{splice_length}
use Rattle.qhs_writer.specs.Writer.{Fields, file_of, all_known, write_refusals, Page, page, write_of}
use Rattle.qhs_writer.specs.Claims.{OneFile, OverLong, BytesAfterStay, RefusedFile}
use Rattle.qhs_writer.specs.Sizes.{file_length}

pub one_file : OneFile
one_file h f out r r' o o' e e' = (
  by_part (λ (p : Page). p.answer) (write_of h f out) (page r o) (page r' o') e e',
  by_part (λ (p : Page). p.out) (write_of h f out) (page r o) (page r' o') e e',
)

pub over_long : OverLong
unfolding write_of
over_long h f out l = simp (lt-ltb most_bytes (length (file_of h f)) (omega (arith, file_length h f)))

-- what is handed in gives a file, and there is room for it
pub record Fine (h : Header) (f : Fields) (out : List ℕ) : Type 0 where
  pub fits : length (file_of h f) ≤ most_bytes
  pub few : h.m ≤ most_file_cells
  pub known : all_known f ≡ true
  pub counts : Counted h.p h.m
  pub room : length (file_of h f) ≤ length out

abbrev pub filed : Header → Fields → List ℕ → Page
filed h f out = page (Ok (length (file_of h f))) (splice out 0 (file_of h f))

-- then it is written,
pub written : (h : Header) (f : Fields) (out : List ℕ) → Fine h f out → write_of h f out ≡ filed h f out
unfolding write_of
written h f out g =
    let q = g.counts in
    simp (
      le-ltb _ _ g.fits,
      le-ltb _ _ g.few,
      g.known,
      le-leb _ _ q.p_low,
      le-leb _ _ q.p_high,
      le-leb _ _ q.m_low,
      le-leb _ _ q.m_high,
      le-ltb _ _ g.room,
    )

-- and only then
apart : (r : Refusal) (out o : List ℕ) (n : ℕ) → page (Err r) out ≡ page (Ok n) o → ⊥
apart r out o n e = let k = ap (λ (p : Page). p.answer) e in let z : ◌≡◌ {A = ℕ} 0 1 = cc in omega arith

pub fine : (h : Header) (f : Fields) (out : List ℕ) (n : ℕ) (o : List ℕ) → page (Ok n) o ≡ write_of h f out → Fine h f out
unfolding write_of
fine h f out n o e =
    let none = (past (λ r. page (Err r) out) (write_refusals h f out) (filed h f out) (page (Ok n) o) (λ r. apart r out o n) (sym e)).0 in
    let counts = none.1.1.1 in
    record {
      fits = ltb-false most_bytes (length (file_of h f)) none.0;
      few = ltb-false most_file_cells h.m none.1.0;
      known = not-false (all_known f) none.1.1.0;
      counts = none_counted h.p h.m (counts.0, (counts.1.0, tt));
      room = ltb-false (length out) (length (file_of h f)) counts.1.1.0;
    }

-- the file, and what stands after it
module _ (h : Header) (f : Fields) (out : List ℕ) (n : ℕ) (o : List ℕ) (e : page (Ok n) o ≡ write_of h f out) where
  is_filed : page (Ok n) o ≡ filed h f out
  is_filed = e ∙ written h f out (fine h f out n o e)

  ends : n ≡ length (file_of h f)
  ends = let k = ap (λ (p : Page). p.answer) is_filed in cc

  shows : o ≡ splice out 0 (file_of h f)
  shows = ap (λ (p : Page). p.out) is_filed

  pub file_is : take n o ≡ file_of h f
  unfolding splice
  file_is = rw (ends, shows) (take-append_seam (file_of h f) (drop (0 + length (file_of h f)) out))

  rest_stays : (length o ≡ length out) × (drop n o ≡ drop n out)
  unfolding splice
  rest_stays =
      let room = (fine h f out n o e).room in
      let zero : 0 + length (file_of h f) ≡ length (file_of h f) = omega arith in (
        ap length shows ∙ splice_length out (file_of h f) 0 (omega arith),
        rw (ends, shows) (drop-append_seam (file_of h f) (drop (0 + length (file_of h f)) out) ∙ ap (λ (k : ℕ). drop k out) zero),
      )

pub bytes_after_stay : BytesAfterStay
bytes_after_stay h f out n o e = rest_stays h f out n o e

-- what an order gives is the refused page or the work
kept : (out o : List ℕ) (r : Refusal) (n : ℕ) (o' : List ℕ) (rules : List Rule)
    → page (Err r) o ≡ orders (λ x. page (Err x) out) rules (page (Ok n) o') → o ≡ out
kept out o r n o' [] e = absurd (apart r o o' n e)
kept out o r n o' (rule ∷ rules) e = by (λ y. kept out o r n o' rules y) rule.when e
  where
    by : (page (Err r) o ≡ orders (λ x. page (Err x) out) rules (page (Ok n) o') → o ≡ out) → (b : Bool)
        → page (Err r) o
        ≡ pick b (page (Err rule.gives) out) (orders (λ x. page (Err x) out) rules (page (Ok n) o'))
        → o ≡ out
    by later true y = ap (λ (p : Page). p.out) y
    by later false y = later y

pub a_refused_file_writes_nothing : RefusedFile
unfolding write_of
a_refused_file_writes_nothing h f out r o e = kept out o r (length (file_of h f)) (splice out 0 (file_of h f)) (write_refusals h f out) e
