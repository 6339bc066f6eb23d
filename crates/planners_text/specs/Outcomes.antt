-- What a page comes to: one outcome, a refusal that writes nothing, and a text after which all bytes stay.
-- Assumes nothing.
use Rattle.std.specs.Prelude.{ℕ, ◌+◌, ◌≤◌, ◌≡◌, refl, Bool, true, false, List, [], ◌∷◌, ltb, length, take, drop, Ok, Err}
use Rattle.std.proofs.Common.{sym, ap, ◌∙◌, arith, ltb-false}
use Rattle.std.proofs.Math.Seq.{take-append_seam, drop-append_seam}
use Rattle.logic.specs.Determined.{by_part}
use Rattle.refusals.specs.Orders.{Rule, orders}
use Rattle.logic.specs.Pick.{pick}
use Rattle.refusals.specs.declared.Refusal.{Refusal}
use Rattle.lanes.specs.declared.State.{State}
use Rattle.steps.specs.Memory.{Memory}
use Rattle.byte_lists.specs.Bytes.{splice}
use Rattle.byte_lists.specs.Places.{splice_length}
use Rattle.planners_text.specs.PlannersText.{text_of, Page, page, put_text, text_refusals, write_of, Wrote}
use Rattle.planners_text.specs.Claims.{OneText, BytesAfterStay, RefusedText}

pub one_text : OneText
one_text s mem out r r' o o' e e' = (
  by_part (λ (p : Page). p.answer) (write_of s mem out) (page r o) (page r' o') e e',
  by_part (λ (p : Page). p.out) (write_of s mem out) (page r o) (page r' o') e e',
)

-- what holds of each refusal and of the work holds of an order
either : (C : Page → Type 0) (out : List ℕ) (work : Page) → ((r : Refusal) → C (page (Err r) out)) → C work → (rules : List Rule)
    → C (orders (λ r. page (Err r) out) rules work)
either C out work h k [] = k
either C out work h k (r ∷ rules) = by r.when (either C out work h k rules)
  where
    by : (b : Bool) → C (orders (λ r. page (Err r) out) rules work)
        → C (pick b (page (Err r.gives) out) (orders (λ r. page (Err r) out) rules work))
    by true later = h r.gives
    by false later = later

-- a page is a refusal and the buffer as it was, or the text in its place
pub record Put (s : State) (mem : Memory) (out : List ℕ) (n : ℕ) (o : List ℕ) : Type 0 where
  pub length_is : n ≡ length (text_of s mem)
  pub room : length (text_of s mem) ≤ length out
  pub is : o ≡ splice out 0 (text_of s mem)

abbrev Fair : State → Memory → List ℕ → Page → Type 0
Fair s mem out p =
    ((n : ℕ) (o : List ℕ) → page (Ok n) o ≡ p → Put s mem out n o) × ((r : Refusal) (o : List ℕ) → page (Err r) o ≡ p → o ≡ out)

apart : {A : Type 0} (n : ℕ) (r : Refusal) → ◌≡◌ {A = Wrote} (Ok n) (Err r) → A
apart n r e = absurd (let z : ◌≡◌ {A = ℕ} 0 1 = cc in omega arith)

bytes_are : (n k : ℕ) → ◌≡◌ {A = Wrote} (Ok n) (Ok k) → n ≡ k
bytes_are n k e = cc

refused_fair : (s : State) (mem : Memory) (out : List ℕ) (r : Refusal) → Fair s mem out (page (Err r) out)
refused_fair s mem out r =
    (λ n o e. apart n r (ap (λ (p : Page). p.answer) e), λ f o e. ap (λ (p : Page). p.out) e)

put_fair : (s : State) (mem : Memory) (out : List ℕ) → Fair s mem out (put_text s mem out)
put_fair s mem out = by (ltb (length out) (length (text_of s mem))) refl
  where
    by : (b : Bool) → ltb (length out) (length (text_of s mem)) ≡ b
        → Fair s mem out
        (pick b (page (Err Refusal.NoRoom) out) (page (Ok (length (text_of s mem))) (splice out 0 (text_of s mem))))
    by true e = refused_fair s mem out Refusal.NoRoom
    by false e = (
      λ n o h. record {
        length_is = bytes_are n (length (text_of s mem)) (ap (λ (p : Page). p.answer) h);
        room = ltb-false (length out) (length (text_of s mem)) e;
        is = ap (λ (p : Page). p.out) h;
      },
      λ f o h. apart (length (text_of s mem)) f (sym (ap (λ (p : Page). p.answer) h)),
    )

fair : (s : State) (mem : Memory) (out : List ℕ) → Fair s mem out (write_of s mem out)
unfolding write_of
fair s mem out =
    either (Fair s mem out) out (put_text s mem out) (refused_fair s mem out) (put_fair s mem out) (text_refusals s mem)

pub a_refused_text_writes_nothing : RefusedText
a_refused_text_writes_nothing s mem out r o e = (fair s mem out).1 r o e

-- the text, and what stands after it
pub text_is : (s : State) (mem : Memory) (out : List ℕ) (n : ℕ) (o : List ℕ) → page (Ok n) o ≡ write_of s mem out → take n o ≡ text_of s mem
unfolding splice
text_is s mem out n o e =
    let p = (fair s mem out).0 n o e in
    rw (p.length_is, p.is) (take-append_seam (text_of s mem) (drop (0 + length (text_of s mem)) out))

pub bytes_after_stay : BytesAfterStay
unfolding splice
bytes_after_stay s mem out n o e =
    let p = (fair s mem out).0 n o e in
    let room = p.room in
    let zero : 0 + length (text_of s mem) ≡ length (text_of s mem) = omega arith in (
      ap length p.is ∙ splice_length out (text_of s mem) 0 (omega arith),
      rw (p.length_is, p.is)
          (drop-append_seam (text_of s mem) (drop (0 + length (text_of s mem)) out) ∙ ap (λ (k : ℕ). drop k out) zero),
    )
