-- Each case of the planners' output, as a law of its definition.
-- Assumes nothing.
use Rattle.std.specs.Prelude.{Option, Ok, Err, Some}
use Prim.Native.Nat.{ℕ}
use mathlib.Core.Path.{◌≡◌, sym, ap, ◌∙◌}
use mathlib.Core.List.{List}
use Rattle.refusals.specs.declared.Refusal.{Refusal}
use Rattle.qhs.specs.declared.Header.{Header}
use Rattle.qhs.specs.Qhs.{terms_of, read_of, Reading, scheduled}
use Rattle.qhs.specs.Laws.{schedule}
use Rattle.lanes.specs.declared.State.{State}
use Rattle.steps.specs.Memory.{Memory}
use Rattle.acts.specs.Worlds.{grid, World, world, opened_world}
use Rattle.text.specs.Text.{refused_line, file_refused_line}
use Rattle.byte_lists.specs.Bytes.{Placed, placed, put_of}
use Rattle.play.specs.Play.{filled, after}
use Rattle.play.specs.Inner.{Small}
use Rattle.planners_text.specs.PlannersText.{page, write_of, Wrote}
use Rattle.sheet.specs.Sheet.{shown, shown_of, left, sheet_as, sheet_of}

module _ (bytes : List ℕ) (h : Header) (n : ℕ) (mem mem' : Memory) (s : State) (out out' : List ℕ) (w : Wrote)
    (e : world s mem' ≡ after bytes (opened_world grid (terms_of h) mem) n) (f : page w out' ≡ write_of s mem' out) where
  shown_is : shown (page w out') ≡ left bytes h n mem out
  unfolding left
  shown_is = ap shown f ∙ ap (λ (x : World State). shown_of x out) e

  pub left_text : (end : ℕ) → w ≡ Ok end → placed (Some end) out' ≡ left bytes h n mem out
  left_text end g = ap (λ (x : Wrote). shown (page x out')) (sym g) ∙ shown_is

  pub left_refused : (r : Refusal) (p : Placed) → w ≡ Err r → p ≡ put_of out' 0 (refused_line r) → p ≡ left bytes h n mem out
  left_refused r p g k = k ∙ ap (λ (x : Wrote). shown (page x out')) (sym g) ∙ shown_is

-- what was written on other names of the same memories and the same buffer
pub left_filled : (bytes : List ℕ) (h : Header) (n : ℕ) (mem : Memory) (out out' : List ℕ) (text text' : List ℕ) (p : Option ℕ) → mem ≡ filled h
    → text ≡ out → placed p text' ≡ left bytes h n mem text → text' ≡ out' → placed p out' ≡ left bytes h n (filled h) out
left_filled bytes h n mem out out' text text' p e f g k =
    ap (placed p) (sym k) ∙ g ∙ ap (λ (x : Memory). left bytes h n x text) e ∙ ap (left bytes h n (filled h)) f

pub small : (bytes : List ℕ) (is : Reading) (h : Header) (n : ℕ) → is ≡ read_of bytes → is ≡ scheduled h n → Small h
small bytes is h n read e = let s = schedule bytes is h n read e in record { p_high = s.counts.p_high; m_high = s.m_few }

module _ (bytes out : List ℕ) (is : Reading) (read : is ≡ read_of bytes) (r : Placed) where
  pub sheet_refused : (f : Refusal) → is ≡ Err f → r ≡ put_of out 0 (file_refused_line f) → r ≡ sheet_of bytes out
  unfolding sheet_of
  sheet_refused f e g = g ∙ ap (λ (x : Reading). sheet_as bytes out x) (sym e ∙ read)

  pub sheet_schedule : (h : Header) (n : ℕ) → is ≡ scheduled h n → r ≡ left bytes h n (filled h) out → r ≡ sheet_of bytes out
  unfolding sheet_of
  sheet_schedule h n e g = g ∙ ap (λ (x : Reading). sheet_as bytes out x) (sym e ∙ read)
