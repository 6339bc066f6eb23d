-- Each case of writing a grid's text, as a law of its definition.
-- Assumes nothing.
use Rattle.std.specs.Prelude.{Ok, Err, Some, None, Option}
use Prim.Native.Nat.{ℕ, ◌+◌, ◌<◌, ◌≤◌}
use mathlib.Core.Path.{◌≡◌, refl, sym, ap, ◌∙◌}
use mathlib.Core.Bool.{Bool, true, false, not}
use mathlib.Core.List.{List}
use native.Mathlib.Omega.{arith}
use lib.ListN.{length, length-append}
use borrow.Author.Tests.{lt-ltb, le-ltb}
use Rattle.logic.specs.Pick.{pick}
use Rattle.refusals.specs.declared.Refusal.TheVariants as Refusal
use Rattle.lanes.specs.declared.State.{State}
use Rattle.steps.specs.Memory.{Memory}
use Rattle.acts.specs.Calls.{lengths_fit}
use Rattle.quiet.specs.declared.Scan.{Scan}
use Rattle.quiet.specs.Quiet.{unfit, at_work, scan_of}
use Rattle.byte_lists.specs.Bytes.{placed, put_of, end_of}
use Rattle.planners_text.specs.PlannersText.{header, lines_below, text_of, words_fit, Page, page, put_text, write_of}
use Rattle.planners_text.specs.Inner.{Laid, measured_of}
use Rattle.planners_text.proofs.LaidLaws.{laid_put, laid_length, laid_then}

module _ (s : State) (mem : Memory) (n : ℕ) (out : List ℕ) (e : n ≡ length (text_of s mem)) where
  pub put_none : length out < n → page (Err Refusal.NoRoom) out ≡ put_text s mem out
  put_none h = let short : length out < length (text_of s mem) = omega arith in simp (lt-ltb _ _ short)

  module _ (h : n ≤ length out) (p : Option ℕ) (o : List ℕ) (start : ℕ) (f : placed p o ≡ put_of out 0 header) (g : start ≡ end_of p) where
    text_length : length (text_of s mem) ≡ 14 + length (lines_below s mem s.terms.m)
    unfolding text_of
    text_length = length-append header (lines_below s mem s.terms.m)

    header_laid : Laid out 0 header o start
    header_laid = laid_put out o header 0 start p (omega (arith, text_length)) f g

    -- there is room for the lines
    pub lines_room : start + length (lines_below s mem s.terms.m) ≤ length o
    lines_room =
        omega (arith, text_length, header_laid.ends, laid_length out o header 0 start (omega (arith, text_length)) header_laid)

    pub put_all : (o' : List ℕ) (end : ℕ) → Laid o start (lines_below s mem s.terms.m) o' end → page (Ok end) o' ≡ put_text s mem out
    unfolding text_of
    put_all o' end l =
        let all : Laid out 0 (text_of s mem) o' end =
        laid_then out o o' header (lines_below s mem s.terms.m) 0 start end (omega (arith, text_length)) header_laid l in
        let fits : length (text_of s mem) ≤ length out = omega arith in
        let long : end ≡ length (text_of s mem) = omega (arith, all.ends) in
        simp (le-ltb _ _ fits) (rw (long, all.shows))

-- what the first pass says of the words
none : (b : Bool) (k : ℕ) → pick b (Some k) None ≡ None → b ≡ false
none true k h = absurd (let z : ◌≡◌ {A = ℕ} 0 1 = cc in omega arith)
none false k h = refl

some : (b : Bool) (k n : ℕ) → pick b (Some k) None ≡ Some n → (b ≡ true) × (n ≡ k)
some true k n h = (refl, cc)
some false k n h = absurd (let z : ◌≡◌ {A = ℕ} 0 1 = cc in omega arith)

module _ (s : State) (mem : Memory) (out : List ℕ) (v : Scan) (e : v ≡ scan_of s) (u : Bool) (f : u ≡ unfit v) where
  pub write_9 : u ≡ true → page (Err Refusal.OutOfRange) out ≡ write_of s mem out
  unfolding write_of
  write_9 k = let x : unfit (scan_of s) ≡ true = ap unfit (sym e) ∙ sym f ∙ k in simp x

  module _ (fine : u ≡ false) (b : Bool) (lent : b ≡ lengths_fit s.terms mem) where
    fit : unfit (scan_of s) ≡ false
    fit = ap unfit (sym e) ∙ sym f ∙ fine

    pub write_8 : not b ≡ true → page (Err Refusal.OtherLengths) out ≡ write_of s mem out
    unfolding write_of
    write_8 k = let x : not (lengths_fit s.terms mem) ≡ true = rw (← lent) k in simp (fit, x)

    module _ (right : not b ≡ false) (w : Bool) (g : w ≡ at_work v) where
      lengths : not (lengths_fit s.terms mem) ≡ false
      lengths = rw (← lent) right

      pub write_10 : w ≡ true → page (Err Refusal.AtWork) out ≡ write_of s mem out
      unfolding write_of
      write_10 k = let x : at_work (scan_of s) ≡ true = ap at_work (sym e) ∙ sym g ∙ k in simp (fit, lengths, x)

      module _ (still : w ≡ false) (is : Option ℕ) (m : is ≡ measured_of s mem) where
        rest : at_work (scan_of s) ≡ false
        rest = ap at_work (sym e) ∙ sym g ∙ still

        pub write_9_word : is ≡ None → page (Err Refusal.OutOfRange) out ≡ write_of s mem out
        unfolding write_of
        write_9_word k = simp (fit, lengths, rest, none (words_fit s mem) (length (text_of s mem)) (sym m ∙ k))

        pub write_text : (n : ℕ) (r : Page) → is ≡ Some n → r ≡ put_text s mem out → r ≡ write_of s mem out
        unfolding write_of
        write_text n r k x = simp (fit, lengths, rest, (some (words_fit s mem) (length (text_of s mem)) n (sym m ∙ k)).0) x

-- what the first pass found is the text's length
pub measured_length : (s : State) (mem : Memory) (is : Option ℕ) (n : ℕ) → is ≡ measured_of s mem → is ≡ Some n → n ≡ length (text_of s mem)
measured_length s mem is n e f = (some (words_fit s mem) (length (text_of s mem)) n (sym e ∙ f)).1
