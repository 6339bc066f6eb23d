-- The first pass: how long numbers and lines are, and the sum over the cells.
-- Assumes nothing.
use Rattle.std.specs.Prelude.{Some, None, Option}
use Prim.Native.Nat.{ℕ, ◌+◌, ◌*◌, ◌/◌, ◌<◌, ◌≤◌}
use mathlib.Core.Path.{◌≡◌, refl, sym, ap, ◌∙◌}
use mathlib.Core.Bool.{true, false}
use mathlib.Core.List.{◌++◌}
use native.Mathlib.Omega.{arith}
use native.Mathlib.Numerals.{add-one}
use lib.ListN.{length, length-append}
use Rattle.lists.specs.Lists.{gathered}
use Rattle.logic.specs.Below.{below}
use Rattle.logic.specs.BelowLaws.{below_fails, below_more}
use Rattle.lanes.specs.declared.State.{State}
use Rattle.quiet.specs.declared.Quarter.{Quarter}
use Rattle.steps.specs.Memory.{Memory}
use Rattle.byte_lists.specs.Bytes.{word, decimal}
use Rattle.byte_lists.specs.Decimals.{decimal_low, decimal_short, step_length}
use Rattle.planners_text.specs.PlannersText.{crlf, header, line_of, line_as, quarter_at, lines_below, text_of, inside, words_fit}
use Rattle.planners_text.specs.Inner.{Long, measured_of}

-- a number's digits: one, or those of its tenth and one more
pub digits_low : (n : ℕ) → n < 10 → Long 10 (decimal n) 1
digits_low n h = record { is = sym (ap length (decimal_low n h)); few = omega arith }

pub digits_more : (n count : ℕ) → n < 4294967296 → 10 ≤ n → Long 10 (decimal (n / 10)) count → Long 10 (decimal n) (count + 1)
digits_more n count small h c =
    let is : count + 1 ≡ length (decimal n) = omega (arith, step_length n h, c.is) in
    record { is = is; few = omega (arith, is, decimal_short 9 n (omega arith)) }

-- the length of a cell's line
line_length : (i v : ℕ) → length (line_of i v) ≡ length (decimal i) + length (decimal v) + 3
line_length i v =
    omega (
      arith,
      length-append (decimal i) (word "," ++ (decimal v ++ crlf)),
      length-append (word ",") (decimal v ++ crlf),
      length-append (decimal v) crlf,
    )

pub long_written : (i : ℕ) (q : Quarter) (x y : ℕ) → q.written ≡ true → Long 10 (decimal i) x → Long 10 (decimal q.reading) y
    → Long 23 (line_as i (Some q)) (x + y + 3)
long_written i q x y h k l =
    rw h (record { is = omega (arith, line_length i q.reading, k.is, l.is); few = omega (arith, k.few, l.few) })

-- the cells below i were looked at
pub record Measuring (s : State) (mem : Memory) (total i : ℕ) : Type 0 where
  pub low : i ≤ s.terms.m
  pub fits : below i (λ (j : ℕ). inside (quarter_at s mem j)) ≡ true
  pub is : total ≡ 14 + length (lines_below s mem i)
  pub few : total ≤ 14 + 23 * i

pub measuring_start : (s : State) (mem : Memory) → Measuring s mem 14 0
unfolding below lines_below gathered
measuring_start s mem = record { low = omega arith; fits = refl; is = refl; few = omega arith }

-- one line more
pub lines_more : (s : State) (mem : Memory) (i : ℕ) → lines_below s mem (i + 1) ≡ lines_below s mem i ++ line_as i (quarter_at s mem i)
unfolding lines_below gathered
lines_more s mem i = rw (add-one i)

module _ (s : State) (mem : Memory) (total i : ℕ) (g : Measuring s mem total i) where
  module _ (h : i < s.terms.m) (q : Option Quarter) (e : q ≡ quarter_at s mem i) where
    pub measuring_outside : q ≡ None → None ≡ measured_of s mem
    measuring_outside x =
        let out : inside (quarter_at s mem i) ≡ false = ap inside (sym e ∙ x) in
        let none : words_fit s mem ≡ false = below_fails s.terms.m i (λ (j : ℕ). inside (quarter_at s mem j)) h out in
        rw none

    pub measuring_next : (r : Quarter) → q ≡ Some r → (n : ℕ) → Long 23 (line_as i (Some r)) n → Measuring s mem (total + n) (i + 1)
    measuring_next r x n long =
        let here : inside (quarter_at s mem i) ≡ true = ap inside (sym e ∙ x) in
        let line : line_as i (Some r) ≡ line_as i (quarter_at s mem i) = ap (line_as i) (sym x ∙ e) in
        let size : n ≡ length (line_as i (quarter_at s mem i)) = long.is ∙ ap length line in
        let more : length (lines_below s mem (i + 1)) ≡ length (lines_below s mem i) + length (line_as i (quarter_at s mem i)) =
        ap length (lines_more s mem i) ∙ length-append (lines_below s mem i) (line_as i (quarter_at s mem i)) in
        record {
          low = omega arith;
          fits = sym (below_more i (λ (j : ℕ). inside (quarter_at s mem j))) ∙ simp (g.fits, here);
          is = omega (arith, g.is);
          few = omega (arith, g.few, long.few);
        }

  pub measuring_end : s.terms.m ≤ i → Some total ≡ measured_of s mem
  unfolding text_of
  measuring_end h =
      let at : i ≡ s.terms.m = omega (arith, g.low) in
      let all : words_fit s mem ≡ true = ap (λ (n : ℕ). below n (λ (j : ℕ). inside (quarter_at s mem j))) (sym at) ∙ g.fits in
      let long : total ≡ length (text_of s mem) =
      g.is ∙ ap (λ (n : ℕ). 14 + length (lines_below s mem n)) at ∙ sym (length-append header (lines_below s mem s.terms.m)) in
      rw (all, long)
