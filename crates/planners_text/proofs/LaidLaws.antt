-- The second pass: bytes laid into the buffer one after the other.
-- Assumes nothing.
use Rattle.std.specs.Prelude.{Option, None, Some}
use Prim.Native.Nat.{ℕ, zero, suc, ◌+◌, ◌-◌, ◌<◌, ◌≤◌}
use mathlib.Core.Path.{◌≡◌, refl, sym, ap, ◌∙◌}
use mathlib.Core.Bool.{false}
use mathlib.Core.List.{List, [], ◌++◌}
use native.Mathlib.Omega.{arith}
use lib.ListN.{length, length-append}
use Rattle.lists.specs.Lists.{gathered}
use Rattle.lanes.specs.declared.State.{State}
use Rattle.quiet.specs.declared.Quarter.{Quarter}
use Rattle.steps.specs.Memory.{Memory}
use Rattle.byte_lists.specs.Bytes.{word, decimal, placed, put_of, end_of}
use Rattle.byte_lists.specs.Places.{put_end, splice_none, splice_length, splice_more}
use Rattle.planners_text.specs.PlannersText.{crlf, line_of, line_as, quarter_at, lines_below}
use Rattle.planners_text.specs.Inner.{Laid}
use Rattle.planners_text.proofs.SizeLaws.{lines_more}

pub laid_put : (out o bytes : List ℕ) (at a : ℕ) (p : Option ℕ) → at + length bytes ≤ length out → placed p o ≡ put_of out at bytes → a ≡ end_of p
    → Laid out at bytes o a
laid_put out o bytes at a p h e f =
    let both = put_end p out o bytes at h e in
    record { ends = f ∙ both.0; shows = both.1 }

laid_none : (out : List ℕ) (at : ℕ) → Laid out at [] out at
laid_none out at = record { ends = omega arith; shows = sym (splice_none out at) }

pub laid_length : (out o bytes : List ℕ) (at a : ℕ) → at + length bytes ≤ length out → Laid out at bytes o a → length o ≡ length out
laid_length out o bytes at a h l = ap length l.shows ∙ splice_length out bytes at h

pub laid_then : (out o o' xs ys : List ℕ) (at a b : ℕ) → at + length xs ≤ length out → Laid out at xs o a → Laid o a ys o' b → Laid out at (xs ++ ys) o' b
laid_then out o o' xs ys at a b h l k =
    record {
      ends = omega (arith, l.ends, k.ends, length-append xs ys);
      shows = k.shows ∙ rw (l.shows, l.ends) (splice_more out xs ys at h);
    }

-- a cell's line from its four parts
pub laid_line : (out oa ob oc od : List ℕ) (at i v a b c d : ℕ) (pa pb pc pd : Option ℕ) → at + length (line_of i v) ≤ length out
    → placed pa oa ≡ put_of out at (decimal i)
    → a ≡ end_of pa → placed pb ob ≡ put_of oa a (word ",") → b ≡ end_of pb → placed pc oc ≡ put_of ob b (decimal v) → c ≡ end_of pc
    → placed pd od ≡ put_of oc c crlf → d ≡ end_of pd → Laid out at (line_of i v) od d
laid_line out oa ob oc od at i v a b c d pa pb pc pd room ea fa eb fb ec fc ed fd =
    let whole = length-append (decimal i) (word "," ++ (decimal v ++ crlf)) in
    let back = length-append (word ",") (decimal v ++ crlf) in
    let last = length-append (decimal v) crlf in
    let la = laid_put out oa (decimal i) at a pa (omega arith) ea fa in
    let na = laid_length out oa (decimal i) at a (omega arith) la in
    let lb = laid_put oa ob (word ",") a b pb (omega (arith, la.ends)) eb fb in
    let nb = laid_length oa ob (word ",") a b (omega (arith, la.ends)) lb in
    let lc = laid_put ob oc (decimal v) b c pc (omega (arith, la.ends, lb.ends)) ec fc in
    let nc = laid_length ob oc (decimal v) b c (omega (arith, la.ends, lb.ends)) lc in
    let ld = laid_put oc od crlf c d pd (omega (arith, la.ends, lb.ends, lc.ends)) ed fd in
    laid_then out oa od (decimal i) (word "," ++ (decimal v ++ crlf)) at a d (omega arith) la
    (laid_then oa ob od (word ",") (decimal v ++ crlf) a b d (omega (arith, la.ends)) lb
    (laid_then ob oc od (decimal v) crlf b c d (omega (arith, la.ends, lb.ends)) lc ld))

module _ (out : List ℕ) (at i : ℕ) (q : Option Quarter) where
  -- a cell that has no line
  pub as_outside : q ≡ None → Laid out at (line_as i q) out at
  as_outside e = rw e (laid_none out at)

  pub as_none : (r : Quarter) → q ≡ Some r → r.written ≡ false → Laid out at (line_as i q) out at
  as_none r e h = rw (e, h) (laid_none out at)

-- the cells below i have their lines
pub record Laying (s : State) (mem : Memory) (start : ℕ) (out₀ out : List ℕ) (at i : ℕ) : Type 0 where
  pub low : i ≤ s.terms.m
  pub laid : Laid out₀ start (lines_below s mem i) out at
  pub room : start + length (lines_below s mem s.terms.m) ≤ length out₀
  pub sized : length out ≡ length out₀

pub laying_start : (s : State) (mem : Memory) (start : ℕ) (out : List ℕ) → start + length (lines_below s mem s.terms.m) ≤ length out
    → Laying s mem start out out start 0
unfolding lines_below gathered
laying_start s mem start out h = record { low = omega arith; laid = laid_none out start; room = h; sized = refl }

-- more lines are no shorter
lines_rise : (s : State) (mem : Memory) (i k : ℕ) → length (lines_below s mem i) ≤ length (lines_below s mem (i + k))
lines_rise s mem i zero = let e : i + 0 ≡ i = omega arith in rw e (omega arith)
lines_rise s mem i (suc k) =
    let e : i + suc k ≡ i + k + 1 = omega arith in
    rw (e, lines_more s mem (i + k))
    (omega (arith, lines_rise s mem i k, length-append (lines_below s mem (i + k)) (line_as (i + k) (quarter_at s mem (i + k)))))

lines_most : (s : State) (mem : Memory) (i n : ℕ) → i ≤ n → length (lines_below s mem i) ≤ length (lines_below s mem n)
lines_most s mem i n h = let e : i + (n - i) ≡ n = omega arith in rw e at (lines_rise s mem i (n - i))

module _ (s : State) (mem : Memory) (start : ℕ) (out₀ out : List ℕ) (at i : ℕ) (g : Laying s mem start out₀ out at i) where
  module _ (h : i < s.terms.m) (q : Option Quarter) (e : q ≡ quarter_at s mem i) where
    line_is : line_as i q ≡ line_as i (quarter_at s mem i)
    line_is = rw e

    fits : start + (length (lines_below s mem i) + length (line_as i q)) ≤ length out₀
    fits =
        let most = lines_most s mem (i + 1) s.terms.m (omega arith) in
        let more : length (lines_below s mem (i + 1)) ≡ length (lines_below s mem i) + length (line_as i q) =
        ap length (lines_more s mem i) ∙ rw (← line_is) (length-append (lines_below s mem i) (line_as i q)) in
        omega (arith, g.room)

    -- there is room for one more line
    pub laying_room : at + length (line_as i q) ≤ length out
    laying_room = omega (arith, fits, g.laid.ends, g.sized)

    pub laying_next : (out' : List ℕ) (at' : ℕ) → Laid out at (line_as i q) out' at' → Laying s mem start out₀ out' at' (i + 1)
    laying_next out' at' l =
        record {
          low = omega arith;
          laid =
              rw (lines_more s mem i, ← line_is)
              (laid_then out₀ out out' (lines_below s mem i) (line_as i q) start at at' (omega (arith, fits)) g.laid l);
          room = g.room;
          sized = laid_length out out' (line_as i q) at at' laying_room l ∙ g.sized;
        }

  pub laying_end : s.terms.m ≤ i → Laid out₀ start (lines_below s mem s.terms.m) out at
  laying_end h = let e : i ≡ s.terms.m = omega (arith, g.low) in rw e at g.laid
