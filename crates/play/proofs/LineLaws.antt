-- Lines put into the buffer one after the other, and the lines of a list.
-- Assumes nothing.
use Rattle.std.specs.Prelude.{Option}
use Prim.Native.Nat.{ℕ, zero, suc, ◌+◌, ◌*◌, ◌<◌, ◌≤◌}
use mathlib.Core.Path.{◌≡◌, refl, sym, ap, ◌∙◌}
use mathlib.Core.List.{List, [], ◌++◌, append_assoc, append-nil}
use native.Mathlib.Omega.{arith}
use native.Mathlib.Numerals.{add-one}
use lib.ListN.{length, get_or, length-append}
use Rattle.lanes.specs.declared.State.{State}
use Rattle.batch.specs.Batch.{answer_of}
use Rattle.acts.specs.Worlds.{World}
use Rattle.text.specs.Text.{answer_line}
use Rattle.byte_lists.specs.Bytes.{decimal, placed, put_of, end_of}
use Rattle.byte_lists.specs.Places.{put_end, splice_none, splice_length, splice_more}
use Rattle.byte_lists.specs.Decimals.{decimal_short}
use Rattle.play.specs.Play.{line_at, lines_to, line_room}
use Rattle.play.specs.Inner.{word_lines, Shown, Room, Listed}
use Rattle.acts.specs.Calls.{Response}

module _ (out : List ℕ) (at : ℕ) where
  pub shown_none : Shown 0 out at [] out at
  shown_none = record { shows = sym (splice_none out at); ends = omega arith; short = omega arith }

  pub shown_line : (p : Option ℕ) (line written : List ℕ) (end : ℕ) → at + line_room ≤ length out → length line ≤ line_room
      → placed p written ≡ put_of out at line → end ≡ end_of p → Shown 1 out at line written end
  shown_line p line written end room short e f =
      let put = put_end p out written line at (omega arith) e in
      record { shows = put.1; ends = f ∙ put.0; short = omega arith }

  -- a text after another
  pub shown_more : (a b : ℕ) (t u middle written : List ℕ) (m end : ℕ) → at + line_room * a ≤ length out → Shown a out at t middle m
      → Shown b middle m u written end → Shown (a + b) out at (t ++ u) written end
  shown_more a b t u middle written m end room x y =
      let long = length-append t u in
      record {
        shows = y.shows ∙ rw (x.shows, x.ends) (splice_more out t u at (omega (arith, x.short)));
        ends = omega (arith, x.ends, y.ends);
        short = omega (arith, x.short, y.short);
      }

  pub shown_sized : (a : ℕ) (t written : List ℕ) (end : ℕ) → at + line_room * a ≤ length out → Shown a out at t written end → length written ≡ length out
  shown_sized a t written end room x = ap length x.shows ∙ splice_length out t at (omega (arith, x.short))

-- the lines of a list, one after the other
pub lines_start : (first : ℕ) (words out : List ℕ) (at : ℕ) → Shown 0 out at (word_lines first words 0) out at
unfolding word_lines
lines_start first words out at = shown_none out at

pub lines_next : (first c i : ℕ) (words out₀ : List ℕ) (at₀ : ℕ) (out : List ℕ) (at : ℕ) (a : Response) (p : Option ℕ) (out' : List ℕ)
    (at' : ℕ) → Room first c words at₀ out₀ → i < c
    → Shown i out₀ at₀ (word_lines first words i) out at → a ≡ answer_of (get_or words i 0) → placed p out' ≡ put_of out at (answer_line (first + i) a)
    → length (answer_line (first + i) a) ≤ length (decimal (first + i)) + 23 → at' ≡ end_of p
    → Shown (i + 1) out₀ at₀ (word_lines first words (i + 1)) out' at'
unfolding word_lines
lines_next first c i words out₀ at₀ out at a p out' at' r low x e f short g =
    let few : length (decimal (first + i)) ≤ 4 = decimal_short 3 (first + i) (omega (arith, r.number)) in
    let sized = shown_sized out₀ at₀ i (word_lines first words i) out at (omega (arith, r.room)) x in
    let line = shown_line out at p (answer_line (first + i) a) out' at' (omega (arith, r.room, x.ends, x.short)) (omega arith) f g in
    let next : word_lines first words i ++ answer_line (first + i) a ≡ word_lines first words (i + 1) = rw (add-one i, e) refl in
    rw (← next) (shown_more out₀ at₀ i 1 (word_lines first words i) (answer_line (first + i) a) out out' at at' (omega (arith, r.room)) x line)

pub lines_sized : (first c i : ℕ) (words out₀ : List ℕ) (at₀ : ℕ) (out : List ℕ) (at : ℕ) → Room first c words at₀ out₀ → i ≤ c
    → Shown i out₀ at₀ (word_lines first words i) out at → length out ≡ length out₀
lines_sized first c i words out₀ at₀ out at r low x = shown_sized out₀ at₀ i (word_lines first words i) out at (omega (arith, r.room)) x

pub lines_end : (first c i : ℕ) (words out₀ : List ℕ) (at₀ : ℕ) (out : List ℕ) (at : ℕ) → c ≤ i → i ≤ c → Shown i out₀ at₀ (word_lines first words i) out at
    → Shown c out₀ at₀ (word_lines first words c) out at
lines_end first c i words out₀ at₀ out at high low x = let e : i ≡ c = omega arith in rw (← e) x

-- the lines of the records, and then those of a list
pub lines_listed : (bytes : List ℕ) (w : World State) (first c : ℕ) (left : World State) (words : List ℕ) → Listed bytes w first c left words
    → lines_to bytes w first ++ word_lines first words c ≡ lines_to bytes w (first + c)
unfolding lines_to word_lines
lines_listed bytes w first c left words l = by c (omega arith)
  where
    by : (i : ℕ) → i ≤ c → lines_to bytes w first ++ word_lines first words i ≡ lines_to bytes w (first + i)
    by zero low = let e : first + 0 ≡ first = omega arith in rw e (append-nil (lines_to bytes w first))
    by (suc i) low =
        let e : first + suc i ≡ suc (first + i) = omega arith in
        let line : List ℕ = line_at bytes w (first + i) in
        rw (e, l.says i (omega (arith, low)))
        (sym (append_assoc (lines_to bytes w first) (word_lines first words i) line) ∙ ap (λ (xs : List ℕ). xs ++ line) (by i (omega (arith, low))))
