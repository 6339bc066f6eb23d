-- The lists played one after the other: the loop, from the first line to the whole output.
-- Assumes nothing.
use Rattle.std.specs.Prelude.{Some, Option}
use Prim.Native.Nat.{ℕ, ◌+◌, ◌-◌, ◌*◌, ◌<◌, ◌≤◌}
use mathlib.Core.Path.{◌≡◌, refl, ap, ◌∙◌}
use mathlib.Core.List.{List, ◌++◌}
use native.Mathlib.Omega.{arith}
use lib.ListN.{length}
use Rattle.numbers.specs.declared.Terms.{Terms}
use Rattle.qhs.specs.declared.Header.{Header}
use Rattle.qhs.specs.Qhs.{most_records, terms_of}
use Rattle.steps.specs.Memory.{Memory}
use Rattle.lanes.specs.declared.State.{State}
use Rattle.acts.specs.declared.Opened.{Opened}
use Rattle.acts.specs.Calls.{open_of}
use Rattle.acts.specs.Worlds.{grid, World, world, opened_world}
use Rattle.text.specs.Text.{sizes_line}
use Rattle.byte_lists.specs.Bytes.{placed, put_of, end_of}
use Rattle.text.specs.Lengths.{sizes_short}
use Rattle.play.specs.Play.{after, lines_to, schedule_text, line_room, put}
use Rattle.play.specs.Inner.{list_records, count_of, word_lines, Listed, Shown, Room, Ready}
use Rattle.play.proofs.ListLaws.{counted}
use Rattle.play.proofs.LineLaws.{shown_none, shown_line, shown_more, shown_sized, lines_listed}

-- where the loop stands after k records
pub record Going (bytes : List ℕ) (n : ℕ) (w₀ : World State) (out₀ : List ℕ) (at₀ : ℕ) (w : World State) (out : List ℕ) (at k : ℕ) : Type 0 where
  pub below : k ≤ n
  pub few : n ≤ most_records
  pub room : at₀ + line_room * n ≤ length out₀
  pub is : w ≡ after bytes w₀ k
  pub shown : Shown k out₀ at₀ (lines_to bytes w₀ k) out at

-- what the first line leaves
begun : (h : Header) (n : ℕ) (out out₀ : List ℕ) (at₀ : ℕ) (p : Option ℕ) → Ready h n out → placed p out₀ ≡ put_of out 0 (sizes_line h.p h.m)
    → at₀ ≡ end_of p → Shown 1 out 0 (sizes_line h.p h.m) out₀ at₀
begun h n out out₀ at₀ p r e f =
    let line = sizes_short h.p h.m (omega (arith, r.p_high)) (omega (arith, r.m_high)) in
    shown_line out 0 p (sizes_line h.p h.m) out₀ at₀ (omega (arith, r.room)) (omega arith) e f

pub going_start : (bytes : List ℕ) (h : Header) (n : ℕ) (w₀ : World State) (out out₀ : List ℕ) (at₀ : ℕ) (p : Option ℕ) → Ready h n out
    → placed p out₀ ≡ put_of out 0 (sizes_line h.p h.m) → at₀ ≡ end_of p → Going bytes n w₀ out₀ at₀ w₀ out₀ at₀ 0
unfolding after lines_to
going_start bytes h n w₀ out out₀ at₀ p r e f =
    let b = begun h n out out₀ at₀ p r e f in
    let sized = shown_sized out 0 1 (sizes_line h.p h.m) out₀ at₀ (omega (arith, r.room)) b in
    record {
      below = omega arith;
      few = r.n_high;
      room = omega (arith, b.ends, b.short, r.room, r.n_high);
      is = refl;
      shown = shown_none out₀ at₀;
    }

module _ (bytes : List ℕ) (n : ℕ) (w₀ : World State) (out₀ : List ℕ) (at₀ : ℕ) (w : World State) (out : List ℕ) (at k : ℕ)
    (g : Going bytes n w₀ out₀ at₀ w out at k) where
  pub going_sized : length out ≡ length out₀
  going_sized = shown_sized out₀ at₀ k (lines_to bytes w₀ k) out at (omega (arith, g.room, g.below)) g.shown

  module _ (c : ℕ) (words : List ℕ) (low : k < n) (e : c ≡ count_of (n - k)) where
    -- there is room for the lines of one more list
    pub going_room : list_records ≡ length words → Room k c words at out
    going_room long =
        let d = counted c (n - k) e in
        record {
          number = omega (arith, g.few, d.low);
          told = omega (arith, d.few, long);
          room = omega (arith, going_sized, g.shown.ends, g.shown.short, g.room, d.low);
        }

    pub going_next : (w' : World State) (out' : List ℕ) (at' : ℕ) → Listed bytes w₀ k c w' words → Shown c out at (word_lines k words c) out' at'
        → Going bytes n w₀ out₀ at₀ w' out' at' (k + c)
    going_next w' out' at' l x =
        let d = counted c (n - k) e in
        record {
          below = omega (arith, d.low);
          few = g.few;
          room = g.room;
          is = l.is;
          shown =
              rw (← lines_listed bytes w₀ k c w' words l)
              (shown_more out₀ at₀ k c (lines_to bytes w₀ k) (word_lines k words c) out out' at at' (omega (arith, g.room, low)) g.shown x);
        }

pub going_end : (bytes : List ℕ) (h : Header) (n : ℕ) (mem : Memory) (z : Terms) (q : Opened) (out out₀ : List ℕ) (at₀ : ℕ) (p : Option ℕ)
    (w : World State) (out' : List ℕ) (at k : ℕ)
    → Ready h n out → z ≡ terms_of h → q ≡ open_of z mem → placed p out₀ ≡ put_of out 0 (sizes_line h.p h.m) → at₀ ≡ end_of p
    → n ≤ k → Going bytes n (world q.state mem) out₀ at₀ w out' at k → placed (Some at) out' ≡ put out (schedule_text bytes h n mem)
unfolding schedule_text
going_end bytes h n mem z q out out₀ at₀ p w out' at k r t o e f high g =
    let b = begun h n out out₀ at₀ p r e f in
    let is : k ≡ n = omega (arith, g.below) in
    let opened : q ≡ open_of (terms_of h) mem = o ∙ ap (λ (y : Terms). open_of y mem) t in
    let w₀ : World State = opened_world grid (terms_of h) mem in
    let same : lines_to bytes (world q.state mem) k ≡ lines_to bytes w₀ n =
    ap (λ (x : Opened). lines_to bytes (world x.state mem) k) opened ∙ ap (λ (x : ℕ). lines_to bytes w₀ x) is in
    let lines : Shown k out₀ at₀ (lines_to bytes w₀ n) out' at = rw (← same) g.shown in
    let all = shown_more out 0 1 k (sizes_line h.p h.m) (lines_to bytes w₀ n) out₀ out' at₀ at (omega (arith, r.room)) b lines in
    let long : at ≡ length (sizes_line h.p h.m ++ lines_to bytes w₀ n) = omega (arith, all.ends) in
    rw (all.shows, long)
