-- The lists played one after the other, with no line made: the loop.
-- Assumes nothing.
use Prim.Native.Nat.{ℕ, ◌+◌, ◌-◌, ◌<◌, ◌≤◌}
use mathlib.Core.Path.{◌≡◌, refl, ap, ◌∙◌}
use mathlib.Core.List.{List}
use native.Mathlib.Omega.{arith}
use Rattle.numbers.specs.declared.Terms.{Terms}
use Rattle.qhs.specs.declared.Header.{Header}
use Rattle.qhs.specs.Qhs.{terms_of}
use Rattle.steps.specs.Memory.{Memory}
use Rattle.lanes.specs.declared.State.{State}
use Rattle.acts.specs.declared.Opened.{Opened}
use Rattle.acts.specs.Calls.{open_of}
use Rattle.acts.specs.Worlds.{grid, World, world, opened_world}
use Rattle.play.specs.Play.{after}
use Rattle.play.specs.Inner.{count_of, Listed}
use Rattle.play.proofs.ListLaws.{counted}

-- the grid after the first k of n records
pub record Ending (bytes : List ℕ) (n : ℕ) (w₀ w : World State) (k : ℕ) : Type 0 where
  pub low : k ≤ n
  pub fits : n < 18446744073709551616
  pub is : w ≡ after bytes w₀ k

pub ending_start : (bytes : List ℕ) (n : ℕ) (w : World State) → n < 18446744073709551616 → Ending bytes n w w 0
unfolding after
ending_start bytes n w h = record { low = omega arith; fits = h; is = refl }

module _ (bytes : List ℕ) (n k c : ℕ) (w₀ w : World State) (words : List ℕ) (p : Ending bytes n w₀ w k) (low : k < n) (e : c ≡ count_of (n - k)) where
  pub ending_next : (w' : World State) → Listed bytes w₀ k c w' words → Ending bytes n w₀ w' (k + c)
  ending_next w' l = let d = counted c (n - k) e in record { low = omega (arith, d.low); fits = p.fits; is = l.is }

pub ending_end : (bytes : List ℕ) (h : Header) (n k : ℕ) (mem : Memory) (z : Terms) (q : Opened) (w : World State) → z ≡ terms_of h → q ≡ open_of z mem → n ≤ k
    → Ending bytes n (world q.state mem) w k → w ≡ after bytes (opened_world grid (terms_of h) mem) n
ending_end bytes h n k mem z q w t o high p =
    let same : k ≡ n = omega (arith, p.low) in
    let opened : q ≡ open_of (terms_of h) mem = o ∙ ap (λ (y : Terms). open_of y mem) t in
    p.is
    ∙ ap (λ (x : Opened). after bytes (world x.state mem) k) opened
    ∙ ap (λ (j : ℕ). after bytes (opened_world grid (terms_of h) mem) j) same
