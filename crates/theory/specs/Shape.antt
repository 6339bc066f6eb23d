-- The segments' shape: segment s has 2 ^ (s + 1) places, the segments follow each other, and a lane has `segments` of them.
-- Assumes nothing.
use Rattle.std.specs.Prelude.{◌≡◌, ℕ, suc, ◌+◌, ◌^◌, ◌≤◌, ◌<◌}

pub record Shape : Type 0 where
  pub seg : ℕ → ℕ
  pub off : ℕ → ℕ
  pub segments : ℕ
  pub low : (n : ℕ) → 2 ^ suc (seg n) ≤ n + 2
  pub high : (n : ℕ) → n + 2 < 2 ^ suc (suc (seg n))
  pub at : (n : ℕ) → off n + 2 ^ suc (seg n) ≡ n + 2
