-- What functions inside the crate ask; no statement cites it.
-- Assumes nothing.
use Rattle.std.specs.Prelude.{ℕ, ◌≡◌, List, length}

-- Each slice has n elements.
pub record Room (n : ℕ) (kinds processes cells values : List ℕ) : Type 0 where
  pub for_kinds : length kinds ≡ n
  pub for_processes : length processes ≡ n
  pub for_cells : length cells ≡ n
  pub for_values : length values ≡ n
