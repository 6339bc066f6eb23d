-- What functions inside the crate ask and promise; no statement cites it.
-- Assumes nothing.
use Rattle.std.specs.Prelude.{ℕ, ◌+◌, ◌*◌, ◌/◌, ◌<◌, ◌≤◌, ◌≡◌, List, [], ◌∷◌, Option, Result, Ok, Err, eqb, length}
use Rattle.refusals.specs.Orders.{◌gives◌, orders}
use Rattle.refusals.specs.declared.Refusal.{Refusal}
use Rattle.quiet.specs.declared.Quarter.{Quarter}
use Rattle.summary.specs.declared.Hour.{Hour}
use Rattle.summary.specs.declared.Tally.{Tally}
use Rattle.summary.specs.Summary.{greatest, sum_of, hour_of, any_outside, counted, written_among}

-- What is kept of some readings.
abbrev pub tally_of : List ℕ → Tally
tally_of vs = record { count = length vs; sum = sum_of vs; peak = greatest vs }

-- Of few readings, of 32 bits each.
pub record Few (most : ℕ) (t : Tally) : Type 0 where
  pub few : t.count ≤ most
  pub low : t.sum ≤ t.count * 4294967295

-- One quarter more.
pub record Counts (t : Tally) (q : Option Quarter) (r : Tally) : Type 0 where
  pub is : (vs : List ℕ) → t ≡ tally_of vs → r ≡ tally_of (counted q vs)
  pub few : r.count ≤ t.count + 1
  pub low : r.sum ≤ r.count * 4294967295

-- A mean of readings of 32 bits has 32 bits.
pub record Mean (sum count : ℕ) : Type 0 where
  pub some : 0 < count
  pub low : sum ≤ count * 4294967295

abbrev pub hour_from : Tally → Hour
hour_from t = record { peak = t.peak; mean = t.sum / t.count; count = t.count }

-- What is left of the order once no word lies outside, and once the hour is one of the grid's.
abbrev pub summed : List ℕ → Result Hour Refusal
summed vs = orders Err (eqb (length vs) 0 gives Refusal.NothingWritten ∷ []) (Ok (hour_of vs))

abbrev pub summary_as : List (Option Quarter) → Result Hour Refusal
summary_as qs = orders Err (any_outside qs gives Refusal.OutOfRange ∷ []) (summed (written_among qs))

abbrev pub four : Option Quarter → Option Quarter → Option Quarter → Option Quarter → List (Option Quarter)
four a b c d = a ∷ (b ∷ (c ∷ (d ∷ [])))
