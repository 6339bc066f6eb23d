-- A grid as opened is good.
-- Assumes nothing.
use Rattle.std.specs.Prelude.{ℕ, ◌<◌, ◌≡◌, refl, [], get_or, replicate}
use Rattle.std.proofs.Common.{sym, ap, subst, arith}
use Rattle.std.proofs.Math.Decide.{dec_lt}
use Rattle.std.proofs.lemmas.List.{length-replicate, get_or-replicate}
use Rattle.std.proofs.Math.ListN.{get_or-eq_default}
use Rattle.numbers.specs.Numbers.{most_processes}
use Rattle.lanes.specs.Ranges.{rest}
use Rattle.acts.specs.Calls as Grid
use Rattle.acts.specs.Lent.{Admitted}
use Rattle.theory.proofs.Interface as Theory
use Rattle.demands.specs.Types.{Terms, Memory}
use Rattle.demands.specs.Book.{blank}
use Rattle.bridge.specs.Shadow.{grid_of, pair_of, starts_in}
use Rattle.bridge.proofs.Good.{Good}

fresh_lane : (q : ℕ) → get_or (replicate most_processes rest) q rest ≡ rest
fresh_lane q = by (dec_lt q most_processes)
  where
    by : Dec (q < most_processes) → get_or (replicate most_processes rest) q rest ≡ rest
    by (yes h) = get_or-replicate most_processes q rest rest h
    by (no h) = get_or-eq_default (replicate most_processes rest) rest {n = q} (omega (arith, length-replicate most_processes rest))

pub good_fresh : (z : Terms) (mem : Memory) → Admitted z mem → Good (Grid.fresh z) mem blank
unfolding Theory.opened
good_fresh z mem A = record {
  bounds = A.bounds;
  lanes = length-replicate most_processes rest;
  lengths = A.lengths;
  agrees = λ q. rw (fresh_lane q) (refl, refl);
  beyond = λ q h. fresh_lane q;
  marks = λ q n. 0;
  held = λ q. 0;
  holds = λ q. rw (fresh_lane q) tt;
  whole = subst (λ (R : Theory.Run). Theory.Whole (grid_of z) R)
      (λ x. record {
        watch = record {
          mem = record {
            reading = λ i. get_or mem.readings i 0;
            link = λ i. pair_of (get_or mem.links i 0);
            in_force = λ q. ap (λ (l : _). l.marks) (sym (fresh_lane q)) x;
            drawn = λ q. ap (λ (l : _). l.drawn) (sym (fresh_lane q)) x;
            marks = λ q n. 0;
          };
          lane = λ q. Theory.idle;
          now = 0;
          since = λ q. 0;
          ended = [];
        };
        words = record { directory = starts_in mem.directory; pool = λ k. get_or mem.pool k 0; top = 0; held = λ q. 0 };
        tally = record { cells = λ i. 0; procs = λ q. 0 };
        taken = λ q. 0;
      })
      (Theory.whole_opened (grid_of z) (λ i. get_or mem.readings i 0) (λ i. pair_of (get_or mem.links i 0)) (λ q n. 0) (starts_in mem.directory)
      (λ k. get_or mem.pool k 0) (λ q. 0));
}
