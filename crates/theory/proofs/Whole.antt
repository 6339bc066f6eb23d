-- The whole invariant of a run, its ghosts among it; every call keeps it, and only adds to the order: the one induction over calls.
-- Assumes nothing.
use Rattle.std.specs.Prelude.{◌≡◌, List, [], ◌∷◌, ◌++◌, ℕ, suc, ◌≤◌, ◌<◌}
use Rattle.std.proofs.Math.Path.{refl}
use Rattle.std.proofs.Common.{sym, arith}
use Rattle.std.proofs.Math.Decide.{dec_lt}
use Rattle.theory.specs.Base.{pick}
use Rattle.theory.specs.Array.{Op}
use Rattle.theory.specs.Order.{Entry, Grown}
use Rattle.theory.specs.OrderLaws.{grown_same, grown_on}
use Rattle.theory.specs.Machine.{Grid, most_marks, Lawful, Link, mk, Stage, Lane, idle, busy, take_turn, stepped, opened}
use Rattle.theory.specs.Words.{words_after}
use Rattle.theory.specs.Run.{Call, begin, step, Run, pass_run, begin_run, step_run, call_begin, call_step, after_call, after_calls, opened_run}
use Rattle.theory.specs.Standing.{used_next}
use Rattle.theory.specs.World.{World}
use Rattle.theory.specs.Inv.{Inv}
use Rattle.theory.specs.Steps.{Kept, KeptAt}
use Rattle.theory.proofs.ByStage.{by_stage}
use Rattle.theory.specs.Rest.{rest_inv}
use Rattle.theory.specs.Begin.{start_inv, opened_inv}
use Rattle.theory.specs.Sum.{sum_zero}
use Rattle.theory.specs.Account.{Account}
use Rattle.theory.specs.AccountSteps.{acc_stage}
use Rattle.theory.specs.Count.{handed}
use Rattle.theory.specs.Tallies
use Rattle.theory.specs.Tallies.{Ones}
use Rattle.theory.specs.Layout.{Layout}
use Rattle.theory.specs.LayoutStages.{lay_stage, lay_begin}
use Rattle.theory.specs.Top.{Sums, sums_step}
use Rattle.theory.specs.Ranges.{few_step}
use Rattle.theory.specs.Timely.{Timely, timely_start, timely_step}

-- Four ghosts: the link of each cell before it was ever swapped; the order so far, the newest first; how many places of
-- each lane have ever been used; and of each word of the pool the lane and the segment that own it.
pub record Whole (G : Grid) (R : Run) : Type 0 where
  pub old_link : ℕ → Link
  pub log : List Entry
  pub used : ℕ → ℕ
  pub owner : ℕ → Link
  pub inv : Inv G old_link (record { w = R.watch; log = log; used = used })
  pub layout : Layout G (record { w = R.watch; log = log; used = used }) R.words owner
  pub account : Account G old_link R.tally R.watch
  pub ones : Ones R.tally
  pub few : (q : ℕ) → used q ≤ most_marks G
  pub top : Sums G R.watch R.words
  pub timely : Timely G R.watch R.taken

-- the invariant of a later run, with an order grown from this one's
pub record Later {G : Grid} {R : Run} (H : Whole G R) (R' : Run) : Type 0 where
  pub whole : Whole G R'
  pub grown : Grown H.log whole.log

abbrev pub world_of : {G : Grid} {R : Run} → Whole G R → World
world_of {R = R} H = record { w = R.watch; log = H.log; used = H.used }

module _ {G : Grid} (A : Lawful G) {R : Run} (H : Whole G R) where
  -- time passes, and what is written down for processes with no operation under way may change
  pub whole_rest : (now : ℕ) (since taken : ℕ → ℕ) → R.watch.now ≤ now
      → ((r : ℕ) (o : Op) (i : ℕ) (g : Stage) → R.watch.lane r ≡ busy o i g → (since r ≡ R.watch.since r) × (taken r ≡ R.taken r))
      → Later H (record {
        watch = record { mem = R.watch.mem; lane = R.watch.lane; now = now; since = since; ended = R.watch.ended };
        words = R.words;
        tally = R.tally;
        taken = taken;
      })
  unfolding Sums Timely
  whole_rest now since taken le same = record {
    whole = record {
      old_link = H.old_link;
      log = H.log;
      used = H.used;
      owner = H.owner;
      inv = rest_inv H.inv now since le (λ r o i g k. (same r o i g k).0);
      layout = record { marks = H.layout.marks; cover = H.layout.cover; owned = H.layout.owned; stages = H.layout.stages };
      account = record { begun = H.account.begun; fronts = H.account.fronts; draws = H.account.draws; wrote = H.account.wrote };
      ones = H.ones;
      few = H.few;
      top = H.top;
      timely = λ q o i g k. rw (same q o i g k).1 (H.timely q o i g k);
    };
    grown = grown_same H.log;
  }

  pub whole_pass : Later H (pass_run R)
  whole_pass = whole_rest (suc R.watch.now) R.watch.since R.taken (omega arith) (λ r o i g k. (refl, refl))

  pub whole_begin : (q : ℕ) (o : Op) (i : ℕ) → R.watch.lane q ≡ idle → q < G.p → i < G.m → Later H (begin_run R q o i)
  unfolding Sums
  whole_begin q o i free hq hi = record {
    whole = record {
      old_link = H.old_link;
      log = H.log;
      used = H.used;
      owner = H.owner;
      inv = start_inv H.inv q o i free hq hi;
      layout = lay_begin H.layout q o i free;
      account = Tallies.acc_start H.account q o i free;
      ones = Tallies.tallied_ones R.tally q o i H.ones;
      few = H.few;
      top = H.top;
      timely = timely_start G R.watch R.taken H.timely q o i;
    };
    grown = grown_same H.log;
  }

  pub whole_step : (q : ℕ) {o : Op} {i : ℕ} {g : Stage} → R.watch.lane q ≡ busy o i g → Later H (step_run G R q o i g)
  unfolding Kept
  whole_step q {o} {i} {g} e = record {
    whole = record {
      old_link = H.old_link;
      log = k.0 ++ H.log;
      used = used_next H.used q g;
      owner = y.0;
      inv = k.1;
      layout = y.1;
      account = acc_stage H.inv H.account q o i g e;
      ones = H.ones;
      few = few_step H.account H.ones H.used H.few q o i g e;
      top = sums_step H.inv H.layout H.top q o i g e;
      timely = timely_step H.inv H.layout R.taken H.timely q o i g e;
    };
    grown = record { newer = k.0; split = refl };
  }
    where
      k : KeptAt G H.old_link (world_of H) q o i g
      k = by_stage A H.inv q o i g e

      next : World
      next = record { w = stepped R.watch q o i (take_turn G R.watch.mem q o i g); log = k.0 ++ H.log; used = used_next H.used q g }

      y : (own' : ℕ → Link) × Layout G next (words_after G R.words q i g) own'
      y = lay_stage H.inv H.layout q o i g e (k.0 ++ H.log)

  pub whole_call : (c : Call) → Later H (after_call G R c)
  whole_call (begin q o i) = by (R.watch.lane q) refl
    where
      by : (l : Lane) → R.watch.lane q ≡ l → Later H (call_begin G R q o i l)
      by (busy o₁ i₁ g₁) e = whole_pass
      by idle e = fit (dec_lt q G.p) (dec_lt i G.m)
        where
          fit : (a : Dec (q < G.p)) (b : Dec (i < G.m)) → Later H (pick a (pick b (begin_run R q o i) (pass_run R)) (pass_run R))
          fit (yes x) (yes y) = whole_begin q o i e x y
          fit (yes x) (no y) = whole_pass
          fit (no x) b = whole_pass
  whole_call (step q) = by (R.watch.lane q) refl
    where
      by : (l : Lane) → R.watch.lane q ≡ l → Later H (call_step G R q l)
      by idle e = whole_pass
      by (busy o i g) e = whole_step q e

pub whole_run : {G : Grid} (A : Lawful G) {R : Run} (H : Whole G R) (cs : List Call) → Later H (after_calls G R cs)
unfolding after_calls
whole_run A H [] = record { whole = H; grown = grown_same H.log }
whole_run {G = G} A {R = R} H (c ∷ cs) = let L = whole_call A H c in
    let M = whole_run A {R = after_call G R c} L.whole cs in
    record { whole = M.whole; grown = grown_on L.grown M.grown }

pub whole_opened : (G : Grid) (readings : ℕ → ℕ) (links : ℕ → Link) (marks directory : ℕ → ℕ → ℕ) (pool held : ℕ → ℕ)
    → Whole G (opened_run readings links marks directory pool held)
unfolding opened Sums Timely
whole_opened G readings links marks directory pool held = record {
  old_link = links;
  log = [];
  used = λ q. 0;
  owner = λ x. mk 0 0;
  inv = opened_inv G readings links marks;
  layout = record {
    marks = λ r n hr h. absurd (let y : ⊥ = omega arith in y);
    cover = λ r n h. absurd (let y : ⊥ = omega arith in y);
    owned = λ r s hr h. absurd (let y : ⊥ = omega arith in y);
    stages = λ r o i g k. absurd (let y : ◌≡◌ {A = ℕ} 0 1 = cc in omega arith);
  };
  account = Tallies.opened_acc G links readings marks;
  ones = ((λ i. omega arith), (λ q. omega arith));
  few = λ q. omega arith;
  top = sym (sum_zero (λ r. handed 0) G.p (λ k h. refl));
  timely = λ q o i g k. absurd (let y : ◌≡◌ {A = ℕ} 0 1 = cc in omega arith);
}
