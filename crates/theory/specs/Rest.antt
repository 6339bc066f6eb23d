-- Calls that take no step: a refused call keeps the invariant, and so does forgetting when an ended operation began.
-- Assumes nothing.
use Rattle.std.specs.Prelude.{◌≡◌, refl, ℕ, suc, ◌≤◌}
use Rattle.std.proofs.Common.{sym, ◌∙◌, inl, inr, ⊎_elim, arith}
use mathlib.Core.List.{Memᴰ}
use Rattle.theory.specs.Array.{Op}
use Rattle.theory.specs.Order.{Done, Entry, Is}
use Rattle.theory.specs.Machine.{Grid, Link, Stage, busy}
use Rattle.theory.specs.World.{World}
use Rattle.theory.specs.OneOrder.{Under}
use Rattle.theory.specs.Inv.{CellOk, old, new, Inv}
use Rattle.theory.specs.ClaimsKept.{Frame}
use Rattle.theory.specs.Frame.{lane_frame}

-- later, with the beginnings of the operations under way as they were
module _ {G : Grid} {old_link : ℕ → Link} {W : World} (I : Inv G old_link W) (now : ℕ) (since : ℕ → ℕ) (late : W.w.now ≤ now)
    (same : (r : ℕ) (o : Op) (i : ℕ) (g : Stage) → W.w.lane r ≡ busy o i g → since r ≡ W.w.since r) where
  abbrev pub later : World
  later = record { w = record { mem = W.w.mem; lane = W.w.lane; now = now; since = since; ended = W.w.ended }; log = W.log; used = W.used }

  waits : (q : ℕ) → Frame G old_link q W later
  waits q = record {
    lane = λ r ne. refl;
    in_force = λ r ne. refl;
    marks = λ r k ne. refl;
    used = λ r ne. refl;
    up = λ r. omega arith;
    since = λ r o i g ne k. same r o i g k;
    now = late;
    link = λ j h. refl;
    more = λ z m. m;
    fresh = λ r o i g ne k ns u z m. rw (same r o i g k) (u z m);
    wrote = λ r o i g ne k a h. record {
      v = h.v;
      is = h.is;
      new = λ t. ((h.new t).0, rw (same r o i g k) (h.new t).1);
      old = λ t z m. rw (same r o i g k) (h.old t z m);
    };
  }

  pub rest_inv : Inv G old_link later
  rest_inv = record {
    lanes = λ r. lane_frame (waits (suc r)) r (λ h. let y : ⊥ = omega arith in y) (I.lanes r);
    cells = λ j hj. cell (I.cells j hj);
    counts = I.counts;
    places = I.places;
    apart = λ q r o o' i i' g g' h k z. I.apart q r o o' i i' g g' h k (sym (same q o i g h) ∙ z ∙ same r o' i' g' k);
    logs = record {
      orderly = I.logs.orderly;
      early = λ z m. omega (arith, I.logs.early z m);
      complete = I.logs.complete;
      sound = λ z m.
          ⊎_elim (λ (h : (d : Done) × Memᴰ d W.w.ended × Is z d). inl h) (λ (h : Under W.w z). inr (under z h)) (I.logs.sound z m);
      over = λ d m q o i g k. rw (same q o i g k) (I.logs.over d m q o i g k);
    };
  }
    where
      cell : {j : ℕ} → CellOk G old_link W j → CellOk G old_link later j
      cell (old t k s) = old t k s
      cell (new t y v p₀ p₁ p₂) = new t y v p₀ p₁ p₂

      under : (z : Entry) → Under W.w z → Under later.w z
      under z u = record { stage = u.stage; lane = u.lane; since = same z.who z.op z.cell u.stage u.lane ∙ u.since }
