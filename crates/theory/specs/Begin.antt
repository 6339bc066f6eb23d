-- A beginning keeps the invariant, and an opened grid has it.
-- Assumes nothing.
use Rattle.std.specs.Prelude.{◌≡◌, refl, ◌⊎◌, ◌≢◌, ℕ, ◌<◌}
use Rattle.std.proofs.Common.{sym, ap, ◌∙◌, inl, inr, ⊎_elim, arith}
use mathlib.Core.List.{[], Memᴰ}
use Rattle.std.proofs.Math.Decide.{ℕ_discrete}
use Rattle.theory.specs.Base.{upd, upd_same, upd_other}
use Rattle.theory.specs.Array.{Op, read, asked, write, written}
use Rattle.theory.specs.Order.{Done, Entry, deeds, Is}
use Rattle.theory.specs.Machine.{Grid, Link, Stage, Lane, idle, busy, first_stage, started, opened}
use Rattle.theory.specs.Standing.{settled_at, settled}
use Rattle.theory.specs.OrderLaws.{began_before}
use Rattle.theory.specs.World.{World, Unplaced}
use Rattle.theory.specs.Claims.{Stored}
use Rattle.theory.specs.OneOrder.{Under}
use Rattle.theory.specs.Inv.{StageOk, BusyOk, LaneOk, CellOk, old, new, Inv}
use Rattle.theory.specs.ClaimsKept.{Frame}
use Rattle.theory.specs.Frame.{lane_frame}

module _ {G : Grid} {old_link : ℕ → Link} {W : World} (I : Inv G old_link W) (q : ℕ) (o : Op) (i : ℕ) (free : W.w.lane q ≡ idle) (hq : q < G.p)
    (hi : i < G.m) where
  abbrev pub opening : World
  opening = record { w = started W.w q o i; log = W.log; used = W.used }

  abbrev l : Lane
  l = busy o i (first_stage o)

  other : (r : ℕ) → r ≢ q → upd W.w.lane q l r ≡ W.w.lane r
  other r ne = upd_other W.w.lane q l r ne

  mine : upd W.w.lane q l q ≡ l
  mine = upd_same W.w.lane q l

  since_other : (r : ℕ) → r ≢ q → upd W.w.since q W.w.now r ≡ W.w.since r
  since_other r ne = upd_other W.w.since q W.w.now r ne

  since_mine : upd W.w.since q W.w.now q ≡ W.w.now
  since_mine = upd_same W.w.since q W.w.now

  -- a lane that was busy is another's
  not_me : (r : ℕ) (o₁ : Op) (i₁ : ℕ) (g₁ : Stage) → W.w.lane r ≡ busy o₁ i₁ g₁ → r ≢ q
  not_me r o₁ i₁ g₁ k h = let u : idle ≡ busy o₁ i₁ g₁ = sym free ∙ ap W.w.lane (sym h) ∙ k in let y : ◌≡◌ {A = ℕ} 0 1 = cc in omega arith

  past_of : (r : ℕ) (o₁ : Op) (i₁ : ℕ) (g₁ : Stage) → W.w.lane r ≡ busy o₁ i₁ g₁ → W.w.since r < W.w.now
  past_of r o₁ i₁ g₁ k = let b : BusyOk G old_link W r o₁ i₁ g₁ = rw k at (I.lanes r) in b.past

  framed : Frame G old_link q W opening
  framed = record {
    lane = other;
    in_force = λ r ne. refl;
    marks = λ r k ne. refl;
    used = λ r ne. refl;
    up = λ r. omega arith;
    since = λ r o₁ i₁ g₁ ne k. since_other r ne;
    now = omega arith;
    link = λ j h. refl;
    more = λ z m. m;
    fresh = λ r o₁ i₁ g₁ ne k ns u z m. rw (since_other r ne) (u z m);
    wrote = λ r o₁ i₁ g₁ ne k a h. record {
      v = h.v;
      is = h.is;
      new = λ t. ((h.new t).0, rw (since_other r ne) (h.new t).1);
      old = λ t z m. rw (since_other r ne) (h.old t z m);
    };
  }

  fresh_me : Unplaced G old_link opening q
  fresh_me z m = rw since_mine (λ h. let y : ⊥ = omega (arith, began_before G.f W.log I.logs.orderly z m, I.logs.early z m) in y)

  first : (o : Op) → Unplaced G old_link opening q → StageOk G old_link opening q o i (first_stage o)
  first read u = u
  first asked u = u
  first (write v) u = (u, (v, refl))

  not_stored : (o : Op) (j v : ℕ) → Stored (busy o i (first_stage o)) j v → ⊥
  not_stored read j v s = s.0
  not_stored asked j v s = s.0
  not_stored (write y) j v s = s.2

  first_settled : (o : Op) (c : ℕ) → settled_at (first_stage o) c ≡ c
  first_settled read c = refl
  first_settled asked c = refl
  first_settled (write v) c = refl

  settled_same : (r : ℕ) (c : ℕ) → settled (upd W.w.lane q l r) c ≡ settled (W.w.lane r) c
  settled_same r c = by (ℕ_discrete r q)
    where
      by : Dec (r ≡ q) → settled (upd W.w.lane q l r) c ≡ settled (W.w.lane r) c
      by (yes h) = rw h (rw (mine, free) (first_settled o c))
      by (no h) = rw (other r h)

  pub start_inv : Inv G old_link opening
  start_inv = record {
    lanes = lanes';
    cells = λ j hj. cell j (I.cells j hj);
    counts = λ r. rw (settled_same r) (I.counts r);
    places = I.places;
    apart = apart';
    logs = record { orderly = I.logs.orderly; early = λ z m. omega (arith, I.logs.early z m); complete = I.logs.complete; sound = sound'; over = over' };
  }
    where
      lanes' : (r : ℕ) → LaneOk G old_link opening r (upd W.w.lane q l r)
      lanes' r = by (ℕ_discrete r q)
        where
          by : Dec (r ≡ q) → LaneOk G old_link opening r (upd W.w.lane q l r)
          by (yes h) = rw h (rw mine (record { proc = hq; cell = hi; past = rw since_mine (omega arith); at = first o fresh_me }))
          by (no h) = lane_frame framed r h (I.lanes r)

      to : (r j v : ℕ) → Stored (W.w.lane r) j v → Stored (upd W.w.lane q l r) j v
      to r j v s = by (ℕ_discrete r q)
        where
          by : Dec (r ≡ q) → Stored (upd W.w.lane q l r) j v
          by (yes h) = absurd (rw free at (rw h at s))
          by (no h) = rw (other r h) s

      fro : (r j v : ℕ) → Stored (upd W.w.lane q l r) j v → Stored (W.w.lane r) j v
      fro r j v s = by (ℕ_discrete r q)
        where
          by : Dec (r ≡ q) → Stored (W.w.lane r) j v
          by (yes h) = absurd (not_stored o j v (rw mine at (rw h at s)))
          by (no h) = rw (other r h) at s

      cell : (j : ℕ) → CellOk G old_link W j → CellOk G old_link opening j
      cell j (old t k s) = old t k (λ r v h. let y = s r v (fro r j v h) in (y.0, to y.0 j _ y.1))
      cell j (new t y v p₀ p₁ p₂) = new t y v p₀ (rw settled_same p₁) p₂

      apart' : (a r : ℕ) (o₁ o₂ : Op) (i₁ i₂ : ℕ) (g₁ g₂ : Stage) → upd W.w.lane q l a ≡ busy o₁ i₁ g₁ → upd W.w.lane q l r ≡ busy o₂ i₂ g₂
          → upd W.w.since q W.w.now a ≡ upd W.w.since q W.w.now r → a ≡ r
      apart' a r o₁ o₂ i₁ i₂ g₁ g₂ h k = by (ℕ_discrete a q) (ℕ_discrete r q)
        where
          by : Dec (a ≡ q) → Dec (r ≡ q) → upd W.w.since q W.w.now a ≡ upd W.w.since q W.w.now r → a ≡ r
          by (yes x) (yes y) z = x ∙ sym y
          by (yes x) (no y) z =
              absurd
              (let u : W.w.now ≡ W.w.since r = sym since_mine ∙ ap (upd W.w.since q W.w.now) (sym x) ∙ z ∙ since_other r y in
              let v : ⊥ = omega (arith, past_of r o₂ i₂ g₂ (sym (other r y) ∙ k)) in
              v)
          by (no x) (yes y) z =
              absurd
              (let u : W.w.now ≡ W.w.since a = sym since_mine ∙ ap (upd W.w.since q W.w.now) (sym y) ∙ sym z ∙ since_other a x in
              let v : ⊥ = omega (arith, past_of a o₁ i₁ g₁ (sym (other a x) ∙ h)) in
              v)
          by (no x) (no y) z = I.apart a r o₁ o₂ i₁ i₂ g₁ g₂ (sym (other a x) ∙ h) (sym (other r y) ∙ k) (sym (since_other a x) ∙ z ∙ since_other r y)

      sound' : (z : Entry) → Memᴰ z W.log → ((d : Done) × Memᴰ d W.w.ended × Is z d) ⊎ Under opening.w z
      sound' z m = ⊎_elim (λ (h : (d : Done) × Memᴰ d W.w.ended × Is z d). inl h)
          (λ (u : Under W.w z). let ne = not_me z.who z.op z.cell u.stage u.lane in inr
          (record { stage = u.stage; lane = other z.who ne ∙ u.lane; since = since_other z.who ne ∙ u.since }))
          (I.logs.sound z m)

      over' : (d : Done) → Memᴰ d W.w.ended → (r : ℕ) (o₁ : Op) (i₁ : ℕ) (g₁ : Stage) → upd W.w.lane q l r ≡ busy o₁ i₁ g₁
          → d.began ≢ upd W.w.since q W.w.now r
      over' d m r o₁ i₁ g₁ k = by (ℕ_discrete r q)
        where
          c : (z : Entry) × Memᴰ z W.log × Is z d
          c = I.logs.complete d m

          by : Dec (r ≡ q) → d.began ≢ upd W.w.since q W.w.now r
          by (yes h) =
              rw h
              (rw since_mine
              (λ y. let v : ⊥ = omega (arith, began_before G.f W.log I.logs.orderly c.0 c.1, I.logs.early c.0 c.1, c.2.began) in v))
          by (no h) = rw (since_other r h) (I.logs.over d m r o₁ i₁ g₁ (sym (other r h) ∙ k))

pub opened_inv : (G : Grid) (readings : ℕ → ℕ) (links : ℕ → Link) (marks : ℕ → ℕ → ℕ)
    → Inv G links (record { w = opened readings links marks; log = []; used = λ q. 0 })
unfolding opened written deeds
opened_inv G readings links marks = record {
  lanes = λ q. tt;
  cells = λ j hj. old refl refl (λ r v s. absurd s);
  counts = λ q. (omega arith, omega arith);
  places = λ q n j hj hn. absurd (let y : ⊥ = omega arith in y);
  apart = λ q r o o' i i' g g' h. absurd (let y : ◌≡◌ {A = ℕ} 0 1 = cc in omega arith);
  logs = record { orderly = tt; early = λ z m. elim m [ ]; complete = λ d m. elim m [ ]; sound = λ z m. elim m [ ]; over = λ d m. elim m [ ] };
}
