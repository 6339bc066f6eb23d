-- The order so far, and how it grows by a step.
-- Assumes nothing.
use Rattle.std.specs.Prelude.{◌≡◌, refl, ◌⊎◌, ◌≢◌, ℕ, suc, ◌≤◌, ◌<◌}
use Rattle.std.proofs.Common.{sym, ap, ◌∙◌, inl, inr, ⊎_elim, arith}
use mathlib.Core.List.Memᴰ
use mathlib.Core.List.{List, ◌∷◌, Memᴰ}
use Rattle.std.proofs.Math.Decide.{ℕ_discrete}
use Rattle.theory.specs.Base.{upd, upd_same, upd_other}
use Rattle.theory.specs.Array.{Op, Ans, answer}
use Rattle.theory.specs.Order.{Done, Entry, deeds, Orderly, Is}
use Rattle.theory.specs.Machine.{Grid, Link, Stage, idle, busy, Mem, Next, go, end, Watch, next_lane, finish}
use Rattle.theory.specs.OrderLaws.{unique}
use Rattle.theory.specs.World.{World}
use Rattle.theory.specs.OneOrder.{Under}
use Rattle.theory.specs.Inv.{LogOk, Inv}

-- the entry of process q's operation, taking effect now
abbrev pub entry : Watch → ℕ → Op → ℕ → Ans → Entry
entry w q o i a = record { at = w.now; began = w.since q; who = q; op = o; cell = i; ans = a }

-- the world after a step of q
abbrev pub turned : World → ℕ → Op → ℕ → Mem → (ℕ → ℕ) → Next → List Entry → World
turned W q o i M used nx log = record {
  w = record { mem = M; lane = upd W.w.lane q (next_lane o i nx); now = suc W.w.now; since = W.w.since; ended = finish W.w q o i nx };
  log = log;
  used = used;
}

module _ (G : Grid) (old_link : ℕ → Link) (W : World) where
  -- an order that may take the log's place at this call
  pub record Pre (log : List Entry) : Type 0 where
    pub orderly : Orderly G.f log
    pub early : (e : Entry) → Memᴰ e log → e.at ≤ W.w.now
    pub complete : (d : Done) → Memᴰ d W.w.ended → (e : Entry) × Memᴰ e log × Is e d
    pub sound : (e : Entry) → Memᴰ e log → ((d : Done) × Memᴰ d W.w.ended × Is e d) ⊎ Under W.w e
    pub over : (d : Done) → Memᴰ d W.w.ended → (q : ℕ) (o : Op) (i : ℕ) (g : Stage) → W.w.lane q ≡ busy o i g → d.began ≢ W.w.since q
    pub apart : (q r : ℕ) (o o' : Op) (i i' : ℕ) (g g' : Stage) → W.w.lane q ≡ busy o i g → W.w.lane r ≡ busy o' i' g'
        → W.w.since q ≡ W.w.since r → q ≡ r

module _ {G : Grid} {old_link : ℕ → Link} {W : World} where
  pub pre_keep : Inv G old_link W → Pre G old_link W W.log
  pre_keep I = record {
    orderly = I.logs.orderly;
    early = λ e k. omega (arith, I.logs.early e k);
    complete = I.logs.complete;
    sound = I.logs.sound;
    over = I.logs.over;
    apart = I.apart;
  }

  pub pre_place : {log : List Entry} → Pre G old_link W log → (q : ℕ) {o : Op} {i : ℕ} {g : Stage} (a : Ans) → W.w.lane q ≡ busy o i g
      → W.w.since q < W.w.now
      → ((e : Entry) → Memᴰ e log → e.began ≢ W.w.since q) → a ≡ answer G.f (deeds log) o i → Pre G old_link W (entry W.w q o i a ∷ log)
  pre_place {log} P q {o} {i} {g} a e b un k = record {
    orderly = (record { right = k; after = b; sorted = P.early; once = un }, P.orderly);
    early = early';
    complete = λ d m. let t = P.complete d m in (t.0, Memᴰ.tail t.1, t.2);
    sound = sound';
    over = P.over;
    apart = P.apart;
  }
    where
      x : Entry
      x = entry W.w q o i a

      early' : (z : Entry) → Memᴰ z (x ∷ log) → z.at ≤ W.w.now
      early' z m = ⊎_elim (λ (h : z ≡ x). rw h (omega arith)) (λ (h : Memᴰ z log). P.early z h) (Memᴰ.cases_cons m)

      under : Under W.w x
      under = record { stage = g; lane = e; since = refl }

      sound' : (z : Entry) → Memᴰ z (x ∷ log) → ((d : Done) × Memᴰ d W.w.ended × Is z d) ⊎ Under W.w z
      sound' z m = ⊎_elim (λ (h : z ≡ x). inr (rw h under)) (λ (h : Memᴰ z log). P.sound z h) (Memᴰ.cases_cons m)

  module _ (q : ℕ) {o : Op} {i : ℕ} {g : Stage} (e : W.w.lane q ≡ busy o i g) (M : Mem) (used : ℕ → ℕ) where
    module _ {log : List Entry} (P : Pre G old_link W log) where
      pub log_go : (g' : Stage) → LogOk G old_link (turned W q o i M used (go g') log)
      log_go g' = record { orderly = P.orderly; early = λ z m. omega (arith, P.early z m); complete = P.complete; sound = sound'; over = over' }
        where
          over' : (d : Done) → Memᴰ d W.w.ended → (r : ℕ) (o₁ : Op) (i₁ : ℕ) (g₁ : Stage)
              → upd W.w.lane q (busy o i g') r ≡ busy o₁ i₁ g₁ → d.began ≢ W.w.since r
          over' d m r o₁ i₁ g₁ k = by (ℕ_discrete r q)
            where
              by : Dec (r ≡ q) → d.began ≢ W.w.since r
              by (yes h) = rw h (P.over d m q o i g e)
              by (no h) = P.over d m r o₁ i₁ g₁ (sym (upd_other W.w.lane q (busy o i g') r h) ∙ k)

          still : (z : Entry) → Under W.w z → Under (turned W q o i M used (go g') log).w z
          still z u = by (ℕ_discrete z.who q)
            where
              by : Dec (z.who ≡ q) → Under (turned W q o i M used (go g') log).w z
              by (yes k) = record {
                stage = g';
                lane = rw k (rw upd_same (let h : busy z.op z.cell u.stage ≡ busy o i g = sym u.lane ∙ ap W.w.lane k ∙ e in cc));
                since = u.since;
              }
              by (no k) = record { stage = u.stage; lane = upd_other W.w.lane q (busy o i g') z.who k ∙ u.lane; since = u.since }

          sound' : (z : Entry) → Memᴰ z log → ((d : Done) × Memᴰ d W.w.ended × Is z d) ⊎ Under (turned W q o i M used (go g') log).w z
          sound' z m = ⊎_elim (λ (h : (d : Done) × Memᴰ d W.w.ended × Is z d). inl h) (λ (h : Under W.w z). inr (still z h)) (P.sound z m)

      pub log_end : (a : Ans) (t : ℕ) → Memᴰ (record { at = t; began = W.w.since q; who = q; op = o; cell = i; ans = a }) log
          → LogOk G old_link (turned W q o i M used (end a) log)
      log_end a t here = record { orderly = P.orderly; early = λ z m. omega (arith, P.early z m); complete = complete'; sound = sound'; over = over' }
        where
          x : Entry
          x = record { at = t; began = W.w.since q; who = q; op = o; cell = i; ans = a }

          now_done : Done
          now_done = record { began = W.w.since q; ended = W.w.now; who = q; op = o; cell = i; ans = a }

          over' : (d : Done) → Memᴰ d (now_done ∷ W.w.ended) → (r : ℕ) (o₁ : Op) (i₁ : ℕ) (g₁ : Stage)
              → upd W.w.lane q idle r ≡ busy o₁ i₁ g₁ → d.began ≢ W.w.since r
          over' d m r o₁ i₁ g₁ k = by (ℕ_discrete r q)
            where
              by : Dec (r ≡ q) → d.began ≢ W.w.since r
              by (yes h) =
                  absurd
                  (let u : idle ≡ busy o₁ i₁ g₁ = sym (upd_same W.w.lane q idle) ∙ ap (upd W.w.lane q idle) (sym h) ∙ k in
                  let y : ◌≡◌ {A = ℕ} 0 1 = cc in
                  omega arith)
              by (no h) = let k' : W.w.lane r ≡ busy o₁ i₁ g₁ = sym (upd_other W.w.lane q idle r h) ∙ k in
                  ⊎_elim (λ (y : d ≡ now_done). λ z. h (P.apart r q o₁ o i₁ i g₁ g k' e (sym z ∙ ap (λ (u : Done). u.began) y)))
                  (λ (y : Memᴰ d W.w.ended). P.over d y r o₁ i₁ g₁ k') (Memᴰ.cases_cons m)

          x_is : Is x now_done
          x_is = record { began = refl; who = refl; op = refl; cell = refl; ans = refl; intime = P.early x here }

          complete' : (d : Done) → Memᴰ d (now_done ∷ W.w.ended) → (z : Entry) × Memᴰ z log × Is z d
          complete' d m = ⊎_elim (λ (h : d ≡ now_done). (x, here, rw h x_is)) (λ (h : Memᴰ d W.w.ended). P.complete d h) (Memᴰ.cases_cons m)

          still : (z : Entry) → Memᴰ z log → Under W.w z
              → ((d : Done) × Memᴰ d (now_done ∷ W.w.ended) × Is z d) ⊎ Under (turned W q o i M used (end a) log).w z
          still z m u = by (ℕ_discrete z.who q)
            where
              by : Dec (z.who ≡ q) → ((d : Done) × Memᴰ d (now_done ∷ W.w.ended) × Is z d) ⊎ Under (turned W q o i M used (end a) log).w z
              by (yes k) = inl (now_done, Memᴰ.head refl, rw (unique G.f log P.orderly z x m here (sym u.since ∙ ap W.w.since k)) x_is)
              by (no k) = inr (record { stage = u.stage; lane = upd_other W.w.lane q idle z.who k ∙ u.lane; since = u.since })

          sound' : (z : Entry) → Memᴰ z log
              → ((d : Done) × Memᴰ d (now_done ∷ W.w.ended) × Is z d) ⊎ Under (turned W q o i M used (end a) log).w z
          sound' z m =
              ⊎_elim (λ (h : (d : Done) × Memᴰ d W.w.ended × Is z d). inl (h.0, Memᴰ.tail h.1, h.2))
              (λ (h : Under W.w z). still z m h) (P.sound z m)
