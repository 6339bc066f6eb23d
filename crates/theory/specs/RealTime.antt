-- An order keeps real time: an operation that ended before another began stands before it. What is new in it stands after what was there.
-- Assumes nothing.
use Rattle.std.specs.Prelude.{◌≡◌, ◌⊎◌, ℕ, ◌<◌}
use Rattle.std.proofs.Common.{sym, ap, subst, inl, inr, ⊎_elim, arith}
use mathlib.Core.List.Memᴰ
use mathlib.Core.List.{List, [], ◌∷◌, ◌++◌, Memᴰ}
use Rattle.theory.specs.Order.{Done, Entry, Orderly, Is, Grown, Before}
use Rattle.theory.specs.OrderLaws.{began_before}

-- of two entries, the one that takes its place at an earlier call stands before the other
earlier_first : (f : ℕ → ℕ) (es : List Entry) → Orderly f es → (d e : Entry) → Memᴰ d es → Memᴰ e es → d.at < e.at → Before d e es
earlier_first f [] h d e md me k = elim md [ ]
earlier_first f (x ∷ es) h d e md me k = by (Memᴰ.cases_cons md) (Memᴰ.cases_cons me) (earlier_first f es h.1 d e)
  where
    by : (d ≡ x) ⊎ Memᴰ d es → (e ≡ x) ⊎ Memᴰ e es → (Memᴰ d es → Memᴰ e es → d.at < e.at → Before d e es) → Before d e (x ∷ es)
    by (inl p) (inl q) ih = absurd (let y : ⊥ = omega (arith, ap (λ (z : Entry). z.at) p, ap (λ (z : Entry). z.at) q) in y)
    by (inl p) (inr q) ih = absurd (let y : ⊥ = omega (arith, ap (λ (z : Entry). z.at) p, h.0.sorted e q) in y)
    by (inr p) (inl q) ih = record { newer = []; older = es; split = ap (λ (z : Entry). z ∷ es) (sym q); there = p }
    by (inr p) (inr q) ih = let b = ih p q k in
        record { newer = x ∷ b.newer; older = b.older; split = ap (λ (z : List Entry). x ∷ z) b.split; there = b.there }

-- an ended operation stands before every one that began after its end
pub ended_first : (f : ℕ → ℕ) (order : List Entry) → Orderly f order → (d e : Entry) → Memᴰ d order → Memᴰ e order
    → (first : Done) → Is d first → first.ended < e.began → Before d e order
ended_first f order h d e md me first i k = earlier_first f order h d e md me (omega (arith, began_before f order h e me, i.intime))

-- of two ended operations in an order, the one that ended before the other began stands first
pub real_time_order : (f : ℕ → ℕ) (order : List Entry) → Orderly f order → (d e : Entry) → Memᴰ d order → Memᴰ e order
    → (first second : Done) → Is d first → Is e second → first.ended < second.began → Before d e order
real_time_order f order h d e md me first second i j k = ended_first f order h d e md me first i (omega (arith, j.began))

-- what is new in a grown order stands after what was there
in_front : (newer older : List Entry) (d e : Entry) → Memᴰ d older → Memᴰ e newer → Before d e (newer ++ older)
in_front [] older d e md me = elim me [ ]
in_front (x ∷ newer) older d e md me = by (Memᴰ.cases_cons me) (in_front newer older d e md)
  where
    by : (e ≡ x) ⊎ Memᴰ e newer → (Memᴰ e newer → Before d e (newer ++ older)) → Before d e (x ∷ newer ++ older)
    by (inl p) ih =
        record { newer = []; older = newer ++ older; split = ap (λ (z : Entry). z ∷ newer ++ older) (sym p); there = Memᴰ.append_right newer md }
    by (inr p) ih = let b = ih p in
        record { newer = x ∷ b.newer; older = b.older; split = ap (λ (z : List Entry). x ∷ z) b.split; there = b.there }

pub new_after_old : {a b : List Entry} → Grown a b → (d e : Entry) → Memᴰ d a → Memᴰ e b → Before d e b ⊎ Memᴰ e a
new_after_old {a} g d e md me =
    ⊎_elim (λ (m : Memᴰ e g.newer). inl (subst (Before d e) (sym g.split) (in_front g.newer a d e md m))) (λ (m : Memᴰ e a). inr m)
    (Memᴰ.append_cases g.newer (subst (Memᴰ e) g.split me))
