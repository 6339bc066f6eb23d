-- The store, the first step of a write: on a swapped cell the write takes its place at once, else it waits for the swap.
-- Assumes nothing.
use Rattle.std.specs.Prelude.{◌≡◌, refl, ◌≢◌, List, [], ◌∷◌, ℕ, ◌<◌}
use Rattle.std.proofs.Common.{sym, ◌∙◌, inl, arith}
use mathlib.Core.List.Memᴰ
use Rattle.std.proofs.Math.Decide.{ℕ_discrete}
use Rattle.theory.specs.Base.{upd_same, upd_other}
use Rattle.theory.specs.Array.{Op, read, asked, write, done}
use Rattle.theory.specs.Order.{Entry, value_in, written_in}
use Rattle.theory.specs.Machine.{Grid, Link, Stage, busy, Mem, set_reading, go, turn_to, poke, take_turn}
use Rattle.theory.specs.OrderLaws
use Rattle.theory.specs.World.{World}
use Rattle.theory.specs.Inv.{BusyOk, CellOk, old, new, Inv}
use Rattle.theory.specs.Log
use Rattle.theory.specs.Calm
use Rattle.theory.specs.Calm.{Own}
use Rattle.theory.specs.Steps
use Rattle.theory.specs.Steps.{Kept}

module _ {G : Grid} {old_link : ℕ → Link} {W : World} (I : Inv G old_link W) (q : ℕ) where
  pub stores : (o : Op) (i : ℕ) (e : W.w.lane q ≡ busy o i Stage.store) → Kept G old_link W q o i (take_turn G W.w.mem q o i Stage.store) W.used
  unfolding Kept
  stores read i e = absurd (Steps.busy_ok I q e).at.1.1
  stores asked i e = absurd (Steps.busy_ok I q e).at.1.1
  stores (write v) i e = by (I.cells i b.cell)
    where
      b : BusyOk G old_link W q (write v) i Stage.store
      b = Steps.busy_ok I q e

      M : Mem
      M = poke W.w.mem q (set_reading i v)

      O : Own I q e M W.used (go Stage.check_link)
      O = Steps.own_same I q e M (λ r. refl) (λ r n. refl) (go Stage.check_link) refl

      x : Entry
      x = Log.entry W.w q (write v) i done

      here : M.reading i ≡ v
      here = upd_same W.w.mem.reading i v

      -- the other cells
      beside : (log : List Entry) → ((j : ℕ) → j ≢ i → written_in log j ≡ written_in W.log j)
          → ((j : ℕ) → j ≢ i → value_in G.f log j ≡ value_in G.f W.log j)
          → (j : ℕ) → j < G.m → j ≢ i → CellOk G old_link (Log.turned W q (write v) i M W.used (go Stage.check_link) log) j
      beside log hs hv j hj ne = Calm.still_cell I q e M W.used (go Stage.check_link) log O j
          (record {
            same = hs j ne;
            vals = hv j ne;
            link = refl;
            reading = upd_other W.w.mem.reading i v j ne;
            hold = λ v t s. absurd s.2;
            from = λ v s. absurd (ne (sym s.1));
          })
          hj

      by : CellOk G old_link W i → Kept G old_link W q (write v) i (turn_to (set_reading i v) (go Stage.check_link)) W.used
      by (old t k s) = (
        [],
        Calm.complete_inv I q e M W.used (go Stage.check_link) W.log O
            (Calm.quiet_frame I q e M W.used (go Stage.check_link) W.log O
            (record { more = λ z m. m; less = λ z m. inl m; same = λ j. refl; link = λ j t. refl }))
            (record {
              proc = b.proc;
              cell = b.cell;
              past = omega (arith, b.past);
              at = record { v = v; is = refl; new = λ t₁. OrderLaws.no_false (sym t₁ ∙ t); old = λ t₁. b.at.0 };
            })
            cells'
            (Log.log_go q e M W.used (Log.pre_keep I) Stage.check_link),
      )
        where
          W' : World
          W' = Log.turned W q (write v) i M W.used (go Stage.check_link) W.log

          mine : W'.w.lane q ≡ busy (write v) i Stage.check_link
          mine = upd_same W.w.lane q (busy (write v) i Stage.check_link)

          cells' : (j : ℕ) → j < G.m → CellOk G old_link W' j
          cells' j hj = at_j (ℕ_discrete j i)
            where
              at_j : Dec (j ≡ i) → CellOk G old_link W' j
              at_j (yes z) = rw z (old t k (λ r y h. (q, rw mine (sym here, refl, tt))))
              at_j (no z) = beside W.log (λ j ne. refl) (λ j ne. refl) j hj z
      by (new t w y p₀ p₁ p₂) = (
        x ∷ [],
        Calm.complete_inv I q e M W.used (go Stage.check_link) (x ∷ W.log) O
            (Calm.quiet_frame I q e M W.used (go Stage.check_link) (x ∷ W.log) O
            (record { more = λ z m. Memᴰ.tail m; less = Steps.less_cons I q e x refl; same = same'; link = λ j t. refl }))
            (record {
              proc = b.proc;
              cell = b.cell;
              past = omega (arith, b.past);
              at = record {
                v = v;
                is = refl;
                new = λ t₁. (W.w.now, Memᴰ.head refl);
                old = λ t₁. OrderLaws.no_false (sym (OrderLaws.written_here x W.log v i refl refl) ∙ t₁);
              };
            })
            cells'
            (Log.log_go q e M W.used (Log.pre_place (Log.pre_keep I) q done e b.past b.at.0 refl) Stage.check_link),
      )
        where
          W' : World
          W' = Log.turned W q (write v) i M W.used (go Stage.check_link) (x ∷ W.log)

          same' : (j : ℕ) → written_in (x ∷ W.log) j ≡ written_in W.log j
          same' j = at_j (ℕ_discrete j i)
            where
              at_j : Dec (j ≡ i) → written_in (x ∷ W.log) j ≡ written_in W.log j
              at_j (yes z) = rw z (OrderLaws.written_here x W.log v i refl refl ∙ sym w)
              at_j (no z) = OrderLaws.written_away x W.log j z

          cells' : (j : ℕ) → j < G.m → CellOk G old_link W' j
          cells' j hj = at_j (ℕ_discrete j i)
            where
              at_j : Dec (j ≡ i) → CellOk G old_link W' j
              at_j (yes z) =
                  rw z
                  (Calm.certified I q e M W.used (go Stage.check_link) (x ∷ W.log) O i refl (OrderLaws.written_here x W.log v i refl refl)
                  (OrderLaws.value_here G.f x W.log v i refl refl ∙ sym here) (new t w y p₀ p₁ p₂) t)
              at_j (no z) = beside (x ∷ W.log) (λ j ne. OrderLaws.written_away x W.log j ne) (λ j ne. OrderLaws.value_away G.f x W.log j ne) j hj z
