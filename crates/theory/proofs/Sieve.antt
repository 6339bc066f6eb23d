-- One order of a run: the invariant's order without the reads and the asked that have not ended.
-- Assumes nothing.
use Rattle.std.specs.Prelude.{◌≡◌, refl, ◌⊎◌, Bool, ℕ}
use Rattle.std.proofs.Math.Path.{sym, ap}
use Rattle.std.proofs.Common.{◌∙◌, inl, inr}
use Rattle.std.proofs.Math.Logic.{⊎_elim}
use mathlib.Core.List.Memᴰ
use mathlib.Core.List.{List, [], ◌∷◌, Memᴰ}
use Rattle.theory.specs.Array.{Op, read, asked, write, told, value_by, written_by, value, written, answer}
use Rattle.theory.specs.Order.{Done, Entry, deeds, Fits, Orderly, Is, value_in, written_in}
use Rattle.theory.specs.Machine.{Grid, Link}
use Rattle.theory.specs.OneOrder.{Under, Pending, OneOrder}
use Rattle.theory.specs.World.{World}
use Rattle.theory.specs.Inv.{Inv}

module _ {G : Grid} {old_link : ℕ → Link} {W : World} (I : Inv G old_link W) where
  Fin : Entry → Type 0
  Fin z = (d : Done) × Memᴰ d W.w.ended × Is z d

  record Sieved (es es' : List Entry) : Type 0 where
    orderly : Orderly G.f es'
    sub : (z : Entry) → Memᴰ z es' → Memᴰ z es
    same : (j : ℕ) → written_in es' j ≡ written_in es j
    vals : (j : ℕ) → value_in G.f es' j ≡ value_in G.f es j
    good : (z : Entry) → Memᴰ z es' → Fin z ⊎ Pending W.w z
    kept : (z : Entry) → Memᴰ z es → Fin z → Memᴰ z es'

  answer_same : (es es' : List Entry) → Sieved es es' → (o : Op) (c : ℕ) → answer G.f (deeds es) o c ≡ answer G.f (deeds es') o c
  answer_same es es' S read c = rw (S.vals c, S.same c)
  answer_same es es' S asked c = ap told (sym (S.same c))
  answer_same es es' S (write v) c = refl

  keep_entry : (x : Entry) (es : List Entry) (es' : List Entry) → Fits G.f x es → Sieved es es' → Fin x ⊎ Pending W.w x → Sieved (x ∷ es) (x ∷ es')
  unfolding value written deeds
  keep_entry x es es' F S g = record {
    orderly = (
      record {
        right = F.right ∙ answer_same es es' S x.op x.cell;
        after = F.after;
        sorted = λ d m. F.sorted d (S.sub d m);
        once = λ d m. F.once d (S.sub d m);
      },
      S.orderly,
    );
    sub = λ z m. ⊎_elim (λ (h : z ≡ x). Memᴰ.head h) (λ (h : Memᴰ z es'). Memᴰ.tail (S.sub z h)) (Memᴰ.cases_cons m);
    same = λ j. rw (S.same j);
    vals = λ j. rw (S.vals j);
    good = λ z m. ⊎_elim (λ (h : z ≡ x). rw h g) (λ (h : Memᴰ z es'). S.good z h) (Memᴰ.cases_cons m);
    kept = λ z m f. ⊎_elim (λ (h : z ≡ x). Memᴰ.head h) (λ (h : Memᴰ z es). Memᴰ.tail (S.kept z h f)) (Memᴰ.cases_cons m);
  }

  abbrev Quiet-op : Op → Type 0
  Quiet-op read = Unit {0}
  Quiet-op asked = Unit {0}
  Quiet-op (write v) = ⊥

  quiet_value : (o : Op) (c j y : ℕ) → Quiet-op o → y ≡ value_by o c j y
  quiet_value read c j y q = refl
  quiet_value asked c j y q = refl
  quiet_value (write v) c j y q = absurd q

  quiet_written : (o : Op) (c j : ℕ) (y : Bool) → Quiet-op o → y ≡ written_by o c j y
  quiet_written read c j y q = refl
  quiet_written asked c j y q = refl
  quiet_written (write v) c j y q = absurd q

  drop_entry : (x : Entry) (es : List Entry) (es' : List Entry) → Sieved es es' → Under W.w x → Quiet-op x.op → Sieved (x ∷ es) es'
  unfolding value written Fin deeds
  drop_entry x es es' S u s = record {
    orderly = S.orderly;
    sub = λ z m. Memᴰ.tail (S.sub z m);
    same = λ j. S.same j ∙ quiet_written x.op x.cell j (written_in es j) s;
    vals = λ j. S.vals j ∙ quiet_value x.op x.cell j (value_in G.f es j) s;
    good = S.good;
    kept = λ z m f.
        ⊎_elim
        (λ (h : z ≡ x). absurd
        (I.logs.over f.0 f.1 x.who x.op x.cell u.stage u.lane (sym f.2.began ∙ ap (λ (y : Entry). y.began) h ∙ sym u.since)))
        (λ (h : Memᴰ z es). S.kept z h f) (Memᴰ.cases_cons m);
  }

  sieve : (es : List Entry) → Orderly G.f es → ((z : Entry) → Memᴰ z es → Fin z ⊎ Under W.w z) → (es' : List Entry) × Sieved es es'
  sieve [] h s = ([], record { orderly = tt; sub = λ z m. m; same = λ j. refl; vals = λ j. refl; good = λ z m. elim m [ ]; kept = λ z m f. m })
  sieve (x ∷ es) h s = by (sieve es h.1 (λ z m. s z (Memᴰ.tail m))) (s x (Memᴰ.head refl)) x.op refl
    where
      by : (es' : List Entry) × Sieved es es' → Fin x ⊎ Under W.w x → (o : Op) → x.op ≡ o → (es' : List Entry) × Sieved (x ∷ es) es'
      by t (inl f) o k = (x ∷ t.0, keep_entry x es t.0 h.0 t.1 (inl f))
      by t (inr u) read k = (t.0, drop_entry x es t.0 t.1 u (rw k tt))
      by t (inr u) asked k = (t.0, drop_entry x es t.0 t.1 u (rw k tt))
      by t (inr u) (write v) k = (
        x ∷ t.0,
        keep_entry x es t.0 h.0 t.1 (inr (record { under = u; value = v; writes = k })),
      )

  pub sieved_order : OneOrder G.f W.w
  unfolding Fin
  sieved_order = record {
    order = t.0;
    orderly = t.1.orderly;
    complete = λ d m. let c = I.logs.complete d m in (c.0, t.1.kept c.0 c.1 (d, m, c.2), c.2);
    sound = t.1.good;
  }
    where
      t : (es' : List Entry) × Sieved W.log es'
      t = sieve W.log I.logs.orderly I.logs.sound
