-- Steps that change no cell: what they leave, and what they owe.
-- Assumes nothing.
use Rattle.std.specs.Prelude.{◌≡◌, refl, ◌⊎◌, ℕ, ◌≤◌}
use Rattle.std.proofs.Common.{sym, ap, ◌∙◌, subst, inl, inr, ⊎_elim, arith}
use mathlib.Core.List.Memᴰ
use mathlib.Core.List.{List, ◌∷◌, ◌++◌, Memᴰ}
use Rattle.theory.specs.Array.{Op, Ans}
use Rattle.theory.specs.Order.{Entry, value_in, written_in}
use Rattle.theory.specs.Machine.{Grid, Link, Stage, busy, Mem, Next, go, end, Turn, take_turn, next_lane, stepped}
use Rattle.theory.specs.Standing.{After, settled_at, used_next, settled}
use Rattle.theory.specs.World.{World, Swapped}
use Rattle.theory.specs.Claims.{Writes}
use Rattle.theory.specs.Inv.{StageOk, BusyOk, Inv}
use Rattle.theory.specs.Log.{turned, Pre, pre_keep, log_go, log_end}
use Rattle.theory.specs.ClaimsKept.{Frame}
use Rattle.theory.specs.Calm.{Own, complete_inv, quiet_frame, still_cell}

-- the invariant after the turn t; the order so far stays, and what is new stands after it
unfoldable pub Kept : Grid → (ℕ → Link) → World → ℕ → Op → ℕ → Turn → (ℕ → ℕ) → Type 0
Kept G old_link W q o i t used = (newer : List Entry) × Inv G old_link (record { w = stepped W.w q o i t; log = newer ++ W.log; used = used })

-- the invariant after q's step at a stage
abbrev pub KeptAt : Grid → (ℕ → Link) → World → ℕ → Op → ℕ → Stage → Type 0
KeptAt G old_link W q o i g = Kept G old_link W q o i (take_turn G W.w.mem q o i g) (used_next W.used q g)

module _ {G : Grid} {old_link : ℕ → Link} {W : World} (I : Inv G old_link W) (q : ℕ) {o : Op} {i : ℕ} {g : Stage} (e : W.w.lane q ≡ busy o i g) where
  pub busy_ok : BusyOk G old_link W q o i g
  busy_ok = rw e at (I.lanes q)

  pub own_counts : (settled_at g (W.w.mem.in_force q) ≤ W.w.mem.in_force q) × (W.w.mem.in_force q ≤ W.used q)
  own_counts = rw e at (I.counts q)

  -- a step that touches neither counts nor marks
  pub own_same : (M : Mem) → ((r : ℕ) → M.in_force r ≡ W.w.mem.in_force r) → ((r n : ℕ) → M.marks r n ≡ W.w.mem.marks r n) → (nx : Next)
      → settled (next_lane o i nx) (W.w.mem.in_force q) ≡ settled_at g (W.w.mem.in_force q) → Own I q e M W.used nx
  own_same M hc hm nx hs = record {
    in_force = λ r ne. hc r;
    marks = λ r n ne. hm r n;
    used_other = λ r ne. refl;
    up = omega arith;
    rise = rw (hc q) (omega arith);
    kept = λ n h. hm q n;
    counts = rw (hc q) (omega (arith, own_counts.0), own_counts.1);
    places = λ n j hj hn h. I.places q n j hj hn (sym (hm q n) ∙ h);
  }

  -- an order for this call that changes nothing in the array
  pub record Mild (log : List Entry) : Type 0 where
    pub pre : Pre G old_link W log
    pub more : (z : Entry) → Memᴰ z W.log → Memᴰ z log
    pub less : (z : Entry) → Memᴰ z log → Memᴰ z W.log ⊎ (z.began ≡ W.w.since q)
    pub same : (j : ℕ) → written_in log j ≡ written_in W.log j
    pub vals : (j : ℕ) → value_in G.f log j ≡ value_in G.f W.log j

  pub mild_keep : Mild W.log
  mild_keep = record { pre = pre_keep I; more = λ z m. m; less = λ z m. inl m; same = λ j. refl; vals = λ j. refl }

  pub less_cons : (x : Entry) → x.began ≡ W.w.since q → (z : Entry) → Memᴰ z (x ∷ W.log) → Memᴰ z W.log ⊎ (z.began ≡ W.w.since q)
  less_cons x k z m = ⊎_elim (λ (h : z ≡ x). inr (ap (λ (y : Entry). y.began) h ∙ k)) (λ (h : Memᴰ z W.log). inl h) (Memᴰ.cases_cons m)

  -- a step that leaves readings and links: what goes on, and what ends
  module _ (M : Mem) (used : ℕ → ℕ) (log : List Entry) (L : Mild log) (links : (j : ℕ) → M.link j ≡ W.w.mem.link j)
      (readings : (j : ℕ) → M.reading j ≡ W.w.mem.reading j) where
    framed : (nx : Next) (O : Own I q e M used nx) → Frame G old_link q W (turned W q o i M used nx log)
    framed nx O = quiet_frame I q e M used nx log O (record { more = L.more; less = L.less; same = L.same; link = λ j t. links j })

    pub go_calm : (g' : Stage) → Own I q e M used (go g') → After g → After g' → StageOk G old_link (turned W q o i M used (go g') log) q o i g'
        → Inv G old_link (turned W q o i M used (go g') log)
    go_calm g' O a a' h = complete_inv I q e M used (go g') log O (framed (go g') O)
        (record { proc = busy_ok.proc; cell = busy_ok.cell; past = omega (arith, busy_ok.past); at = h })
        (λ j. still_cell I q e M used (go g') log O j (record {
          same = L.same j;
          vals = L.vals j;
          link = links j;
          reading = readings j;
          hold = λ v t s. (s.0, s.1, a');
          from = λ v s. (s.0, s.1, a);
        }))
        (log_go q e M used L.pre g')

    pub end_calm : (a : Ans) (t : ℕ) → Own I q e M used (end a) → ((v : ℕ) → Writes o v → Swapped G old_link W i)
        → Memᴰ (record { at = t; began = W.w.since q; who = q; op = o; cell = i; ans = a }) log → Inv G old_link (turned W q o i M used (end a) log)
    end_calm a t O nw m = complete_inv I q e M used (end a) log O (framed (end a) O) tt
        (λ j. still_cell I q e M used (end a) log O j (record {
          same = L.same j;
          vals = L.vals j;
          link = links j;
          reading = readings j;
          hold = λ v u s. absurd (nw v s.0 (subst (λ (x : ℕ). W.w.mem.link x ≡ old_link x) (sym s.1) u));
          from = λ v s. absurd s;
        }))
        (log_end q e M used L.pre a t m)

  -- a step that changes no word
  module _ (log : List Entry) (L : Mild log) where
    pub go_quiet : (g' : Stage) → After g → After g' → settled_at g' (W.w.mem.in_force q) ≡ settled_at g (W.w.mem.in_force q)
        → StageOk G old_link (turned W q o i W.w.mem W.used (go g') log) q o i g' → Inv G old_link (turned W q o i W.w.mem W.used (go g') log)
    go_quiet g' a a' hs =
        go_calm W.w.mem W.used log L (λ j. refl) (λ j. refl) g' (own_same W.w.mem (λ r. refl) (λ r n. refl) (go g') hs) a a'

    pub end_quiet : (a : Ans) (t : ℕ) → settled_at g (W.w.mem.in_force q) ≡ W.w.mem.in_force q → ((v : ℕ) → Writes o v → Swapped G old_link W i)
        → Memᴰ (record { at = t; began = W.w.since q; who = q; op = o; cell = i; ans = a }) log
        → Inv G old_link (turned W q o i W.w.mem W.used (end a) log)
    end_quiet a t hs =
        end_calm W.w.mem W.used log L (λ j. refl) (λ j. refl) a t (own_same W.w.mem (λ r. refl) (λ r n. refl) (end a) (sym hs))
