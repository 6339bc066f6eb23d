-- A step of any stage keeps the account.
-- Assumes nothing.
use Rattle.std.specs.Prelude.{◌≡◌, refl, ◌⊎◌, ◌≢◌, true, false, ℕ, suc, ◌<◌}
use Rattle.std.proofs.Common.{sym, ◌∙◌, inl, inr, arith}
use Rattle.std.proofs.Math.Decide.{ℕ_discrete, dec_lt}
use Rattle.theory.specs.Base.{pick, upd, upd_same, upd_other}
use Rattle.theory.specs.Array.{Op, read, asked, write}
use Rattle.theory.specs.Machine.{Grid, Link, mk, Seen, Marking, Stage, marking, busy, Mem, keep, set_link, set_in_force, set_drawn, set_mark}
use Rattle.theory.specs.Machine.{Next, go, end, turn_to, poke, same_link, use_place, look, fetched, passed, plan, failed, mark_turn, take_turn}
use Rattle.theory.specs.Machine.{Watch, next_lane, finish, stepped}
use Rattle.theory.specs.Run.{Tally}
use Rattle.theory.specs.Standing.{front_at, front}
use Rattle.theory.specs.World.{World}
use Rattle.theory.specs.Claims.{mine_writes}
use Rattle.theory.specs.Inv.{BusyOk, Inv}
use Rattle.theory.specs.Plan
use Rattle.theory.specs.Steps.{busy_ok}
use Rattle.theory.specs.Swap.{unswapped}
use Rattle.theory.specs.Account.{Owed, Account, Forward, owed_forward, acc_step}

failed_front : (G : Grid) (M : Mem) (q : ℕ) (o : Op) (i : ℕ) (S : Seen)
    → front (next_lane o i (failed G M q o i S)) (M.in_force q) ≡ M.in_force q
failed_front G M q read i S = refl
failed_front G M q asked i S = refl
failed_front G M q (write v) i S = (Plan.plan_stands G false M q S (M.in_force q) (M.in_force q) tt).front

passed_front : (o : Op) (i c : ℕ) → front (next_lane o i (passed o)) c ≡ c
passed_front read i c = refl
passed_front asked i c = refl
passed_front (write v) i c = refl

pick_front : {P : Type 0} (d : Dec P) (o : Op) (i c : ℕ) (a b : Next) → front (next_lane o i a) c ≡ c
    → front (next_lane o i b) c ≡ c → front (next_lane o i (pick d a b)) c ≡ c
pick_front (yes k) o i c a b ha hb = ha
pick_front (no k) o i c a b ha hb = hb

module _ {G : Grid} {old_link : ℕ → Link} {T : Tally} {W : World} (I : Inv G old_link W) (A : Account G old_link T W.w) (q : ℕ) (o : Op) (i : ℕ) where
  abbrev M : Mem
  M = W.w.mem

  abbrev after : Mem → Next → Watch
  after M' nx = record { mem = M'; lane = upd W.w.lane q (next_lane o i nx); now = suc W.w.now; since = W.w.since; ended = finish W.w q o i nx }

  -- a step that leaves counts and links
  acc_keep : {g : Stage} (e : W.w.lane q ≡ busy o i g) (nx : Next) (marks : ℕ → ℕ → ℕ) (reading : ℕ → ℕ)
      → front (next_lane o i nx) (M.in_force q) ≡ front_at g (M.in_force q)
      → Account G old_link T (after (record { reading = reading; link = M.link; in_force = M.in_force; drawn = M.drawn; marks = marks }) nx)
  acc_keep e nx marks reading h = acc_step A q e M' nx (λ j. inl refl) (λ r ne. refl) (λ r ne. refl) (λ k hk. inl (rw h at hk)) (inl refl)
    where
      M' : Mem
      M' = record { reading = reading; link = M.link; in_force = M.in_force; drawn = M.drawn; marks = marks }

  -- and all other words
  acc_same : {g : Stage} (e : W.w.lane q ≡ busy o i g) (nx : Next) → front (next_lane o i nx) (M.in_force q) ≡ front_at g (M.in_force q)
      → Account G old_link T (after M nx)
  acc_same e nx = acc_keep e nx M.marks M.reading

  -- the check goes on, passes or fails
  acc_test : {X : Type 0} (z : Dec X) (g : Stage) (e : W.w.lane q ≡ busy o i g) → front_at g (M.in_force q) ≡ M.in_force q → (nx : Next)
      → front (next_lane o i nx) (M.in_force q) ≡ M.in_force q → (S : Seen)
      → Account G old_link T (after M (pick z nx (failed G M q o i S)))
  acc_test z g e hg nx hn S = acc_same e (pick z nx (failed G M q o i S))
      (pick_front z o i _ nx (failed G M q o i S) hn (failed_front G M q o i S) ∙ sym hg)

  -- the cell and the process of a write under way are counted
  counted : {k : Marking} → W.w.lane q ≡ busy o i (marking k) → (T.cells i ≡ 1) × (T.procs q ≡ 1)
  counted {k} e = A.begun q o i (marking k) e (mine_writes G old_link W q o i (busy_ok I q e).at.0)

  -- a won swap: the place is now owed to the cell's new link
  acc_swap : (S : Seen) (n : ℕ) (e : W.w.lane q ≡ busy o i (marking (Marking.swap S n))) → M.link i ≡ S.at
      → Account G old_link T (after (poke M q (set_link i (mk q n))) (passed o))
  acc_swap S n e z = acc_step A q e M' (passed o) moved (λ r ne. refl) (λ r ne. refl) (λ k hk. owed' k (rw (passed_front o i) at hk)) (inl refl)
    where
      b : BusyOk G old_link W q o i (marking (Marking.swap S n))
      b = busy_ok I q e

      M' : Mem
      M' = poke M q (set_link i (mk q n))

      moved : Forward G old_link T M M'
      moved j = at_j (ℕ_discrete j i)
        where
          at_j : Dec (j ≡ i) → (M'.link j ≡ M.link j) ⊎ ((M.link j ≡ old_link j) × (T.cells j ≡ 1))
          at_j (yes y) = inr (rw y (unswapped I q e z, (counted e).0))
          at_j (no y) = inl (upd_other M.link i (mk q n) j y)

      owed' : (k : ℕ) → k < M.in_force q → (k < n) ⊎ Owed G old_link T M' q k
      owed' k hk = at_k (ℕ_discrete k n)
        where
          linked : (M'.link i ≡ mk q n) × (old_link i ≢ mk q n)
          linked = (upd_same M.link i (mk q n), I.places q n i b.cell b.at.1.0.high b.at.1.0.there)

          at_k : Dec (k ≡ n) → (k < n) ⊎ Owed G old_link T M' q k
          at_k (yes y) = inr (record { i = i; cell = b.cell; begun = (counted e).0; which = inl (rw y linked) })
          at_k (no y) = inl (omega (arith, b.at.1.1))

  acc_marking : (k : Marking) → W.w.lane q ≡ busy o i (marking k) → Account G old_link T (stepped W.w q o i (mark_turn G M q o i k))
  acc_marking (Marking.draw s S n) e = acc_step A q e (poke M q (set_drawn (suc (G.shape.seg n)))) (go (marking (Marking.enter s S n)))
      (λ j. inl refl) (λ r ne. refl) (λ r ne. upd_other M.drawn q (suc (G.shape.seg n)) r ne) (λ k hk. inl hk)
      (inr (record {
        n = n;
        small = inr (rw (upd_same M.drawn q (suc (G.shape.seg n))) (G.shape.low n), (counted e).1);
        owed = λ k hk. owed_forward (λ j. inl refl) (A.fronts q k (rw e hk));
      }))
  acc_marking (Marking.enter s S n) e = acc_same e (go (marking (use_place s q S n))) (Plan.use_stands s q S n _ (busy_ok I q e).at.1.1).front
  acc_marking (Marking.tombstone S n) e =
      acc_step A q e M' (go (marking (plan G true M q S (suc n)))) (λ j. inl refl) (λ r ne. refl) (λ r ne. refl) owed' (inl refl)
    where
      M' : Mem
      M' = poke M q (set_mark n G.grave)

      b : BusyOk G old_link W q o i (marking (Marking.tombstone S n))
      b = busy_ok I q e

      stands : front (next_lane o i (go (marking (plan G true M q S (suc n))))) (M.in_force q) ≡ suc n
      stands = (Plan.plan_stands G true M q S (suc n) (M.in_force q) (Plan.past_tombstone q S n b.at.1.1)).front

      owed' : (k : ℕ) → k < front_at (marking (plan G true M q S (suc n))) (M.in_force q) → (k < n) ⊎ Owed G old_link T M' q k
      owed' k hk = by (ℕ_discrete k n) (rw stands at hk)
        where
          by : Dec (k ≡ n) → k < suc n → (k < n) ⊎ Owed G old_link T M' q k
          by (yes z) hk = inr (record { i = i; cell = b.cell; begun = (counted e).0; which = inr (rw z (sym b.at.1.0.bad ∙ b.at.1.1)) })
          by (no z) hk = inl (omega arith)
  acc_marking (Marking.mark S n) e = acc_keep e (go (marking (Marking.force S n))) _ M.reading refl
  acc_marking (Marking.force S n) e = acc_step A q e (poke M q (set_in_force (suc n))) (go (marking (Marking.swap S n)))
      (λ j. inl refl) (λ r ne. upd_other M.in_force q (suc n) r ne) (λ r ne. refl) (λ k hk. inl hk) (inl refl)
  acc_marking (Marking.swap S n) e = by (same_link (M.link i) S.at)
    where
      by : (d : Dec (M.link i ≡ S.at))
          → Account G old_link T (stepped W.w q o i (pick d (turn_to (set_link i (mk q n)) (passed o)) (turn_to keep (go (marking (Marking.take_back n))))))
      by (no z) = acc_same e (go (marking (Marking.take_back n))) refl
      by (yes z) = acc_swap S n e z
  acc_marking (Marking.take_back n) e = acc_step A q e (poke M q (set_in_force n)) (passed o)
      (λ j. inl refl) (λ r ne. upd_other M.in_force q n r ne) (λ r ne. refl)
      (λ k hk. inl (rw (upd_same M.in_force q n) at (rw (passed_front o i (upd M.in_force q n q)) at hk))) (inl refl)

  pub acc_stage : (g : Stage) → W.w.lane q ≡ busy o i g → Account G old_link T (stepped W.w q o i (take_turn G M q o i g))
  acc_stage Stage.store e = acc_keep e (go Stage.check_link) M.marks _ refl
  acc_stage Stage.check_link e = let S = look M i in
      acc_test (dec_lt S.at.proc G.p) Stage.check_link e refl (go (Stage.check_marks S)) refl S
  acc_stage (Stage.check_marks S) e =
      acc_test (dec_lt S.at.place (M.in_force S.at.proc)) (Stage.check_marks S) e refl (go (Stage.check_directory S)) refl S
  acc_stage (Stage.check_directory S) e = acc_same e (go (Stage.check_mark S)) refl
  acc_stage (Stage.check_mark S) e =
      acc_test (ℕ_discrete (M.marks S.at.proc S.at.place) (G.code i)) (Stage.check_mark S) e refl (passed o) (passed_front o i _) S
  acc_stage Stage.fetch e = acc_same e (end (fetched M i)) refl
  acc_stage (marking k) e = acc_marking k e
