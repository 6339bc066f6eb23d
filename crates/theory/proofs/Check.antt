-- The check, step by step: its outcome is decided when it reads the link.
-- Assumes nothing.
use Rattle.std.specs.Prelude.{◌≡◌, true, false, ℕ, ◌<◌}
use Rattle.std.proofs.Math.Path.{refl}
use Rattle.std.proofs.Common.{sym, ap, ◌∙◌, arith}
use mathlib.Core.List.Memᴰ
use mathlib.Core.List.{List, [], ◌∷◌, ◌++◌}
use Rattle.std.proofs.Math.Decide.{ℕ_discrete, dec_lt}
use Rattle.theory.specs.Base.{pick}
use Rattle.theory.specs.Array.{Op, read, asked, write, Ans, got, told, done, value, written, answer, Writing}
use Rattle.theory.specs.Order.{Entry, deeds, value_in, written_in}
use Rattle.theory.specs.Machine.{Grid, Link, Seen, Marking, Stage, marking, busy, Mem, keep, Next, go, end, turn_to, look, fetched, passed, plan, failed}
use Rattle.theory.specs.Standing.{After, settled_at}
use Rattle.theory.specs.OrderLaws
use Rattle.theory.specs.World.{World, Swapped, Placed, Unplaced}
use Rattle.theory.specs.Claims.{Writes, Sure, Dud}
use Rattle.theory.specs.Inv.{Judged, sure, dud, StageOk, BusyOk, CellOk, old, new, Inv}
use Rattle.theory.specs.Plan.{Stands, plan_stands, plan_ok}
use Rattle.theory.specs.Log
use Rattle.theory.specs.ClaimsKept
use Rattle.theory.specs.Steps
use Rattle.theory.specs.Steps.{Kept, KeptAt, Mild}
use Rattle.theory.specs.Check.{Certificate, swapped_cell}
use Rattle.theory.proofs.ReadAnswers.{read_answers}

module _ {G : Grid} {old_link : ℕ → Link} {W : World} (I : Inv G old_link W) (q : ℕ) where
  abbrev M : Mem
  M = W.w.mem

  -- the world after a step that changes no word
  abbrev after : Op → ℕ → Next → List Entry → World
  after o i nx log = Log.turned W q o i M W.used nx log

  judged_same : (o : Op) (i : ℕ) (S : Seen) (nx : Next) → Judged G old_link W q o i S → Judged G old_link (after o i nx W.log) q o i S
  judged_same o i S nx (sure t k s) = sure t k (ClaimsKept.sure_same G old_link W q i M W.used nx o s)
  judged_same o i S nx (dud k s) = dud k (ClaimsKept.dud_same G old_link W q i M W.used nx o s)

  -- an operation that is no write takes its place in the order: it changes nothing
  looked : (o : Op) (i : ℕ) (a : Ans) → (Writing o → ⊥) → (j : ℕ) → let es = Log.entry W.w q o i a ∷ W.log in
      (written_in es j ≡ written_in W.log j) × (value_in G.f es j ≡ value_in G.f W.log j)
  unfolding value written deeds
  looked read i a nw j = (refl, refl)
  looked asked i a nw j = (refl, refl)
  looked (write v) i a nw j = absurd (nw tt)

  mild_look : (o : Op) (i : ℕ) (g : Stage) (e : W.w.lane q ≡ busy o i g) (a : Ans) → (Writing o → ⊥) → Unplaced G old_link W q
      → a ≡ answer G.f (deeds W.log) o i → Mild I q e (Log.entry W.w q o i a ∷ W.log)
  mild_look o i g e a nw u k = record {
    pre = Log.pre_place (Log.pre_keep I) q a e (Steps.busy_ok I q e).past u k;
    more = λ z m. Memᴰ.tail m;
    less = Steps.less_cons I q e (Log.entry W.w q o i a) refl;
    same = λ j. (looked o i a nw j).0;
    vals = λ j. (looked o i a nw j).1;
  }

  -- a check that read the old link fails, and its operation goes on from there
  fail_keep : (o : Op) (i : ℕ) (g : Stage) (e : W.w.lane q ≡ busy o i g) → After g → settled_at g (M.in_force q) ≡ M.in_force q
      → (S : Seen) → S.at ≡ old_link i → (log : List Entry) → Mild I q e log → Dud G old_link (after o i (failed G M q o i S) log) q o i
      → Inv G old_link (after o i (failed G M q o i S) log)
  fail_keep read i g e a hs S b log L h = Steps.end_quiet I q e log L (got (G.f i) false) h.0 hs (λ v z. absurd z) h.1
  fail_keep asked i g e a hs S b log L h = Steps.end_quiet I q e log L (told false) h.0 hs (λ v z. absurd z) h.1
  fail_keep (write v) i g e a hs S b log L h = Steps.go_quiet I q e log L (marking k) a tt (st.settled ∙ sym hs)
      (h, plan_ok G old_link M W.used false q i S n (record { bad = b; low = omega arith; high = (Steps.own_counts I q e).1 }) tt M)
    where
      n : ℕ
      n = M.in_force q

      k : Marking
      k = plan G false M q S (M.in_force q)

      st : Stands (M.in_force q) (M.in_force q) (plan G false M q S (M.in_force q))
      st = plan_stands G false M q S (M.in_force q) (M.in_force q) tt

  -- (a): an asked of a swapped cell takes its place here, and a read or an asked of an unswapped one
  module _ (i : ℕ) (nx : Next) where
    sure_order : (o : Op) (e : W.w.lane q ≡ busy o i Stage.check_link) → written_in W.log i ≡ true
        → (newer : List Entry) × Mild I q e (newer ++ W.log) × Sure G old_link (after o i nx (newer ++ W.log)) q o i
    sure_order read e t = ([], Steps.mild_keep I q e, (Steps.busy_ok I q e).at)
    sure_order asked e t = (
      Log.entry W.w q asked i (told true) ∷ [],
      mild_look asked i Stage.check_link e (told true) (λ z. z) (Steps.busy_ok I q e).at (ap told (sym t)),
      (W.w.now, Memᴰ.head refl),
    )
    sure_order (write v) e t = ([], Steps.mild_keep I q e, ClaimsKept.wrote_same G old_link W q (write v) i _ _ nx (Steps.busy_ok I q e).at)

    dud_order : (o : Op) (e : W.w.lane q ≡ busy o i Stage.check_link) → written_in W.log i ≡ false
        → (newer : List Entry) × Mild I q e (newer ++ W.log) × Dud G old_link (after o i nx (newer ++ W.log)) q o i
    dud_order read e t = (
      Log.entry W.w q read i (got (G.f i) false) ∷ [],
      mild_look read i Stage.check_link e (got (G.f i) false) (λ z. z) (Steps.busy_ok I q e).at
          (read_answers G.f W.log i _ _ (OrderLaws.value_unwritten G.f W.log i t) t),
      (W.w.now, Memᴰ.head refl),
    )
    dud_order asked e t = (
      Log.entry W.w q asked i (told false) ∷ [],
      mild_look asked i Stage.check_link e (told false) (λ z. z) (Steps.busy_ok I q e).at (ap told (sym t)),
      (W.w.now, Memᴰ.head refl),
    )
    dud_order (write v) e t = ([], Steps.mild_keep I q e, ClaimsKept.wrote_same G old_link W q (write v) i _ _ nx (Steps.busy_ok I q e).at)

  pub check_link_lem : (o : Op) (i : ℕ) → W.w.lane q ≡ busy o i Stage.check_link → KeptAt G old_link W q o i Stage.check_link
  unfolding Kept
  check_link_lem o i e = by (I.cells i (Steps.busy_ok I q e).cell) (dec_lt (M.link i).proc G.p)
    where
      S : Seen
      S = look M i

      on : Next
      on = go (Stage.check_marks S)

      off : Next
      off = failed G M q o i S

      by : CellOk G old_link W i → (d : Dec (S.at.proc < G.p)) → Kept G old_link W q o i (turn_to keep (pick d on off)) W.used
      by (new t y v p₀ p₁ p₂) (yes k) = let s = sure_order i on o e y in
          (s.0, Steps.go_quiet I q e (s.0 ++ W.log) s.1 (Stage.check_marks S) tt tt refl (sure t refl s.2, k))
      by (new t y v p₀ p₁ p₂) (no k) = absurd (k p₀)
      by (old t h s) (yes k) = let s = dud_order i on o e t in
          (s.0, Steps.go_quiet I q e (s.0 ++ W.log) s.1 (Stage.check_marks S) tt tt refl (dud h s.2, k))
      by (old t h s) (no k) = let s = dud_order i off o e t in (s.0, fail_keep o i Stage.check_link e tt refl S h (s.0 ++ W.log) s.1 s.2)

  -- a later step of the check goes on, or fails
  goes : (o : Op) (i : ℕ) (g : Stage) (e : W.w.lane q ≡ busy o i g) (g' : Stage) → After g → After g'
      → settled_at g' (M.in_force q) ≡ settled_at g (M.in_force q)
      → StageOk G old_link (after o i (go g') W.log) q o i g' → Inv G old_link (after o i (go g') W.log)
  goes o i g e = Steps.go_quiet I q e W.log (Steps.mild_keep I q e)

  fails : (o : Op) (i : ℕ) (g : Stage) (e : W.w.lane q ≡ busy o i g) → After g → settled_at g (M.in_force q) ≡ M.in_force q
      → (S : Seen) → S.at ≡ old_link i → Dud G old_link W q o i → Inv G old_link (after o i (failed G M q o i S) W.log)
  fails o i g e a hs S b h = fail_keep o i g e a hs S b W.log (Steps.mild_keep I q e)
      (ClaimsKept.dud_same G old_link W q i _ _ (failed G M q o i S) o h)

  -- (b)
  pub check_marks_lem : (o : Op) (i : ℕ) (S : Seen) → W.w.lane q ≡ busy o i (Stage.check_marks S) → KeptAt G old_link W q o i (Stage.check_marks S)
  unfolding Kept
  check_marks_lem o i S e = by b.at.0 (dec_lt S.at.place (M.in_force S.at.proc))
    where
      b : BusyOk G old_link W q o i (Stage.check_marks S)
      b = Steps.busy_ok I q e

      by : Judged G old_link W q o i S → (d : Dec (S.at.place < M.in_force S.at.proc))
          → Kept G old_link W q o i (turn_to keep (pick d (go (Stage.check_directory S)) (failed G M q o i S))) W.used
      by j (yes k) = (
        [],
        goes o i (Stage.check_marks S) e (Stage.check_directory S) tt tt refl
            (judged_same o i S (go (Stage.check_directory S)) j, b.at.1, omega (arith, k, (I.counts S.at.proc).1)),
      )
      by (sure t h s) (no k) = absurd (k (rw h at (swapped_cell I i b.cell t).in_force_lem))
      by (dud h s) (no k) = ([], fails o i (Stage.check_marks S) e tt refl S h s)

  -- (c)
  pub check_directory_lem : (o : Op) (i : ℕ) (S : Seen) → W.w.lane q ≡ busy o i (Stage.check_directory S)
      → KeptAt G old_link W q o i (Stage.check_directory S)
  unfolding Kept
  check_directory_lem o i S e = let b = Steps.busy_ok I q e in (
    [],
    goes o i (Stage.check_directory S) e (Stage.check_mark S) tt tt refl (judged_same o i S (go (Stage.check_mark S)) b.at.0, b.at.1, b.at.2),
  )

  -- (d): a check that read the swapped link passes
  ends : (o : Op) (i : ℕ) (S : Seen) (e : W.w.lane q ≡ busy o i (Stage.check_mark S)) (a : Ans) → ((v : ℕ) → Writes o v → Swapped G old_link W i)
      → Placed G old_link W q o i a → Inv G old_link (after o i (end a) W.log)
  ends o i S e a nw m = Steps.end_quiet I q e W.log (Steps.mild_keep I q e) a m.0 refl nw m.1

  pass_keep : (o : Op) (i : ℕ) (S : Seen) (e : W.w.lane q ≡ busy o i (Stage.check_mark S)) → Swapped G old_link W i → Sure G old_link W q o i
      → Inv G old_link (after o i (passed o) W.log)
  pass_keep read i S e t h = goes read i (Stage.check_mark S) e Stage.fetch tt tt refl (refl, t, h)
  pass_keep asked i S e t h = ends asked i S e (told true) (λ v z. absurd z) h
  pass_keep (write v) i S e t h = ends (write v) i S e done (λ v z. t) (h.new (swapped_cell I i (Steps.busy_ok I q e).cell t).is_written)

  pub check_mark_lem : (o : Op) (i : ℕ) (S : Seen) → W.w.lane q ≡ busy o i (Stage.check_mark S) → KeptAt G old_link W q o i (Stage.check_mark S)
  unfolding Kept
  check_mark_lem o i S e = by b.at.0 (ℕ_discrete (M.marks S.at.proc S.at.place) (G.code i))
    where
      b : BusyOk G old_link W q o i (Stage.check_mark S)
      b = Steps.busy_ok I q e

      by : Judged G old_link W q o i S → (d : Dec (M.marks S.at.proc S.at.place ≡ G.code i))
          → Kept G old_link W q o i (turn_to keep (pick d (passed o) (failed G M q o i S))) W.used
      by (sure t h s) (yes k) = ([], pass_keep o i S e t s)
      by (sure t h s) (no k) = absurd (k (rw h at (swapped_cell I i b.cell t).reads_back))
      by (dud h s) (yes k) = absurd (I.places S.at.proc S.at.place i b.cell b.at.2 k (sym h))
      by (dud h s) (no k) = ([], fails o i (Stage.check_mark S) e tt refl S h s)

  -- a read of a written cell takes its place as it reads
  pub fetches : (o : Op) (i : ℕ) → W.w.lane q ≡ busy o i Stage.fetch → KeptAt G old_link W q o i Stage.fetch
  unfolding Kept
  fetches read i e = (
    Log.entry W.w q read i a ∷ [],
    Steps.end_quiet I q e _ (mild_look read i Stage.fetch e a (λ z. z) b.at.2 answers) a W.w.now refl (λ v z. absurd z)
        (Memᴰ.head refl),
  )
    where
      b : BusyOk G old_link W q read i Stage.fetch
      b = Steps.busy_ok I q e

      a : Ans
      a = fetched M i

      C : Certificate I i b.cell b.at.1
      C = swapped_cell I i b.cell b.at.1

      answers : a ≡ answer G.f (deeds W.log) read i
      answers = read_answers G.f W.log i _ _ C.holds C.is_written
  fetches asked i e = absurd (let h = (Steps.busy_ok I q e).at.0 in let y : ◌≡◌ {A = ℕ} 0 1 = cc in omega arith)
  fetches (write v) i e = absurd (let h = (Steps.busy_ok I q e).at.0 in let y : ◌≡◌ {A = ℕ} 0 1 = cc in omega arith)
