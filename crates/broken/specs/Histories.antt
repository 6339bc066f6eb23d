-- Histories: calls with their answers. One in which a reading vanishes has no one order: a test that computes.
-- Assumes nothing.
use Rattle.std.specs.Prelude.{ℕ, ◌≡◌, refl, ◌⊎◌, Bool, true, false, not, ◌&&◌, ltb, eqb, Ok, Err}
use Rattle.std.proofs.Common.{sym, ◌∙◌, subst, inl, inr, arith, ltb-true, eqb-true, eq-eqb}
use mathlib.Core.List.Memᴰ
use mathlib.Core.List.{List, [], ◌∷◌, Memᴰ}
use Rattle.std.proofs.Math.Decide.{ℕ_discrete}
use Rattle.logic.specs.Truth.{and_left, and_right}
use Rattle.logic.specs.Pick.{pick}
use Rattle.numbers.specs.Cells.{index_of}
use Rattle.acts.specs.Calls.{cell_of}
use Rattle.theory.specs.Interface as Theory
use Rattle.theory.specs.Interface.{Op, read, asked, write, Ans, got, told, done, Done}
use Rattle.demands.specs.Types.{Terms, State, Ask, Answer, Response}
use Rattle.demands.specs.Kinds.{ask_op, writing}
use Rattle.acts.specs.Worlds.{Machine, Call, begin, step, misfit, World, answer_to, world_after}
use Rattle.demands.specs.Book.{Doing, nothing, busy, Book, blank, passed, finished, note_begin, note_step, goes_on, ends, noted, Run, next, run}
use Rattle.demands.specs.Demand2.{OneOrder}
use Rattle.demands.specs.Vanishing.{Shows, Wrote, once, still, Knows}
use Rattle.bridge.specs.Vanish.{nothing_vanishes}

-- A call, and what was answered.
pub record Heard (z : Terms) : Type 0 where
  pub call : Call Ask z
  pub answer : Response

abbrev pub hear : {z : Terms} → Call Ask z → Response → Heard z
hear c x = record { call = c; answer = x }

-- The book kept of a history, and the history of a machine.
unfoldable pub recount : {z : Terms} → Book → List (Heard z) → Book
recount b [] = b
recount b (h ∷ hs) = recount (noted writing b h.call h.answer) hs

unfoldable pub history : {z : Terms} → Machine State Ask → World State → List (Call Ask z) → List (Heard z)
history M w [] = []
history M w (c ∷ cs) = hear c (answer_to M w c) ∷ history M (world_after M w c) cs

pub run_book : {z : Terms} (M : Machine State Ask) (r : Run State) (cs : List (Call Ask z))
    → (run writing M r cs).book ≡ recount r.book (history M r.world cs)
unfolding run recount history
run_book M r [] = refl
run_book M r (c ∷ cs) = run_book M (next writing M r c) cs

-- ---- nobody asks to write x in the cell at index i

abbrev pub asks : ℕ → ℕ → Op → ℕ → Bool
asks i x read c = false
asks i x asked c = false
asks i x (write v) c = eqb v x && eqb c i

abbrev pub quiet_call : {z : Terms} → ℕ → ℕ → Call Ask z → Bool
quiet_call {z} i x (begin q a) = not (asks i x (ask_op a) (index_of z (cell_of a)))
quiet_call i x (step q) = true
quiet_call i x (misfit q mem h) = true

unfoldable pub quiet : {z : Terms} → ℕ → ℕ → List (Heard z) → Bool
quiet i x [] = true
quiet i x (h ∷ hs) = quiet_call i x h.call && quiet i x hs

module _ (i x : ℕ) where
  abbrev Other : Op → ℕ → Type 0
  Other o c = o ≡ write x → c ≡ i → ⊥

  abbrev Still : Doing → Type 0
  Still nothing = Unit {0}
  Still (busy began o c taken) = Other o c

  record Quiet (b : Book) : Type 0 where
    ended : (d : Done) → Memᴰ d b.ended → Other d.op d.cell
    doing : (q : ℕ) → Still (b.doing q)

  other : (o : Op) (c : ℕ) → not (asks i x o c) ≡ true → Other o c
  other read c h e k = let y : ◌≡◌ {A = ℕ} 0 1 = cc in omega arith
  other asked c h e k = let y : ◌≡◌ {A = ℕ} 0 1 = cc in omega arith
  other (write v) c h e k =
      let v_is : v ≡ x = cc in
      let z : false ≡ true = rw (eq-eqb v x v_is, eq-eqb c i k) at h in
      absurd (let y : ◌≡◌ {A = ℕ} 0 1 = cc in omega arith)

  doing_upd : (f : ℕ → Doing) (q : ℕ) (d : Doing) → Still d → ((r : ℕ) → Still (f r)) → (r : ℕ) → Still (Theory.upd f q d r)
  doing_upd f q d h k r = by (ℕ_discrete r q)
    where
      by : Dec (r ≡ q) → Still (Theory.upd f q d r)
      by (yes e) = rw (e, Theory.upd_same f q d) h
      by (no e) = rw (Theory.upd_other f q d r e) (k r)

  -- an answer of any kind keeps the book quiet
  pass_quiet : {b : Book} → Quiet b → Quiet (passed b)
  pass_quiet Q = record { ended = Q.ended; doing = Q.doing }

  goes_quiet : {b : Book} (q : ℕ) (d : Doing) → Still d → Quiet b → Quiet (goes_on b q d)
  goes_quiet q nothing s Q = pass_quiet Q
  goes_quiet {b} q (busy began o c taken) s Q = record { ended = Q.ended; doing = doing_upd b.doing q _ s Q.doing }

  ends_quiet : {b : Book} (q : ℕ) (d : Doing) (y : Ans) → Still d → Quiet b → Quiet (ends b q d y)
  ends_quiet q nothing y s Q = pass_quiet Q
  ends_quiet {b} q (busy began o c taken) y s Q = record {
    ended = λ d m. by d (Memᴰ.cases_cons m);
    doing = doing_upd b.doing q nothing tt Q.doing;
  }
    where
      by : (d : Done) → (d ≡ finished b q began o c y) ⊎ Memᴰ d b.ended → Other d.op d.cell
      by d (inl e) = rw e s
      by d (inr m) = Q.ended d m

  begin_quiet : {b : Book} (q : ℕ) (o : Op) (c : ℕ) (y : Response) → Other o c → Quiet b → Quiet (note_begin b q o c y)
  begin_quiet {b} q o c (Ok Answer.Begun) s Q = record { ended = Q.ended; doing = doing_upd b.doing q _ s Q.doing }
  begin_quiet q o c (Ok Answer.Going) s Q = pass_quiet Q
  begin_quiet q o c (Ok (Answer.Read v t n)) s Q = pass_quiet Q
  begin_quiet q o c (Ok (Answer.Written n)) s Q = pass_quiet Q
  begin_quiet q o c (Ok (Answer.Asked t n)) s Q = pass_quiet Q
  begin_quiet q o c (Err r) s Q = pass_quiet Q

  step_quiet : {b : Book} (q : ℕ) (y : Response) → Quiet b → Quiet (note_step b q y)
  step_quiet q (Ok Answer.Begun) Q = pass_quiet Q
  step_quiet {b} q (Ok Answer.Going) Q = goes_quiet q (b.doing q) (Q.doing q) Q
  step_quiet {b} q (Ok (Answer.Read v t n)) Q = ends_quiet q (b.doing q) (got v t) (Q.doing q) Q
  step_quiet {b} q (Ok (Answer.Written n)) Q = ends_quiet q (b.doing q) done (Q.doing q) Q
  step_quiet {b} q (Ok (Answer.Asked t n)) Q = ends_quiet q (b.doing q) (told t) (Q.doing q) Q
  step_quiet q (Err r) Q = pass_quiet Q

  call_quiet : {z : Terms} {b : Book} (c : Call Ask z) (y : Response) → quiet_call i x c ≡ true → Quiet b → Quiet (noted writing b c y)
  call_quiet {z} (begin q a) y h Q = begin_quiet q (ask_op a) (index_of z (cell_of a)) y (other (ask_op a) (index_of z (cell_of a)) h) Q
  call_quiet (step q) y h Q = step_quiet q y Q
  call_quiet (misfit q mem k) y h Q = step_quiet q y Q

  stays_quiet : {z : Terms} (b : Book) (hs : List (Heard z)) → quiet i x hs ≡ true → Quiet b → Quiet (recount b hs)
  unfolding recount quiet
  stays_quiet b [] k Q = Q
  stays_quiet b (h ∷ hs) k Q =
      stays_quiet (noted writing b h.call h.answer) hs (and_right (quiet_call i x h.call) (quiet i x hs) k)
      (call_quiet h.call h.answer (and_left (quiet_call i x h.call) (quiet i x hs) k) Q)

  not_wrote : {b : Book} → Quiet b → Wrote b i x → ⊥
  not_wrote Q (once d m o c) = Q.ended d m o c
  not_wrote Q (still q began taken e) = subst Still e (Q.doing q) refl refl

-- ---- the test

abbrev pub any : (Done → Bool) → List Done → Bool
any P [] = false
any P (d ∷ ds) = pick (P d) true (any P ds)

found : (P : Done → Bool) (ds : List Done) → any P ds ≡ true → (d : Done) × Memᴰ d ds × (P d ≡ true)
found P [] h = absurd (let y : ◌≡◌ {A = ℕ} 0 1 = cc in omega arith)
found P (d ∷ ds) h = by (P d) refl h (found P ds)
  where
    by : (t : Bool) → P d ≡ t → pick t true (any P ds) ≡ true → (any P ds ≡ true → (e : Done) × Memᴰ e ds × (P e ≡ true))
        → (e : Done) × Memᴰ e (d ∷ ds) × (P e ≡ true)
    by true k h ih = (d, Memᴰ.head refl, k)
    by false k h ih = let r = ih h in (r.0, Memᴰ.tail r.1, r.2)

-- an answer shows a cell written that held y at first; an answer has it hold x, or be empty
abbrev pub shows : ℕ → Ans → Bool
shows y (got x t) = pick t true (not (eqb x y))
shows y (told t) = t
shows y done = true

abbrev pub denies : ℕ → Ans → Bool
denies x (got v t) = pick t (eqb v x) true
denies x (told t) = not t
denies x done = false

abbrev pub later : ℕ → ℕ → Done → Done → Bool
later i x d e = ltb d.ended e.began && (eqb e.cell i && denies x e.ans)

abbrev pub earlier : ℕ → ℕ → ℕ → List Done → Done → Bool
earlier y i x ds d = eqb d.cell i && (shows y d.ans && any (later i x d) ds)

-- cell i was shown written, and an operation that began later found x in it, which nobody wrote there, or nothing
abbrev pub vanished : ℕ → ℕ → ℕ → List Done → Bool
vanished y i x ds = any (earlier y i x ds) ds

pub no_one_order : {z : Terms} (f : ℕ → ℕ) (i x : ℕ) (hs : List (Heard z)) → quiet i x hs ≡ true → vanished (f i) i x (recount blank hs).ended ≡ true
    → OneOrder f (recount blank hs) → ⊥
no_one_order f i x hs q v O =
    denied e.0.ans knows (and_right (eqb e.0.cell i) (denies x e.0.ans) (and_right (ltb d.0.ended e.0.began) _ e.2))
  where
    b : Book
    b = recount blank hs

    Q : Quiet i x b
    Q = stays_quiet i x blank hs q (record { ended = λ d m. elim m [ ]; doing = λ q. tt })

    d : (d : Done) × Memᴰ d (recount blank hs).ended × (earlier (f i) i x (recount blank hs).ended d ≡ true)
    d = found (earlier (f i) i x (recount blank hs).ended) (recount blank hs).ended v

    e : (e : Done) × Memᴰ e (recount blank hs).ended × (later i x d.0 e ≡ true)
    e = found (later i x d.0) (recount blank hs).ended (and_right (shows (f i) d.0.ans) _ (and_right (eqb d.0.cell i) _ d.2))

    d_cell : d.0.cell ≡ i
    d_cell = eqb-true d.0.cell i (and_left (eqb d.0.cell i) _ d.2)

    e_cell : e.0.cell ≡ i
    e_cell = eqb-true e.0.cell i (and_left (eqb e.0.cell i) (denies x e.0.ans) (and_right (ltb d.0.ended e.0.began) _ e.2))

    showed : (a : Ans) → shows (f i) a ≡ true → Shows (f i) a
    showed (got v true) h = inr refl
    showed (got v false) h = inl (λ k. let z : false ≡ true = rw (eq-eqb v (f i) k) at h in absurd (let y : ◌≡◌ {A = ℕ} 0 1 = cc in omega arith))
    showed (told t) h = h
    showed done h = tt

    knows : Knows b i e.0.ans
    knows = subst (λ (c : ℕ). Knows b c e.0.ans) e_cell
        (nothing_vanishes f b O d.0 e.0 d.1 e.1
        (ltb-true d.0.ended e.0.began (and_left (ltb d.0.ended e.0.began) _ e.2))
        (d_cell ∙ sym e_cell)
        (subst (λ (c : ℕ). Shows (f c) d.0.ans) (sym e_cell)
        (showed d.0.ans (and_left (shows (f i) d.0.ans) _ (and_right (eqb d.0.cell i) _ d.2)))))

    denied : (a : Ans) → Knows b i a → denies x a ≡ true → ⊥
    denied (got v true) k h = not_wrote i x Q (subst (Wrote b i) (eqb-true v x h) k.0)
    denied (got v false) k h = let z : false ≡ true = k.1 in let y : ◌≡◌ {A = ℕ} 0 1 = cc in omega arith
    denied (told true) k h = let y : ◌≡◌ {A = ℕ} 0 1 = cc in omega arith
    denied (told false) k h = let y : ◌≡◌ {A = ℕ} 0 1 = cc in omega arith
    denied done k h = let y : ◌≡◌ {A = ℕ} 0 1 = cc in omega arith
