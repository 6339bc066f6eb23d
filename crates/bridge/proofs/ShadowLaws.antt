-- How tests, lists and links of the code look in the shadow.
-- Assumes nothing.
use Rattle.std.specs.Prelude.{ℕ, ◌/◌, ◌%◌, ◌<◌, ◌≤◌, ◌≡◌, refl, ◌≢◌, Bool, true, false, List, ltb, eqb, length, get_or, set}
use Rattle.std.proofs.Common.{sym, ap, ◌∙◌, arith, lt-ltb, le-ltb, eq-eqb, ne_eqb, get_or-set_same, get_or-set_other}
use Rattle.std.proofs.Math.Decide.{ℕ_discrete, dec_lt}
use Rattle.numbers.specs.Numbers.{most_cells, most_segments, link_processes, link_places, directory_word, link_of}
use Rattle.numbers.proofs.Laws.{process_link, place_link}
use Rattle.logic.specs.Pick.{pick}
use Rattle.lanes.specs.Ranges.{rest}
use Rattle.theory.proofs.Interface as Theory
use Rattle.demands.specs.Types.{Lane, Terms}
use Rattle.demands.specs.Book.{Doing}
use Rattle.bridge.specs.Shadow.{grid_of, pair_of, starts_in}

pub lawful : (z : Terms) → z.m ≤ most_cells → Theory.Lawful (grid_of z)
lawful z h = record { inj = λ i j hi hj e. e; apart = λ i hi e. let y : ⊥ = omega arith in y; enough = omega arith }

-- ---- a test of the code, and a decision of the theory

pub pick_yes : {X : Type 0} {C : Type 0} (d : Dec X) (a b : C) → X → Theory.pick d a b ≡ a
pick_yes (yes k) a b h = refl
pick_yes (no k) a b h = absurd (k h)

-- both branches have a property
pub pick_both : {A : Type 0} (P : A → Type 0) (t : Bool) (a b : A) → P a → P b → P (pick t a b)
pick_both P true a b x y = x
pick_both P false a b x y = y

module _ {A B : Type 0} (h : A → B) where
  pub pick_out : {X : Type 0} (d : Dec X) (a b : A) → h (Theory.pick d a b) ≡ Theory.pick d (h a) (h b)
  pick_out (yes k) a b = refl
  pick_out (no k) a b = refl

  pick_as : {X : Type 0} (d : Dec X) (t : Bool) (a b : A) → (X → t ≡ true) → ((X → ⊥) → t ≡ false) → Theory.pick d (h a) (h b) ≡ h (pick t a b)
  pick_as (yes k) t a b y n = rw (y k)
  pick_as (no k) t a b y n = rw (n k)

  pub pick_lt : (x y : ℕ) (a b : A) → Theory.pick (dec_lt x y) (h a) (h b) ≡ h (pick (ltb x y) a b)
  pick_lt x y a b = pick_as (dec_lt x y) (ltb x y) a b (lt-ltb x y) (λ n. le-ltb x y (omega arith))

  pub pick_eq : (x y : ℕ) (a b : A) → Theory.pick (ℕ_discrete x y) (h a) (h b) ≡ h (pick (eqb x y) a b)
  pick_eq x y a b = pick_as (ℕ_discrete x y) (eqb x y) a b (eq-eqb x y) (ne_eqb x y)

  -- two links, the second as the theory knows it
  pub pick_link : (w v : ℕ) (L : Theory.Link) (a b : A) → pair_of v ≡ L → Theory.pick (Theory.same_link (pair_of w) L) (h a) (h b) ≡ h (pick (eqb w v) a b)
  pick_link w v L a b e =
      pick_as (Theory.same_link (pair_of w) L) (eqb w v) a b (λ k. eq-eqb w v (pair_injective w v (k ∙ sym e))) (λ n. ne_eqb w v (λ z. n (ap pair_of z ∙ e)))
    where
      pair_injective : (x y : ℕ) → pair_of x ≡ pair_of y → x ≡ y
      pair_injective x y k =
          let hi : x / link_places ≡ y / link_places = ap (λ (L : Theory.Link). L.proc) k in
          let lo : x % link_places ≡ y % link_places = ap (λ (L : Theory.Link). L.place) k in
          omega arith

pub pair_link : (q n : ℕ) → q < link_processes → n < link_places → pair_of (link_of q n) ≡ Theory.mk q n
pair_link q n hq hn = λ z. record { proc = process_link q n hq hn z; place = place_link q n hq hn z }

-- ---- a store in a list

pub list_set : {A B : Type 0} (h : A → B) (xs : List A) (i : ℕ) (v d : A) → i < length xs
    → ◌≡◌ {A = ℕ → B} (Theory.upd (λ k. h (get_or xs k d)) i (h v)) (λ k. h (get_or (set xs i v) k d))
list_set h xs i v d l = λ z k. at k (ℕ_discrete k i) z
  where
    at : (k : ℕ) → Dec (k ≡ i) → Theory.upd (λ k. h (get_or xs k d)) i (h v) k ≡ h (get_or (set xs i v) k d)
    at k (yes e) = rw e (Theory.upd_same (λ k. h (get_or xs k d)) i (h v) ∙ ap h (sym (get_or-set_same xs i v d l)))
    at k (no e) = Theory.upd_other (λ k. h (get_or xs k d)) i (h v) k e ∙ ap h (sym (get_or-set_other xs i k v d e))

-- of a process: what it is doing, and its lane
module _ (doing : ℕ → Doing) (lanes : List Lane) (q : ℕ) (d : Doing) (l : Lane) (inside : q < length lanes) where
  pub lane_set : {B : Type 0} (h : Doing → Lane → B)
      → ◌≡◌ {A = ℕ → B} (Theory.upd (λ r. h (doing r) (get_or lanes r rest)) q (h d l)) (λ r. h (Theory.upd doing q d r) (get_or (set lanes q l) r rest))
  lane_set h = λ z r. at r (ℕ_discrete r q) z
    where
      at : (r : ℕ) → Dec (r ≡ q) → Theory.upd (λ r. h (doing r) (get_or lanes r rest)) q (h d l) r ≡ h (Theory.upd doing q d r) (get_or (set lanes q l) r rest)
      at r (yes e) =
          rw e
          (Theory.upd_same (λ r. h (doing r) (get_or lanes r rest)) q (h d l)
          ∙ ap (λ (x : Doing). h x l) (sym (Theory.upd_same doing q d))
          ∙ ap (h (Theory.upd doing q d q)) (sym (get_or-set_same lanes q l rest inside)))
      at r (no e) =
          Theory.upd_other (λ r. h (doing r) (get_or lanes r rest)) q (h d l) r e
          ∙ ap (λ (x : Doing). h x (get_or lanes r rest)) (sym (Theory.upd_other doing q d r e))
          ∙ ap (h (Theory.upd doing q d r)) (sym (get_or-set_other lanes q r l rest e))

  -- a property of every process
  pub lane_all : (P : ℕ → Doing → Lane → Type 0) → P q d l → ((r : ℕ) → r ≢ q → P r (doing r) (get_or lanes r rest))
      → (r : ℕ) → P r (Theory.upd doing q d r) (get_or (set lanes q l) r rest)
  lane_all P own others r = at (ℕ_discrete r q)
    where
      at : Dec (r ≡ q) → P r (Theory.upd doing q d r) (get_or (set lanes q l) r rest)
      at (yes e) = rw (e, Theory.upd_same doing q d, get_or-set_same lanes q l rest inside) own
      at (no e) = rw (Theory.upd_other doing q d r e, get_or-set_other lanes q r l rest e) (others r e)

pub upd_self : {A : Type 0} (f : ℕ → A) (q : ℕ) (v : A) → v ≡ f q → ◌≡◌ {A = ℕ → A} (Theory.upd f q v) f
upd_self f q v e = λ z r. at r (ℕ_discrete r q) z
  where
    at : (r : ℕ) → Dec (r ≡ q) → Theory.upd f q v r ≡ f r
    at r (yes k) = rw k (Theory.upd_same f q v ∙ e)
    at r (no k) = Theory.upd_other f q v r k

-- ---- the directory, by lane and segment

pub starts_set : (directory : List ℕ) (q s start : ℕ) → s < most_segments → directory_word q s < length directory
    → ◌≡◌ {A = ℕ → ℕ → ℕ} (Theory.upd (starts_in directory) q (Theory.upd (starts_in directory q) s start))
    (starts_in (set directory (directory_word q s) start))
starts_set directory q s start few inside = λ z r t. at r t (ℕ_discrete r q) (ℕ_discrete t s) z
  where
    away : (r t : ℕ) → (t < most_segments → directory_word r t ≢ directory_word q s)
        → starts_in directory r t ≡ starts_in (set directory (directory_word q s) start) r t
    away r t ne = by (dec_lt t most_segments)
      where
        by : (d : Dec (t < most_segments)) → Theory.pick d (get_or directory (directory_word r t) 0) 0
            ≡ Theory.pick d (get_or (set directory (directory_word q s) start) (directory_word r t) 0) 0
        by (yes k) = sym (get_or-set_other directory (directory_word q s) (directory_word r t) start 0 (ne k))
        by (no k) = refl

    at : (r t : ℕ) → Dec (r ≡ q) → Dec (t ≡ s)
        → Theory.upd (starts_in directory) q (Theory.upd (starts_in directory q) s start) r t ≡ starts_in (set directory (directory_word q s) start) r t
    at r t (yes a) (yes b) =
        rw (a, b, Theory.upd_same (starts_in directory) q (Theory.upd (starts_in directory q) s start), Theory.upd_same (starts_in directory q) s start)
        (sym (pick_yes (dec_lt s most_segments) (get_or (set directory (directory_word q s) start) (directory_word q s) 0) 0 few
        ∙ get_or-set_same directory (directory_word q s) start 0 inside))
    at r t (yes a) (no b) =
        rw (a, Theory.upd_same (starts_in directory) q (Theory.upd (starts_in directory q) s start), Theory.upd_other (starts_in directory q) s start t b)
        (away q t (λ k e. b (omega arith)))
    at r t (no a) b =
        rw (Theory.upd_other (starts_in directory) q (Theory.upd (starts_in directory q) s start) r a) (away r t (λ k e. a (omega arith)))
