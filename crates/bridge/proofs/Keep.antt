-- A refused call, a beginning and a step keep what is good.
-- Assumes nothing.
use Rattle.std.specs.Prelude.{ℕ, suc, ◌≤◌, ◌<◌, ◌≡◌, refl, get_or, set}
use Rattle.std.proofs.Common.{arith, get_or-set_other, sym, ap, ◌∙◌, subst, length-set}
use Rattle.lanes.specs.Ranges.{rest, lane_of}
use Rattle.numbers.specs.Cells.{index_of}
use Rattle.acts.specs.Calls.{with_op, cell_of, op_of, settled}
use Rattle.theory.proofs.Interface as Theory
use Rattle.demands.specs.Types.{Terms, Op, Lane, State, Memory, Ask}
use Rattle.demands.specs.Kinds.{ask_op}
use Rattle.demands.specs.Book.{Doing, nothing, busy, Book, passed, begun}
use Rattle.demands.specs.Agrees.{Does, LaneAgrees}
use Rattle.bridge.specs.Shadow.{stage_of, lane_for, since_of, taken_of, mem_of, shadow}
use Rattle.bridge.proofs.ShadowLaws.{lane_set, lane_all, upd_self}
use Rattle.bridge.proofs.Good.{Held, Good, Later, law, inside, behind}

-- ---- a refused call

pub good_pass : {s : State} {mem : Memory} {b : Book} (H : Good s mem b) → Later H s mem (passed b)
good_pass H = let L = Theory.whole_pass (law H) H.whole in
    record {
      good = record {
        bounds = H.bounds;
        lanes = H.lanes;
        lengths = H.lengths;
        agrees = H.agrees;
        beyond = H.beyond;
        marks = H.marks;
        held = H.held;
        holds = H.holds;
        whole = L.whole;
      };
      grown = L.grown;
    }

-- ---- a field of the lanes, where process q's lane becomes l

module _ {s : State} {mem : Memory} {b : Book} (H : Good s mem b) (q : ℕ) (hq : q < s.terms.p) (l : Lane) (h : Lane → ℕ) where
  pub field_set : (x : ℕ) → h l ≡ x
      → ◌≡◌ {A = ℕ → ℕ} (Theory.upd (λ r. h (lane_of s r)) q x) (λ r. h (get_or (set s.lanes q l) r rest))
  field_set x e = ap (Theory.upd (λ r. h (lane_of s r)) q) (sym e) ∙ lane_set b.doing s.lanes q nothing l (inside H q hq) (λ d l. h l)

  pub field_same : h l ≡ h (lane_of s q) → ◌≡◌ {A = ℕ → ℕ} (λ r. h (lane_of s r)) (λ r. h (get_or (set s.lanes q l) r rest))
  field_same e = sym (upd_self (λ r. h (lane_of s r)) q (h (lane_of s q)) refl) ∙ field_set (h (lane_of s q)) e

-- the shared words, part by part
pub mem_as : {r r' : ℕ → ℕ} {k k' : ℕ → Theory.Link} {f f' d d' : ℕ → ℕ} {marks : ℕ → ℕ → ℕ} → r ≡ r' → k ≡ k' → f ≡ f' → d ≡ d'
    → ◌≡◌ {A = Theory.Mem} (record { reading = r; link = k; in_force = f; drawn = d; marks = marks })
    (record { reading = r'; link = k'; in_force = f'; drawn = d'; marks = marks })
mem_as {marks = marks} a b c e = λ z. record { reading = a z; link = b z; in_force = c z; drawn = e z; marks = marks }

-- a lane below p is changed: those from p on are as they were
pub beyond_set : {s : State} {mem : Memory} {b : Book} (H : Good s mem b) (q : ℕ) (hq : q < s.terms.p) (l : Lane) (r : ℕ) → s.terms.p ≤ r
    → get_or (set s.lanes q l) r rest ≡ rest
beyond_set {s} H q hq l r h = get_or-set_other s.lanes q r l rest (λ e. let y : ⊥ = omega arith in y) ∙ H.beyond r h

-- ---- a beginning

-- How an operation begins: at its first stage, with the cell that was asked, holding no start.
pub record Starts (z : Terms) (o : Theory.Op) (i : ℕ) (op : Op) : Type 0 where
  pub stage : Theory.first_stage o ≡ stage_of op
  pub does : Does z o i op
  pub held : (x : ℕ) → Held op x

pub starts : (z : Terms) (a : Ask) → Starts z (ask_op a) (index_of z (cell_of a)) (op_of a)
starts z (Ask.Read i) = record { stage = refl; does = refl; held = λ x. tt }
starts z (Ask.Write i v) = record { stage = refl; does = (refl, refl); held = λ x. tt }
starts z (Ask.Asked i) = record { stage = refl; does = refl; held = λ x. tt }

begins_tally : (b : Book) (q : ℕ) (o : Theory.Op) (i : ℕ)
    → Theory.tallied (record { cells = b.cells; procs = b.procs }) q o i ≡ record { cells = (begun b q o i).cells; procs = (begun b q o i).procs }
begins_tally b q Theory.read i = refl
begins_tally b q Theory.asked i = refl
begins_tally b q (Theory.write v) i = refl

module _ {s : State} {mem : Memory} {b : Book} (H : Good s mem b) (q : ℕ) (o : Theory.Op) (i : ℕ) (op : Op) (st : Starts s.terms o i op)
    (hq : q < s.terms.p) (free : b.doing q ≡ nothing) (hi : i < s.terms.m) where
  abbrev pub begun_lane : Lane
  begun_lane = with_op (lane_of s q) 0 op

  abbrev doing : Doing
  doing = busy b.now o i 0

  words_kept : (behind H).watch.mem ≡ mem_of (settled s q begun_lane s.top) mem H.marks
  words_kept = mem_as refl refl (field_same H q hq begun_lane (λ l. l.marks) refl) (field_same H q hq begun_lane (λ l. l.drawn) refl)

  begun_path : Theory.begin_run (behind H) q o i ≡ shadow (settled s q begun_lane s.top) mem (begun b q o i) H.marks H.held
  begun_path = λ z. record {
    watch = record {
      mem = words_kept z;
      lane = (ap (λ (g : Theory.Stage). Theory.upd (behind H).watch.lane q (Theory.busy o i g)) st.stage
          ∙ lane_set b.doing s.lanes q doing begun_lane (inside H q hq) (λ d l. lane_for d l.op)) z;
      now = suc b.now;
      since = lane_set b.doing s.lanes q doing begun_lane (inside H q hq) (λ d l. since_of d) z;
      ended = b.ended;
    };
    words = (behind H).words;
    tally = begins_tally b q o i z;
    taken = lane_set b.doing s.lanes q doing begun_lane (inside H q hq) (λ d l. taken_of d) z;
  }

  begun_whole : Theory.Later H.whole (shadow (settled s q begun_lane s.top) mem (begun b q o i) H.marks H.held)
  begun_whole =
      subst (λ (R : Theory.Run). Theory.Later H.whole R) begun_path
      (Theory.whole_begin (law H) H.whole q o i (ap (λ (d : Doing). lane_for d (lane_of s q).op) free) hq hi)

  pub good_begin : Later H (settled s q begun_lane s.top) mem (begun b q o i)
  good_begin = record {
    good = record {
      bounds = H.bounds;
      lanes = length-set s.lanes q begun_lane ∙ H.lanes;
      lengths = H.lengths;
      agrees = lane_all b.doing s.lanes q doing begun_lane (inside H q hq) (λ r d l. LaneAgrees s.terms l d) (st.does, refl) (λ r ne. H.agrees r);
      beyond = beyond_set H q hq begun_lane;
      marks = H.marks;
      held = H.held;
      holds = lane_all b.doing s.lanes q doing begun_lane (inside H q hq) (λ r d l. Held l.op (H.held r)) (st.held (H.held q)) (λ r ne. H.holds r);
      whole = begun_whole.whole;
    };
    grown = begun_whole.grown;
  }
