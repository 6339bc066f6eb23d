-- The grid's machine: what each step does, one shared word at a time, with the marks kept by lane and place.
-- Assumes nothing.
use Rattle.std.specs.Prelude.{◌≡◌, ◌≢◌, Bool, true, false, List, [], ◌∷◌, ℕ, suc, ◌+◌, ◌*◌, ◌^◌, ◌<◌}
use Rattle.std.proofs.Math.Decide.{ℕ_discrete, dec_lt}
use Rattle.theory.specs.Base.{pick, upd}
use Rattle.theory.specs.Array.{Op, read, asked, write, Ans, got, told, done}
use Rattle.theory.specs.Order.{Done}
use Rattle.theory.specs.Shape.{Shape}

-- what is fixed when a grid is opened: processes, cells, filling rule, the word that marks a cell, the tombstone,
-- and the segments' shape
pub record Grid : Type 0 where
  pub p : ℕ
  pub m : ℕ
  pub f : ℕ → ℕ
  pub code : ℕ → ℕ
  pub grave : ℕ
  pub shape : Shape

-- the marks in force of a lane at most, and the words of the pool
abbrev pub most_marks : Grid → ℕ
most_marks G = 2 * G.m + 1

abbrev pub pool_words : Grid → ℕ
pool_words G = 4 * G.m + 2 * G.p

-- what a grid has to be: marks tell the cells apart, the tombstone is no mark, and the segments suffice
pub record Lawful (G : Grid) : Type 0 where
  pub inj : (i j : ℕ) → i < G.m → j < G.m → G.code i ≡ G.code j → i ≡ j
  pub apart : (i : ℕ) → i < G.m → G.grave ≢ G.code i
  pub enough : 2 * G.m + 2 < 2 ^ suc G.shape.segments

pub record Link : Type 0 where
  pub proc : ℕ
  pub place : ℕ

abbrev pub mk : ℕ → ℕ → Link
mk q n = record { proc = q; place = n }

-- what (a) found, which an operation remembers
pub record Seen : Type 0 where
  pub at : Link

-- Rules 3 to 8 of a write, at a place of the own lane. `draw` and `enter` say whether the tombstone is stored already.
pub data Marking : Type 0 where
  draw : Bool → Seen → ℕ → Marking
  enter : Bool → Seen → ℕ → Marking
  tombstone : Seen → ℕ → Marking
  mark : Seen → ℕ → Marking
  force : Seen → ℕ → Marking
  swap : Seen → ℕ → Marking
  take_back : ℕ → Marking

-- Where an operation stands. The check is (a) to (d).
pub data Stage : Type 0 where
  store : Stage
  check_link : Stage
  check_marks : Seen → Stage
  check_directory : Seen → Stage
  check_mark : Seen → Stage
  fetch : Stage
  marking : Marking → Stage

pub data Lane : Type 0 where
  idle : Lane
  busy : Op → ℕ → Stage → Lane

-- the shared words: readings, links, and of each lane the marks in force, the segments drawn, and the mark at each place
pub record Mem : Type 0 where
  pub reading : ℕ → ℕ
  pub link : ℕ → Link
  pub in_force : ℕ → ℕ
  pub drawn : ℕ → ℕ
  pub marks : ℕ → ℕ → ℕ

-- the one shared word that a step changes (the last three: of the stepping process's own lane)
pub data Change : Type 0 where
  keep : Change
  set_reading : ℕ → ℕ → Change
  set_link : ℕ → Link → Change
  set_in_force : ℕ → Change
  set_drawn : ℕ → Change
  set_mark : ℕ → ℕ → Change

pub data Next : Type 0 where
  go : Stage → Next
  end : Ans → Next

pub record Turn : Type 0 where
  pub change : Change
  pub next : Next

abbrev pub turn_to : Change → Next → Turn
turn_to c n = record { change = c; next = n }

abbrev pub poke : Mem → ℕ → Change → Mem
poke M q keep = M
poke M q (set_reading i v) =
    record { reading = upd M.reading i v; link = M.link; in_force = M.in_force; drawn = M.drawn; marks = M.marks }
poke M q (set_link i L) =
    record { reading = M.reading; link = upd M.link i L; in_force = M.in_force; drawn = M.drawn; marks = M.marks }
poke M q (set_in_force n) =
    record { reading = M.reading; link = M.link; in_force = upd M.in_force q n; drawn = M.drawn; marks = M.marks }
poke M q (set_drawn k) =
    record { reading = M.reading; link = M.link; in_force = M.in_force; drawn = upd M.drawn q k; marks = M.marks }
poke M q (set_mark n c) =
    record { reading = M.reading; link = M.link; in_force = M.in_force; drawn = M.drawn; marks = upd M.marks q (upd (M.marks q) n c) }

-- two links are the same or not
unfoldable pub same_link : (a b : Link) → Dec (a ≡ b)
same_link a b = both (ℕ_discrete a.proc b.proc) (ℕ_discrete a.place b.place)
  where
    both : Dec (a.proc ≡ b.proc) → Dec (a.place ≡ b.place) → Dec (a ≡ b)
    both (yes e) (yes h) = yes (λ i. record { proc = e i; place = h i })
    both (yes e) (no h) = no (λ z. h (λ i. (z i).place))
    both (no e) d = no (λ z. e (λ i. (z i).proc))

abbrev pub word_of : Op → ℕ
word_of read = 0
word_of asked = 0
word_of (write v) = v

-- 4. A drawn place: where the tombstone is not stored yet and the remembered link is exactly this place, the tombstone;
-- else the mark.
abbrev pub use_place : Bool → ℕ → Seen → ℕ → Marking
use_place true q S n = mark S n
use_place false q S n = pick (same_link S.at (mk q n)) (tombstone S n) (mark S n)

-- what (a) sees of a cell
abbrev pub look : Mem → ℕ → Seen
look M i = record { at = M.link i }

-- what a read of a written cell answers
abbrev pub fetched : Mem → ℕ → Ans
fetched M i = got (M.reading i) true

-- how an operation goes on once its cell is known to be written
abbrev pub passed : Op → Next
passed read = go fetch
passed asked = end (told true)
passed (write v) = end done

module _ (G : Grid) where
  -- 3. A place whose segment is not drawn is drawn first.
  abbrev pub plan : Bool → Mem → ℕ → Seen → ℕ → Marking
  plan s M q S n = pick (dec_lt (G.shape.seg n) (M.drawn q)) (use_place s q S n) (draw s S n)

  -- how an operation goes on once its check has failed
  abbrev pub failed : Mem → ℕ → Op → ℕ → Seen → Next
  failed M q read i S = end (got (G.f i) false)
  failed M q asked i S = end (told false)
  failed M q (write v) i S = go (marking (plan false M q S (M.in_force q)))

  -- 3 to 8, one step of process q
  abbrev pub mark_turn : Mem → ℕ → Op → ℕ → Marking → Turn
  mark_turn M q o i (draw s S n) = turn_to (set_drawn (suc (G.shape.seg n))) (go (marking (enter s S n)))
  mark_turn M q o i (enter s S n) = turn_to keep (go (marking (use_place s q S n)))
  mark_turn M q o i (tombstone S n) = turn_to (set_mark n G.grave) (go (marking (plan true M q S (suc n))))
  mark_turn M q o i (mark S n) = turn_to (set_mark n (G.code i)) (go (marking (force S n)))
  mark_turn M q o i (force S n) = turn_to (set_in_force (suc n)) (go (marking (swap S n)))
  mark_turn M q o i (swap S n) =
      pick (same_link (M.link i) S.at) (turn_to (set_link i (mk q n)) (passed o)) (turn_to keep (go (marking (take_back n))))
  mark_turn M q o i (take_back n) = turn_to (set_in_force n) (passed o)

  -- one step of process q at a stage of its operation on cell i
  abbrev pub take_turn : Mem → ℕ → Op → ℕ → Stage → Turn
  take_turn M q o i store = turn_to (set_reading i (word_of o)) (go check_link)
  take_turn M q o i check_link =
      turn_to keep (pick (dec_lt (M.link i).proc G.p) (go (check_marks (look M i))) (failed M q o i (look M i)))
  take_turn M q o i (check_marks S) =
      turn_to keep (pick (dec_lt S.at.place (M.in_force S.at.proc)) (go (check_directory S)) (failed M q o i S))
  take_turn M q o i (check_directory S) = turn_to keep (go (check_mark S))
  take_turn M q o i (check_mark S) =
      turn_to keep (pick (ℕ_discrete (M.marks S.at.proc S.at.place) (G.code i)) (passed o) (failed M q o i S))
  take_turn M q o i fetch = turn_to keep (end (fetched M i))
  take_turn M q o i (marking k) = mark_turn M q o i k

-- a run so far: the machine, how many calls were made, the call that began each lane's operation, and what has ended
pub record Watch : Type 0 where
  pub mem : Mem
  pub lane : ℕ → Lane
  pub now : ℕ
  pub since : ℕ → ℕ
  pub ended : List Done

abbrev pub first_stage : Op → Stage
first_stage read = check_link
first_stage asked = check_link
first_stage (write v) = store

abbrev pub next_lane : Op → ℕ → Next → Lane
next_lane o i (go g) = busy o i g
next_lane o i (end a) = idle

abbrev pub finish : Watch → ℕ → Op → ℕ → Next → List Done
finish w q o i (go g) = w.ended
finish w q o i (end a) = record { began = w.since q; ended = w.now; who = q; op = o; cell = i; ans = a } ∷ w.ended

-- a refused call: time passes
abbrev pub pass : Watch → Watch
pass w = record { mem = w.mem; lane = w.lane; now = suc w.now; since = w.since; ended = w.ended }

abbrev pub started : Watch → ℕ → Op → ℕ → Watch
started w q o i = record {
  mem = w.mem;
  lane = upd w.lane q (busy o i (first_stage o));
  now = suc w.now;
  since = upd w.since q w.now;
  ended = w.ended;
}

abbrev pub stepped : Watch → ℕ → Op → ℕ → Turn → Watch
stepped w q o i t = record {
  mem = poke w.mem q t.change;
  lane = upd w.lane q (next_lane o i t.next);
  now = suc w.now;
  since = w.since;
  ended = finish w q o i t.next;
}

-- a grid as opened: any old words, no marks in force, nothing drawn, no operation under way
unfoldable pub opened : (ℕ → ℕ) → (ℕ → Link) → (ℕ → ℕ → ℕ) → Watch
opened readings links marks = record {
  mem = record { reading = readings; link = links; in_force = λ q. 0; drawn = λ q. 0; marks = marks };
  lane = λ q. idle;
  now = 0;
  since = λ q. 0;
  ended = [];
}
