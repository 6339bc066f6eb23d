-- The starred examples of document 01 hold: one statement over one list of them.
-- Assumes nothing.
use Rattle.std.specs.Prelude.{List, [], ◌∷◌, ◌++◌, Bool, true, false, ◌&&◌, ◌≡◌, refl, ℕ, T, eqb}
use Rattle.numbers.specs.Numbers.{log_in, log2, segment_of, offset_of, size_of, process_of, place_of, fill_of}
use Rattle.logic.specs.Below.{below}
use Rattle.acts.specs.Calls.{lengths_fit, opening_of, begun_of, verdict_of}
use Rattle.acts.specs.Worlds.{grid, misfit, answer_to, after}
use Rattle.starred.specs.Play.{terms, Play, write, steps, shortened, opened, played, last_from, last, Seen, wrote, leaves, in_force, handed_out}
use Rattle.starred.specs.Play.{sees, refusal_of, opening}

-- What an example says.
pub data Example : Type 0 where
  -- the place lies in this segment, at this offset
  lies : (place segment offset : ℕ) → Example
  -- the link names this process and this place
  names : (link process place : ℕ) → Example
  -- the link names this process
  owned : (link process : ℕ) → Example
  -- by this first and step, the cell is filled with this reading
  filled : (first step cell reading : ℕ) → Example
  -- opening with these numbers gets this refusal
  refuses : (p m refusal : ℕ) → Example
  -- a step of this process with a pool one word short gets this refusal
  short : (p m process refusal : ℕ) → lengths_fit (terms p m) (shortened p m) ≡ false → Example
  -- a grid whose memory is filled with 0, worked by these calls, ends so
  plays : (p m : ℕ) → Play p m → List Seen → Example

pub holds : Example → Bool
holds (lies n s o) = eqb (segment_of n) s && eqb (offset_of n) o
holds (names w q n) = eqb (process_of w) q && eqb (place_of w) n
holds (owned w q) = eqb (process_of w) q
holds (filled first step i v) = eqb (fill_of first step i) v
holds (refuses p m r) = eqb (opening p m) r
holds (short p m q r h) = eqb (refusal_of (answer_to {z = terms p m} grid (opened p m) (misfit q (shortened p m) h))) r
holds (plays p m calls seen) = sees (played p m calls) (last p m calls) seen

pub all : List Example → Bool
all [] = true
all (e ∷ es) = holds e && all es

pub starred : List Example
starred =
    -- 1. Place 1 is segment 0 offset 1; 2 is segment 1 offset 0; 5 is segment 1 offset 3.
    lies 1 0 1 ∷ lies 2 1 0 ∷ lies 5 1 3
    -- 2. Place 131,072: segment 16, offset 2.
    ∷ lies 131072 16 2
    -- 3. Link 0 is process 0, place 0; all one bits is process 16,383.
    ∷ names 0 0 0 ∷ owned 18446744073709551615 16383
    -- 4. first 4,294,967,295, step 2: f(0) = 4,294,967,295, f(1) = 1.
    ∷ filled 4294967295 2 0 4294967295 ∷ filled 4294967295 2 1 1
    -- 5. Fill 0, p 1: the first write of cell 0 takes 9 steps, leaves link (0, 1), 2 marks in force.
    ∷ plays 1 2 (write 0 0 7 ++ steps 0 9) (wrote 9 ∷ leaves 0 0 1 ∷ in_force 0 2 ∷ [])
    -- 6. Then a write of cell 1 takes 10.
    ∷ plays 1 2 (write 0 0 7 ++ steps 0 9 ++ write 0 1 8 ++ steps 0 10) (wrote 10 ∷ [])
    -- 7. p 17 with m 0: refusal 1. m 65,537: 2.
    ∷ refuses 17 0 1 ∷ refuses 16 65537 2
    -- 8. Step with short pool and process 16: 8.
    ∷ short 1 1 16 8 refl
    -- 9. Fill 0, p 2, m 2: process 0 writes cell 0; then 9 steps of its write of cell 1; process 1 writes cell 1 whole (10 steps);
    -- process 0 ends at its step 11. Marks in force 2 and 1; drawn 8.
    ∷ plays 2 2 (write 0 0 7 ++ steps 0 9 ++ write 0 1 8 ++ steps 0 9 ++ write 1 1 9 ++ steps 1 10) (wrote 10 ∷ [])
    ∷ plays 2 2 (write 0 0 7 ++ steps 0 9 ++ write 0 1 8 ++ steps 0 9 ++ write 1 1 9 ++ steps 1 10 ++ steps 0 2)
    (wrote 11 ∷ in_force 0 2 ∷ in_force 1 1 ∷ handed_out 8 ∷ [])
    ∷ []

pub starred_hold : T (all starred)
unfolding log_in log2 segment_of offset_of size_of below opening_of begun_of verdict_of after played last_from sees holds all starred
starred_hold = tt
