-- The numbers of the grid, as document 01 ("Numbers") has them.
-- Assumes nothing.
use Rattle.std.specs.Prelude.{ℕ, zero, suc, ◌+◌, ◌-◌, ◌*◌, ◌/◌, ◌%◌, ◌^◌, nat_lt}
use Rattle.logic.specs.Pick.{pick}

-- Processes p: 1 to 16.
abbrev pub most_processes : ℕ
most_processes = 16

-- Cells m: 1 to 65,536.
abbrev pub most_cells : ℕ
most_cells = 65536

-- Readings: any u32. A number beyond one is taken modulo 4,294,967,296.
abbrev pub wrapped : ℕ → ℕ
wrapped x = x % 4294967296

-- Filling rule: f(i) = (first + step × i) modulo 4,294,967,296, by a multiplication modulo the same.
abbrev pub product_of : ℕ → ℕ → ℕ
product_of a b = wrapped (a * b)

abbrev pub fill_of : ℕ → ℕ → ℕ → ℕ
fill_of first step i = wrapped (first + step * i)

-- A process draws 0 to 17 segments.
abbrev pub most_segments : ℕ
most_segments = 17

-- Lent memory: directory, 17p words.
abbrev pub directory_words : ℕ → ℕ
directory_words p = most_segments * p

-- Lent memory: pool, 4m + 2p words.
abbrev pub pool_words : ℕ → ℕ → ℕ
pool_words p m = 4 * m + 2 * p

-- A link holds a process number in its top 14 bits and a place in its low 50 bits.
abbrev pub link_processes : ℕ
link_processes = 2 ^ 14

abbrev pub link_places : ℕ
link_places = 2 ^ 50

abbrev pub link_of : ℕ → ℕ → ℕ
link_of q n = q % link_processes * link_places + n % link_places

abbrev pub process_of : ℕ → ℕ
process_of w = w / link_places

abbrev pub place_of : ℕ → ℕ
place_of w = w % link_places

-- A pool word holds a cell number, or the tombstone.
abbrev pub tombstone : ℕ
tombstone = 4294967295

-- Marks in force: 0 to 2m + 1.
abbrev pub most_marks : ℕ → ℕ
most_marks m = 2 * m + 1

-- Own steps so far: 0 to 10.
abbrev pub most_steps : ℕ
most_steps = 10

-- floor(log2 n): how often n can be halved before it is below 2; n halvings are enough.
unfoldable pub log_in : ℕ → ℕ → ℕ
log_in zero n = 0
log_in (suc halvings) n = pick (nat_lt n 2) 0 (suc (log_in halvings (n / 2)))

unfoldable pub log2 : ℕ → ℕ
log2 n = log_in n n

-- Place n lies in segment s = floor(log2(n + 2)) − 1.
unfoldable pub segment_of : ℕ → ℕ
segment_of n = log2 (n + 2) - 1

-- At offset n + 2 − 2^(s+1).
unfoldable pub offset_of : ℕ → ℕ
offset_of n = (n + 2) - 2 ^ (segment_of n + 1)

-- Segment s has 2^(s+1) words.
unfoldable pub size_of : ℕ → ℕ
size_of s = 2 ^ (s + 1)

-- The words of the segments below s together.
unfoldable pub sizes_below : ℕ → ℕ
sizes_below zero = 0
sizes_below (suc s) = sizes_below s + size_of s

-- Directory word 17 × process + s holds where in the pool the segment starts.
abbrev pub directory_word : ℕ → ℕ → ℕ
directory_word q s = most_segments * q + s
