-- The planners' text read back: its records are the heading and the written cells, and their fields the numbers.
-- Assumes nothing.
use Rattle.std.specs.Prelude.{ℕ, zero, suc, ◌/◌, ◌%◌, ◌<◌, ◌≤◌, ◌≡◌, refl, Bool, true, false, ◌&&◌, List, [], ◌∷◌, ◌++◌, map, ltb, length, Option, None, Some}
use Rattle.std.proofs.Common.{sym, ap, ◌∙◌, append_assoc, append-nil, arith, ltb-true, ltb-false, le-leb, ne_eqb}
use Rattle.lists.specs.Lists.{gathered}
use Rattle.lanes.specs.declared.State.{State}
use Rattle.quiet.specs.declared.Quarter.{Quarter}
use Rattle.steps.specs.Memory.{Memory}
use Rattle.byte_lists.specs.Bytes.{word, digit, decimal}
use Rattle.byte_lists.specs.Decimals.{decimal_low, decimal_step, decimal_long, decimal_read}
use Rattle.logic.specs.Pick.{pick}
use Rattle.planners_text.specs.PlannersText.{crlf, header, line_of, line_as, quarter_at, lines_below, text_of}
use Rattle.planners_text.specs.Rfc4180.{text_data, Record, Reader, reader, plain, next, run, finish, records_in}
use Rattle.planners_text.specs.Sheet.{Row, row, all, is_digit, is_number, row_in, joined, rows_in, headed, sheet_as}
use Rattle.planners_text.specs.Sheet.{sheet_in, written_as, written_below, heading, written_cells}
use Rattle.planners_text.specs.Claims.{ReadsBack}
use Rattle.planners_text.specs.Outcomes.{text_is}

-- ---- decimal text is digits

all_append : (f : ℕ → Bool) (xs ys : List ℕ) → all f xs ≡ true → all f ys ≡ true → all f (xs ++ ys) ≡ true
all_append f [] ys h k = k
all_append f (x ∷ xs) ys h k = by (f x) h (λ e. all_append f xs ys e k)
  where
    by : (b : Bool) → (b && all f xs) ≡ true → (all f xs ≡ true → all f (xs ++ ys) ≡ true) → (b && all f (xs ++ ys)) ≡ true
    by true e later = later e
    by false e later = e

-- a test that each digit passes is passed by all of a number's
module _ (f : ℕ → Bool) (h : (d : ℕ) → d < 10 → f (digit d) ≡ true) where
  all_in : (k n : ℕ) → n < k → all f (decimal n) ≡ true
  all_in zero n l = absurd (let y : ⊥ = omega arith in y)
  all_in (suc k) n l = by (ltb n 10) refl (λ a. all_in k (n / 10) a)
    where
      by : (b : Bool) → ltb n 10 ≡ b → (n / 10 < k → all f (decimal (n / 10)) ≡ true) → all f (decimal n) ≡ true
      by true e later = rw (decimal_low n (ltb-true n 10 e)) (simp (h n (ltb-true n 10 e)))
      by false e later =
          let t : 10 ≤ n = ltb-false n 10 e in
          rw (decimal_step n t)
          (all_append f (decimal (n / 10)) (digit (n % 10) ∷ []) (later (omega (arith, l))) (simp (h (n % 10) (omega arith))))

  all_decimal : (n : ℕ) → all f (decimal n) ≡ true
  all_decimal n = all_in (suc n) n (omega arith)

digit_is_text : (d : ℕ) → d < 10 → text_data (digit d) ≡ true
digit_is_text d h =
    let low : 32 ≤ digit d = omega arith in
    let high : digit d ≤ 126 = omega arith in
    let not_quote : digit d ≡ 34 → ⊥ = λ e. omega arith in
    let not_comma : digit d ≡ 44 → ⊥ = λ e. omega arith in
    simp (le-leb _ _ low, le-leb _ _ high, ne_eqb _ _ not_quote, ne_eqb _ _ not_comma)

digit_is_digit : (d : ℕ) → d < 10 → is_digit (digit d) ≡ true
digit_is_digit d h =
    let low : 48 ≤ digit d = omega arith in
    let high : digit d ≤ 57 = omega arith in
    simp (le-leb _ _ low, le-leb _ _ high)

decimal_some : (n : ℕ) → 0 < length (decimal n)
decimal_some zero = rw (decimal_low 0 (omega arith)) (omega arith)
decimal_some (suc n) = decimal_long 0 (suc n) (omega arith)

decimal_number : (n : ℕ) → is_number (decimal n) ≡ true
decimal_number n = by (decimal n) (decimal_some n) (all_decimal is_digit digit_is_digit n)
  where
    by : (xs : List ℕ) → 0 < length xs → all is_digit xs ≡ true → is_number xs ≡ true
    by [] h k = absurd (let y : ⊥ = omega arith in y)
    by (x ∷ xs) h k = k

-- ---- the reader over a line

run_append : (r : Reader) (xs ys : List ℕ) → run r (xs ++ ys) ≡ run (run r xs) ys
run_append r [] ys = refl
run_append r (x ∷ xs) ys = run_append (next r.place r x) xs ys

run_plain : (xs field : List ℕ) (fields : Record) (records : List Record) → all text_data xs ≡ true
    → run (reader plain field fields records) xs ≡ reader plain (field ++ xs) fields records
run_plain [] field fields records h = rw (append-nil field)
run_plain (x ∷ xs) field fields records h = by (text_data x) refl h (λ k. run_plain xs (field ++ (x ∷ [])) fields records k)
  where
    Later : Type 0
    Later = all text_data xs ≡ true → run (reader plain (field ++ (x ∷ [])) fields records) xs ≡ reader plain ((field ++ (x ∷ [])) ++ xs) fields records

    by : (b : Bool) → text_data x ≡ b → (b && all text_data xs) ≡ true → Later
        → run (reader plain field fields records) (x ∷ xs) ≡ reader plain (field ++ (x ∷ xs)) fields records
    by true e k later = rw e (later k ∙ ap (λ (l : List ℕ). reader plain l fields records) (append_assoc field (x ∷ []) xs))
    by false e k later = let z : false ≡ true = k in cc

abbrev fields_at : Row → Record
fields_at r = decimal r.cell ∷ (decimal r.reading ∷ [])

run_line : (i v : ℕ) (records : List Record) → run (reader plain [] [] records) (line_of i v) ≡ reader plain [] [] (records ++ (fields_at (row i v) ∷ []))
run_line i v records =
    run_append (reader plain [] [] records) (decimal i) (word "," ++ (decimal v ++ crlf))
    ∙ ap (λ (r : Reader). run r (word "," ++ (decimal v ++ crlf))) (run_plain (decimal i) [] [] records (all_decimal text_data digit_is_text i))
    ∙ run_append (reader plain [] (decimal i ∷ []) records) (decimal v) crlf
    ∙ ap (λ (r : Reader). run r crlf) (run_plain (decimal v) [] (decimal i ∷ []) records (all_decimal text_data digit_is_text v))

run_as : (i : ℕ) (q : Option Quarter) (records : List Record)
    → run (reader plain [] [] records) (line_as i q) ≡ reader plain [] [] (records ++ map fields_at (written_as i q))
run_as i None records = rw (append-nil records)
run_as i (Some q) records = by q.written
  where
    by : (b : Bool) → run (reader plain [] [] records) (pick b (line_of i q.reading) [])
        ≡ reader plain [] [] (records ++ map fields_at (pick b (row i q.reading ∷ []) []))
    by true = run_line i q.reading records
    by false = rw (append-nil records)

map_append : (xs ys : List Row) → map fields_at (xs ++ ys) ≡ map fields_at xs ++ map fields_at ys
map_append [] ys = refl
map_append (x ∷ xs) ys = ap (λ (l : List Record). fields_at x ∷ l) (map_append xs ys)

run_lines : (s : State) (mem : Memory) (n : ℕ) (records : List Record)
    → run (reader plain [] [] records) (lines_below s mem n) ≡ reader plain [] [] (records ++ map fields_at (written_below s mem n))
unfolding lines_below written_below gathered
run_lines s mem zero records = rw (append-nil records)
run_lines s mem (suc n) records =
    let here : List Row = written_as n (quarter_at s mem n) in
    let line : List ℕ = line_as n (quarter_at s mem n) in
    let below : List Record = map fields_at (written_below s mem n) in
    run_append (reader plain [] [] records) (lines_below s mem n) line
    ∙ ap (λ (r : Reader). run r line) (run_lines s mem n records)
    ∙ run_as n (quarter_at s mem n) (records ++ below)
    ∙ ap (λ (l : List Record). reader plain [] [] l)
    (append_assoc records below (map fields_at here) ∙ ap (λ (l : List Record). records ++ l) (sym (map_append (written_below s mem n) here)))

-- ---- the whole text

records_are : (s : State) (mem : Memory) → records_in (text_of s mem) ≡ Some (heading ∷ map fields_at (written_below s mem s.terms.m))
unfolding records_in text_of
records_are s mem =
    ap finish
    (run_append (reader plain [] [] []) header (lines_below s mem s.terms.m) ∙ run_lines s mem s.terms.m (heading ∷ []))

row_is : (r : Row) → row_in (fields_at r) ≡ Some r
row_is r = simp (decimal_number r.cell, decimal_number r.reading, decimal_read r.cell, decimal_read r.reading)

rows_are : (rows : List Row) → rows_in (map fields_at rows) ≡ Some rows
rows_are [] = refl
rows_are (r ∷ rows) =
    ap (λ (o : Option Row). joined o (rows_in (map fields_at rows))) (row_is r)
    ∙ ap (λ (o : Option (List Row)). joined (Some r) o) (rows_are rows)

pub read_back : (s : State) (mem : Memory) → sheet_in (text_of s mem) ≡ Some (written_cells s mem)
read_back s mem =
    ap sheet_as (records_are s mem)
    ∙ ap (λ (o : Option (List Row)). headed heading o) (rows_are (written_below s mem s.terms.m))

pub the_lines_are_the_written_cells : ReadsBack
the_lines_are_the_written_cells s mem out n o e = ap sheet_in (text_is s mem out n o e) ∙ read_back s mem
