-- What callers may use of numbers in a file and of a file that was read, in place of the definitions' text.
-- Assumes nothing.
use Rattle.std.specs.Prelude.{◌≡◌, true, false, not, ◌&&◌, List, ℕ, ◌+◌, ◌*◌, ◌%◌, ◌^◌, ◌<◌, ◌≤◌, length, leb, Ok, Err}
use Rattle.std.proofs.Common.{sym, ap, ◌∙◌, div-add-mod', mul_comm, mul-le-mul_left, arith, ltb-false, leb-true, eqb-true}
use Rattle.std.proofs.lemmas.Bool.{not-false}
use Rattle.byte_lists.proofs.Digits.{Bytes, number_below}
use Rattle.numbers.specs.Numbers.{most_processes, most_cells}
use Rattle.numbers.specs.Cells.{one_to}
use Rattle.logic.specs.Truth.{and_left, and_right}
use Rattle.logic.specs.BelowLaws.{below_at}
use Rattle.refusals.specs.Laws.{None, past, orders_then}
use Rattle.refusals.specs.Orders.{orders}
use Rattle.refusals.specs.declared.Refusal.{Refusal}
use Rattle.qhs.specs.declared.Layout.{Layout}
use Rattle.qhs.specs.declared.Header.{Header}
use Rattle.qhs.specs.declared.Schedule.{Schedule as Read}
use Rattle.qhs.specs.Qhs.{version1, most_bytes, most_records, most_file_cells, most_kind, marked, version_of, header_of, record_in}
use Rattle.qhs.specs.Qhs.{body_bytes, records_in, kind_fits, kinds_fit, open_refusals, counts_as, Counts, file_refusals, Reading, scheduled, read_in, read_of}
use Rattle.qhs.specs.Inner.{Sound}

-- ---- p and m

-- What open's first two refusals come to, told from the outcome of their one test.
abbrev pub counted_as : {A : Type 0} → (Refusal → A) → A → Counts → A
counted_as refuse work (Err r) = refuse r
counted_as refuse work (Ok fit) = work

pub counted : {A : Type 0} (refuse : Refusal → A) (p m : ℕ) (work : A) → counted_as refuse work (counts_as p m) ≡ orders refuse (open_refusals p m) work
counted refuse p m work = orders_then (counted_as refuse work) Err (open_refusals p m) (Ok tt)

-- p and m that open does not refuse.
pub record Counted (p m : ℕ) : Type 0 where
  pub p_low : 1 ≤ p
  pub p_high : p ≤ most_processes
  pub m_low : 1 ≤ m
  pub m_high : m ≤ most_cells

within : (x high : ℕ) → not (one_to x high) ≡ false → (1 ≤ x) × (x ≤ high)
within x high h =
    let both = not-false (one_to x high) h in
    (leb-true 1 x (and_left (leb 1 x) (leb x high) both), leb-true x high (and_right (leb 1 x) (leb x high) both))

pub none_counted : (p m : ℕ) → None (open_refusals p m) → Counted p m
none_counted p m none =
    let p_in = within p most_processes none.0 in
    let m_in = within m most_cells none.1.0 in
    record { p_low = p_in.0; p_high = p_in.1; m_low = m_in.0; m_high = m_in.1 }

-- ---- a file that was read

pub version1_sound : Sound version1
version1_sound = record {
  header_low = omega arith;
  stride_low = omega arith;
  cell_high = omega arith;
  first_near = omega arith;
  step_near = omega arith;
  fill_near = omega arith;
  value_near = omega arith;
}

refused_not : (r : Refusal) (d : Header) (n : ℕ) → Err r ≡ scheduled d n → ⊥
refused_not r d n h = let z : ◌≡◌ {A = ℕ} 0 1 = cc in omega arith

-- What a schedule's header and its number of records satisfy.
pub record Schedule (l : Layout) (s : List ℕ) (d : Header) (n : ℕ) : Type 0 where
  pub mark : marked s ≡ true
  pub version_is : version_of s ≡ l.version
  pub header : d ≡ header_of l s
  pub counts : Counted d.p d.m
  pub m_few : d.m ≤ most_file_cells
  pub bytes : length s ≡ l.header + l.stride * n
  pub bytes_high : length s ≤ most_bytes
  pub n_high : n ≤ most_records
  pub kinds : (k : ℕ) → k < n → (record_in l s k).kind ≤ most_kind

-- whole records, as many as there are
whole_bytes : (l : Layout) (s : List ℕ) → l.header ≤ length s → body_bytes l s % l.stride ≡ 0 → length s ≡ l.header + l.stride * records_in l s
whole_bytes l s long whole =
    let all = div-add-mod' (body_bytes l s) l.stride in
    let turned = mul_comm (records_in l s) l.stride in
    omega arith

few_records : (l : Layout) (n len : ℕ) → Sound l → len ≡ l.header + l.stride * n → len ≤ most_bytes → n ≤ most_records
few_records l n len sound e fits =
    let low = mul-le-mul_left n sound.stride_low in
    let turned = mul_comm n l.stride in
    omega (arith, sound.header_low)

ok_is : {x y : Read} → ◌≡◌ {A = Reading} (Ok x) (Ok y) → x ≡ y
ok_is e = cc

schedule_in : (l : Layout) (s : List ℕ) (d : Header) (n : ℕ) → Sound l → read_in l s ≡ scheduled d n → Schedule l s d n
unfolding read_in
schedule_in l s d n sound e =
    let h = past Err (file_refusals l s) (scheduled (header_of l s) (records_in l s)) (scheduled d n) (λ r. refused_not r d n) e in
    let fits = h.0.0 in
    let after_mark = h.0.1.1 in
    let body = after_mark.1.1 in
    let same : (record { header = header_of l s; records = records_in l s }) ≡ (record { header = d; records = n }) = ok_is h.1 in
    let d_is : d ≡ header_of l s = sym (ap (λ (x : Read). x.header) same) in
    let n_is : n ≡ records_in l s = sym (ap (λ (x : Read). x.records) same) in
    let short = ltb-false most_bytes (length s) fits in
    let begins = not-false (leb l.header (length s) && marked s) h.0.1.0 in
    let long = leb-true l.header (length s) (and_left (leb l.header (length s)) (marked s) begins) in
    let whole = eqb-true (body_bytes l s % l.stride) 0 (not-false _ body.0) in
    let known = not-false (kinds_fit l s) body.1.0 in
    let bytes : length s ≡ l.header + l.stride * n = whole_bytes l s long whole ∙ rw n_is in
    record {
      mark = and_right (leb l.header (length s)) (marked s) begins;
      version_is = eqb-true (version_of s) l.version (not-false _ after_mark.0);
      header = d_is;
      counts = rw d_is (none_counted (header_of l s).p (header_of l s).m body.1.1);
      m_few = rw d_is (ltb-false most_file_cells (header_of l s).m after_mark.1.0);
      bytes = bytes;
      bytes_high = short;
      n_high = few_records l n (length s) sound bytes short;
      kinds = λ k low. leb-true _ _ (below_at (records_in l s) k (kind_fits l s) (rw (sym n_is) low) known);
    }

pub schedule : (s : List ℕ) (r : Reading) (d : Header) (n : ℕ) → r ≡ read_of s → r ≡ scheduled d n → Schedule version1 s d n
unfolding read_of
schedule s r d n e f = schedule_in version1 s d n version1_sound (sym e ∙ f)

-- Its numbers fit their types: first and step 32 bits, the fill 64.
pub record Words (d : Header) : Type 0 where
  pub first_fits : d.first < 2 ^ 32
  pub step_fits : d.step < 2 ^ 32
  pub fill_fits : d.fill < 2 ^ 64

pub words : (l : Layout) (s : List ℕ) → Bytes s → Words (header_of l s)
words l s b = record {
  first_fits = number_below s l.first 4 b;
  step_fits = number_below s l.step 4 b;
  fill_fits = number_below s l.fill 8 b;
}
