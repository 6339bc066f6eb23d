-- An answer comes back from its word.
-- Assumes nothing.
use Rattle.std.specs.Prelude.{ℕ, ◌+◌, ◌*◌, ◌/◌, ◌%◌, ◌<◌, ◌≡◌, refl, Bool, true, false, eqb, Ok, Err}
use Rattle.std.proofs.Common.{ap, ◌∙◌, arith}
use Rattle.refusals.specs.Numbers.{number_of}
use Rattle.refusals.specs.Laws.{refusal_back, number_below}
use Rattle.refusals.specs.declared.Refusal.{Refusal}
use Rattle.acts.specs.declared.Answer.{Answer}
use Rattle.batch.specs.Batch.{code_with, bit, code_of, answer_as, answer_of}
use Rattle.acts.specs.Calls.{Response}

-- An answer's steps; 0 where it has none.
abbrev pub steps_of : Response → ℕ
steps_of (Ok Answer.Begun) = 0
steps_of (Ok Answer.Going) = 0
steps_of (Ok (Answer.Read v b n)) = n
steps_of (Ok (Answer.Written n)) = n
steps_of (Ok (Answer.Asked b n)) = n
steps_of (Err r) = 0

pub number_few : (r : Refusal) → number_of r < 256
number_few r = omega (arith, number_below r)

-- the parts of a word are what it was made of
parts_back : (kind count flag value : ℕ) → kind < 256 → count < 256 → flag < 256
    → answer_of (code_with kind (count + 256 * flag) value) ≡ answer_as kind count flag value
unfolding answer_of
parts_back kind count flag value h k l =
    let e : code_with kind (count + 256 * flag) value % 256 ≡ kind = omega arith in
    let d : code_with kind (count + 256 * flag) value / 256 ≡ count + 256 * flag + 16777216 * value = omega arith in
    let f : (count + 256 * flag + 16777216 * value) % 256 ≡ count = omega arith in
    let a : code_with kind (count + 256 * flag) value / 65536 ≡ flag + 65536 * value = omega arith in
    let b : (flag + 65536 * value) % 256 ≡ flag = omega arith in
    let g : code_with kind (count + 256 * flag) value / 4294967296 ≡ value = omega arith in
    rw (e, d, f, a, b, g)

-- a word without a flag
plain_back : (kind count value : ℕ) → kind < 256 → count < 256 → answer_of (code_with kind count value) ≡ answer_as kind count 0 value
plain_back kind count value h k =
    let e : count ≡ count + 256 * 0 = omega arith in
    ap (λ (c : ℕ). answer_of (code_with kind c value)) e ∙ parts_back kind count 0 value h k (omega arith)

bit_back : (b : Bool) → eqb (bit b) 1 ≡ b
bit_back true = refl
bit_back false = refl

bit_few : (b : Bool) → bit b < 256
bit_few true = omega arith
bit_few false = omega arith

-- Steps that fit a byte come back, and so does all the rest.
pub answer_back : (a : Response) → steps_of a < 256 → answer_of (code_of a) ≡ a
answer_back (Ok Answer.Begun) h = plain_back 0 0 0 (omega arith) (omega arith)
answer_back (Ok Answer.Going) h = plain_back 1 0 0 (omega arith) (omega arith)
answer_back (Ok (Answer.Read v b n)) h = parts_back 2 n (bit b) v (omega arith) h (bit_few b) ∙ rw (bit_back b)
answer_back (Ok (Answer.Written n)) h = plain_back 3 n 0 (omega arith) h
answer_back (Ok (Answer.Asked b n)) h = plain_back 4 n (bit b) (omega arith) h ∙ rw (bit_back b)
answer_back (Err r) h = plain_back 5 (number_of r) 0 (omega arith) (number_few r) ∙ rw (refusal_back r)
