-- A line tells its refusal: no other answer has the line of a refusal.
-- Assumes nothing.
use Rattle.std.specs.Prelude.{ℕ, ◌≡◌, ◌≢◌, List, ◌++◌, length, take, drop, get_or, Ok, Err}
use Rattle.std.proofs.Common.{sym, ap, ◌∙◌, arith, length-append}
use Rattle.std.proofs.Math.Seq.{take-append_seam, drop-append_seam}
use Rattle.refusals.specs.Numbers.{refusal_of, number_of}
use Rattle.refusals.specs.Laws.{refusal_back}
use Rattle.byte_lists.specs.Bytes.{word, newline, decimal}
use Rattle.byte_lists.specs.Decimals.{read_onto, decimal_read}
use Rattle.text.specs.Text.{saying, answer_line}
use Rattle.demands.specs.Types.{Refusal, Answer, Response}

same_back : (xs ys zs : List ℕ) → xs ++ ys ≡ xs ++ zs → ys ≡ zs
same_back xs ys zs e = sym (drop-append_seam xs ys) ∙ ap (drop (length xs)) e ∙ drop-append_seam xs zs

same_front : (xs ys zs : List ℕ) → xs ++ zs ≡ ys ++ zs → xs ≡ ys
same_front xs ys zs e =
    let k : length xs ≡ length ys = omega (arith, length-append xs zs, length-append ys zs, ap length e) in
    sym (take-append_seam xs zs) ∙ ap (take (length xs)) e ∙ ap (λ (n : ℕ). take n (ys ++ zs)) k ∙ take-append_seam ys zs

same_number : (r r' : Refusal) → decimal (number_of r) ≡ decimal (number_of r') → r ≡ r'
same_number r r' e =
    let k : number_of r ≡ number_of r' = sym (decimal_read (number_of r)) ∙ ap (read_onto 0) e ∙ decimal_read (number_of r') in
    sym (refusal_back r) ∙ ap refusal_of k ∙ refusal_back r'

-- Of all answers a refusal alone has an f for its third letter.
abbrev third : Response → ℕ
third a = get_or (saying a) 2 0

another : (a : Response) (r : Refusal) → third a ≢ 102 → saying a ≡ saying (Err r) → a ≡ Err r
another a r other e = absurd (other (ap (λ (l : List ℕ). get_or l 2 0) e))

says_refused : (a : Response) (r : Refusal) → saying a ≡ saying (Err r) → a ≡ Err r
says_refused (Ok Answer.Begun) r e = another (Ok Answer.Begun) r (λ k. let y : ⊥ = omega arith in y) e
says_refused (Ok Answer.Going) r e = another (Ok Answer.Going) r (λ k. let y : ⊥ = omega arith in y) e
says_refused (Ok (Answer.Read v b n)) r e = another (Ok (Answer.Read v b n)) r (λ k. let y : ⊥ = omega arith in y) e
says_refused (Ok (Answer.Written n)) r e = another (Ok (Answer.Written n)) r (λ k. let y : ⊥ = omega arith in y) e
says_refused (Ok (Answer.Asked b n)) r e = another (Ok (Answer.Asked b n)) r (λ k. let y : ⊥ = omega arith in y) e
says_refused (Err r') r e = ap Err (same_number r' r (same_back (word "refused ") (decimal (number_of r')) (decimal (number_of r)) e))

pub line_refused : (k : ℕ) (a : Response) (r : Refusal) → answer_line k a ≡ answer_line k (Err r) → a ≡ Err r
unfolding answer_line
line_refused k a r e =
    let x = saying (Err r) in
    says_refused a r (same_front (saying a) x newline (same_back (word " ") (saying a ++ newline) (x ++ newline) (same_back (decimal k) _ _ e)))
