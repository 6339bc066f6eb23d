-- Lists of bytes: numbers at a width, words, decimal numbers, and bytes put into a buffer.
-- Assumes nothing.
use Rattle.std.specs.Prelude.{ℕ, zero, suc, ◌+◌, ◌*◌, ◌/◌, ◌%◌, List, [], ◌∷◌, ◌++◌, ltb, leb, get_or, length, take, drop, Option, Some, None, unwrap_or}
use Prim.Native.Char.{code}
use Prim.Native.String.{String, [] as none, ◌∷◌ as ◌then◌}
use Rattle.logic.specs.Pick.{pick}

-- Byte i; one past the end counts as 0.
abbrev pub byte_at : List ℕ → ℕ → ℕ
byte_at bytes i = get_or bytes i 0

-- Little-endian: the number that `width` bytes hold from byte `at` on.
unfoldable pub number_at : List ℕ → ℕ → ℕ → ℕ
number_at bytes at zero = 0
number_at bytes at (suc width) = byte_at bytes at + 256 * number_at bytes (at + 1) width

-- Little-endian: the bytes of a number, `width` of them.
unfoldable pub bytes_of : ℕ → ℕ → List ℕ
bytes_of zero n = []
bytes_of (suc width) n = n % 256 ∷ bytes_of width (n / 256)

-- A word: the numbers of its characters.
abbrev pub word : String → List ℕ
word none = []
word (c then s) = code c ∷ word s

abbrev pub newline : List ℕ
newline = word "\n"

-- The byte of a digit: 48 is the character 0.
abbrev pub digit : ℕ → ℕ
digit d = 48 + d

-- A number in decimal: below ten its one digit, else its tenth in decimal and then its last digit. n + 1 digits are enough.
unfoldable pub decimal_in : ℕ → ℕ → List ℕ
decimal_in zero n = []
decimal_in (suc digits) n = pick (ltb n 10) (digit n ∷ []) (decimal_in digits (n / 10) ++ (digit (n % 10) ∷ []))

unfoldable pub decimal : ℕ → List ℕ
decimal n = decimal_in (suc n) n

-- A buffer with bytes put in at a place: what stands before and after them stays.
unfoldable pub splice : List ℕ → ℕ → List ℕ → List ℕ
splice out at bytes = take at out ++ (bytes ++ drop (at + length bytes) out)

-- What putting bytes determines: the answer and the buffer. Where there is no room for all, nothing is written.
pub record Placed : Type 0 where
  pub answer : Option ℕ
  pub out : List ℕ

abbrev pub placed : Option ℕ → List ℕ → Placed
placed answer out = record { answer = answer; out = out }

-- Where what was put ends; 0 where nothing was.
abbrev pub end_of : Option ℕ → ℕ
end_of answer = unwrap_or answer 0

unfoldable pub put_of : List ℕ → ℕ → List ℕ → Placed
put_of out at bytes =
    pick (leb (at + length bytes) (length out)) (placed (Some (at + length bytes)) (splice out at bytes)) (placed None out)
