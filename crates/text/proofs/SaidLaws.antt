-- The lines of the output from their words and numbers: none is cut.
-- Assumes nothing.
use Rattle.std.specs.Prelude.{Ok, Err}
use Prim.Native.Nat.{ℕ, suc, ◌+◌, ◌^◌, ◌<◌, ◌≤◌}
use mathlib.Core.Path.{◌≡◌, refl}
use mathlib.Core.Bool.{Bool, true, false}
use mathlib.Core.List.{List, [], ◌++◌}
use Rattle.std.specs.Int.{from_bool}
use native.Mathlib.Omega.{arith}
use lib.ListN.{length, length-append}
use Rattle.refusals.specs.Numbers.{number_of}
use Rattle.refusals.specs.declared.Refusal.{Refusal}
use Rattle.acts.specs.declared.Answer.{Answer}
use Rattle.acts.specs.Calls.{Response}
use Rattle.text.specs.Text.{bit, two, three, saying, answer_line, sizes_line, file_refused_line, refused_line}
use Rattle.byte_lists.specs.Bytes.{word, newline, decimal}
use Rattle.byte_lists.specs.Decimals.{decimal_short}
use Rattle.byte_lists.specs.declared.line.Line.{Line}
use Rattle.text.specs.Inner.{Said, Answered}
use Rattle.byte_lists.specs.Lines.{Grown, Made}
use Rattle.byte_lists.proofs.MadeLaws.{made}
use Rattle.byte_lists.proofs.LineLaws.{then}

-- how long the numbers of an answer are
two_length : (j v n : ℕ) → v < 10 ^ suc j → n < 256 → length (two v n) ≤ suc j + 4
two_length j v n h k =
    simp length-append (omega (arith, decimal_short j v h, decimal_short 2 n (omega arith), length-append (word " ") (decimal n)))

-- the number that a test is cast to
bit_is : (b : Bool) → from_bool b ≡ bit b
bit_is true = refl
bit_is false = refl

small : (b : Bool) → bit b < 10
small true = omega arith
small false = omega arith

-- a number, a space and a number
two_is : (l x y r : Line) (v n : ℕ) → Grown l x (decimal v) → Grown x y (word " ") → Grown y r (decimal n) → Grown l r (two v n)
two_is l x y r v n e f g = then l x r (decimal v) (word " " ++ decimal n) e (then x y r (word " ") (decimal n) f g)

module _ (l x r : Line) (a : Answer) where
  pub said_read : (x1 x2 x3 x4 : Line) (b : Bool) (v n : ℕ) → v < 4294967296 → n < 256 → a ≡ Answer.Read v b n → Grown l x (word "read ")
      → Grown x x1 (decimal v) → Grown x1 x2 (word " ") → Grown x2 x3 (decimal (from_bool b)) → Grown x3 x4 (word " ") → Grown x4 r (decimal n)
      → Said l r (Ok a)
  said_read x1 x2 x3 x4 b v n h k e f g1 g2 g3 g4 g5 =
      let g3' : Grown x2 x3 (decimal (bit b)) = rw bit_is at g3 in
      rw e
      (record {
        grown =
            then l x r (word "read ") (three v (bit b) n) f
            (then x x1 r (decimal v) (word " " ++ two (bit b) n) g1
            (then x1 x2 r (word " ") (two (bit b) n) g2 (two_is x2 x3 x4 r (bit b) n g3' g4 g5)));
        short = omega (
          arith,
          decimal_short 9 v (omega arith),
          two_length 0 (bit b) n (small b) k,
          length-append (word "read ") (three v (bit b) n),
          length-append (decimal v) (word " " ++ two (bit b) n),
          length-append (word " ") (two (bit b) n),
        );
      })

  pub said_written : (n : ℕ) → n < 256 → a ≡ Answer.Written n → Grown l x (word "written ") → Grown x r (decimal n) → Said l r (Ok a)
  said_written n k e f g =
      rw e
      (record {
        grown = then l x r (word "written ") (decimal n) f g;
        short = omega (arith, decimal_short 2 n (omega arith), length-append (word "written ") (decimal n));
      })

  pub said_asked : (x1 x2 : Line) (b : Bool) (n : ℕ) → n < 256 → a ≡ Answer.Asked b n → Grown l x (word "asked ") → Grown x x1 (decimal (from_bool b))
      → Grown x1 x2 (word " ") → Grown x2 r (decimal n)
      → Said l r (Ok a)
  said_asked x1 x2 b n k e f g1 g2 g3 =
      let g1' : Grown x x1 (decimal (bit b)) = rw bit_is at g1 in
      rw e
      (record {
        grown = then l x r (word "asked ") (two (bit b) n) f (two_is x x1 x2 r (bit b) n g1' g2 g3);
        short = omega (arith, two_length 0 (bit b) n (small b) k, length-append (word "asked ") (two (bit b) n));
      })

-- a refusal's number
pub told_refused : (l x r : Line) (a : Response) (y : Refusal) (n : ℕ) → n ≡ number_of y → n < 4294967296 → a ≡ Err y → Grown l x (word "refused ")
    → Grown x r (decimal n) → Said l r a
told_refused l x r a y n i k e f g =
    let g' : Grown x r (decimal (number_of y)) = rw i at g in
    let low : number_of y < 4294967296 = rw i at k in
    rw e
    (record {
      grown = then l x r (word "refused ") (decimal (number_of y)) f g';
      short = omega (arith, decimal_short 9 (number_of y) (omega arith), length-append (word "refused ") (decimal (number_of y)));
    })

pub answered : (o x y z r : Line) (k : ℕ) (a : Response) → k < 18446744073709551616 → Made o [] → Grown o x (decimal k) → Grown x y (word " ")
    → Said y z a → Grown z r newline → Answered k a r
unfolding answer_line
answered o x y z r k a h m d s t n =
    let short : length (answer_line k a) ≤ length (decimal k) + 23 =
    simp length-append (omega (arith, t.short, length-append (word " ") (saying a ++ newline), length-append (saying a) newline)) in
    record {
      made =
          made o r (answer_line k a) m
          (then o x r (decimal k) (word " " ++ (saying a ++ newline)) d
          (then x y r (word " ") (saying a ++ newline) s (then y z r (saying a) newline t.grown n)))
          (omega (arith, short, decimal_short 19 k (omega arith)));
      short = short;
    }

pub sizes_is : (o x y z w r : Line) (p m : ℕ) → p < 4294967296 → m < 4294967296 → Made o [] → Grown o x (word "processes ") → Grown x y (decimal p)
    → Grown y z (word " cells ") → Grown z w (decimal m) → Grown w r newline → Made r (sizes_line p m)
unfolding sizes_line
sizes_is o x y z w r p m h k e f g i j n =
    made o r (sizes_line p m) e
    (then o x r (word "processes ") (decimal p ++ (word " cells " ++ (decimal m ++ newline))) f
    (then x y r (decimal p) (word " cells " ++ (decimal m ++ newline)) g
    (then y z r (word " cells ") (decimal m ++ newline) i (then z w r (decimal m) newline j n))))
    (omega (
      arith,
      decimal_short 9 p (omega arith),
      decimal_short 9 m (omega arith),
      length-append (word "processes ") (decimal p ++ (word " cells " ++ (decimal m ++ newline))),
      length-append (decimal p) (word " cells " ++ (decimal m ++ newline)),
      length-append (word " cells ") (decimal m ++ newline),
      length-append (decimal m) newline,
    ))

-- a line of a short word and a refusal's number
numbered : (w : List ℕ) (o x y r : Line) (n : ℕ) (f : Refusal) → length w ≤ 20 → n ≡ number_of f → n < 4294967296 → Made o [] → Grown o x w
    → Grown x y (decimal n) → Grown y r newline → Made r (w ++ (decimal (number_of f) ++ newline))
numbered w o x y r n f s i h e g j k =
    let low : number_of f < 4294967296 = rw i at h in
    let j' : Grown x y (decimal (number_of f)) = rw i at j in
    made o r (w ++ (decimal (number_of f) ++ newline)) e
    (then o x r w (decimal (number_of f) ++ newline) g (then x y r (decimal (number_of f)) newline j' k))
    (omega (
      arith,
      decimal_short 9 (number_of f) (omega arith),
      length-append w (decimal (number_of f) ++ newline),
      length-append (decimal (number_of f)) newline,
    ))

module _ (o x y r : Line) (n : ℕ) (f : Refusal) (i : n ≡ number_of f) (h : n < 4294967296) (e : Made o []) where
  pub file_refused_is : Grown o x (word "file refused ") → Grown x y (decimal n) → Grown y r newline → Made r (file_refused_line f)
  unfolding file_refused_line
  file_refused_is = numbered (word "file refused ") o x y r n f (omega arith) i h e

  pub refused_is : Grown o x (word "refused ") → Grown x y (decimal n) → Grown y r newline → Made r (refused_line f)
  unfolding refused_line
  refused_is = numbered (word "refused ") o x y r n f (omega arith) i h e
