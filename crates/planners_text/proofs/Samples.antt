-- RFC 4180's own samples, and some texts that it refuses, as the reader reads them: one statement over one list.
-- Assumes nothing.
use Rattle.std.specs.Prelude.{ℕ, ◌≡◌, refl, List, [], ◌∷◌, ◌++◌, Option, None, Some}
use Rattle.byte_lists.specs.Bytes.{word}
use Rattle.planners_text.specs.PlannersText.{crlf}
use Rattle.planners_text.specs.Rfc4180.{Record, cr, lf, quote, records_in}

pub record Sample : Type 0 where
  pub text : List ℕ
  pub read : Option (List Record)

infixl 80 ◌reads◌
abbrev pub ◌reads◌ : List ℕ → Option (List Record) → Sample
text reads r = record { text = text; read = r }

-- in quotes
abbrev pub enclosed : List ℕ → List ℕ
enclosed bytes = quote ∷ (bytes ++ (quote ∷ []))

abbrev pub three : List ℕ → List ℕ → List ℕ → Record
three a b c = a ∷ (b ∷ (c ∷ []))

abbrev pub letters : Record
letters = three (word "aaa") (word "bbb") (word "ccc")

abbrev pub others : Record
others = three (word "zzz") (word "yyy") (word "xxx")

abbrev pub samples : List Sample
samples =
    -- 1. and 2. with a line break after the last record, and without
    (word "aaa,bbb,ccc" ++ (crlf ++ (word "zzz,yyy,xxx" ++ crlf))) reads Some (letters ∷ (others ∷ []))
    ∷ (word "aaa,bbb,ccc" ++ (crlf ++ word "zzz,yyy,xxx")) reads Some (letters ∷ (others ∷ []))
    -- 5. quotes round some fields
    ∷ (enclosed (word "aaa") ++ (word "," ++ (enclosed (word "bbb") ++ (word "," ++ (enclosed (word "ccc") ++ (crlf ++ word "zzz,yyy,xxx"))))))
    reads Some (letters ∷ (others ∷ []))
    -- 6. a line break between quotes
    ∷ (enclosed (word "aaa") ++ (word "," ++ (enclosed (word "b" ++ (crlf ++ word "bb")) ++ (word "," ++ enclosed (word "ccc")))))
    reads Some (three (word "aaa") (word "b" ++ (crlf ++ word "bb")) (word "ccc") ∷ [])
    -- 7. a quote between quotes is doubled
    ∷ (enclosed (word "aaa") ++ (word "," ++ (enclosed (word "b" ++ (quote ∷ (quote ∷ word "bb"))) ++ (word "," ++ enclosed (word "ccc")))))
    reads Some (three (word "aaa") (word "b" ++ (quote ∷ word "bb")) (word "ccc") ∷ [])
    -- empty fields, a line that is empty, and no text
    ∷ word ",," reads Some (three [] [] [] ∷ [])
    ∷ (crlf ++ word "a") reads Some (([] ∷ []) ∷ ((word "a" ∷ []) ∷ []))
    ∷ [] reads Some []
    -- LF or CR alone, quotes that do not close, that follow or precede other bytes
    ∷ (word "a" ++ (lf ∷ word "b")) reads None
    ∷ (word "a" ++ (cr ∷ word "b")) reads None
    ∷ (quote ∷ word "a") reads None
    ∷ (word "a" ++ enclosed (word "b")) reads None
    ∷ (enclosed (word "a") ++ word "b") reads None
    ∷ []

abbrev pub Hold : List Sample → Type 0
Hold [] = Unit {0}
Hold (s ∷ rest) = (records_in s.text ≡ s.read) × Hold rest

pub samples_hold : Hold samples
unfolding records_in
samples_hold = (refl, (refl, (refl, (refl, (refl, (refl, (refl, (refl, (refl, (refl, (refl, (refl, (refl, tt)))))))))))))
