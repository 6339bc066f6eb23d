-- What is handed in, and the page that it comes to, as one statement over a list. 16 has a statement of its own, `OverLong`.
-- Assumes nothing.
use Rattle.std.specs.Prelude.{ℕ, ◌-◌, ◌^◌, ◌≡◌, refl, List, [], ◌∷◌, ◌++◌, replicate, Ok, Err}
use Rattle.logic.specs.Below.{below}
use Rattle.refusals.specs.declared.Refusal.{Refusal}
use Rattle.qhs.specs.declared.Header.{Header}
use Rattle.byte_lists.specs.Bytes.{word, splice, bytes_of}
use Rattle.qhs_writer.specs.Writer.{Fields, fields, front_bytes, back_bytes, head_bytes, entry_bytes, entries_below, file_of, Page, page, write_of}

pub record Sample : Type 0 where
  pub header : Header
  pub given : Fields
  pub out : List ℕ
  pub comes : Page

-- 01's header, with other sizes: first 7, step 0, fill all one bits.
abbrev pub sized : ℕ → ℕ → Header
sized p m = record { p = p; m = m; first = 7; step = 0; fill = 2 ^ 64 - 1 }

abbrev pub head : List ℕ
head =
    word "QHS" ++ (1 ∷ 0 ∷ 1 ∷ 2 ∷ 0 ∷ 7 ∷ 0 ∷ 0 ∷ 0 ∷ 0 ∷ 0 ∷ 0 ∷ 0 ∷ 255 ∷ 255 ∷ 255 ∷ 255 ∷ 255 ∷ 255 ∷ 255 ∷ 255 ∷ [])

-- A buffer of so many bytes, each 170.
abbrev pub lent : ℕ → List ℕ
lent n = replicate n 170

abbrev pub none : Fields
none = fields [] [] [] []

-- A record of each kind, with every field set.
abbrev pub four : Fields
four =
    fields (0 ∷ 1 ∷ 2 ∷ 3 ∷ []) (4 ∷ 5 ∷ 6 ∷ 255 ∷ []) (258 ∷ 259 ∷ 260 ∷ 65535 ∷ []) (16909061 ∷ 16909062 ∷ 16909063 ∷ 16909064 ∷ [])

abbrev pub four_bytes : List ℕ
four_bytes =
    0 ∷ 4 ∷ 0 ∷ 0 ∷ 0 ∷ 0 ∷ 0 ∷ 0 ∷ 1 ∷ 5 ∷ 3 ∷ 1 ∷ 0 ∷ 0 ∷ 0 ∷ 0 ∷ 2 ∷ 6 ∷ 4 ∷ 1 ∷ 7 ∷ 3 ∷ 2 ∷ 1 ∷ 3 ∷ 255 ∷ 255 ∷ 255 ∷ 0 ∷ 0 ∷ 0 ∷ 0 ∷ []

-- Two kinds, of which the second is unknown, and one of each other field.
abbrev pub one_and_more : Fields
one_and_more = fields (2 ∷ 4 ∷ []) (0 ∷ []) (1 ∷ []) (9 ∷ [])

abbrev pub unknown : Fields
unknown = fields (4 ∷ []) (0 ∷ []) (1 ∷ []) (9 ∷ [])

abbrev pub writes : Header → Fields → List ℕ → ℕ → List ℕ → Sample
writes h f out n o = record { header = h; given = f; out = out; comes = page (Ok n) o }

abbrev pub refuses : Header → Fields → List ℕ → Refusal → Sample
refuses h f out r = record { header = h; given = f; out = out; comes = page (Err r) out }

abbrev pub samples : List Sample
samples =
    -- a header alone, with room for it and for one byte more
    writes (sized 1 2) none (lent 24) 24 head
    ∷ writes (sized 1 2) none (lent 25) 24 (head ++ lent 1)
    -- fields that a kind doesn't need are put to zero; the bytes after the file stay
    ∷ writes (sized 1 2) four (lent 60) 56 (head ++ (four_bytes ++ lent 4))
    -- as many records as the shortest slice has; what stands past them is not looked at
    ∷ writes (sized 1 2) one_and_more (lent 32) 32 (head ++ (2 ∷ 0 ∷ 1 ∷ 0 ∷ 9 ∷ 0 ∷ 0 ∷ 0 ∷ []))
    -- 13, 15, 1, 2, 17, each with all that come after it
    ∷ refuses (sized 0 2041) unknown (lent 0) Refusal.TooManyCells
    ∷ refuses (sized 0 0) unknown (lent 31) Refusal.RecordKind
    ∷ refuses (sized 0 0) none (lent 23) Refusal.ProcessCount
    ∷ refuses (sized 17 0) none (lent 23) Refusal.ProcessCount
    ∷ refuses (sized 257 2) none (lent 24) Refusal.ProcessCount
    ∷ refuses (sized 16 0) none (lent 23) Refusal.CellCount
    ∷ refuses (sized 16 2040) none (lent 23) Refusal.NoRoom
    ∷ refuses (sized 1 2) four (lent 55) Refusal.NoRoom
    ∷ []

abbrev pub Hold : List Sample → Type 0
Hold [] = Unit {0}
Hold (s ∷ rest) = (write_of s.header s.given s.out ≡ s.comes) × Hold rest

pub samples_hold : Hold samples
unfolding write_of file_of head_bytes front_bytes back_bytes bytes_of entry_bytes entries_below below splice
samples_hold = (refl, (refl, (refl, (refl, (refl, (refl, (refl, (refl, (refl, (refl, (refl, (refl, tt))))))))))))
