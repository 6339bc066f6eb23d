-- Reading text by RFC 4180, section 2, for any text: its records, and the bytes of each record's fields.
-- Assumes nothing.
use Rattle.std.specs.Prelude.{ℕ, Bool, not, ◌&&◌, ◌||◌, List, [], ◌∷◌, ◌++◌, leb, eqb, Option, None, Some}
use Rattle.logic.specs.Pick.{pick}

-- COMMA, CR, DQUOTE, LF of the RFC's grammar.
abbrev pub comma : ℕ
comma = 44

abbrev pub cr : ℕ
cr = 13

abbrev pub quote : ℕ
quote = 34

abbrev pub lf : ℕ
lf = 10

-- TEXTDATA = %x20-21 / %x23-2B / %x2D-7E
abbrev pub text_data : ℕ → Bool
text_data b = leb 32 b && (leb b 126 && (not (eqb b quote) && not (eqb b comma)))

-- Where a reader stands in the text.
pub data Place : Type 0 where
  -- in a field without quotes, or before its first byte
  plain : Place
  -- between the quotes of a field
  quoted : Place
  -- after a quote between quotes: the field's last, or the first of two
  closing : Place
  -- after the CR of a line break
  breaking : Place
  -- this is no such text
  broken : Place

abbrev pub Record : Type 0
Record = List (List ℕ)

-- The place, the bytes of the field so far, the fields of the record so far, and the records before it.
pub record Reader : Type 0 where
  pub place : Place
  pub field : List ℕ
  pub fields : Record
  pub records : List Record

abbrev pub reader : Place → List ℕ → Record → List Record → Reader
reader place field fields records = record { place = place; field = field; fields = fields; records = records }

abbrev pub moved : Place → Reader → Reader
moved place r = reader place r.field r.fields r.records

-- One byte more of the field; the field's end; the record's end.
abbrev pub more : Place → Reader → ℕ → Reader
more place r b = reader place (r.field ++ (b ∷ [])) r.fields r.records

abbrev pub fields_of : Reader → Record
fields_of r = r.fields ++ (r.field ∷ [])

abbrev pub next_field : Reader → Reader
next_field r = reader plain [] (fields_of r) r.records

abbrev pub next_record : Reader → Reader
next_record r = reader plain [] [] (r.records ++ (fields_of r ∷ []))

-- 4. Fields are separated by commas; 1. records by a line break (CRLF).
abbrev pub field_ends : Reader → ℕ → Reader
field_ends r b = pick (eqb b comma) (next_field r) (pick (eqb b cr) (moved breaking r) (moved broken r))

-- 5. A quote may stand at a field's beginning, and not inside a field that has none there.
abbrev pub opened : Reader → List ℕ → Reader
opened r [] = moved quoted r
opened r (b ∷ bytes) = moved broken r

-- 6. Quoted fields may hold CR, LF, commas; 7. a quote in them is doubled.
abbrev pub next : Place → Reader → ℕ → Reader
next plain r b = pick (text_data b) (more plain r b) (pick (eqb b quote) (opened r r.field) (field_ends r b))
next quoted r b =
    pick (eqb b quote) (moved closing r)
    (pick (text_data b || (eqb b comma || (eqb b cr || eqb b lf))) (more quoted r b) (moved broken r))
next closing r b = pick (eqb b quote) (more quoted r quote) (field_ends r b)
next breaking r b = pick (eqb b lf) (next_record r) (moved broken r)
next broken r b = r

abbrev pub run : Reader → List ℕ → Reader
run r [] = r
run r (b ∷ bytes) = run (next r.place r b) bytes

-- 2. The last record may or may not have a line break. Where nothing follows the last one, no record does.
abbrev pub last : Reader → Record → List ℕ → List Record
last r [] [] = r.records
last r [] (b ∷ field) = r.records ++ (fields_of r ∷ [])
last r (f ∷ fields) field = r.records ++ (fields_of r ∷ [])

abbrev pub ended : Place → Reader → Option (List Record)
ended plain r = Some (last r r.fields r.field)
ended quoted r = None
ended closing r = Some (r.records ++ (fields_of r ∷ []))
ended breaking r = None
ended broken r = None

abbrev pub finish : Reader → Option (List Record)
finish r = ended r.place r

unfoldable pub records_in : List ℕ → Option (List Record)
records_in text = finish (run (reader plain [] [] []) text)
