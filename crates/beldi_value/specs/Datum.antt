-- A value as mathematics: what a `Value` stands for.
use Rattle.std.specs.Prelude.{◌≡◌, ℕ, ◌+◌, ◌==◌, ℤ, pos, Bool, false, List, [], ◌∷◌, ◌++◌, refl, if◌then◌else◌}
use Rattle.std.specs.Coded.{Coded, code_by, coded×, coded_ℕ, coded_ℤ, coded_bool, coded_list}
use Rattle.std.specs.{Ordering.nat_cmp, Cmp.Lexicographic.slice_cmp, declared.cmp.Ordering.TheVariants.Less}
use Rattle.std.proofs.Common.{ap, ◌∙◌, append_assoc}

mutual
  pub data Datum : Type 0 where
    null : Datum
    boolean : Bool → Datum
    int : ℤ → Datum
    text : List ℕ → Datum
    list : Datums → Datum
    fields : Fields → Datum

  pub data Datums : Type 0 where
    no_items : Datums
    item : Datum → Datums → Datums

  -- in the order of their keys, each key once
  pub data Fields : Type 0 where
    no_fields : Fields
    field : List ℕ → Datum → Fields → Fields

abbrev pub items_of : List Datum → Datums
items_of [] = no_items
items_of (d ∷ ds) = item d (items_of ds)

abbrev pub fields_of : List (List ℕ × Datum) → Fields
fields_of [] = no_fields
fields_of (f ∷ fs) = field f.0 f.1 (fields_of fs)

-- the keys rise strictly, byte by byte
abbrev pub IsAbove : List ℕ → List (List ℕ × Datum) → Type 0
IsAbove key [] = Unit {0}
IsAbove key (f ∷ fs) = (slice_cmp nat_cmp key f.0 ≡ Less) × IsAbove f.0 fs

abbrev pub IsRecord : List (List ℕ × Datum) → Type 0
IsRecord [] = Unit {0}
IsRecord (f ∷ fs) = IsAbove f.0 fs

-- how large a value is: above each part of it
abbrev mutual
  pub datum_size : Datum → ℕ
  datum_size null = 0
  datum_size (boolean b) = 0
  datum_size (int z) = 0
  datum_size (text s) = 0
  datum_size (list ds) = items_size ds + 1
  datum_size (fields fs) = all_fields_size fs + 1

  pub items_size : Datums → ℕ
  items_size no_items = 0
  items_size (item d ds) = datum_size d + items_size ds + 1

  pub all_fields_size : Fields → ℕ
  all_fields_size no_fields = 0
  all_fields_size (field k d fs) = datum_size d + all_fields_size fs + 1

abbrev pub datums_size : List Datum → ℕ
datums_size ds = items_size (items_of ds)

abbrev pub fields_size : List (List ℕ × Datum) → ℕ
fields_size fs = all_fields_size (fields_of fs)

-- ---- the code of a value: it is written in front order, and read from the end by a stack

pub data Token : Type 0 where
  of_null : Token
  of_boolean : Bool → Token
  of_int : ℤ → Token
  of_text : List ℕ → Token
  of_list : Token
  of_fields : Token
  of_no_items : Token
  of_item : Token
  of_no_fields : Token
  of_field : List ℕ → Token

abbrev pub Row : Type 0
Row = ℕ × (Bool × (ℤ × List ℕ))

abbrev pub row_of : Token → Row
row_of of_null = (0, (false, (pos 0, [])))
row_of (of_boolean b) = (1, (b, (pos 0, [])))
row_of (of_int z) = (2, (false, (z, [])))
row_of (of_text s) = (3, (false, (pos 0, s)))
row_of of_list = (4, (false, (pos 0, [])))
row_of of_fields = (5, (false, (pos 0, [])))
row_of of_no_items = (6, (false, (pos 0, [])))
row_of of_item = (7, (false, (pos 0, [])))
row_of of_no_fields = (8, (false, (pos 0, [])))
row_of (of_field k) = (9, (false, (pos 0, k)))

abbrev pub token_of : Row → Token
token_of r =
    if r.0 == 0 then of_null else
    if r.0 == 1 then of_boolean r.1.0 else
    if r.0 == 2 then of_int r.1.1.0 else
    if r.0 == 3 then of_text r.1.1.1 else
    if r.0 == 4 then of_list else
    if r.0 == 5 then of_fields else
    if r.0 == 6 then of_no_items else
    if r.0 == 7 then of_item else
    if r.0 == 8 then of_no_fields else
    of_field r.1.1.1

pub token_back : (t : Token) → token_of (row_of t) ≡ t
token_back of_null = refl
token_back (of_boolean b) = refl
token_back (of_int z) = refl
token_back (of_text s) = refl
token_back of_list = refl
token_back of_fields = refl
token_back of_no_items = refl
token_back of_item = refl
token_back of_no_fields = refl
token_back (of_field k) = refl

abbrev pub coded_token : Coded Token
coded_token = code_by Row (coded× coded_ℕ (coded× coded_bool (coded× coded_ℤ (coded_list coded_ℕ)))) row_of token_of token_back

pub data Part : Type 0 where
  one : Datum → Part
  items : Datums → Part
  those : Fields → Part

abbrev mutual
  pub write : Datum → List Token
  write null = of_null ∷ []
  write (boolean b) = of_boolean b ∷ []
  write (int z) = of_int z ∷ []
  write (text s) = of_text s ∷ []
  write (list ds) = of_list ∷ write_items ds
  write (fields fs) = of_fields ∷ write_fields fs

  pub write_items : Datums → List Token
  write_items no_items = of_no_items ∷ []
  write_items (item d ds) = of_item ∷ (write d ++ write_items ds)

  pub write_fields : Fields → List Token
  write_fields no_fields = of_no_fields ∷ []
  write_fields (field k d fs) = of_field k ∷ (write d ++ write_fields fs)

abbrev pub to_list : List Part → List Part
to_list (items ds ∷ ps) = one (list ds) ∷ ps
to_list ps = ps

abbrev pub to_fields : List Part → List Part
to_fields (those fs ∷ ps) = one (fields fs) ∷ ps
to_fields ps = ps

abbrev pub to_item : List Part → List Part
to_item (one d ∷ items ds ∷ ps) = items (item d ds) ∷ ps
to_item ps = ps

abbrev pub to_field : List ℕ → List Part → List Part
to_field k (one d ∷ those fs ∷ ps) = those (field k d fs) ∷ ps
to_field k ps = ps

abbrev pub step : Token → List Part → List Part
step of_null ps = one null ∷ ps
step (of_boolean b) ps = one (boolean b) ∷ ps
step (of_int z) ps = one (int z) ∷ ps
step (of_text s) ps = one (text s) ∷ ps
step of_list ps = to_list ps
step of_fields ps = to_fields ps
step of_no_items ps = items no_items ∷ ps
step of_item ps = to_item ps
step of_no_fields ps = those no_fields ∷ ps
step (of_field k) ps = to_field k ps

abbrev pub read : List Token → List Part
read [] = []
read (t ∷ ts) = step t (read ts)

abbrev pub top : List Part → Datum
top (one d ∷ ps) = d
top ps = null

mutual
  back : (d : Datum) (ts : List Token) → read (write d ++ ts) ≡ one d ∷ read ts
  back null ts = refl
  back (boolean b) ts = refl
  back (int z) ts = refl
  back (text s) ts = refl
  back (list ds) ts = ap to_list (back_items ds ts)
  back (fields fs) ts = ap to_fields (back_fields fs ts)

  back_items : (ds : Datums) (ts : List Token) → read (write_items ds ++ ts) ≡ items ds ∷ read ts
  back_items no_items ts = refl
  back_items (item d ds) ts =
      ap (λ us. to_item (read us)) (append_assoc (write d) (write_items ds) ts)
      ∙ ap to_item (back d (write_items ds ++ ts) ∙ ap (λ ps. one d ∷ ps) (back_items ds ts))

  back_fields : (fs : Fields) (ts : List Token) → read (write_fields fs ++ ts) ≡ those fs ∷ read ts
  back_fields no_fields ts = refl
  back_fields (field k d fs) ts =
      ap (λ us. to_field k (read us)) (append_assoc (write d) (write_fields fs) ts)
      ∙ ap (to_field k) (back d (write_fields fs ++ ts) ∙ ap (λ ps. one d ∷ ps) (back_fields fs ts))

pub again : (d : Datum) → top (read (write d ++ [])) ≡ d
again d = ap top (back d [])

abbrev pub coded_datum : Coded Datum
coded_datum = code_by (List Token) (coded_list coded_token) (λ d. write d ++ []) (λ ts. top (read ts)) again

abbrev pub coded_datums : Coded (List Datum)
coded_datums = coded_list coded_datum

abbrev pub coded_fields : Coded (List (List ℕ × Datum))
coded_fields = coded_list (coded× (coded_list coded_ℕ) coded_datum)
