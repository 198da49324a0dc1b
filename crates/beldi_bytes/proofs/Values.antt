-- What stands behind the number of a value's kind.
use Rattle.std.proofs.Common.{◌≡◌, ◌<◌, ◌≤◌, ℕ, ℤ, Bool, List, ◌∷◌, length, refl, sym, ap, subst, ◌∙◌, arith}
use Rattle.std.specs.Prelude.{IsUtf8}
use Rattle.beldi_value.specs.Datum.{Datum, Datums, Fields, null, boolean, int, text, list, fields, no_items, item, no_fields, field, items_of, fields_of, IsRecord}
use Rattle.beldi_value.specs.Formed.{IsFormed, AreFormed, HaveForm}
use Rattle.beldi_value.specs.Injective.{list_of, pairs_of, list_back, pairs_back}
use Rattle.beldi_bytes.specs.Coding.{one, truth_bytes}
use Rattle.beldi_bytes.specs.KeyBytes.{four}
use Rattle.beldi_bytes.specs.RowBytes.{int_bytes, str_bytes, datum_bytes, items_bytes, fields_bytes, IsInt}
use Rattle.beldi_bytes.specs.BytesReading.{list_bytes, counted_items, AreItems, record_bytes, counted_fields, AreFields}
use Rattle.beldi_bytes.proofs.Tagged.{first}

pub datum_tag : (old : List ℕ) (d : Datum) (s : List ℕ) → old ≡ datum_bytes d s → (n : ℕ) × (t : List ℕ) × Unit {0} × (old ≡ one n t)
datum_tag old null s e = (0, s, tt, e)
datum_tag old (boolean b) s e = (1, truth_bytes b s, tt, e)
datum_tag old (int z) s e = (2, int_bytes z s, tt, e)
datum_tag old (text t) s e = (3, str_bytes t s, tt, e)
datum_tag old (list ds) s e = (4, four (length (list_of ds)) (items_bytes ds s), tt, e)
datum_tag old (fields fs) s e = (5, four (length (pairs_of fs)) (fields_bytes fs s), tt, e)

-- the number that was read
tagged : (old mid : List ℕ) (m n : ℕ) → old ≡ m ∷ mid → m ≡ n → old ≡ n ∷ mid
tagged old mid m n h e = h ∙ ap (λ x. x ∷ mid) e

bool_at : (mid : List ℕ) (d : Datum) (s : List ℕ) → 1 ∷ mid ≡ datum_bytes d s → (b : Bool) × (t : List ℕ) × Unit {0} × (mid ≡ truth_bytes b t)
bool_at mid (boolean b) s e = (b, s, tt, cc)
bool_at mid d s e = let f : 1 ≡ first (datum_bytes d s) = ap first e in absurd (omega (arith, f))

int_at : (mid : List ℕ) (d : Datum) (s : List ℕ) → IsFormed d → 2 ∷ mid ≡ datum_bytes d s → (z : ℤ) × (t : List ℕ) × IsInt z × (mid ≡ int_bytes z t)
int_at mid (int z) s i e = (z, s, i, cc)
int_at mid d s i e = let f : 2 ≡ first (datum_bytes d s) = ap first e in absurd (omega (arith, f))

text_at : (mid : List ℕ) (d : Datum) (s : List ℕ) → IsFormed d → 3 ∷ mid ≡ datum_bytes d s → (x : List ℕ) × (t : List ℕ) × IsUtf8 x × (mid ≡ str_bytes x t)
text_at mid (text x) s i e = (x, s, i, cc)
text_at mid d s i e = let f : 3 ≡ first (datum_bytes d s) = ap first e in absurd (omega (arith, f))

items_forth : (ds : Datums) → items_of (list_of ds) ≡ ds
items_forth no_items = refl
items_forth (item d ds) = ap (item d) (items_forth ds)

fields_forth : (fs : Fields) → fields_of (pairs_of fs) ≡ fs
fields_forth no_fields = refl
fields_forth (field k d fs) = ap (field k d) (fields_forth fs)

list_at : (mid : List ℕ) (d : Datum) (s : List ℕ) → IsFormed d → 4 ∷ mid ≡ datum_bytes d s → (ds : List Datum) × (t : List ℕ) × AreItems ds × (mid ≡ counted_items ds t)
list_at mid (list ds) s i e =
    let f : mid ≡ four (length (list_of ds)) (items_bytes ds s) = cc in
    (list_of ds, s, subst AreFormed (sym (items_forth ds)) i, f ∙ ap (λ es. four (length (list_of ds)) (items_bytes es s)) (sym (items_forth ds)))
list_at mid d s i e = let f : 4 ≡ first (datum_bytes d s) = ap first e in absurd (omega (arith, f))

record_at : (mid : List ℕ) (d : Datum) (s : List ℕ) → IsFormed d → 5 ∷ mid ≡ datum_bytes d s → (fs : List (List ℕ × Datum)) × (t : List ℕ) × AreFields fs × (mid ≡ counted_fields fs t)
record_at mid (fields fs) s i e =
    let f : mid ≡ four (length (pairs_of fs)) (fields_bytes fs s) = cc in
    (pairs_of fs, s, (i.0, subst HaveForm (sym (fields_forth fs)) i.1), f ∙ ap (λ es. four (length (pairs_of fs)) (fields_bytes es s)) (sym (fields_forth fs)))
record_at mid d s i e = let f : 5 ≡ first (datum_bytes d s) = ap first e in absurd (omega (arith, f))

pub bool_in : (old mid : List ℕ) (m : ℕ) → old ≡ m ∷ mid → m ≡ 1 → (d : Datum) (s : List ℕ) → IsFormed d → old ≡ datum_bytes d s → (b : Bool) × (t : List ℕ) × Unit {0} × (mid ≡ truth_bytes b t)
bool_in old mid m h is d s i e = bool_at mid d s (sym (tagged old mid m 1 h is) ∙ e)

pub int_in : (old mid : List ℕ) (m : ℕ) → old ≡ m ∷ mid → m ≡ 2 → (d : Datum) (s : List ℕ) → IsFormed d → old ≡ datum_bytes d s → (z : ℤ) × (t : List ℕ) × IsInt z × (mid ≡ int_bytes z t)
int_in old mid m h is d s i e = int_at mid d s i (sym (tagged old mid m 2 h is) ∙ e)

pub text_in : (old mid : List ℕ) (m : ℕ) → old ≡ m ∷ mid → m ≡ 3 → (d : Datum) (s : List ℕ) → IsFormed d → old ≡ datum_bytes d s → (x : List ℕ) × (t : List ℕ) × IsUtf8 x × (mid ≡ str_bytes x t)
text_in old mid m h is d s i e = text_at mid d s i (sym (tagged old mid m 3 h is) ∙ e)

pub list_in : (old mid : List ℕ) (m : ℕ) → old ≡ m ∷ mid → m ≡ 4 → (d : Datum) (s : List ℕ) → IsFormed d → old ≡ datum_bytes d s → (ds : List Datum) × (t : List ℕ) × AreItems ds × (mid ≡ counted_items ds t)
list_in old mid m h is d s i e = list_at mid d s i (sym (tagged old mid m 4 h is) ∙ e)

pub record_in : (old mid : List ℕ) (m : ℕ) → old ≡ m ∷ mid → m ≡ 5 → (d : Datum) (s : List ℕ) → IsFormed d → old ≡ datum_bytes d s → (fs : List (List ℕ × Datum)) × (t : List ℕ) × AreFields fs × (mid ≡ counted_fields fs t)
record_in old mid m h is d s i e = record_at mid d s i (sym (tagged old mid m 5 h is) ∙ e)

-- a list and a record that were read, as values
pub list_read : (old mid new : List ℕ) (m : ℕ) (ds : List Datum) → old ≡ m ∷ mid → m ≡ 4 → mid ≡ counted_items ds new → old ≡ datum_bytes (list (items_of ds)) new
list_read old mid new m ds h is e = tagged old mid m 4 h is ∙ ap (λ x. 4 ∷ x) e ∙ ap (λ es. 4 ∷ four (length es) (list_bytes ds new)) (sym (list_back ds))

pub record_read : (old mid new : List ℕ) (m : ℕ) (fs : List (List ℕ × Datum)) → old ≡ m ∷ mid → m ≡ 5 → mid ≡ counted_fields fs new → AreFields fs
    → (old ≡ datum_bytes (fields (fields_of fs)) new) × IsFormed (fields (fields_of fs))
record_read old mid new m fs h is e i =
    (tagged old mid m 5 h is ∙ ap (λ x. 5 ∷ x) e ∙ ap (λ gs. 5 ∷ four (length gs) (record_bytes fs new)) (sym (pairs_back fs)), (subst IsRecord (sym (pairs_back fs)) i.0, i.1))

few_tags : (mid : List ℕ) (n : ℕ) (d : Datum) (s : List ℕ) → n ∷ mid ≡ datum_bytes d s → n < 6
few_tags mid n null s e = let f : n ≡ 0 = cc in omega (arith, f)
few_tags mid n (boolean x) s e = let f : n ≡ 1 = cc in omega (arith, f)
few_tags mid n (int z) s e = let f : n ≡ 2 = cc in omega (arith, f)
few_tags mid n (text t) s e = let f : n ≡ 3 = cc in omega (arith, f)
few_tags mid n (list ds) s e = let f : n ≡ 4 = cc in omega (arith, f)
few_tags mid n (fields fs) s e = let f : n ≡ 5 = cc in omega (arith, f)

pub other_tag : (mid : List ℕ) (n : ℕ) (d : Datum) (s : List ℕ) → 6 ≤ n → n ∷ mid ≡ datum_bytes d s → ⊥
other_tag mid n d s h e = absurd (omega (arith, h, few_tags mid n d s e))
