-- Fields in the order of their keys.
use Rattle.std.specs.Prelude.{Option, Some, None}
use Rattle.beldi_value.proofs.Names.{Datum, Equal, Err, Greater, IsAbove, IsPlace, IsRecord, Less, List, Ok, Ordering, Value, [], add-one, ap, append_assoc, arith, datum_of, drop, exact_bytes, fields_view, get_or, items_view, length, match_ordering, nat_cmp, nat_list_cmp_total, option_map, ordering_reverse, refl, set_field, slice_cmp, slice_get, slice_set, subst, suc, sym, take, value_back, value_of, ℕ, ◌++◌, ◌+◌, ◌<◌, ◌∙◌, ◌∷◌, ◌≡◌}
use Rattle.beldi_value.proofs.Names.Nat

abbrev key_cmp : List ℕ → List ℕ → Ordering
key_cmp = slice_cmp nat_cmp

abbrev Field : Type 0
Field = List ℕ × Datum

abbrev field_of : List ℕ × Value → Field
field_of f = (f.0, datum_of f.1)

-- ---- the order is kept
above : (k l : List ℕ) → key_cmp k l ≡ Greater → key_cmp l k ≡ Less
above k l h = nat_list_cmp_total.antisymm l k ∙ ap ordering_reverse h

at_order : {A : Type 0} (P : A → Type 0) (o : Ordering) (x y z : A) → (o ≡ Less → P x) → (o ≡ Equal → P y) → (o ≡ Greater → P z) → P (match_ordering o x y z)
at_order P Less x y z p q r = p refl
at_order P Equal x y z p q r = q refl
at_order P Greater x y z p q r = r refl

set_above : (low k : List ℕ) (d : Datum) (fs : List Field) → IsAbove low fs → key_cmp low k ≡ Less → IsAbove low (set_field fs k d)
set_above low k d [] a h = (h, tt)
set_above low k d (f ∷ fs) a h =
    at_order (IsAbove low) (key_cmp k f.0) ((k, d) ∷ f ∷ fs) ((f.0, d) ∷ fs) (f ∷ set_field fs k d)
    (λ e. (h, (e, a.1)))
    (λ e. (a.0, a.1))
    (λ e. (a.0, set_above f.0 k d fs a.1 (above k f.0 e)))

pub set_record : (k : List ℕ) (d : Datum) (fs : List Field) → IsRecord fs → IsRecord (set_field fs k d)
set_record k d [] a = tt
set_record k d (f ∷ fs) a =
    at_order IsRecord (key_cmp k f.0) ((k, d) ∷ f ∷ fs) ((f.0, d) ∷ fs) (f ∷ set_field fs k d)
    (λ e. (e, a))
    (λ e. a)
    (λ e. set_above f.0 k d fs a (above k f.0 e))

-- ---- the place
-- the fields from i on
next_suc : (fs : List (List ℕ × Value)) (i : ℕ) (f : List ℕ × Value) → i < length fs → f ≡ get_or fs i f → drop i (fields_view fs) ≡ field_of f ∷ drop (suc i) (fields_view fs)
next_suc [] i f h e = absurd (omega arith)
next_suc (x ∷ fs) Nat.zero f h e = ap (λ y. field_of y ∷ fields_view fs) (sym e)
next_suc (x ∷ fs) (suc i) f h e = next_suc fs i f (omega arith) e

taken_suc : (fs : List (List ℕ × Value)) (i : ℕ) (f : List ℕ × Value) → i < length fs → f ≡ get_or fs i f → take (suc i) (fields_view fs) ≡ take i (fields_view fs) ++ field_of f ∷ []
taken_suc [] i f h e = absurd (omega arith)
taken_suc (x ∷ fs) Nat.zero f h e = ap (λ y. field_of y ∷ []) (sym e)
taken_suc (x ∷ fs) (suc i) f h e = ap (λ gs. field_of x ∷ gs) (taken_suc fs i f (omega arith) e)

pub below_it : (fs : List (List ℕ × Value)) (k : List ℕ) (i : ℕ) (f : List ℕ × Value) (d : Datum) → i < length fs → f ≡ get_or fs i f → key_cmp k f.0 ≡ Less → set_field (drop i (fields_view fs)) k d ≡ (k, d) ∷ drop i (fields_view fs)
below_it fs k i f d h e o =
    let n = next_suc fs i f h e in
    ap (λ gs. set_field gs k d) n
    ∙ ap (λ c. match_ordering c ((k, d) ∷ field_of f ∷ drop (suc i) (fields_view fs)) ((f.0, d) ∷ drop (suc i) (fields_view fs)) (field_of f ∷ set_field (drop (suc i) (fields_view fs)) k d)) o
    ∙ ap (λ gs. (k, d) ∷ gs) (sym n)

pub at_it : (fs : List (List ℕ × Value)) (k : List ℕ) (i : ℕ) (f : List ℕ × Value) (d : Datum) → i < length fs → f ≡ get_or fs i f → key_cmp k f.0 ≡ Equal → set_field (drop i (fields_view fs)) k d ≡ (k, d) ∷ drop (i + 1) (fields_view fs)
at_it fs k i f d h e o =
    let n = next_suc fs i f h e in
    ap (λ gs. set_field gs k d) n
    ∙ ap (λ c. match_ordering c ((k, d) ∷ field_of f ∷ drop (suc i) (fields_view fs)) ((f.0, d) ∷ drop (suc i) (fields_view fs)) (field_of f ∷ set_field (drop (suc i) (fields_view fs)) k d)) o
    ∙ ap (λ l. (l, d) ∷ drop (suc i) (fields_view fs)) (sym (exact_bytes k f.0 o))
    ∙ ap (λ m. (k, d) ∷ drop m (fields_view fs)) (sym (add-one i))

pub after_it : (fs : List (List ℕ × Value)) (k : List ℕ) (i : ℕ) (f : List ℕ × Value) (d : Datum) → i < length fs → f ≡ get_or fs i f → key_cmp k f.0 ≡ Greater → take i (fields_view fs) ++ set_field (drop i (fields_view fs)) k d ≡ take (i + 1) (fields_view fs) ++ set_field (drop (i + 1) (fields_view fs)) k d
after_it fs k i f d h e o =
    let n = next_suc fs i f h e in
    let m = taken_suc fs i f h e in
    let front = take i (fields_view fs) in
    let rest = set_field (drop (suc i) (fields_view fs)) k d in
    ap (λ gs. front ++ set_field gs k d) n
    ∙ ap (λ c. front ++ match_ordering c ((k, d) ∷ field_of f ∷ drop (suc i) (fields_view fs)) ((f.0, d) ∷ drop (suc i) (fields_view fs)) (field_of f ∷ rest)) o
    ∙ sym (append_assoc front (field_of f ∷ []) rest)
    ∙ ap (λ gs. gs ++ rest) (sym m)
    ∙ ap (λ j. take j (fields_view fs) ++ set_field (drop j (fields_view fs)) k d) (sym (add-one i))

-- ---- what the change of the fields looks like
pub view_length : (fs : List (List ℕ × Value)) → length (fields_view fs) ≡ length fs
view_length [] = refl
view_length (f ∷ fs) = omega (arith, view_length fs)

set_suc : (fs : List (List ℕ × Value)) (i : ℕ) (f : List ℕ × Value) → i < length fs → fields_view (slice_set fs i f) ≡ take i (fields_view fs) ++ field_of f ∷ drop (suc i) (fields_view fs)
set_suc [] i f h = absurd (omega arith)
set_suc (x ∷ fs) Nat.zero f h = refl
set_suc (x ∷ fs) (suc i) f h = ap (λ gs. field_of x ∷ gs) (set_suc fs i f (omega arith))

pub set_view : (fs : List (List ℕ × Value)) (i : ℕ) (f : List ℕ × Value) → i < length fs → fields_view (slice_set fs i f) ≡ take i (fields_view fs) ++ field_of f ∷ drop (i + 1) (fields_view fs)
set_view fs i f h = set_suc fs i f h ∙ ap (λ m. take i (fields_view fs) ++ field_of f ∷ drop m (fields_view fs)) (sym (add-one i))

pub insert_view : (fs : List (List ℕ × Value)) (i : ℕ) (f : List ℕ × Value) → fields_view (take i fs ++ f ∷ drop i fs) ≡ take i (fields_view fs) ++ field_of f ∷ drop i (fields_view fs)
insert_view [] Nat.zero f = refl
insert_view [] (suc i) f = refl
insert_view (x ∷ fs) Nat.zero f = refl
insert_view (x ∷ fs) (suc i) f = ap (λ gs. field_of x ∷ gs) (insert_view fs i f)

-- the place holds of the fields that were looked through
pub one_changed : (fs gs : List (List ℕ × Value)) (k : List ℕ) (v : Value) (i : ℕ) → fs ≡ gs → IsPlace (fields_view fs) k (Ok i) → fields_view (slice_set gs i (k, v)) ≡ set_field (fields_view gs) k (datum_of v)
one_changed fs gs k v i e h = subst (λ xs. fields_view (slice_set xs i (k, v)) ≡ set_field (fields_view xs) k (datum_of v)) e (set_view fs i (k, v) (omega (arith, view_length fs, h.0)) ∙ sym (h.1 (datum_of v)))

pub one_more : (fs gs hs : List (List ℕ × Value)) (k : List ℕ) (v : Value) (i : ℕ) → fs ≡ gs → hs ≡ take i gs ++ (k, v) ∷ drop i gs → IsPlace (fields_view fs) k (Err i) → fields_view hs ≡ set_field (fields_view gs) k (datum_of v)
one_more fs gs hs k v i e m h =
    ap fields_view m
    ∙ subst (λ xs. fields_view (take i xs ++ (k, v) ∷ drop i xs) ≡ set_field (fields_view xs) k (datum_of v)) e (insert_view fs i (k, v) ∙ sym (h.1 (datum_of v)))

-- ---- what is found

pub item_back : (vs : List Value) (n : ℕ) → slice_get vs n ≡ option_map value_of (slice_get (items_view vs) n)
item_back [] n = refl
item_back (v ∷ vs) Nat.zero = ap Some (sym (value_back v))
item_back (v ∷ vs) (suc n) = item_back vs n

pub found_back : (v : Value) (o : Option Datum) → Some (datum_of v) ≡ o → Some v ≡ option_map value_of o
found_back v o e = ap Some (sym (value_back v)) ∙ ap (option_map value_of) e

pub none_back : (o : Option Datum) → None ≡ o → None ≡ option_map value_of o
none_back o e = ap (option_map value_of) e
