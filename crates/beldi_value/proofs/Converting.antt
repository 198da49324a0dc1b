-- JSON is converted item by item, and member by member.
use Rattle.beldi_value.specs.declared.convert.ConvertErr.TheVariants.{NotInt}
use Rattle.beldi_value.proofs.Names.{AllByRecursion, ConvertErr, Datum, Datums, Fields, Global, IsAbove, IsRecord, IsStrictlySortedBy, Less, List, None, Option, OutOfMemory, Refuses, Some, String, [], ap, field, fields_of, item, items_of, keys_of, map, nat_cmp, no_fields, no_items, of_items, of_json, of_members, option_and_then, option_map, refl, slice_cmp, sorted_head, sorted_tail, string_bytes, string_cmp, sym, ℕ, ◌++◌, ◌∙◌, ◌∷◌, ◌≡◌}
use Rattle.beldi_value.proofs.Names.json

-- these values, and then what is made of the rest
abbrev pub onto_items : List Datum → Option Datums → Option Datums
onto_items [] r = r
onto_items (x ∷ xs) r = option_map (item x) (onto_items xs r)

abbrev pub onto_fields : List (List ℕ × Datum) → Option Fields → Option Fields
onto_fields [] r = r
onto_fields (f ∷ fs) r = option_map (field f.0 f.1) (onto_fields fs r)

heads : {X : Type 0} {x y : X} {xs ys : List X} → x ∷ xs ≡ y ∷ ys → x ≡ y
heads h = cc

tails : {X : Type 0} {x y : X} {xs ys : List X} → x ∷ xs ≡ y ∷ ys → xs ≡ ys
tails h = cc

above : (a : List ℕ) (k : String Global) (fs : List (List ℕ × Datum)) (ks : List (String Global)) → a ≡ string_bytes k → keys_of fs ≡ map string_bytes ks → AllByRecursion (λ y. string_cmp k y ≡ Less) ks → IsStrictlySortedBy string_cmp ks → IsAbove a fs
above a k [] ks h e l s = tt
above a k (f ∷ fs) [] h e l s = cc
above a k (f ∷ fs) (j ∷ js) h e l s =
    (ap (λ z. slice_cmp nat_cmp z f.0) h ∙ ap (slice_cmp nat_cmp (string_bytes k)) (heads e) ∙ l.0, above f.0 j fs js (heads e) (tails e) (sorted_head string_cmp j js s) (sorted_tail string_cmp j js s))

pub onto_push : (xs : List Datum) (x : Datum) (r : Option Datums) → onto_items (xs ++ x ∷ []) r ≡ onto_items xs (option_map (item x) r)
onto_push [] x r = refl
onto_push (y ∷ ys) x r = ap (option_map (item y)) (onto_push ys x r)

pub onto_end : (xs : List Datum) → onto_items xs (Some no_items) ≡ Some (items_of xs)
onto_end [] = refl
onto_end (y ∷ ys) = ap (option_map (item y)) (onto_end ys)

pub onto_none : (xs : List Datum) → onto_items xs None ≡ None
onto_none [] = refl
onto_none (y ∷ ys) = ap (option_map (item y)) (onto_none ys)

pub fields_push : (xs : List (List ℕ × Datum)) (x : List ℕ × Datum) (r : Option Fields) → onto_fields (xs ++ x ∷ []) r ≡ onto_fields xs (option_map (field x.0 x.1) r)
fields_push [] x r = refl
fields_push (y ∷ ys) x r = ap (option_map (field y.0 y.1)) (fields_push ys x r)

pub fields_end : (xs : List (List ℕ × Datum)) → onto_fields xs (Some no_fields) ≡ Some (fields_of xs)
fields_end [] = refl
fields_end (y ∷ ys) = ap (option_map (field y.0 y.1)) (fields_end ys)

pub fields_none : (xs : List (List ℕ × Datum)) → onto_fields xs None ≡ None
fields_none [] = refl
fields_none (y ∷ ys) = ap (option_map (field y.0 y.1)) (fields_none ys)

pub next_item : (d : json.Data) (ds : json.Items) (x : Datum) → of_json d ≡ Some x → of_items (json.item d ds) ≡ option_map (item x) (of_items ds)
next_item d ds x h = ap (option_and_then (λ y. option_map (item y) (of_items ds))) h

pub no_item : (d : json.Data) (ds : json.Items) → of_json d ≡ None → of_items (json.item d ds) ≡ None
no_item d ds h = ap (option_and_then (λ y. option_map (item y) (of_items ds))) h

pub next_member : (k : List ℕ) (d : json.Data) (ms : json.Members) (x : Datum) → of_json d ≡ Some x → of_members (json.member k d ms) ≡ option_map (field k x) (of_members ms)
next_member k d ms x h = ap (option_and_then (λ y. option_map (field k y) (of_members ms))) h

pub no_member : (k : List ℕ) (d : json.Data) (ms : json.Members) → of_json d ≡ None → of_members (json.member k d ms) ≡ None
no_member k d ms h = ap (option_and_then (λ y. option_map (field k y) (of_members ms))) h

pub items_stop : (e : ConvertErr) (xs : List Datum) (d : json.Data) (ds : json.Items) (whole : Option Datums) → onto_items xs (of_items (json.item d ds)) ≡ whole → Refuses (of_json d) e → Refuses whole e
items_stop OutOfMemory xs d ds whole i h = tt
items_stop NotInt xs d ds whole i h = sym i ∙ ap (onto_items xs) (no_item d ds h) ∙ onto_none xs

pub items_go : (xs ys : List Datum) (x : Datum) (d : json.Data) (ds : json.Items) (whole : Option Datums) → ys ≡ xs ++ x ∷ [] → of_json d ≡ Some x → onto_items xs (of_items (json.item d ds)) ≡ whole → onto_items ys (of_items ds) ≡ whole
items_go xs ys x d ds whole is h i = ap (λ z. onto_items z (of_items ds)) is ∙ onto_push xs x (of_items ds) ∙ ap (onto_items xs) (sym (next_item d ds x h)) ∙ i

pub fields_stop : (e : ConvertErr) (xs : List (List ℕ × Datum)) (k : List ℕ) (d : json.Data) (ms : json.Members) (whole : Option Fields) → onto_fields xs (of_members (json.member k d ms)) ≡ whole → Refuses (of_json d) e → Refuses whole e
fields_stop OutOfMemory xs k d ms whole i h = tt
fields_stop NotInt xs k d ms whole i h = sym i ∙ ap (onto_fields xs) (no_member k d ms h) ∙ fields_none xs

pub fields_go : (xs ys : List (List ℕ × Datum)) (x : List ℕ × Datum) (d : json.Data) (ms : json.Members) (whole : Option Fields) → ys ≡ xs ++ x ∷ [] → of_json d ≡ Some x.1 → onto_fields xs (of_members (json.member x.0 d ms)) ≡ whole → onto_fields ys (of_members ms) ≡ whole
fields_go xs ys x d ms whole is h i = ap (λ z. onto_fields z (of_members ms)) is ∙ fields_push xs x (of_members ms) ∙ ap (onto_fields xs) (sym (next_member x.0 d ms x.1 h)) ∙ i

-- keys in the order of their bytes make a record
pub record_from : (fs : List (List ℕ × Datum)) (ks : List (String Global)) → keys_of fs ≡ map string_bytes ks → IsStrictlySortedBy string_cmp ks → IsRecord fs
record_from [] ks e s = tt
record_from (f ∷ fs) [] e s = cc
record_from (f ∷ fs) (k ∷ ks) e s = above f.0 k fs ks (heads e) (tails e) (sorted_head string_cmp k ks s) (sorted_tail string_cmp k ks s)

pub keys_push : {K X : Type 0} (xs : List (K × X)) (x : K × X) → keys_of (xs ++ x ∷ []) ≡ keys_of xs ++ x.0 ∷ []
keys_push [] x = refl
keys_push (y ∷ ys) x = ap (λ z. y.0 ∷ z) (keys_push ys x)

pub map_push : {A B : Type 0} (f : A → B) (xs : List A) (x : A) → map f (xs ++ x ∷ []) ≡ map f xs ++ f x ∷ []
map_push f [] x = refl
map_push f (y ∷ ys) x = ap (λ z. f y ∷ z) (map_push f ys x)
