-- The canonical text of a value is read as that value.
use Rattle.std.specs.Prelude.{Ok, Err}
use Rattle.std.specs.Cmp.Lexicographic.{nat_list_cmp_total}
use Rattle.std.proofs.Common.{leb-true}
use Rattle.beldi_value.proofs.Names.{AreFormed, ArePrintable-json_tokens, Bool, Datum, Datums, Fields, Greater, HaveForm, IsAbove, IsAscii-signed, IsFormed, IsNumber, IsNumber-signed_decimal, IsReadAgain, IsRecord, IsUtf8, IsUtf8-append, IsUtf8-are_ascii, IsUtf8-boolean, IsUtf8-from_ascii, IsUtf8-nil, IsUtf8-quoted, Less, List, None, NotInt, NotJson, Option, Some, Token, TooDeep, TooLarge, [], and_parts, ap, append-nil, ap₂, arith, boolean, comma_if, decimal, depth_of, false, field, fields, fields_depth, if_shallow, if_small, if◌then◌else◌, int, int_of, is_utf8-from_IsUtf8, item, items_depth, items_outline, items_text, json_at, json_fields, json_items, json_of, list, lt-ltb, mag, match_ordering, max, members_outline, members_text, most_bytes, most_depth, nat_cmp, nat_le, negsuc, no_fields, no_items, null, number_of, number_of-decimal, number_of-negative, number_text, of_items, of_json, of_members, ok_or, option_and_then, option_map, ordering_reverse, outline, pairs_of, pos, print-outline, quoted, refl, slice_cmp, suc, sym, text, text_of, text_size, tokens, tokens-print, true, value-json_tokens, ℕ, ℤ, ◌++◌, ◌<◌, ◌>>=◌, ◌^◌, ◌∙◌, ◌∷◌, ◌≡◌, ◌≤◌}
use Rattle.beldi_value.proofs.Names.json
use Rattle.beldi_value.proofs.Names.serde
use Rattle.beldi_value.proofs.Names.syntax
use Rattle.beldi_value.proofs.Names.tree

-- ---- its text is UTF-8
number_utf8 : (z : ℤ) → mag z < 2 ^ 63 → IsUtf8 (number_text (number_of z))
number_utf8 (pos n) h = IsUtf8-from_ascii (decimal n) (IsAscii-signed (pos n) h)
number_utf8 (negsuc n) h = IsUtf8-from_ascii (45 ∷ decimal (suc n)) (IsAscii-signed (negsuc n) h)

comma_utf8 : (later : Bool) → IsUtf8 (comma_if later)
comma_utf8 true = IsUtf8-are_ascii (44 ∷ []) refl
comma_utf8 false = IsUtf8-nil

byte_then : (b : ℕ) (bs : List ℕ) → IsUtf8 (b ∷ []) → IsUtf8 bs → IsUtf8 (b ∷ bs)
byte_then b bs one rest = IsUtf8-append (b ∷ []) bs one rest

mutual
  pub text_utf8 : (d : Datum) → IsFormed d → IsUtf8 (text_of d)
  text_utf8 null h = IsUtf8-are_ascii (110 ∷ 117 ∷ 108 ∷ 108 ∷ []) refl
  text_utf8 (boolean b) h = IsUtf8-boolean b
  text_utf8 (int z) h = number_utf8 z h
  text_utf8 (text s) h = IsUtf8-quoted s h
  text_utf8 (list ds) h = byte_then 91 (items_text false (json_items ds)) (IsUtf8-are_ascii (91 ∷ []) refl) (items_utf8 false ds h)
  text_utf8 (fields fs) h = byte_then 123 (members_text false (json_fields fs)) (IsUtf8-are_ascii (123 ∷ []) refl) (fields_utf8 false fs h.1)

  items_utf8 : (later : Bool) (ds : Datums) → AreFormed ds → IsUtf8 (items_text later (json_items ds))
  items_utf8 later no_items h = IsUtf8-are_ascii (93 ∷ []) refl
  items_utf8 later (item d ds) h =
      IsUtf8-append (comma_if later) (text_of d ++ items_text true (json_items ds)) (comma_utf8 later) (IsUtf8-append (text_of d) (items_text true (json_items ds)) (text_utf8 d h.0) (items_utf8 true ds h.1))

  fields_utf8 : (later : Bool) (fs : Fields) → HaveForm fs → IsUtf8 (members_text later (json_fields fs))
  fields_utf8 later no_fields h = IsUtf8-are_ascii (125 ∷ []) refl
  fields_utf8 later (field k d fs) h =
      let rest = text_of d ++ members_text true (json_fields fs) in
      IsUtf8-append (comma_if later) (quoted k ++ 58 ∷ rest) (comma_utf8 later)
      (IsUtf8-append (quoted k) (58 ∷ rest) (IsUtf8-quoted k h.0)
      (byte_then 58 rest (IsUtf8-are_ascii (58 ∷ []) refl) (IsUtf8-append (text_of d) (members_text true (json_fields fs)) (text_utf8 d h.1) (fields_utf8 true fs h.2))))

-- ---- its numbers are written as numbers
is_number : (z : ℤ) → mag z < 2 ^ 63 → IsNumber (number_text (number_of z))
is_number (pos n) h = IsNumber-signed_decimal (pos n) h
is_number (negsuc n) h = IsNumber-signed_decimal (negsuc n) h

mutual
  has_numbers : (d : Datum) → IsFormed d → tree.HasNumbers (outline (json_of d))
  has_numbers null h = tt
  has_numbers (boolean b) h = tt
  has_numbers (int z) h = is_number z h
  has_numbers (text s) h = tt
  has_numbers (list ds) h = items_numbers ds h
  has_numbers (fields fs) h = fields_numbers fs h.1

  items_numbers : (ds : Datums) → AreFormed ds → tree.ItemsHaveNumbers (items_outline (json_items ds))
  items_numbers no_items h = tt
  items_numbers (item d ds) h = (has_numbers d h.0, items_numbers ds h.1)

  fields_numbers : (fs : Fields) → HaveForm fs → tree.MembersHaveNumbers (members_outline (json_fields fs))
  fields_numbers no_fields h = tt
  fields_numbers (field k d fs) h = (has_numbers d h.1, fields_numbers fs h.2)

-- ---- it nests as deep as its text
mutual
  pub same_depth : (d : Datum) → json.depth (json_of d) ≡ depth_of d
  same_depth null = refl
  same_depth (boolean b) = refl
  same_depth (int z) = refl
  same_depth (text s) = refl
  same_depth (list ds) = omega (arith, same_items_depth ds)
  same_depth (fields fs) = omega (arith, same_fields_depth fs)

  same_items_depth : (ds : Datums) → json.items_depth (json_items ds) ≡ items_depth ds
  same_items_depth no_items = refl
  same_items_depth (item d ds) = ap₂ max (same_depth d) (same_items_depth ds)

  same_fields_depth : (fs : Fields) → json.members_depth (json_fields fs) ≡ fields_depth fs
  same_fields_depth no_fields = refl
  same_fields_depth (field k d fs) = ap₂ max (same_depth d) (same_fields_depth fs)

mutual
  tree_depth : (d : json.Data) → tree.depth (outline d) ≡ json.depth d
  tree_depth json.null = refl
  tree_depth (json.boolean b) = refl
  tree_depth (json.number n) = refl
  tree_depth (json.string s) = refl
  tree_depth (json.array ds) = ap suc (tree_items_depth ds)
  tree_depth (json.object ms) = ap suc (tree_members_depth ms)

  tree_items_depth : (ds : json.Items) → tree.items_depth (items_outline ds) ≡ json.items_depth ds
  tree_items_depth json.no_items = refl
  tree_items_depth (json.item d ds) = ap₂ max (tree_depth d) (tree_items_depth ds)

  tree_members_depth : (ms : json.Members) → tree.members_depth (members_outline ms) ≡ json.members_depth ms
  tree_members_depth json.no_members = refl
  tree_members_depth (json.member k d ms) = ap₂ max (tree_depth d) (tree_members_depth ms)

-- ---- members that are put one after another, each above those before it
abbrev onto : json.Members → json.Members → json.Members
onto json.no_members ms = ms
onto (json.member k d ns) ms = json.member k d (onto ns ms)

abbrev AllBelow : json.Members → List ℕ → Type 0
AllBelow json.no_members k = Unit {0}
AllBelow (json.member l d ms) k = (slice_cmp nat_cmp l k ≡ Less) × AllBelow ms k

above : (l k : List ℕ) → slice_cmp nat_cmp l k ≡ Less → slice_cmp nat_cmp k l ≡ Greater
above l k h = nat_list_cmp_total.antisymm k l ∙ ap ordering_reverse h

put_above : (k : List ℕ) (d : json.Data) (ms : json.Members) → AllBelow ms k → json.put k d ms ≡ onto ms (json.member k d json.no_members)
put_above k d json.no_members h = refl
put_above k d (json.member l e ms) h =
    ap (λ o. match_ordering o (json.member k d (json.member l e ms)) (json.member l d ms) (json.member l e (json.put k d ms))) (above l k h.0) ∙ ap (json.member l e) (put_above k d ms h.1)

onto_onto : (ms : json.Members) (k : List ℕ) (d : json.Data) (ns : json.Members) → onto (onto ms (json.member k d json.no_members)) ns ≡ onto ms (json.member k d ns)
onto_onto json.no_members k d ns = refl
onto_onto (json.member l e ms) k d ns = ap (json.member l e) (onto_onto ms k d ns)

still_below : (ms : json.Members) (k l : List ℕ) → AllBelow ms k → slice_cmp nat_cmp k l ≡ Less → AllBelow ms l
still_below json.no_members k l h less = tt
still_below (json.member j e ms) k l h less = (nat_list_cmp_total.trans j k l h.0 less, still_below ms k l h.1 less)

below_more : (ms : json.Members) (k : List ℕ) (d : json.Data) (l : List ℕ) → AllBelow ms k → slice_cmp nat_cmp k l ≡ Less → AllBelow (onto ms (json.member k d json.no_members)) l
below_more json.no_members k d l h less = (less, tt)
below_more (json.member j e ms) k d l h less = (nat_list_cmp_total.trans j k l h.0 less, below_more ms k d l h.1 less)

-- the fields' first key is above these, and they rise
abbrev Follow : json.Members → Fields → Type 0
Follow found no_fields = Unit {0}
Follow found (field k d fs) = AllBelow found k × IsAbove k (pairs_of fs)

next : (found : json.Members) (k : List ℕ) (d : json.Data) (fs : Fields) → AllBelow found k → IsAbove k (pairs_of fs) → Follow (onto found (json.member k d json.no_members)) fs
next found k d no_fields h a = tt
next found k d (field l e fs) h a = (below_more found k d l h a.0, a.1)

first : (fs : Fields) → IsRecord (pairs_of fs) → Follow json.no_members fs
first no_fields h = tt
first (field k d fs) h = (tt, h)

onto_none : (ms : json.Members) → onto ms json.no_members ≡ ms
onto_none json.no_members = refl
onto_none (json.member k d ms) = ap (json.member k d) (onto_none ms)

-- ---- `serde_json` reads it
number_read : (z : ℤ) → mag z < 2 ^ 63 → serde.number_of (number_text (number_of z)) ≡ Some (number_of z)
number_read (pos n) h = number_of-decimal n (omega arith)
number_read (negsuc n) h = number_of-negative n h

mutual
  tree_read : (d : Datum) → IsFormed d → serde.of_json (outline (json_of d)) ≡ Some (json_of d)
  tree_read null h = refl
  tree_read (boolean b) h = refl
  tree_read (int z) h = ap (option_map json.number) (number_read z h)
  tree_read (text s) h = refl
  tree_read (list ds) h = ap (option_map json.array) (items_read ds h)
  tree_read (fields fs) h = ap (option_map json.object) (fields_read fs json.no_members h.1 (first fs h.0))

  items_read : (ds : Datums) → AreFormed ds → serde.of_items (items_outline (json_items ds)) ≡ Some (json_items ds)
  items_read no_items h = refl
  items_read (item d ds) h =
      ap (option_and_then (λ e. option_map (json.item e) (serde.of_items (items_outline (json_items ds))))) (tree_read d h.0) ∙ ap (option_map (json.item (json_of d))) (items_read ds h.1)

  fields_read : (fs : Fields) (found : json.Members) → HaveForm fs → Follow found fs → serde.of_members (members_outline (json_fields fs)) found ≡ Some (onto found (json_fields fs))
  fields_read no_fields found h f = ap Some (sym (onto_none found))
  fields_read (field k d fs) found h f =
      let one = json.member k (json_of d) json.no_members in
      ap (option_and_then (λ e. serde.of_members (members_outline (json_fields fs)) (json.put k e found))) (tree_read d h.1)
      ∙ ap (serde.of_members (members_outline (json_fields fs))) (put_above k (json_of d) found f.0)
      ∙ fields_read fs (onto found one) h.2 (next found k (json_of d) fs f.0 f.1)
      ∙ ap Some (onto_onto found k (json_of d) (json_fields fs))

text_tokens : (d : Datum) → IsFormed d → tokens (text_of d) ≡ tree.json_tokens (outline (json_of d))
text_tokens d h =
    ap tokens (sym (print-outline (json_of d))) ∙ tokens-print (tree.json_tokens (outline (json_of d))) (ArePrintable-json_tokens (outline (json_of d)) (has_numbers d h))

parsed : Option (syntax.Json × List Token) → Option json.Data
parsed o = option_and_then serde.of_json (option_and_then (λ p. syntax.if_last p.0 p.1) o)

text_read : (d : Datum) → IsFormed d → depth_of d ≤ 127 → serde.read (text_of d) ≡ Some (json_of d)
unfolding parsed
text_read d h low =
    let j = outline (json_of d) in
    let shallow_tree : tree.depth j ≤ 127 = omega (arith, tree_depth (json_of d), same_depth d) in
    ap (λ ts. parsed (syntax.value serde.max_depth ts)) (text_tokens d h ∙ sym (append-nil (tree.json_tokens j)))
    ∙ ap parsed (value-json_tokens j serde.max_depth [] shallow_tree) ∙ tree_read d h

-- ---- and it is the value
int_read : (z : ℤ) → mag z < 2 ^ 63 → int_of (number_of z) ≡ Some z
int_read (pos n) h = ap (λ b. if b then Some (pos n) else None) (lt-ltb n (2 ^ 63) h)
int_read (negsuc n) h = refl

mutual
  value_read : (d : Datum) → IsFormed d → of_json (json_of d) ≡ Some d
  value_read null h = refl
  value_read (boolean b) h = refl
  value_read (int z) h = ap (option_map int) (int_read z h)
  value_read (text s) h = refl
  value_read (list ds) h = ap (option_map list) (all_items_read ds h)
  value_read (fields fs) h = ap (option_map fields) (all_fields_read fs h.1)

  all_items_read : (ds : Datums) → AreFormed ds → of_items (json_items ds) ≡ Some ds
  all_items_read no_items h = refl
  all_items_read (item d ds) h = ap (option_and_then (λ x. option_map (item x) (of_items (json_items ds)))) (value_read d h.0) ∙ ap (option_map (item d)) (all_items_read ds h.1)

  all_fields_read : (fs : Fields) → HaveForm fs → of_members (json_fields fs) ≡ Some fs
  all_fields_read no_fields h = refl
  all_fields_read (field k d fs) h = ap (option_and_then (λ x. option_map (field k x) (of_members (json_fields fs)))) (value_read d h.1) ∙ ap (option_map (field k d)) (all_fields_read fs h.2)

is_small : (d : Datum) → nat_le (text_size d) most_bytes ≡ true → if_small d ≡ Ok d
is_small d e = ap (λ b. if b then Ok d else Err (TooLarge (text_size d))) e

is_shallow : (d : Datum) → nat_le (depth_of d) most_depth ≡ true → if_shallow (json_of d) ≡ Ok (json_of d)
is_shallow d e = ap (λ n. if nat_le n most_depth then Ok (json_of d) else Err TooDeep) (same_depth d) ∙ ap (λ b. if b then Ok (json_of d) else Err TooDeep) e

is_json : (d : Datum) → IsFormed d → depth_of d ≤ 127 → json_at (text_of d) ≡ Some (json_of d)
is_json d h low = ap (λ b. if b then serde.read (text_of d) else None) (is_utf8-from_IsUtf8 (text_of d) (text_utf8 d h)) ∙ text_read d h low

pub read_again : (d : Datum) → IsFormed d → IsReadAgain d
read_again d h within =
    let p = and_parts _ _ within in
    ap (λ o. ok_or o NotJson >>= λ j. if_shallow j >>= λ k. ok_or (of_json k) NotInt >>= if_small) (is_json d h (omega (arith, leb-true (depth_of d) 32 p.0)))
    ∙ ap (λ r. r >>= λ k. ok_or (of_json k) NotInt >>= if_small) (is_shallow d p.0) ∙ ap (λ o. ok_or o NotInt >>= if_small) (value_read d h) ∙ is_small d p.1
