-- What is read is within the limits.
use Rattle.beldi_value.proofs.Names.{Bool, Datum, Err, IfOk, IsTrue, List, None, NotInt, NotJson, Ok, Option, ReadsValue, Result, Some, TooDeep, TooLarge, Value, ValueErr, [], ap, ap₂, arith, cond, datum_of, depth_of, escape, false, field, fields, fields_depth, if_shallow, if_small, if◌then◌else◌, int, int_of, is_within, item, items_depth, json_at, length, length-append, length_signed_le, list, mag, max, most_bytes, most_depth, nat_le, nat_lt, nat_tests, of_items, of_json, of_members, ok_or, option_and_then, option_map, quoted, read_of, refl, signed_decimal, subst, suc, text, text_size, true, ℕ, ℤ, ◌%◌, ◌&&◌, ◌*◌, ◌/◌, ◌<◌, ◌>>=◌, ◌^◌, ◌∙◌, ◌∷◌, ◌≡◌, ◌≤◌}
use Rattle.json.specs.Print.{escape_byte, escape_letter}
use Rattle.std.specs.Char.{digit_char}
use Rattle.beldi_value.proofs.Names.json

-- a reading nests as deep as n
abbrev Nests : {A : Type 0} → (A → ℕ) → ℕ → Option A → Type 0
Nests f n None = Unit {0}
Nests f n (Some a) = f a ≡ n

nests_map : {A B : Type 0} (f : A → ℕ) (g : B → ℕ) (m n : ℕ) (h : A → B) (o : Option A) → ((a : A) → f a ≡ m → g (h a) ≡ n) → Nests f m o → Nests g n (option_map h o)
nests_map f g m n h None k x = tt
nests_map f g m n h (Some a) k x = k a x

nests_then : {A B C : Type 0} (f : A → ℕ) (g : B → ℕ) (k : C → ℕ) (l m n : ℕ) (h : A → B → C) (o : Option A) (r : Option B) → ((a : A) (b : B) → f a ≡ l → g b ≡ m → k (h a b) ≡ n) → Nests f l o → Nests g m r
    → Nests k n (option_and_then (λ a. option_map (h a) r) o)
nests_then f g k l m n h None r j x y = tt
nests_then f g k l m n h (Some a) None j x y = tt
nests_then f g k l m n h (Some a) (Some b) j x y = j a b x y

ints_nest : (o : Option _) → Nests depth_of 0 (option_map int o)
ints_nest None = tt
ints_nest (Some z) = refl

mutual
  nests : (j : json.Data) → Nests depth_of (json.depth j) (of_json j)
  nests json.null = refl
  nests (json.boolean b) = refl
  nests (json.number n) = ints_nest (int_of n)
  nests (json.string s) = refl
  nests (json.array ds) = nests_map items_depth depth_of (json.items_depth ds) (suc (json.items_depth ds)) list (of_items ds) (λ a e. omega arith) (items_nest ds)
  nests (json.object ms) = nests_map fields_depth depth_of (json.members_depth ms) (suc (json.members_depth ms)) fields (of_members ms) (λ a e. omega arith) (members_nest ms)

  items_nest : (ds : json.Items) → Nests items_depth (json.items_depth ds) (of_items ds)
  items_nest json.no_items = refl
  items_nest (json.item d ds) =
      nests_then depth_of items_depth items_depth (json.depth d) (json.items_depth ds) (max (json.depth d) (json.items_depth ds)) item (of_json d) (of_items ds) (λ a b e f. ap₂ max e f) (nests d) (items_nest ds)

  members_nest : (ms : json.Members) → Nests fields_depth (json.members_depth ms) (of_members ms)
  members_nest json.no_members = refl
  members_nest (json.member k d ms) =
      nests_then depth_of fields_depth fields_depth (json.depth d) (json.members_depth ms) (max (json.depth d) (json.members_depth ms)) (field k) (of_json d) (of_members ms) (λ a b e f. ap₂ max e f) (nests d) (members_nest ms)

-- a value is answered only within the limits
abbrev Within : Result Datum ValueErr → Type 0
Within (Ok d) = IsTrue (is_within d)
Within (Err e) = Unit {0}

small_within : (d : Datum) → nat_le (depth_of d) most_depth ≡ true → Within (if_small d)
small_within d h = elim (nat_le (text_size d) most_bytes) as (λ b. nat_le (text_size d) most_bytes ≡ b → Within (if b then Ok d else Err (TooLarge (text_size d)))) [
  | true ↦ λ e. ap₂ (λ b c. b && c) h e
  | false ↦ λ e. tt
] refl

whole_within : (n : ℕ) (o : Option Datum) → Nests depth_of n o → nat_le n most_depth ≡ true → Within (ok_or o NotInt >>= if_small)
whole_within n None e h = tt
whole_within n (Some d) e h = small_within d (ap (λ m. nat_le m most_depth) e ∙ h)

shallow_within : (j : json.Data) → Within (if_shallow j >>= λ k. ok_or (of_json k) NotInt >>= if_small)
shallow_within j = elim (nat_le (json.depth j) most_depth) as (λ b. nat_le (json.depth j) most_depth ≡ b → Within ((if b then Ok j else Err TooDeep) >>= λ k. ok_or (of_json k) NotInt >>= if_small)) [
  | true ↦ λ e. whole_within (json.depth j) (of_json j) (nests j) e
  | false ↦ λ e. tt
] refl

reading_within : (o : Option json.Data) → Within (ok_or o NotJson >>= λ j. if_shallow j >>= λ k. ok_or (of_json k) NotInt >>= if_small)
reading_within None = tt
reading_within (Some j) = shallow_within j

pub read_within : (bytes : List ℕ) (d : Datum) → read_of bytes ≡ Ok d → IsTrue (is_within d)
read_within bytes d e = subst Within e (reading_within (json_at bytes))

-- likewise of an answer
pub answer_within : (bytes : List ℕ) (r : Result Value ValueErr) → ReadsValue (read_of bytes) r → IfOk r (λ v. IsTrue (is_within (datum_of v)))
answer_within bytes (Ok v) h = read_within bytes (datum_of v) h
answer_within bytes (Err e) h = tt

-- a whole number of 64 bits is within the limits
pub int_within : (z : ℤ) → mag z < 2 ^ 63 → true ≡ is_within (int z)
int_within z h = let few : length (signed_decimal z) ≤ 21 = length_signed_le 20 z (omega arith) h in grind (arith, nat_tests)

-- so is a text of 256 bytes at most, of which each takes six at most
few_bytes : (x : ℕ) → length (escape_byte x) ≤ 6
unfolding escape_byte
few_bytes x = by (nat_lt 0 (escape_letter x)) (nat_lt x 32)
  where
    by : (a b : Bool) → length (cond a (92 ∷ escape_letter x ∷ []) (cond b (92 ∷ 117 ∷ 48 ∷ 48 ∷ digit_char (x / 16) ∷ digit_char (x % 16) ∷ []) (x ∷ []))) ≤ 6
    by true b = omega arith
    by false true = omega arith
    by false false = omega arith

escaped_few : (s : List ℕ) → length (escape s) ≤ 6 * length s
escaped_few [] = omega arith
escaped_few (x ∷ s) = let few = few_bytes x in let rest = escaped_few s in let both = length-append (escape_byte x) (escape s) in omega (arith, few, rest, both)

pub short_within : (s : List ℕ) → length s ≤ 256 → is_within (text s) ≡ true
short_within s short =
    let few = escaped_few s in
    let both = length-append (escape s) (34 ∷ []) in
    let size : length (quoted s) ≤ 4096 = omega (arith, few, both, short) in
    grind (arith, nat_tests)
