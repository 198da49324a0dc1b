-- The value of an expression, or its fault. The parts are evaluated left to right, and the first fault ends the evaluation.
use Rattle.std.specs.Prelude.{◌≡◌, ℕ, ◌^◌, nat_lt, nat_le, ℤ, pos, neg_ℤ, ◌+ℤ◌, ◌-ℤ◌, ◌*ℤ◌, int_div, int_rem, Bool, true, false, not, List, [], ◌∷◌, ◌++◌, length, Option, Some, None, option_map, Result, Ok, Err, if◌then◌else◌}
use Rattle.std.specs.{Ordering.int_eq, declared.cmp.Ordering.Ordering}
use lib.Signed.{mag}
use Rattle.std.specs.FinMap as map
use Rattle.beldi_value.specs.{declared.value.Value.Value, declared.value.Value.TheVariants.Null, declared.value.Value.TheVariants.Bool as Truth, declared.value.Value.TheVariants.Int, declared.value.Value.TheVariants.Text, declared.value.Value.TheVariants.List as ListOf, declared.value.Value.TheVariants.Rec, declared.outcome.Code.Code, declared.outcome.Code.TheVariants.WrongType, declared.outcome.Code.TheVariants.Overflow, declared.outcome.Code.TheVariants.DivideByZero, declared.outcome.Code.TheVariants.ValueTooLarge, declared.rel.Rel.Rel, declared.rel.Rel.TheVariants.Eq, declared.rel.Rel.TheVariants.Ne, declared.rel.Rel.TheVariants.Lt, declared.rel.Rel.TheVariants.Le, declared.rel.Rel.TheVariants.Gt, declared.rel.Rel.TheVariants.Ge, Datum.Datum, Value.datum_of, Injective.value_of, Json.text_of, Limits.is_within, RecordParts.field_at, RecordParts.set_field, RecordParts.item_at, Passes.meets, Passes.order_of, Same.same_value}
use Rattle.beldi_tree.specs.{declared.fault.EvalErr.EvalErr, declared.fault.EvalErr.TheVariants.OutOfMemory, declared.fault.EvalErr.TheVariants.Fault, declared.deployment.Op.Op, declared.deployment.Op.TheVariants.Add, declared.deployment.Op.TheVariants.Sub, declared.deployment.Op.TheVariants.Join, declared.deployment.Op.TheVariants.Mul, declared.deployment.Op.TheVariants.Div, declared.deployment.Op.TheVariants.Rem, declared.deployment.Expr.Expr, Term.Term, Term.Terms, Term.Members, Expr.term_of}
pub use Rattle.beldi_tree.specs.Bindings.{Bindings, or_null}
use Rattle.beldi_tree.specs.Term as term

infixl 10 ◌>>=◌
abbrev pub and_then : {A B : Type 0} → Result A Code → (A → Result B Code) → Result B Code
and_then (Ok x) f = f x
and_then (Err c) f = Err c

abbrev pub ◌>>=◌ : {A B : Type 0} → Result A Code → (A → Result B Code) → Result B Code
r >>= f = and_then r f

-- ---- what a value has to be

abbrev pub truth : Value → Result Bool Code
truth (Truth b) = Ok b
truth v = Err WrongType

abbrev pub int : Value → Result ℤ Code
int (Int z) = Ok z
int v = Err WrongType

abbrev pub text : Value → Result (List ℕ) Code
text (Text s) = Ok s
text v = Err WrongType

abbrev pub items : Value → Result (List Datum) Code
items (ListOf ds) = Ok ds
items v = Err WrongType

abbrev pub fields : Value → Result (List (List ℕ × Datum)) Code
fields (Rec fs) = Ok fs
fields v = Err WrongType

-- within the limits of values
abbrev pub limited : Value → Result Value Code
limited v = if is_within (datum_of v) then Ok v else Err ValueTooLarge

-- ---- numbers

-- from -2^63 to 2^63 - 1 (`mag` of n and of -(n + 1) is n)
abbrev pub in_range : ℤ → Bool
in_range z = nat_lt (mag z) (2 ^ 63)

abbrev pub whole : ℤ → Result Value Code
whole z = if in_range z then Ok (Int z) else Err Overflow

-- cut towards zero
abbrev pub quotient : ℤ → ℤ → Result Value Code
quotient m n = if int_eq n (pos 0) then Err DivideByZero else whole (int_div m n)

-- with the sign of the left side, and only where the quotient is in range
abbrev pub remainder : ℤ → ℤ → Result Value Code
remainder m n = if int_eq n (pos 0) then Err DivideByZero else if in_range (int_div m n) then Ok (Int (int_rem m n)) else Err Overflow

-- ---- operators

abbrev pub ints : (ℤ → ℤ → Result Value Code) → Value → Value → Result Value Code
ints f x y = do
  m ← int x
  n ← int y
  f m n

abbrev pub joined : Value → Value → Result Value Code
joined x y = do
  s ← text x
  t ← text y
  Ok (Text (s ++ t))

-- the order is one that the relation asks for
abbrev pub ordered : Rel → Option Ordering → Result Value Code
ordered r None = Err WrongType
ordered r (Some o) = Ok (Truth (meets r o))

-- any two values are equal or not; two numbers or two texts have an order
abbrev pub compared : Rel → Value → Value → Result Value Code
compared Eq x y = Ok (Truth (same_value x y))
compared Ne x y = Ok (Truth (not (same_value x y)))
compared Lt x y = ordered Lt (order_of x y)
compared Le x y = ordered Le (order_of x y)
compared Gt x y = ordered Gt (order_of x y)
compared Ge x y = ordered Ge (order_of x y)

abbrev pub operate : Op → Value → Value → Result Value Code
operate Add x y = ints (λ m n. whole (m +ℤ n)) x y
operate Sub x y = ints (λ m n. whole (m -ℤ n)) x y
operate Join x y = joined x y
operate Mul x y = ints (λ m n. whole (m *ℤ n)) x y
operate Div x y = ints quotient x y
operate Rem x y = ints remainder x y

-- a value that has to be a truth
abbrev pub settled : Value → Result Value Code
settled v = do
  b ← truth v
  Ok (Truth b)

-- the left side decides where it is true, and otherwise the right side does
abbrev pub either : Result Value Code → Result Value Code → Result Value Code
either r s = do
  v ← r
  b ← truth v
  if b then Ok (Truth true) else s >>= settled

-- the left side decides where it is false, and otherwise the right side does
abbrev pub both : Result Value Code → Result Value Code → Result Value Code
both r s = do
  v ← r
  b ← truth v
  if b then s >>= settled else Ok (Truth false)

abbrev pub opposite : Value → Result Value Code
opposite v = do
  b ← truth v
  Ok (Truth (not b))

abbrev pub negated : Value → Result Value Code
negated v = do
  z ← int v
  whole (neg_ℤ z)

abbrev pub field_of : List ℕ → Value → Result Value Code
field_of key v = do
  fs ← fields v
  Ok (or_null (option_map value_of (field_at key fs)))

abbrev pub element_of : Value → Value → Result Value Code
element_of v i = do
  ds ← items v
  z ← int i
  Ok (or_null (option_map value_of (item_at z ds)))

-- how many bytes a text has, or how many elements a list
abbrev pub length_of : Value → Result Value Code
length_of (Text s) = whole (pos (length s))
length_of (ListOf ds) = whole (pos (length ds))
length_of v = Err WrongType

abbrev pub pushed : Value → Value → Result Value Code
pushed v x = do
  ds ← items v
  Ok (ListOf (ds ++ datum_of x ∷ []))

abbrev pub with_field : Value → Value → Value → Result Value Code
with_field v k x = do
  fs ← fields v
  key ← text k
  Ok (Rec (set_field fs key (datum_of x)))

-- ---- expressions

-- what is made of two parts, or of three
abbrev pub on_two : (Value → Value → Result Value Code) → Result Value Code → Result Value Code → Result Value Code
on_two f r s = do
  x ← r
  y ← s
  f x y

abbrev pub on_three : (Value → Value → Value → Result Value Code) → Result Value Code → Result Value Code → Result Value Code → Result Value Code
on_three f r s t = do
  x ← r
  y ← s
  z ← t
  f x y z

-- the value before its size is looked at
abbrev mutual
  pub plain_value : Bindings → Term → Result Value Code
  plain_value vs (term.int z) = Ok (Int z)
  plain_value vs (term.text s) = Ok (Text s)
  plain_value vs (term.boolean b) = Ok (Truth b)
  plain_value vs term.null = Ok Null
  plain_value vs (term.name n) = Ok (or_null (map.get vs n))
  plain_value vs (term.or t u) = either (plain_value vs t >>= limited) (plain_value vs u >>= limited)
  plain_value vs (term.and t u) = both (plain_value vs t >>= limited) (plain_value vs u >>= limited)
  plain_value vs (term.not t) = plain_value vs t >>= limited >>= opposite
  plain_value vs (term.negate t) = plain_value vs t >>= limited >>= negated
  plain_value vs (term.compare r t u) = on_two (compared r) (plain_value vs t >>= limited) (plain_value vs u >>= limited)
  plain_value vs (term.binary o t u) = on_two (operate o) (plain_value vs t >>= limited) (plain_value vs u >>= limited)
  plain_value vs (term.field t key) = plain_value vs t >>= limited >>= field_of key
  plain_value vs (term.element t u) = on_two element_of (plain_value vs t >>= limited) (plain_value vs u >>= limited)
  plain_value vs (term.list ts) = do
    ds ← items_value vs ts
    Ok (ListOf ds)
  plain_value vs (term.fields ms) = do
    fs ← fields_value vs [] ms
    Ok (Rec fs)
  plain_value vs (term.len t) = plain_value vs t >>= limited >>= length_of
  plain_value vs (term.text_of t) = do
    x ← plain_value vs t >>= limited
    Ok (Text (text_of (datum_of x)))
  plain_value vs (term.push t u) = on_two pushed (plain_value vs t >>= limited) (plain_value vs u >>= limited)
  plain_value vs (term.with t u v) = on_three with_field (plain_value vs t >>= limited) (plain_value vs u >>= limited) (plain_value vs v >>= limited)

  pub items_value : Bindings → Terms → Result (List Datum) Code
  items_value vs term.no_items = Ok []
  items_value vs (term.item t ts) = do
    x ← plain_value vs t >>= limited
    ds ← items_value vs ts
    Ok (datum_of x ∷ ds)

  -- each sets its field, so that of two equal keys the last one counts
  pub fields_value : Bindings → List (List ℕ × Datum) → Members → Result (List (List ℕ × Datum)) Code
  fields_value vs fs term.no_members = Ok fs
  fields_value vs fs (term.member key t ms) = do
    x ← plain_value vs t >>= limited
    fields_value vs (set_field fs key (datum_of x)) ms

-- the value of a part of an expression
abbrev pub term_value : Bindings → Term → Result Value Code
term_value vs t = plain_value vs t >>= limited

-- the value of an expression
abbrev pub value_at : Bindings → Expr → Result Value Code
value_at vs e = term_value vs (term_of e)

-- an answer gives what is meant, unless out of memory
abbrev pub IsFault : {A : Type 0} → Result A Code → EvalErr → Type 0
IsFault r OutOfMemory = Unit {0}
IsFault r (Fault c) = r ≡ Err c

abbrev pub Evaluates : {A : Type 0} → Result A Code → Result A EvalErr → Type 0
Evaluates r (Ok x) = r ≡ Ok x
Evaluates r (Err e) = IsFault r e

-- ---- keys of cells

abbrev pub most_key : ℕ
most_key = 256

-- a key is a text of at most 256 bytes
abbrev pub key_of : Value → Result (List ℕ) Code
key_of v = do
  s ← text v
  if nat_le (length s) most_key then Ok s else Err ValueTooLarge

abbrev pub key_at : Bindings → Expr → Result (List ℕ) Code
key_at vs e = value_at vs e >>= key_of
