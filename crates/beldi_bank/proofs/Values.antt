-- What the expressions of a transfer come to, where they come to a value.
use lib.Signed.{mag}
use Rattle.std.proofs.Common.{arith, ◌≡◌, ℕ, ◌<◌, ◌^◌, ℤ, ◌+ℤ◌, ◌-ℤ◌, Bool, true, false, List, Some, Result, Ok, Err, refl, ap, subst, sym, ◌∙◌}
use Rattle.std.specs.Prelude.{if◌then◌else◌, nat_le, nat_lt, length, codes}
use Rattle.std.specs.FinMap as map
use Rattle.std.proofs.lemmas.Bool.Decides.{nat_tests}
use Rattle.beldi_value.specs.{declared.rel.Rel.Rel, declared.value.Value.Value, declared.outcome.Code.Code, Value.datum_of, Limits.is_within, Same.same_value}
use Rattle.beldi_tree.specs.{Bindings.Bindings, Bindings.or_null, Evaluate.◌>>=◌, Evaluate.limited, Evaluate.term_value, Evaluate.field_of, Evaluate.key_of, Evaluate.on_two, Evaluate.operate, Evaluate.compared, Evaluate.in_range, declared.deployment.Op.Op}
use Rattle.beldi_tree.specs.Term.{name, field, binary, null}
use Rattle.beldi_lang.specs.Wants.{key_value}
use Rattle.beldi_bank.specs.Bank.{args, from, to, amount, is_new, less, more, source, target, IsTransfer}
use Rattle.beldi_bank.specs.BankLaws.{IsWhole}

pub same_ok : {X : Type 0} {x y : X} → (the : Result X Code) → the ≡ Ok x → the ≡ Ok y → x ≡ y
same_ok the p q = let e = sym p ∙ q in cc

nat_lt_true : (m n : ℕ) → nat_lt m n ≡ true → m < n
nat_lt_true m n h = grind (arith, nat_tests)

pub bound : {A B : Type 0} (r : Result A Code) (f : A → Result B Code) (y : B) → r >>= f ≡ Ok y → (x : A) × (r ≡ Ok x) × (f x ≡ Ok y)
bound (Err c) f y h = cc
bound (Ok x) f y h = (x, refl, h)

if_ok : {X : Type 0} (b : Bool) (x y : X) (c : Code) → (if b then Ok x else Err c) ≡ Ok y → y ≡ x
if_ok true x y c h = cc
if_ok false x y c h = cc

-- what an operator gives is in range
whole_ok : (z : ℤ) (b : Bool) (w : Value) (c : Code) → in_range z ≡ b → (if b then Ok (Value.Int z) else Err c) ≡ Ok w → (w ≡ Value.Int z) × IsWhole w
whole_ok z true w c e h = let same : w ≡ Value.Int z = if_ok true (Value.Int z) w c h in (same, subst IsWhole (sym same) (nat_lt_true (mag z) (2 ^ 63) e))
whole_ok z false w c e h = cc

pub limited_kept : (r : Result Value Code) (u : Value) → r >>= limited ≡ Ok u → r ≡ Ok u
limited_kept r u h = let b = bound r limited u h in b.1 ∙ ap Ok (sym (if_ok (is_within (datum_of b.0)) b.0 u Code.ValueTooLarge b.2))

-- a variable
name_is : (vs : Bindings) (n : List ℕ) (v u : Value) → map.get vs n ≡ Some v → term_value vs (name n) ≡ Ok u → u ≡ v
name_is vs n v u is h = let e = limited_kept (Ok (or_null (map.get vs n))) u h in same_ok (Ok u) refl (sym e) ∙ ap or_null is

-- a field of the arguments
field_is : (vs : Bindings) (v u : Value) (f : List ℕ) → map.get vs args ≡ Some v → term_value vs (field (name args) f) ≡ Ok u → field_of f v ≡ Ok u
field_is vs v u f is h =
    let b = bound (term_value vs (name args)) (field_of f) u (limited_kept (term_value vs (name args) >>= field_of f) u h) in
    ap (field_of f) (sym (name_is vs args v b.0 is b.1)) ∙ b.2

key_is : (vs : Bindings) (v : Value) (f s k : List ℕ) → map.get vs args ≡ Some v → field_of f v ≡ Ok (Value.Text s) → key_value vs (field (name args) f) ≡ Ok k → k ≡ s
key_is vs v f s k is h e =
    let b = bound (term_value vs (field (name args) f)) key_of k e in
    let t = same_ok (field_of f v) (field_is vs v b.0 f is b.1) h in
    if_ok (nat_le (length s) 256) s k Code.ValueTooLarge (ap key_of (sym t) ∙ b.2)

module _ (vs : Bindings) (v : Value) (t : IsTransfer v) (is : map.get vs args ≡ Some v) where
  pub source_is : (k : List ℕ) → key_value vs from ≡ Ok k → k ≡ t.source
  source_is k e = key_is vs v (codes "from") t.source k is (ap (field_of (codes "from")) t.is) e

  pub target_is : (k : List ℕ) → key_value vs to ≡ Ok k → k ≡ t.target
  target_is k e = key_is vs v (codes "to") t.target k is (ap (field_of (codes "to")) t.is) e

  amount_is : (u : Value) → term_value vs amount ≡ Ok u → u ≡ Value.Int t.amount
  amount_is u e = same_ok (field_of (codes "n") v) (field_is vs v u (codes "n") is e) (ap (field_of (codes "n")) t.is)

  both : (o : Op) (n : List ℕ) (m : ℤ) (w : Value) → map.get vs n ≡ Some (Value.Int m) → term_value vs (binary o (name n) amount) ≡ Ok w → operate o (Value.Int m) (Value.Int t.amount) ≡ Ok w
  both o n m w has e =
      let b = bound (term_value vs (name n)) (λ x. term_value vs amount >>= operate o x) w (limited_kept (on_two (operate o) (term_value vs (name n)) (term_value vs amount)) w e) in
      let c = bound (term_value vs amount) (operate o b.0) w b.2 in
      ap (λ x. operate o x (Value.Int t.amount)) (sym (name_is vs n (Value.Int m) b.0 has b.1)) ∙ ap (operate o b.0) (sym (amount_is c.0 c.1)) ∙ c.2

  pub less_is : (m : ℤ) (w : Value) → map.get vs source ≡ Some (Value.Int m) → term_value vs less ≡ Ok w → (w ≡ Value.Int (m -ℤ t.amount)) × IsWhole w
  less_is m w has e = whole_ok (m -ℤ t.amount) (in_range (m -ℤ t.amount)) w Code.Overflow refl (both Op.Sub source m w has e)

  pub more_is : (m : ℤ) (w : Value) → map.get vs target ≡ Some (Value.Int m) → term_value vs more ≡ Ok w → (w ≡ Value.Int (m +ℤ t.amount)) × IsWhole w
  more_is m w has e = whole_ok (m +ℤ t.amount) (in_range (m +ℤ t.amount)) w Code.Overflow refl (both Op.Add target m w has e)

-- whether a variable is null
pub new_is : (vs : Bindings) (n : List ℕ) (v w : Value) → map.get vs n ≡ Some v → term_value vs (is_new n) ≡ Ok w → w ≡ Value.Bool (same_value v Value.Null)
new_is vs n v w is e =
    let b = bound (term_value vs (name n)) (λ x. term_value vs null >>= compared Rel.Eq x) w (limited_kept (on_two (compared Rel.Eq) (term_value vs (name n)) (term_value vs null)) w e) in
    let c = bound (term_value vs null) (compared Rel.Eq b.0) w b.2 in
    same_ok (compared Rel.Eq b.0 c.0) c.2 (ap (λ x. compared Rel.Eq x c.0) (name_is vs n v b.0 is b.1) ∙ ap (compared Rel.Eq v) (same_ok (term_value vs null) c.1 refl))
