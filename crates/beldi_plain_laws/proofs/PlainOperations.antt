-- What an operation leaves of the plain items, and of who holds their locks.
use Rattle.std.proofs.Common.{is_some}
use Rattle.beldi_value.specs.declared.place.Owner.TheVariants.{Tx}
use Rattle.beldi_plain_laws.proofs.Names.{Answer, Bool, Deployment, Equal-is, FinMap, Instance, Intent, IntentId, Item, List, None, Null, Option, Owner, Some, Value, [], answered, ap, append-nil, append_assoc, cond, effect_of, false, get-insert, get-remove, held_along, held_if, holds, id_cmp, id_exact, is_eq, item_cmp, item_exact, item_total, op_of, or_null, or_old, refl, set_if, set_item, sym, true, wants, ℕ, ◌++◌, ◌∙◌, ◌∷◌, ◌≡◌}
use Rattle.beldi_plain_laws.proofs.Maps.{made_set}
use Rattle.beldi_plain_laws.proofs.Names.map

pub item_same : (x y : Item) → is_eq (item_cmp x y) ≡ true → x ≡ y
item_same x y h = item_exact x y ((Equal-is (item_cmp x y)).0 h)

pub id_same : (a b : IntentId) → is_eq (id_cmp a b) ≡ true → a ≡ b
id_same a b h = id_exact a b ((Equal-is (id_cmp a b)).0 h)

-- ---- the items
-- the plain items, after one was set
item_put : (f : FinMap item_cmp Value) (y x : Item) (v : Value) → or_null (map.get (set_item f y v) x) ≡ cond (is_eq (item_cmp x y)) v (or_null (map.get f x))
item_put f y x Null = ap or_null (get-remove item_total f y x) ∙ by_test (is_eq (item_cmp x y))
  where
    by_test : (b : Bool) → or_null (cond b None (map.get f x)) ≡ cond b Null (or_null (map.get f x))
    by_test true = refl
    by_test false = refl
item_put f y x v = ap or_null (get-insert item_total f y v x) ∙ by_test (is_eq (item_cmp x y))
  where
    by_test : (b : Bool) → or_null (cond b (Some v) (map.get f x)) ≡ cond b v (or_null (map.get f x))
    by_test true = refl
    by_test false = refl

-- .. to the value that an operation sets, if any
pub plain_set : (f : FinMap item_cmp Value) (y x : Item) (o : Option Value) → or_null (map.get (set_if f y o) x) ≡ cond (is_eq (item_cmp x y)) (or_old o (or_null (map.get f y))) (or_null (map.get f x))
plain_set f y x None = elim (is_eq (item_cmp x y)) as (λ b. is_eq (item_cmp x y) ≡ b → or_null (map.get f x) ≡ cond b (or_null (map.get f y)) (or_null (map.get f x))) [
  | true ↦ λ e. ap (λ z. or_null (map.get f z)) (item_same x y e)
  | false ↦ λ e. refl
] refl
plain_set f y x (Some v) = item_put f y x v

-- ---- who holds an item's lock
-- whether a lock is held, after one answer more
pub held_pushed : (d : Deployment) (x : Item) (f : ℕ) (args : Value) (inherited : Bool) (given rest : List Answer) (a : Answer) (b : Bool)
    → held_along d x f args inherited given (rest ++ a ∷ []) b ≡ held_if x f (op_of (wants d f args inherited (given ++ rest))) (held_along d x f args inherited given rest b)
held_pushed d x f args inherited given [] a b = ap (λ g. held_if x f (op_of (wants d f args inherited g)) b) (sym (append-nil given))
held_pushed d x f args inherited given (r ∷ rest) a b =
    let c = held_if x f (op_of (wants d f args inherited given)) b in
    held_pushed d x f args inherited (given ++ r ∷ []) rest a c ∙ ap (λ g. held_if x f (op_of (wants d f args inherited g)) (held_along d x f args inherited (given ++ r ∷ []) rest c)) (append_assoc given (r ∷ []) rest)

-- an answer to what is no operation, and one that was not there before, move no lock
module _ (d : Deployment) (x : Item) (f : FinMap id_cmp Instance) (id : IntentId) where
  pub holds_answered : (q : Instance) (a : Answer) → map.get f id ≡ Some q → op_of (effect_of d q) ≡ None → (j : IntentId) → holds d x (map.get (map.insert f id (answered q a)) j) ≡ holds d x (map.get f j)
  holds_answered q a is none = made_set f id (answered q a) (λ j o. holds d x o ≡ holds d x (map.get f j))
      (held_pushed d x q.func q.args (is_some q.enclosing) [] q.answers a false ∙ ap (λ o. held_if x q.func o (holds d x (Some q))) none ∙ ap (holds d x) (sym is)) (λ j. refl)

  pub holds_set : (q : Instance) → holds d x (map.get f id) ≡ holds d x (Some q) → (j : IntentId) → holds d x (map.get (map.insert f id q) j) ≡ holds d x (map.get f j)
  holds_set q is = made_set f id q (λ j o. holds d x o ≡ holds d x (map.get f j)) (sym is) (λ j. refl)

-- an owner that is not this intent
abbrev pub IsOther : IntentId → Owner → Type 0
IsOther id (Intent j) = is_eq (id_cmp j id) ≡ false
IsOther id (Tx t) = Unit {0}
