-- Who holds the lock of an item: read off the answers of the instances.
use Rattle.std.specs.Prelude.{ℕ, Bool, true, false, List, [], ◌∷◌, ◌++◌, Option, Some, None, is_some, if◌then◌else◌}
use Rattle.std.specs.Ordering.{is_eq}
use Rattle.beldi_value.specs.declared.value.Value.{Value}
use Rattle.beldi_tree.specs.declared.deployment.Deployment.{Deployment}
use Rattle.beldi_lang.specs.{declared.effect.Answer.Answer, Wants.wants}
use Rattle.beldi_plain.specs.Operation.{Operation, OnItem, op_of, item_in, write, cond, lock, free}
use Rattle.beldi_plain.specs.{Item.Item, Item.item_cmp, Plain.Instance}

-- whether the instance that did it holds the lock then, by whether it held it before
abbrev pub held_by : Operation → Bool → Bool
held_by (write v) b = b
held_by (cond r o v) b = b
held_by lock b = true
held_by free b = false

-- .. the lock of this item
abbrev pub held_if : Item → ℕ → Option OnItem → Bool → Bool
held_if x func None b = b
held_if x func (Some o) b = if is_eq (item_cmp (item_in func o) x) then held_by o.does b else b

-- .. after these answers, of which the first were seen already; `inherited`: called in a transaction
abbrev pub held_along : Deployment → Item → ℕ → Value → Bool → List Answer → List Answer → Bool → Bool
held_along d x func args inherited given [] b = b
held_along d x func args inherited given (a ∷ rest) b = held_along d x func args inherited (given ++ a ∷ []) rest (held_if x func (op_of (wants d func args inherited given)) b)

-- whether an instance holds the lock of an item
abbrev pub holds : Deployment → Item → Option Instance → Bool
holds d x None = false
holds d x (Some q) = held_along d x q.func q.args (is_some q.enclosing) [] q.answers false
