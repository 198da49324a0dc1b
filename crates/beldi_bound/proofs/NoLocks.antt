-- Where no function has a lock statement, no intent owns an item.
use Rattle.std.specs.FinMap as map
use Rattle.std.proofs.Common.{Bool, List, None, Option, Some, [], ap, arith, false, is_some, refl, subst, suc, sym, true, zero, ℕ, ◌++◌, ◌∙◌, ◌∷◌, ◌≡◌, slice_get}
use Rattle.beldi_value.specs.declared.{id.IntentId.IntentId, place.Owner.Owner, value.Value.Value}
use Rattle.beldi_tree.specs.{StatementCommand.Command, StatementCommand.lock, declared.deployment.Deployment.Deployment, declared.deployment.Func.Func}
use Rattle.beldi_lang.specs.{Wants.body, Wants.effect_of, Wants.is_inside, Wants.wants, declared.effect.Answer.Answer, declared.effect.Effect.Effect}
use Rattle.beldi_plain.specs.{Holds.held_along, Holds.held_if, Holds.holds, Item.Item, Operation.op_of, Plain.Instance}
use Rattle.beldi_row.specs.Table.{Rows}
use Rattle.beldi_step.specs.HostStep.{Core}
use Rattle.beldi_histories.specs.Contents.{content_of, is_owner}
use Rattle.beldi_histories.proofs.{Cases.by_option, Owners.her_own}
use Rattle.beldi_invariant.specs.Invariant.{Invariant}
use Rattle.beldi_upkeep.specs.Written.{IsOf, IsWritten}
use Rattle.beldi_upkeep.proofs.Sites.{wants_written}
use Rattle.beldi_bound.specs.Ends.{HasNoLock, is_lock}

abbrev is_locking : Effect → Bool
is_locking (Effect.Lock t k) = true
is_locking e = false

of_lock : (d : Deployment) (t : ℕ) (k : List ℕ) (c : Command) → IsOf d (Effect.Lock t k) c → is_lock c ≡ true
of_lock d t k (lock l u x) is = refl
of_lock d t k c is = absurd is

module _ (d : Deployment) (no : HasNoLock d) where
  written_none : (n : ℕ) (f : Func) → slice_get d.funcs n ≡ Some f → (e : Effect) (inherited inside : Bool) → IsWritten d f.body inherited inside e → is_locking e ≡ false
  written_none n f at (Effect.Lock t k) inherited inside w = let clash = sym (of_lock d t k w.spot.1 w.is) ∙ no n f w.number w.spot at w.there in cc
  written_none n f at e inherited inside w = refl

  no_lock : (func : ℕ) (args : Value) (i : Bool) (ts : List Answer) → is_locking (wants d func args i ts) ≡ false
  no_lock zero args i ts = refl
  no_lock (suc n) args i ts = by_option (slice_get d.funcs n) (λ e. subst (λ o. is_locking (effect_of (body d o args i ts)) ≡ false) (sym e) refl)
      (λ f e. written_none n f e (wants d (suc n) args i ts) i (is_inside d (suc n) args i ts) (wants_written d n f args i ts e))

  none_if : (x : Item) (func : ℕ) (e : Effect) → is_locking e ≡ false → held_if x func (op_of e) false ≡ false
  none_if x func e h = grind arith

  none_along : (x : Item) (q : Instance) (given rest : List Answer) → held_along d x q.func q.args (is_some q.enclosing) given rest false ≡ false
  none_along x q given [] = refl
  none_along x q given (a ∷ rest) = ap (held_along d x q.func q.args (is_some q.enclosing) (given ++ a ∷ []) rest) (none_if x q.func (wants d q.func q.args (is_some q.enclosing) given) (no_lock q.func q.args (is_some q.enclosing) given)) ∙ none_along x q (given ++ a ∷ []) rest

  holds_none : (x : Item) (o : Option Instance) → holds d x o ≡ false
  holds_none x None = refl
  holds_none x (Some q) = none_along x q [] q.answers

  pub no_intent_owns : (c : Core) (m : Rows) → Invariant d c m → (x : Item) (j : IntentId) → (content_of m x).owner ≡ Some (Owner.Intent j) → ⊥
  no_intent_owns c m h x j owns =
      let clash : true ≡ false = sym (her_own j) ∙ ap (λ o. is_owner o (Owner.Intent j)) (sym owns) ∙ (h.rows.items x).owner j ∙ holds_none x (map.get h.histories j) in cc
