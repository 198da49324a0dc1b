-- What an instance wants next is carried out: no call is made with an id that is too long, nothing is locked, freed or left to itself
-- inside a transaction, and who is to end one has begun it.
use Rattle.std.specs.Prelude.{take}
use Rattle.std.specs.FinMap as map
use Rattle.std.proofs.Common.{Bool, List, None, Option, Some, [], ap, false, if◌then◌else◌, inl, inr, is_some, length, refl, slice_get, subst, suc, sym, true, zero, ℕ, ◌&&◌, ◌++◌, ◌∙◌, ◌∷◌, ◌≡◌, ◌||◌}
use Rattle.std.specs.Ordering.{is_eq}
use Rattle.std.proofs.lemmas.Bool.{false_from_ne_true, or_cases, or_parts}
use Rattle.beldi_value.specs.{declared.id.IntentId.IntentId, declared.place.TxId.TxId, declared.value.Value.Value}
use Rattle.beldi_tree.specs.{StatementCommand.Command, StatementCommand.async, StatementCommand.lock, declared.deployment.Deployment.Deployment, declared.deployment.Func.Func}
use Rattle.beldi_lang.specs.{HeldLocks.is_held, Wants.is_inside, Wants.wants, declared.effect.Answer.Answer, declared.effect.Effect.Effect}
use Rattle.beldi_check.specs.{CallGraph.blocks, CallGraph.reaches, Keeps.KeepsRules, Rules.is_async, Rules.is_lock, Rules.some_if, declared.calls.Link.TheVariants.Call, declared.rules.Rule.Rule}
use Rattle.beldi_plain.specs.{Holds.held_along, Holds.held_if, Item.Item, Item.item_cmp, Operation.op_of, Plain.Instance, Plain.item_of}
use Rattle.beldi_plain_laws.specs.WellFormedState.{call_of}
use Rattle.beldi_plain_laws.specs.Txs.{effect_after, txs_after}
use Rattle.beldi_call.specs.declared.{async_call.AsyncAt.AsyncAt, call.CallAt.CallAt}
use Rattle.beldi_step.specs.{declared.run.OpenTx.OpenTx, declared.run.RunTx.RunTx, declared.run.RunTx.TheVariants.Inherited, declared.run.RunTx.TheVariants.Own, Run.local_answer, Run.first_stage, declared.run.Stage.Stage}
use Rattle.beldi_histories.specs.{Histories.Histories, WellFormedHistories.WellFormedHistories}
use Rattle.beldi_histories.proofs.{Begins.is_begun, Begins.is_leaving, Cases.by_cases, Cases.by_option, Cases.if_same, Flows.Phase, Flows.leaving, Phases.at, Phases.begin_is, Phases.end_is, Phases.inside_is, Phases.is_locking, Phases.none_begun_inside}
use Rattle.beldi_invariant.specs.Invariant.{open_of}
use Rattle.beldi_upkeep.specs.Checked.{BoundsAreOwn, CallersAreShort, EffectsAreCarriedOut, NoneIsInside, has_func, is_for_outside}
use Rattle.beldi_upkeep.specs.Written.{IsOf, IsWritten, Written}
use Rattle.beldi_upkeep.proofs.{Chains.called_within, Chains.may_call, Frees.frees_what_it_holds, Functions.calls, Functions.instances_of_it, Open.Agrees, Open.agrees, Open.own_begin, Sites.wants_written}

-- ---- what a run is in, by what is open
not_open : (w : Option TxId) (b : Option ℕ) (o : Option RunTx) → (is_some b || is_some w) ≡ false → Agrees w b o → o ≡ None
not_open None b None none h = refl
not_open None b (Some (Own x)) none h = let clash = sym (ap (λ z. is_some z || false) h.0) ∙ none in cc
not_open None b (Some (Inherited x)) none h = let clash = h.1 in cc
not_open (Some t) b o none h = let clash = sym (or_true (is_some b)) ∙ none in cc
  where
    or_true : (a : Bool) → (a || true) ≡ true
    or_true true = refl
    or_true false = refl

own_open : (b : Option ℕ) (o : Option RunTx) → is_some b ≡ true → b ≡ own_begin o → (x : OpenTx) × (o ≡ Some (Own x))
own_open b None some same = let clash = sym (ap is_some same) ∙ some in cc
own_open b (Some (Own x)) some same = (x, refl)
own_open b (Some (Inherited x)) some same = let clash = sym (ap is_some same) ∙ some in cc

-- ---- what holds of a statement in a transaction
none_if : (b : Bool) (n : List ℕ) → some_if b n ≡ None → b ≡ false
none_if true n h = absurd (cc)
none_if false n h = refl

lock_at : (d : Deployment) (t : ℕ) (k : List ℕ) (c : Command) → IsOf d (Effect.Lock t k) c → is_lock c ≡ true
lock_at d t k (lock l u x) is = refl
lock_at d t k c is = absurd is

async_at : (d : Deployment) (f : ℕ) (v : Value) (c : Command) → IsOf d (Effect.Async f v) c → is_async c ≡ true
async_at d f v (async l g x) is = refl
async_at d f v c is = absurd is

-- where nothing was locked nothing is held
none_locked : (x : Item) (func : ℕ) (e : Effect) → is_locking e ≡ false → held_if x func (op_of e) false ≡ false
none_locked x func (Effect.Write t k v) h = if_same (is_eq (item_cmp (record { func = func; table = t; key = k }) x)) false
none_locked x func (Effect.CondWrite t k r o v) h = if_same (is_eq (item_cmp (record { func = func; table = t; key = k }) x)) false
none_locked x func (Effect.Lock t k) h = cc
none_locked x func (Effect.Unlock t k) h = if_same (is_eq (item_cmp (record { func = func; table = t; key = k }) x)) false
none_locked x func e h = refl

none_held : (d : Deployment) (q : Instance) (x : Item) → ((given : List Answer) → is_locking (effect_after d q given) ≡ false) → (given rest : List Answer) → held_along d x q.func q.args (is_some q.enclosing) given rest false ≡ false
none_held d q x never given [] = refl
none_held d q x never given (a ∷ rest) = ap (held_along d x q.func q.args (is_some q.enclosing) (given ++ a ∷ []) rest) (none_locked x q.func (effect_after d q given) (never given)) ∙ none_held d q x never (given ++ a ∷ []) rest

begun_stands : (p : Phase) → is_begun p ≡ true → is_leaving p ≡ false
begun_stands (leaving o) h = cc
begun_stands p h = refl

-- who is to end a transaction is in its own
ends_own : (d : Deployment) (q : Instance) (given : List Answer) (commit : Bool) → effect_after d q given ≡ Effect.End commit → (x : OpenTx) × (open_of d q given ≡ Some (Own x))
ends_own d q given commit is = by_within q.enclosing refl (agrees d q given)
  where
    begun : is_some (txs_after d q given).begun ≡ true
    begun = end_is d q given commit is

    by_within : (w : Option TxId) → q.enclosing ≡ w → Agrees w (txs_after d q given).begun (open_of d q given) → (x : OpenTx) × (open_of d q given ≡ Some (Own x))
    by_within None e h = own_open (txs_after d q given).begun (open_of d q given) begun h.0
    by_within (Some s) e h = let clash = sym (none_begun_inside d q given (ap is_some e)) ∙ begun in cc

-- ---- an instance that has a history
module _ (d : Deployment) (rules : KeepsRules d.funcs) (histories : Histories) (well_formed : WellFormedHistories d histories) (there : (id : IntentId) (q : Instance) → map.get histories id ≡ Some q → has_func d q.func ≡ true) (id : IntentId) (q : Instance) (made : map.get histories id ≡ Some q) where
  abbrev i : Bool
  i = is_some q.enclosing

  -- its function, which the first block of a transaction leads to where it was called in one
  record Mine : Type 0 where
    number : ℕ
    func : Func
    is : q.func ≡ suc number
    at : slice_get d.funcs number ≡ Some func

  mine_by : (f : ℕ) → q.func ≡ f → has_func d f ≡ true → Mine
  mine_by zero is h = cc
  mine_by (suc n) is h = by_option (slice_get d.funcs n) (λ e. let clash = sym (ap is_some e) ∙ h in cc) (λ f e. record { number = n; func = f; is = is; at = e })

  mine : Mine
  mine = mine_by q.func refl (there id q made)

  abbrev reached : Bool
  reached = reaches Call d.funcs (blocks d.funcs) mine.number

  inherits : i ≡ true → reached ≡ true
  inherits inner = by_option q.enclosing (λ e. let clash = sym (ap is_some e) ∙ inner in cc) (λ s e. called_within d rules histories well_formed there s id q made e mine.number mine.is)

  written : (given : List Answer) → IsWritten d mine.func.body i (is_inside d q.func q.args i given) (effect_after d q given)
  written given = subst (λ f. IsWritten d mine.func.body i (is_inside d f q.args i given) (wants d f q.args i given)) (sym mine.is) (wants_written d mine.number mine.func q.args i given mine.at)

  -- a statement that may stand in no transaction stands in none
  outside : (given : List Answer) (e : Effect) (w : Written d mine.func.body i (is_inside d q.func q.args i given) e) → (w.spot.0.in_transaction || reached) ≡ false → is_inside d q.func q.args i given ≡ false
  outside given e w none = by_cases i
      (λ inner. let clash = sym (or_parts w.spot.0.in_transaction reached none).1 ∙ inherits inner in cc)
      (λ out. w.inner ∙ ap (λ b. b || w.spot.0.in_transaction) out ∙ (or_parts w.spot.0.in_transaction reached none).0)

  lock_outside : (given : List Answer) (t : ℕ) (k : List ℕ) → effect_after d q given ≡ Effect.Lock t k → is_inside d q.func q.args i given ≡ false
  lock_outside given t k is =
      let w : Written d mine.func.body i (is_inside d q.func q.args i given) (Effect.Lock t k) = subst (IsWritten d mine.func.body i (is_inside d q.func q.args i given)) is (written given) in
      outside given (Effect.Lock t k) w (none_if (w.spot.0.in_transaction || reached) mine.func.name
      (ap (λ b. some_if (b && (w.spot.0.in_transaction || reached)) mine.func.name) (sym (lock_at d t k w.spot.1 w.is)) ∙ rules.statements Rule.LockInTx mine.number w.number mine.func w.spot mine.at w.there))

  async_outside : (given : List Answer) (f : ℕ) (v : Value) → effect_after d q given ≡ Effect.Async f v → is_inside d q.func q.args i given ≡ false
  async_outside given f v is =
      let w : Written d mine.func.body i (is_inside d q.func q.args i given) (Effect.Async f v) = subst (IsWritten d mine.func.body i (is_inside d q.func q.args i given)) is (written given) in
      outside given (Effect.Async f v) w (none_if (w.spot.0.in_transaction || reached) mine.func.name
      (ap (λ b. some_if (b && (w.spot.0.in_transaction || reached)) mine.func.name) (sym (async_at d f v w.spot.1 w.is)) ∙ rules.statements Rule.AsyncInTx mine.number w.number mine.func w.spot mine.at w.there))

  -- .. so it locks nothing there, and has no lock to free
  quiet : (given : List Answer) → is_inside d q.func q.args i given ≡ true → is_locking (effect_after d q given) ≡ false
  quiet given inner = by_effect (effect_after d q given) refl
    where
      by_effect : (e : Effect) → effect_after d q given ≡ e → is_locking e ≡ false
      by_effect (Effect.Lock t k) is = let clash = sym (lock_outside given t k is) ∙ inner in cc
      by_effect e is = refl

  -- the one that has these answers
  abbrev so_far : List Answer → Instance
  so_far given = record q { answers = given }

  unlock_outside : (given : List Answer) (t : ℕ) (k : List ℕ) → effect_after d q given ≡ Effect.Unlock t k → is_inside d q.func q.args i given ≡ false
  unlock_outside given t k is = false_from_ne_true (is_inside d q.func q.args i given) (λ inner. by_cases i (called inner) (begun inner))
    where
      x : Item
      x = item_of q t k

      holds_it : held_along d x q.func q.args i [] given false ≡ true
      holds_it = frees_what_it_holds d (so_far given) t k is

      -- called in a transaction
      called : is_inside d q.func q.args i given ≡ true → i ≡ true → ⊥
      called inner in_it = let clash = sym (none_held d q x (λ ts. quiet ts (inside_is d q ts ∙ ap (λ b. is_some (txs_after d q ts).begun || b) in_it ∙ or_true (is_some (txs_after d q ts).begun))) [] given) ∙ holds_it in cc
        where
          or_true : (a : Bool) → (a || true) ≡ true
          or_true true = refl
          or_true false = refl

      -- in one of its own
      begun : is_inside d q.func q.args i given ≡ true → i ≡ false → ⊥
      begun inner out =
          let g = at d q given in
          let in_own : is_begun g.going.phase ≡ true = elim (or_cases (is_begun g.going.phase) i (ap (λ b. b || i) g.begun ∙ sym (inside_is d q given) ∙ inner)) [ inl e ↦ e | inr e ↦ absurd (let clash = sym out ∙ e in cc) ] in
          let stays = begun_stands g.going.phase in_own in
          let none = g.bare stays (ap (λ b. b || i) in_own) (λ n less open_there. quiet (take n given) (inside_is d q (take n given) ∙ open_there)) in
          let held = g.locks stays x holds_it in
          let clash = sym (ap (is_held t k) none) ∙ held.1 in cc

  -- ---- the next effect
  module _ (given : List Answer) where
    abbrev o : Option RunTx
    o = open_of d q given

    out : is_inside d q.func q.args i given ≡ false → o ≡ None
    out none = not_open q.enclosing (txs_after d q given).begun o (sym (inside_is d q given) ∙ none) (agrees d q given)

    by_effect : (e : Effect) → effect_after d q given ≡ e → (is_some (local_answer id (length given) e) || is_some (first_stage id q.parent o (length given) e)) ≡ true
    by_effect (Effect.Lock t k) is = ap (λ z. is_some (first_stage id q.parent z (length given) (Effect.Lock t k))) (out (lock_outside given t k is))
    by_effect (Effect.Unlock t k) is = ap (λ z. is_some (first_stage id q.parent z (length given) (Effect.Unlock t k))) (out (unlock_outside given t k is))
    by_effect (Effect.Call f v) is = ap (λ b. is_some (if b then Some (Stage.Call CallAt.Open) else None)) (may_call d rules histories well_formed there id q made given f (ap calls is))
    by_effect (Effect.Async f v) is = ap (λ z. is_some (first_stage id q.parent z (length given) (Effect.Async f v))) (out (async_outside given f v is)) ∙ ap (λ b. is_some (if b then Some (Stage.Async AsyncAt.Open) else None)) (may_call d rules histories well_formed there id q made given f (ap calls is))
    by_effect (Effect.End commit) is = let x = ends_own d q given commit is in ap (λ z. is_some (first_stage id q.parent z (length given) (Effect.End commit))) x.1
    by_effect e is = refl

    by_outside : (z : Effect) → effect_after d q given ≡ z → is_for_outside z ≡ true → o ≡ None
    by_outside (Effect.Lock t k) is on = out (lock_outside given t k is)
    by_outside (Effect.Unlock t k) is on = out (unlock_outside given t k is)
    by_outside (Effect.Async f v) is on = out (async_outside given f v is)
    by_outside z is on = cc

pub carried_out : EffectsAreCarriedOut
carried_out d c m h id q given made = by_effect d h.rules h.invariant.histories h.invariant.well_formed (instances_of_it d c m h) id q made given (effect_after d q given) refl

-- ---- the parts of it
pub none_inside : NoneIsInside
none_inside d c m h id q given made on = by_outside d h.rules h.invariant.histories h.invariant.well_formed (instances_of_it d c m h) id q made given (effect_after d q given) refl on

called_by : (w : Bool) (f : ℕ) (a : Value) → calls (call_of w f a) ≡ Some f
called_by true f a = refl
called_by false f a = refl

pub callers_short : CallersAreShort
callers_short d c m h id q given w f a made is = may_call d h.rules h.invariant.histories h.invariant.well_formed (instances_of_it d c m h) id q made given f (ap calls is ∙ called_by w f a)

pub bounds_own : BoundsAreOwn
bounds_own d q given = record {
  begins = λ is. let k = begin_is d q given is in not_open q.enclosing (txs_after d q given).begun (open_of d q given) ((λ i. is_some (txs_after d q given).begun || is_some (k.0 i)) ∙ ap (λ b. b || false) k.1) (agrees d q given);
  ends = ends_own d q given;
}
