-- A transaction of an instance as one step, with all that it calls. It is made on a copy of the state, move after move, up to its
-- end; one that aborts leaves nothing but the answers of its instance. Calls inside wait, so there is always one that can step.
use Rattle.std.specs.Prelude.{ℕ, zero, suc, ◌^◌, ◌==◌, ◌&&◌, not, Bool, true, false, length, Option, Some, None, is_some, option_and_then, if◌then◌else◌}
use Rattle.std.specs.Ordering.{is_eq}
use Rattle.std.specs.FinMap as map
use Rattle.beldi_value.specs.{Id.id_cmp, Id.is_older, Id.has_callees, declared.id.IntentId.IntentId, declared.outcome.Outcome.Outcome, declared.place.Caller.Caller, declared.place.Place.Place, declared.place.TxId.TxId, declared.value.Value.Value}
use Rattle.beldi_tree.specs.declared.deployment.Deployment.{Deployment}
use Rattle.beldi_lang.specs.declared.effect.{Answer.Answer, Effect.Effect}
use Rattle.beldi_plain.specs.Plain.{Instance, PlainState, new_instance, with_instance, answered, ended, answer_to, callee_of, calls_at, effect_of, step_by, unless}
use Rattle.beldi_plain.specs.Operation.{touched}

-- no transaction takes so many moves: an instance is answered less than 30000 times, and an id has at most 63 hops
unfoldable pub enough : ℕ
enough = 30002 ^ 64

-- the instance is answered
abbrev pub gives : PlainState → IntentId → Instance → Answer → PlainState
gives p id q a = with_instance p id (answered q a)

-- an effect that is aborted, by itself or by who holds its item
abbrev pub aborted : IntentId → Instance → Option IntentId → Answer
aborted id q h = Answer.Aborted (record { place = record { intent = id; step = length q.answers }; holder = h })

abbrev pub is_aborted : Answer → Bool
is_aborted (Answer.Aborted c) = true
is_aborted a = false

-- ---- a transaction under way
-- the transaction that an instance begins at its next step
abbrev pub tx_begun : IntentId → Instance → TxId
tx_begun id q = record { intent = id; begin = length q.answers; func = q.func }

-- the copy, and who can step in it: of the instance and all that were called since, the one that was called innermost
pub record Going : Type 0 where
  pub state : PlainState
  pub active : IntentId

-- from its Begin on
abbrev pub opened : PlainState → IntentId → Instance → Going
opened p id q = record { state = gives p id q Answer.Done; active = id }

abbrev pub is_owner : TxId → IntentId → Bool
is_owner t id = is_eq (id_cmp t.intent id)

abbrev pub at_instance : {X : Type 0} → Option Instance → (Instance → Option X) → Option X
at_instance None f = None
at_instance (Some q) f = f q

abbrev pub at_active : {X : Type 0} → Going → (Instance → Option X) → Option X
at_active s f = at_instance (map.get s.state.made s.active) f

-- ---- its moves
-- the one at the front goes on
abbrev pub stays : IntentId → PlainState → Option Going
stays id p = Some (record { state = p; active = id })

-- a callee is made, within the transaction, and goes on
abbrev pub new_member : TxId → ℕ → Value → Caller → Instance
new_member t f v c = record (new_instance f v (Some c)) { enclosing = Some t }

abbrev pub with_member : TxId → PlainState → IntentId → Instance → ℕ → Value → Going
with_member t p id q f v = record { state = with_instance p (callee_of id q) (new_member t f v (calls_at id q true)); active = callee_of id q }

abbrev pub calls_by : TxId → PlainState → IntentId → Instance → ℕ → Value → Option Going
calls_by t p id q f v = if has_callees id then unless (is_some (map.get p.made (callee_of id q))) (Some (with_member t p id q f v)) else None

-- a callee ends, and its caller is answered and goes on
abbrev pub returns_to : PlainState → IntentId → Instance → Outcome → Option Caller → Option Going
returns_to p id q o None = None
returns_to p id q o (Some c) = Some (record { state = answer_to (with_instance p id (ended q o)) c o; active = c.place.intent })

-- reads and operations on items are made as outside. Begin and End are no effects of a callee inside, and nothing else is wanted there
abbrev pub moves_by : TxId → PlainState → IntentId → Instance → Effect → Option Going
moves_by t p id q (Effect.Read b k) = stays id (step_by p id q (Effect.Read b k))
moves_by t p id q (Effect.Write b k v) = stays id (step_by p id q (Effect.Write b k v))
moves_by t p id q (Effect.CondWrite b k r o v) = stays id (step_by p id q (Effect.CondWrite b k r o v))
moves_by t p id q (Effect.Call f v) = calls_by t p id q f v
moves_by t p id q (Effect.Return o) = if is_owner t id then None else returns_to p id q o q.parent
moves_by t p id q e = None

-- ---- up to its end
-- with commit or without
abbrev pub is_same : Bool → Bool → Bool
is_same true b = b
is_same false b = not b

-- at the owner's end it is over
abbrev pub over_by : TxId → Bool → Bool → PlainState → IntentId → Instance → Option PlainState
over_by t commit b p id q = if is_owner t id && is_same commit b then Some (gives p id q Answer.Done) else None

abbrev pub ends_by : (Going → Option PlainState) → TxId → Bool → PlainState → IntentId → Instance → Effect → Option PlainState
ends_by go t commit p id q (Effect.End b) = over_by t commit b p id q
ends_by go t commit p id q e = option_and_then go (moves_by t p id q e)

-- .. in at most so many steps
abbrev pub ends_on : Deployment → ℕ → TxId → Bool → Going → Option PlainState
ends_on d zero t commit s = None
ends_on d (suc n) t commit s = at_active s (λ q. ends_by (ends_on d n t commit) t commit s.state s.active q (effect_of d q))

-- the state after a transaction that commits, by the effect that its instance stands at: none where it is no begin, or no such end is
-- reached
abbrev pub commit_from : Deployment → PlainState → IntentId → Instance → Effect → Option PlainState
commit_from d p id q Effect.Begin = ends_on d enough (tx_begun id q) true (opened p id q)
commit_from d p id q e = None

-- ---- a transaction that aborts
-- whether an instance stands at a place
abbrev pub stands_at : Place → IntentId → Instance → Bool
stands_at a id q = is_eq (id_cmp a.intent id) && (a.step == length q.answers)

-- an effect that may be aborted: with a holder a read or an operation on an item dies, without one there is an abort
abbrev pub dies_at : Option IntentId → Effect → Bool
dies_at None Effect.Abort = true
dies_at None e = false
dies_at (Some h) e = is_some (touched e)

-- it is answered so
abbrev pub fallen : PlainState → IntentId → Instance → Option IntentId → Going
fallen p id q h = record { state = gives p id q (aborted id q h); active = id }

-- .. or there is the end without commit of the owner, which a fault led to
abbrev pub fault_by : TxId → PlainState → IntentId → Instance → Option IntentId → Effect → Option PlainState
fault_by t p id q None (Effect.End b) = over_by t false b p id q
fault_by t p id q h e = None

-- at its place
abbrev pub falls_by : (Going → Option PlainState) → TxId → PlainState → IntentId → Instance → Option IntentId → Effect → Option PlainState
falls_by go t p id q h e = if dies_at h e then go (fallen p id q h) else fault_by t p id q h e

-- up to its place, and from there to the end without commit, in at most so many steps
abbrev pub abort_on : Deployment → ℕ → TxId → Place → Option IntentId → Going → Option PlainState
abort_on d zero t a h s = None
abort_on d (suc n) t a h s = at_active s (λ q. if stands_at a s.active q then falls_by (ends_on d n t false) t s.state s.active q h (effect_of d q) else option_and_then (abort_on d n t a h) (moves_by t s.state s.active q (effect_of d q)))

-- the state with the answers of the copy, and nothing else of it
abbrev pub with_answers : PlainState → IntentId → PlainState → Option PlainState
with_answers p id r = at_instance (map.get r.made id) (λ q. Some (with_instance p id q))

-- a holder was made, and is older
abbrev pub is_holder : PlainState → IntentId → Option IntentId → Bool
is_holder p id None = true
is_holder p id (Some h) = is_some (map.get p.made h) && is_older h id

-- the state after a transaction that aborts at a place, by the effect that its instance stands at: none where it is no begin, the place
-- is not reached, or the holder is none
abbrev pub abort_from : Deployment → PlainState → IntentId → Place → Option IntentId → Instance → Effect → Option PlainState
abort_from d p id a h q Effect.Begin = if is_holder p id h then option_and_then (with_answers p id) (abort_on d enough (tx_begun id q) a h (opened p id q)) else None
abort_from d p id a h q e = None
