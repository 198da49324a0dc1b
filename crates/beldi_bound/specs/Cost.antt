-- What an intent costs: the turns that a run of it takes at most, by the answers that the rows hold for it.
use Rattle.std.specs.Prelude.{◌≡◌, ℕ, ◌+◌, ◌*◌, List, [], ◌∷◌, ◌++◌, length, Option, Some, None}
use Rattle.std.specs.FinMap as map
use Rattle.beldi_value.specs.declared.{id.IntentId.IntentId, place.TxId.TxId}
use Rattle.beldi_tree.specs.declared.deployment.Deployment.{Deployment}
use Rattle.beldi_lang.specs.declared.effect.{Answer.Answer, Effect.Effect}
use Rattle.beldi_plain.specs.{Plain.Instance, Plain.effect_of}
use Rattle.beldi_plain_laws.specs.Txs.{tx_now}
use Rattle.beldi_row.specs.{Key.RowKey, Table.Rows, declared.key.Kind.Kind, declared.row.Body.Body, declared.row.IntentRow.IntentRow, declared.row.Row.Row}
use Rattle.beldi_daal.specs.Cell.{cell_key, shadow_key}
use Rattle.beldi_histories.specs.Stands.{held_answer}
use Rattle.beldi_upkeep.specs.Checked.{body_at}
use Rattle.beldi_bound.specs.Visits.{chain_length, end_cost}

-- ---- effects
-- by how many rows its item has, outside a transaction ..
abbrev pub cost_outside : ℕ → Effect → ℕ
cost_outside c (Effect.Read t k) = c + 2
cost_outside c (Effect.Write t k v) = 3 * c + 1
cost_outside c (Effect.CondWrite t k r o v) = 3 * c + 1
cost_outside c (Effect.Lock t k) = 3 * c + 1
cost_outside c (Effect.Unlock t k) = 3 * c + 1
cost_outside c (Effect.Call f a) = 2
cost_outside c (Effect.Async f a) = 3
cost_outside c (Effect.Return x) = 2
cost_outside c e = 0

-- .. and inside one, where its shadow of the item has s rows; v is what its end costs
abbrev pub cost_inside : ℕ → ℕ → ℕ → Effect → ℕ
cost_inside c s v (Effect.Read t k) = 4 * c + s + 4
cost_inside c s v (Effect.Write t k u) = 3 * c + 3 * s + 3
cost_inside c s v (Effect.CondWrite t k r o u) = 4 * c + 3 * s + 3
cost_inside c s v (Effect.End commit) = v
cost_inside c s v e = cost_outside c e

abbrev pub item_length : Rows → ℕ → Effect → ℕ
item_length e func (Effect.Read t k) = chain_length e (cell_key func t k)
item_length e func (Effect.Write t k v) = chain_length e (cell_key func t k)
item_length e func (Effect.CondWrite t k r o v) = chain_length e (cell_key func t k)
item_length e func (Effect.Lock t k) = chain_length e (cell_key func t k)
item_length e func (Effect.Unlock t k) = chain_length e (cell_key func t k)
item_length e func f = 1

abbrev pub aside_length : Rows → ℕ → Option TxId → Effect → ℕ
aside_length e func None f = 1
aside_length e func (Some x) (Effect.Read t k) = chain_length e (shadow_key func x t k)
aside_length e func (Some x) (Effect.Write t k v) = chain_length e (shadow_key func x t k)
aside_length e func (Some x) (Effect.CondWrite t k r o v) = chain_length e (shadow_key func x t k)
aside_length e func (Some x) f = 1

-- an effect of an instance at a step, by the transaction that it stands in
abbrev pub effect_cost : Rows → Instance → Option TxId → ℕ → Effect → ℕ
effect_cost e q None step f = cost_outside (item_length e q.func f) f
effect_cost e q (Some t) step f = cost_inside (item_length e q.func f) (aside_length e q.func (Some t) f) (end_cost e t step) f

-- ---- answers
-- an instance that was made with this body, and was answered so
abbrev pub with_answers : Body → List Answer → Instance
with_answers b given = record { func = b.func; args = b.args; parent = b.parent; enclosing = b.tx; answers = given; outcome = None }

-- the answer that the rows hold at the step after these
abbrev pub next_held : Deployment → Rows → IntentId → Body → List Answer → Option Answer
next_held d e id b given = let q = with_answers b given in held_answer e id b.func (length given) (tx_now d id q) (effect_of d q)

-- these are the answers that the rows hold, one after another, up to the first step at which they hold none
pub record Asked (d : Deployment) (e : Rows) (id : IntentId) (b : Body) (given : List Answer) : Type 0 where
  pub each : (front : List Answer) (a : Answer) (rest : List Answer) → front ++ a ∷ rest ≡ given → next_held d e id b front ≡ Some a
  pub last : next_held d e id b given ≡ None

-- .. for each intent that has a body
abbrev pub AreAsked : Deployment → Rows → (IntentId → List Answer) → Type 0
AreAsked d e asked = (home : ℕ) (id : IntentId) (i : IntentRow) (b : Body) → map.get e (record { home = home; kind = Kind.Intent id }) ≡ Some (Row.Intent i) → i.body ≡ Some b → Asked d e id b (asked id)

-- ---- what an intent costs
-- the effect after these answers
abbrev pub step_cost : Deployment → Rows → IntentId → Body → List Answer → ℕ
step_cost d e id b given = let q = with_answers b given in effect_cost e q (tx_now d id q) (length given) (effect_of d q)

-- that effect, and those after each further answer
abbrev pub cost_from : Deployment → Rows → IntentId → Body → List Answer → List Answer → ℕ
cost_from d e id b given [] = step_cost d e id b given
cost_from d e id b given (a ∷ rest) = step_cost d e id b given + cost_from d e id b (given ++ a ∷ []) rest

-- the first turn of a run, and all effects that are asked
abbrev pub body_cost : Deployment → Rows → (IntentId → List Answer) → IntentId → Option Body → ℕ
body_cost d e asked id None = 0
body_cost d e asked id (Some b) = 1 + cost_from d e id b [] (asked id)

abbrev pub kind_cost : Deployment → Rows → (IntentId → List Answer) → Kind → Option Row → ℕ
kind_cost d e asked (Kind.Intent id) r = body_cost d e asked id (body_at r)
kind_cost d e asked k r = 0

-- by the key of its row: nothing where the row has no body
abbrev pub cost_at : Deployment → Rows → (IntentId → List Answer) → RowKey → ℕ
cost_at d e asked k = kind_cost d e asked k.kind (map.get e k)
