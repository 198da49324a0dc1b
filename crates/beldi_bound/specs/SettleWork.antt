-- The work of a settling: how many turns it counts at most, by what each intent costs with the rows at its end.
use Rattle.std.specs.Prelude.{ℕ, ◌+◌, ◌*◌, ◌-◌, max, Bool, false, not, ◌&&◌, List, [], ◌∷◌, map, Option, Some, is_some, if◌then◌else◌}
use Rattle.std.specs.FinMap as finite
use Rattle.beldi_value.specs.declared.id.IntentId.{IntentId}
use Rattle.beldi_tree.specs.declared.deployment.Deployment.{Deployment}
use Rattle.beldi_lang.specs.declared.effect.Answer.{Answer}
use Rattle.beldi_row.specs.{Key.RowKey, Table.Rows, declared.row.Row.Row}
use Rattle.beldi_intent.specs.Intent.{intent_key, is_ended}
use Rattle.beldi_step.specs.declared.run.Run.{Run}
use Rattle.beldi_schedule.specs.Settles.{State}
use Rattle.beldi_upkeep.specs.Checked.{body_at}
use Rattle.beldi_bound.specs.Cost.{cost_at}

abbrev pub sum_of : {X : Type 0} → (X → ℕ) → List X → ℕ
sum_of f [] = 0
sum_of f (x ∷ xs) = f x + sum_of f xs

abbrev pub most_of : {X : Type 0} → (X → ℕ) → List X → ℕ
most_of f [] = 0
most_of f (x ∷ xs) = max (f x) (most_of f xs)

-- the row of an intent that has ended
abbrev pub has_ended : Option Row → Bool
has_ended (Some (Row.Intent i)) = is_ended i
has_ended r = false

-- the keys of the intents that have a body, and had not ended before
abbrev pub is_open : Rows → RowKey × Row → Bool
is_open before e = is_some (body_at (Some e.1)) && not (has_ended (finite.get before e.0))

abbrev pub open_keys : Rows → List (RowKey × Row) → List RowKey
open_keys before [] = []
open_keys before (e ∷ es) = if is_open before e then e.0 ∷ open_keys before es else open_keys before es

-- the key of the row of a run's intent
abbrev pub seat : Run → RowKey
seat r = intent_key r.id r.func

abbrev pub seats : State → List RowKey
seats s = map (λ e. seat e.1) (finite.entries s.core.runs)

-- each run that lives before it costs a turn more than its intent; so does each intent that was open or was added, for which a run may be
-- started. A failure of the table may cost a run, and so an intent's costs once more.
abbrev pub one_more : (RowKey → ℕ) → RowKey → ℕ
one_more f k = 1 + f k

abbrev pub greatest : (RowKey → ℕ) → State → State → ℕ
greatest f s t = max (most_of f (seats s)) (most_of f (open_keys s.rows (finite.entries t.rows)))

abbrev pub work_by : (RowKey → ℕ) → State → State → ℕ
work_by f s t = sum_of (one_more f) (seats s) + sum_of (one_more f) (open_keys s.rows (finite.entries t.rows)) + (t.faults - s.faults) * (greatest f s t + 1)

abbrev pub work_of : Deployment → (IntentId → List Answer) → State → State → ℕ
work_of d asked s t = work_by (cost_at d t.rows asked) s t
