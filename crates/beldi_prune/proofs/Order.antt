-- A round of a log collector passes each row once.
use Rattle.std.specs.Prelude.{nat_lt, ◌==◌, List, [], ◌∷◌}
use Rattle.std.specs.Option.{option_map}
use Rattle.std.specs.FinMap as map
use Rattle.std.proofs.Common.{◌≡◌, ◌⊎◌, inl, inr, ℕ, Bool, true, false, Option, None, Some, refl}
use Rattle.beldi_value.specs.{declared.id.IntentId.IntentId}
use Rattle.beldi_row.specs.declared.act.Act.TheVariants.{Look, MarkCell, SkipCell}
use Rattle.beldi_row.specs.{Key.RowKey, Key.at_row, Key.row_of, Act.act, Table.Rows, Table.next_row, Table.IsNext, declared.row.Row.Row}
use Rattle.beldi_row.proofs.Least.{next_row_least}
use Rattle.beldi_query.specs.Query.{replied}
use Rattle.beldi_intent.specs.Intent.{intent_key}
use Rattle.beldi_prune.specs.{Seat.seat, Prune.begins, Prune.is_recyclable, Prune.led_next, Prune.marked_next, Prune.past, Prune.row_next, Prune.stand_if, Prune.to_prove, Prune.todo_of}
use Rattle.beldi_prune.specs.Unlink.{is_did, step_to, told_marked, told_next}
use Rattle.beldi_prune.specs.PruneLaws.{RowsArePassedInOrder, IsBegun, Passes, begun, key_at, turned}
use Rattle.beldi_prune.specs.declared.{collector.LogCollector.LogCollector, found.Todo.Todo, found.Todo.TheVariants.Pass, found.Todo.TheVariants.DropIt, found.Todo.TheVariants.LookAt, found.Todo.TheVariants.DropAdrift, found.Todo.TheVariants.LeadPast, found.Todo.TheVariants.Prove}
use Rattle.beldi_prune.specs.declared.collector.CollectorAt.{CollectorAt, TheVariants.Before, TheVariants.ToDropIntent, TheVariants.ToLook, TheVariants.ToDrop, TheVariants.ToProve, TheVariants.ToMark, TheVariants.ToLead, TheVariants.ToSkip, TheVariants.ToDangle, TheVariants.ToDropCell}

abbrev IsPastOrAt : RowKey → RowKey → LogCollector → Type 0
IsPastOrAt c k x = (x ≡ past k) ⊎ ((x.cursor ≡ c) × (begun x.at ≡ Some k))

proves_at : (k : RowKey) (is : List IntentId) → begun (to_prove k is) ≡ Some k
proves_at k [] = refl
proves_at k (i ∷ is) = refl

begins_at : (c k : RowKey) (t : Todo) → IsPastOrAt c k (begins c k t)
begins_at c k Pass = inl refl
begins_at c k DropIt = inr (refl, refl)
begins_at c k LookAt = inr (refl, refl)
begins_at c k DropAdrift = inr (refl, refl)
begins_at c k (LeadPast to) = inr (refl, refl)
begins_at c k (Prove is) = inr (refl, proves_at k is)

found_passes : (newest life now : ℕ) (m : Rows) (c : RowKey) (o : Option (RowKey × Row)) → IsNext m c o → Passes (record { cursor = c; at = Before }) (row_next newest life now c o) (option_map (λ e. e.0) o)
found_passes newest life now m c None h = refl
found_passes newest life now m c (Some e) h = (h.0, begins_at c e.0 (todo_of newest life now e.0.kind e.1))

if_passes : (c k : RowKey) (a : CollectorAt) → begun a ≡ Some k → (b : Bool) → IsPastOrAt c k (stand_if c k a b)
if_passes c k a h true = inr (refl, h)
if_passes c k a h false = inl refl

marked_passes : (c k : RowKey) (o : Option ℕ) → IsPastOrAt c k (marked_next c k o)
marked_passes c k None = inl refl
marked_passes c k (Some to) = inr (refl, refl)

step_at : (k : RowKey) (to at next : ℕ) (same less : Bool) → begun (step_to k to at next same less) ≡ Some k
step_at k to at next true less = refl
step_at k to at next false true = refl
step_at k to at next false false = refl

led_passes : (c k : RowKey) (to at : ℕ) (o : Option (Option ℕ)) → IsPastOrAt c k (led_next c k to at o)
led_passes c k to at None = inl refl
led_passes c k to at (Some None) = inr (refl, refl)
led_passes c k to at (Some (Some next)) = inr (refl, step_at k to at next (next == row_of k.kind) (nat_lt next (row_of k.kind)))

passes : (newest life now : ℕ) (m : Rows) (c : RowKey) (a : CollectorAt) → IsBegun newest c a → Passes (record { cursor = c; at = a }) (turned newest life now (record { cursor = c; at = a }) m) (key_at a c m)
passes newest life now m c Before right = found_passes newest life now m c (next_row m c) (next_row_least m c)
passes newest life now m c (ToDropIntent k) right = (right.0, inl refl)
passes newest life now m c (ToLook k) right = (right.0, if_passes c k (ToDrop k) refl (is_recyclable life now (replied (act Look now (map.get m (seat k))).1)))
passes newest life now m c (ToDrop k) right = (right.0, inl refl)
passes newest life now m c (ToProve k i is) right = (right.0, if_passes c k (to_prove k is) (proves_at k is) (is_recyclable life now (replied (act Look now (map.get m (intent_key i k.home))).1)))
passes newest life now m c (ToMark k) right = (right.0, marked_passes c k (told_marked (replied (act MarkCell now (map.get m k)).1)))
passes newest life now m c (ToLead k to at) right = (right.0, led_passes c k to at (told_next (replied (act Look now (map.get m (at_row k at))).1)))
passes newest life now m c (ToSkip k to at) right = (right.0, if_passes c k (ToDangle k) refl (is_did (replied (act (SkipCell (row_of k.kind) to) now (map.get m (at_row k at))).1)))
passes newest life now m c (ToDangle k) right = (right.0, inl refl)
passes newest life now m c (ToDropCell k) right = (right.0, inl refl)

pub in_order : RowsArePassedInOrder
in_order newest life now w m right = passes newest life now m w.cursor w.at right
