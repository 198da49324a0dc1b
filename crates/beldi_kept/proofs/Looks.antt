-- A log collector looks for the intent of a row that it came to in the turn before.
use Rattle.std.specs.Prelude.{nat_lt, ◌==◌, List, [], ◌∷◌}
use Rattle.std.specs.FinMap as map
use Rattle.std.proofs.Common.{◌≡◌, ℕ, Bool, true, false, Option, None, Some, is_some, refl, ap, sym, ◌∙◌, subst}
use Rattle.beldi_value.specs.declared.id.IntentId.{IntentId}
use Rattle.beldi_row.specs.declared.act.Act.TheVariants.{Look, MarkCell, SkipCell}
use Rattle.beldi_row.specs.{Key.RowKey, Key.at_row, Key.row_of, Act.act, Table.IsNext, Table.Rows, Table.next_row, declared.row.Row.Row}
use Rattle.beldi_row.proofs.Least.{next_row_least}
use Rattle.beldi_query.specs.Query.{replied}
use Rattle.beldi_intent.specs.Intent.{intent_key}
use Rattle.beldi_prune.specs.{PruneLaws.turned, Seat.seat}
use Rattle.beldi_prune.specs.Prune.{begins, is_recyclable, led_next, marked_next, row_next, stand_if, to_prove, todo_of}
use Rattle.beldi_prune.specs.Unlink.{is_did, step_to, told_marked, told_next}
use Rattle.beldi_prune.specs.declared.found.Todo.{Todo, TheVariants.Pass, TheVariants.DropIt, TheVariants.LookAt, TheVariants.DropAdrift, TheVariants.LeadPast, TheVariants.Prove}
use Rattle.beldi_prune.specs.declared.collector.LogCollector.{LogCollector}
use Rattle.beldi_prune.specs.declared.collector.CollectorAt.{CollectorAt, TheVariants.Before, TheVariants.ToDropIntent, TheVariants.ToLook, TheVariants.ToDrop, TheVariants.ToProve, TheVariants.ToMark, TheVariants.ToLead, TheVariants.ToSkip, TheVariants.ToDangle, TheVariants.ToDropCell}

abbrev looked_at : CollectorAt → Option RowKey
looked_at Before = None
looked_at (ToDropIntent k) = None
looked_at (ToLook k) = Some k
looked_at (ToDrop k) = None
looked_at (ToProve k i is) = None
looked_at (ToMark k) = None
looked_at (ToLead k to at) = None
looked_at (ToSkip k to at) = None
looked_at (ToDangle k) = None
looked_at (ToDropCell k) = None

-- ---- no other turn leads there
proved_not : (k : RowKey) (is : List IntentId) → looked_at (to_prove k is) ≡ None
proved_not k [] = refl
proved_not k (i ∷ is) = refl

if_not : (c k : RowKey) (a : CollectorAt) → looked_at a ≡ None → (b : Bool) → looked_at (stand_if c k a b).at ≡ None
if_not c k a none true = none
if_not c k a none false = refl

marked_not : (c k : RowKey) (o : Option ℕ) → looked_at (marked_next c k o).at ≡ None
marked_not c k None = refl
marked_not c k (Some to) = refl

step_not : (k : RowKey) (to at next : ℕ) (same less : Bool) → looked_at (step_to k to at next same less) ≡ None
step_not k to at next true less = refl
step_not k to at next false true = refl
step_not k to at next false false = refl

led_not : (c k : RowKey) (to at : ℕ) (o : Option (Option ℕ)) → looked_at (led_next c k to at o).at ≡ None
led_not c k to at None = refl
led_not c k to at (Some None) = refl
led_not c k to at (Some (Some next)) = step_not k to at next (next == row_of k.kind) (nat_lt next (row_of k.kind))

none_is : {P : Type 0} (k : RowKey) (o : Option RowKey) → o ≡ None → o ≡ Some k → P
none_is k o none is = let clash : None ≡ Some k = sym none ∙ is in cc

module _ (newest life now : ℕ) (m : Rows) (k : RowKey) where
  begun_there : (c : RowKey) (e : RowKey × Row) (t : Todo) → map.get m e.0 ≡ Some e.1 → looked_at (begins c e.0 t).at ≡ Some k → is_some (map.get m k) ≡ true
  begun_there c e Pass there is = cc
  begun_there c e DropIt there is = cc
  begun_there c e LookAt there is = subst (λ q. is_some (map.get m q) ≡ true) (one e.0 k is) (ap is_some there)
    where
      one : (a b : RowKey) → ◌≡◌ {A = Option RowKey} (Some a) (Some b) → a ≡ b
      one a b e = cc
  begun_there c e DropAdrift there is = cc
  begun_there c e (LeadPast to) there is = cc
  begun_there c e (Prove is) there h = none_is k (looked_at (to_prove e.0 is)) (proved_not e.0 is) h

  next_there : (c : RowKey) (o : Option (RowKey × Row)) → IsNext m c o → looked_at (row_next newest life now c o).at ≡ Some k → is_some (map.get m k) ≡ true
  next_there c None next is = cc
  next_there c (Some e) next is = begun_there c e (todo_of newest life now e.0.kind e.1) next.1 is

  looked : (c : RowKey) (a : CollectorAt) → looked_at (turned newest life now (record { cursor = c; at = a }) m).at ≡ Some k → is_some (map.get m k) ≡ true
  looked c Before h = next_there c (next_row m c) (next_row_least m c) h
  looked c (ToDropIntent q) h = cc
  looked c (ToLook q) h = let b = is_recyclable life now (replied (act Look now (map.get m (seat q))).1) in none_is k (looked_at (stand_if c q (ToDrop q) b).at) (if_not c q (ToDrop q) refl b) h
  looked c (ToDrop q) h = cc
  looked c (ToProve q i is) h = let b = is_recyclable life now (replied (act Look now (map.get m (intent_key i q.home))).1) in none_is k (looked_at (stand_if c q (to_prove q is) b).at) (if_not c q (to_prove q is) (proved_not q is) b) h
  looked c (ToMark q) h = let o = told_marked (replied (act MarkCell now (map.get m q)).1) in none_is k (looked_at (marked_next c q o).at) (marked_not c q o) h
  looked c (ToLead q to at) h = let o = told_next (replied (act Look now (map.get m (at_row q at))).1) in none_is k (looked_at (led_next c q to at o).at) (led_not c q to at o) h
  looked c (ToSkip q to at) h = let b = is_did (replied (act (SkipCell (row_of q.kind) to) now (map.get m (at_row q at))).1) in none_is k (looked_at (stand_if c q (ToDangle q) b).at) (if_not c q (ToDangle q) refl b) h
  looked c (ToDangle q) h = cc
  looked c (ToDropCell q) h = cc

-- the row whose intent it looks for then is there
pub looks_there : (newest life now : ℕ) (w : LogCollector) (m : Rows) (k : RowKey) → (turned newest life now w m).at ≡ ToLook k → is_some (map.get m k) ≡ true
looks_there newest life now w m k is = looked newest life now m k w.cursor w.at (ap looked_at is)
