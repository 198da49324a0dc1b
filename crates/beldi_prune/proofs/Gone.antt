-- What a log collector found of a row that is to go.
use Rattle.std.specs.Prelude.{nat_lt, ◌==◌, List, [], ◌∷◌}
use Rattle.std.specs.FinMap as map
use Rattle.std.proofs.Common.{◌≡◌, ℕ, Bool, true, false, Option, None, Some, refl, ap, subst}
use Rattle.beldi_value.specs.{declared.id.IntentId.IntentId}
use Rattle.beldi_row.specs.declared.act.Act.TheVariants.{Look, MarkCell, SkipCell}
use Rattle.beldi_row.specs.{Key.RowKey, Key.at_row, Key.row_of, Act.act, Table.Rows, Table.next_row, declared.key.Kind.Kind, declared.row.Row.Row}
use Rattle.beldi_query.specs.Query.{replied}
use Rattle.beldi_intent.specs.Intent.{intent_key}
use Rattle.beldi_prune.specs.{Seat.belongs_to, Seat.seat, Seat.seat_if, Prune.begins, Prune.is_recyclable, Prune.led_next, Prune.marked_next, Prune.row_next, Prune.stand_if, Prune.to_prove, Prune.todo_of}
use Rattle.beldi_prune.specs.Unlink.{is_did, step_to, told_marked, told_next}
use Rattle.beldi_prune.specs.PruneLaws.{OnlyRecyclableRowsAreToGo, IsBegun, IsOldAt, IsRecyclable, is_left, turned}
use Rattle.beldi_prune.specs.declared.{found.Todo.Todo, found.Todo.TheVariants.Pass, found.Todo.TheVariants.DropIt, found.Todo.TheVariants.LookAt, found.Todo.TheVariants.DropAdrift, found.Todo.TheVariants.LeadPast, found.Todo.TheVariants.Prove}
use Rattle.beldi_prune.specs.declared.collector.CollectorAt.{CollectorAt, TheVariants.Before, TheVariants.ToDropIntent, TheVariants.ToLook, TheVariants.ToDrop, TheVariants.ToProve, TheVariants.ToMark, TheVariants.ToLead, TheVariants.ToSkip, TheVariants.ToDangle, TheVariants.ToDropCell}

pub found_old : (life now : ℕ) (o : Option Row) → is_recyclable life now (replied (act Look now o).1) ≡ true → IsOldAt life now o
found_old life now None h = tt
found_old life now (Some (Row.Intent i)) h = h
found_old life now (Some r) h = cc

left_has : (kind : Kind) → is_left kind ≡ true → (i : IntentId) × (belongs_to kind ≡ Some i)
left_has (Kind.Intent i) h = cc
left_has (Kind.ReadLog a) h = (a.intent, refl)
left_has (Kind.Invoke a) h = (a.intent, refl)
left_has (Kind.Data t k n) h = cc
left_has (Kind.Shadow s t k n) h = (s.intent, refl)
left_has (Kind.Lockset i b t k) h = (i, refl)

same_drop : (k q : RowKey) → ToDrop k ≡ ToDrop q → k ≡ q
same_drop k q h = cc

recyclable : (life now : ℕ) (m : Rows) (k : RowKey) → is_left k.kind ≡ true → IsOldAt life now (map.get m (seat k)) → IsRecyclable life now m k
recyclable life now m k left old = let e = left_has k.kind left in
    record { intent = e.0; belongs = e.1; old = subst (λ o. IsOldAt life now (map.get m (seat_if k o))) e.1 old }

-- a row that is found is not to go at once, nor is one of an item
not_proved : (k q : RowKey) (is : List IntentId) → to_prove k is ≡ ToDrop q → ⊥
not_proved k q [] h = cc
not_proved k q (i ∷ is) h = cc

not_marked : (c k q : RowKey) (o : Option ℕ) → (marked_next c k o).at ≡ ToDrop q → ⊥
not_marked c k q None h = cc
not_marked c k q (Some to) h = cc

not_step : (k q : RowKey) (to at next : ℕ) (same less : Bool) → step_to k to at next same less ≡ ToDrop q → ⊥
not_step k q to at next true less h = cc
not_step k q to at next false true h = cc
not_step k q to at next false false h = cc

not_led : (c k q : RowKey) (to at : ℕ) (o : Option (Option ℕ)) → (led_next c k to at o).at ≡ ToDrop q → ⊥
not_led c k q to at None h = cc
not_led c k q to at (Some None) h = cc
not_led c k q to at (Some (Some next)) h = not_step k q to at next (next == row_of k.kind) (nat_lt next (row_of k.kind)) h

not_dangle : (k q : RowKey) → ToDangle k ≡ ToDrop q → ⊥
not_dangle k q h = cc

not_if : (c k q : RowKey) (a : CollectorAt) → (a ≡ ToDrop q → ⊥) → (b : Bool) → (stand_if c k a b).at ≡ ToDrop q → ⊥
not_if c k q a other true h = other h
not_if c k q a other false h = cc

not_begun : (c k q : RowKey) (t : Todo) → (begins c k t).at ≡ ToDrop q → ⊥
not_begun c k q Pass h = cc
not_begun c k q DropIt h = cc
not_begun c k q LookAt h = cc
not_begun c k q DropAdrift h = cc
not_begun c k q (LeadPast to) h = cc
not_begun c k q (Prove is) h = not_proved k q is h

not_found : (newest life now : ℕ) (c q : RowKey) (o : Option (RowKey × Row)) → (row_next newest life now c o).at ≡ ToDrop q → ⊥
not_found newest life now c q None h = cc
not_found newest life now c q (Some e) h = not_begun c e.0 q (todo_of newest life now e.0.kind e.1) h

module _ (life now : ℕ) (m : Rows) (c k q : RowKey) (left : is_left k.kind ≡ true) where
  looked_old : (b : Bool) → is_recyclable life now (replied (act Look now (map.get m (seat k))).1) ≡ b → (stand_if c k (ToDrop k) b).at ≡ ToDrop q → (ToLook k ≡ ToLook q) × IsRecyclable life now m q
  looked_old true is h = let same = same_drop k q h in (ap ToLook same, subst (IsRecyclable life now m) same (recyclable life now m k left (found_old life now (map.get m (seat k)) is)))
  looked_old false is h = cc

to_go : (newest life now : ℕ) (m : Rows) (c q : RowKey) (a : CollectorAt) → IsBegun newest c a → (turned newest life now (record { cursor = c; at = a }) m).at ≡ ToDrop q → (a ≡ ToLook q) × IsRecyclable life now m q
to_go newest life now m c q Before right h = absurd (not_found newest life now c q (next_row m c) h)
to_go newest life now m c q (ToDropIntent k) right h = cc
to_go newest life now m c q (ToLook k) right h = looked_old life now m c k q right.1 (is_recyclable life now (replied (act Look now (map.get m (seat k))).1)) refl h
to_go newest life now m c q (ToDrop k) right h = cc
to_go newest life now m c q (ToProve k i is) right h = absurd (not_if c k q (to_prove k is) (not_proved k q is) (is_recyclable life now (replied (act Look now (map.get m (intent_key i k.home))).1)) h)
to_go newest life now m c q (ToMark k) right h = absurd (not_marked c k q (told_marked (replied (act MarkCell now (map.get m k)).1)) h)
to_go newest life now m c q (ToLead k to at) right h = absurd (not_led c k q to at (told_next (replied (act Look now (map.get m (at_row k at))).1)) h)
to_go newest life now m c q (ToSkip k to at) right h = absurd (not_if c k q (ToDangle k) (not_dangle k q) (is_did (replied (act (SkipCell (row_of k.kind) to) now (map.get m (at_row k at))).1)) h)
to_go newest life now m c q (ToDangle k) right h = cc
to_go newest life now m c q (ToDropCell k) right h = cc

pub only_recyclable : OnlyRecyclableRowsAreToGo
only_recyclable newest life now w m k right h = to_go newest life now m w.cursor k w.at right h
