-- Which rows of items are to be marked.
use Rattle.std.specs.Prelude.{nat_lt, ◌==◌, is_some}
use Rattle.std.specs.FinMap as map
use Rattle.std.proofs.Common.{◌≡◌, ◌⊎◌, inl, inr, ℕ, Bool, true, false, List, [], ◌∷◌, Option, None, Some, refl, ap, sym, ◌∙◌, subst}
use Rattle.beldi_value.specs.declared.id.IntentId.{IntentId}
use Rattle.beldi_row.specs.declared.act.Act.TheVariants.{Look, MarkCell, SkipCell}
use Rattle.beldi_row.specs.{Key.RowKey, Key.at_row, Key.row_of, Act.act, Table.Rows, Table.next_row, declared.row.Row.Row}
use Rattle.beldi_query.specs.Query.{replied}
use Rattle.beldi_intent.specs.Intent.{intent_key}
use Rattle.beldi_prune.specs.{PruneLaws.turned, Marks.FindsOld, Marks.FindsUnmarked, Marks.OnlyProvedRowsAreToBeMarked, Marks.left_to_prove, Seat.seat}
use Rattle.beldi_prune.specs.Prune.{begins, is_recyclable, led_next, marked_next, row_next, stand_if, to_prove, todo_of}
use Rattle.beldi_prune.specs.Unlink.{is_did, step_to, told_marked, told_next}
use Rattle.beldi_prune.specs.declared.collector.CollectorAt.{CollectorAt, TheVariants.Before, TheVariants.ToDropIntent, TheVariants.ToLook, TheVariants.ToDrop, TheVariants.ToProve, TheVariants.ToMark, TheVariants.ToLead, TheVariants.ToSkip, TheVariants.ToDangle, TheVariants.ToDropCell}
use Rattle.beldi_prune.specs.declared.found.Todo.{Todo, TheVariants.Pass, TheVariants.DropIt, TheVariants.LookAt, TheVariants.DropAdrift, TheVariants.LeadPast, TheVariants.Prove}
use Rattle.beldi_prune.proofs.{Judged.Judged, Judged.judged, Named.named, Gone.found_old}

abbrev Left : Type 0
Left = RowKey × List IntentId

left_of : (k : RowKey) (is : List IntentId) → left_to_prove (to_prove k is) ≡ Some (k, is)
left_of k [] = refl
left_of k (i ∷ is) = refl

abbrev or_this : Left → Option Left → Left
or_this d None = d
or_this d (Some e) = e

-- what is left to be looked at is what a row is to be marked by
same_left : (q k : RowKey) (js is : List IntentId) → left_to_prove (to_prove q js) ≡ Some (k, is) → ◌≡◌ {A = Left} (q, js) (k, is)
same_left q k js is h = ap (or_this (q, js)) (sym (left_of q js) ∙ h)

module _ (c k : RowKey) (m : Rows) (is : List IntentId) where
  finds : (q : RowKey) (r : Row) → next_row m c ≡ Some (q, r) → (t : Todo) → Judged q.kind r t → left_to_prove (begins c q t).at ≡ Some (k, is) → FindsUnmarked (record { cursor = c; at = Before }) m k is
  finds q r found Pass j h = cc
  finds q r found DropIt j h = cc
  finds q r found LookAt j h = cc
  finds q r found DropAdrift j h = cc
  finds q r found (LeadPast to) j h = cc
  finds q r found (Prove js) j h =
      subst (λ (e : Left). FindsUnmarked (record { cursor = c; at = Before }) m e.0 e.1) (same_left q k js is h)
      (record { cell = j.cell; before = refl; found = found ∙ ap (λ z. Some (q, z)) j.linked.is; behind = j.linked.behind; next = ap is_some j.linked.next; unmarked = j.linked.so; fresh = j.linked.fresh; intents = j.intents })

  module _ (newest life now : ℕ) where
    finds_next : (o : Option (RowKey × Row)) → next_row m c ≡ o → left_to_prove (row_next newest life now c o).at ≡ Some (k, is) → FindsUnmarked (record { cursor = c; at = Before }) m k is
    finds_next None found h = cc
    finds_next (Some e) found h = finds e.0 e.1 found (todo_of newest life now e.0.kind e.1) (judged newest life now e.1 e.0.kind) h

    looks : (q : RowKey) (i : IntentId) (js : List IntentId) (b : Bool) → is_recyclable life now (replied (act Look now (map.get m (intent_key i q.home))).1) ≡ b → left_to_prove (stand_if c q (to_prove q js) b).at ≡ Some (k, is)
        → FindsOld life now (record { cursor = c; at = ToProve q i js }) m k is
    looks q i js true so h =
        let e = same_left q k js is h in
        let old = found_old life now (map.get m (intent_key i q.home)) so in
        subst (λ (z : Left). FindsOld life now (record { cursor = c; at = ToProve q i js }) m z.0 z.1) e (record { intent = i; left = refl; old = old })
    looks q i js false so h = cc

-- nothing else leads there
module _ (c k q : RowKey) (is : List IntentId) where
  none_if : (a : CollectorAt) → left_to_prove a ≡ None → (b : Bool) → left_to_prove (stand_if c q a b).at ≡ Some (k, is) → ⊥
  none_if a none true h = let clash : None ≡ Some (k, is) = sym none ∙ h in cc
  none_if a none false h = cc

  none_marked : (o : Option ℕ) → left_to_prove (marked_next c q o).at ≡ Some (k, is) → ⊥
  none_marked None h = cc
  none_marked (Some to) h = cc

  none_step : (to at next : ℕ) (same less : Bool) → left_to_prove (step_to q to at next same less) ≡ Some (k, is) → ⊥
  none_step to at next true less h = cc
  none_step to at next false true h = cc
  none_step to at next false false h = cc

  none_led : (to at : ℕ) (o : Option (Option ℕ)) → left_to_prove (led_next c q to at o).at ≡ Some (k, is) → ⊥
  none_led to at None h = cc
  none_led to at (Some None) h = cc
  none_led to at (Some (Some next)) h = none_step to at next (next == row_of q.kind) (nat_lt next (row_of q.kind)) h

by_at : (newest life now : ℕ) (m : Rows) (c k : RowKey) (is : List IntentId) (a : CollectorAt) → left_to_prove (turned newest life now (record { cursor = c; at = a }) m).at ≡ Some (k, is)
    → FindsUnmarked (record { cursor = c; at = a }) m k is ⊎ FindsOld life now (record { cursor = c; at = a }) m k is
by_at newest life now m c k is Before h = inl (finds_next c k m is newest life now (next_row m c) refl h)
by_at newest life now m c k is (ToDropIntent q) h = cc
by_at newest life now m c k is (ToLook q) h = absurd (none_if c k q is (ToDrop q) refl (is_recyclable life now (replied (act Look now (map.get m (seat q))).1)) h)
by_at newest life now m c k is (ToDrop q) h = cc
by_at newest life now m c k is (ToProve q i js) h = inr (looks c k m is newest life now q i js (is_recyclable life now (replied (act Look now (map.get m (intent_key i q.home))).1)) refl h)
by_at newest life now m c k is (ToMark q) h = absurd (none_marked c k q is (told_marked (replied (act MarkCell now (map.get m q)).1)) h)
by_at newest life now m c k is (ToLead q to at) h = absurd (none_led c k q is to at (told_next (replied (act Look now (map.get m (at_row q at))).1)) h)
by_at newest life now m c k is (ToSkip q to at) h = absurd (none_if c k q is (ToDangle q) refl (is_did (replied (act (SkipCell (row_of q.kind) to) now (map.get m (at_row q at))).1)) h)
by_at newest life now m c k is (ToDangle q) h = cc
by_at newest life now m c k is (ToDropCell q) h = cc

pub only_proved : OnlyProvedRowsAreToBeMarked
only_proved = (λ newest life now w m k is h. by_at newest life now m w.cursor k is w.at h, λ es i h. named es i h)
