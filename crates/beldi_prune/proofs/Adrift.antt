-- Which rows of items are to be left adrift.
use Rattle.std.specs.Prelude.{nat_lt, ◌==◌}
use Rattle.std.specs.FinMap as map
use Rattle.std.proofs.Common.{◌≡◌, ◌⊎◌, inl, inr, ℕ, ◌<◌, Bool, true, false, Option, None, Some, refl, sym, ◌∙◌, subst, arith}
use Rattle.std.proofs.lemmas.Bool.{Decides.nat_tests}
use Rattle.beldi_row.specs.declared.act.Act.TheVariants.{Look, MarkCell, SkipCell}
use Rattle.beldi_row.specs.{Key.RowKey, Key.at_row, Key.row_of, Act.act, Table.Rows, Table.next_row, declared.row.Cell.Cell, declared.row.Row.Row}
use Rattle.beldi_query.specs.Query.{replied}
use Rattle.beldi_prune.specs.{PruneLaws.rows_turned, PruneLaws.turned, Marks.IsPastRow, Marks.OnlyPassedRowsAreToDangle, Marks.SeesPast, Marks.Skips}
use Rattle.beldi_prune.specs.Prune.{begins, led_next, marked_next, row_next, stand_if, to_prove, todo_of}
use Rattle.beldi_prune.specs.Unlink.{is_did, lead_to, step_to, told_marked, told_next}
use Rattle.beldi_prune.specs.declared.collector.CollectorAt.{CollectorAt, TheVariants.Before, TheVariants.ToDropIntent, TheVariants.ToLook, TheVariants.ToDrop, TheVariants.ToProve, TheVariants.ToMark, TheVariants.ToLead, TheVariants.ToSkip, TheVariants.ToDangle, TheVariants.ToDropCell}
use Rattle.beldi_prune.specs.declared.found.Todo.{Todo, TheVariants.Pass, TheVariants.DropIt, TheVariants.LookAt, TheVariants.DropAdrift, TheVariants.LeadPast, TheVariants.Prove}
use Rattle.beldi_prune.proofs.{Quiet.clash, Quiet.none, Quiet.proved_quiet, PruneOutput.skips_so}

same_dangle : (q k : RowKey) → ToDangle q ≡ ToDangle k → q ≡ k
same_dangle q k h = cc

same_skip : (q k : RowKey) (y to at by : ℕ) → ToSkip q y at ≡ ToSkip k to by → q ≡ k
same_skip q k y to at by h = cc

begins_none : (c q k : RowKey) (t : Todo) → (begins c q t).at ≡ ToDangle k → ⊥
begins_none c q k Pass h = cc
begins_none c q k DropIt h = cc
begins_none c q k LookAt h = cc
begins_none c q k DropAdrift h = cc
begins_none c q k (LeadPast to) h = cc
begins_none c q k (Prove js) h = clash (to_prove q js) (ToDangle k) (proved_quiet q js) refl h

finds_none : (newest life now : ℕ) (c k : RowKey) (o : Option (RowKey × Row)) → (row_next newest life now c o).at ≡ ToDangle k → ⊥
finds_none newest life now c k None h = cc
finds_none newest life now c k (Some e) h = begins_none c e.0 k (todo_of newest life now e.0.kind e.1) h

marks_none : (c q k : RowKey) (o : Option ℕ) → (marked_next c q o).at ≡ ToDangle k → ⊥
marks_none c q k None h = cc
marks_none c q k (Some to) h = cc

above : (next n : ℕ) → (next == n) ≡ false → nat_lt next n ≡ false → n < next
above next n h g = grind (arith, nat_tests)

module _ (c k : RowKey) (m : Rows) (q : RowKey) (y at : ℕ) where
  abbrev Sees : Type 0
  Sees = SeesPast (record { cursor = c; at = ToLead q y at }) m k

  sees : (x : Cell) → map.get m (at_row q at) ≡ Some (Row.Cell x) → IsPastRow (row_of q.kind) x.next → q ≡ k → Sees
  sees x there past same = subst (λ (z : RowKey). SeesPast (record { cursor = c; at = ToLead q y at }) m z) same (record { to = y; at = at; cell = x; begun = refl; there = there; past = past })

  sees_step : (x : Cell) → map.get m (at_row q at) ≡ Some (Row.Cell x) → (next : ℕ) → x.next ≡ Some next → (same less : Bool) → (next == row_of q.kind) ≡ same → nat_lt next (row_of q.kind) ≡ less
      → step_to q y at next same less ≡ ToDangle k → Sees
  sees_step x there next is true less e g h = cc
  sees_step x there next is false true e g h = cc
  sees_step x there next is false false e g h = sees x there (subst (IsPastRow (row_of q.kind)) (sym is) (above next (row_of q.kind) e g)) (same_dangle q k h)

  sees_next : (x : Cell) → map.get m (at_row q at) ≡ Some (Row.Cell x) → (o : Option ℕ) → x.next ≡ o → lead_to q y at o ≡ ToDangle k → Sees
  sees_next x there None is h = sees x there (subst (IsPastRow (row_of q.kind)) (sym is) tt) (same_dangle q k h)
  sees_next x there (Some next) is h = sees_step x there next is (next == row_of q.kind) (nat_lt next (row_of q.kind)) refl refl h

  sees_row : (now : ℕ) (o : Option Row) → map.get m (at_row q at) ≡ o → (led_next c q y at (told_next (replied (act Look now o).1))).at ≡ ToDangle k → Sees
  sees_row now None there h = cc
  sees_row now (Some (Row.Cell x)) there h = sees_next x there x.next refl h
  sees_row now (Some (Row.Intent i)) there h = cc
  sees_row now (Some (Row.ReadLog v)) there h = cc
  sees_row now (Some (Row.Invoke v)) there h = cc
  sees_row now (Some Row.Lockset) there h = cc

  skips : (life now : ℕ) (b : Bool) → is_did (replied (act (SkipCell (row_of q.kind) y) now (map.get m (at_row q at))).1) ≡ b → (stand_if c q (ToDangle q) b).at ≡ ToDangle k
      → Skips (ToSkip q y at) m (rows_turned life now (record { cursor = c; at = ToSkip q y at }) m) k
  skips life now true is h = let change = skips_so life now c q y at m is in
      record { change = change; key = sym (same_skip q change.key y change.to at change.at change.begun) ∙ same_dangle q k h }
  skips life now false is h = cc

by_at : (newest life now : ℕ) (m : Rows) (c k : RowKey) (a : CollectorAt) → (turned newest life now (record { cursor = c; at = a }) m).at ≡ ToDangle k
    → SeesPast (record { cursor = c; at = a }) m k ⊎ Skips a m (rows_turned life now (record { cursor = c; at = a }) m) k
by_at newest life now m c k Before h = absurd (finds_none newest life now c k (next_row m c) h)
by_at newest life now m c k (ToDropIntent q) h = cc
by_at newest life now m c k (ToLook q) h = absurd (none newest life now m c (ToLook q) (ToDangle k) refl refl h)
by_at newest life now m c k (ToDrop q) h = cc
by_at newest life now m c k (ToProve q i js) h = absurd (none newest life now m c (ToProve q i js) (ToDangle k) refl refl h)
by_at newest life now m c k (ToMark q) h = absurd (marks_none c q k (told_marked (replied (act MarkCell now (map.get m q)).1)) h)
by_at newest life now m c k (ToLead q y at) h = inl (sees_row c k m q y at now (map.get m (at_row q at)) refl h)
by_at newest life now m c k (ToSkip q y at) h = inr (skips c k m q y at life now (is_did (replied (act (SkipCell (row_of q.kind) y) now (map.get m (at_row q at))).1)) refl h)
by_at newest life now m c k (ToDangle q) h = cc
by_at newest life now m c k (ToDropCell q) h = cc

pub only_passed : OnlyPassedRowsAreToDangle
only_passed newest life now w m k h = by_at newest life now m w.cursor k w.at h
