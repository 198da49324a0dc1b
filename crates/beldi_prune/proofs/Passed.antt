-- Which rows of items are to be led past.
use Rattle.std.specs.Prelude.{nat_lt, ◌==◌}
use Rattle.std.specs.FinMap as map
use Rattle.std.proofs.Common.{◌≡◌, ◌⊎◌, inl, inr, ℕ, Bool, true, false, Option, None, Some, refl, ap, sym, ◌∙◌, subst}
use Rattle.std.proofs.lemmas.Bool.{eqb-true, ltb-true}
use Rattle.beldi_row.specs.declared.act.Act.TheVariants.{Look, MarkCell, SkipCell}
use Rattle.beldi_row.specs.{Key.RowKey, Key.at_row, Key.row_of, Act.act, Act.mark_by, Table.Rows, Table.next_row, Table.set_row, declared.row.Cell.Cell, declared.row.Row.Row}
use Rattle.beldi_query.specs.Query.{replied}
use Rattle.beldi_prune.specs.{PruneLaws.rows_turned, Marks.FindsMarked, Marks.Marks, Marks.OnlyMarkedRowsAreLedPast, Marks.LeadsOn, Marks.LeadsThere}
use Rattle.beldi_prune.specs.Prune.{begins, led_next, marked_next, row_next, stand_if, to_prove, todo_of}
use Rattle.beldi_prune.specs.Unlink.{is_did, lead_to, step_to, told_marked, told_next}
use Rattle.beldi_prune.specs.declared.collector.LogCollector.{LogCollector}
use Rattle.beldi_prune.specs.declared.collector.CollectorAt.{CollectorAt, TheVariants.Before, TheVariants.ToDropIntent, TheVariants.ToLook, TheVariants.ToDrop, TheVariants.ToProve, TheVariants.ToMark, TheVariants.ToLead, TheVariants.ToSkip, TheVariants.ToDangle, TheVariants.ToDropCell}
use Rattle.beldi_prune.specs.declared.found.Todo.{Todo, TheVariants.Pass, TheVariants.DropIt, TheVariants.LookAt, TheVariants.DropAdrift, TheVariants.LeadPast, TheVariants.Prove}
use Rattle.beldi_prune.proofs.{Judged.Judged, Judged.judged, Quiet.at_after, Quiet.clash, Quiet.none, Quiet.proved_quiet}

same_lead : (q k : RowKey) (y to b at : ℕ) → ToLead q y b ≡ ToLead k to at → (q ≡ k) × (y ≡ to) × (b ≡ at)
same_lead q k y to b at h = (cc, cc, cc)

same_skip : (q k : RowKey) (y to b at : ℕ) → ToSkip q y b ≡ ToSkip k to at → (q ≡ k) × (y ≡ to) × (b ≡ at)
same_skip q k y to b at h = (cc, cc, cc)

-- ---- the way to a row begins
abbrev Begins : ℕ → ℕ → LogCollector → Rows → RowKey → ℕ → ℕ → Type 0
Begins life now w m k to at = (at ≡ 0) × (FindsMarked w m k to ⊎ Marks w.at m (rows_turned life now w m) k to)

module _ (life now : ℕ) (c k : RowKey) (m : Rows) (to at : ℕ) where
  abbrev Found : Type 0
  Found = Begins life now (record { cursor = c; at = Before }) m k to at

  finds : (q : RowKey) (r : Row) → next_row m c ≡ Some (q, r) → (t : Todo) → Judged q.kind r t → (begins c q t).at ≡ ToLead k to at → Found
  finds q r found Pass j h = cc
  finds q r found DropIt j h = cc
  finds q r found LookAt j h = cc
  finds q r found DropAdrift j h = cc
  finds q r found (LeadPast y) j h = let e = same_lead q k y to 0 at h in
      let w : LogCollector = record { cursor = c; at = Before } in
      let is : FindsMarked w m q y = record { cell = j.cell; before = refl; found = found ∙ ap (λ z. Some (q, z)) j.linked.is; behind = j.linked.behind; next = j.linked.next; marked = j.linked.so; fresh = j.linked.fresh } in
      (sym e.2, inl (subst (λ z. FindsMarked w m k z) e.1 (subst (λ (z : RowKey). FindsMarked w m z y) e.0 is)))
  finds q r found (Prove js) j h = absurd (clash (to_prove q js) (ToLead k to at) (proved_quiet q js) refl h)

  finds_next : (newest : ℕ) (o : Option (RowKey × Row)) → next_row m c ≡ o → (row_next newest life now c o).at ≡ ToLead k to at → Found
  finds_next newest None found h = cc
  finds_next newest (Some e) found h = finds e.0 e.1 found (todo_of newest life now e.0.kind e.1) (judged newest life now e.1 e.0.kind) h

  module _ (q : RowKey) where
    abbrev Marked : Type 0
    Marked = Begins life now (record { cursor = c; at = ToMark q }) m k to at

    marks_cell : (x : Cell) → map.get m q ≡ Some (Row.Cell x) → (o : Option ℕ) → x.next ≡ o → rows_turned life now (record { cursor = c; at = ToMark q }) m ≡ set_row m q (Some (Row.Cell (mark_by o x).0))
        → (marked_next c q (told_marked (replied (mark_by o x).1))).at ≡ ToLead k to at → Marked
    marks_cell x there None next is h = cc
    marks_cell x there (Some y) next is h = let e = same_lead q k y to 0 at h in
        (sym e.2, inr (record { change = record { key = q; cell = x; to = y; begun = refl; there = there; next = next; done = is }; key = e.0; next = e.1 }))

    marks : (o : Option Row) → map.get m q ≡ o → rows_turned life now (record { cursor = c; at = ToMark q }) m ≡ set_row m q (act MarkCell now o).0 → (marked_next c q (told_marked (replied (act MarkCell now o).1))).at ≡ ToLead k to at → Marked
    marks None there is h = cc
    marks (Some (Row.Cell x)) there is h = marks_cell x there x.next refl is h
    marks (Some (Row.Intent i)) there is h = cc
    marks (Some (Row.ReadLog v)) there is h = cc
    marks (Some (Row.Invoke v)) there is h = cc
    marks (Some Row.Lockset) there is h = cc

-- ---- .. and goes on
module _ (c k : RowKey) (m : Rows) (to at : ℕ) (q : RowKey) (y b : ℕ) where
  abbrev Stands : LogCollector
  Stands = record { cursor = c; at = ToLead q y b }

  leads : (x : Cell) → map.get m (at_row q b) ≡ Some (Row.Cell x) → (next : ℕ) → x.next ≡ Some next → (same less : Bool) → nat_lt next (row_of q.kind) ≡ less → step_to q y b next same less ≡ ToLead k to at → LeadsOn Stands m k to at
  leads x there next is true less g h = cc
  leads x there next is false true g h = let e = same_lead q k y to next at h in
      let on : LeadsOn Stands m q y next = record { from = b; cell = x; begun = refl; there = there; next = is; below = ltb-true next (row_of q.kind) g } in
      subst (λ z. LeadsOn Stands m k to z) e.2 (subst (λ z. LeadsOn Stands m k z next) e.1 (subst (λ (z : RowKey). LeadsOn Stands m z y next) e.0 on))
  leads x there next is false false g h = cc

  leads_next : (x : Cell) → map.get m (at_row q b) ≡ Some (Row.Cell x) → (o : Option ℕ) → x.next ≡ o → lead_to q y b o ≡ ToLead k to at → LeadsOn Stands m k to at
  leads_next x there None is h = cc
  leads_next x there (Some next) is h = leads x there next is (next == row_of q.kind) (nat_lt next (row_of q.kind)) refl h

  leads_row : (now : ℕ) (o : Option Row) → map.get m (at_row q b) ≡ o → (led_next c q y b (told_next (replied (act Look now o).1))).at ≡ ToLead k to at → LeadsOn Stands m k to at
  leads_row now None there h = cc
  leads_row now (Some (Row.Cell x)) there h = leads_next x there x.next refl h
  leads_row now (Some (Row.Intent i)) there h = cc
  leads_row now (Some (Row.ReadLog v)) there h = cc
  leads_row now (Some (Row.Invoke v)) there h = cc
  leads_row now (Some Row.Lockset) there h = cc

  -- .. up to the row that leads to it
  ends : (x : Cell) → map.get m (at_row q b) ≡ Some (Row.Cell x) → (next : ℕ) → x.next ≡ Some next → (same less : Bool) → (next == row_of q.kind) ≡ same → step_to q y b next same less ≡ ToSkip k to at → LeadsThere Stands m k to at
  ends x there next is true less g h = let e = same_skip q k y to b at h in
      let on : LeadsThere Stands m q y b = record { cell = x; begun = refl; there = there; next = is ∙ ap Some (eqb-true next (row_of q.kind) g) } in
      subst (λ z. LeadsThere Stands m k to z) e.2 (subst (λ z. LeadsThere Stands m k z b) e.1 (subst (λ (z : RowKey). LeadsThere Stands m z y b) e.0 on))
  ends x there next is false true g h = cc
  ends x there next is false false g h = cc

  ends_next : (x : Cell) → map.get m (at_row q b) ≡ Some (Row.Cell x) → (o : Option ℕ) → x.next ≡ o → lead_to q y b o ≡ ToSkip k to at → LeadsThere Stands m k to at
  ends_next x there None is h = cc
  ends_next x there (Some next) is h = ends x there next is (next == row_of q.kind) (nat_lt next (row_of q.kind)) refl h

  ends_row : (now : ℕ) (o : Option Row) → map.get m (at_row q b) ≡ o → (led_next c q y b (told_next (replied (act Look now o).1))).at ≡ ToSkip k to at → LeadsThere Stands m k to at
  ends_row now None there h = cc
  ends_row now (Some (Row.Cell x)) there h = ends_next x there x.next refl h
  ends_row now (Some (Row.Intent i)) there h = cc
  ends_row now (Some (Row.ReadLog v)) there h = cc
  ends_row now (Some (Row.Invoke v)) there h = cc
  ends_row now (Some Row.Lockset) there h = cc

-- ---- from wherever it stands
no_lead_if : (c q k : RowKey) (to at : ℕ) (b : Bool) → (stand_if c q (ToDangle q) b).at ≡ ToLead k to at → ⊥
no_lead_if c q k to at true h = cc
no_lead_if c q k to at false h = cc

no_skip_if : (c q k : RowKey) (to at : ℕ) (b : Bool) → (stand_if c q (ToDangle q) b).at ≡ ToSkip k to at → ⊥
no_skip_if c q k to at true h = cc
no_skip_if c q k to at false h = cc

no_skip_marked : (c q k : RowKey) (to at : ℕ) (o : Option ℕ) → (marked_next c q o).at ≡ ToSkip k to at → ⊥
no_skip_marked c q k to at None h = cc
no_skip_marked c q k to at (Some y) h = cc

no_skip_begun : (c q k : RowKey) (to at : ℕ) (t : Todo) → (begins c q t).at ≡ ToSkip k to at → ⊥
no_skip_begun c q k to at Pass h = cc
no_skip_begun c q k to at DropIt h = cc
no_skip_begun c q k to at LookAt h = cc
no_skip_begun c q k to at DropAdrift h = cc
no_skip_begun c q k to at (LeadPast y) h = cc
no_skip_begun c q k to at (Prove js) h = clash (to_prove q js) (ToSkip k to at) (proved_quiet q js) refl h

no_skip_found : (newest life now : ℕ) (c k : RowKey) (to at : ℕ) (o : Option (RowKey × Row)) → (row_next newest life now c o).at ≡ ToSkip k to at → ⊥
no_skip_found newest life now c k to at None h = cc
no_skip_found newest life now c k to at (Some e) h = no_skip_begun c e.0 k to at (todo_of newest life now e.0.kind e.1) h

to_lead : (newest life now : ℕ) (m : Rows) (c k : RowKey) (to at : ℕ) (a : CollectorAt) → at_after newest life now m c a ≡ ToLead k to at
    → Begins life now (record { cursor = c; at = a }) m k to at ⊎ LeadsOn (record { cursor = c; at = a }) m k to at
to_lead newest life now m c k to at Before h = inl (finds_next life now c k m to at newest (next_row m c) refl h)
to_lead newest life now m c k to at (ToDropIntent q) h = cc
to_lead newest life now m c k to at (ToLook q) h = absurd (none newest life now m c (ToLook q) (ToLead k to at) refl refl h)
to_lead newest life now m c k to at (ToDrop q) h = cc
to_lead newest life now m c k to at (ToProve q i js) h = absurd (none newest life now m c (ToProve q i js) (ToLead k to at) refl refl h)
to_lead newest life now m c k to at (ToMark q) h = inl (marks life now c k m to at q (map.get m q) refl refl h)
to_lead newest life now m c k to at (ToLead q y b) h = inr (leads_row c k m to at q y b now (map.get m (at_row q b)) refl h)
to_lead newest life now m c k to at (ToSkip q y b) h = absurd (no_lead_if c q k to at (is_did (replied (act (SkipCell (row_of q.kind) y) now (map.get m (at_row q b))).1)) h)
to_lead newest life now m c k to at (ToDangle q) h = cc
to_lead newest life now m c k to at (ToDropCell q) h = cc

to_skip : (newest life now : ℕ) (m : Rows) (c k : RowKey) (to at : ℕ) (a : CollectorAt) → at_after newest life now m c a ≡ ToSkip k to at → LeadsThere (record { cursor = c; at = a }) m k to at
to_skip newest life now m c k to at Before h = absurd (no_skip_found newest life now c k to at (next_row m c) h)
to_skip newest life now m c k to at (ToDropIntent q) h = cc
to_skip newest life now m c k to at (ToLook q) h = absurd (none newest life now m c (ToLook q) (ToSkip k to at) refl refl h)
to_skip newest life now m c k to at (ToDrop q) h = cc
to_skip newest life now m c k to at (ToProve q i js) h = absurd (none newest life now m c (ToProve q i js) (ToSkip k to at) refl refl h)
to_skip newest life now m c k to at (ToMark q) h = absurd (no_skip_marked c q k to at (told_marked (replied (act MarkCell now (map.get m q)).1)) h)
to_skip newest life now m c k to at (ToLead q y b) h = ends_row c k m to at q y b now (map.get m (at_row q b)) refl h
to_skip newest life now m c k to at (ToSkip q y b) h = absurd (no_skip_if c q k to at (is_did (replied (act (SkipCell (row_of q.kind) y) now (map.get m (at_row q b))).1)) h)
to_skip newest life now m c k to at (ToDangle q) h = cc
to_skip newest life now m c k to at (ToDropCell q) h = cc

pub only_marked : OnlyMarkedRowsAreLedPast
only_marked = (λ newest life now w m k to at h. to_lead newest life now m w.cursor k to at w.at h, λ newest life now w m k to at h. to_skip newest life now m w.cursor k to at w.at h)
