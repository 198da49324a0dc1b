-- How many turns of a round are left at most, by where its collector stands and the rows at its beginning: each turn takes one of them.
use Rattle.std.specs.List.{sum_by}
use Rattle.std.specs.Option.{unwrap_or}
use Rattle.std.specs.FinMap as map
use Rattle.std.specs.Ordering.{is_lt}
use Rattle.std.proofs.lemmas.Cmp.{tied_itself}
use Rattle.std.proofs.Common.{◌≡◌, ◌⊎◌, inl, inr, ℕ, suc, ◌+◌, ◌<◌, ◌≤◌, ◌==◌, nat_lt, Bool, true, false, cond, if◌then◌else◌, is_some, List, [], ◌∷◌, length, Option, None, Some, Ordering, Less, Equal, Greater, refl, ap, sym, ◌∙◌, subst, arith}
use Rattle.beldi_value.specs.declared.{id.IntentId.IntentId, place.Place.Place}
use Rattle.beldi_row.specs.declared.act.Act.TheVariants.{Look, MarkCell, SkipCell}
use Rattle.beldi_row.specs.{declared.notes.Note.Note, declared.row.Cell.Cell, declared.row.Row.Row, Act.act, Key.RowKey, Key.at_row, Key.key_cmp, Key.row_of, KeyOrder.key_total, Log.most_entries_are, Table.Rows, Table.next_row}
use Rattle.beldi_query.specs.Query.{found, replied}
use Rattle.beldi_intent.specs.Intent.{intent_key}
use Rattle.beldi_prune.specs.{CellEntries.intents_from, CellEntries.intents_of, CellEntries.is_other, PruneLaws.IsBegun, PruneLaws.HasCollectorInvariant, PruneLaws.begun, PruneLaws.is_behind, PruneLaws.turned, Prune.before_output, Prune.begins, Prune.is_recyclable, Prune.led_next, Prune.marked_next, Prune.past, Prune.row_next, Prune.stand, Prune.stand_if, Prune.to_prove, Prune.todo_of, Seat.seat, Unlink.is_did, Unlink.lead_to, Unlink.step_to, Unlink.told_marked, Unlink.told_next}
use Rattle.beldi_prune.specs.declared.{collector.LogCollector.LogCollector, found.Todo.Todo, found.Todo.TheVariants.Pass, found.Todo.TheVariants.DropIt, found.Todo.TheVariants.LookAt, found.Todo.TheVariants.DropAdrift, found.Todo.TheVariants.LeadPast, found.Todo.TheVariants.Prove}
use Rattle.beldi_prune.specs.declared.collector.CollectorAt.{CollectorAt, TheVariants.Before, TheVariants.ToDropIntent, TheVariants.ToLook, TheVariants.ToDrop, TheVariants.ToProve, TheVariants.ToMark, TheVariants.ToLead, TheVariants.ToSkip, TheVariants.ToDangle, TheVariants.ToDropCell}
use Rattle.beldi_prune.proofs.Judged.{Judged, judged}
use Rattle.beldi_sweep.specs.{Rounds.AreOrdered, Rounds.begun_turns, Rounds.rows_beside, Rounds.turns_of, Rounds.turns_past, Sweep.is_last_turn, Sweep.is_round}
use Rattle.beldi_sweep.proofs.{Ahead.ahead, Ahead.ahead_falls, Ahead.ahead_few, Ahead.ahead_fewer, Ahead.ahead_some, Ahead.item_at, Ahead.items, Going.sweep, SweptPlaces.past_cursor, SweptPlaces.there, Sums.sum_falls, Sums.sum_less}

-- no row is there but those at the beginning
abbrev pub AreOf : Rows → Rows → Type 0
AreOf first m = (q : RowKey) → is_some (map.get m q) ≡ true → is_some (map.get first q) ≡ true

-- ---- for the looks at intents
-- there are no more of them than entries
few_intents : (before : Option IntentId) (es : List (Place × Note)) → length (intents_from before es) ≤ length es
few_intents before [] = omega arith
few_intents before (e ∷ es) = by_other (is_other before e.0.intent) (few_intents (Some e.0.intent) es)
  where
    by_other : (b : Bool) → length (intents_from (Some e.0.intent) es) ≤ length es → length (if b then e.0.intent ∷ intents_from (Some e.0.intent) es else intents_from (Some e.0.intent) es) ≤ length (e ∷ es)
    by_other true few = omega (arith, few)
    by_other false few = omega (arith, few)

-- ---- for the rows past a cursor
abbrev past_one : Rows → RowKey → RowKey → ℕ
past_one first c q = cond (is_lt (key_cmp c q)) (turns_past first q) 0

abbrev for_rest : Rows → RowKey → ℕ
for_rest first c = sum_by (past_one first c) (map.keys first)

module _ (first : Rows) where
  rest_all : (c : RowKey) → for_rest first c ≤ turns_of first
  rest_all c = sum_less (past_one first c) (turns_past first) (λ q. by_test (is_lt (key_cmp c q)) (turns_past first q)) first
    where
      by_test : (b : Bool) (n : ℕ) → cond b n 0 ≤ n
      by_test true n = omega arith
      by_test false n = omega arith

  -- .. the next one has its own
  module _ (c k : RowKey) (past : key_cmp c k ≡ Less) where
    further : (q : RowKey) (n : ℕ) (o : Ordering) → key_cmp k q ≡ o → cond (is_lt o) n 0 ≤ cond (is_lt (key_cmp c q)) n 0
    further q n Less on = let far : cond (is_lt (key_cmp c q)) n 0 ≡ n = ap (λ o. cond (is_lt o) n 0) (key_total.trans c k q past on) in omega (arith, far)
    further q n Equal on = omega arith
    further q n Greater on = omega arith

    rest_falls : is_some (map.get first k) ≡ true → for_rest first k + turns_past first k ≤ for_rest first c
    rest_falls there =
        let a : past_one first k k ≡ 0 = ap (λ o. cond (is_lt o) (turns_past first k) 0) (tied_itself key_total k) in
        let b : past_one first c k ≡ turns_past first k = ap (λ o. cond (is_lt o) (turns_past first k) 0) past in
        sum_falls (past_one first k) (past_one first c) (λ q. further q (turns_past first q) (key_cmp k q) refl) (turns_past first k) k (omega (arith, a, b)) first there

-- ---- for all that is left
abbrev for_begun : Rows → CollectorAt → ℕ
for_begun first Before = 0
for_begun first (ToDropIntent k) = 1
for_begun first (ToLook k) = 2
for_begun first (ToDrop k) = 1
for_begun first (ToProve k i is) = suc (length is) + (2 + rows_beside first k)
for_begun first (ToMark k) = 2 + rows_beside first k
for_begun first (ToLead k to at) = 2 + ahead first k at
for_begun first (ToSkip k to at) = 2
for_begun first (ToDangle k) = 1
for_begun first (ToDropCell k) = 1

-- the rows past the one that it has begun, or past the cursor
abbrev stands_at : RowKey → CollectorAt → RowKey
stands_at c a = unwrap_or (begun a) c

abbrev pub turns_to_go : Rows → LogCollector → ℕ
turns_to_go first w = for_begun first w.at + for_rest first (stands_at w.cursor w.at)

-- ---- they are as many as is said
begun_few : (first : Rows) (a : CollectorAt) → for_begun first a ≤ begun_turns first a
begun_few first Before = omega arith
begun_few first (ToDropIntent k) = omega arith
begun_few first (ToLook k) = omega arith
begun_few first (ToDrop k) = omega arith
begun_few first (ToProve k i is) = omega arith
begun_few first (ToMark k) = omega arith
begun_few first (ToLead k to at) = let few = ahead_few first k at in omega (arith, few)
begun_few first (ToSkip k to at) = omega arith
begun_few first (ToDangle k) = omega arith
begun_few first (ToDropCell k) = omega arith

pub few_to_go : (first : Rows) (w : LogCollector) → turns_to_go first w ≤ begun_turns first w.at + turns_of first
few_to_go first w = let a = begun_few first w.at in let b = rest_all first (stands_at w.cursor w.at) in omega (arith, a, b)

-- ---- a turn takes one
module _ (first : Rows) (c k : RowKey) where
  -- at most so many are left then
  abbrev Leaves : ℕ → LogCollector → Type 0
  Leaves most x = turns_to_go first x ≤ most + for_rest first k

  leaves_if : (most : ℕ) (a : CollectorAt) → Leaves most (stand c a) → (b : Bool) → Leaves most (stand_if c k a b)
  leaves_if most a on true = on
  leaves_if most a on false = omega arith

  leaves_proving : (is : List IntentId) → Leaves (length is + (2 + rows_beside first k)) (stand c (to_prove k is))
  leaves_proving [] = omega arith
  leaves_proving (i ∷ is) = omega arith

  -- it has found the row
  leaves_begun : (r : Row) → ((x : Cell) → r ≡ Row.Cell x → is_behind k.kind ≡ true → length x.log ≤ 8) → (t : Todo) → Judged k.kind r t → Leaves (10 + rows_beside first k) (begins c k t)
  leaves_begun r short Pass so = omega arith
  leaves_begun r short DropIt so = omega arith
  leaves_begun r short LookAt so = omega arith
  leaves_begun r short DropAdrift so = omega arith
  leaves_begun r short (LeadPast to) so = let few = ahead_few first k 0 in omega (arith, few)
  leaves_begun r short (Prove is) so =
      let few = few_intents None so.cell.log in
      let eight = short so.cell so.linked.is so.linked.behind in
      let same : length (intents_of so.cell.log) ≡ length is = ap length so.intents in
      let on = leaves_proving is in
      omega (arith, few, eight, same, on)

  -- it marks the row
  module _ (of : is_some (map.get first k) ≡ true) where
    leaves_marked : (o : Option ℕ) → Leaves (1 + rows_beside first k) (marked_next c k o)
    leaves_marked None = omega arith
    leaves_marked (Some to) = let few = ahead_fewer first k 0 of in omega (arith, few)

  leaves_marking : (now : ℕ) (o : Option Row) → (is_some o ≡ true → is_some (map.get first k) ≡ true) → Leaves (1 + rows_beside first k) (marked_next c k (told_marked (replied (act MarkCell now o).1)))
  leaves_marking now None of = omega arith
  leaves_marking now (Some r) of = leaves_marked (of refl) (told_marked (replied (act MarkCell now (Some r)).1))

  -- it looks at a row on the way
  module _ (behind : is_behind k.kind ≡ true) (to at : ℕ) (below : at < row_of k.kind) where
    module _ (of : is_some (map.get first (at_row k at)) ≡ true) where
      leaves_step : (next : ℕ) → at < next → (same less : Bool) → Leaves (1 + ahead first k at) (stand c (step_to k to at next same less))
      leaves_step next rises true less = let some = ahead_some first k at behind below of in omega (arith, some)
      leaves_step next rises false true = let fewer = ahead_falls first k at behind below of next rises in omega (arith, fewer)
      leaves_step next rises false false = omega arith

      leaves_led : (o : Option ℕ) → ((next : ℕ) → o ≡ Some next → at < next) → Leaves (1 + ahead first k at) (stand c (lead_to k to at o))
      leaves_led None rises = omega arith
      leaves_led (Some next) rises = leaves_step next (rises next refl) (next == row_of k.kind) (nat_lt next (row_of k.kind))

    leaves_leading : (now : ℕ) (o : Option Row) → (is_some o ≡ true → is_some (map.get first (at_row k at)) ≡ true) → ((x : Cell) (next : ℕ) → o ≡ Some (Row.Cell x) → x.next ≡ Some next → at < next)
        → Leaves (1 + ahead first k at) (led_next c k to at (told_next (replied (act Look now o).1)))
    leaves_leading now None of rises = omega arith
    leaves_leading now (Some (Row.Cell x)) of rises = leaves_led (of refl) x.next (λ next is. rises x next refl is)
    leaves_leading now (Some (Row.Intent i)) of rises = omega arith
    leaves_leading now (Some (Row.ReadLog v)) of rises = omega arith
    leaves_leading now (Some (Row.Invoke v)) of rises = omega arith
    leaves_leading now (Some Row.Lockset) of rises = omega arith

-- .. or ends the round
module _ (newest life now : ℕ) (first m : Rows) (of : AreOf first m) (ordered : AreOrdered m) where
  abbrev Pays : LogCollector → Type 0
  Pays w = (is_last_turn life now (sweep w m) ≡ true) ⊎ (suc (turns_to_go first (turned newest life now w m)) ≤ turns_to_go first w)

  short : (k : RowKey) (r : Row) → map.get m k ≡ Some r → (x : Cell) → r ≡ Row.Cell x → is_behind k.kind ≡ true → length x.log ≤ 8
  short k r there x is behind = let i = items k.kind behind in let few = (ordered k i.table i.number i.key x i.is (there ∙ ap Some is)).short in let eight = most_entries_are in omega (arith, few, eight)

  finds : (c : RowKey) (e : RowKey × Row) → next_row m c ≡ Some e → suc (turns_to_go first (begins c e.0 (todo_of newest life now e.0.kind e.1))) ≤ for_rest first c
  finds c e next =
      let is = there c m e next in
      let rest = rest_falls first c e.0 (past_cursor c m e next) (of e.0 (ap is_some is)) in
      let on = leaves_begun first c e.0 e.1 (short e.0 e.1 is) (todo_of newest life now e.0.kind e.1) (judged newest life now e.1 e.0.kind) in
      omega (arith, rest, on)

  found_pays : (c : RowKey) (o : Option (RowKey × Row)) → next_row m c ≡ o → Pays (past c)
  found_pays c None next = inl (ap (λ o. is_round (before_output (found o))) next)
  found_pays c (Some e) next = let on = subst (λ o. suc (turns_to_go first (row_next newest life now c o)) ≤ for_rest first c) (sym next) (finds c e next) in inr (omega (arith, on))

  rises : (k : RowKey) (at : ℕ) → is_behind k.kind ≡ true → (x : Cell) (next : ℕ) → map.get m (at_row k at) ≡ Some (Row.Cell x) → x.next ≡ Some next → at < next
  rises k at behind x next there is = let i = items k.kind behind in (ordered (at_row k at) i.table at i.key x (item_at k at i) there).rises next is

  by_at : (c : RowKey) (a : CollectorAt) → IsBegun newest c a → Pays (stand c a)
  by_at c Before right = found_pays c (next_row m c) refl
  by_at c (ToDropIntent k) right = inr (omega arith)
  by_at c (ToLook k) right = let on = leaves_if first c k 1 (ToDrop k) (omega arith) (is_recyclable life now (replied (act Look now (map.get m (seat k))).1)) in inr (omega (arith, on))
  by_at c (ToDrop k) right = inr (omega arith)
  by_at c (ToProve k i is) right =
      let on = leaves_if first c k (length is + (2 + rows_beside first k)) (to_prove k is) (leaves_proving first c k is) (is_recyclable life now (replied (act Look now (map.get m (intent_key i k.home))).1)) in inr (omega (arith, on))
  by_at c (ToMark k) right = let on = leaves_marking first c k now (map.get m k) (of k) in inr (omega (arith, on))
  by_at c (ToLead k to at) right = let on = leaves_leading first c k right.1 to at right.2 now (map.get m (at_row k at)) (of (at_row k at)) (λ x next. rises k at right.1 x next) in inr (omega (arith, on))
  by_at c (ToSkip k to at) right = let on = leaves_if first c k 1 (ToDangle k) (omega arith) (is_did (replied (act (SkipCell (row_of k.kind) to) now (map.get m (at_row k at))).1)) in inr (omega (arith, on))
  by_at c (ToDangle k) right = inr (omega arith)
  by_at c (ToDropCell k) right = inr (omega arith)

  pub pays : (w : LogCollector) → HasCollectorInvariant newest w → Pays w
  pays w right = by_at w.cursor w.at right
