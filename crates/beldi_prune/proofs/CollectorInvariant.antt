-- Where the turns of a log collector lead it.
use Rattle.std.specs.Prelude.{nat_lt, not, is_some, ◌==◌, ◌&&◌, List, [], ◌∷◌}
use Rattle.std.specs.FinMap as map
use Rattle.std.specs.declared.cmp.Ordering.TheVariants.{Less}
use Rattle.std.proofs.lemmas.Bool.{ltb-true}
use Rattle.std.proofs.Common.{◌≡◌, ℕ, ◌<◌, ◌≤◌, Bool, true, false, if◌then◌else◌, Option, None, Some, refl, ap, sym, ◌∙◌, subst, arith}
use Rattle.beldi_value.specs.{Id.has_no_hops, declared.id.IntentId.IntentId}
use Rattle.beldi_row.specs.declared.act.Act.TheVariants.{Look, MarkCell, SkipCell}
use Rattle.beldi_row.specs.{Key.RowKey, Key.key_cmp, Key.at_row, Key.row_of, Act.act, Act.is_old_row, Act.is_past, declared.row.Cell.Cell, Table.Rows, Table.next_row, Table.IsNext, declared.key.Kind.Kind, declared.row.Row.Row}
use Rattle.beldi_row.proofs.Least.{next_row_least}
use Rattle.beldi_query.specs.Query.{replied}
use Rattle.beldi_intent.specs.Intent.{intent_key}
use Rattle.beldi_prune.specs.{CellEntries.intents_of, Seat.seat, Prune.begins, Prune.is_newest, Prune.is_recyclable, Prune.led_next, Prune.marked_next, Prune.row_next, Prune.stand, Prune.stand_if, Prune.to_prove, Prune.todo_of}
use Rattle.beldi_prune.specs.Unlink.{adrift_todo, cell_todo, is_did, item_todo, lead_to, linked_todo, next_todo, step_to, told_marked, told_next}
use Rattle.beldi_prune.specs.PruneLaws.{CollectorsKeepTheInvariant, IsBegun, HasCollectorInvariant, MayGo, is_behind, is_left, turned}
use Rattle.beldi_prune.specs.declared.{found.Todo.TheVariants.Pass, found.Todo.TheVariants.DropIt}
use Rattle.beldi_prune.specs.declared.collector.CollectorAt.{CollectorAt, TheVariants.Before, TheVariants.ToDropIntent, TheVariants.ToLook, TheVariants.ToDrop, TheVariants.ToProve, TheVariants.ToMark, TheVariants.ToLead, TheVariants.ToSkip, TheVariants.ToDangle, TheVariants.ToDropCell}

-- ---- a row that is begun
below_newest : (root below old : Bool) → (not (root && not below) && old) ≡ true → root ≡ true → below ≡ true
below_newest true true old h is = refl
below_newest true false old h is = cc
below_newest false below old h is = cc

may_go : (newest : ℕ) (i : IntentId) (old : Bool) → (not (is_newest newest i) && old) ≡ true → MayGo newest (Kind.Intent i)
may_go newest i old h = λ root. ltb-true i.ticket newest (below_newest (has_no_hops i.hops) (nat_lt i.ticket newest) old h root)

-- a row that is not the first of its item has one below it
above_none : (kind : Kind) → is_behind kind ≡ true → 0 < row_of kind
above_none (Kind.Intent i) h = cc
above_none (Kind.ReadLog a) h = cc
above_none (Kind.Invoke a) h = cc
above_none (Kind.Data t k n) h = ltb-true 0 n h
above_none (Kind.Shadow s t k n) h = cc
above_none (Kind.Lockset i b t k) h = cc

module _ (newest life now : ℕ) (c k : RowKey) (r : Row) (later : key_cmp c k ≡ Less) where
  begins_intent : (i : IntentId) → k.kind ≡ Kind.Intent i → (b : Bool) → (not (is_newest newest i) && is_old_row life now r) ≡ b → HasCollectorInvariant newest (begins c k (if b then DropIt else Pass))
  begins_intent i at true h = (later, subst (MayGo newest) (sym at) (may_go newest i (is_old_row life now r) h))
  begins_intent i at false h = tt

  proves_invariant : is_behind k.kind ≡ true → (is : List IntentId) → HasCollectorInvariant newest (stand c (to_prove k is))
  proves_invariant behind [] = (later, behind)
  proves_invariant behind (i ∷ is) = (later, behind)

  adrift_invariant : is_behind k.kind ≡ true → (b : Bool) → HasCollectorInvariant newest (begins c k (adrift_todo b))
  adrift_invariant behind true = (later, behind)
  adrift_invariant behind false = tt

  linked_invariant : is_behind k.kind ≡ true → (to : ℕ) (x : Cell) (b : Bool) → HasCollectorInvariant newest (begins c k (linked_todo to x b))
  linked_invariant behind to x true = (later, behind, above_none k.kind behind)
  linked_invariant behind to x false = proves_invariant behind (intents_of x.log)

  next_invariant : is_behind k.kind ≡ true → (to : ℕ) (x : Cell) (b : Bool) → HasCollectorInvariant newest (begins c k (next_todo to life now x b))
  next_invariant behind to x true = adrift_invariant behind (is_past life now x.dangled)
  next_invariant behind to x false = linked_invariant behind to x x.marked

  cell_invariant : is_behind k.kind ≡ true → (x : Cell) (o : Option ℕ) → HasCollectorInvariant newest (begins c k (cell_todo life now x o))
  cell_invariant behind x None = tt
  cell_invariant behind x (Some to) = next_invariant behind to x (is_some x.dangled)

  item_invariant : is_behind k.kind ≡ true → (y : Row) → HasCollectorInvariant newest (begins c k (item_todo life now y))
  item_invariant behind (Row.Cell x) = cell_invariant behind x x.next
  item_invariant behind y = tt

  row_invariant : (t n : ℕ) (q : List ℕ) → k.kind ≡ Kind.Data t q n → (b : Bool) → nat_lt 0 n ≡ b → HasCollectorInvariant newest (begins c k (if b then item_todo life now r else Pass))
  row_invariant t n q at true up = item_invariant (ap is_behind at ∙ up) r
  row_invariant t n q at false up = tt

  begins_invariant : (kind : Kind) → k.kind ≡ kind → HasCollectorInvariant newest (begins c k (todo_of newest life now kind r))
  begins_invariant (Kind.Intent i) at = begins_intent i at (not (is_newest newest i) && is_old_row life now r) refl
  begins_invariant (Kind.ReadLog a) at = (later, ap is_left at)
  begins_invariant (Kind.Invoke a) at = (later, ap is_left at)
  begins_invariant (Kind.Data t q n) at = row_invariant t n q at (nat_lt 0 n) refl
  begins_invariant (Kind.Shadow s t q n) at = (later, ap is_left at)
  begins_invariant (Kind.Lockset i b t q) at = (later, ap is_left at)

found_invariant : (newest life now : ℕ) (c : RowKey) (m : Rows) (o : Option (RowKey × Row)) → IsNext m c o → HasCollectorInvariant newest (row_next newest life now c o)
found_invariant newest life now c m None h = tt
found_invariant newest life now c m (Some e) h = begins_invariant newest life now c e.0 e.1 h.0 e.0.kind refl

if_invariant : (newest : ℕ) (c k : RowKey) (a : CollectorAt) → IsBegun newest c a → (b : Bool) → HasCollectorInvariant newest (stand_if c k a b)
if_invariant newest c k a h true = h
if_invariant newest c k a h false = tt

-- .. on the way to a row of an item
module _ (newest : ℕ) (c k : RowKey) (later : key_cmp c k ≡ Less) (behind : is_behind k.kind ≡ true) where
  proved_invariant : (is : List IntentId) → IsBegun newest c (to_prove k is)
  proved_invariant [] = (later, behind)
  proved_invariant (i ∷ is) = (later, behind)

  marked_invariant : (o : Option ℕ) → HasCollectorInvariant newest (marked_next c k o)
  marked_invariant None = tt
  marked_invariant (Some to) = (later, behind, above_none k.kind behind)

  module _ (to at : ℕ) (below : at < row_of k.kind) where
    step_invariant : (next : ℕ) (same less : Bool) → nat_lt next (row_of k.kind) ≡ less → IsBegun newest c (step_to k to at next same less)
    step_invariant next true less h = (later, behind, below)
    step_invariant next false true h = (later, behind, ltb-true next (row_of k.kind) h)
    step_invariant next false false h = (later, behind)

    lead_invariant : (o : Option ℕ) → IsBegun newest c (lead_to k to at o)
    lead_invariant None = (later, behind)
    lead_invariant (Some next) = step_invariant next (next == row_of k.kind) (nat_lt next (row_of k.kind)) refl

    led_invariant : (o : Option (Option ℕ)) → HasCollectorInvariant newest (led_next c k to at o)
    led_invariant None = tt
    led_invariant (Some o) = lead_invariant o

by_at : (newest life now : ℕ) (m : Rows) (c : RowKey) (a : CollectorAt) → IsBegun newest c a → HasCollectorInvariant newest (turned newest life now (record { cursor = c; at = a }) m)
by_at newest life now m c Before h = found_invariant newest life now c m (next_row m c) (next_row_least m c)
by_at newest life now m c (ToDropIntent k) h = tt
by_at newest life now m c (ToLook k) h = if_invariant newest c k (ToDrop k) h (is_recyclable life now (replied (act Look now (map.get m (seat k))).1))
by_at newest life now m c (ToDrop k) h = tt
by_at newest life now m c (ToProve k i is) h = if_invariant newest c k (to_prove k is) (proved_invariant newest c k h.0 h.1 is) (is_recyclable life now (replied (act Look now (map.get m (intent_key i k.home))).1))
by_at newest life now m c (ToMark k) h = marked_invariant newest c k h.0 h.1 (told_marked (replied (act MarkCell now (map.get m k)).1))
by_at newest life now m c (ToLead k to at) h = led_invariant newest c k h.0 h.1 to at h.2 (told_next (replied (act Look now (map.get m (at_row k at))).1))
by_at newest life now m c (ToSkip k to at) h = if_invariant newest c k (ToDangle k) (h.0, h.1) (is_did (replied (act (SkipCell (row_of k.kind) to) now (map.get m (at_row k at))).1))
by_at newest life now m c (ToDangle k) h = tt
by_at newest life now m c (ToDropCell k) h = tt

-- the newest ticket rises
may_go_on : (was newest : ℕ) (kind : Kind) → was ≤ newest → MayGo was kind → MayGo newest kind
may_go_on was newest (Kind.Intent i) rises h = λ root. let below : i.ticket < was = h root in omega (arith, below, rises)
may_go_on was newest (Kind.ReadLog a) rises h = absurd h
may_go_on was newest (Kind.Invoke a) rises h = absurd h
may_go_on was newest (Kind.Data t k n) rises h = absurd h
may_go_on was newest (Kind.Shadow s t k n) rises h = absurd h
may_go_on was newest (Kind.Lockset i b t k) rises h = absurd h

begun_on : (was newest : ℕ) (c : RowKey) (a : CollectorAt) → was ≤ newest → IsBegun was c a → IsBegun newest c a
begun_on was newest c Before rises h = h
begun_on was newest c (ToDropIntent k) rises h = (h.0, may_go_on was newest k.kind rises h.1)
begun_on was newest c (ToLook k) rises h = h
begun_on was newest c (ToDrop k) rises h = h
begun_on was newest c (ToProve k i is) rises h = h
begun_on was newest c (ToMark k) rises h = h
begun_on was newest c (ToLead k to at) rises h = h
begun_on was newest c (ToSkip k to at) rises h = h
begun_on was newest c (ToDangle k) rises h = h
begun_on was newest c (ToDropCell k) rises h = h

pub stay_invariant : CollectorsKeepTheInvariant
stay_invariant = (λ newest k. tt, λ was newest w rises h. begun_on was newest w.cursor w.at rises h, λ newest life now w m h. by_at newest life now m w.cursor w.at h)
