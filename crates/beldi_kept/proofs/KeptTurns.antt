-- What a turn of a log collector leaves of the invariant, by what it says.
use Rattle.std.specs.FinMap as map
use Rattle.std.proofs.Common.{◌≡◌, inl, inr, ℕ, ◌<◌, true, false, [], Option, Some, None, is_some, refl, ap, sym, ◌∙◌, subst}
use Rattle.beldi_value.specs.declared.id.IntentId.{IntentId}
use Rattle.beldi_tree.specs.declared.deployment.Deployment.{Deployment}
use Rattle.beldi_plain.specs.Item.{Item}
use Rattle.beldi_row.specs.{Act.act, Act.is_adrift, Key.RowKey, Key.at_row, Key.row_of, Table.Rows, Table.after_act, Table.set_row, declared.act.Act.TheVariants.DropIntent, declared.act.Act.TheVariants.DropRow, declared.key.Kind.Kind, declared.row.Cell.Cell, declared.row.Row.Row}
use Rattle.beldi_prune.specs.{Changed.HasDangled, Changed.HasMarked, Changed.HasSkipped, CellEntries.HasEntryOf}
use Rattle.beldi_prune.specs.PruneLaws.{HasRemoved, HasCollectorInvariant, MayGo, IsOutputOf, is_behind, is_left, rows_turned}
use Rattle.beldi_prune.specs.declared.collector.{LogCollector.LogCollector, GcOutput.GcOutput, GcOutput.TheVariants.Going, GcOutput.TheVariants.Marked, GcOutput.TheVariants.Skipped, GcOutput.TheVariants.Dangled, GcOutput.TheVariants.Removed, GcOutput.TheVariants.Round}
use Rattle.beldi_prune.specs.declared.collector.CollectorAt.{CollectorAt, TheVariants.Before, TheVariants.ToDropIntent, TheVariants.ToLook, TheVariants.ToDrop, TheVariants.ToProve, TheVariants.ToMark, TheVariants.ToLead, TheVariants.ToSkip, TheVariants.ToDangle, TheVariants.ToDropCell}
use Rattle.beldi_step.specs.{HostStep.Core, Prunes.output_pruned}
use Rattle.beldi_histories.specs.{Contents.head_key, Stands.key_in}
use Rattle.beldi_histories.proofs.Acts.{item_apart}
use Rattle.beldi_kept.specs.{KeptRows.HasKept, KeptRows.IsLater, Less.is_item, Safe.Found, Safe.IsGoneOrOld, Safe.IsMarkedTo, Safe.IsProved, Safe.IsUnled, Safe.changes, Safe.takes}
use Rattle.beldi_kept.proofs.{CellSets.Sets, CellSets.dangles, CellSets.goes, CellSets.long_adrift, CellSets.marks, CellSets.skips, CellSets.unled_then, Declared.declares, Declared.later_itself, Declared.later_then, Drops.intent_drops_keep, Drops.row_drops_keep, Less.off_item, Passing.LeadOn, Passing.behind_item, Passing.same_chains_lead_on}

-- where it did not say that a row was changed, none was
pub unless_changed : (life now : ℕ) (w : LogCollector) (m n : Rows) (s : GcOutput) → IsOutputOf life now w m n s → changes (output_pruned s) ≡ false → n ≡ m
unless_changed life now w m n Going is none = is
unless_changed life now w m n Marked is none = cc
unless_changed life now w m n Skipped is none = cc
unless_changed life now w m n Dangled is none = cc
unless_changed life now w m n Removed is none = cc
unless_changed life now w m n Round is none = is.0

-- it leaves these rows, and says this
pub record Leaves (d : Deployment) (c : Core) (m : Rows) (h : HasKept d c m) (n : Rows) (s : GcOutput) : Type 0 where
  pub has : HasKept d c n
  pub later : IsLater h has
  pub latest : takes (output_pruned s) ≡ false → has.latest ≡ h.latest
  pub on : LeadOn h.kept m n

module _ (d : Deployment) (c : Core) (m : Rows) (h : HasKept d c m) where
  pub as_it_was : (n : Rows) (s : GcOutput) → n ≡ m → Leaves d c m h n s
  as_it_was n s same = subst (λ z. Leaves d c m h z s) (sym same) (record { has = h; later = later_itself h; latest = λ none. refl; on = same_chains_lead_on h.kept m m (λ x. refl) })

  by_set : (n : Rows) (s : GcOutput) → Sets d c m n h → Leaves d c m h n s
  by_set n s z = record { has = z.has; later = z.later; latest = λ none. z.latest; on = z.on }

  -- ---- a row of an item was changed
  marked_at : (k : RowKey) → is_behind k.kind ≡ true → (u : Cell) (to : ℕ) → map.get m k ≡ Some (Row.Cell u) → u.next ≡ Some to → IsProved d.life c.now h.gone h.kept k.home [] (Some (Row.Cell u))
      → Leaves d c m h (set_row m k (Some (Row.Cell (record u { marked = true })))) Marked
  marked_at k behind = behind_item k (λ q. (u : Cell) (to : ℕ) → map.get m q ≡ Some (Row.Cell u) → u.next ≡ Some to → IsProved d.life c.now h.gone h.kept q.home [] (Some (Row.Cell u))
      → Leaves d c m h (set_row m q (Some (Row.Cell (record u { marked = true })))) Marked) behind at_item
    where
      old_all : (home : ℕ) (u : Cell) → IsProved d.life c.now h.gone h.kept home [] (Some (Row.Cell u)) → (i : IntentId) → HasEntryOf u.log i → IsGoneOrOld d.life c.now h.gone h.kept home i
      old_all home u proved i of = elim (proved.1 i of) [
        | inl old ↦ old
        | inr none ↦ absurd none
      ]

      at_item : (x : Item) (r : ℕ) → 0 < r → (u : Cell) (to : ℕ) → map.get m (at_row (head_key x) r) ≡ Some (Row.Cell u) → u.next ≡ Some to → IsProved d.life c.now h.gone h.kept x.func [] (Some (Row.Cell u))
          → Leaves d c m h (set_row m (at_row (head_key x) r) (Some (Row.Cell (record u { marked = true })))) Marked
      at_item x r later u to there next proved =
          let all = declares d c m h x.func u.log (old_all x.func u proved) in
          let z = marks d c m all.has x r u there later (ap is_some next) all.gone in
          record { has = z.has; later = later_then all.later z.later; latest = λ none. cc; on = record { each = λ y q kept. z.on.each y q (all.later.rows (at_row (head_key y) q) kept) } }

  pub marked : (cursor : RowKey) (a : CollectorAt) (n : Rows) → HasCollectorInvariant c.newest (record { cursor = cursor; at = a }) → Found d c m h a → HasMarked a m n → Leaves d c m h n Marked
  marked cursor a n right found r =
      let begun = subst (λ z. HasCollectorInvariant c.newest (record { cursor = cursor; at = z })) r.begun right in
      let proved = (subst (Found d c m h) r.begun found).1 in
      subst (λ z. Leaves d c m h z Marked) (sym r.done) (marked_at r.key begun.1 r.cell r.to r.there r.next (subst (IsProved d.life c.now h.gone h.kept r.key.home []) r.there proved))

  -- a row leads past that of the key, and the first one does not lead to that then
  skipped_at : (k : RowKey) → is_behind k.kind ≡ true → (to at : ℕ) (u : Cell) → map.get m (at_row k at) ≡ Some (Row.Cell u) → u.marked ≡ false → u.next ≡ Some (row_of k.kind) → at < row_of k.kind → row_of k.kind < to → IsMarkedTo to (map.get m k)
      → Leaves d c m h (set_row m (at_row k at) (Some (Row.Cell (record u { next = Some to })))) Skipped × IsUnled (set_row m (at_row k at) (Some (Row.Cell (record u { next = Some to })))) k
  skipped_at k behind = behind_item k (λ q. (to at : ℕ) (u : Cell) → map.get m (at_row q at) ≡ Some (Row.Cell u) → u.marked ≡ false → u.next ≡ Some (row_of q.kind) → at < row_of q.kind → row_of q.kind < to → IsMarkedTo to (map.get m q)
      → Leaves d c m h (set_row m (at_row q at) (Some (Row.Cell (record u { next = Some to })))) Skipped × IsUnled (set_row m (at_row q at) (Some (Row.Cell (record u { next = Some to })))) q) behind
      (λ x r later to at u there unmarked next rises further mark. (
        by_set _ Skipped (skips d c m h x at u there r to unmarked next rises further mark),
        unled_then d c m h x at u there r to unmarked next rises further mark,
      ))

  pub skipped : (cursor : RowKey) (a : CollectorAt) (n : Rows) → HasCollectorInvariant c.newest (record { cursor = cursor; at = a }) → Found d c m h a → (r : HasSkipped a m n) → Leaves d c m h n Skipped × IsUnled n r.key
  skipped cursor a n right found r =
      let begun = subst (λ z. HasCollectorInvariant c.newest (record { cursor = cursor; at = z })) r.begun right in
      let mark = (subst (Found d c m h) r.begun found).1 in
      subst (λ z. Leaves d c m h z Skipped × IsUnled z r.key) (sym r.done) (skipped_at r.key begun.1 r.to r.at r.cell r.there r.unmarked r.next begun.2 r.rises mark)

  dangled_at : (k : RowKey) → is_behind k.kind ≡ true → (u : Cell) → map.get m k ≡ Some (Row.Cell u) → u.marked ≡ true → IsUnled m k → Leaves d c m h (set_row m k (Some (Row.Cell (record u { dangled = Some c.now })))) Dangled
  dangled_at k behind = behind_item k (λ q. (u : Cell) → map.get m q ≡ Some (Row.Cell u) → u.marked ≡ true → IsUnled m q → Leaves d c m h (set_row m q (Some (Row.Cell (record u { dangled = Some c.now })))) Dangled) behind
      (λ x r later u there mark unled. by_set _ Dangled (dangles d c m h x r u there mark unled))

  pub dangled : (cursor : RowKey) (a : CollectorAt) (n : Rows) → HasCollectorInvariant c.newest (record { cursor = cursor; at = a }) → Found d c m h a → HasDangled c.now a m n → Leaves d c m h n Dangled
  dangled cursor a n right found r =
      let begun = subst (λ z. HasCollectorInvariant c.newest (record { cursor = cursor; at = z })) r.begun right in
      let unled = (subst (Found d c m h) r.begun found).2 in
      subst (λ z. Leaves d c m h z Dangled) (sym r.done) (dangled_at r.key begun.1 r.cell r.there r.marked unled)

  -- ---- a row went
  gone_at : (k : RowKey) → is_behind k.kind ≡ true → (s : Row) → map.get m k ≡ Some s → is_adrift d.life c.now s ≡ true → Leaves d c m h (set_row m k None) Removed
  gone_at k behind = behind_item k (λ q. (s : Row) → map.get m q ≡ Some s → is_adrift d.life c.now s ≡ true → Leaves d c m h (set_row m q None) Removed) behind
      (λ x r later s there adrift. let a = long_adrift d.life c.now s adrift in by_set _ Removed (goes d c m h x r a.cell (there ∙ ap Some a.is) a.since a.adrift a.old))

  -- .. that was no item's
  other_gone : (k : RowKey) (v : Option Row) → is_item k.kind ≡ false → (g : HasKept d c (set_row m k v)) × IsLater h g → Leaves d c m h (set_row m k v) Removed
  other_gone k v off keeps = record { has = keeps.0; later = keeps.1; latest = λ none. cc; on = same_chains_lead_on h.kept m (set_row m k v) (λ x. item_apart m k v x (off_item k off x)) }

  left_other : (kind : Kind) → is_left kind ≡ true → is_item kind ≡ false
  left_other (Kind.Data t s n) left = cc
  left_other (Kind.Intent i) left = refl
  left_other (Kind.ReadLog p) left = refl
  left_other (Kind.Invoke p) left = refl
  left_other (Kind.Shadow t u s n) left = refl
  left_other (Kind.Lockset i b t s) left = refl

  intent_gone : (k : RowKey) (kind : Kind) → k.kind ≡ kind → MayGo c.newest kind → Leaves d c m h (after_act (DropIntent d.life) c.now k m) Removed
  intent_gone k (Kind.Intent i) is spared =
      let same : key_in k.home i ≡ k = λ j. record { home = k.home; kind = sym is j } in
      other_gone k (act (DropIntent d.life) c.now (map.get m k)).0 (ap is_item is) (subst (λ q. (g : HasKept d c (after_act (DropIntent d.life) c.now q m)) × IsLater h g) same (intent_drops_keep d c m h k.home i spared))
  intent_gone k (Kind.ReadLog a) is spared = absurd spared
  intent_gone k (Kind.Invoke a) is spared = absurd spared
  intent_gone k (Kind.Data t q n) is spared = absurd spared
  intent_gone k (Kind.Shadow s t q n) is spared = absurd spared
  intent_gone k (Kind.Lockset i b t q) is spared = absurd spared

  module _ (cursor : RowKey) where
    abbrev at : CollectorAt → LogCollector
    at a = record { cursor = cursor; at = a }

    abbrev then_rows : CollectorAt → Rows
    then_rows a = rows_turned d.life c.now (at a) m

    went : (a : CollectorAt) → HasCollectorInvariant c.newest (at a) → Found d c m h a → HasRemoved d.life c.now (at a) m (then_rows a) → Leaves d c m h (then_rows a) Removed
    went Before right found r = absurd r.goes
    went (ToDropIntent k) right found r = intent_gone k k.kind refl right.1
    went (ToLook k) right found r = absurd r.goes
    went (ToDrop k) right found r = other_gone k (act DropRow c.now (map.get m k)).0 (left_other k.kind right.1) (row_drops_keep d c m h k found)
    went (ToProve k i is) right found r = absurd r.goes
    went (ToMark k) right found r = absurd r.goes
    went (ToLead k to q) right found r = absurd r.goes
    went (ToSkip k to q) right found r = absurd r.goes
    went (ToDangle k) right found r = absurd r.goes
    went (ToDropCell k) right found r = subst (λ z. Leaves d c m h z Removed) (sym r.gone) (gone_at r.key (subst (λ (q : RowKey). is_behind q.kind ≡ true) r.goes.0 right.1) r.row r.there r.goes.1)

    -- ---- whatever it says
    pub by_said : (a : CollectorAt) → HasCollectorInvariant c.newest (at a) → Found d c m h a → (s : GcOutput) → IsOutputOf d.life c.now (at a) m (then_rows a) s → Leaves d c m h (then_rows a) s
    by_said a right found Going said = as_it_was (then_rows a) Going said
    by_said a right found Marked said = marked cursor a (then_rows a) right found said
    by_said a right found Skipped said = (skipped cursor a (then_rows a) right found said).0
    by_said a right found Dangled said = dangled cursor a (then_rows a) right found said
    by_said a right found Removed said = went a right found said
    by_said a right found Round said = as_it_was (then_rows a) Round said.0
