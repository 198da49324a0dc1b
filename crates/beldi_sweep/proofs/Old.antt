-- What is old stays old, whatever turn a collector takes, and as the moment rises.
use Rattle.std.specs.FinMap as map
use Rattle.std.specs.Prelude.{not, is_some, ◌&&◌, ◌||◌}
use Rattle.std.specs.Ordering.{is_eq}
use Rattle.std.proofs.lemmas.Bool.{ltb-true}
use Rattle.std.proofs.lemmas.Option.{none-some}
use Rattle.std.proofs.Common.{◌≡◌, ℕ, zero, suc, ◌+◌, ◌≤◌, Bool, true, false, cond, List, Option, None, Some, refl, ap, sym, ◌∙◌, subst, arith, lt-ltb}
use Rattle.beldi_value.specs.declared.id.IntentId.{IntentId}
use Rattle.beldi_row.specs.{Act.is_old_row, Act.is_past, Key.RowKey, Key.at_row, Key.key_cmp, Table.Rows, Table.set_row, declared.key.Kind.Kind, declared.row.Cell.Cell, declared.row.Row.Row}
use Rattle.beldi_row.proofs.Gets.{got, key_same}
use Rattle.beldi_links.proofs.Ways.{one_cell}
use Rattle.beldi_intent.specs.Intent.{intent_key}
use Rattle.beldi_prune.specs.{CellEntries.HasEntryOf, PruneLaws.IsOldAt, PruneLaws.IsOutputOf, PruneLaws.rows_turned, PruneLaws.told, Prune.is_newest, Prune.prune_output, Seat.seat_of}
use Rattle.beldi_prune.specs.declared.collector.{LogCollector.LogCollector, GcOutput.GcOutput, GcOutput.TheVariants.Going, GcOutput.TheVariants.Marked, GcOutput.TheVariants.Skipped, GcOutput.TheVariants.Dangled, GcOutput.TheVariants.Removed, GcOutput.TheVariants.Round}
use Rattle.beldi_prune.proofs.PruneOutput.{say_what_they_did}
use Rattle.beldi_sweep.specs.{SweepLaws.OldIsOldLater, SweepLaws.OldStaysOld, SweptRows.AllIsOld, SweptRows.IsIdle, SweptRows.IsIntentIdle, Sweep.GoesTo, Sweep.Sweep, Sweep.after_turn}

-- ---- what a turn leaves of a row: it goes, stays, or is a cell with its entries
pub data RowLeft (o p : Option Row) : Type 0 where
  Gone : p ≡ None → RowLeft o p
  Same : p ≡ o → RowLeft o p
  Still : (c d : Cell) → o ≡ Some (Row.Cell c) → p ≡ Some (Row.Cell d) → d.log ≡ c.log → RowLeft o p

module _ (m : Rows) (k q : RowKey) where
  cell_set : (c d : Cell) → map.get m k ≡ Some (Row.Cell c) → d.log ≡ c.log → (b : Bool) → is_eq (key_cmp q k) ≡ b → (v : Option Row) → v ≡ cond b (Some (Row.Cell d)) (map.get m q) → RowLeft (map.get m q) v
  cell_set c d there log true same v is = Still c d (ap (map.get m) (key_same q k same) ∙ there) is log
  cell_set c d there log false other v is = Same is

  gone_set : (b : Bool) (v : Option Row) → v ≡ cond b None (map.get m q) → RowLeft (map.get m q) v
  gone_set true v is = Gone is
  gone_set false v is = Same is

  cell_is : (c d : Cell) → map.get m k ≡ Some (Row.Cell c) → d.log ≡ c.log → (n : Rows) → n ≡ set_row m k (Some (Row.Cell d)) → RowLeft (map.get m q) (map.get n q)
  cell_is c d there log n is = cell_set c d there log (is_eq (key_cmp q k)) refl (map.get n q) (ap (λ x. map.get x q) is ∙ got m k q (Some (Row.Cell d)))

  pub gone_is : (n : Rows) → n ≡ set_row m k None → RowLeft (map.get m q) (map.get n q)
  gone_is n is = gone_set (is_eq (key_cmp q k)) (map.get n q) (ap (λ x. map.get x q) is ∙ got m k q None)

-- whatever it said
by_said : (life now : ℕ) (w : LogCollector) (m n : Rows) (q : RowKey) (s : GcOutput) → IsOutputOf life now w m n s → RowLeft (map.get m q) (map.get n q)
by_said life now w m n q Going h = Same (ap (λ x. map.get x q) h)
by_said life now w m n q Marked h = cell_is m h.key q h.cell (record h.cell { marked = true }) h.there refl n h.done
by_said life now w m n q Skipped h = cell_is m (at_row h.key h.at) q h.cell (record h.cell { next = Some h.to }) h.there refl n h.done
by_said life now w m n q Dangled h = cell_is m h.key q h.cell (record h.cell { dangled = Some now }) h.there refl n h.done
by_said life now w m n q Removed h = gone_is m h.key q n h.gone
by_said life now w m n q Round h = Same (ap (λ x. map.get x q) h.0)

-- ---- of such rows
pub was_there : (o p : Option Row) → RowLeft o p → is_some p ≡ true → is_some o ≡ true
was_there o p (Gone none) there = let both : false ≡ true = sym (ap is_some none) ∙ there in cc
was_there o p (Same same) there = sym (ap is_some same) ∙ there
was_there o p (Still c d was is log) there = ap is_some was

old_still : (life now : ℕ) (o p : Option Row) → RowLeft o p → IsOldAt life now o → IsOldAt life now p
old_still life now o p (Gone none) old = subst (IsOldAt life now) (sym none) tt
old_still life now o p (Same same) old = subst (IsOldAt life now) (sym same) old
old_still life now o p (Still c d was is log) old = absurd (subst (IsOldAt life now) was old)

module _ (newest life now : ℕ) (m n : Rows) (kept : (q : RowKey) → RowLeft (map.get m q) (map.get n q)) (old : AllIsOld newest life now m) where
  intent : (k : RowKey) (i : IntentId) (r : Row) → k.kind ≡ Kind.Intent i → is_newest newest i ≡ false → map.get n k ≡ Some r → RowLeft (map.get m k) (map.get n k) → is_old_row life now r ≡ true
  intent k i r kind other there (Gone none) = absurd (none-some r (sym none ∙ there))
  intent k i r kind other there (Same same) = old.intents k i r kind other (sym same ∙ there)
  intent k i r kind other there (Still c d was is log) = let never : false ≡ true = old.intents k i (Row.Cell c) kind other was in cc

  entry : (k : RowKey) (t x : ℕ) (q : List ℕ) (c : Cell) (i : IntentId) → k.kind ≡ Kind.Data t q x → map.get n k ≡ Some (Row.Cell c) → HasEntryOf c.log i → RowLeft (map.get m k) (map.get n k)
      → IsOldAt life now (map.get m (intent_key i k.home))
  entry k t x q c i kind there has (Gone none) = absurd (none-some (Row.Cell c) (sym none ∙ there))
  entry k t x q c i kind there has (Same same) = old.entries k t x q c i kind (sym same ∙ there) has
  entry k t x q c i kind there has (Still a d was is log) =
      old.entries k t x q a i kind was (subst (λ es. HasEntryOf es i) log (subst (λ (z : Cell). HasEntryOf z.log i) (one_cell c d (sym there ∙ is)) has))

  pub kept_old : AllIsOld newest life now n
  kept_old = record {
    intents = λ k i r kind other there. intent k i r kind other there (kept k);
    left = λ k i there left belongs. old_still life now (map.get m (seat_of k i)) (map.get n (seat_of k i)) (kept (seat_of k i)) (old.left k i (was_there (map.get m k) (map.get n k) (kept k) there) left belongs);
    entries = λ k t x q c i kind there has. old_still life now (map.get m (intent_key i k.home)) (map.get n (intent_key i k.home)) (kept (intent_key i k.home)) (entry k t x q c i kind there has (kept k));
  }

pub row_left : (life now : ℕ) (w : LogCollector) (m : Rows) (q : RowKey) → RowLeft (map.get m q) (map.get (rows_turned life now w m) q)
row_left life now w m q = by_said life now w m (rows_turned life now w m) q (prune_output w (told life now w m)) (say_what_they_did life now w m)

pub old_stays : OldStaysOld
old_stays newest life now w m old = kept_old newest life now m (rows_turned life now w m) (row_left life now w m) old

-- .. and what is idle stays idle
no_cell : (b : Bool) (life now : ℕ) (c : Cell) → IsIntentIdle b life now (Row.Cell c) → ⊥
no_cell true life now c idle = idle
no_cell false life now c idle = idle

intent_idle : (b : Bool) (life now : ℕ) (o p : Option Row) (r : Row) → RowLeft o p → p ≡ Some r → ((s : Row) → o ≡ Some s → IsIntentIdle b life now s) → IsIntentIdle b life now r
intent_idle b life now o p r (Gone none) is idle = absurd (none-some r (sym none ∙ is))
intent_idle b life now o p r (Same same) is idle = idle r (sym same ∙ is)
intent_idle b life now o p r (Still c d was now_is log) is idle = absurd (no_cell b life now c (idle (Row.Cell c) was))

pub idle_stays : (newest life now : ℕ) (w : LogCollector) (m : Rows) → IsIdle newest life now m → IsIdle newest life now (rows_turned life now w m)
idle_stays newest life now w m idle k i r kind there = intent_idle (is_newest newest i) life now (map.get m k) (map.get (rows_turned life now w m) k) r (row_left life now w m k) there (λ s was. idle k i s kind was)

pub idle_goes : (newest life now n : ℕ) (s t : Sweep) → GoesTo newest life now n s t → IsIdle newest life now s.rows → IsIdle newest life now t.rows
idle_goes newest life now zero s t path idle = subst (λ (x : Sweep). IsIdle newest life now x.rows) (sym path) idle
idle_goes newest life now (suc n) s t path idle = idle_goes newest life now n (after_turn newest life now s) t path.1 (idle_stays newest life now s.collector s.rows idle)

pub old_goes : (newest life now n : ℕ) (s t : Sweep) → GoesTo newest life now n s t → AllIsOld newest life now s.rows → AllIsOld newest life now t.rows
old_goes newest life now zero s t path old = subst (λ (x : Sweep). AllIsOld newest life now x.rows) (sym path) old
old_goes newest life now (suc n) s t path old = old_goes newest life now n (after_turn newest life now s) t path.1 (old_stays newest life now s.collector s.rows old)

-- ---- later on
past_later : (life now later : ℕ) → now ≤ later → (o : Option ℕ) → is_past life now o ≡ true → is_past life later o ≡ true
past_later life now later up None h = cc
past_later life now later up (Some t) h = let less = ltb-true (t + life) now h in lt-ltb (t + life) later (omega (arith, less, up))

either_later : (a x y u v : Bool) → (x ≡ true → u ≡ true) → (y ≡ true → v ≡ true) → ((a && x) || y) ≡ true → ((a && u) || v) ≡ true
either_later a x y u v first second h = grind arith

row_later : (life now later : ℕ) → now ≤ later → (r : Row) → is_old_row life now r ≡ true → is_old_row life later r ≡ true
row_later life now later up (Row.Intent i) h =
    either_later (not (is_some i.body)) (is_past life now (Some i.issued)) (is_past life now i.finish) (is_past life later (Some i.issued)) (is_past life later i.finish) (past_later life now later up (Some i.issued)) (past_later life now later up i.finish) h
row_later life now later up r h = cc

at_later : (life now later : ℕ) → now ≤ later → (o : Option Row) → IsOldAt life now o → IsOldAt life later o
at_later life now later up None h = tt
at_later life now later up (Some (Row.Intent i)) h = past_later life now later up i.finish h
at_later life now later up (Some r) h = absurd h

pub old_later : OldIsOldLater
old_later newest life now later m up old = record {
  intents = λ k i r kind other there. row_later life now later up r (old.intents k i r kind other there);
  left = λ k i there left belongs. at_later life now later up (map.get m (seat_of k i)) (old.left k i there left belongs);
  entries = λ k t n q c i kind there has. at_later life now later up (map.get m (intent_key i k.home)) (old.entries k t n q c i kind there has);
}

idle_of : (b : Bool) (life now later : ℕ) → now ≤ later → (r : Row) → IsIntentIdle b life now r → IsIntentIdle b life later r
idle_of true life now later up (Row.Intent i) idle = λ bound. past_later life now later up i.finish (idle bound)
idle_of false life now later up (Row.Intent i) idle = (λ bound. past_later life now later up i.finish (idle.0 bound), λ bare. past_later life now later up (Some i.issued) (idle.1 bare))
idle_of true life now later up (Row.ReadLog v) idle = idle
idle_of false life now later up (Row.ReadLog v) idle = idle
idle_of true life now later up (Row.Invoke i) idle = idle
idle_of false life now later up (Row.Invoke i) idle = idle
idle_of true life now later up (Row.Cell c) idle = idle
idle_of false life now later up (Row.Cell c) idle = idle
idle_of true life now later up Row.Lockset idle = idle
idle_of false life now later up Row.Lockset idle = idle

pub idle_later : (newest life now later : ℕ) (m : Rows) → now ≤ later → IsIdle newest life now m → IsIdle newest life later m
idle_later newest life now later m up idle k i r kind there = idle_of (is_newest newest i) life now later up r (idle k i r kind there)
