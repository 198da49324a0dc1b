-- A turn of a log collector over a table that tells its rows.
use Rattle.std.specs.Prelude.{not, ◌&&◌, IsTrue}
use Rattle.std.specs.FinMap as map
use Rattle.std.proofs.Common.{◌≡◌, ℕ, Bool, true, false, Ok, Err, refl, ap, sym, ◌∙◌, subst}
use Rattle.beldi_row.specs.{Key.RowKey, Table.Rows, declared.table.TableErr.TableErr, declared.table.TableErr.TheVariants.OutOfMemory, declared.table.TableErr.TheVariants.Failed, declared.table.TableErr.TheVariants.Full}
use Rattle.beldi_row.proofs.Tells.{tells_map}
use Rattle.beldi_query.specs.{Query.QueryReply, Query.CameOn, Query.RefusedBy, Query.lends, Query.may_tell_death, Query.rows_after, Query.query_reply, Walk.LeftAt}
use Rattle.beldi_query.proofs.Lent.{refused_stand, unheard_left}
use Rattle.beldi_prune.specs.{Prune.anew, Prune.at_asks, Prune.prune_asks, Prune.prune_next, Prune.prune_output, PruneLaws.TablesAreTurned, PruneLaws.TurnedOn}
use Rattle.beldi_prune.specs.declared.{collector.LogCollector.LogCollector, collector.GcOutput.GcOutput}
use Rattle.beldi_prune.specs.declared.collector.CollectorAt.{CollectorAt, TheVariants.Before, TheVariants.ToDropIntent, TheVariants.ToLook, TheVariants.ToDrop, TheVariants.ToProve, TheVariants.ToMark, TheVariants.ToLead, TheVariants.ToSkip, TheVariants.ToDangle, TheVariants.ToDropCell}

tells_no_death : (life : ℕ) (c : RowKey) (a : CollectorAt) → may_tell_death (at_asks life c a) ≡ false
tells_no_death life c Before = refl
tells_no_death life c (ToDropIntent k) = refl
tells_no_death life c (ToLook k) = refl
tells_no_death life c (ToDrop k) = refl
tells_no_death life c (ToProve k i is) = refl
tells_no_death life c (ToMark k) = refl
tells_no_death life c (ToLead k to at) = refl
tells_no_death life c (ToSkip k to at) = refl
tells_no_death life c (ToDangle k) = refl
tells_no_death life c (ToDropCell k) = refl

-- it adds no row
adds_none : (b : Bool) → IsTrue (b && false) → ⊥
adds_none true h = cc
adds_none false h = cc

never_full : (life now room live most : ℕ) (c : RowKey) (a : CollectorAt) (m n : Rows) → RefusedBy (at_asks life c a) now room m n (Full live most) → ⊥
never_full life now room live most c Before m n h = h
never_full life now room live most c (ToDropIntent k) m n h = adds_none (not (map.contains_key m k)) h.1.more
never_full life now room live most c (ToLook k) m n h = adds_none (not (map.contains_key m _)) h.1.more
never_full life now room live most c (ToDrop k) m n h = adds_none (not (map.contains_key m k)) h.1.more
never_full life now room live most c (ToProve k i is) m n h = adds_none (not (map.contains_key m _)) h.1.more
never_full life now room live most c (ToMark k) m n h = adds_none (not (map.contains_key m k)) h.1.more
never_full life now room live most c (ToLead k to at) m n h = adds_none (not (map.contains_key m _)) h.1.more
never_full life now room live most c (ToSkip k to at) m n h = adds_none (not (map.contains_key m _)) h.1.more
never_full life now room live most c (ToDangle k) m n h = adds_none (not (map.contains_key m k)) h.1.more
never_full life now room live most c (ToDropCell k) m n h = adds_none (not (map.contains_key m k)) h.1.more

module _ (newest life now : ℕ) (w x : LogCollector) where
  heard : (m n : Rows) (s : GcOutput) (t : QueryReply) → (x ≡ prune_next newest life now w t) × (s ≡ prune_output w t) → n ≡ rows_after (prune_asks life w) now m → t ≡ query_reply (prune_asks life w) now m → TurnedOn newest life now w x m n (Ok s)
  heard m n s t h after by = (h.0 ∙ ap (prune_next newest life now w) by, after, h.1 ∙ ap (prune_output w) by)

  unheard : (m n : Rows) (e : TableErr) (t : QueryReply) → (x ≡ anew w) × (e ≡ OutOfMemory) × (lends t ≡ true) → n ≡ rows_after (prune_asks life w) now m → t ≡ query_reply (prune_asks life w) now m → TurnedOn newest life now w x m n (Err e)
  unheard m n e t h after by = subst (λ v. TurnedOn newest life now w x m n (Err v)) (sym h.1)
      (h.0, subst (λ b. LeftAt b OutOfMemory (prune_asks life w) now m n) (tells_no_death life w.cursor w.at) (unheard_left (prune_asks life w) now OutOfMemory t m n refl h.2 after by))

  refused : (room : ℕ) (m n : Rows) (v : TableErr) → x ≡ anew w → RefusedBy (prune_asks life w) now room m n v → TurnedOn newest life now w x m n (Err v)
  refused room m n OutOfMemory is h = (is, refused_stand (prune_asks life w) now room OutOfMemory m n h)
  refused room m n Failed is h = (is, refused_stand (prune_asks life w) now room Failed m n h)
  refused room m n (Full live most) is h = never_full life now room live most w.cursor w.at m n h

pub tables_turned : TablesAreTurned
tables_turned newest life now w x old new (Ok s) (Ok t, h, c) = tells_map {P = λ m n. CameOn (prune_asks life w) now old.room (Ok t) m n} {Q = λ m n. TurnedOn newest life now w x m n (Ok s)} old.rows new.rows (λ m n p. heard newest life now w x m n s t h p.0 p.1) c.rows
tables_turned newest life now w x old new (Ok s) (Err v, h, c) = absurd h
tables_turned newest life now w x old new (Err e) (Ok t, h, c) = tells_map {P = λ m n. CameOn (prune_asks life w) now old.room (Ok t) m n} {Q = λ m n. TurnedOn newest life now w x m n (Err e)} old.rows new.rows (λ m n p. unheard newest life now w x m n e t h p.0 p.1) c.rows
tables_turned newest life now w x old new (Err e) (Err v, h, c) = tells_map {P = λ m n. CameOn (prune_asks life w) now old.room (Err v) m n} {Q = λ m n. TurnedOn newest life now w x m n (Err e)} old.rows new.rows
    (λ m n p. subst (λ z. TurnedOn newest life now w x m n (Err z)) (sym h.1) (refused newest life now w x old.room m n v h.0 p)) c.rows
