-- What collectors found of rows stays so, whatever is done to rows.
use Rattle.std.specs.FinMap as map
use Rattle.std.specs.Prelude.{Result}
use Rattle.std.specs.declared.alloc.AllocError.{AllocError}
use Rattle.std.proofs.Common.{◌≡◌, inl, inr, ltb-true, ℕ, ◌<◌, Bool, true, false, List, [], ◌∷◌, Option, Some, None, is_some, refl, ap, sym, ◌∙◌, subst}
use Rattle.beldi_value.specs.declared.id.IntentId.{IntentId}
use Rattle.beldi_tree.specs.declared.deployment.Deployment.{Deployment}
use Rattle.beldi_plain.specs.Item.{Item}
use Rattle.beldi_row.specs.{Act.act, Key.RowKey, Key.at_row, Key.row_of, Table.Rows, declared.key.Kind.Kind, declared.row.Cell.Cell, declared.row.Row.Row}
use Rattle.beldi_query.specs.declared.query.Query.{Query}
use Rattle.beldi_intent.specs.Intent.{intent_key}
use Rattle.beldi_chain.specs.Chain.{chain}
use Rattle.beldi_splice.specs.Onward.{HasFollower, Onward, RowStays}
use Rattle.beldi_splice.proofs.Onward.{acts_lead_on, same_leads_on}
use Rattle.beldi_prune.specs.{CellEntries.HasEntryOf, PruneLaws.HasCollectorInvariant, PruneLaws.is_behind}
use Rattle.beldi_prune.specs.declared.collector.LogCollector.{LogCollector}
use Rattle.beldi_prune.specs.declared.collector.CollectorAt.{CollectorAt, TheVariants.Before, TheVariants.ToDropIntent, TheVariants.ToLook, TheVariants.ToDrop, TheVariants.ToProve, TheVariants.ToMark, TheVariants.ToLead, TheVariants.ToSkip, TheVariants.ToDangle, TheVariants.ToDropCell}
use Rattle.beldi_step.specs.HostStep.{Core, EventOn, Plan, asks, immediate, counted, plan, reads_all}
use Rattle.beldi_step.specs.declared.{event.Event.Event, event.EventReply.EventReply}
use Rattle.beldi_step.proofs.Spares.{plan_removes, plan_spares}
use Rattle.beldi_histories.specs.Contents.{head_key}
use Rattle.beldi_upkeep.specs.WorksFor.{finish_in}
use Rattle.beldi_upkeep.proofs.UpkeepKept.{PlanKeeps, event_keeps}
use Rattle.beldi_kept.specs.{KeptRows.HasKept, KeptRows.IsLater, Safe.Found, Safe.IsGoneOrOld, Safe.IsMarkedTo, Safe.IsProved, Safe.WasKept, Safe.chain_of}
use Rattle.beldi_kept.proofs.{Begins.old_stays, Gone.old_still, Staying.frozen_act}

-- ---- rows of items whose rows were kept, and that have a next or went: what is on the way to them is so still
pub record LeadOn (kept m n : Rows) : Type 0 where
  pub each : (x : Item) (r : ℕ) → is_some (map.get kept (at_row (head_key x) r)) ≡ true → HasFollower (map.get m (at_row (head_key x) r)) → Onward (chain m (head_key x)) (chain n (head_key x)) r

-- a key of a row of an item that is not its first
pub behind_item : (k : RowKey) (P : RowKey → Type 0) → is_behind k.kind ≡ true → ((x : Item) (r : ℕ) → 0 < r → P (at_row (head_key x) r)) → P k
behind_item k P behind item = by_kind k.kind refl behind
  where
    by_kind : (kind : Kind) → k.kind ≡ kind → is_behind kind ≡ true → P k
    by_kind (Kind.Data t s n) e behind = subst P (sym (ap (λ z. record { home = k.home; kind = z }) e)) (item (record { func = k.home; table = t; key = s }) n (ltb-true 0 n behind))
    by_kind (Kind.Intent i) e behind = cc
    by_kind (Kind.ReadLog a) e behind = cc
    by_kind (Kind.Invoke a) e behind = cc
    by_kind (Kind.Shadow s t q n) e behind = cc
    by_kind (Kind.Lockset i b t q) e behind = cc

pub lead_on_at : (kept m n : Rows) → LeadOn kept m n → (k : RowKey) → is_behind k.kind ≡ true → WasKept kept k → HasFollower (map.get m k) → Onward (chain_of m k) (chain_of n k) (row_of k.kind) × RowStays (map.get m k) (map.get n k)
lead_on_at kept m n on k behind = behind_item k (λ q. WasKept kept q → HasFollower (map.get m q) → Onward (chain_of m q) (chain_of n q) (row_of q.kind) × RowStays (map.get m q) (map.get n q)) behind
    (λ x r later there follows. let so = on.each x r there follows in (so, so.row))

-- where no chain changed
pub same_chains_lead_on : (kept m n : Rows) → ((x : Item) → chain n (head_key x) ≡ chain m (head_key x)) → LeadOn kept m n
same_chains_lead_on kept m n same = record { each = λ x r there follows. subst (λ z. Onward (chain m (head_key x)) z r) (sym (same x)) (same_leads_on (chain m (head_key x)) r follows) }

-- ---- after an event
-- a cell with a next stays as it is
abbrev StaysFrozen : Rows → RowKey → Option Row → Type 0
StaysFrozen m k r = (c : Cell) (z : ℕ) → map.get m k ≡ Some (Row.Cell c) → c.next ≡ Some z → r ≡ Some (Row.Cell c)

frozen_plan : (m : Rows) (z : Core) (p : Plan) → plan_removes p ≡ false → PlanKeeps (StaysFrozen m) z p
frozen_plan m z (immediate y w) keeps = tt
frozen_plan m z (asks (Query.Act k a)) keeps = λ r h c y is next. ap (λ o. (act a z.now o).0) (h c y is next) ∙ frozen_act a z.now c y keeps next
frozen_plan m z (asks (Query.After k)) keeps = tt
frozen_plan m z reads_all keeps = tt

pub event_leads_on : (d : Deployment) (room old new : ℕ) (e : Event) (c b : Core) (m n : Rows) (x : Result EventReply AllocError) (h : HasKept d c m) → EventOn d room old new e c m b n x
    → ((k : RowKey) → map.get m k ≡ None → is_some (map.get h.kept k) ≡ true → map.get n k ≡ None) → LeadOn h.kept m n
event_leads_on d room old new e c b m n x h s away = record {
  each = λ y r there follows. acts_lead_on h.gone (chain m (head_key y)) (chain h.kept (head_key y)) (chain n (head_key y)) (h.upkeep.invariant.rows.chains y) (h.less.cells y) (λ q u z is next. frozen (at_row (head_key y) q) u z is next)
      (λ q none kept. away (at_row (head_key y) q) none kept) r there follows;
}
  where
    frozen : (k : RowKey) → StaysFrozen m k (map.get n k)
    frozen = event_keeps (StaysFrozen m) d room old new e c b m n x (frozen_plan m (counted c) (plan d e c) (plan_spares d e c)) (λ k u z is next. is) s

-- ---- what was found of one row
pub follower_stays : (r s : Option Row) → HasFollower r → RowStays r s → HasFollower s
follower_stays None s follows stays = subst HasFollower (sym stays) tt
follower_stays (Some (Row.Cell c)) None follows stays = tt
follower_stays (Some (Row.Cell c)) (Some (Row.Cell d)) follows stays = stays.next
follower_stays (Some (Row.Cell c)) (Some s) follows stays = absurd stays
follower_stays (Some r) s follows stays = absurd follows

pub marked_follower : (to : ℕ) (r : Option Row) → IsMarkedTo to r → HasFollower r
marked_follower to None marked = tt
marked_follower to (Some (Row.Cell c)) marked = ap is_some marked.1
marked_follower to (Some r) marked = absurd marked

marked_stays : (to : ℕ) (r s : Option Row) → IsMarkedTo to r → RowStays r s → IsMarkedTo to s
marked_stays to None s marked stays = subst (IsMarkedTo to) (sym stays) tt
marked_stays to (Some (Row.Cell c)) None marked stays = tt
marked_stays to (Some (Row.Cell c)) (Some (Row.Cell d)) marked stays = let left = stays.marked marked.0 in (left.0, left.1 ∙ marked.1)
marked_stays to (Some (Row.Cell c)) (Some s) marked stays = absurd stays
marked_stays to (Some r) s marked stays = absurd marked

proved_follower : (life now : ℕ) (gone : IntentId → Bool) (kept : Rows) (home : ℕ) (is : List IntentId) (r : Option Row) → IsProved life now gone kept home is r → HasFollower r
proved_follower life now gone kept home is None proved = tt
proved_follower life now gone kept home is (Some (Row.Cell c)) proved = proved.0
proved_follower life now gone kept home is (Some r) proved = absurd proved

-- who is gone or old is so later
module _ {d : Deployment} {c b : Core} {m n : Rows} (h : HasKept d c m) (g : HasKept d b n) (later : IsLater h g) where
  pub gone_or_old_later : (home : ℕ) (i : IntentId) → IsGoneOrOld d.life c.now h.gone h.kept home i → IsGoneOrOld d.life b.now g.gone g.kept home i
  gone_or_old_later home i (inl off) = inl (later.gone i off)
  gone_or_old_later home i (inr old) = inr (old_still d.life c.now b.now (finish_in (map.get h.kept (intent_key i home))) (finish_in (map.get g.kept (intent_key i home))) later.moment (later.finishes (intent_key i home)) old)

  proved_stays : (home : ℕ) (is : List IntentId) (r s : Option Row) → IsProved d.life c.now h.gone h.kept home is r → RowStays r s → IsProved d.life b.now g.gone g.kept home is s
  proved_stays home is None s proved stays = subst (IsProved d.life b.now g.gone g.kept home is) (sym stays) tt
  proved_stays home is (Some (Row.Cell u)) None proved stays = tt
  proved_stays home is (Some (Row.Cell u)) (Some (Row.Cell v)) proved stays = (
    stays.next,
    λ i of. elim (proved.1 i (subst (λ z. HasEntryOf z i) stays.log of)) [
      | inl old ↦ inl (gone_or_old_later home i old)
      | inr one ↦ inr one
    ],
  )
  proved_stays home is (Some (Row.Cell u)) (Some s) proved stays = absurd stays
  proved_stays home is (Some r) s proved stays = absurd proved

-- ---- so what a collector found stays
module _ (d : Deployment) (c b : Core) (m n : Rows) (h : HasKept d c m) (g : HasKept d b n) (later : IsLater h g) (on : LeadOn h.kept m n) where
  proved_later : (k : RowKey) (is : List IntentId) → is_behind k.kind ≡ true → WasKept h.kept k × IsProved d.life c.now h.gone h.kept k.home is (map.get m k) → WasKept g.kept k × IsProved d.life b.now g.gone g.kept k.home is (map.get n k)
  proved_later k is behind f =
      let so = lead_on_at h.kept m n on k behind f.0 (proved_follower d.life c.now h.gone h.kept k.home is (map.get m k) f.1) in
      (later.rows k f.0, proved_stays h g later k.home is (map.get m k) (map.get n k) f.1 so.1)

  pub found_at : (cursor : RowKey) (newest : ℕ) (a : CollectorAt) → HasCollectorInvariant newest (record { cursor = cursor; at = a }) → Found d c m h a → Found d b n g a
  found_at cursor newest Before right f = tt
  found_at cursor newest (ToDropIntent k) right f = tt
  found_at cursor newest (ToLook k) right f = later.rows k f
  found_at cursor newest (ToDrop k) right f = old_stays d c b m n h g later k f
  found_at cursor newest (ToProve k i is) right f = proved_later k (i ∷ is) right.1 f
  found_at cursor newest (ToMark k) right f = proved_later k [] right.1 f
  found_at cursor newest (ToLead k to at) right f =
      let so = lead_on_at h.kept m n on k right.1 f.0 (marked_follower to (map.get m k) f.1) in
      (later.rows k f.0, marked_stays to (map.get m k) (map.get n k) f.1 so.1, so.0.ways at f.2)
  found_at cursor newest (ToSkip k to at) right f =
      let so = lead_on_at h.kept m n on k right.1 f.0 (marked_follower to (map.get m k) f.1) in
      (later.rows k f.0, marked_stays to (map.get m k) (map.get n k) f.1 so.1)
  found_at cursor newest (ToDangle k) right f =
      let so = lead_on_at h.kept m n on k right.1 f.0 f.1 in
      (later.rows k f.0, follower_stays (map.get m k) (map.get n k) f.1 so.1, λ led. f.2 (so.0.back led))
  found_at cursor newest (ToDropCell k) right f = tt

  pub found_later : (newest : ℕ) (w : LogCollector) → HasCollectorInvariant newest w → Found d c m h w.at → Found d b n g w.at
  found_later newest w right f = found_at w.cursor newest w.at right f
