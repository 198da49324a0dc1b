-- What a removal leaves.
use Rattle.std.specs.FinMap as map
use Rattle.std.specs.Prelude.{max}
use Rattle.std.specs.Ordering.{is_eq}
use Rattle.std.proofs.Common.{◌≡◌, ◌⊎◌, inl, inr, ℕ, ◌+◌, ◌<◌, ◌≤◌, Bool, true, false, ltb-true, cond, Option, Some, None, is_some, refl, ap, sym, ◌∙◌, subst, arith}
use Rattle.beldi_value.specs.{Id.id_cmp, Id.root_of, declared.id.IntentId.IntentId}
use Rattle.beldi_tree.specs.declared.deployment.Deployment.{Deployment}
use Rattle.beldi_row.specs.{Key.RowKey, Key.key_cmp, Key.key_ticket, Table.Rows, Table.set_row, declared.row.IntentRow.IntentRow, declared.row.Row.Row}
use Rattle.beldi_row.proofs.Gets.{got, key_same, key_self}
use Rattle.beldi_plain_laws.proofs.PlainOperations.{id_same}
use Rattle.beldi_intent.specs.Intent.{root_key}
use Rattle.beldi_step.specs.{HostStep.Core, declared.run.Run.Run}
use Rattle.beldi_histories.specs.Stands.{key_in}
use Rattle.beldi_histories.proofs.Acts.{item_apart}
use Rattle.beldi_upkeep.specs.{Callees.belongs_to, Callees.seat_of, Deadlines.IsNear, WorksFor.WorksFor, WorksFor.finish_in}
use Rattle.beldi_upkeep.proofs.NewWork.{work_bound}
use Rattle.beldi_kept.specs.{Less.and_gone, KeptRows.HasKept, KeptRows.IsLater, KeptRows.IsOld, KeptRows.IsOver, KeptRows.IsUnbound, KeptLaws.RemovalsKeep, KeptLaws.UnboundMayGo}
use Rattle.beldi_kept.proofs.{Gone.old_still, Gone.unbound_none, Less.goes, Less.gone_more, Less.not_item, Less.off_item, Staying.for_run, Staying.same_chains}

-- no deadline that is near a finish is in time once that is old
pub too_late : (life now deadline : ℕ) (f : Option ℕ) → IsNear life deadline f → IsOld life now f → now ≤ deadline → ⊥
too_late life now deadline None near old in_time = cc
too_late life now deadline (Some f) near old in_time = let was = ltb-true (f + life) now old in omega (arith, near, was, in_time)

module _ (d : Deployment) (c : Core) (m : Rows) (h : HasKept d c m) (k : RowKey) (i : IntentId) (of : belongs_to k.kind ≡ Some i) where
  abbrev n : Rows
  n = set_row m k None

  abbrev more : IntentId → Bool
  more = and_gone h.gone i

  abbrev pub latest : ℕ
  latest = max h.latest c.now

  -- what is absent stays so
  still_none : (q : RowKey) → map.get m q ≡ None → map.get n q ≡ None
  still_none q none = got m k q None ∙ by_test (is_eq (key_cmp q k))
    where
      by_test : (b : Bool) → cond b None (map.get m q) ≡ None
      by_test true = refl
      by_test false = none

  still_over : (j : IntentId) → IsOver d.life c.newest h.latest m h.kept j → IsOver d.life c.newest latest n h.kept j
  still_over j o = record { home = o.home; over = by_over o.over }
    where
      q : RowKey
      q = key_in o.home j

      by_over : IsOld d.life h.latest (finish_in (map.get h.kept q)) ⊎ IsUnbound c.newest j (map.get m q) (map.get h.kept q) → IsOld d.life latest (finish_in (map.get h.kept q)) ⊎ IsUnbound c.newest j (map.get n q) (map.get h.kept q)
      by_over (inl old) = inl (old_still d.life h.latest latest (finish_in (map.get h.kept q)) (finish_in (map.get h.kept q)) (omega arith) (λ f is. is) old)
      by_over (inr u) = let none = unbound_none c.newest j (map.get m q) (map.get h.kept q) u in inr (subst (λ s. IsUnbound c.newest j s (map.get h.kept q)) (none ∙ sym (still_none q none)) u)

  -- where this intent is over, and no run that may act works for it
  module _ (over : IsOver d.life c.newest latest n h.kept i) (spared : (s : ℕ) (r : Run) → map.get c.runs s ≡ Some r → c.now ≤ r.deadline → WorksFor r r.at i → ⊥) (apart : is_eq (key_cmp (root_key c.newest) k) ≡ false) where
    by_id : (j : IntentId) (P : Bool → Type 0) → (j ≡ i → P true) → P (h.gone j) → P (more j)
    by_id j P this other = by_test (is_eq (id_cmp j i)) refl
      where
        by_test : (b : Bool) → is_eq (id_cmp j i) ≡ b → P (cond b true (h.gone j))
        by_test true is = this (id_same j i is)
        by_test false is = other

    newest_there : (c.newest ≡ 0) ⊎ (is_some (map.get m (root_key c.newest)) ≡ true) → (c.newest ≡ 0) ⊎ (is_some (map.get n (root_key c.newest)) ≡ true)
    newest_there (inl e) = inl e
    newest_there (inr e) = inr (ap is_some (got m k (root_key c.newest) None ∙ ap (λ b. cond b None (map.get m (root_key c.newest))) apart) ∙ e)

    pub without : HasKept d c n
    without = record {
      kept = h.kept;
      upkeep = h.upkeep;
      wanted = h.wanted;
      gone = more;
      latest = latest;
      less = goes h.gone m h.kept h.less k i of;
      over = λ j. by_id j (λ b. b ≡ true → IsOver d.life c.newest latest n h.kept j) (λ is e. subst (IsOver d.life c.newest latest n h.kept) (sym is) over) (λ e. still_over j (h.over j e));
      spared = λ s r j live in_time works. by_id j (λ b. b ≡ false) (λ is. absurd (spared s r live in_time (subst (WorksFor r r.at) is works))) (h.spared s r j live in_time works);
      ahead = λ s r live in_time. for_run d.life m n r (same_chains d.life r.deadline m n (λ x. item_apart m k None x (off_item k (not_item k.kind (Some i) of refl) x))) r.at (h.ahead s r live in_time);
      newest = newest_there h.newest;
    }

    -- nothing else changes
    pub later : IsLater h without
    unfolding without
    later = record { moment = omega arith; ticket = omega arith; rows = λ q there. there; finishes = λ q f is. is; gone = gone_more h.gone m h.kept h.less i; latest = omega arith }

pub removals_keep : RemovalsKeep
removals_keep d c m h k w apart = (without d c m h k w.intent w.belongs (by_old w.old) (spared w.old) apart, later d c m h k w.intent w.belongs (by_old w.old) (spared w.old) apart)
  where
    seat : RowKey
    seat = seat_of k w.intent

    by_old : (h.gone w.intent ≡ true) ⊎ IsOld d.life c.now (finish_in (map.get h.kept (seat_of k w.intent))) → IsOver d.life c.newest (max h.latest c.now) (set_row m k None) h.kept w.intent
    by_old (inl off) = still_over d c m h k w.intent w.belongs w.intent (h.over w.intent off)
    by_old (inr old) = let f = finish_in (map.get h.kept (seat_of k w.intent)) in record { home = (seat_of k w.intent).home; over = inl (old_still d.life c.now (max h.latest c.now) f f (omega arith) (λ g is. is) old) }

    spared : (h.gone w.intent ≡ true) ⊎ IsOld d.life c.now (finish_in (map.get h.kept (seat_of k w.intent))) → (s : ℕ) (r : Run) → map.get c.runs s ≡ Some r → c.now ≤ r.deadline → WorksFor r r.at w.intent → ⊥
    spared (inl off) s r live in_time works = let clash = sym off ∙ h.spared s r w.intent live in_time works in cc
    spared (inr old) s r live in_time works = too_late d.life c.now r.deadline (finish_in (map.get h.kept (seat_of k w.intent))) (h.upkeep.near.near s r w.intent (seat_of k w.intent).home live works) old in_time

-- ---- a root without body
ticket_apart : (t u : ℕ) → t < u → (b : Bool) → is_eq (key_cmp (root_key u) (root_key t)) ≡ b → b ≡ false
ticket_apart t u below false e = refl
ticket_apart t u below true e = let same : u ≡ t = ap key_ticket (key_same (root_key u) (root_key t) e) in absurd (omega (arith, same, below))

now_none : (m : Rows) (k : RowKey) → map.get (set_row m k None) k ≡ None
now_none m k = got m k k None ∙ ap (λ b. cond b None (map.get m k)) (key_self k)

unbound : (newest t : ℕ) (w : IntentRow) (s r : Option Row) → s ≡ None → r ≡ Some (Row.Intent w) → w.body ≡ None → t < newest → IsUnbound newest (root_of t) s r
unbound newest t w None (Some (Row.Intent v)) none is bare below = (ap (λ (z : IntentRow). z.body) (intent_same v w is) ∙ bare, refl, below)
  where
    intent_same : (v w : IntentRow) → Some (Row.Intent v) ≡ Some (Row.Intent w) → v ≡ w
    intent_same v w is = cc
unbound newest t w None None none is bare below = cc
unbound newest t w None (Some r) none is bare below = cc
unbound newest t w (Some s) r none is bare below = cc

module _ (d : Deployment) (c : Core) (m : Rows) (h : HasKept d c m) (t : ℕ) (w : IntentRow) (kept : map.get h.kept (root_key t) ≡ Some (Row.Intent w)) (bare : w.body ≡ None) (below : t < c.newest) where
  over_root : IsOver d.life c.newest (max h.latest c.now) (set_row m (root_key t) None) h.kept (root_of t)
  over_root = record { home = 0; over = inr (unbound c.newest t w (map.get (set_row m (root_key t) None) (root_key t)) (map.get h.kept (root_key t)) (now_none m (root_key t)) kept bare below) }

  nobody : (s : ℕ) (r : Run) → map.get c.runs s ≡ Some r → c.now ≤ r.deadline → WorksFor r r.at (root_of t) → ⊥
  nobody s r live in_time works = let clash = sym (ap is_some bare) ∙ work_bound d c h.kept h.upkeep.invariant s r (root_of t) live (inl works) 0 w kept in cc

  root_goes : (g : HasKept d c (set_row m (root_key t) None)) × IsLater h g
  root_goes =
      let apart = ticket_apart t c.newest below (is_eq (key_cmp (root_key c.newest) (root_key t))) refl in
      (without d c m h (root_key t) (root_of t) refl over_root nobody apart, later d c m h (root_key t) (root_of t) refl over_root nobody apart)

pub unbound_may_go : UnboundMayGo
unbound_may_go d c m h t w there bare below = elim (h.less.rows (root_key t) refl) [
  | inl same ↦ root_goes d c m h t w (sym same ∙ there) bare below
  | inr off ↦ let clash = sym there ∙ off.0 in cc
]
