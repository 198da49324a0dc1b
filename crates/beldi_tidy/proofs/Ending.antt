-- Once all intents are idle one row of an item has no next: so it is of the rows that were kept.
use Rattle.std.specs.FinMap as map
use Rattle.std.proofs.Common.{◌≡◌, ◌⊎◌, inl, inr, ℕ, ◌<◌, Bool, true, Option, Some, None, is_some, refl, ap, sym, ◌∙◌, subst, arith}
use Rattle.beldi_value.specs.declared.id.IntentId.{IntentId}
use Rattle.beldi_tree.specs.declared.deployment.Deployment.{Deployment}
use Rattle.beldi_plain.specs.Item.{Item}
use Rattle.beldi_row.specs.{Table.Rows, Act.is_past, Key.at_row, declared.row.Cell.Cell, declared.row.IntentRow.IntentRow, declared.row.Row.Row}
use Rattle.beldi_chain.specs.Chain.{Chain, chain}
use Rattle.beldi_splice.specs.Splice.{LeadsPast, LessRow}
use Rattle.beldi_prune.specs.Prune.{is_newest}
use Rattle.beldi_sweep.specs.SweptRows.{AreTidy, IsIntentIdle, IsLastOrAdrift}
use Rattle.beldi_step.specs.HostStep.{Core}
use Rattle.beldi_histories.specs.{Contents.head_key, Stands.key_in}
use Rattle.beldi_invariant.specs.FoundInside.{has_finish}
use Rattle.beldi_upkeep.specs.WorksFor.{finish_in}
use Rattle.beldi_wanted.{specs.Wanted.AllFinished, proofs.Finished.end_once}
use Rattle.beldi_kept.specs.KeptRows.{HasKept, IsOld, IsUnbound}
use Rattle.beldi_kept.proofs.{Gone.done_there, Gone.old_finished, Gone.one_row, Gone.unbound_bare, Less.IsBare}
use Rattle.beldi_tidy.specs.Tidy.{EndOnce, HaveOneBehind, IdleEndOnce}
use Rattle.beldi_tidy.proofs.Old.{bound_past}

module _ (d : Deployment) (c : Core) (m : Rows) (h : HasKept d c m) (all : AllFinished m) where
  -- ---- a kept row
  module _ (home : ℕ) (id : IntentId) (i : IntentRow) (at : map.get h.kept (key_in home id) ≡ Some (Row.Intent i)) (bound : is_some i.body ≡ true) where
    -- of who is gone
    over_gone : (room : ℕ) → IsOld d.life h.latest (finish_in (map.get h.kept (key_in room id))) ⊎ IsUnbound c.newest id (map.get m (key_in room id)) (map.get h.kept (key_in room id)) → is_some i.finish ≡ true
    over_gone room (inl old) =
        let over = old_finished d.life h.latest (map.get h.kept (key_in room id)) old in
        let same = one_row d c h.kept h.upkeep.invariant id room home (done_there (map.get h.kept (key_in room id)) (inl over)) (ap is_some at) in
        sym (ap has_finish (ap (map.get h.kept) same ∙ at)) ∙ over
    over_gone room (inr u) =
        let bare = unbound_bare c.newest id (map.get m (key_in room id)) (map.get h.kept (key_in room id)) u in
        let same = one_row d c h.kept h.upkeep.invariant id room home (done_there (map.get h.kept (key_in room id)) (inr bare)) (ap is_some at) in
        let none : i.body ≡ None = subst IsBare (ap (map.get h.kept) same ∙ at) bare in
        let clash = sym (ap is_some none) ∙ bound in cc

    kept_over : is_some i.finish ≡ true
    kept_over = elim (h.less.rows (key_in home id) refl) [
      | inl same ↦ all home id i (same ∙ at) bound
      | inr off ↦ over_gone (h.over id off.1).home (h.over id off.1).over
    ]

  -- ---- a row of an item that none follows was kept so
  module _ (x : Item) where
    abbrev f : Chain
    f = chain h.kept (head_key x)

    record EndsAt (r : ℕ) : Type 0 where
      cell : Cell
      there : f r ≡ Some (Row.Cell cell)
      ends : cell.next ≡ None

    by_next : (r : ℕ) (k : Cell) → f r ≡ Some (Row.Cell k) → (p q : Option ℕ) → p ≡ None → k.next ≡ q → LeadsPast h.gone f r p q → EndsAt r
    by_next r k is None None free to past = record { cell = k; there = is; ends = to }
    by_next r k is None (Some e) free to past = absurd past
    by_next r k is (Some z) q free to past = cc

    by_less : (r : ℕ) (p : Cell) (y : Option Row) → f r ≡ y → p.next ≡ None → LessRow h.gone f r (Some (Row.Cell p)) y → EndsAt r
    by_less r p (Some (Row.Cell k)) is free less = by_next r k is p.next k.next free refl less.next
    by_less r p y is free less = absurd less

    ends_kept : (r : ℕ) (p : Cell) → chain m (head_key x) r ≡ Some (Row.Cell p) → p.next ≡ None → EndsAt r
    ends_kept r p is free = by_less r p (f r) refl free (subst (λ o. LessRow h.gone f r o (f r)) is (h.less.cells x r))

end_so : (d : Deployment) (c : Core) (m : Rows) (h : HasKept d c m) → AllFinished m → EndOnce m
end_so d c m h all x a b p q at ends there none =
    let u = ends_kept d c m h all x a p at ends in
    let v = ends_kept d c m h all x b q there none in
    end_once d c h.kept h.upkeep.invariant h.upkeep.seats h.wanted (λ home id i is bound. kept_over d c m h all home id i is bound) x a b u.cell v.cell u.there u.ends v.there v.ends

-- ---- so it is once all intents are idle
finished_by : (newest : Bool) (life now : ℕ) (i : IntentRow) → IsIntentIdle newest life now (Row.Intent i) → is_some i.body ≡ true → is_some i.finish ≡ true
finished_by newest life now i idle bound = past_some i.finish (bound_past newest life now i bound idle)
  where
    past_some : (f : Option ℕ) → is_past life now f ≡ true → is_some f ≡ true
    past_some None past = cc
    past_some (Some t) past = refl

pub idle_end_once : IdleEndOnce
idle_end_once d c m h idle = end_so d c m h (λ home id i at bound. finished_by (is_newest c.newest id) d.life c.now i (idle (key_in home id) id (Row.Intent i) refl at) bound)

-- ---- and of tidy rows one comes after the first
module _ (newest : ℕ) (m : Rows) (tidy : AreTidy newest m) (x : Item) where
  record EndsThere (n : ℕ) : Type 0 where
    cell : Cell
    there : chain m (head_key x) n ≡ Some (Row.Cell cell)
    ends : cell.next ≡ None

  by_cell : (n : ℕ) (y : Row) → chain m (head_key x) n ≡ Some y → IsLastOrAdrift y → EndsThere n
  by_cell n (Row.Cell c) at (inl ends) = record { cell = c; there = at; ends = ends }
  by_cell n (Row.Cell c) at (inr adrift) = let clash = sym (ap is_some (tidy.moored (at_row (head_key x) n) c at)) ∙ adrift in cc
  by_cell n (Row.Intent i) at so = absurd so
  by_cell n (Row.ReadLog v) at so = absurd so
  by_cell n (Row.Invoke i) at so = absurd so
  by_cell n Row.Lockset at so = absurd so

  last : (n : ℕ) (y : Row) → 0 < n → chain m (head_key x) n ≡ Some y → EndsThere n
  last n y some at = elim (tidy.trimmed (at_row (head_key x) n) y at) [
    | inl first ↦ absurd (omega (arith, first, some))
    | inr so ↦ by_cell n y at so
  ]

pub one_behind : (newest : ℕ) (m : Rows) → AreTidy newest m → EndOnce m → HaveOneBehind m
one_behind newest m tidy once x a b low high r s there other =
    let p = last newest m tidy x a r low there in
    let q = last newest m tidy x b s high other in
    once x a b p.cell q.cell p.there p.ends q.there q.ends
