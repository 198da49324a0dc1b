-- What an act that may remove a row leaves.
use Rattle.std.specs.FinMap as map
use Rattle.std.specs.Ordering.{is_eq}
use Rattle.std.specs.Prelude.{not, ◌||◌, ◌&&◌}
use Rattle.std.proofs.Common.{◌≡◌, inr, ℕ, ◌<◌, Bool, true, false, Option, Some, None, is_some, if◌then◌else◌, refl, ap, sym, ◌∙◌, subst, arith}
use Rattle.beldi_value.specs.{Id.has_no_hops, Id.home_of, Id.root_of, declared.id.IntentId.IntentId, declared.place.TxId.TxId}
use Rattle.beldi_tree.specs.declared.deployment.Deployment.{Deployment}
use Rattle.beldi_row.specs.{Act.act, Act.drops, Act.is_left_row, Act.is_old_row, Act.is_past, Act.removed_reply, Act.removes, Act.stays_unless, Key.RowKey, Key.key_cmp, Key.key_ticket, Table.Rows, Table.after_act, Table.set_row, declared.act.Act.Act, declared.key.Kind.Kind, declared.row.Body.Body, declared.row.IntentRow.IntentRow, declared.row.Row.Row}
use Rattle.beldi_row.proofs.{Gets.key_same, Removed.act_drops, Removed.drops_none, Unchanged.unchanged}
use Rattle.beldi_plain.specs.Plain.{Instance}
use Rattle.beldi_intent.specs.Intent.{root_key}
use Rattle.beldi_step.specs.HostStep.{Core}
use Rattle.beldi_histories.specs.{Matches.has_ended, RowMatching.CalleeBodyMatches, RowMatching.IntentMatches, RowMatching.RootMatches, Stands.key_in}
use Rattle.beldi_invariant.proofs.{Cases.false_by, Returns.root_is}
use Rattle.beldi_upkeep.specs.{Callees.seat_of, WorksFor.finish_in}
use Rattle.beldi_kept.specs.{KeptRows.HasKept, KeptRows.IsLater, KeptRows.IsOld, KeptRows.IsRowOfOld, KeptLaws.IntentDropsKeep, KeptLaws.RowDropsKeep}
use Rattle.beldi_kept.proofs.{Gone.root_home, Less.not_item, Less.there_kept, Removals.removals_keep, Removals.unbound_may_go}

-- what has a body, and no finish that is old, is not old
bare_of : (life now issued : ℕ) (b : Option Body) (f : Option ℕ) → ((not (is_some b) && is_past life now (Some issued)) || is_past life now f) ≡ true → is_past life now f ≡ false → b ≡ None
bare_of life now issued None f old fresh = refl
bare_of life now issued (Some b) f old fresh = let clash = sym old ∙ fresh in cc

-- a row that is old so is that of an intent
of_intent : (life now : ℕ) (r : Row) → is_old_row life now r ≡ true → (w : IntentRow) × (r ≡ Row.Intent w)
of_intent life now (Row.Intent w) old = (w, refl)
of_intent life now r old = cc

-- the row of a root is that of an intent
no_left : (r : Row) (o : Option Instance) → RootMatches true (Some r) o → is_left_row r ≡ true → ⊥
no_left (Row.Intent w) o fits left = let clash : false ≡ true = left in cc
no_left r o fits left = absurd fits

-- one without body is a root's
bare_root : (ended : TxId → Bool) (b : Bool) (home : ℕ) (w : IntentRow) (o : Option Instance) → IntentMatches ended b home (Some (Row.Intent w)) o → w.body ≡ None → b ≡ true
bare_root ended true home w o fits bare = refl
bare_root ended false home w o fits bare = absurd (subst (λ z. CalleeBodyMatches home z w.outcome o) bare fits.body)

module _ (d : Deployment) (c : Core) (m : Rows) (h : HasKept d c m) where
  abbrev Keeps : Rows → Type 0
  Keeps n = (g : HasKept d c n) × IsLater h g

  as_it_was : Keeps m
  as_it_was = (h, record { moment = omega arith; ticket = omega arith; rows = λ k there. there; finishes = λ k f is. is; gone = λ i off. off; latest = omega arith })

  -- ---- an act that may remove the row of this key, where it is kept if the row goes
  module _ (k : RowKey) (a : Act) (may : drops a ≡ true) (goes : (r : Row) → map.get m k ≡ Some r → removes a c.now r ≡ true → Keeps (set_row m k None)) where
    unless_changed : (act a c.now (map.get m k)).0 ≡ map.get m k → Keeps (after_act a c.now k m)
    unless_changed is = subst Keeps (sym (unchanged m k (act a c.now (map.get m k)).0 is)) as_it_was

    by_row : (o : Option Row) → map.get m k ≡ o → Keeps (after_act a c.now k m)
    by_row None none = unless_changed (ap (λ o. (act a c.now o).0) none ∙ drops_none a c.now may ∙ sym none)
    by_row (Some r) there = by_test (removes a c.now r) refl (ap (λ o. (act a c.now o).0) there ∙ ap (λ z. z.0) (act_drops a c.now r may))
      where
        by_test : (b : Bool) → removes a c.now r ≡ b → (act a c.now (map.get m k)).0 ≡ (stays_unless b (r, removed_reply b)).0 → Keeps (after_act a c.now k m)
        by_test true is left = subst (λ o. Keeps (set_row m k o)) (sym left) (goes r there is)
        by_test false is left = unless_changed (left ∙ sym there)

    pub after_drop : Keeps (after_act a c.now k m)
    after_drop = by_row (map.get m k) refl

  -- ---- the row of an intent that is old
  module _ (home : ℕ) (i : IntentId) (older : has_no_hops i.hops ≡ true → i.ticket < c.newest) where
    abbrev k : RowKey
    k = key_in home i

    apart : is_eq (key_cmp (root_key c.newest) k) ≡ false
    apart = false_by (is_eq (key_cmp (root_key c.newest) k)) (λ e.
        let same = key_same (root_key c.newest) k e in
        let ticket : c.newest ≡ i.ticket = ap key_ticket same in
        let below = older (sym (ap no_hops same)) in
        omega (arith, ticket, below))
      where
        no_hops : RowKey → Bool
        no_hops q = by_kind q.kind
          where
            by_kind : Kind → Bool
            by_kind (Kind.Intent j) = has_no_hops j.hops
            by_kind kind = false

    module _ (w : IntentRow) (there : map.get m k ≡ Some (Row.Intent w)) where
      kept : map.get h.kept k ≡ Some (Row.Intent w)
      kept = there_kept h.gone m h.kept h.less k (Row.Intent w) refl there

      at_home : has_no_hops i.hops ≡ true → home ≡ 0
      at_home root = root_home d c h.kept h.upkeep.invariant i home root (ap is_some kept)

      -- its finish is old
      seated : (b : Bool) → has_no_hops i.hops ≡ b → home_of i home ≡ home
      seated true root = ap (λ b. if b then 0 else home) root ∙ sym (at_home root)
      seated false called = ap (λ b. if b then 0 else home) called

      old_finish : IsOld d.life c.now w.finish → Keeps (set_row m k None)
      old_finish old =
          let seat : seat_of k i ≡ k = λ j. record { home = seated (has_no_hops i.hops) refl j; kind = Kind.Intent i } in
          removals_keep d c m h k (record { intent = i; belongs = refl; old = inr (subst (λ o. IsOld d.life c.now (finish_in o)) (sym (ap (map.get h.kept) seat ∙ kept)) old) }) apart

      -- it was given nothing to do
      bare_goes : w.body ≡ None → Keeps (set_row m k None)
      bare_goes bare =
          let fits = subst (λ r. IntentMatches (has_ended d h.upkeep.invariant.histories) (has_no_hops i.hops) home r (map.get h.upkeep.invariant.histories i)) kept (h.upkeep.invariant.rows.keys k) in
          let root = bare_root (has_ended d h.upkeep.invariant.histories) (has_no_hops i.hops) home w (map.get h.upkeep.invariant.histories i) fits bare in
          let at : root_key i.ticket ≡ k = λ j. record { home = sym (at_home root) j; kind = Kind.Intent (sym (root_is i root) j) } in
          subst (λ q. Keeps (set_row m q None)) at (unbound_may_go d c m h i.ticket w (ap (map.get m) at ∙ there) bare (older root))

      old_goes : is_old_row d.life c.now (Row.Intent w) ≡ true → Keeps (set_row m k None)
      old_goes old = by_test (is_past d.life c.now w.finish) refl
        where
          by_test : (b : Bool) → is_past d.life c.now w.finish ≡ b → Keeps (set_row m k None)
          by_test true past = old_finish past
          by_test false fresh = bare_goes (bare_of d.life c.now w.issued w.body w.finish old fresh)

    pub intent_goes : (r : Row) → map.get m k ≡ Some r → is_old_row d.life c.now r ≡ true → Keeps (set_row m k None)
    intent_goes r there old = let w = of_intent d.life c.now r old in old_goes w.0 (there ∙ ap Some w.1) (subst (λ z. is_old_row d.life c.now z ≡ true) w.1 old)

  -- ---- a row beside that of an intent that is gone or old
  pub left_goes : (k : RowKey) → IsRowOfOld d.life c.now h.gone h.kept k → (r : Row) → map.get m k ≡ Some r → is_left_row r ≡ true → Keeps (set_row m k None)
  left_goes k w r there left = removals_keep d c m h k w (false_by (is_eq (key_cmp (root_key c.newest) k)) (λ e.
      let kept : map.get h.kept (root_key c.newest) ≡ Some r = ap (map.get h.kept) (key_same (root_key c.newest) k e) ∙ there_kept h.gone m h.kept h.less k r (not_item k.kind (Some w.intent) w.belongs refl) there in
      no_left r (map.get h.upkeep.invariant.histories (root_of c.newest)) (subst (λ o. RootMatches true o (map.get h.upkeep.invariant.histories (root_of c.newest))) kept (h.upkeep.invariant.rows.keys (root_key c.newest))) left))

pub intent_drops_keep : IntentDropsKeep
intent_drops_keep d c m h home i older = after_drop d c m h (key_in home i) (Act.DropIntent d.life) refl (intent_goes d c m h home i older)

pub row_drops_keep : RowDropsKeep
row_drops_keep d c m h k of = after_drop d c m h k Act.DropRow refl (left_goes d c m h k of)
