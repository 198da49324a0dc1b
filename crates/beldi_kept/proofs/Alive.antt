-- Whose rows the table has as they were kept: items, who has a row whose finish is not old, the owner of a transaction that is not finished,
-- and who holds a lock.
use Rattle.std.specs.FinMap as map
use Rattle.std.proofs.Common.{◌≡◌, ◌⊎◌, inl, inr, ℕ, ◌==◌, Bool, true, false, Option, Some, None, is_some, if◌then◌else◌, refl, ap, sym, ◌∙◌, subst}
use Rattle.std.specs.Option.{option_map}
use Rattle.std.specs.Prelude.{length, option_and_then}
use Rattle.beldi_value.specs.{Id.has_no_hops, declared.id.IntentId.IntentId, declared.place.Owner.Owner, declared.place.Owner.TheVariants.Intent, declared.place.Owner.TheVariants.Tx, declared.place.Place.Place, declared.place.TxId.TxId, declared.value.Value.Value}
use Rattle.beldi_tree.specs.declared.deployment.Deployment.{Deployment}
use Rattle.beldi_lang.specs.{Callee.answer_of, declared.effect.Answer.Answer, declared.effect.Effect.Effect}
use Rattle.beldi_plain.specs.{Holds.holds, Item.Item, Operation.OnItem, Operation.item_in, Operation.op_of, Plain.Instance}
use Rattle.beldi_plain_laws.specs.Txs.{effect_after, or_own, tx_by, tx_now, txs_after}
use Rattle.beldi_row.specs.{Key.RowKey, Key.at_row, Log.note_at, Table.Rows, declared.row.IntentRow.IntentRow, declared.row.Row.Row}
use Rattle.beldi_chain.specs.Chain.{chain, content, tail}
use Rattle.beldi_splice.specs.SpliceLaws.{IsAlike}
use Rattle.beldi_splice.proofs.Alike.{contents_are_alike}
use Rattle.beldi_readlog.specs.ReadLog.{given_in, log_key}
use Rattle.beldi_intent.specs.Intent.{intent_key}
use Rattle.beldi_invokelog.specs.InvokeLog.{call_in, invoke_key, result_in}
use Rattle.beldi_step.specs.{HostStep.Core, Noted.noted_answer, Tables.decision_key, Tables.is_committed, Tables.value_in}
use Rattle.beldi_row.proofs.Logs.{id_self}
use Rattle.beldi_histories.proofs.{Cases.by_option, Phases.inside_holds_none}
use Rattle.beldi_histories.specs.{Contents.content_of, Contents.head_key, Contents.is_owner, Contents.shadow_chain, Contents.shadow_key, Listed.listed, Listed.listed_under, Matches.has_ended, RowMatching.BodyMatches, RowMatching.IntentMatches, RowMatching.RootMatches, Stands.answer_aside, Stands.decides, Stands.held_answer, Stands.held_inside, Stands.held_note, Stands.held_outside, Stands.key_in, Stands.note_of_lock, Stands.answer_by_note}
use Rattle.beldi_invariant.specs.FoundInside.{has_finish}
use Rattle.beldi_invariant.proofs.Cases.{false_by}
use Rattle.beldi_upkeep.specs.{Callees.belongs_to, Callees.owner_key, WorksFor.finish_in}
use Rattle.beldi_upkeep.proofs.{Frees.returns_hold_none, FromInvariant.finished_over, PastOwn.WasOwner, PastOwn.got_owner}
use Rattle.beldi_kept.specs.{KeptRows.HasKept, KeptRows.IsOld, KeptRows.IsUnbound, Less.IsGone, Less.is_item}
use Rattle.beldi_kept.proofs.{Gone.done_there, Gone.recorded_home, Gone.old_finished, Gone.one_row, Gone.unbound_bare, Gone.unbound_none, Gone.unbound_root, Less.IsBare, Less.there_kept}

-- a root that is known has a body
bound_root : (b : Bool) (r : Option Row) (q : Instance) → RootMatches b r (Some q) → IsBare r → ⊥
bound_root true (Some (Row.Intent r)) q f bare = let clash = subst (λ y. BodyMatches y r.outcome (Some q)) bare f.body in cc
bound_root true None q f bare = absurd bare
bound_root true (Some r) q f bare = absurd bare
bound_root false r q f bare = absurd (subst IsBare f bare)

module _ (d : Deployment) (c : Core) (m : Rows) (h : HasKept d c m) where
  pub same_row : (k : RowKey) → is_item k.kind ≡ false → (IsGone h.gone (belongs_to k.kind) → ⊥) → map.get m k ≡ map.get h.kept k
  same_row k other alive = elim (h.less.rows k other) [
    | inl same ↦ same
    | inr off ↦ absurd (alive off.1)
  ]

  -- ---- who is not gone
  -- one that has a row in the table whose finish is not old
  pub alive_there : (home : ℕ) (i : IntentId) (w : IntentRow) → map.get m (key_in home i) ≡ Some (Row.Intent w) → (IsOld d.life h.latest w.finish → ⊥) → h.gone i ≡ false
  alive_there home i w there fresh = false_by (h.gone i) (λ off. not_over off (h.over i off).home (h.over i off).over)
    where
      row : map.get h.kept (key_in home i) ≡ Some (Row.Intent w)
      row = there_kept h.gone m h.kept h.less (key_in home i) (Row.Intent w) refl there

      not_over : h.gone i ≡ true → (room : ℕ) → IsOld d.life h.latest (finish_in (map.get h.kept (key_in room i))) ⊎ IsUnbound c.newest i (map.get m (key_in room i)) (map.get h.kept (key_in room i)) → ⊥
      not_over off room (inl old) =
          let same = one_row d c h.kept h.upkeep.invariant i room home (done_there (map.get h.kept (key_in room i)) (inl (old_finished d.life h.latest (map.get h.kept (key_in room i)) old))) (ap is_some row) in
          fresh (subst (λ o. IsOld d.life h.latest (finish_in o)) (ap (map.get h.kept) same ∙ row) old)
      not_over off room (inr u) =
          let x = map.get m (key_in room i) in
          let y = map.get h.kept (key_in room i) in
          let same = one_row d c h.kept h.upkeep.invariant i room home (done_there y (inr (unbound_bare c.newest i x y u))) (ap is_some row) in
          let clash = sym (unbound_none c.newest i x y u) ∙ ap (map.get m) same ∙ there in cc

  -- one that is known, and whose kept row has no finish
  pub recorded_alive : (i : IntentId) (q : Instance) → map.get h.upkeep.invariant.histories i ≡ Some q → (has_finish (map.get h.kept (intent_key i q.func)) ≡ true → ⊥) → h.gone i ≡ false
  recorded_alive i q made open_still = false_by (h.gone i) (λ off. not_over (h.over i off).home (h.over i off).over)
    where
      fits : (room : ℕ) → IntentMatches (has_ended d h.upkeep.invariant.histories) (has_no_hops i.hops) room (map.get h.kept (key_in room i)) (Some q)
      fits room = subst (IntentMatches (has_ended d h.upkeep.invariant.histories) (has_no_hops i.hops) room (map.get h.kept (key_in room i))) made (h.upkeep.invariant.rows.keys (key_in room i))

      not_over : (room : ℕ) → IsOld d.life h.latest (finish_in (map.get h.kept (key_in room i))) ⊎ IsUnbound c.newest i (map.get m (key_in room i)) (map.get h.kept (key_in room i)) → ⊥
      not_over room (inl old) =
          let fin = old_finished d.life h.latest (map.get h.kept (key_in room i)) old in
          open_still (subst (λ k. has_finish (map.get h.kept k) ≡ true) (recorded_home d c h.kept h.upkeep.invariant i q room made (done_there (map.get h.kept (key_in room i)) (inl fin))) fin)
      not_over room (inr u) =
          let x = map.get m (key_in room i) in
          let y = map.get h.kept (key_in room i) in
          bound_root (room == 0) y q (subst (λ z. IntentMatches (has_ended d h.upkeep.invariant.histories) z room y (Some q)) (unbound_root c.newest i x y u) (fits room)) (unbound_bare c.newest i x y u)

  -- so the owner of a transaction
  pub owner_alive : (t : TxId) → WasOwner d h.upkeep.invariant.histories t → (has_finish (map.get h.kept (owner_key t)) ≡ true → ⊥) → h.gone t.intent ≡ false
  owner_alive t w open_still = recorded_alive t.intent w.owner w.made (λ fin. open_still (subst (λ f. has_finish (map.get h.kept (intent_key t.intent f)) ≡ true) (sym w.func_is) fin))

  -- .. and so the owner of an item
  pub holder_alive : (t : TxId) (x : Item) → (content_of h.kept x).owner ≡ Some (Tx t) → h.gone t.intent ≡ false
  holder_alive t x owned = owner_alive t (got_owner d h.upkeep.invariant.histories h.upkeep.invariant.well_formed t h.upkeep.invariant.lock_ahead x ((h.upkeep.invariant.rows.txs x).owned_is_got t owned)) (λ fin. h.upkeep.seats.owns_none t x fin owned)

  -- .. and so who holds a lock: it has not ended
  holds_open : (j : IntentId) (q : Instance) (x : Item) → map.get h.upkeep.invariant.histories j ≡ Some q → holds d x (Some q) ≡ true → has_finish (map.get h.kept (intent_key j q.func)) ≡ true → ⊥
  holds_open j q x made held fin =
      let its = h.upkeep.invariant.well_formed.each j q made in
      by_option q.enclosing
      (λ out. by_option q.outcome
      (λ none. let clash = sym (ap is_some none) ∙ finished_over d c h.kept h.upkeep.invariant (intent_key j q.func).home j q made out fin in cc)
      (λ o over. let clash = sym held ∙ returns_hold_none d q o (its.over o over) x in cc))
      (λ t inner. let clash = sym held ∙ inside_holds_none d j q its (within t inner) x in cc)
    where
      within : (t : TxId) → q.enclosing ≡ Some t → is_some (tx_now d j q) ≡ true
      within t inner = ap (λ w. is_some (or_own w (tx_by j q.func (length q.answers) (effect_after d q q.answers) (txs_after d q q.answers).begun))) inner

  pub lock_alive : (j : IntentId) (x : Item) → (content_of h.kept x).owner ≡ Some (Intent j) → h.gone j ≡ false
  lock_alive j x owned = by_option (map.get h.upkeep.invariant.histories j)
      (λ none. let clash = sym held ∙ ap (holds d x) none in cc)
      (λ q made. recorded_alive j q made (holds_open j q x made (sym (ap (holds d x) made) ∙ held)))
    where
      held : holds d x (map.get h.upkeep.invariant.histories j) ≡ true
      held = sym ((h.upkeep.invariant.rows.items x).owner j) ∙ ap (λ o. is_owner o (Intent j)) owned ∙ id_self j

  -- ---- the rows of items, and those of a transaction and of an intent that are not gone
  pub alive_key : (i : IntentId) → h.gone i ≡ false → h.gone i ≡ true → ⊥
  alive_key i alive off = let clash = sym off ∙ alive in cc

  pub alike_item : (x : Item) → IsAlike h.gone (chain m (head_key x)) (chain h.kept (head_key x))
  alike_item x = contents_are_alike h.gone (chain m (head_key x)) (chain h.kept (head_key x)) (h.upkeep.invariant.rows.chains x) (h.less.cells x) (h.less.threads x)

  pub same_owner : (x : Item) → (content_of m x).owner ≡ (content_of h.kept x).owner
  same_owner x = (alike_item x).owner

  pub same_shadow : (t : TxId) (x : Item) → h.gone t.intent ≡ false → shadow_chain m t x ≡ shadow_chain h.kept t x
  same_shadow t x alive = λ j n. same_row (at_row (shadow_key t x) n) refl (alive_key t.intent alive) j

  pub same_decision : (t : TxId) → h.gone t.intent ≡ false → map.get m (decision_key t) ≡ map.get h.kept (decision_key t)
  same_decision t alive = same_row (decision_key t) refl (alive_key t.intent alive)

  -- ---- what is listed
  listed_alike : (x : Item) (o : Option Owner) (v : Value) → ((t : TxId) → o ≡ Some (Tx t) → h.gone t.intent ≡ false) → listed_under m x o v ≡ listed_under h.kept x o v
  listed_alike x (Some (Owner.Tx t)) v alive = let live = alive t refl in λ j. if is_committed (same_decision t live j) then value_in (tail (same_shadow t x live j)) v else v
  listed_alike x (Some (Owner.Intent i)) v alive = refl
  listed_alike x None v alive = refl

  pub same_listed : (x : Item) → listed m x ≡ listed h.kept x
  same_listed x = (λ i. listed_under m x ((alike_item x).owner i) ((alike_item x).value i)) ∙ listed_alike x (content_of h.kept x).owner (content_of h.kept x).value (λ t owned. holder_alive t x owned)

  -- ---- the answers that the rows hold
  module _ (p : Place) (alive : h.gone p.intent ≡ false) (func : ℕ) where
    note_alike : (o : Option OnItem) → held_note m p func o ≡ held_note h.kept p func o
    note_alike None = refl
    note_alike (Some o) = ap (option_and_then noted_answer) ((alike_item (item_in func o)).notes p alive)

    lock_alike : (x : Item) → note_of_lock m p x ≡ note_of_lock h.kept p x
    lock_alike x = (alike_item x).notes p alive

    log_alike : map.get m (log_key func p) ≡ map.get h.kept (log_key func p)
    log_alike = same_row (log_key func p) refl (alive_key p.intent alive)

    call_alike : map.get m (invoke_key func p) ≡ map.get h.kept (invoke_key func p)
    call_alike = same_row (invoke_key func p) refl (alive_key p.intent alive)

    outside_alike : (e : Effect) → held_outside m p func e ≡ held_outside h.kept p func e
    outside_alike (Effect.Read t k) = ap (λ r. option_map Answer.Value (option_map given_in r)) log_alike
    outside_alike (Effect.Call f v) = ap (λ r. option_map answer_of (result_in (call_in r))) call_alike
    outside_alike (Effect.Async f v) = ap (λ r. option_map (λ i. Answer.Done) (call_in r)) call_alike
    outside_alike e = note_alike (op_of e)

    module _ (t : TxId) (live : h.gone t.intent ≡ false) where
      aside_alike : (x : Item) → answer_aside m t p x ≡ answer_aside h.kept t p x
      aside_alike x = ap (λ z. option_and_then noted_answer (note_at (content z).notes p)) (same_shadow t x live)

      told_alike : (x : Item) → answer_by_note p (note_of_lock m p x) (answer_aside m t p x) ≡ answer_by_note p (note_of_lock h.kept p x) (answer_aside h.kept t p x)
      told_alike x = λ j. answer_by_note p (lock_alike x j) (aside_alike x j)

      inside_alike : (e : Effect) → held_inside m t p func e ≡ held_inside h.kept t p func e
      inside_alike Effect.Begin = refl
      inside_alike Effect.Abort = refl
      inside_alike (Effect.End y) = ap (λ r. option_and_then (decides y) (option_map given_in r)) (same_decision t live)
      inside_alike (Effect.Read u k) = λ j. answer_by_note p (lock_alike (record { func = func; table = u; key = k }) j) (option_map Answer.Value (option_map given_in (log_alike j)))
      inside_alike (Effect.Write u k v) = told_alike (record { func = func; table = u; key = k })
      inside_alike (Effect.CondWrite u k r o v) = told_alike (record { func = func; table = u; key = k })
      inside_alike e = outside_alike e

  pub same_held : (i : IntentId) (func step : ℕ) (t : Option TxId) (e : Effect) → h.gone i ≡ false → ((u : TxId) → t ≡ Some u → h.gone u.intent ≡ false) → held_answer m i func step t e ≡ held_answer h.kept i func step t e
  same_held i func step None e alive owner = outside_alike (record { intent = i; step = step }) alive func e
  same_held i func step (Some u) e alive owner = inside_alike (record { intent = i; step = step }) alive func u (owner u refl) e
