-- An entry of another leaves an instance that stands at its Begin, and the items that the entry does not touch.
use Rattle.beldi_plain_laws.proofs.Names.{Aborts, Commits, Deployment, Effect, EntriesTouchWhatTheyChange, Entry, FinMap, Instance, IntentId, IsBelow, IsCalled, IsIn, Item, Kind, List, None, OnItem, Option, OthersLeaveTransactions, Place, PlainState, Read, Some, Start, Step, AbortedTx, CommittedTx, TxId, [], actor, after, answer_after, answer_of, answered, ap, append-nil, append_assoc, arith, callee_of, calls_at, child_of, cond, effect_of, ended, false, get-insert, id_cmp, id_total, inl, inr, is_eq, item_in, item_of, item_touched, length, new_instance, op_of, opened, operated, option_map, refl, root_of, step_by, subst, sym, touched_by, true, tx_begun, value_at, waits_at, with_instance, ℕ, ◌++◌, ◌<◌, ◌∙◌, ◌∷◌, ◌≡◌, ◌≤◌, Answer}
use Rattle.beldi_plain_laws.proofs.{LeadsAlike.kept_by, LeadsAlike.kept, LeadsAlike.others, LeadsAlike.leads_alike, Called.Linked, EntryLaws.did, EntryLaws.Stepped, EntryLaws.absent, EntryLaws.answer_keeps, CallStack.line_opened, Maps.same_some, Maps.still_made, Maps.elsewhere, Maps.none_by, WellFormed.WellFormedWith, WellFormed.waited_in, Sound.well_formed_with, Sound.after_well_formed, Sound.answers_nobody, Sound.answers_waiter, Touched.written_touched}
use Rattle.beldi_plain_laws.proofs.Names.map

-- ---- who is below an instance at a step that it has not come to was not made
module _ (f : FinMap id_cmp Instance) (childless : (i : IntentId) → map.get f i ≡ None → (n : ℕ) → map.get f (child_of i n) ≡ None)
    (later : (i : IntentId) (q : Instance) (n : ℕ) → map.get f i ≡ Some q → length q.answers < n → map.get f (child_of i n) ≡ None) where
  none_from : (i : IntentId) (hops : List ℕ) → map.get f i ≡ None → map.get f (record { ticket = i.ticket; hops = i.hops ++ hops }) ≡ None
  none_from i [] is = ap (λ hs. map.get f (record { ticket = i.ticket; hops = hs })) (append-nil i.hops) ∙ is
  none_from i (n ∷ hops) is = ap (λ hs. map.get f (record { ticket = i.ticket; hops = hs })) (sym (append_assoc i.hops (n ∷ []) hops)) ∙ none_from (child_of i n) hops (childless i is n)

  pub none_after : (t : TxId) → ((q : Instance) → map.get f t.intent ≡ Some q → length q.answers ≤ t.begin) → (i : IntentId) → IsBelow t i → map.get f i ≡ None
  none_after t few i b = ap (map.get f) (b.is ∙ ap (λ hs. record { ticket = t.intent.ticket; hops = hs }) (sym (append_assoc t.intent.hops (b.step ∷ []) b.hops))) ∙ none_from (child_of t.intent b.step) b.hops (by_owner (map.get f t.intent) refl)
    where
      by_owner : (o : Option Instance) → map.get f t.intent ≡ o → map.get f (child_of t.intent b.step) ≡ None
      by_owner None is = childless t.intent is b.step
      by_owner (Some q) is = later t.intent q b.step is (let n = few q is in let l = b.later in omega (arith, n, l))

module _ (d : Deployment) (f : FinMap id_cmp Instance) (h : WellFormedWith d None f) where
  pub no_callees : (i : IntentId) → map.get f i ≡ None → (n : ℕ) → map.get f (child_of i n) ≡ None
  no_callees i is n = subst (λ o. Linked d i o n (map.get f (child_of i n))) is (h.links i n)

  pub no_later : (i : IntentId) (q : Instance) (n : ℕ) → map.get f i ≡ Some q → length q.answers < n → map.get f (child_of i n) ≡ None
  no_later i q n is lt = none_by (map.get f (child_of i n)) (λ j on. let l : IsCalled d i q n j = subst (Linked d i (Some q) n) on (subst (λ o. Linked d i o n (map.get f (child_of i n))) is (h.links i n)) in let k = l.here in omega (arith, lt, k))

  pub none_below : (id : IntentId) (q : Instance) (i : IntentId) → map.get f id ≡ Some q → IsBelow (tx_begun id q) i → map.get f i ≡ None
  none_below id q i is = none_after f no_callees no_later (tx_begun id q) (λ z made. let n = ap (λ (y : Instance). length y.answers) (same_some (sym made ∙ is)) in omega (arith, n)) i

-- ---- the instance
module _ (d : Deployment) (p : PlainState) (well_formed : WellFormedWith d None p.made) (id : IntentId) (q : Instance) (is : map.get p.made id ≡ Some q) (begins : effect_of d q ≡ Effect.Begin) where
  module _ (j : IntentId) (y : Instance) (made : map.get p.made j ≡ Some y) (apart : j ≡ id → ⊥) where
    set_stays : (s : Instance) → map.get (map.insert p.made j s) id ≡ Some q
    set_stays s = elsewhere p.made j id s apart ∙ is

    called_stays : (s : Instance) → map.get p.made (callee_of j y) ≡ None → map.get (map.insert p.made (callee_of j y) s) id ≡ Some q
    called_stays s gone = still_made p.made (callee_of j y) id s q gone is

    step_stays : (e : Effect) → y.outcome ≡ None → waits_at p.made j y e ≡ false → map.get (step_by p j y e).made id ≡ Some q
    step_stays (Effect.Read t k) none free = set_stays (answered y (Answer.Value (value_at p (item_of y t k))))
    step_stays (Effect.Call f v) none free = called_stays (new_instance f v (Some (calls_at j y true))) (absent (map.get p.made (callee_of j y)) free)
    step_stays (Effect.Async f v) none free =
        let s = new_instance f v (Some (calls_at j y false)) in
        elsewhere (map.insert p.made (callee_of j y) s) j id (answered y Answer.Done) apart ∙ called_stays s (absent (map.get p.made (callee_of j y)) free)
    step_stays (Effect.Return o) none free = elim (waited_in d None p.made well_formed j y made none) [
      | inl alone ↦ ap (λ (r : PlainState). map.get r.made id) (answers_nobody (with_instance p j (ended y o)) y.parent o alone.alone) ∙ set_stays (ended y o)
      | inr w ↦
          let other : w.caller ≡ id → ⊥ = λ same.
          let here : w.waiter ≡ q = same_some (sym w.made ∙ ap (map.get p.made) same ∙ is) in
          let c : Effect.Call y.func y.args ≡ Effect.Begin = sym w.stands ∙ ap (effect_of d) here ∙ begins in cc in
          ap (λ (r : PlainState). map.get r.made id) (answers_waiter d p j y w (ended y o) o) ∙ elsewhere (map.insert p.made j (ended y o)) w.caller id (answered w.waiter (answer_of o)) other ∙ set_stays (ended y o)
    ]
    step_stays e none free = by_op (op_of e)
      where
        by_op : (o : Option OnItem) → map.get (operated p j y o).made id ≡ Some q
        by_op None = is
        by_op (Some o) = set_stays (answered y (answer_after o.does (value_at p (item_in y.func o))))

    -- it is in no transaction of another
    out_of : IsIn (tx_begun j y) id → ⊥
    out_of (inl own) = apart (sym own)
    out_of (inr b) = let c = sym is ∙ none_below d p.made well_formed j y id made b in cc

  commit_stays : (j : IntentId) (r : PlainState) → Commits d p j r → (j ≡ id → ⊥) → map.get r.made id ≡ Some q
  commit_stays j r c apart =
      let y = c.instance in
      let t = tx_begun j y in
      ap (λ (s : PlainState). map.get s.made id) c.is ∙ elsewhere c.last.state.made j id (answered c.ends.stands.instance Answer.Done) apart
      ∙ others d t (opened p j y) c.moves c.last (line_opened d p j y c.runs.open_still) c.runs.leads id (out_of j y c.runs.made apart)
      ∙ elsewhere p.made j id (answered y Answer.Done) apart ∙ is

  abort_stays : (j : IntentId) (place : Place) (holder : Option IntentId) (r : PlainState) → Aborts d p j place holder r → (j ≡ id → ⊥) → map.get r.made id ≡ Some q
  abort_stays j place holder r c apart = ap (λ (s : PlainState). map.get s.made id) c.is ∙ elsewhere p.made j id (answered c.ends.stands.instance Answer.Done) apart ∙ is

  stepped_stays : (j : IntentId) (k : Kind) (r : PlainState) → Stepped d p j k r → (j ≡ id → ⊥) → map.get r.made id ≡ Some q
  stepped_stays j k r s apart = ap (λ (z : PlainState). map.get z.made id) (sym s.leads) ∙ step_stays j s.instance s.made apart (effect_of d s.instance) s.open_still s.free

  pub stays : (e : Entry) (r : PlainState) → after d p e ≡ Some r → (actor e ≡ id → ⊥) → map.get r.made id ≡ Some q
  stays (Start t f v) r h apart = let s = did d p (Start t f v) r h in ap (λ (z : PlainState). map.get z.made id) (sym s.leads) ∙ still_made p.made (root_of t) id (new_instance f v None) q s.absent is
  stays (Read j version) r h apart = stepped_stays j Kind.Read r (did d p (Read j version) r h) apart
  stays (Step j) r h apart = stepped_stays j Kind.Change r (did d p (Step j) r h) apart
  stays (CommittedTx j) r h apart = commit_stays j r (did d p (CommittedTx j) r h) apart
  stays (AbortedTx j place holder) r h apart = abort_stays j place holder r (did d p (AbortedTx j place holder) r h) apart

-- ---- the items
module _ (d : Deployment) (p : PlainState) (x : Item) where
  step_keeps : (j : IntentId) (y : Instance) (e : Effect) → (item_touched y e ≡ Some x → ⊥) → map.get (step_by p j y e).items x ≡ map.get p.items x
  step_keeps j y (Effect.Read t k) never = refl
  step_keeps j y (Effect.Call f v) never = refl
  step_keeps j y (Effect.Async f v) never = refl
  step_keeps j y (Effect.Return o) never = answer_keeps (λ (r : PlainState). map.get r.items x ≡ map.get p.items x) (with_instance p j (ended y o)) refl (λ k z a made. refl) y.parent o
  step_keeps j y e never = by_op (op_of e) never
    where
      by_op : (o : Option OnItem) → (option_map (item_in y.func) o ≡ Some x → ⊥) → map.get (operated p j y o).items x ≡ map.get p.items x
      by_op None other = refl
      by_op (Some o) other = kept_by p.items y.func (Some o) x other

  stepped_keeps : (j : IntentId) (k : Kind) (r : PlainState) → Stepped d p j k r → (touched_by d (map.get p.made j) ≡ Some x → ⊥) → map.get r.items x ≡ map.get p.items x
  stepped_keeps j k r s never = ap (λ (z : PlainState). map.get z.items x) (sym s.leads) ∙ step_keeps j s.instance (effect_of d s.instance) (λ e. never (ap (touched_by d) s.made ∙ e))

pub entries_touch : EntriesTouchWhatTheyChange
entries_touch d p r (Start t f v) h x never = ap (λ (z : PlainState). map.get z.items x) (sym (did d p (Start t f v) r h).leads)
entries_touch d p r (Read j version) h x never = stepped_keeps d p x j Kind.Read r (did d p (Read j version) r h) never
entries_touch d p r (Step j) h x never = stepped_keeps d p x j Kind.Change r (did d p (Step j) r h) never
entries_touch d p r (CommittedTx j) h x never =
    let c = did d p (CommittedTx j) r h in
    let t = tx_begun j c.instance in
    let s = opened p j c.instance in
    ap (λ (z : PlainState). map.get z.items x) c.is
    ∙ kept d t s c.moves c.last (line_opened d p j c.instance c.runs.open_still) c.runs.leads x (λ w. never (record { state = r; commit = c; touched_it = written_touched d t s c.moves c.last x c.runs.leads w }))
entries_touch d p r (AbortedTx j place holder) h x never = ap (λ (z : PlainState). map.get z.items x) (did d p (AbortedTx j place holder) r h).is

-- ---- a transaction that runs
pub others_leave : OthersLeaveTransactions
others_leave d p r e id q moves s well_formed runs h apart agree =
    let t = tx_begun id q in
    let now = stays d p (well_formed_with d p well_formed) id q runs.made runs.begins e r h apart in
    let after_it = well_formed_with d r (after_well_formed d p e r h well_formed) in
    let b = leads_alike d t (opened p id q) (opened r id q) moves s (line_opened d p id q runs.open_still) runs.leads (record { active = refl; members = λ i in_it. members i in_it now after_it }) agree in
    record {
      going = b.going;
      runs = record { made = now; open_still = runs.open_still; begins = runs.begins; leads = b.leads };
      alike = b.alike;
      same = b.same;
    }
  where
    set_alike : (i : IntentId) → map.get r.made i ≡ map.get p.made i → map.get (opened r id q).state.made i ≡ map.get (opened p id q).state.made i
    set_alike i same = get-insert id_total r.made id (answered q Answer.Done) i ∙ ap (cond (is_eq (id_cmp i id)) (Some (answered q Answer.Done))) same ∙ sym (get-insert id_total p.made id (answered q Answer.Done) i)

    members : (i : IntentId) → IsIn (tx_begun id q) i → map.get r.made id ≡ Some q → WellFormedWith d None r.made → map.get (opened r id q).state.made i ≡ map.get (opened p id q).state.made i
    members i (inl own) now good = set_alike i (ap (map.get r.made) own ∙ now ∙ sym runs.made ∙ ap (map.get p.made) (sym own))
    members i (inr b) now good = set_alike i (none_below d r.made good id q i now b ∙ sym (none_below d p.made (well_formed_with d p well_formed) id q i runs.made b))
