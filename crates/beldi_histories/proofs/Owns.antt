-- What an open transaction touched it got, and owns; what it wrote has a shadow. So what it sees of an item is what its shadow shows,
-- where that is there, and else the plain value.
use Rattle.beldi_plain.specs.Plain.{item_of}
use Rattle.beldi_histories.proofs.Names.{AllPlain, AllSound, Answer, Bool, Content, Deployment, Effect, GoingWellFormed, Got, Grown, Instance, IntentId, Item, Items, Histories, List, Matches, None, OnItem, OpenTx, Option, PlainState, Row, Rows, WellFormedHistories, WellFormedWith, ShadowShows, Some, TouchedIn, Tx, TxId, WrittenIn, answer_inside, answered, ap, at_step, begins, content_of, effect_after, effect_of, ended_by, false, fits, going_begun, going_so, got_before, got_by, id_total, if◌then◌else◌, inl, inr, is_aborted, is_eq, is_item, is_on, is_some, is_tx, is_writing, item_in, item_total, kept, length, not, note_at, note_of, noted, op_of, opened, option_map, or_left, or_null, outside_of, expected_shadow, place_of, refl, same_some, well_formed_in, well_formed_with, shadow_at, shadow_by, shadow_chain, shadow_row, subst, sym, tied_itself, touched, true, tx_after, tx_begun, tx_end, tx_now, value_at, value_in, write, write_op, written_touched, ℕ, ◌&&◌, ◌∙◌, ◌∷◌, ◌≡◌, ◌⊎◌}
use Rattle.beldi_links.proofs.Last.{IsCellOrNone, bare, last_is_cell}
use Rattle.beldi_histories.proofs.{Answers.take_front, Answers.get_next, Answers.true_false, Behind.gathers, AbortedInside.Fell, AbortedInside.falls, AbortedInside.later_is, AbortedInside.sound, AbortedInside.touched_made, AbortedInside.written_made, LockRows.tx_self, NoTx.begins_parts}
use Rattle.beldi_histories.proofs.Names.map
use Rattle.beldi_histories.proofs.Names.operation
use Rattle.beldi_histories.proofs.Names.plain

-- ---- one step
item_self : (func : ℕ) (o : ℕ × List ℕ) → is_item (record { func = func; table = o.0; key = o.1 }) func (Some o) ≡ true
item_self func o = ap is_eq (tied_itself item_total (record { func = func; table = o.0; key = o.1 }))

on_item : (z : Instance) (o : Option (ℕ × List ℕ)) (x : Item) → option_map (λ o. item_of z o.0 o.1) o ≡ Some x → is_item x z.func o ≡ true
on_item z None x h = cc
on_item z (Some o) x h = ap (λ y. is_item y z.func (Some o)) (sym (same_some h)) ∙ item_self z.func o

pub plain_lives : (m : Items) (func : ℕ) (e : Effect) (a : Answer) → answer_inside m func e ≡ Some a → is_aborted a ≡ false
plain_lives m func (Effect.Read t k) a h = ap is_aborted (sym (same_some h))
plain_lives m func (Effect.Write t k v) a h = ap is_aborted (sym (same_some h))
plain_lives m func (Effect.CondWrite t k r o v) a h = ap is_aborted (sym (same_some h))
plain_lives m func e a h = cc

note_self : (func : ℕ) (o : OnItem) (a : Answer) → note_of (item_in func o) func (Some o) a ≡ noted o.does a
note_self func o a = ap (λ b. if is_eq b then noted o.does a else None) (tied_itself item_total (item_in func o))

plain_note : (m : Items) (x : Item) (func : ℕ) (e : Effect) (a : Answer) → answer_inside m func e ≡ Some a → option_map (item_in func) (op_of e) ≡ Some x → is_some (note_of x func (write_op e) a) ≡ true
plain_note m x func (Effect.Write t k v) a h w = let o : OnItem = record { table = t; key = k; does = write v } in
    subst (λ y. is_some (note_of y func (Some o) a) ≡ true) (same_some w) (ap is_some (note_self func o a) ∙ ap (λ z. is_some (noted (write v) z)) (sym (same_some h)))
plain_note m x func (Effect.CondWrite t k r u v) a h w = let o : OnItem = record { table = t; key = k; does = operation.cond r u v } in
    subst (λ y. is_some (note_of y func (Some o) a) ≡ true) (same_some w) (ap is_some (note_self func o a) ∙ ap (λ z. is_some (noted (operation.cond r u v) z)) (sym (same_some h)))
plain_note m x func (Effect.Read t k) a h w = cc
plain_note m x func e a h w = cc

module _ (d : Deployment) (t : TxId) (x : Item) (id : IntentId) (z y : Instance) (a : Answer) (g : Grown (answered z a) y) (inside : tx_now d id z ≡ Some t) where
  in_tx : is_tx t (tx_now d id z) ≡ true
  in_tx = ap (is_tx t) inside ∙ tx_self t

  -- what was done on the item was got
  got_at : is_item x z.func (touched (effect_of d z)) ≡ true → is_aborted a ≡ false → got_before d t x id y ≡ true
  got_at item lives = subst (λ (u : Instance). got_before d t x id u ≡ true) (sym (later_is z y a g))
      (gathers on z.answers a g.later (λ i. (in_tx i && item i) && not (lives i)))
    where
      on : List Answer → Answer → Bool
      on ts c = is_on t x z.func (tx_after d id z ts) (effect_after d z ts) && not (is_aborted c)

  -- .. and what was written is noted
  noted_at : is_some (note_of x z.func (write_op (effect_of d z)) a) ≡ true → is_some (shadow_at d t x id (length z.answers) y) ≡ true
  noted_at note = subst (λ (u : Instance). is_some (shadow_at d t x id (length z.answers) u) ≡ true) (sym (later_is z y a g))
      ((λ i. is_some (at_step (λ ts c. shadow_by t x z.func (tx_after d id z ts) (effect_after d z ts) c) (take_front z.answers (a ∷ g.later) i) (get_next z.answers g.later a i)))
      ∙ ap (λ b. is_some (if b then note_of x z.func (write_op (effect_of d z)) a else None)) in_tx ∙ note)

-- ---- an open transaction
module _ (d : Deployment) (p : PlainState) (histories : Histories) (well_formed : WellFormedHistories d histories) (legal : plain.WellFormed d p) (id : IntentId) (q : Instance) (made : map.get p.made id ≡ Some q) (b : begins d q ≡ true) (tx : OpenTx d p histories id q) where
  abbrev t : TxId
  t = tx_begun id q

  good : WellFormedWith d None p.made
  good = well_formed_with d p legal

  pub own : q.enclosing ≡ None
  own = outside_of d None p.made good refl id q made (begins_parts d q b).0

  start : GoingWellFormed d t q (opened p id q)
  start = going_begun d p good id q made (begins_parts d q b).0 (begins_parts d q b).1

  pub older : AllSound t tx.moves
  older = sound d t q own refl (opened p id q) tx.moves tx.going start tx.leads (λ i y is there. well_formed.each i y (tx.whole i is ∙ there))

  pub going : GoingWellFormed d t q tx.going
  going = going_so d p good id q tx.moves tx.going made (begins_parts d q b).0 (begins_parts d q b).1 older tx.leads

  pub fall : AllPlain tx.moves ⊎ Fell d t q own refl (opened p id q) tx.moves tx.going
  fall = falls d t q own refl (opened p id q) tx.moves tx.going start older tx.leads

  -- its owner, as it is known
  pub owner_recorded : map.get histories id ≡ Some going.owner.owner
  owner_recorded = tx.whole id (inl refl) ∙ going.owner.made

  pub not_ended : tx_end d histories t ≡ None
  not_ended =
      let o = going.owner.owner in
      let begun = (well_formed_in d (Some t) tx.going.state.made going.well_formed id o going.owner.made).begun ∙ ap (λ b. if b then Some t.begin else None) (ap is_eq (tied_itself id_total id)) in
      ap (ended_by d t.begin) owner_recorded ∙ (fits d o).not_ended t.begin begun

  module _ (lock_ahead : IntentId → Bool) (x : Item) where
    pub touched_got : TouchedIn d t (opened p id q) tx.moves x → Got d histories lock_ahead t x
    touched_got on =
        let w = touched_made d t q own refl (opened p id q) tx.moves tx.going x start older tx.leads on in
        let z = w.before in
        let got = got_at d t x w.id z w.step.instance w.given w.step.grown w.step.inside (on_item z (touched (effect_of d z)) x w.item) (plain_lives w.items z.func (effect_of d z) w.given w.plainly) in
        record {
          member = w.id;
          got = ap (got_by d t x w.id (lock_ahead w.id)) (tx.whole w.id w.step.member ∙ w.step.made)
              ∙ or_left (got_before d t x w.id w.step.instance) (lock_ahead w.id && is_on t x w.step.instance.func (tx_now d w.id w.step.instance) (effect_of d w.step.instance)) got;
        }

    module _ (m : Rows) (matches : Matches d m histories lock_ahead) where
      -- what it got it owns
      pub got_owned : Got d histories lock_ahead t x → (content_of m x).owner ≡ Some (Tx t)
      got_owned g = (matches.txs x).got_is_owned t g not_ended

      pub touched_owned : TouchedIn d t (opened p id q) tx.moves x → (content_of m x).owner ≡ Some (Tx t)
      touched_owned on = got_owned (touched_got on)

      -- what it wrote has a shadow
      written_bare : WrittenIn d t (opened p id q) tx.moves x → shadow_row m t x ≡ None → ⊥
      written_bare on none =
          let w = written_made d t q own refl (opened p id q) tx.moves tx.going x start older tx.leads on in
          let z = w.before in
          let note = noted_at d t x w.id z w.step.instance w.given w.step.grown w.step.inside (plain_note w.items x z.func (effect_of d z) w.given w.plainly w.item) in
          let bare : None ≡ shadow_at d t x w.id (length z.answers) w.step.instance =
          sym (ap (λ (c : Content). note_at c.notes (place_of w.id (length z.answers))) (bare (shadow_chain m t x) (matches.asides t x).linked none)) ∙ matches.shadows t x (place_of w.id (length z.answers)) ∙ ap (expected_shadow d t x w.id (length z.answers)) (tx.whole w.id w.step.member ∙ w.step.made) in
          let clash = ap is_some bare ∙ note in cc

      unwritten_kept : (WrittenIn d t (opened p id q) tx.moves x → ⊥) → value_at tx.going.state x ≡ value_at p x
      unwritten_kept never = ap or_null (kept d t (opened p id q) tx.moves tx.going start.line tx.leads x never)

      -- so what has no shadow was not written, and what it does not own neither
      pub unwritten : shadow_row m t x ≡ None → value_at tx.going.state x ≡ value_at p x
      unwritten none = unwritten_kept (λ w. written_bare w none)

      pub unowned_kept : ((content_of m x).owner ≡ Some (Tx t) → ⊥) → value_at tx.going.state x ≡ value_at p x
      unowned_kept free = unwritten_kept (λ w. free (touched_owned (written_touched d t (opened p id q) tx.moves tx.going x tx.leads w)))

      -- what a read is to find
      pub seen : ShadowShows (is_writing d lock_ahead x tx.going) (shadow_row m t x) (value_at tx.going.state x) → is_writing d lock_ahead x tx.going ≡ false → value_in (shadow_row m t x) (value_at p x) ≡ value_at tx.going.state x
      seen shows off = by_row (shadow_row m t x) refl (last_is_cell (shadow_chain m t x) (matches.asides t x).linked) shows
        where
          by_row : (o : Option Row) → shadow_row m t x ≡ o → IsCellOrNone o → ShadowShows (is_writing d lock_ahead x tx.going) o (value_at tx.going.state x) → value_in o (value_at p x) ≡ value_at tx.going.state x
          by_row None is fits h = sym (unwritten is)
          by_row (Some (Row.Cell c)) is fits (inl e) = absurd (true_false (sym e ∙ off))
          by_row (Some (Row.Cell c)) is fits (inr e) = e
          by_row (Some r) is fits h = absurd fits
