-- The front acts of operations inside, by their effects; and a release.
use Rattle.beldi_histories.proofs.Names.{Answer, Bool, ChangedAlone, Content, Deployment, Effect, Instance, Intent, IntentId, IsAside, IsLinked, IsLinkedItem, Item, ItemMatches, Histories, List, LockedOut, Matches, None, Note, Option, Place, Rel, Row, Rows, ShadowMatches, Some, Tx, TxId, TxsMatch, Value, [], ap, arith, begins_at, content, content_in, content_of, effect_of, eq-eqb, false, head_key, if◌then◌else◌, is_eq, is_item, is_mark, is_none, is_open, is_owner, is_some, is_tx, item_cmp, item_total, length, lockset_ahead, lockset_key, log_key, advanced, not, note_at, note_of, note_pushed, or_right, expected_lockset, place_eq, place_of, place_same, refl, row_added, set_row, shadow_by, shadow_chain, shadow_key, shadow_of, shadow_row, subst, sym, tied_itself, touched, true, tx_end, tx_eq, tx_now, txs_after, with_note, write_op, ℕ, ◌&&◌, ◌++◌, ◌==◌, ◌∙◌, ◌∷◌, ◌≡◌}
use Rattle.beldi_histories.proofs.Acts.{read_answered, write_answered, lock_died, log_set, head_at, other_aside, by_aside, shadow_at}
use Rattle.beldi_links.proofs.Last.{bare}
use Rattle.beldi_histories.proofs.{Answers.true_false, Frame.moved_one, Frame.no_shadow, LockRows.tx_self, Cases.if_is, Cases.if_same}
use Rattle.beldi_histories.proofs.Names.map

module _ (d : Deployment) (histories : Histories) (lock_ahead unlocked : IntentId → Bool) (id : IntentId) (q : Instance) (is : map.get histories id ≡ Some q) (out : LockedOut lock_ahead unlocked id)
    (s : TxId) (inside : tx_now d id q ≡ Some s) (m : Rows) (h : Matches d m histories lock_ahead) (t : ℕ) (k : List ℕ) where
  abbrev item : Item
  item = record { func = q.func; table = t; key = k }

  abbrev place : Place
  place = place_of id (length q.answers)

  abbrev HasLockset : Type 0
  HasLockset = map.get m (lockset_key id s.begin item) ≡ Some Row.Lockset

  -- a read
  pub read_inside : (v : Value) → effect_of d q ≡ Effect.Read t k → HasLockset → lock_ahead id ≡ true
      → Matches d (set_row m (log_key q.func place) (Some (Row.ReadLog v))) (map.insert histories id (advanced d id q (Answer.Value v))) unlocked
  read_inside v wants lockset was = read_answered d histories lock_ahead unlocked id q (advanced d id q (Answer.Value v)) (Answer.Value v) is (moved_one d id q (Answer.Value v)) out s inside (t, k) (ap touched wants) m lockset h
      v (ap (λ e. row_added (length q.answers) (txs_after d q q.answers).begun e (Answer.Value v)) wants) was refl
      (λ u x. ap (λ e. shadow_by u x q.func (tx_now d id q) e (Answer.Value v)) wants ∙ no_shadow u x q.func (tx_now d id q) (Effect.Read t k) (Answer.Value v) refl)

  -- a write of the shadow's row, plain or tested
  noted : (e : Effect) (a : Answer) (w : Note) → effect_of d q ≡ e → note_of item q.func (write_op e) a ≡ Some w → shadow_by s item q.func (tx_now d id q) (effect_of d q) a ≡ Some w
  noted e a w wants note = ap (λ z. if is_tx s z then note_of item q.func (write_op (effect_of d q)) a else None) inside ∙ ap (λ b. if b then note_of item q.func (write_op (effect_of d q)) a else None) (tx_self s) ∙ ap (λ z. note_of item q.func (write_op z) a) wants ∙ note

  apart : (e : Effect) (a : Answer) (n : Option Note) → effect_of d q ≡ e → ((x : Item) → note_of x q.func (write_op e) a ≡ (if is_eq (item_cmp item x) then n else None)) → (u : TxId) (x : Item) → (tx_eq u s && is_eq (item_cmp item x)) ≡ false
      → shadow_by u x q.func (tx_now d id q) (effect_of d q) a ≡ None
  apart e a n wants notes u x h = ap (λ z. if is_tx u z then note_of x q.func (write_op (effect_of d q)) a else None) inside ∙ ap (λ z. if tx_eq u s then note_of x q.func (write_op z) a else None) wants ∙ ap (λ z. if tx_eq u s then z else None) (notes x) ∙ by_tests (tx_eq u s) (is_eq (item_cmp item x)) n h
    where
      by_tests : (b c : Bool) (m : Option Note) → (b && c) ≡ false → (if b then (if c then m else None) else None) ≡ None
      by_tests b c m g = grind arith

  pub write_inside : (v : Value) (n : Rows) → effect_of d q ≡ Effect.Write t k v → HasLockset → lock_ahead id ≡ true → ChangedAlone (shadow_key s item) m n → IsLinked (shadow_chain n s item) → note_at (shadow_of m s item).notes place ≡ None
      → shadow_of n s item ≡ record { value = v; owner = (shadow_of m s item).owner; notes = (shadow_of m s item).notes ++ (place, Note.Wrote) ∷ [] }
      → Matches d n (map.insert histories id (advanced d id q Answer.Done)) unlocked
  write_inside v n wants lockset was alone linked none same = write_answered d histories lock_ahead unlocked id q (advanced d id q Answer.Done) Answer.Done is (moved_one d id q Answer.Done) out s inside (t, k) (ap touched wants) m lockset h
      n Note.Wrote alone linked (ap (λ e. row_added (length q.answers) (txs_after d q q.answers).begun e Answer.Done) wants) was refl
      (noted (Effect.Write t k v) Answer.Done Note.Wrote wants (ap (λ b. if is_eq b then Some Note.Wrote else None) (tied_itself item_total item)))
      (apart (Effect.Write t k v) Answer.Done (Some Note.Wrote) wants (λ x. refl)) none v same

  pub test_inside : (u : Rel) (y v : Value) (n : Rows) (b : Bool) → effect_of d q ≡ Effect.CondWrite t k u y v → HasLockset → lock_ahead id ≡ true → ChangedAlone (shadow_key s item) m n → IsLinked (shadow_chain n s item) → note_at (shadow_of m s item).notes place ≡ None
      → (w : Value) → shadow_of n s item ≡ record { value = w; owner = (shadow_of m s item).owner; notes = (shadow_of m s item).notes ++ (place, Note.Cond b) ∷ [] }
      → Matches d n (map.insert histories id (advanced d id q (Answer.Value (Value.Bool b)))) unlocked
  test_inside u y v n b wants lockset was alone linked none w same = let a = Answer.Value (Value.Bool b) in
      write_answered d histories lock_ahead unlocked id q (advanced d id q a) a is (moved_one d id q a) out s inside (t, k) (ap touched wants) m lockset h
      n (Note.Cond b) alone linked (ap (λ e. row_added (length q.answers) (txs_after d q q.answers).begun e a) wants) was refl
      (noted (Effect.CondWrite t k u y v) a (Note.Cond b) wants (ap (λ c. if is_eq c then Some (Note.Cond b) else None) (tied_itself item_total item)))
      (apart (Effect.CondWrite t k u y v) a (Some (Note.Cond b)) wants (λ x. refl)) none w same

  -- a death, of any of them
  pub dies_inside : (holder : IntentId) (n : Rows) → touched (effect_of d q) ≡ Some (t, k) → HasLockset → lock_ahead id ≡ false → ChangedAlone (head_key item) m n → IsLinkedItem n item → note_at (content_of m item).notes place ≡ None
      → content_of n item ≡ with_note (content_of m item) place (Note.Died holder)
      → Matches d n (map.insert histories id (advanced d id q (Answer.Aborted (record { place = place; holder = Some holder })))) unlocked
  dies_inside holder n touch lockset was alone linked none same = let a = Answer.Aborted (record { place = place; holder = Some holder }) in
      lock_died d histories lock_ahead unlocked id q (advanced d id q a) a is (moved_one d id q a) out s inside (t, k) touch m lockset h
      n holder alone linked (no_row (effect_of d q) touch) refl was (λ u x. by_effect u x (effect_of d q) touch) none same
    where
      none_both : (b c : Bool) → ◌≡◌ {A = Option Note} (if b then (if c then None else None) else None) None
      none_both b c = ap (λ o. if b then o else None) (if_same c None) ∙ if_same b None

      no_row : (e : Effect) → touched e ≡ Some (t, k) → row_added (length q.answers) (txs_after d q q.answers).begun e (Answer.Aborted (record { place = place; holder = Some holder })) ≡ None
      no_row (Effect.Read t k) g = refl
      no_row (Effect.End c) g = cc
      no_row e g = elim (txs_after d q q.answers).begun as (λ o. row_added (length q.answers) o e (Answer.Aborted (record { place = place; holder = Some holder })) ≡ None) [ None ↦ refl | Some b ↦ refl ]

      by_effect : (u : TxId) (x : Item) (e : Effect) → touched e ≡ Some (t, k) → shadow_by u x q.func (tx_now d id q) e (Answer.Aborted (record { place = place; holder = Some holder })) ≡ None
      by_effect u x (Effect.Read b y) g = no_shadow u x q.func (tx_now d id q) (Effect.Read b y) (Answer.Aborted (record { place = place; holder = Some holder })) refl
      by_effect u x (Effect.Write b y v) g = none_both (is_tx u (tx_now d id q)) (is_eq (item_cmp (record { func = q.func; table = b; key = y }) x))
      by_effect u x (Effect.CondWrite b y w o v) g = none_both (is_tx u (tx_now d id q)) (is_eq (item_cmp (record { func = q.func; table = b; key = y }) x))
      by_effect u x e g = cc

-- ---- a release: the item's owner goes, and a note at a mark comes
module _ (d : Deployment) (histories : Histories) (lock_ahead : IntentId → Bool) (x : Item) (c : Content) (s : TxId) (owned : c.owner ≡ Some (Tx s)) (z : ℕ × Bool) (decided : tx_end d histories s ≡ Some z) where
  pub item_released : (p : Place) (v : Value) → is_mark d histories p.step (map.get histories p.intent) ≡ true → note_at c.notes p ≡ None → ItemMatches d histories lock_ahead x c
      → ItemMatches d histories lock_ahead x (record { value = v; owner = None; notes = c.notes ++ (p, Note.Freed) ∷ [] })
  item_released p v mark none h = record {
    owner = λ j. sym (ap (λ o. is_owner o (Intent j)) owned) ∙ h.owner j;
    notes = λ a apart. note_pushed c.notes p a Note.Freed none ∙ if_is (place_eq p a) (λ e. absurd (true_false (sym mark ∙ ap (λ (y : Place). is_mark d histories y.step (map.get histories y.intent)) (place_same p a e) ∙ apart))) (λ e. h.notes a apart);
  }

  pub txs_released : TxsMatch d histories lock_ahead x c.owner → TxsMatch d histories lock_ahead x None
  txs_released h = record {
    owned_is_got = λ t e. cc;
    got_is_owned = λ t g open_still. let k : Some (Tx s) ≡ Some (Tx t) = sym owned ∙ h.got_is_owned t g open_still in let same : s ≡ t = cc in let e = sym open_still ∙ ap (tx_end d histories) (sym same) ∙ decided in cc;
  }

-- .. and the rows
pub released : (d : Deployment) (m : Rows) (histories : Histories) (lock_ahead : IntentId → Bool) (x : Item) (s : TxId) (z : ℕ × Bool) (p : Place) (w : Value) (n : Rows) → (content_of m x).owner ≡ Some (Tx s) → tx_end d histories s ≡ Some z → is_mark d histories p.step (map.get histories p.intent) ≡ true
    → note_at (content_of m x).notes p ≡ None → ChangedAlone (head_key x) m n → IsLinkedItem n x → content_of n x ≡ record { value = w; owner = None; notes = (content_of m x).notes ++ (p, Note.Freed) ∷ [] } → Matches d m histories lock_ahead → Matches d n histories lock_ahead
released d m histories lock_ahead x s z p w n owned decided mark none alone linked same h = head_at d histories lock_ahead m n x _ alone same linked h.keys h.chains h.asides (item_released d histories lock_ahead x (content_of m x) s owned z decided p w mark none (h.items x)) (λ y other. h.items y) h.shadows
    (txs_released d histories lock_ahead x (content_of m x) s owned z decided (h.txs x)) (λ y other. h.txs y)

-- ---- the front acts that answer nothing
module _ (d : Deployment) (histories : Histories) (lock_ahead : IntentId → Bool) (m : Rows) (h : Matches d m histories lock_ahead) where
  -- a lockset row, ahead of its answer
  pub lockset_put : (id : IntentId) (q : Instance) (s : TxId) (o : ℕ × List ℕ) → map.get histories id ≡ Some q → q.outcome ≡ None → tx_now d id q ≡ Some s → tx_end d histories s ≡ None → touched (effect_of d q) ≡ Some o
      → Matches d (set_row m (lockset_key id s.begin (record { func = q.func; table = o.0; key = o.1 })) (Some Row.Lockset)) histories lock_ahead
  lockset_put id q s o is none inside open_still touch = let x : Item = record { func = q.func; table = o.0; key = o.1 } in
      log_set d histories lock_ahead m (lockset_key id s.begin x) (Some Row.Lockset) refl (or_right (expected_lockset d s.begin x id (map.get histories id)) (lockset_ahead d histories s.begin x id (map.get histories id)) ahead) (λ l other. h.keys l) h.chains h.asides h.items h.shadows h.txs
    where
      ahead : lockset_ahead d histories s.begin (record { func = q.func; table = o.0; key = o.1 }) id (map.get histories id) ≡ true
      ahead = ap (lockset_ahead d histories s.begin (record { func = q.func; table = o.0; key = o.1 }) id) is
          ∙ ap (λ z. is_none z && (is_open d histories (tx_now d id q) && (begins_at s.begin (tx_now d id q) && is_item (record { func = q.func; table = o.0; key = o.1 }) q.func (touched (effect_of d q))))) none
          ∙ ap (λ z. is_open d histories z && (begins_at s.begin z && is_item (record { func = q.func; table = o.0; key = o.1 }) q.func (touched (effect_of d q)))) inside
          ∙ ap (λ z. not (is_some z) && ((s.begin == s.begin) && is_item (record { func = q.func; table = o.0; key = o.1 }) q.func (touched (effect_of d q)))) open_still
          ∙ ap (λ b. b && is_item (record { func = q.func; table = o.0; key = o.1 }) q.func (touched (effect_of d q))) (eq-eqb s.begin s.begin refl)
          ∙ ap (is_item (record { func = q.func; table = o.0; key = o.1 }) q.func) touch ∙ ap is_eq (tied_itself item_total (record { func = q.func; table = o.0; key = o.1 }))

  -- a shadow with the same notes, and nobody's
  pub shadow_kept : (s : TxId) (x : Item) (n : Rows) → ChangedAlone (shadow_key s x) m n → IsAside (shadow_chain n s x) → (shadow_of n s x).notes ≡ (shadow_of m s x).notes → Matches d n histories lock_ahead
  shadow_kept s x n alone free same = shadow_at d histories lock_ahead m n s x alone free h.keys h.chains h.asides h.items
      (by_aside m n s x alone (λ t y. ShadowMatches d histories t y (shadow_of n t y)) (λ a. ap (λ ns. note_at ns a) same ∙ h.shadows s x a)
      (λ t y off. subst (λ z. ShadowMatches d histories t y (content z)) (sym (other_aside m n s x alone t y off)) (h.shadows t y))) h.txs

  -- the first row of a shadow, without notes
  pub shadow_made : (s : TxId) (x : Item) (n : Rows) → ChangedAlone (shadow_key s x) m n → IsAside (shadow_chain n s x) → shadow_row m s x ≡ None → (shadow_of n s x).notes ≡ [] → Matches d n histories lock_ahead
  shadow_made s x n alone free absent empty = shadow_kept s x n alone free (empty ∙ sym (ap (λ (c : Content). c.notes) none))
    where
      none : shadow_of m s x ≡ content_in None
      none = bare (shadow_chain m s x) (h.asides s x).linked absent
