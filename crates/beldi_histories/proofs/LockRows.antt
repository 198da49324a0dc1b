-- The lock of an operation inside, at the front: it is taken, or the operation dies.
use Rattle.beldi_histories.proofs.Names.{Bool, Content, Deployment, Got, Instance, Intent, IntentId, Item, ItemMatches, Histories, List, None, Option, Owner, Place, Some, Tx, TxId, TxsMatch, [], ahead_by, ahead_note, and_from, and_parts, and_right, answered_note, ap, effect_after, effect_of, eq-eqb, eqb-true, false, got_before, got_by, id_cmp, id_eq, id_same, id_total, if◌then◌else◌, is_eq, is_item, is_on, is_owner, is_tx, item_cmp, item_total, length, lock_in, note_at, note_by, note_or, note_pushed, or_left, or_right, other_owner, expected_note, place_eq, place_of, place_same, place_self, refl, subst, sym, tied_itself, touched, true, tx_after, tx_eq, tx_now, ℕ, ◌&&◌, ◌++◌, ◌==◌, ◌||◌, ◌∙◌, ◌∷◌, ◌≡◌, Note}
use Rattle.beldi_histories.proofs.{Frame.step_next, FrameAt.one_place, FrameAt.not_ahead, FrameAt.or_no, FrameAt.or_none, FrameAt.recorded_same, Cases.by_cases, Cases.if_is}
use Rattle.beldi_histories.proofs.Names.map

-- ---- small facts
pub tx_self : (s : TxId) → tx_eq s s ≡ true
tx_self s = ap (λ b. b && (s.func == s.func)) (place_self (place_of s.intent s.begin)) ∙ eq-eqb s.func s.func refl

pub tx_same : (s t : TxId) → tx_eq s t ≡ true → s ≡ t
tx_same s t h =
    let e = and_parts (id_eq s.intent t.intent && (s.begin == t.begin)) (s.func == t.func) h in
    let f = place_same (place_of s.intent s.begin) (place_of t.intent t.begin) e.0 in
    λ i. record { intent = ap (λ (z : Place). z.intent) f i; begin = ap (λ (z : Place). z.step) f i; func = eqb-true s.func t.func e.1 i }

pub is_its : (t : TxId) (o : Option TxId) → is_tx t o ≡ true → o ≡ Some t
is_its t None h = cc
is_its t (Some s) h = ap Some (sym (tx_same t s h))

-- no other owner than the transaction: no intent holds it
owns_none : (s : TxId) (o : Option Owner) (j : IntentId) → other_owner (Tx s) o ≡ None → is_owner o (Intent j) ≡ false
owns_none s None j h = refl
owns_none s (Some (Intent i)) j h = cc
owns_none s (Some (Tx t)) j h = refl

-- .. and no other transaction
pub owned_is : (s t : TxId) (o : Option Owner) → other_owner (Tx s) o ≡ None → o ≡ Some (Tx t) → t ≡ s
owned_is s t o h g = by_cases (tx_eq t s) (tx_same t s) (λ e. let clash = sym (ap (other_owner (Tx s)) g ∙ ap (λ b. if b then None else Some (Tx t)) e) ∙ h in cc)

-- ---- a lock that is ahead
lock_here : (lock_ahead : IntentId → Bool) (id : IntentId) → lock_in lock_ahead id id ≡ true
lock_here lock_ahead id = ap (λ c. if is_eq c then true else lock_ahead id) (tied_itself id_total id)

lock_there : (lock_ahead : IntentId → Bool) (id j : IntentId) → is_eq (id_cmp j id) ≡ false → lock_in lock_ahead id j ≡ lock_ahead j
lock_there lock_ahead id j h = ap (λ c. if c then true else lock_ahead j) h

module _ (d : Deployment) (histories : Histories) (lock_ahead : IntentId → Bool) (id : IntentId) (q : Instance) (is : map.get histories id ≡ Some q) (unlocked : lock_ahead id ≡ false)
    (s : TxId) (inside : tx_now d id q ≡ Some s) (o : ℕ × List ℕ) (touch : touched (effect_of d q) ≡ Some o) where
  abbrev n : ℕ
  n = length q.answers

  abbrev p : Place
  p = place_of id n

  abbrev item : Item
  item = record { func = q.func; table = o.0; key = o.1 }

  on_item : (x : Item) → is_item x q.func (touched (effect_of d q)) ≡ is_eq (item_cmp item x)
  on_item x = ap (is_item x q.func) touch

  on_it : is_item item q.func (touched (effect_of d q)) ≡ true
  on_it = on_item item ∙ ap is_eq (tied_itself item_total item)

  is_on_it : (t : TxId) (x : Item) → is_on t x q.func (tx_now d id q) (effect_of d q) ≡ (tx_eq t s && is_eq (item_cmp item x))
  is_on_it t x = ap (λ z. is_tx t z && is_item x q.func (touched (effect_of d q))) inside ∙ ap (λ b. tx_eq t s && b) (on_item x)

  -- ---- LockCell Did: the note of the lock is ahead of its answer, and all else that is expected stays
  abbrev taken : IntentId → Bool
  taken = lock_in lock_ahead id

  ahead_more : (x : Item) (m : ℕ) → expected_note d x id (taken id) m (Some q) ≡ (if m == n then (if is_item x q.func (touched (effect_of d q)) then Some Note.Got else None) else expected_note d x id (lock_ahead id) m (Some q))
  ahead_more x m =
      ap (λ b. expected_note d x id b m (Some q)) (lock_here lock_ahead id)
      ∙ ap (λ t. note_or (answered_note d x id m q) (if m == n then ahead_by x q.func t (effect_of d q) true else None)) inside
      ∙ sym (if_is (m == n)
      (λ e. sym (ap (λ b. note_or (answered_note d x id m q) (if b then (if is_item x q.func (touched (effect_of d q)) then Some Note.Got else None) else None)) e
      ∙ ap (λ z. note_or z (if is_item x q.func (touched (effect_of d q)) then Some Note.Got else None)) (subst (λ k. answered_note d x id k q ≡ None) (sym (eqb-true m n e)) (step_next (λ ts a. note_by x q.func (tx_after d id q ts) (effect_after d q ts) a) q.answers))))
      (λ e. ap (λ b. note_or (answered_note d x id m q) (if b then ahead_by x q.func (tx_now d id q) (effect_of d q) (lock_ahead id) else None)) e ∙ sym (ap (λ b. note_or (answered_note d x id m q) (if b then (if is_item x q.func (touched (effect_of d q)) then Some Note.Got else None) else None)) e)))

  pub note_ahead : (x : Item) (a : Place) → expected_note d x a.intent (taken a.intent) a.step (map.get histories a.intent) ≡ (if place_eq p a then (if is_item x q.func (touched (effect_of d q)) then Some Note.Got else None) else expected_note d x a.intent (lock_ahead a.intent) a.step (map.get histories a.intent))
  note_ahead x a = ap (expected_note d x a.intent (taken a.intent) a.step) (sym (recorded_same histories id q is a.intent))
      ∙ one_place histories id q q is (λ j m z. expected_note d x j (lock_ahead j) m z) (λ j m z. expected_note d x j (taken j) m z) (λ j other m z. ap (λ b. expected_note d x j b m z) (lock_there lock_ahead id j other)) n
      (if is_item x q.func (touched (effect_of d q)) then Some Note.Got else None) (ahead_more x) a

  -- nothing was expected there before
  expected_before : (x : Item) → expected_note d x id (lock_ahead id) n (map.get histories id) ≡ None
  expected_before x = ap (expected_note d x id (lock_ahead id) n) is ∙ ap (λ b. note_or (answered_note d x id n q) (ahead_note d x id b n q)) unlocked ∙ ap (note_or (answered_note d x id n q)) (not_ahead d x id n q) ∙ or_none (answered_note d x id n q)
      ∙ step_next (λ ts a. note_by x q.func (tx_after d id q ts) (effect_after d q ts) a) q.answers

  -- what is got: this item by this transaction, and what was
  got_of : (t : TxId) (x : Item) → got_by d t x id (taken id) (map.get histories id) ≡ (got_before d t x id q || (tx_eq t s && is_eq (item_cmp item x)))
  got_of t x = ap (λ b. got_by d t x id b (map.get histories id)) (lock_here lock_ahead id) ∙ ap (got_by d t x id true) is ∙ ap (λ b. got_before d t x id q || b) (is_on_it t x)

  pub got_more : (t : TxId) (x : Item) → Got d histories lock_ahead t x → Got d histories taken t x
  got_more t x g = record {
    member = g.member;
    got = by_cases (is_eq (id_cmp g.member id)) (λ e. subst (λ j. got_by d t x j (taken j) (map.get histories j) ≡ true) (sym (id_same g.member id e))
        (got_of t x ∙ or_left (got_before d t x id q) (tx_eq t s && is_eq (item_cmp item x)) (sym (or_no (got_before d t x id q)) ∙ sym (ap (got_by d t x id (lock_ahead id)) is ∙ ap (λ b. got_before d t x id q || (b && is_on t x q.func (tx_now d id q) (effect_of d q))) unlocked)
        ∙ subst (λ j. got_by d t x j (lock_ahead j) (map.get histories j) ≡ true) (id_same g.member id e) g.got)))
        (λ e. ap (λ b. got_by d t x g.member b (map.get histories g.member)) (lock_there lock_ahead id g.member e) ∙ g.got);
  }

  -- .. and no more
  pub got_less : (t : TxId) (x : Item) → Got d histories taken t x → (tx_eq t s && is_eq (item_cmp item x)) ≡ false → Got d histories lock_ahead t x
  got_less t x g apart = record {
    member = g.member;
    got = by_cases (is_eq (id_cmp g.member id)) (λ e. subst (λ j. got_by d t x j (lock_ahead j) (map.get histories j) ≡ true) (sym (id_same g.member id e))
        (ap (got_by d t x id (lock_ahead id)) is ∙ or_left (got_before d t x id q) (lock_ahead id && is_on t x q.func (tx_now d id q) (effect_of d q))
        (sym (got_of t x ∙ ap (λ b. got_before d t x id q || b) apart ∙ or_no (got_before d t x id q)) ∙ subst (λ j. got_by d t x j (taken j) (map.get histories j) ≡ true) (id_same g.member id e) g.got)))
        (λ e. sym (ap (λ b. got_by d t x g.member b (map.get histories g.member)) (lock_there lock_ahead id g.member e)) ∙ g.got);
  }

  -- its item's content
  module _ (c : Content) (none : note_at c.notes p ≡ None) (free : other_owner (Tx s) c.owner ≡ None) where
    abbrev locked_content : Content
    locked_content = record { value = c.value; owner = Some (Tx s); notes = c.notes ++ (p, Note.Got) ∷ [] }

    pub lock_taken : ItemMatches d histories lock_ahead item c → ItemMatches d histories taken item locked_content
    lock_taken h = record {
      owner = λ j. sym (owns_none s c.owner j free) ∙ h.owner j;
      notes = λ a apart. note_pushed c.notes p a Note.Got none ∙ ap (λ z. if place_eq p a then z else note_at c.notes a) (sym (ap (λ b. if b then Some Note.Got else None) on_it))
          ∙ ap (λ z. if place_eq p a then (if is_item item q.func (touched (effect_of d q)) then Some Note.Got else None) else z) (h.notes a apart) ∙ sym (note_ahead item a);
    }

    pub txs_taken : TxsMatch d histories lock_ahead item c.owner → TxsMatch d histories taken item (Some (Tx s))
    txs_taken h = record {
      owned_is_got = λ t e. let same : s ≡ t = cc in record { member = id; got = got_of t item ∙ or_right (got_before d t item id q) (tx_eq t s && is_eq (item_cmp item item)) (and_from (tx_eq t s) (is_eq (item_cmp item item)) (subst (λ z. tx_eq z s ≡ true) same (tx_self s)) (ap is_eq (tied_itself item_total item))) };
      got_is_owned = λ t g open_still. ap (λ z. Some (Tx z)) (sym (by_cases (tx_eq t s) (tx_same t s) (λ e. owned_is s t c.owner free (h.got_is_owned t (got_less t item g (ap (λ b. b && is_eq (item_cmp item item)) e)) open_still))));
    }

  -- all other items
  pub lock_kept : (x : Item) (c : Content) → is_eq (item_cmp item x) ≡ false → ItemMatches d histories lock_ahead x c → ItemMatches d histories taken x c
  lock_kept x c other h = record {
    owner = h.owner;
    notes = λ a apart. h.notes a apart ∙ sym (note_ahead x a ∙ if_is (place_eq p a) (λ e. subst (λ (z : Place). (if is_item x q.func (touched (effect_of d q)) then Some Note.Got else None) ≡ expected_note d x z.intent (lock_ahead z.intent) z.step (map.get histories z.intent)) (place_same p a e)
        (ap (λ b. if b then Some Note.Got else None) (on_item x ∙ other) ∙ sym (expected_before x))) (λ e. refl));
  }

  pub txs_kept : (x : Item) (c : Option Owner) → is_eq (item_cmp item x) ≡ false → TxsMatch d histories lock_ahead x c → TxsMatch d histories taken x c
  txs_kept x c other h = record {
    owned_is_got = λ t e. got_more t x (h.owned_is_got t e);
    got_is_owned = λ t g open_still. h.got_is_owned t (got_less t x g (ap (λ b. tx_eq t s && b) other ∙ and_right (tx_eq t s) false refl)) open_still;
  }
