-- An operation outside transactions, over what the histories have: by the same frame.
use Rattle.beldi_histories.proofs.Names.{Answer, AnswersOne, Bool, CellOp, Content, Deployment, DoneRows, Effect, Instance, IntentId, Item, ItemMatches, Kind, Histories, LockedOut, Matches, None, OnItem, Option, Owner, Place, Row, RowMatches, Rows, ShadowMatches, Some, TxId, TxsMatch, Value, and_right, answer_after, ap, asks_lock, barred, begins_at, commit_in, content_of, done_to, effect_of, false, got_before, got_by, held_by, held_if, holds, if◌then◌else◌, inl, inr, is_aborted, is_eq, is_item, is_mark, is_none, is_on, is_open, is_owner, is_tx, item_cmp, item_in, item_total, key_cmp, length, lock_note, log_key, not, note_after, note_at, note_by, note_of, note_pushed, noted, op_of, expected_read, owner_after, place_eq, place_of, refl, row_added, set_row, shadow_by, shadow_of, subst, sym, tied_itself, touched, tx_now, txs_after, write_op, ℕ, ◌&&◌, ◌||◌, ◌∙◌, ◌≡◌, ◌⊎◌}
use Rattle.beldi_histories.proofs.FrameAt.{holds_one, note_one, got_one, note_same, read_none, read_here, item_alike, txs_alike, none_out}
use Rattle.beldi_histories.proofs.{Acts.log_set, Acts.head_at, Owners.IsFreeFor, Owners.unbarred, ItemOperations.Does, Pending.row_by, Pending.mark_same, Pending.tx_end_same, Pending.shadow_kept, Pending.locksets_kept, Pending.read_elsewhere, Cases.if_same}
use Rattle.beldi_histories.proofs.Names.map

-- ---- an answer outside, or to an effect that touches no item, but to an End: what it leaves of all that it does not answer
-- no item is touched inside
abbrev pub IsAway : Deployment → IntentId → Instance → Type 0
IsAway d id q = (tx_now d id q ≡ None) ⊎ (touched (effect_of d q) ≡ None)

module _ (d : Deployment) (histories : Histories) (lock_ahead : IntentId → Bool) (id : IntentId) (q r : Instance) (a : Answer) (is : map.get histories id ≡ Some q) (unlocked : lock_ahead id ≡ false)
    (away : IsAway d id q) (quiet : commit_in (effect_of d q) ≡ None) (one : AnswersOne d id q a r) where
  abbrev after : Histories
  after = map.insert histories id r

  out : LockedOut lock_ahead lock_ahead id
  out = none_out lock_ahead id unlocked

  unmarked : (b : Place) → is_mark d after b.step (map.get after b.intent) ≡ false → is_mark d histories b.step (map.get histories b.intent) ≡ false
  unmarked b apart = sym (mark_same d histories lock_ahead lock_ahead id q r a is one out quiet b) ∙ apart

  -- nothing is got by it
  on_none : (t : TxId) (x : Item) → is_on t x q.func (tx_now d id q) (effect_of d q) ≡ false
  on_none t x = elim away [
    | inl outside ↦ ap (λ s. is_on t x q.func s (effect_of d q)) outside
    | inr none ↦ ap (λ o. is_tx t (tx_now d id q) && is_item x q.func o) none ∙ and_right (is_tx t (tx_now d id q)) false refl
  ]

  got_same : (t : TxId) (x : Item) (j : IntentId) → got_by d t x j (lock_ahead j) (map.get after j) ≡ got_by d t x j (lock_ahead j) (map.get histories j)
  got_same t x = got_one d histories id q r a is one lock_ahead lock_ahead out t x (λ j u. u ≡ got_by d t x j (lock_ahead j) (map.get histories j))
      (ap (λ z. got_before d t x id q || (z && not (is_aborted a))) (on_none t x)
      ∙ sym (ap (got_by d t x id (lock_ahead id)) is ∙ ap (λ z. got_before d t x id q || (z && is_on t x q.func (tx_now d id q) (effect_of d q))) unlocked)) (λ j other. refl)

  pub txs_done : (x : Item) (was now : Option Owner) → ((t : TxId) → was ≡ Some (Owner.Tx t) → ⊥) → ((t : TxId) → now ≡ Some (Owner.Tx t) → ⊥) → TxsMatch d histories lock_ahead x was → TxsMatch d after lock_ahead x now
  txs_done x was now no_tx still h = record {
    owned_is_got = λ t e. absurd (still t e);
    got_is_owned = λ t g open_still. absurd (no_tx t (h.got_is_owned t (record { member = g.member; got = sym (got_same t x g.member) ∙ g.got }) (sym (tx_end_same d histories lock_ahead lock_ahead id q r a is one out quiet t) ∙ open_still)));
  }

  pub txs_kept : (x : Item) (c : Option Owner) → TxsMatch d histories lock_ahead x c → TxsMatch d after lock_ahead x c
  txs_kept x = txs_alike d histories after lock_ahead lock_ahead x (λ t. got_same t x) (λ t e. sym (tx_end_same d histories lock_ahead lock_ahead id q r a is one out quiet t) ∙ e)

  shadows_kept : (t : TxId) (x : Item) (c : Content) → ShadowMatches d histories t x c → ShadowMatches d after t x c
  shadows_kept t x c h = shadow_kept d histories lock_ahead lock_ahead id q r a is one out t x c none h
    where
      no_write : (e : Effect) → touched e ≡ None → write_op e ≡ None
      no_write (Effect.Write u k v) g = cc
      no_write (Effect.CondWrite u k z o v) g = cc
      no_write e g = refl

      none : shadow_by t x q.func (tx_now d id q) (effect_of d q) a ≡ None
      none = elim away [
        | inl outside ↦ ap (λ s. shadow_by t x q.func s (effect_of d q) a) outside
        | inr apart ↦ ap (λ o. if is_tx t (tx_now d id q) then note_of x q.func o a else None) (no_write (effect_of d q) apart) ∙ if_same (is_tx t (tx_now d id q)) None
      ]

  -- every row, but that of a read
  pub row_kept : (home : ℕ) (kind : Kind) (row : Option Row) → ((b : Place) → kind ≡ Kind.ReadLog b → expected_read d after home b ≡ expected_read d histories home b) → RowMatches d histories home kind row → RowMatches d after home kind row
  row_kept home kind row same = row_by d histories lock_ahead lock_ahead id q r a is one out home kind row same (λ j b t k e. let x : Item = record { func = home; table = t; key = k } in
      locksets_kept d histories lock_ahead lock_ahead id q r a is one out quiet b x j row (asks_none b x)
      (ap (λ u. is_none q.outcome && (is_open d histories (tx_now d id q) && u)) (asks_none b x) ∙ and_right (is_none q.outcome) _ (and_right (is_open d histories (tx_now d id q)) false refl)))
    where
      asks_none : (b : ℕ) (x : Item) → asks_lock b x q.func (tx_now d id q) (effect_of d q) ≡ false
      asks_none b x = elim away [
        | inl outside ↦ ap (λ s. asks_lock b x q.func s (effect_of d q)) outside
        | inr none ↦ ap (λ o. begins_at b (tx_now d id q) && is_item x q.func o) none ∙ and_right (begins_at b (tx_now d id q)) false refl
      ]

  -- an item, where the effect is no operation
  pub item_same : op_of (effect_of d q) ≡ None → (x : Item) (c : Content) → ItemMatches d histories lock_ahead x c → ItemMatches d after lock_ahead x c
  item_same none x = item_alike d histories after lock_ahead lock_ahead x
      (holds_one d histories id q r a is one x (λ j b. b ≡ holds d x (map.get histories j)) (ap (λ z. held_if x q.func z (holds d x (map.get histories id))) none) (λ j apart. refl)) unmarked (note_same d histories id q r a is one lock_ahead lock_ahead out x no_note unlocked)
    where
      by_tx : touched (effect_of d q) ≡ None → (t : Option TxId) → note_by x q.func t (effect_of d q) a ≡ None
      by_tx apart None = ap (λ z. note_of x q.func z a) none
      by_tx apart (Some t) = ap (λ o. if is_item x q.func o then lock_note a else None) apart

      no_note : note_by x q.func (tx_now d id q) (effect_of d q) a ≡ None
      no_note = elim away [
        | inl outside ↦ ap (λ t. note_by x q.func t (effect_of d q) a) outside ∙ ap (λ z. note_of x q.func z a) none
        | inr apart ↦ by_tx apart (tx_now d id q)
      ]

  -- an answer to a call leaves all rows as they are
  pub call_answered : op_of (effect_of d q) ≡ None → row_added (length q.answers) (txs_after d q q.answers).begun (effect_of d q) a ≡ None → (m : Rows) → Matches d m histories lock_ahead → Matches d m after lock_ahead
  call_answered none added m h = record {
    keys = λ l. row_kept l.home l.kind (map.get m l) (λ b kind. read_none d histories id q r a is one added l.home b) (h.keys l);
    chains = h.chains;
    asides = h.asides;
    items = λ x. item_same none x (content_of m x) (h.items x);
    shadows = λ t x. shadows_kept t x (shadow_of m t x) (h.shadows t x);
    txs = λ x. txs_kept x (content_of m x).owner (h.txs x);
  }

  -- the row of a read is added with its answer
  pub read_added : (m : Rows) (v : Value) → op_of (effect_of d q) ≡ None → row_added (length q.answers) (txs_after d q q.answers).begun (effect_of d q) a ≡ Some (length q.answers, v) → Matches d m histories lock_ahead
      → Matches d (set_row m (log_key q.func (place_of id (length q.answers))) (Some (Row.ReadLog v))) after lock_ahead
  read_added m v none added h = let k = log_key q.func (place_of id (length q.answers)) in
      log_set d after lock_ahead m k (Some (Row.ReadLog v)) refl (subst (λ z. z ≡ Some v) (sym (read_here d histories id q r a is one (length q.answers) v added)) refl)
      (λ l other. row_kept l.home l.kind (map.get m l) (λ b kind. read_elsewhere d histories lock_ahead lock_ahead id q r a is one out (length q.answers) v added l.home b (subst (λ (z : Kind). is_eq (key_cmp (record { home = l.home; kind = z }) k) ≡ false) kind other)) (h.keys l)) h.chains h.asides
      (λ x. item_same none x (content_of m x) (h.items x)) (λ t x. shadows_kept t x (shadow_of m t x) (h.shadows t x)) (λ x. txs_kept x (content_of m x).owner (h.txs x))

-- ---- an operation
op_quiet : (e : Effect) (o : OnItem) → op_of e ≡ Some o → commit_in e ≡ None
op_quiet (Effect.End c) o h = cc
op_quiet e o h = refl

op_adds_none : (n : ℕ) (b : Option ℕ) (e : Effect) (o : OnItem) (a : Answer) → op_of e ≡ Some o → row_added n b e a ≡ None
op_adds_none n b (Effect.Read t k) o a h = cc
op_adds_none n b (Effect.End c) o a h = cc
op_adds_none n b e o a h = elim b as (λ c. row_added n c e a ≡ None) [ None ↦ refl | Some c ↦ refl ]

-- who owns its item then is no transaction, nor was one before
pub no_tx : (id : IntentId) (was : Option Owner) → IsFreeFor id was → (t : TxId) → was ≡ Some (Owner.Tx t) → ⊥
no_tx id was (inl is) t e = let k = sym is ∙ e in cc
no_tx id was (inr is) t e = let k = sym is ∙ e in cc

pub free_after : (op : CellOp) (id : IntentId) (was : Option Owner) → barred op (Owner.Intent id) was ≡ None → IsFreeFor id (owner_after op (Owner.Intent id) was)
free_after (CellOp.Write v) id was h = unbarred (CellOp.Write v) id was h
free_after (CellOp.Cond u o v) id was h = unbarred (CellOp.Cond u o v) id was h
free_after CellOp.Lock id was h = inr refl
free_after (CellOp.Free v) id was h = inl refl

module _ (d : Deployment) (histories : Histories) (lock_ahead : IntentId → Bool) (id : IntentId) (q r : Instance) (w : Value) (o : OnItem) (op : CellOp) (does : Does o.does op) (is : map.get histories id ≡ Some q) (unlocked : lock_ahead id ≡ false)
    (outside : tx_now d id q ≡ None) (wants_it : op_of (effect_of d q) ≡ Some o) (one : AnswersOne d id q (answer_after o.does w) r) where
  abbrev a : Answer
  a = answer_after o.does w

  abbrev item : Item
  item = item_in q.func o

  abbrev p : Place
  p = place_of id (length q.answers)

  abbrev who : Owner
  who = Owner.Intent id

  abbrev now : Histories
  now = map.insert histories id r

  still : LockedOut lock_ahead lock_ahead id
  still = none_out lock_ahead id unlocked

  ends_none : commit_in (effect_of d q) ≡ None
  ends_none = op_quiet (effect_of d q) o wants_it

  note_here : (x : Item) → note_by x q.func (tx_now d id q) (effect_of d q) a ≡ (if is_eq (item_cmp item x) then noted o.does a else None)
  note_here x = ap (λ t. note_by x q.func t (effect_of d q) a) outside ∙ ap (λ z. note_of x q.func z a) wants_it

  held_here : (x : Item) (b : Bool) → held_if x q.func (op_of (effect_of d q)) b ≡ (if is_eq (item_cmp item x) then held_by o.does b else b)
  held_here x b = ap (λ z. held_if x q.func z b) wants_it

  -- its item's content
  pub item_done : (c : Content) → c.value ≡ w → note_at c.notes p ≡ None → barred op who c.owner ≡ None → ItemMatches d histories lock_ahead item c → ItemMatches d now lock_ahead item (done_to p who op c)
  item_done c same none free h = record {
    owner = holds_one d histories id q r a is one item (λ j b. is_owner (owner_after op who c.owner) (Owner.Intent j) ≡ b)
        (does.own id c.owner free ∙ ap (held_by o.does) (h.owner id)
        ∙ sym (held_here item (holds d item (map.get histories id)) ∙ ap (λ t. if is_eq t then held_by o.does (holds d item (map.get histories id)) else holds d item (map.get histories id)) (tied_itself item_total item)))
        (λ j other. does.others id c.owner free (Owner.Intent j) other ∙ h.owner j);
    notes = λ b apart. note_pushed c.notes p b (note_after op c.value) none
        ∙ ap (λ n. if place_eq p b then n else note_at c.notes b) (ap (λ v. Some (note_after op v)) same ∙ sym (does.note w) ∙ ap (λ t. if is_eq t then noted o.does a else None) (sym (tied_itself item_total item)) ∙ sym (note_here item))
        ∙ ap (λ n. if place_eq p b then note_by item q.func (tx_now d id q) (effect_of d q) a else n) (h.notes b (unmarked d histories lock_ahead id q r a is unlocked (inl outside) ends_none one b apart))
        ∙ sym (note_one d histories id q r a is one lock_ahead lock_ahead still item b);
  }

  -- all others
  pub item_kept : (x : Item) (c : Content) → is_eq (item_cmp item x) ≡ false → ItemMatches d histories lock_ahead x c → ItemMatches d now lock_ahead x c
  item_kept x c other = item_alike d histories now lock_ahead lock_ahead x
      (holds_one d histories id q r a is one x (λ j b. b ≡ holds d x (map.get histories j)) (held_here x (holds d x (map.get histories id)) ∙ ap (λ t. if t then held_by o.does (holds d x (map.get histories id)) else holds d x (map.get histories id)) other) (λ j apart. refl))
      (unmarked d histories lock_ahead id q r a is unlocked (inl outside) ends_none one) (note_same d histories id q r a is one lock_ahead lock_ahead still x (note_here x ∙ ap (λ t. if t then noted o.does a else None) other) unlocked) c

  -- and the rows
  pub operation_done : (m n : Rows) → DoneRows m n item p op → (content_of m item).value ≡ w → Matches d m histories lock_ahead → Matches d n now lock_ahead
  operation_done m n did value h = let was = (content_of m item).owner in head_at d now lock_ahead m n item (done_to p who op (content_of m item)) did.same did.here did.linked
      (λ l. row_kept d histories lock_ahead id q r a is unlocked (inl outside) ends_none one l.home l.kind (map.get m l) (λ b kind. read_none d histories id q r a is one (op_adds_none (length q.answers) (txs_after d q q.answers).begun (effect_of d q) o a wants_it) l.home b) (h.keys l)) h.chains h.asides
      (item_done (content_of m item) value did.none did.free (h.items item)) (λ x other. item_kept x (content_of m x) other (h.items x)) (λ t x. shadows_kept d histories lock_ahead id q r a is unlocked (inl outside) ends_none one t x (shadow_of m t x) (h.shadows t x))
      (txs_done d histories lock_ahead id q r a is unlocked (inl outside) ends_none one item was (owner_after op who was) (no_tx id was (unbarred op id was did.free)) (no_tx id (owner_after op who was) (free_after op id was did.free)) (h.txs item))
      (λ x other. txs_kept d histories lock_ahead id q r a is unlocked (inl outside) ends_none one x (content_of m x).owner (h.txs x))
