-- What the acts at the front leave: rows that match, and chains that are as before.
use Rattle.beldi_histories.proofs.Names.{Answer, AnswersOne, Bool, ChangedAlone, Content, Deployment, Instance, IntentId, IsAside, IsHead, IsLinked, IsLinkedItem, Item, ItemMatches, Kind, Histories, List, LockedOut, Matches, None, Note, Option, Place, Row, RowKey, RowMatches, Rows, SameShadows, ShadowMatches, Some, Tx, TxId, TxsMatch, Value, [], and_parts, ap, asks_lock, at_row, begins_at, chain, chain_off, chain_other, content, content_of, effect_of, eq_by_cmp_equiv, eqb-true, false, false_from_ne_true, head_key, id_cmp, id_same, is_aborted, is_eq, is_item, is_row_of, item_cmp, item_same, item_total, key_cmp, key_same, key_self, kind_at, length, lock_in, lockset_key, log_key, note_at, other_owner, expected_read, place_of, refl, row_added, set_row, shadow_by, shadow_chain, shadow_key, shadow_of, subst, sym, touched, true, tx_eq, tx_now, txs_after, with_note, ℕ, ◌&&◌, ◌++◌, ◌==◌, ◌∙◌, ◌∷◌, ◌≡◌}
use Rattle.beldi_histories.proofs.Pending.{read_elsewhere, row_by, locksets_answered, items_answered, txs_answered, item_died, item_kept, txs_died, shadow_kept, shadow_noted}
use Rattle.beldi_histories.proofs.{Answers.true_false, RowMaps.head_order, RowMaps.keys_set, RowMaps.set_others, FrameAt.read_none, FrameAt.read_here, LockRows.lock_taken, LockRows.lock_kept, LockRows.txs_taken, LockRows.txs_kept, LockRows.tx_same, Cases.by_cases}
use Rattle.beldi_histories.proofs.Names.map

-- ---- keys of two kinds are apart: by a test that tells the kinds, and no order
pub kinds_apart : (f : Kind → Bool) (k l : RowKey) → f k.kind ≡ true → f l.kind ≡ false → is_eq (key_cmp k l) ≡ false
kinds_apart f k l h g = false_from_ne_true (is_eq (key_cmp k l)) (λ e. true_false (sym h ∙ ap (λ (z : RowKey). f z.kind) (key_same k l e) ∙ g))

abbrev pub is_data : Kind → Bool
is_data (Kind.Data t k n) = true
is_data k = false

abbrev pub is_shadow : Kind → Bool
is_shadow (Kind.Shadow s t k n) = true
is_shadow k = false

abbrev pub is_cell : Kind → Bool
is_cell (Kind.Data t k n) = true
is_cell (Kind.Shadow s t k n) = true
is_cell k = false

-- .. and no row of an item is one of another kind, where the test is of no row's number
pub kind_off : (f : Kind → Bool) → ((k : Kind) → f (kind_at k 0) ≡ f k) → (k l : RowKey) → f k.kind ≡ true → f l.kind ≡ false → is_row_of k l ≡ false
kind_off f same k l h g = false_from_ne_true (is_row_of k l) (λ e. true_false (sym h ∙ ap (λ (z : RowKey). f z.kind) (sym (key_same (at_row l 0) k e)) ∙ same l.kind ∙ g))

pub same_data : (k : Kind) → is_data (kind_at k 0) ≡ is_data k
same_data (Kind.Data t k n) = refl
same_data (Kind.Shadow s t k n) = refl
same_data (Kind.Intent i) = refl
same_data (Kind.ReadLog a) = refl
same_data (Kind.Invoke a) = refl
same_data (Kind.Lockset i b t k) = refl

pub same_shadow : (k : Kind) → is_shadow (kind_at k 0) ≡ is_shadow k
same_shadow (Kind.Data t k n) = refl
same_shadow (Kind.Shadow s t k n) = refl
same_shadow (Kind.Intent i) = refl
same_shadow (Kind.ReadLog a) = refl
same_shadow (Kind.Invoke a) = refl
same_shadow (Kind.Lockset i b t k) = refl

pub same_cell : (k : Kind) → is_cell (kind_at k 0) ≡ is_cell k
same_cell (Kind.Data t k n) = refl
same_cell (Kind.Shadow s t k n) = refl
same_cell (Kind.Intent i) = refl
same_cell (Kind.ReadLog a) = refl
same_cell (Kind.Invoke a) = refl
same_cell (Kind.Lockset i b t k) = refl

pub item_head : (x : Item) → IsHead (head_key x)
item_head x = record { first = refl; numbered = λ n. refl }

pub aside_head : (t : TxId) (x : Item) → IsHead (shadow_key t x)
aside_head t x = record { first = refl; numbered = λ n. refl }

-- ---- chains, after one row was set
module _ (m : Rows) (k : RowKey) (v : Option Row) where
  pub item_apart : (x : Item) → is_row_of (head_key x) k ≡ false → chain (set_row m k v) (head_key x) ≡ chain m (head_key x)
  item_apart x off = chain_off m (set_row m k v) k (head_key x) (set_others m k v) (item_head x) off

  pub content_apart : (x : Item) → is_row_of (head_key x) k ≡ false → content_of (set_row m k v) x ≡ content_of m x
  content_apart x off = ap content (item_apart x off)

  pub aside_apart : (t : TxId) (x : Item) → is_row_of (shadow_key t x) k ≡ false → shadow_chain (set_row m k v) t x ≡ shadow_chain m t x
  aside_apart t x off = chain_off m (set_row m k v) k (shadow_key t x) (set_others m k v) (aside_head t x) off

-- ---- rows that match, after one was set that is no cell's
module _ (d : Deployment) (histories : Histories) (lock_ahead : IntentId → Bool) (m : Rows) where
  pub log_set : (k : RowKey) (v : Option Row) → is_cell k.kind ≡ false → RowMatches d histories k.home k.kind v → ((l : RowKey) → is_eq (key_cmp l k) ≡ false → RowMatches d histories l.home l.kind (map.get m l))
      → ((x : Item) → IsLinkedItem m x) → ((t : TxId) (x : Item) → IsAside (shadow_chain m t x))
      → ((x : Item) → ItemMatches d histories lock_ahead x (content_of m x)) → ((t : TxId) (x : Item) → ShadowMatches d histories t x (shadow_of m t x)) → ((x : Item) → TxsMatch d histories lock_ahead x (content_of m x).owner) → Matches d (set_row m k v) histories lock_ahead
  log_set k v kind here others chains asides items shadows txs = record {
    keys = keys_set m k v (λ l z. RowMatches d histories l.home l.kind z) here others;
    chains = λ x. subst IsLinked (sym (item_as x)) (chains x);
    asides = λ t x. subst IsAside (sym (aside_as t x)) (asides t x);
    items = λ x. subst (λ z. ItemMatches d histories lock_ahead x (content z)) (sym (item_as x)) (items x);
    shadows = λ t x. subst (λ z. ShadowMatches d histories t x (content z)) (sym (aside_as t x)) (shadows t x);
    txs = λ x. subst (λ z. TxsMatch d histories lock_ahead x (content z).owner) (sym (item_as x)) (txs x);
  }
    where
      item_as : (x : Item) → chain (set_row m k v) (head_key x) ≡ chain m (head_key x)
      item_as x = item_apart m k v x (kind_off is_cell same_cell (head_key x) k refl kind)

      aside_as : (t : TxId) (x : Item) → shadow_chain (set_row m k v) t x ≡ shadow_chain m t x
      aside_as t x = aside_apart m k v t x (kind_off is_cell same_cell (shadow_key t x) k refl kind)

-- a fact on every item, after the row of one was set
pub by_item : (item x : Item) (P : Item → Type 0) → P item → (is_eq (item_cmp item x) ≡ false → P x) → P x
by_item item x P here other = elim (is_eq (item_cmp item x)) as (λ b. is_eq (item_cmp item x) ≡ b → P x) [
  | true ↦ λ e. subst P (item_same item x e) here
  | false ↦ λ e. other e
] refl

pub turned : (x y : Item) → is_eq (item_cmp x y) ≡ false → is_eq (key_cmp (head_key y) (head_key x)) ≡ false
turned x y h = ap is_eq (head_order y x) ∙ (eq_by_cmp_equiv item_total).symm y x ∙ h

-- ---- the rows of one item changed, and no others
module _ (m n : Rows) (x : Item) (alone : ChangedAlone (head_key x) m n) where
  pub other_item : (y : Item) → is_eq (item_cmp x y) ≡ false → chain n (head_key y) ≡ chain m (head_key y)
  other_item y apart = chain_other m n (head_key x) (head_key y) alone (item_head y) (turned x y apart)

  pub other_shadows : SameShadows m n
  other_shadows t y = chain_other m n (head_key x) (shadow_key t y) alone (aside_head t y) (kinds_apart is_shadow (shadow_key t y) (head_key x) refl refl)

  pub other_key : (l : RowKey) → is_data l.kind ≡ false → map.get n l ≡ map.get m l
  other_key l off = alone l (kind_off is_data same_data (head_key x) l refl off)

  pub chains_alone : IsLinkedItem n x → ((y : Item) → IsLinkedItem m y) → (y : Item) → IsLinkedItem n y
  chains_alone linked chains y = by_item x y (λ z. IsLinkedItem n z) linked (λ apart. subst IsLinked (sym (other_item y apart)) (chains y))

-- shadows with one key are one
abbrev tx_of : Kind → TxId
tx_of (Kind.Shadow t z k n) = t
tx_of k = record { intent = record { ticket = 0; hops = [] }; begin = 0; func = 0 }

abbrev item_at : ℕ → Kind → Item
item_at home (Kind.Shadow t z k n) = record { func = home; table = z; key = k }
item_at home k = record { func = home; table = 0; key = [] }

pub shadow_same : (s t : TxId) (x y : Item) → shadow_key s x ≡ shadow_key t y → (s ≡ t) × (x ≡ y)
shadow_same s t x y h = (ap (λ (k : RowKey). tx_of k.kind) h, ap (λ (k : RowKey). item_at k.home k.kind) h)

-- .. or those of one shadow
module _ (m n : Rows) (s : TxId) (x : Item) (alone : ChangedAlone (shadow_key s x) m n) where
  pub item_aside : (y : Item) → chain n (head_key y) ≡ chain m (head_key y)
  item_aside y = chain_other m n (shadow_key s x) (head_key y) alone (item_head y) (kinds_apart is_data (head_key y) (shadow_key s x) refl refl)

  pub aside_key : (l : RowKey) → is_shadow l.kind ≡ false → map.get n l ≡ map.get m l
  aside_key l off = alone l (kind_off is_shadow same_shadow (shadow_key s x) l refl off)

  pub other_aside : (t : TxId) (y : Item) → is_eq (key_cmp (shadow_key t y) (shadow_key s x)) ≡ false → shadow_chain n t y ≡ shadow_chain m t y
  other_aside t y off = chain_other m n (shadow_key s x) (shadow_key t y) alone (aside_head t y) off

  -- a fact on every shadow
  pub by_aside : (P : TxId → Item → Type 0) → P s x → ((t : TxId) (y : Item) → is_eq (key_cmp (shadow_key t y) (shadow_key s x)) ≡ false → P t y) → (t : TxId) (y : Item) → P t y
  by_aside P here other t y = by_cases (is_eq (key_cmp (shadow_key t y) (shadow_key s x)))
      (λ e. let p = shadow_same t s y x (key_same (shadow_key t y) (shadow_key s x) e) in subst (λ z. P z y) (sym p.0) (subst (P s) (sym p.1) here)) (other t y)

  pub asides_alone : IsAside (shadow_chain n s x) → ((t : TxId) (y : Item) → IsAside (shadow_chain m t y)) → (t : TxId) (y : Item) → IsAside (shadow_chain n t y)
  asides_alone free asides = by_aside (λ t y. IsAside (shadow_chain n t y)) free (λ t y off. subst IsAside (sym (other_aside t y off)) (asides t y))

-- ---- rows that match, where those of one item or of one shadow changed
module _ (d : Deployment) (histories : Histories) where
  -- all others do
  row_kept : (home : ℕ) (k : Kind) (r z : Option Row) → (is_cell k ≡ false → z ≡ r) → RowMatches d histories home k r → RowMatches d histories home k z
  row_kept home (Kind.Data t k n) r z same h = tt
  row_kept home (Kind.Shadow s t k n) r z same h = tt
  row_kept home (Kind.Intent i) r z same h = subst (RowMatches d histories home (Kind.Intent i)) (sym (same refl)) h
  row_kept home (Kind.ReadLog a) r z same h = subst (RowMatches d histories home (Kind.ReadLog a)) (sym (same refl)) h
  row_kept home (Kind.Invoke a) r z same h = subst (RowMatches d histories home (Kind.Invoke a)) (sym (same refl)) h
  row_kept home (Kind.Lockset i b t k) r z same h = subst (RowMatches d histories home (Kind.Lockset i b t k)) (sym (same refl)) h

  pub keys_alone : (m n : Rows) (head : RowKey) → is_cell head.kind ≡ true → ChangedAlone head m n → ((l : RowKey) → RowMatches d histories l.home l.kind (map.get m l)) → (l : RowKey) → RowMatches d histories l.home l.kind (map.get n l)
  keys_alone m n head kind alone h l = row_kept l.home l.kind (map.get m l) (map.get n l) (λ off. alone l (kind_off is_cell same_cell head l kind off)) (h l)

module _ (d : Deployment) (histories : Histories) (lock_ahead : IntentId → Bool) (m : Rows) where
  -- .. those of an item
  pub head_at : (n : Rows) (x : Item) (c : Content) → ChangedAlone (head_key x) m n → content_of n x ≡ c → IsLinkedItem n x → ((l : RowKey) → RowMatches d histories l.home l.kind (map.get m l)) → ((y : Item) → IsLinkedItem m y) → ((t : TxId) (y : Item) → IsAside (shadow_chain m t y))
      → ItemMatches d histories lock_ahead x c → ((y : Item) → is_eq (item_cmp x y) ≡ false → ItemMatches d histories lock_ahead y (content_of m y)) → ((t : TxId) (y : Item) → ShadowMatches d histories t y (shadow_of m t y))
      → TxsMatch d histories lock_ahead x c.owner → ((y : Item) → is_eq (item_cmp x y) ≡ false → TxsMatch d histories lock_ahead y (content_of m y).owner) → Matches d n histories lock_ahead
  head_at n x c alone here linked keys chains asides own items shadows own_txs txs = record {
    keys = keys_alone d histories m n (head_key x) refl alone keys;
    chains = chains_alone m n x alone linked chains;
    asides = λ t y. subst IsAside (sym (other_shadows m n x alone t y)) (asides t y);
    items = λ y. by_item x y (λ y. ItemMatches d histories lock_ahead y (content_of n y)) (subst (ItemMatches d histories lock_ahead x) (sym here) own)
        (λ other. subst (λ z. ItemMatches d histories lock_ahead y (content z)) (sym (other_item m n x alone y other)) (items y other));
    shadows = λ t y. subst (λ z. ShadowMatches d histories t y (content z)) (sym (other_shadows m n x alone t y)) (shadows t y);
    txs = λ y. by_item x y (λ y. TxsMatch d histories lock_ahead y (content_of n y).owner) (subst (λ (z : Content). TxsMatch d histories lock_ahead x z.owner) (sym here) own_txs)
        (λ other. subst (λ z. TxsMatch d histories lock_ahead y (content z).owner) (sym (other_item m n x alone y other)) (txs y other));
  }

  -- .. and those of a shadow
  pub shadow_at : (n : Rows) (s : TxId) (x : Item) → ChangedAlone (shadow_key s x) m n → IsAside (shadow_chain n s x) → ((l : RowKey) → RowMatches d histories l.home l.kind (map.get m l)) → ((y : Item) → IsLinkedItem m y) → ((t : TxId) (y : Item) → IsAside (shadow_chain m t y))
      → ((y : Item) → ItemMatches d histories lock_ahead y (content_of m y)) → ((t : TxId) (y : Item) → ShadowMatches d histories t y (shadow_of n t y)) → ((y : Item) → TxsMatch d histories lock_ahead y (content_of m y).owner) → Matches d n histories lock_ahead
  shadow_at n s x alone free keys chains asides items shadows txs = record {
    keys = keys_alone d histories m n (shadow_key s x) refl alone keys;
    chains = λ y. subst IsLinked (sym (item_aside m n s x alone y)) (chains y);
    asides = asides_alone m n s x alone free asides;
    items = λ y. subst (λ z. ItemMatches d histories lock_ahead y (content z)) (sym (item_aside m n s x alone y)) (items y);
    shadows = shadows;
    txs = λ y. subst (λ z. TxsMatch d histories lock_ahead y (content z).owner) (sym (item_aside m n s x alone y)) (txs y);
  }

-- ---- LockCell Did
module _ (d : Deployment) (histories : Histories) (lock_ahead : IntentId → Bool) (id : IntentId) (q : Instance) (is : map.get histories id ≡ Some q) (unlocked : lock_ahead id ≡ false)
    (s : TxId) (inside : tx_now d id q ≡ Some s) (o : ℕ × List ℕ) (touch : touched (effect_of d q) ≡ Some o) where
  abbrev item : Item
  item = record { func = q.func; table = o.0; key = o.1 }

  abbrev place : Place
  place = place_of id (length q.answers)

  pub lock_did : (m n : Rows) → ChangedAlone (head_key item) m n → IsLinkedItem n item → note_at (content_of m item).notes place ≡ None → other_owner (Tx s) (content_of m item).owner ≡ None
      → content_of n item ≡ record { value = (content_of m item).value; owner = Some (Tx s); notes = (content_of m item).notes ++ (place, Note.Got) ∷ [] }
      → Matches d m histories lock_ahead → Matches d n histories (lock_in lock_ahead id)
  lock_did m n alone linked none free same h = head_at d histories (lock_in lock_ahead id) m n item _ alone same linked h.keys h.chains h.asides (lock_taken d histories lock_ahead id q is unlocked s inside o touch (content_of m item) none free (h.items item))
      (λ x other. lock_kept d histories lock_ahead id q is unlocked s inside o touch x (content_of m x) other (h.items x)) h.shadows
      (txs_taken d histories lock_ahead id q is unlocked s inside o touch (content_of m item) none free (h.txs item)) (λ x other. txs_kept d histories lock_ahead id q is unlocked s inside o touch x (content_of m x).owner other (h.txs x))

-- ---- an answer to an operation inside
module _ (d : Deployment) (histories : Histories) (lock_ahead unlocked : IntentId → Bool) (id : IntentId) (q r : Instance) (a : Answer) (is : map.get histories id ≡ Some q) (one : AnswersOne d id q a r) (out : LockedOut lock_ahead unlocked id)
    (s : TxId) (inside : tx_now d id q ≡ Some s) (o : ℕ × List ℕ) (touch : touched (effect_of d q) ≡ Some o) (m : Rows)
    (has_lockset : map.get m (lockset_key id s.begin (record { func = q.func; table = o.0; key = o.1 })) ≡ Some Row.Lockset) (h : Matches d m histories lock_ahead) where
  abbrev own : Item
  own = record { func = q.func; table = o.0; key = o.1 }

  abbrev here : Place
  here = place_of id (length q.answers)

  abbrev after : Histories
  after = map.insert histories id r

  -- the lockset row that it expects is the one that it has
  there : (b : ℕ) (x : Item) (j : IntentId) → (is_eq (id_cmp j id) && asks_lock b x q.func (tx_now d id q) (effect_of d q)) ≡ true → map.get m (lockset_key j b x) ≡ Some Row.Lockset
  there b x j g =
      let e = and_parts (is_eq (id_cmp j id)) (asks_lock b x q.func (tx_now d id q) (effect_of d q)) g in
      let f = and_parts (s.begin == b) (is_eq (item_cmp own x)) (sym (ap (λ z. begins_at b z && is_item x q.func (touched (effect_of d q))) inside ∙ ap (λ z. (s.begin == b) && is_item x q.func z) touch) ∙ e.1) in
      ap (map.get m) (λ i. lockset_key (id_same j id e.0 i) (sym (eqb-true s.begin b f.0) i) (sym (item_same own x f.1) i)) ∙ has_lockset

  -- all other rows
  row_answered : (k : RowKey) → ((b : Place) → k.kind ≡ Kind.ReadLog b → expected_read d after k.home b ≡ expected_read d histories k.home b) → RowMatches d histories k.home k.kind (map.get m k) → RowMatches d after k.home k.kind (map.get m k)
  row_answered k same = row_by d histories lock_ahead unlocked id q r a is one out k.home k.kind (map.get m k) same (λ j b t z e.
      locksets_answered d histories lock_ahead unlocked id q r a is one out s inside o touch b (record { func = k.home; table = t; key = z }) j (map.get m k) (λ g. ap (λ y. map.get m (record { home = k.home; kind = y })) e ∙ there b (record { func = k.home; table = t; key = z }) j g))

  -- PutRead Added: a read is answered, its lock being ahead
  pub read_answered : (v : Value) → row_added (length q.answers) (txs_after d q q.answers).begun (effect_of d q) a ≡ Some (length q.answers, v) → lock_ahead id ≡ true → is_aborted a ≡ false
      → ((t : TxId) (x : Item) → shadow_by t x q.func (tx_now d id q) (effect_of d q) a ≡ None) → Matches d (set_row m (log_key q.func here) (Some (Row.ReadLog v))) after unlocked
  read_answered v added was lives no_note = let k = log_key q.func here in
      log_set d after unlocked m k (Some (Row.ReadLog v)) refl (subst (λ z. z ≡ Some v) (sym (read_here d histories id q r a is one (length q.answers) v added)) refl)
      (λ l other. row_answered l (λ b kind. read_elsewhere d histories lock_ahead unlocked id q r a is one out (length q.answers) v added l.home b (subst (λ (z : Kind). is_eq (key_cmp (record { home = l.home; kind = z }) k) ≡ false) kind other)) (h.keys l)) h.chains h.asides
      (λ x. items_answered d histories lock_ahead unlocked id q r a is one out s inside o touch was lives x (content_of m x) (h.items x)) (λ t x. shadow_kept d histories lock_ahead unlocked id q r a is one out t x (shadow_of m t x) (no_note t x) (h.shadows t x))
      (λ x. txs_answered d histories lock_ahead unlocked id q r a is one out s inside o touch was lives x (content_of m x).owner (h.txs x))

  -- WriteCell Did, CondCell Tested, of the shadow: a write is answered, its lock being ahead
  pub write_answered : (n : Rows) (w : Note) → ChangedAlone (shadow_key s own) m n → IsLinked (shadow_chain n s own) → row_added (length q.answers) (txs_after d q q.answers).begun (effect_of d q) a ≡ None → lock_ahead id ≡ true → is_aborted a ≡ false
      → shadow_by s own q.func (tx_now d id q) (effect_of d q) a ≡ Some w → ((t : TxId) (x : Item) → (tx_eq t s && is_eq (item_cmp own x)) ≡ false → shadow_by t x q.func (tx_now d id q) (effect_of d q) a ≡ None)
      → note_at (shadow_of m s own).notes here ≡ None → (u : Value) → shadow_of n s own ≡ record { value = u; owner = (shadow_of m s own).owner; notes = (shadow_of m s own).notes ++ (here, w) ∷ [] }
      → Matches d n after unlocked
  write_answered n w alone linked added was lives noted apart none u same = shadow_at d after unlocked m n s own alone (record { linked = linked; unowned = ap (λ (c : Content). c.owner) same ∙ (h.asides s own).unowned }) (λ l. row_answered l (λ b kind. read_none d histories id q r a is one added l.home b) (h.keys l)) h.chains h.asides
      (λ x. items_answered d histories lock_ahead unlocked id q r a is one out s inside o touch was lives x (content_of m x) (h.items x))
      (by_aside m n s own alone (λ t x. ShadowMatches d after t x (shadow_of n t x)) (subst (ShadowMatches d after s own) (sym same) (shadow_noted d histories lock_ahead unlocked id q r a is one out s own (shadow_of m s own) w u noted none (h.shadows s own)))
      (λ t x off. subst (λ z. ShadowMatches d after t x (content z)) (sym (other_aside m n s own alone t x off)) (shadow_kept d histories lock_ahead unlocked id q r a is one out t x (shadow_of m t x) (apart t x (away t x off)) (h.shadows t x))))
      (λ x. txs_answered d histories lock_ahead unlocked id q r a is one out s inside o touch was lives x (content_of m x).owner (h.txs x))
    where
      away : (t : TxId) (x : Item) → is_eq (key_cmp (shadow_key t x) (shadow_key s own)) ≡ false → (tx_eq t s && is_eq (item_cmp own x)) ≡ false
      away t x off = false_from_ne_true (tx_eq t s && is_eq (item_cmp own x)) (λ e. let f = and_parts (tx_eq t s) (is_eq (item_cmp own x)) e in
          true_false (sym ((λ i. is_eq (key_cmp (shadow_key (tx_same t s f.0 i) (sym (item_same own x f.1) i)) (shadow_key s own))) ∙ key_self (shadow_key s own)) ∙ off))

  -- LockCell Died
  pub lock_died : (n : Rows) (holder : IntentId) → ChangedAlone (head_key own) m n → IsLinkedItem n own → row_added (length q.answers) (txs_after d q q.answers).begun (effect_of d q) a ≡ None → a ≡ Answer.Aborted (record { place = here; holder = Some holder }) → lock_ahead id ≡ false
      → ((t : TxId) (x : Item) → shadow_by t x q.func (tx_now d id q) (effect_of d q) a ≡ None) → note_at (content_of m own).notes here ≡ None → content_of n own ≡ with_note (content_of m own) here (Note.Died holder)
      → Matches d n after unlocked
  lock_died n holder alone linked added dies was no_note none same = head_at d after unlocked m n own _ alone same linked (λ l. row_answered l (λ b kind. read_none d histories id q r a is one added l.home b) (h.keys l)) h.chains h.asides
      (item_died d histories lock_ahead unlocked id q r a is one out s inside o touch holder dies was (content_of m own) none (h.items own)) (λ x other. item_kept d histories lock_ahead unlocked id q r a is one out s inside o touch holder dies was x (content_of m x) other (h.items x))
      (λ t x. shadow_kept d histories lock_ahead unlocked id q r a is one out t x (shadow_of m t x) (no_note t x) (h.shadows t x)) (txs_died d histories lock_ahead unlocked id q r a is one out s inside o touch holder dies was own (content_of m own).owner (h.txs own))
      (λ x other. txs_died d histories lock_ahead unlocked id q r a is one out s inside o touch holder dies was x (content_of m x).owner (h.txs x))
