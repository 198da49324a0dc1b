-- What is listed stays where a transaction that is open takes a lock, or writes its shadow.
use Rattle.beldi_histories.proofs.Names.{Bool, ChangedAlone, Content, Intent, Item, Kind, None, Option, Owner, Row, RowKey, Rows, Some, Tx, TxId, Value, ap, cond, content, content_of, decision_key, false, head_key, if◌then◌else◌, is_committed, is_eq, item_cmp, key_cmp, key_same, listed, listed_under, not, other_owner, refl, row_got, set_row, shadow_chain, shadow_key, shadow_row, subst, sym, tail, true, value_in, ◌∙◌, ◌≡◌}
use Rattle.beldi_histories.proofs.Acts.{aside_apart, aside_key, by_item, content_apart, is_cell, item_aside, kind_off, kinds_apart, other_aside, other_item, other_key, other_shadows, same_cell, shadow_same}
use Rattle.beldi_histories.proofs.{LockRows.owned_is, Sets.is_log as is_row_log, Sets.no_cell, Cases.by_cases}
use Rattle.beldi_histories.proofs.Names.map

-- a row that was set at a key of another kind
pub elsewhere : (m : Rows) (k : RowKey) (v : Option Row) (f : Kind → Bool) (l : RowKey) → f l.kind ≡ true → f k.kind ≡ false → map.get (set_row m k v) l ≡ map.get m l
elsewhere m k v f l h g = row_got m k l v ∙ ap (λ b. cond b v (map.get m l)) (kinds_apart f l k h g)

-- what is listed of an item, where its owner and its value are the same, and so is what its owner shows
pub lists_owned : (m n : Rows) (x : Item) → (content_of n x).owner ≡ (content_of m x).owner → (content_of n x).value ≡ (content_of m x).value → ((t : TxId) (w : Value) → (content_of m x).owner ≡ Some (Tx t) → listed_under n x (Some (Tx t)) w ≡ listed_under m x (Some (Tx t)) w) → listed n x ≡ listed m x
lists_owned m n x owner value owned = (λ i. listed_under n x (owner i) (value i)) ∙ under (content_of m x).owner refl
  where
    under : (o : Option Owner) → (content_of m x).owner ≡ o → listed_under n x o (content_of m x).value ≡ listed_under m x o (content_of m x).value
    under (Some (Tx t)) e = owned t (content_of m x).value e
    under (Some (Intent i)) e = refl
    under None e = refl

-- .. with all decisions and all shadows of the item
pub lists_same : (m n : Rows) (x : Item) → content_of n x ≡ content_of m x → ((t : TxId) → map.get n (decision_key t) ≡ map.get m (decision_key t)) → ((t : TxId) → shadow_chain n t x ≡ shadow_chain m t x) → listed n x ≡ listed m x
lists_same m n x same decisions shadows = lists_owned m n x (ap (λ (c : Content). c.owner) same) (ap (λ (c : Content). c.value) same) (λ t w e i. if is_committed (decisions t i) then value_in (tail (shadows t i)) w else w)

-- a row of an intent or of a call changes nothing there
pub log_lists : (m : Rows) (k : RowKey) (v : Option Row) → is_row_log k.kind ≡ true → (x : Item) → listed (set_row m k v) x ≡ listed m x
log_lists m k v kind x = let off : Kind → Bool = λ z. not (is_row_log z) in lists_same m (set_row m k v) x (content_apart m k v x (kind_off is_cell same_cell (head_key x) k refl (no_cell k.kind kind)))
    (λ t. elsewhere m k v off (decision_key t) refl (ap not kind)) (λ t. aside_apart m k v t x (kind_off is_cell same_cell (shadow_key t x) k refl (no_cell k.kind kind)))

-- an item that no transaction owns has its own value
pub own_value : (m : Rows) (x : Item) → ((t : TxId) → (content_of m x).owner ≡ Some (Tx t) → ⊥) → listed m x ≡ (content_of m x).value
own_value m x free = by_owner (content_of m x).owner (content_of m x).value free
  where
    by_owner : (o : Option Owner) (v : Value) → ((t : TxId) → o ≡ Some (Tx t) → ⊥) → listed_under m x o v ≡ v
    by_owner None v none = refl
    by_owner (Some (Intent j)) v none = refl
    by_owner (Some (Tx t)) v none = absurd (none t refl)

module _ (m : Rows) (s : TxId) (undecided : map.get m (decision_key s) ≡ None) where
  pub open_lists : (n : Rows) (x : Item) (v : Value) → map.get n (decision_key s) ≡ map.get m (decision_key s) → listed_under n x (Some (Tx s)) v ≡ v
  open_lists n x v same = ap (λ r. if is_committed r then value_in (shadow_row n s x) v else v) (same ∙ undecided)

  -- the rows of its item changed, and its value did not
  module _ (item : Item) (n : Rows) (alone : ChangedAlone (head_key item) m n) where
    stays : (x : Item) (t : TxId) (w : Value) → listed_under n x (Some (Tx t)) w ≡ listed_under m x (Some (Tx t)) w
    stays x t w = λ i. if is_committed (other_key m n item alone (decision_key t) refl i) then value_in (tail (other_shadows m n item alone t x i)) w else w

    others_listed : (x : Item) → is_eq (item_cmp item x) ≡ false → listed n x ≡ listed m x
    others_listed x other = let same : content_of n x ≡ content_of m x = ap content (other_item m n item alone x other) in lists_owned m n x (ap (λ (c : Content). c.owner) same) (ap (λ (c : Content). c.value) same) (λ t w e. stays x t w)

    was_listed : (o : Option Owner) (w : Value) → other_owner (Tx s) o ≡ None → listed_under m item o w ≡ w
    was_listed None w free = refl
    was_listed (Some (Intent i)) w free = cc
    was_listed (Some (Tx t)) w free = subst (λ z. listed_under m item (Some (Tx z)) w ≡ w) (sym (owned_is s t (Some (Tx t)) free refl)) (open_lists m item w refl)

    -- LockCell Did
    pub did_lists : other_owner (Tx s) (content_of m item).owner ≡ None → (content_of n item).value ≡ (content_of m item).value → (content_of n item).owner ≡ Some (Tx s) → (x : Item) → listed n x ≡ listed m x
    did_lists free value owner x = by_item item x (λ x. listed n x ≡ listed m x)
        (ap (λ o. listed_under n item o (content_of n item).value) owner ∙ stays item s (content_of n item).value ∙ open_lists m item (content_of n item).value refl
        ∙ value ∙ sym (was_listed (content_of m item).owner (content_of m item).value free)) (others_listed x)

    -- LockCell Died: value and owner stay
    pub died_lists : (content_of n item).value ≡ (content_of m item).value → (content_of n item).owner ≡ (content_of m item).owner → (x : Item) → listed n x ≡ listed m x
    died_lists value owner x = by_item item x (λ x. listed n x ≡ listed m x) (lists_owned m n item owner value (λ t w e. stays item t w)) (others_listed x)

  -- the rows of its shadow changed
  pub shadow_lists : (item : Item) (n : Rows) → ChangedAlone (shadow_key s item) m n → (x : Item) → listed n x ≡ listed m x
  shadow_lists item n alone x = let same : content_of n x ≡ content_of m x = ap content (item_aside m n s item alone x) in
      lists_owned m n x (ap (λ (c : Content). c.owner) same) (ap (λ (c : Content). c.value) same) (λ t w e. by_cases (is_eq (key_cmp (shadow_key t x) (shadow_key s item)))
      (λ e. subst (λ z. listed_under n x (Some (Tx z)) w ≡ listed_under m x (Some (Tx z)) w) (sym (shadow_same t s x item (key_same (shadow_key t x) (shadow_key s item) e)).0)
      (open_lists n x w (aside_key m n s item alone (decision_key s) refl) ∙ sym (open_lists m x w refl)))
      (λ e i. if is_committed (aside_key m n s item alone (decision_key t) refl i) then value_in (tail (other_aside m n s item alone t x e i)) w else w))
