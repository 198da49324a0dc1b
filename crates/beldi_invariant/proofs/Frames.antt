-- What an event keeps for the runs of others: a frame, of a row that is set.
use Rattle.beldi_invariant.proofs.Names.{may_remove, AllGrow, Bool, ByTx, CellOp, ChangedAlone, Content, Deployment, DoneRows, Frame, Instance, IntentId, IsFreeFor, IsHead, IsLinked, IsOf, IsWriting, Item, Kind, Histories, List, None, Note, Option, Place, PlainState, Query, Row, RowKey, Rows, RowsStay, SameShadows, Some, StillOwns, TookPart, TxId, Value, [], act, ap, arith, aside_head, at_row, by_item, chain_off, cond, content, content_of, ended, false, free_after, func_called, has_finish, head_key, if◌then◌else◌, invoke_key, is_data, is_eq, is_row_of, is_shadow, is_some, item_aside, item_cmp, item_head, item_same, key_cmp, key_in, key_same, key_self, kind_at, kind_off, kinds_apart, recorded_set, lockset_key, log_key, no_tx, note_after, note_at, note_pushed, notes_stay, option_map, or_null, or_old, other_aside, other_item, other_shadows, others_grow, place_eq, place_same, plain_set, refl, row_got, number_of, rows_after, same_data, same_grow, same_shadow, same_some, set_if, set_others, set_row, shadow_chain, shadow_key, shadow_row, shadow_same, subst, sym, true, tx_end, value_at, ℕ, ◌++◌, ◌∙◌, ◌∷◌, ◌≡◌}
use Rattle.beldi_links.proofs.Last.{tail_there}
use Rattle.beldi_invariant.proofs.Cases.{false_by}
use Rattle.beldi_invariant.proofs.Names.map

-- ---- what an open transaction owns has its plain value still
abbrev pub ValuesStay : Deployment → Rows → PlainState → PlainState → Histories → Type 0
ValuesStay d m p q next = (t : TxId) (x : Item) → tx_end d next t ≡ None → (content_of m x).owner ≡ Some (ByTx t) → value_at q x ≡ value_at p x

-- .. where the items are as before
pub items_stay : (d : Deployment) (m : Rows) (p q : PlainState) (next : Histories) → q.items ≡ p.items → ValuesStay d m p q next
items_stay d m p q next same t x open_still own = ap (λ f. or_null (map.get f x)) same

-- .. or one is set that no transaction owns
pub item_stays : (d : Deployment) (m : Rows) (p q : PlainState) (next : Histories) (y : Item) (o : Option Value) → q.items ≡ set_if p.items y o → ((t : TxId) → (content_of m y).owner ≡ Some (ByTx t) → ⊥) → ValuesStay d m p q next
item_stays d m p q next y o same free t x open_still own = ap (λ f. or_null (map.get f x)) same ∙ plain_set p.items y x o ∙ ap (λ c. cond c (or_old o (value_at p y)) (value_at p x))
    (false_by (is_eq (item_cmp x y)) (λ e. free t (ap (λ w. (content_of m w).owner) (sym (item_same x y e)) ∙ own)))

-- ---- rows of which one changed
abbrev pub is_lockset : Kind → Bool
is_lockset (Kind.Lockset i b t k) = true
is_lockset k = false

-- the kinds of rows that are no item's, no shadow's and no lock's
abbrev pub is_entry : Kind → Bool
is_entry (Kind.Intent i) = true
is_entry (Kind.ReadLog a) = true
is_entry (Kind.Invoke a) = true
is_entry k = false

-- the transaction of such a row
abbrev intent_in : IntentId → Kind → IntentId
intent_in j (Kind.Lockset i b t k) = i
intent_in j k = j

abbrev begin_in : Kind → ℕ
begin_in (Kind.Lockset i b t k) = b
begin_in k = 0

-- the intent of an intent's row
abbrev intent_of : IntentId → Kind → IntentId
intent_of j (Kind.Intent i) = i
intent_of j k = j

-- a row of no number is no item's
off_number : (k : Kind) → is_data k ≡ false → is_shadow k ≡ false → number_of (kind_at (kind_at k 0) 1) ≡ 0
off_number k off apart = grind (arith, off, apart)

no_row_of : (head l : RowKey) → IsHead head → number_of (kind_at (kind_at l.kind 0) 1) ≡ 0 → is_row_of head l ≡ false
no_row_of head l first none = false_by (is_row_of head l) (λ e. let clash = sym none ∙ ap (λ (z : RowKey). number_of (at_row z 1).kind) (key_same (at_row l 0) head e) ∙ first.numbered 1 in cc)

no_item : (k : Kind) → is_entry k ≡ true → (is_data k ≡ false) × (is_shadow k ≡ false) × (is_lockset k ≡ false)
no_item k h = grind arith

module _ (m n : Rows) (k : RowKey) (same : (l : RowKey) → is_eq (key_cmp l k) ≡ false → map.get n l ≡ map.get m l) where
  -- what is so at its key is so at all
  at_all : (P : RowKey → Option Row → Option Row → Type 0) → P k (map.get m k) (map.get n k) → ((l : RowKey) (r : Option Row) → P l r r) → (l : RowKey) → P l (map.get m l) (map.get n l)
  at_all P here others l = by_test (is_eq (key_cmp l k)) refl
    where
      by_test : (b : Bool) → is_eq (key_cmp l k) ≡ b → P l (map.get m l) (map.get n l)
      by_test true e = subst (λ z. P z (map.get m z) (map.get n z)) (sym (key_same l k e)) here
      by_test false e = subst (P l (map.get m l)) (sym (same l e)) (others l (map.get m l))

  rows_stay : (is_some (map.get m k) ≡ true → is_some (map.get n k) ≡ true) → (l : RowKey) → is_some (map.get m l) ≡ true → is_some (map.get n l) ≡ true
  rows_stay there = at_all (λ l r s. is_some r ≡ true → is_some s ≡ true) there (λ l r e. e)

  content_off : is_data k.kind ≡ false → (x : Item) → content_of n x ≡ content_of m x
  content_off off x = ap content (chain_off m n k (head_key x) same (item_head x) (kind_off is_data same_data (head_key x) k refl off))

  shadow_off : is_shadow k.kind ≡ false → SameShadows m n
  shadow_off off t x = chain_off m n k (shadow_key t x) same (aside_head t x) (kind_off is_shadow same_shadow (shadow_key t x) k refl off)

  -- the rows of items and of shadows grow, where it is none of them
  grow_off : is_data k.kind ≡ false → is_shadow k.kind ≡ false → AllGrow m n
  grow_off off apart = others_grow m n k (λ head first. no_row_of head k first (off_number k.kind off apart)) same

  lockset_off : is_lockset k.kind ≡ false → (i : IntentId) (b : ℕ) (x : Item) → map.get n (lockset_key i b x) ≡ map.get m (lockset_key i b x)
  lockset_off off i b x = same (lockset_key i b x) (kinds_apart is_lockset (lockset_key i b x) k refl off)

-- a shadow that is there stays
pub aside_stays : (m n : Rows) (t : TxId) (x : Item) → IsLinked (shadow_chain m t x) → IsLinked (shadow_chain n t x) → RowsStay m n → is_some (shadow_row m t x) ≡ true → is_some (shadow_row n t x) ≡ true
aside_stays m n t x was now stay there = tail_there (shadow_chain n t x) now ∙ stay (shadow_key t x) (sym (tail_there (shadow_chain m t x) was) ∙ there)

-- a query that removes no row takes no note of an item away
pub query_notes : (q : Query) → may_remove q ≡ false → (now : ℕ) (m : Rows) (x : Item) (p : Place) (w : Note) → note_at (content_of m x).notes p ≡ Some w → note_at (content_of (rows_after q now m) x).notes p ≡ Some w
query_notes (Query.After k) keeps now m x p w there = there
query_notes (Query.Act k a) keeps now m x p w there = notes_stay a keeps now k (head_key x) m p w there

-- ---- finishes and calls, where one row changed
abbrev pub is_intent : Kind → Bool
is_intent (Kind.Intent i) = true
is_intent k = false

abbrev pub is_invoke : Kind → Bool
is_invoke (Kind.Invoke a) = true
is_invoke k = false

-- a finish stays, and what was called
abbrev pub FinishesStay : Rows → Rows → Type 0
FinishesStay m n = (home : ℕ) (i : IntentId) → has_finish (map.get m (key_in home i)) ≡ true → has_finish (map.get n (key_in home i)) ≡ true

abbrev pub CallsStay : Rows → Rows → Type 0
CallsStay m n = (f : ℕ) (a : Place) (g : ℕ) → option_map func_called (map.get m (invoke_key f a)) ≡ Some g → option_map func_called (map.get n (invoke_key f a)) ≡ Some g

-- no finish is new of who took part in a transaction that has ended
abbrev pub NoFinish : Deployment → Rows → Rows → Histories → Type 0
NoFinish d m n next = (t : TxId) (z : ℕ × Bool) (i : IntentId) (home : ℕ) → tx_end d next t ≡ Some z → TookPart next t i → has_finish (map.get n (key_in home i)) ≡ true → has_finish (map.get m (key_in home i)) ≡ true

module _ (m n : Rows) (k : RowKey) (same : (l : RowKey) → is_eq (key_cmp l k) ≡ false → map.get n l ≡ map.get m l) where
  intent_off : is_intent k.kind ≡ false → (home : ℕ) (i : IntentId) → map.get n (key_in home i) ≡ map.get m (key_in home i)
  intent_off off home i = same (key_in home i) (kinds_apart is_intent (key_in home i) k refl off)

  finishes_off : is_intent k.kind ≡ false → FinishesStay m n
  finishes_off off home i e = ap has_finish (intent_off off home i) ∙ e

  calls_off : is_invoke k.kind ≡ false → CallsStay m n
  calls_off off f a g e = ap (option_map func_called) (same (invoke_key f a) (kinds_apart is_invoke (invoke_key f a) k refl off)) ∙ e

  finishes_on : (has_finish (map.get m k) ≡ true → has_finish (map.get n k) ≡ true) → FinishesStay m n
  finishes_on here home i = at_all m n k same (λ l r s. has_finish r ≡ true → has_finish s ≡ true) here (λ l r e. e) (key_in home i)

  calls_on : ((g : ℕ) → option_map func_called (map.get m k) ≡ Some g → option_map func_called (map.get n k) ≡ Some g) → CallsStay m n
  calls_on here f a = at_all m n k same (λ l r s. (g : ℕ) → option_map func_called r ≡ Some g → option_map func_called s ≡ Some g) here (λ l r g e. e) (invoke_key f a)

  -- another row than an intent's gives no finish ..
  pub no_finish : (d : Deployment) (next : Histories) → is_intent k.kind ≡ false → NoFinish d m n next
  no_finish d next off t z i home ended part e = ap has_finish (sym (intent_off off home i)) ∙ e

  -- .. nor does one that had it before
  pub no_new_finish : (d : Deployment) (next : Histories) → (has_finish (map.get n k) ≡ true → has_finish (map.get m k) ≡ true) → NoFinish d m n next
  no_new_finish d next here t z i home ended part = at_all m n k same (λ l r s. has_finish s ≡ true → has_finish r ≡ true) here (λ l r e. e) (key_in home i)

-- .. nor do the rows of one item, where no others changed
module _ (m n : Rows) (k : RowKey) (alone : ChangedAlone k m n) where
  lockset_kept : is_lockset k.kind ≡ false → (i : IntentId) (b : ℕ) (x : Item) → map.get n (lockset_key i b x) ≡ map.get m (lockset_key i b x)
  lockset_kept off i b x = alone (lockset_key i b x) (kinds_apart is_lockset (lockset_key i b x) k refl off)

  intent_kept : is_intent k.kind ≡ false → (home : ℕ) (i : IntentId) → map.get n (key_in home i) ≡ map.get m (key_in home i)
  intent_kept off home i = alone (key_in home i) (kinds_apart is_intent (key_in home i) k refl off)

  finishes_kept : is_intent k.kind ≡ false → FinishesStay m n
  finishes_kept off home i e = ap has_finish (intent_kept off home i) ∙ e

  calls_kept : is_invoke k.kind ≡ false → CallsStay m n
  calls_kept off f a g e = ap (option_map func_called) (alone (invoke_key f a) (kinds_apart is_invoke (invoke_key f a) k refl off)) ∙ e

  pub none_finish : (d : Deployment) (next : Histories) → is_intent k.kind ≡ false → NoFinish d m n next
  none_finish d next off t z i home ended part e = ap has_finish (sym (intent_kept off home i)) ∙ e

-- .. and one of who took part in none may get it
pub no_member_finish : (d : Deployment) (m n : Rows) (home : ℕ) (id : IntentId) (next : Histories) → ((l : RowKey) → is_eq (key_cmp l (key_in home id)) ≡ false → map.get n l ≡ map.get m l)
    → ((t : TxId) (z : ℕ × Bool) → tx_end d next t ≡ Some z → TookPart next t id → ⊥) → NoFinish d m n next
no_member_finish d m n home id next same none t z i f ended part e = by_test (is_eq (key_cmp (key_in f i) (key_in home id))) refl
  where
    by_test : (b : Bool) → is_eq (key_cmp (key_in f i) (key_in home id)) ≡ b → has_finish (map.get m (key_in f i)) ≡ true
    by_test true g = absurd (none t z ended (subst (TookPart next t) (λ k. intent_of id ((key_same (key_in f i) (key_in home id) g) k).kind) part))
    by_test false g = ap has_finish (sym (same (key_in f i) g)) ∙ e

-- ---- nobody joins a transaction that has ended
abbrev pub NobodyJoins : Deployment → Histories → Histories → Type 0
NobodyJoins d histories next = (t : TxId) (z : ℕ × Bool) (i : IntentId) → tx_end d next t ≡ Some z → TookPart next t i → is_some (map.get histories i) ≡ true

-- .. where the same are known
pub nobody_new : (d : Deployment) (histories : Histories) → NobodyJoins d histories histories
nobody_new d histories t z i ended part = ap is_some part.made

-- .. where one that is known is set
pub nobody_set : (d : Deployment) (histories : Histories) (id : IntentId) (s : Instance) → is_some (map.get histories id) ≡ true → NobodyJoins d histories (map.insert histories id s)
nobody_set d histories id s there t z i ended part = recorded_set histories id s (λ j o. is_some o ≡ true → is_some (map.get histories j) ≡ true) (λ e. there) (λ j other e. e) i (ap is_some part.made)

-- .. or a new one, that was called in one that has not ended, or in none
pub nobody_made : (d : Deployment) (histories : Histories) (id : IntentId) (s : Instance) → ((t : TxId) → s.enclosing ≡ Some t → tx_end d (map.insert histories id s) t ≡ None) → NobodyJoins d histories (map.insert histories id s)
nobody_made d histories id s open_still t z i ended part = recorded_set histories id s (λ j o. o ≡ Some part.instance → is_some (map.get histories j) ≡ true)
    (λ e. let clash = sym (open_still t (ap (λ (y : Instance). y.enclosing) (same_some e) ∙ part.enclosing)) ∙ ended in cc) (λ j other e. ap is_some e) i part.made

-- .. one after the other
pub nobody_then : (d : Deployment) (histories over next : Histories) → ((j : IntentId) → is_some (map.get over j) ≡ true → is_some (map.get histories j) ≡ true) → NobodyJoins d over next → NobodyJoins d histories next
nobody_then d histories over next there none t z i ended part = there i (none t z i ended part)

-- ---- how a frame is made
module _ (d : Deployment) (m : Rows) (p q : PlainState) (histories next : Histories) (values : ValuesStay d m p q next) (members : NobodyJoins d histories next) where
  -- no row changes
  pub frame_still : Frame d m m p q histories next
  frame_still = record {
    grows = same_grow m m refl;
    rows = λ k e. e;
    notes = λ x a w e. e;
    shadows = λ t x apart. refl;
    locksets = λ t z i x e is there. there;
    owners = λ t z x e own. record { owner = own; notes = λ a free. refl };
    members = members;
    finishes = λ home i e. e;
    calls = λ f a g e. e;
    values = values;
  }

  module _ (n : Rows) where
    owns_same : (t : TxId) (end : ℕ) (x : Item) → content_of n x ≡ content_of m x → (content_of n x).owner ≡ Some (ByTx t) → StillOwns next (content_of m x) (content_of n x) t end
    owns_same t end x same own = record { owner = ap (λ (c : Content). c.owner) (sym same) ∙ own; notes = λ a free. ap (λ (c : Content). note_at c.notes a) same }

    -- the items are as before
    frame_apart : AllGrow m n → RowsStay m n → ((x : Item) → content_of n x ≡ content_of m x) → ((t : TxId) (x : Item) → (IsWriting d histories t → ⊥) → shadow_chain n t x ≡ shadow_chain m t x)
        → ((t : TxId) (z : ℕ × Bool) (i : IntentId) (x : Item) → tx_end d next t ≡ Some z → IsOf next t i → is_some (map.get n (lockset_key i t.begin x)) ≡ true → is_some (map.get m (lockset_key i t.begin x)) ≡ true) → FinishesStay m n → CallsStay m n → Frame d m n p q histories next
    frame_apart grows stay items shadows locksets finishes calls = record {
      grows = grows;
      rows = stay;
      notes = λ x a w e. ap (λ (c : Content). note_at c.notes a) (items x) ∙ e;
      shadows = shadows;
      locksets = locksets;
      owners = λ t z x e own. owns_same t z.0 x (items x) own;
      members = members;
      finishes = finishes;
      calls = calls;
      values = values;
    }

    -- the row of an intent, of a read or a decision, or of a call
    module _ (k : RowKey) (same : (l : RowKey) → is_eq (key_cmp l k) ≡ false → map.get n l ≡ map.get m l) (there : is_some (map.get n k) ≡ true) where
      frame_of : is_entry k.kind ≡ true → FinishesStay m n → CallsStay m n → Frame d m n p q histories next
      frame_of kind = let off = no_item k.kind kind in
          frame_apart (grow_off m n k same off.0 off.1) (rows_stay m n k same (λ e. there)) (content_off m n k same off.0) (λ t x apart. shadow_off m n k same off.1 t x) (λ t z i x e is here. ap is_some (sym (lockset_off m n k same off.2 i t.begin x)) ∙ here)

      pub frame_entry : is_entry k.kind ≡ true → (has_finish (map.get m k) ≡ true → has_finish (map.get n k) ≡ true) → ((g : ℕ) → option_map func_called (map.get m k) ≡ Some g → option_map func_called (map.get n k) ≡ Some g) → Frame d m n p q histories next
      frame_entry kind ends calls = frame_of kind (finishes_on m n k same ends) (calls_on m n k same calls)

    -- the rows of a shadow, of a transaction that an instance is to write in
    module _ (s : TxId) (y : Item) (alone : ChangedAlone (shadow_key s y) m n) (grows : AllGrow m n) (stay : RowsStay m n) (writing : IsWriting d histories s) where
      pub frame_shadow : Frame d m n p q histories next
      frame_shadow = let k = shadow_key s y in frame_apart grows stay (λ x. ap content (item_aside m n s y alone x)) (λ t x apart. by_key t x apart (is_eq (key_cmp (shadow_key t x) k)) refl)
          (λ t z i x e is here. ap is_some (sym (lockset_kept m n k alone refl i t.begin x)) ∙ here) (finishes_kept m n k alone refl) (calls_kept m n k alone refl)
        where
          by_key : (t : TxId) (x : Item) → (IsWriting d histories t → ⊥) → (b : Bool) → is_eq (key_cmp (shadow_key t x) (shadow_key s y)) ≡ b → shadow_chain n t x ≡ shadow_chain m t x
          by_key t x apart true e = absurd (apart (subst (IsWriting d histories) (sym (shadow_same t s x y (key_same (shadow_key t x) (shadow_key s y) e)).0) writing))
          by_key t x apart false e = other_aside m n s y alone t x e

    -- the rows of an item
    module _ (y : Item) (alone : ChangedAlone (head_key y) m n) (grows : AllGrow m n) (stay : RowsStay m n) where
      others_hold : (x : Item) → is_eq (item_cmp y x) ≡ false → content_of n x ≡ content_of m x
      others_hold x other = ap content (other_item m n y alone x other)

      pub frame_item : ((a : Place) (w : Note) → note_at (content_of m y).notes a ≡ Some w → note_at (content_of n y).notes a ≡ Some w)
          → ((t : TxId) (z : ℕ × Bool) → tx_end d next t ≡ Some z → (content_of n y).owner ≡ Some (ByTx t) → StillOwns next (content_of m y) (content_of n y) t z.0) → Frame d m n p q histories next
      frame_item notes owners = record {
        grows = grows;
        rows = stay;
        notes = λ x. by_item y x (λ x. (a : Place) (w : Note) → note_at (content_of m x).notes a ≡ Some w → note_at (content_of n x).notes a ≡ Some w) notes (λ other a w e. ap (λ (c : Content). note_at c.notes a) (others_hold x other) ∙ e);
        shadows = λ t x apart. other_shadows m n y alone t x;
        locksets = λ t z i x e is here. ap is_some (sym (lockset_kept m n (head_key y) alone refl i t.begin x)) ∙ here;
        owners = λ t z x. by_item y x (λ x. tx_end d next t ≡ Some z → (content_of n x).owner ≡ Some (ByTx t) → StillOwns next (content_of m x) (content_of n x) t z.0) (owners t z)
            (λ other e own. owns_same t z.0 x (others_hold x other) own);
        members = members;
        finishes = finishes_kept m n (head_key y) alone refl;
        calls = calls_kept m n (head_key y) alone refl;
        values = values;
      }

      -- .. that holds what it held
      pub frame_held : content_of n y ≡ content_of m y → Frame d m n p q histories next
      frame_held held = frame_item (λ a w e. ap (λ (c : Content). note_at c.notes a) held ∙ e) (λ t z e own. owns_same t z.0 y held own)

    -- .. after an operation outside
    pub frame_done : (y : Item) (at : Place) (op : CellOp) → AllGrow m n → RowsStay m n → DoneRows m n y at op → Frame d m n p q histories next
    frame_done y at op grows stay did = frame_item y did.same grows stay
        (λ a w e. ap (λ (c : Content). note_at c.notes a) did.here ∙ note_stays (content_of m y).notes at a (note_after op (content_of m y).value) w did.none e)
        (λ t z e own. absurd (no_tx at.intent (content_of n y).owner (subst (λ (c : Content). IsFreeFor at.intent c.owner) (sym did.here) (free_after op at.intent (content_of m y).owner did.free)) t own))
      where
        -- a note that was there stays, where another is put
        note_stays : (es : List (Place × Note)) (p a : Place) (w v : Note) → note_at es p ≡ None → note_at es a ≡ Some v → note_at (es ++ (p, w) ∷ []) a ≡ Some v
        note_stays es p a w v none is = note_pushed es p a w none ∙ by_place (place_eq p a) refl
          where
            by_place : (b : Bool) → place_eq p a ≡ b → (if b then Some w else note_at es a) ≡ Some v
            by_place true e = let clash = sym none ∙ ap (note_at es) (place_same p a e) ∙ is in cc
            by_place false e = is

  -- ---- a row is set
  row_there : (k : RowKey) (v : Option Row) → map.get (set_row m k v) k ≡ v
  row_there k v = row_got m k k v ∙ ap (λ b. cond b v (map.get m k)) (key_self k)

  pub frame_row : (k : RowKey) (v : Option Row) → is_entry k.kind ≡ true → is_some v ≡ true → (has_finish (map.get m k) ≡ true → has_finish v ≡ true) → ((g : ℕ) → option_map func_called (map.get m k) ≡ Some g → option_map func_called v ≡ Some g) → Frame d m (set_row m k v) p q histories next
  frame_row k v kind there ends calls = frame_entry (set_row m k v) k (set_others m k v) (ap is_some (row_there k v) ∙ there) kind (λ e. ap has_finish (row_there k v) ∙ ends e) (λ g e. ap (option_map func_called) (row_there k v) ∙ calls g e)

  -- that of a read, or of a decision
  pub frame_log : (home : ℕ) (a : Place) (v : Option Row) → is_some v ≡ true → Frame d m (set_row m (log_key home a) v) p q histories next
  frame_log home a v there = let k = log_key home a in frame_of (set_row m k v) k (set_others m k v) (ap is_some (row_there k v) ∙ there) refl (finishes_off m (set_row m k v) k (set_others m k v) refl) (calls_off m (set_row m k v) k (set_others m k v) refl)

  -- that a member asks for a lock, of no transaction that has ended
  pub frame_lockset : (j : IntentId) (b : ℕ) (y : Item) → ((t : TxId) (z : ℕ × Bool) → tx_end d next t ≡ Some z → IsOf next t j → t.begin ≡ b → ⊥) → Frame d m (set_row m (lockset_key j b y) (Some Row.Lockset)) p q histories next
  frame_lockset j b y none = frame_apart asked (grow_off m asked key same refl refl) (rows_stay m asked key same (λ e. ap is_some (row_there key (Some Row.Lockset)))) (content_off m asked key same refl) (λ t x apart. shadow_off m asked key same refl t x)
      (λ t z i x e is here. by_key t z i x e is here (is_eq (key_cmp (lockset_key i t.begin x) key)) refl) (finishes_off m asked key same refl) (calls_off m asked key same refl)
    where
      key : RowKey
      key = lockset_key j b y

      asked : Rows
      asked = set_row m (lockset_key j b y) (Some Row.Lockset)

      same : (l : RowKey) → is_eq (key_cmp l (lockset_key j b y)) ≡ false → map.get (set_row m (lockset_key j b y) (Some Row.Lockset)) l ≡ map.get m l
      same l other = set_others m (lockset_key j b y) (Some Row.Lockset) l other

      by_key : (t : TxId) (z : ℕ × Bool) (i : IntentId) (x : Item) → tx_end d next t ≡ Some z → IsOf next t i → is_some (map.get (set_row m (lockset_key j b y) (Some Row.Lockset)) (lockset_key i t.begin x)) ≡ true → (c : Bool)
          → is_eq (key_cmp (lockset_key i t.begin x) (lockset_key j b y)) ≡ c → is_some (map.get m (lockset_key i t.begin x)) ≡ true
      by_key t z i x e is here true g = let one = key_same (lockset_key i t.begin x) (lockset_key j b y) g in
          absurd (none t z e (subst (IsOf next t) (λ k. intent_in j (one k).kind) is) (λ k. begin_in (one k).kind))
      by_key t z i x e is here false g = ap is_some (sym (same (lockset_key i t.begin x) g)) ∙ here
