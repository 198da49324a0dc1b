-- Rows that keep their seats when one row is set, by the kind of that row.
use Rattle.beldi_invariant.proofs.Names.{AsyncAt, Body, Bool, ByTx, Caller, Effect, IntentId, IntentRow, InvokeRow, Item, Kind, None, Option, Owner, Place, Row, RowKey, Rows, Begun, Some, Stage, TxId, ap, arith, call_in, child_of, content_of, false, has_finish, head_key, invoke_key, is_eq, is_some, is_waited, key_cmp, key_in, key_same, place_of, refl, subst, sym, true, ℕ, ◌∙◌, ◌≡◌, ◌⊎◌, inl, inr, Content, note_at, intent_key}
use Rattle.beldi_invariant.proofs.Names.map
use Rattle.beldi_value.specs.declared.place.Owner.TheVariants.{Intent as ByIntent}
use Rattle.beldi_invariant.proofs.Frames.{is_intent, is_invoke}
use Rattle.beldi_chain.{specs.Chain.content, proofs.Heads.chain_off}
use Rattle.beldi_histories.proofs.{Acts.is_data, Acts.kind_off, Acts.kinds_apart, Acts.same_data}
use Rattle.beldi_invokelog.specs.InvokeLog.{call_at, registered_in}
use Rattle.beldi_upkeep.specs.Callees.{AllFinished, HasBody, HasIntentRow, HasPut, HasTold, IsNoted, IsPassed, RunOwes, Seats, belongs_to, owner_key, seat_of}

-- ---- what is kept of rows for others: no row goes, and what runs have found stays
pub record Onward (m n : Rows) : Type 0 where
  pub rows : (k : RowKey) → is_some (map.get m k) ≡ true → is_some (map.get n k) ≡ true
  pub marks : (f : ℕ) (a : Place) → registered_in (call_at m (invoke_key f a)) ≡ true → registered_in (call_at n (invoke_key f a)) ≡ true

told_on : (m n : Rows) → Onward m n → (s : Stage) (b : Option Caller) → HasTold s b m → HasTold s b n
told_on m n on Stage.Close (Some b) h = λ idle. on.marks b.func b.place (h idle)
told_on m n on Stage.Close None h = tt
told_on m n on s b h = grind arith

put_on : (m n : Rows) → Onward m n → (s : Stage) (e : Effect) (j : IntentId) → HasPut s e j m → HasPut s e j n
put_on m n on (Stage.Async AsyncAt.Note) (Effect.Async f a) j h = on.rows (key_in f j) h
put_on m n on s e j h = grind arith

pub owes_on : (m n : Rows) (id : IntentId) (g : Begun) → Onward m n → ((t : TxId) → IsPassed id g.machine.steps g.tx t → AllFinished m t → AllFinished n t) → RunOwes m id g → RunOwes n id g
owes_on m n id g on closed h = record {
  told = told_on m n on g.stage g.caller h.told;
  put = put_on m n on g.stage g.machine.effect (child_of id g.machine.steps) h.put;
  closed = λ t passed. closed t passed (h.closed t passed);
}

-- ---- owners
-- who may come to own an item: its intent has its row, and the owner of a transaction has no finish
abbrev pub MayOwn : Rows → Owner → Type 0
MayOwn m (ByTx t) = HasIntentRow m (ByTx t) × (has_finish (map.get m (owner_key t)) ≡ false)
MayOwn m (ByIntent i) = HasIntentRow m (ByIntent i)

may_row : (m : Rows) (o : Owner) → MayOwn m o → HasIntentRow m o
may_row m (ByTx t) h = h.0
may_row m (ByIntent i) h = h

-- no row goes
row_on : (m n : Rows) → ((k : RowKey) → is_some (map.get m k) ≡ true → is_some (map.get n k) ≡ true) → (o : Owner) → HasIntentRow m o → HasIntentRow n o
row_on m n rows (ByTx t) h = rows (owner_key t) h
row_on m n rows (ByIntent i) h = (h.0, rows (key_in h.0 i) h.1)

-- ---- one row is set
module _ (m n : Rows) (k : RowKey) (same : (l : RowKey) → is_eq (key_cmp l k) ≡ false → map.get n l ≡ map.get m l) where
  -- its intent has its row
  abbrev pub IsSeated : Type 0
  IsSeated = (i : IntentId) → belongs_to k.kind ≡ Some i → is_some (map.get n (seat_of k i)) ≡ true

  seats_on : ((l : RowKey) → is_some (map.get m l) ≡ true → is_some (map.get n l) ≡ true) → IsSeated → Seats m
      → (l : RowKey) (i : IntentId) → belongs_to l.kind ≡ Some i → is_some (map.get n l) ≡ true → is_some (map.get n (seat_of l i)) ≡ true
  seats_on rows seated h l i of there = by_test (is_eq (key_cmp l k)) refl
    where
      by_test : (b : Bool) → is_eq (key_cmp l k) ≡ b → is_some (map.get n (seat_of l i)) ≡ true
      by_test true e = let one = key_same l k e in subst (λ z. is_some (map.get n (seat_of z i)) ≡ true) (sym one) (seated i (ap (λ z. belongs_to z.kind) (sym one) ∙ of))
      by_test false e = rows (seat_of l i) (h.has_seat l i of (ap is_some (sym (same l e)) ∙ there))

  intents_off : is_intent k.kind ≡ false → (home : ℕ) (i : IntentId) → map.get n (key_in home i) ≡ map.get m (key_in home i)
  intents_off off home i = same (key_in home i) (kinds_apart is_intent (key_in home i) k refl off)

  calls_off : is_invoke k.kind ≡ false → (f : ℕ) (a : Place) → map.get n (invoke_key f a) ≡ map.get m (invoke_key f a)
  calls_off off f a = same (invoke_key f a) (kinds_apart is_invoke (invoke_key f a) k refl off)

  pub contents_off : is_data k.kind ≡ false → (x : Item) → content_of n x ≡ content_of m x
  contents_off off x = ap content (chain_off m n k (head_key x) same (record { first = refl; numbered = λ i. refl }) (kind_off is_data same_data (head_key x) k refl off))

  body_off : is_intent k.kind ≡ false → (home : ℕ) (i : IntentId) (r : IntentRow) (b : Body) → HasBody n home i r b → HasBody m home i r b
  body_off off home i r b h = record { there = sym (intents_off off home i) ∙ h.there; body = h.body }

  finish_off : is_intent k.kind ≡ false → (t : TxId) → has_finish (map.get n (owner_key t)) ≡ true → has_finish (map.get m (owner_key t)) ≡ true
  finish_off off t e = ap has_finish (sym (same (owner_key t) (kinds_apart is_intent (owner_key t) k refl off))) ∙ e

  pub finished_off : is_intent k.kind ≡ false → (t : TxId) → AllFinished m t → AllFinished n t
  finished_off off t all home i r b h = all home i r b (body_off off home i r b h)

  -- neither an intent's nor a call's
  module _ (rows : (l : RowKey) → is_some (map.get m l) ≡ true → is_some (map.get n l) ≡ true) (seated : IsSeated) (h : Seats m) where
    -- who owns an item then owned it, or may own it
    -- .. and a place that has its note then had it, or is of an intent that has its row
    pub quiet_seats : is_intent k.kind ≡ false → is_invoke k.kind ≡ false → ((o : Owner) (x : Item) → (content_of n x).owner ≡ Some o → ((content_of m x).owner ≡ Some o) ⊎ MayOwn m o)
        → ((x : Item) (p : Place) → IsNoted n x p → IsNoted m x p ⊎ (is_some (map.get m (intent_key p.intent x.func)) ≡ true)) → Seats n
    quiet_seats off call owners notes = record {
      has_seat = seats_on rows seated h;
      ends_last = λ t home i r b over body. h.ends_last t home i r b (finish_off off t over) (body_off off home i r b body);
      owns_none = λ t x over owned. elim (owners (ByTx t) x owned) [
        | inl was ↦ h.owns_none t x (finish_off off t over) was
        | inr may ↦ let clash = sym may.1 ∙ finish_off off t over in cc
      ];
      owner_has_row = λ o x owned. row_on m n rows o (elim (owners o x owned) [
        | inl was ↦ h.owner_has_row o x was
        | inr may ↦ may_row m o may
      ]);
      noted_has_row = λ x p noted. rows (intent_key p.intent x.func) (elim (notes x p noted) [
        | inl was ↦ h.noted_has_row x p was
        | inr there ↦ there
      ]);
      registered = λ f i p c home r b at none body. h.registered f i p c home r b (sym (calls_off call f (place_of i p)) ∙ at) none (body_off off home (child_of i p) r b body);
      enrolled = λ f i p c at is. rows (key_in c.func (child_of i p)) (h.enrolled f i p c (sym (calls_off call f (place_of i p)) ∙ at) is);
    }

    pub quiet_on : is_invoke k.kind ≡ false → Onward m n
    quiet_on call = record { rows = rows; marks = λ f a e. ap (λ r. registered_in (call_in r)) (calls_off call f a) ∙ e }

-- ---- the row of a call is set
module _ (m n : Rows) (f : ℕ) (i : IntentId) (p : ℕ) (same : (l : RowKey) → is_eq (key_cmp l (invoke_key f (place_of i p))) ≡ false → map.get n l ≡ map.get m l)
    (rows : (l : RowKey) → is_some (map.get m l) ≡ true → is_some (map.get n l) ≡ true) where
  abbrev k : RowKey
  k = invoke_key f (place_of i p)

  pub call_seats : IsSeated m n k same → Seats m
      → ((c : InvokeRow) (home : ℕ) (r : IntentRow) (b : Body) → map.get n k ≡ Some (Row.Invoke c) → c.registered ≡ false → HasBody m home (child_of i p) r b → is_waited b.parent ≡ false → r.outcome ≡ None)
      → ((c : InvokeRow) → map.get n k ≡ Some (Row.Invoke c) → c.registered ≡ true → is_some (map.get m (key_in c.func (child_of i p))) ≡ true) → Seats n
  call_seats seated h is_open enrolls = record {
    has_seat = seats_on m n k same rows seated h;
    ends_last = λ t home j r b over body. h.ends_last t home j r b (finish_off m n k same refl t over) (body_off m n k same refl home j r b body);
    owns_none = λ t x over owned. h.owns_none t x (finish_off m n k same refl t over) (ap (λ c. c.owner) (sym (contents_off m n k same refl x)) ∙ owned);
    owner_has_row = λ o x owned. row_on m n rows o (h.owner_has_row o x (ap (λ c. c.owner) (sym (contents_off m n k same refl x)) ∙ owned));
    noted_has_row = λ x p noted. rows (intent_key p.intent x.func) (h.noted_has_row x p (ap (λ (z : Content). is_some (note_at z.notes p)) (sym (contents_off m n k same refl x)) ∙ noted));
    registered = λ g j q c home r b at none body. by_open g j q c home r b at none (body_off m n k same refl home (child_of j q) r b body) (is_eq (key_cmp (invoke_key g (place_of j q)) k)) refl;
    enrolled = λ g j q c at is. rows (key_in c.func (child_of j q)) (by_mark g j q c at is (is_eq (key_cmp (invoke_key g (place_of j q)) k)) refl);
  }
    where
      place_in : Place → Kind → Place
      place_in a (Kind.Invoke b) = b
      place_in a z = a

      child_is : (g : ℕ) (j : IntentId) (q : ℕ) → invoke_key g (place_of j q) ≡ k → child_of j q ≡ child_of i p
      child_is g j q e = ap (λ (z : RowKey). let a = place_in (place_of i p) z.kind in child_of a.intent a.step) e

      by_open : (g : ℕ) (j : IntentId) (q : ℕ) (c : InvokeRow) (home : ℕ) (r : IntentRow) (b : Body) → map.get n (invoke_key g (place_of j q)) ≡ Some (Row.Invoke c) → c.registered ≡ false → HasBody m home (child_of j q) r b → (t : Bool) → is_eq (key_cmp (invoke_key g (place_of j q)) k) ≡ t
          → is_waited b.parent ≡ false → r.outcome ≡ None
      by_open g j q c home r b at none body true e idle = let one = key_same (invoke_key g (place_of j q)) k e in is_open c home r b (ap (map.get n) (sym one) ∙ at) none (subst (λ z. HasBody m home z r b) (child_is g j q one) body) idle
      by_open g j q c home r b at none body false e idle = h.registered g j q c home r b (sym (same (invoke_key g (place_of j q)) e) ∙ at) none body idle

      by_mark : (g : ℕ) (j : IntentId) (q : ℕ) (c : InvokeRow) → map.get n (invoke_key g (place_of j q)) ≡ Some (Row.Invoke c) → c.registered ≡ true → (t : Bool) → is_eq (key_cmp (invoke_key g (place_of j q)) k) ≡ t → is_some (map.get m (key_in c.func (child_of j q))) ≡ true
      by_mark g j q c at is true e = let one = key_same (invoke_key g (place_of j q)) k e in subst (λ z. is_some (map.get m (key_in c.func z)) ≡ true) (sym (child_is g j q one)) (enrolls c (ap (map.get n) (sym one) ∙ at) is)
      by_mark g j q c at is false e = h.enrolled g j q c (sym (same (invoke_key g (place_of j q)) e) ∙ at) is

  pub call_on : (registered_in (call_at m k) ≡ true → registered_in (call_at n k) ≡ true) → Onward m n
  call_on here = record { rows = rows; marks = λ g a. by_test g a (is_eq (key_cmp (invoke_key g a) k)) refl }
    where
      by_test : (g : ℕ) (a : Place) (t : Bool) → is_eq (key_cmp (invoke_key g a) k) ≡ t → registered_in (call_at m (invoke_key g a)) ≡ true → registered_in (call_at n (invoke_key g a)) ≡ true
      by_test g a true e = subst (λ z. registered_in (call_at m z) ≡ true → registered_in (call_at n z) ≡ true) (sym (key_same (invoke_key g a) k e)) here
      by_test g a false e = λ was. ap (λ r. registered_in (call_in r)) (same (invoke_key g a) e) ∙ was

-- ---- the row of an intent is set
module _ (m n : Rows) (home : ℕ) (id : IntentId) (same : (l : RowKey) → is_eq (key_cmp l (key_in home id)) ≡ false → map.get n l ≡ map.get m l)
    (rows : (l : RowKey) → is_some (map.get m l) ≡ true → is_some (map.get n l) ≡ true) where
  abbrev own : RowKey
  own = key_in home id

  -- a body is the one that is set, or was there before
  abbrev IsSet : ℕ → IntentId → IntentRow → Body → Type 0
  IsSet f i r b = ((f ≡ home) × (i ≡ id) × HasBody n home id r b) ⊎ HasBody m f i r b

  is_set : (f : ℕ) (i : IntentId) (r : IntentRow) (b : Body) → HasBody n f i r b → IsSet f i r b
  is_set f i r b body = by_test (is_eq (key_cmp (key_in f i) own)) refl
    where
      id_in : IntentId → Kind → IntentId
      id_in j (Kind.Intent z) = z
      id_in j z = j

      by_test : (t : Bool) → is_eq (key_cmp (key_in f i) own) ≡ t → IsSet f i r b
      by_test true e = let one = key_same (key_in f i) own e in inl (ap (λ (z : RowKey). z.home) one, ap (λ (z : RowKey). id_in id z.kind) one, record { there = ap (map.get n) (sym one) ∙ body.there; body = body.body })
      by_test false e = inr (record { there = sym (same (key_in f i) e) ∙ body.there; body = body.body })

  -- an owner's finish is this row's, or was there before
  over_set : (t : TxId) → has_finish (map.get n (owner_key t)) ≡ true → (owner_key t ≡ own) ⊎ (has_finish (map.get m (owner_key t)) ≡ true)
  over_set t over = by_test (is_eq (key_cmp (owner_key t) own)) refl
    where
      by_test : (b : Bool) → is_eq (key_cmp (owner_key t) own) ≡ b → (owner_key t ≡ own) ⊎ (has_finish (map.get m (owner_key t)) ≡ true)
      by_test true e = inl (key_same (owner_key t) own e)
      by_test false e = inr (ap has_finish (sym (same (owner_key t) e)) ∙ over)

  -- who took part in such a transaction has its finish then: by its own row, or as before
  pub finished_set : (t : TxId) → ((r : IntentRow) (b : Body) → HasBody n home id r b → b.tx ≡ Some t → is_some r.finish ≡ true) → AllFinished m t → AllFinished n t
  finished_set t here all f i r b body in_it = elim (is_set f i r b body) [
    | inl s ↦ here r b s.2 in_it
    | inr was ↦ all f i r b was in_it
  ]

  -- an owner that was finished before, or whose transaction may end now
  abbrev NowOver : TxId → Type 0
  NowOver t = (has_finish (map.get m (owner_key t)) ≡ true) ⊎ (AllFinished m t × ((x : Item) → (content_of m x).owner ≡ Some (ByTx t) → ⊥))

  pub intent_seats : IsSeated m n own same → Seats m
      -- it ends a transaction's owner only where all have their finish, and nothing is owned
      → ((t : TxId) → owner_key t ≡ own → has_finish (map.get n own) ≡ true → has_finish (map.get m own) ≡ false → AllFinished m t × ((x : Item) → (content_of m x).owner ≡ Some (ByTx t) → ⊥))
      -- one that took part has its finish where the owner had it before, or gets it now
      → ((t : TxId) (r : IntentRow) (b : Body) → has_finish (map.get n (owner_key t)) ≡ true → HasBody n home id r b → b.tx ≡ Some t → is_some r.finish ≡ true)
      -- and its outcome only where its call says that it is registered
      → ((f : ℕ) (i : IntentId) (p : ℕ) (c : InvokeRow) (r : IntentRow) (b : Body) → map.get m (invoke_key f (place_of i p)) ≡ Some (Row.Invoke c) → c.registered ≡ false → child_of i p ≡ id → HasBody n home id r b → is_waited b.parent ≡ false → r.outcome ≡ None)
      → Seats n
  intent_seats seated h ends part outcome = record {
    has_seat = seats_on m n own same rows seated h;
    ends_last = λ t f i r b over body in_it. last t f i r b over in_it (is_set f i r b body);
    owns_none = λ t x over owned. none t x (ap (λ c. c.owner) (sym (contents_off m n own same refl x)) ∙ owned) (over_by t over);
    owner_has_row = λ o x owned. row_on m n rows o (h.owner_has_row o x (ap (λ c. c.owner) (sym (contents_off m n own same refl x)) ∙ owned));
    noted_has_row = λ x p noted. rows (intent_key p.intent x.func) (h.noted_has_row x p (ap (λ (z : Content). is_some (note_at z.notes p)) (sym (contents_off m n own same refl x)) ∙ noted));
    registered = λ f i p c g r b at is_open body idle. by_body f i p c g r b (sym (calls_off m n own same refl f (place_of i p)) ∙ at) is_open idle (is_set g (child_of i p) r b body);
    enrolled = λ f i p c at is. rows (key_in c.func (child_of i p)) (h.enrolled f i p c (sym (calls_off m n own same refl f (place_of i p)) ∙ at) is);
  }
    where
      by_before : (t : TxId) → owner_key t ≡ own → has_finish (map.get n own) ≡ true → (b : Bool) → has_finish (map.get m own) ≡ b → NowOver t
      by_before t one over true e = inl (ap (λ z. has_finish (map.get m z)) one ∙ e)
      by_before t one over false e = inr (ends t one over e)

      over_by : (t : TxId) → has_finish (map.get n (owner_key t)) ≡ true → NowOver t
      over_by t over = elim (over_set t over) [
        | inl one ↦ by_before t one (ap (λ z. has_finish (map.get n z)) (sym one) ∙ over) (has_finish (map.get m own)) refl
        | inr was ↦ inl was
      ]

      none : (t : TxId) (x : Item) → (content_of m x).owner ≡ Some (ByTx t) → NowOver t → ⊥
      none t x owned (inl was) = h.owns_none t x was owned
      none t x owned (inr e) = e.1 x owned

      was_last : (t : TxId) (f : ℕ) (i : IntentId) (r : IntentRow) (b : Body) → HasBody m f i r b → b.tx ≡ Some t → NowOver t → is_some r.finish ≡ true
      was_last t f i r b body in_it (inl was) = h.ends_last t f i r b was body in_it
      was_last t f i r b body in_it (inr e) = e.0 f i r b body in_it

      last : (t : TxId) (f : ℕ) (i : IntentId) (r : IntentRow) (b : Body) → has_finish (map.get n (owner_key t)) ≡ true → b.tx ≡ Some t → IsSet f i r b → is_some r.finish ≡ true
      last t f i r b over in_it (inl s) = part t r b over s.2 in_it
      last t f i r b over in_it (inr was) = was_last t f i r b was in_it (over_by t over)

      by_body : (f : ℕ) (i : IntentId) (p : ℕ) (c : InvokeRow) (g : ℕ) (r : IntentRow) (b : Body) → map.get m (invoke_key f (place_of i p)) ≡ Some (Row.Invoke c) → c.registered ≡ false → is_waited b.parent ≡ false → IsSet g (child_of i p) r b → r.outcome ≡ None
      by_body f i p c g r b at is_open idle (inl s) = outcome f i p c r b at is_open s.1 s.2 idle
      by_body f i p c g r b at is_open idle (inr was) = h.registered f i p c g r b at is_open was idle

  pub intent_on : Onward m n
  intent_on = record { rows = rows; marks = λ f a e. ap (λ r. registered_in (call_in r)) (calls_off m n own same refl f a) ∙ e }
