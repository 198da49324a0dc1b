-- What rows keep of transactions is kept: where the plain state grows, where rows move by a frame, and where an instance is set.
use Rattle.beldi_invariant.proofs.Names.{AllShort, Answer, Bool, ByTx, Cause, Deployment, Effect, Frame, Grows, HoldersInsideAreMade, Instance, IntentId, IsBelow, IsFreePlace, Item, Histories, List, None, Option, Outcome, OwnedAreUnmarked, OwnersCallNobody, OwnersHaveNotEnded, ParticipantsAreReleased, ParticipantsHaveRows, Place, PlainState, Rows, Some, TookPart, TxId, Txs, [], local_answer, answered, answered_if, ap, arith, local_steps, content_of, effect_of, end_of, ended, ended_by, inl, inr, intent_key, is_some, key_in, recorded_set, length, advanced, local_step, local_step_if, outcome_of, outside_parts, place_of, pushed_cases, refl, same_some, slice_get, subst, sym, touched, true, tx_after, tx_at, tx_end, tx_now, txs_after, txs_pushed, ℕ, ◌∙◌, ◌≡◌, ◌≤◌}
use Rattle.beldi_invariant.proofs.{KeptWellFormed.outside_effect, Lives.made_stays, Outside.is_of_tx, Shown.Settled}
use Rattle.beldi_invariant.proofs.Names.map

-- the plain state grows
pub settled_grown : (d : Deployment) (m : Rows) (p q : PlainState) (histories : Histories) → Grows p.made q.made → Settled d m p histories → Settled d m q histories
settled_grown d m p q histories grows h = record {
  marks = h.marks;
  latest = h.latest;
  unended = h.unended;
  holders = λ id k n c i is inside dead holder. made_stays (map.get p.made i) (map.get q.made i) (grows i) (h.holders id k n c i is inside dead holder);
  seated = h.seated;
  released = h.released;
  short = h.short;
}

-- the rows move, by a frame
module _ (d : Deployment) (m n : Rows) (p q : PlainState) (histories next : Histories) (frame : Frame d m n p q histories next) where
  pub marks_stay : OwnedAreUnmarked d m next → OwnedAreUnmarked d n next
  marks_stay marks t z x a w e own free noted = let s = frame.owners t z x e own in marks t z x a w e s.owner free (sym (s.notes a free) ∙ noted)

  pub latest_stays : OwnersCallNobody d m next → OwnersCallNobody d n next
  latest_stays latest t z x i e own = let s = frame.owners t z x e own in latest t z x i e s.owner

  pub unended_stays : OwnersHaveNotEnded d m next → OwnersHaveNotEnded d n next
  unended_stays unended t z x e own = let s = frame.owners t z x e own in let u = unended t z x e s.owner in (frame.rows (intent_key t.intent t.func) u.0, u.1)

  pub seated_stays : ParticipantsHaveRows m next → ParticipantsHaveRows n next
  seated_stays seated id k t is within over = frame.rows (key_in k.func id) (seated id k t is within over)

  -- .. by which who took part and has its finish has given back all
  pub settled_rows : ParticipantsAreReleased d n next → Settled d m q next → Settled d n q next
  settled_rows released h = record { marks = marks_stay h.marks; latest = latest_stays h.latest; unended = unended_stays h.unended; holders = h.holders; seated = seated_stays h.seated; released = released; short = h.short }

-- what it wants of an instance: who let a step die was made, who took part and has its outcome has its row, and its id is short
pub record IsSettled (d : Deployment) (m : Rows) (p : PlainState) (id : IntentId) (s : Instance) : Type 0 where
  pub holders : (n : ℕ) (c : Cause) (i : IntentId) → is_some (tx_at d id s n) ≡ true → slice_get s.answers n ≡ Some (Answer.Aborted c) → c.holder ≡ Some i → is_some (map.get p.made i) ≡ true
  pub seated : (t : TxId) → s.enclosing ≡ Some t → is_some s.outcome ≡ true → is_some (map.get m (key_in s.func id)) ≡ true
  pub short : length id.hops ≤ 63

-- there is no outcome, where a transaction of the intent has ended and owns an item still
abbrev pub UnendedOwner : Deployment → Rows → Histories → IntentId → Option Outcome → Type 0
UnendedOwner d m histories id o = (t : TxId) (z : ℕ × Bool) (x : Item) → tx_end d histories t ≡ Some z → (content_of m x).owner ≡ Some (ByTx t) → t.intent ≡ id → o ≡ None

-- .. beside what the histories have: none of its transactions ended that had not, it joins none that has ended, is called by no owner past
-- its end that owns an item still, and has not ended where it owns one so
pub record GoesAlong (d : Deployment) (m : Rows) (histories : Histories) (id : IntentId) (s : Instance) : Type 0 where
  pub ends : (b : ℕ) (z : ℕ × Bool) → end_of d s b ≡ Some z → ended_by d b (map.get histories id) ≡ Some z
  pub joined : (t : TxId) (z : ℕ × Bool) → tx_end d histories t ≡ Some z → s.enclosing ≡ Some t → TookPart histories t id
  pub late : (t : TxId) (z : ℕ × Bool) (x : Item) → tx_end d histories t ≡ Some z → (content_of m x).owner ≡ Some (ByTx t) → IsBelow (record { intent = t.intent; begin = z.0; func = t.func }) id → ⊥
  pub unended : UnendedOwner d m histories id s.outcome

module _ (d : Deployment) (m : Rows) (p : PlainState) (histories : Histories) (id : IntentId) (s : Instance) where
  -- an instance is set, of whose transactions the rows keep what they have to
  module _ (one : IsSettled d m p id s) (h : Settled d m p histories) where
    pub holders_set : HoldersInsideAreMade d p (map.insert histories id s)
    holders_set j k n c i is inside dead holder = recorded_set histories id s (λ j o. o ≡ Some k → is_some (tx_at d j k n) ≡ true → is_some (map.get p.made i) ≡ true)
        (λ e g. one.holders n c i (subst (λ (y : Instance). is_some (tx_at d id y n) ≡ true) (sym (same_some e)) g) (subst (λ (y : Instance). slice_get y.answers n ≡ Some (Answer.Aborted c)) (sym (same_some e)) dead) holder)
        (λ j other e g. h.holders j k n c i e g dead holder) j is inside

    pub seated_set : ParticipantsHaveRows m (map.insert histories id s)
    seated_set j k t is within over = recorded_set histories id s (λ j o. o ≡ Some k → is_some (map.get m (key_in k.func j)) ≡ true)
        (λ e. subst (λ (y : Instance). y.enclosing ≡ Some t → is_some y.outcome ≡ true → is_some (map.get m (key_in y.func id)) ≡ true) (same_some e) (one.seated t) within over)
        (λ j other e. h.seated j k t e within over) j is

    pub short_set : AllShort (map.insert histories id s)
    short_set j there = recorded_set histories id s (λ j o. is_some o ≡ true → length j.hops ≤ 63) (λ e. one.short) (λ j other e. h.short j e) j there

    -- .. none of which ended that had not
    pub settled_set : GoesAlong d m histories id s → Settled d m p (map.insert histories id s)
    settled_set along = record {
      marks = λ t z x a w e own free noted. h.marks t z x a w (ended t z e) own (place t z a (ended t z e) free) noted;
      latest = λ t z x i e own below. recorded_set histories id s (λ j o. IsBelow (record { intent = t.intent; begin = z.0; func = t.func }) j → o ≡ None)
          (λ b. absurd (along.late t z x (ended t z e) own b)) (λ j other b. h.latest t z x j (ended t z e) own b) i below;
      unended = λ t z x e own. let u = h.unended t z x (ended t z e) own in
          (u.0, recorded_set histories id s (λ j o. t.intent ≡ j → outcome_of o ≡ None) (along.unended t z x (ended t z e) own) (λ j other same. subst (λ i. outcome_of (map.get histories i) ≡ None) same u.1) t.intent refl);
      holders = holders_set;
      seated = seated_set;
      released = λ t z e. h.released t z (ended t z e);
      short = short_set;
    }
      where
        ended : (t : TxId) (z : ℕ × Bool) → tx_end d (map.insert histories id s) t ≡ Some z → tx_end d histories t ≡ Some z
        ended t z e = recorded_set histories id s (λ j o. ended_by d t.begin o ≡ Some z → ended_by d t.begin (map.get histories j) ≡ Some z) (along.ends t.begin z) (λ j other e. e) t.intent e

        took : (t : TxId) (z : ℕ × Bool) (i : IntentId) → tx_end d histories t ≡ Some z → TookPart (map.insert histories id s) t i → TookPart histories t i
        took t z i e part = recorded_set histories id s (λ j o. o ≡ Some part.instance → TookPart histories t j) (λ g. along.joined t z e (ap (λ (y : Instance). y.enclosing) (same_some g) ∙ part.enclosing))
            (λ j other g. record { instance = part.instance; made = g; enclosing = part.enclosing }) i part.made

        place : (t : TxId) (z : ℕ × Bool) (a : Place) → tx_end d histories t ≡ Some z → IsFreePlace (map.insert histories id s) t z.0 a → IsFreePlace histories t z.0 a
        place t z a e free = elim free [
          | inl at ↦ inl at
          | inr g ↦ inr (g.0, took t z a.intent e g.1)
        ]

-- ---- such instances
-- one that is known
module _ (d : Deployment) (m : Rows) (p : PlainState) (histories : Histories) (id : IntentId) (k : Instance) (is : map.get histories id ≡ Some k) (h : Settled d m p histories) where
  pub one_recorded : IsSettled d m p id k
  one_recorded = record { holders = λ n c i inside dead holder. h.holders id k n c i is inside dead holder; seated = λ t within over. h.seated id k t is within over; short = h.short id (ap is_some is) }

  pub recorded_unended : UnendedOwner d m histories id k.outcome
  recorded_unended t z x e own same = ap outcome_of (sym (ap (map.get histories) same ∙ is)) ∙ (h.unended t z x e own).1

  -- .. goes along, and so does one that is as it was but for its answers, of which none ended a transaction, and for its outcome
  pub goes_recorded : (s : Instance) → s.enclosing ≡ k.enclosing → ((b : ℕ) (z : ℕ × Bool) → end_of d s b ≡ Some z → end_of d k b ≡ Some z) → UnendedOwner d m histories id s.outcome → GoesAlong d m histories id s
  goes_recorded s within ends unended = record {
    ends = λ b z e. ap (ended_by d b) is ∙ ends b z e;
    joined = λ t z e g. record { instance = k; made = is; enclosing = sym within ∙ g };
    late = λ t z x e own below. let clash = sym is ∙ h.latest t z x id e own below in cc;
    unended = unended;
  }

-- a new one
pub one_new : (d : Deployment) (m : Rows) (p : PlainState) (id : IntentId) (s : Instance) → s.answers ≡ [] → s.outcome ≡ None → length id.hops ≤ 63 → IsSettled d m p id s
one_new d m p id s none open_still short = record {
  holders = λ n c i inside dead holder. let clash = sym (ap (λ ts. slice_get ts n) none) ∙ dead in cc;
  seated = λ t within over. let clash = sym (ap is_some open_still) ∙ over in cc;
  short = short;
}

-- one that ended: if it took part, it has its row
pub one_ended : (d : Deployment) (m : Rows) (p : PlainState) (id : IntentId) (s : Instance) (o : Outcome) → ((t : TxId) → s.enclosing ≡ Some t → is_some (map.get m (key_in s.func id)) ≡ true) → IsSettled d m p id s → IsSettled d m p id (ended s o)
one_ended d m p id s o there h = record { holders = h.holders; seated = λ t within over. there t within; short = h.short }

-- what it wants of an answer to an effect: the effect is no End, and a death has a holder that was made
pub record IsFit (d : Deployment) (p : PlainState) (t : Option TxId) (e : Effect) (a : Answer) : Type 0 where
  pub no_end : (c : Bool) → e ≡ Effect.End c → ⊥
  pub holder : (c : Cause) (i : IntentId) → is_some t ≡ true → a ≡ Answer.Aborted c → c.holder ≡ Some i → is_some (map.get p.made i) ≡ true

-- who let a step die, by its answer
abbrev holder_in : Answer → Option IntentId
holder_in (Answer.Aborted c) = c.holder
holder_in a = None

-- one that was answered so
pub one_answered : (d : Deployment) (m : Rows) (p : PlainState) (id : IntentId) (s : Instance) (a : Answer) → ((c : Cause) (i : IntentId) → is_some (tx_now d id s) ≡ true → a ≡ Answer.Aborted c → c.holder ≡ Some i → is_some (map.get p.made i) ≡ true) → IsSettled d m p id s → IsSettled d m p id (answered s a)
one_answered d m p id s a made h = record {
  holders = λ n c i inside dead holder. elim (pushed_cases s.answers a (Answer.Aborted c) n dead) [
    | inl e ↦ made c i (sym (ap (λ ts. is_some (tx_after d id s ts)) e.1) ∙ inside) (sym e.2) holder
    | inr e ↦ h.holders n c i (sym (ap (λ ts. is_some (tx_after d id s ts)) e.0) ∙ inside) e.1 holder
  ];
  seated = h.seated;
  short = h.short;
}

-- an answer to no End ends no transaction
same_ends : (d : Deployment) (s : Instance) (a : Answer) → ((c : Bool) → effect_of d s ≡ Effect.End c → ⊥) → (b : ℕ) → end_of d (answered s a) b ≡ end_of d s b
same_ends d s a none b = ap (λ (t : Txs). t.ends b) (txs_pushed d s s.answers a) ∙ grind (arith, none)

-- .. and what takes no turn, which ends none
pub record SameBut (d : Deployment) (m : Rows) (p : PlainState) (id : IntentId) (s r : Instance) : Type 0 where
  pub settled : IsSettled d m p id r
  pub enclosing : r.enclosing ≡ s.enclosing
  pub outcome : r.outcome ≡ s.outcome
  pub ends : (b : ℕ) → end_of d r b ≡ end_of d s b

pub one_local_steps : (d : Deployment) (m : Rows) (p : PlainState) (id : IntentId) (s : Instance) → IsSettled d m p id s → SameBut d m p id s (local_steps d id s)
one_local_steps d m p id s h = let k = once_more s h in let l = once_more (local_step d id s) k.settled in record { settled = l.settled; enclosing = l.enclosing ∙ k.enclosing; outcome = l.outcome ∙ k.outcome; ends = λ b. l.ends b ∙ k.ends b }
  where
    by_answer : (s : Instance) (a : Answer) → ((c : Bool) → effect_of d s ≡ Effect.End c → ⊥) → ((c : Cause) (i : IntentId) → a ≡ Answer.Aborted c → c.holder ≡ Some i → ⊥) → IsSettled d m p id s → SameBut d m p id s (answered s a)
    by_answer s a none dead h = record { settled = one_answered d m p id s a (λ c i inside e holder. absurd (dead c i e holder)) h; enclosing = refl; outcome = refl; ends = same_ends d s a none }

    as_was : (s : Instance) → IsSettled d m p id s → SameBut d m p id s s
    as_was s h = record { settled = h; enclosing = refl; outcome = refl; ends = λ b. refl }

    by_effect : (s : Instance) (e : Effect) → effect_of d s ≡ e → IsSettled d m p id s → SameBut d m p id s (answered_if s (local_answer id (length s.answers) e))
    by_effect s Effect.Begin is h = by_answer s Answer.Done (λ c g. let clash = sym is ∙ g in cc) (λ c i dead. cc) h
    by_effect s Effect.Abort is h = by_answer s (Answer.Aborted (record { place = place_of id (length s.answers); holder = None })) (λ c g. let clash = sym is ∙ g in cc)
        (λ c i dead holder. let clash : None ≡ Some i = ap holder_in dead ∙ holder in cc) h
    by_effect s e is h = as_was s h

    by_outcome : (s : Instance) (o : Option Outcome) → IsSettled d m p id s → SameBut d m p id s (local_step_if d id s o)
    by_outcome s None h = by_effect s (effect_of d s) refl h
    by_outcome s (Some o) h = as_was s h

    once_more : (s : Instance) → IsSettled d m p id s → SameBut d m p id s (local_step d id s)
    once_more s h = by_outcome s s.outcome h

-- ---- an instance is made: in no transaction that has ended, and by no owner past its end that owns an item still
pub settled_new : (d : Deployment) (m : Rows) (p : PlainState) (histories : Histories) (id : IntentId) (s : Instance) → s.answers ≡ [] → s.outcome ≡ None → length id.hops ≤ 63 → map.get histories id ≡ None → ((t : TxId) → s.enclosing ≡ Some t → tx_end d histories t ≡ None)
    → ((t : TxId) (z : ℕ × Bool) (x : Item) → tx_end d histories t ≡ Some z → (content_of m x).owner ≡ Some (ByTx t) → IsBelow (record { intent = t.intent; begin = z.0; func = t.func }) id → ⊥) → Settled d m p histories → Settled d m p (map.insert histories id (local_steps d id s))
settled_new d m p histories id s none open_still short new still late h =
    let k = one_local_steps d m p id s (one_new d m p id s none open_still short) in
    settled_set d m p histories id (local_steps d id s) k.settled h (record {
      ends = λ b z e. let clash = sym (k.ends b ∙ ap (λ ts. (txs_after d s ts).ends b) none) ∙ e in cc;
      joined = λ t z e within. let clash = sym (still t (sym k.enclosing ∙ within)) ∙ e in cc;
      late = late;
      unended = λ t z x e own same. k.outcome ∙ open_still;
    })

-- .. ends, and owns nothing past its ends
pub settled_ended : (d : Deployment) (m : Rows) (p : PlainState) (histories : Histories) (id : IntentId) (k : Instance) (o : Outcome) → map.get histories id ≡ Some k → ((t : TxId) → k.enclosing ≡ Some t → is_some (map.get m (key_in k.func id)) ≡ true) → UnendedOwner d m histories id (Some o) → Settled d m p histories → Settled d m p (map.insert histories id (ended k o))
settled_ended d m p histories id k o is there free h = settled_set d m p histories id (ended k o) (one_ended d m p id k o there (one_recorded d m p histories id k is h)) h (goes_recorded d m p histories id k is h (ended k o) refl (λ b z e. e) free)

-- .. or is answered
module _ (d : Deployment) (m : Rows) (p : PlainState) (histories : Histories) (id : IntentId) (k : Instance) (is : map.get histories id ≡ Some k) (a : Answer) where
  pub settled_moved : IsFit d p (tx_now d id k) (effect_of d k) a → Settled d m p histories → Settled d m p (map.insert histories id (advanced d id k a))
  settled_moved fit h =
      let s = one_local_steps d m p id (answered k a) (one_answered d m p id k a fit.holder (one_recorded d m p histories id k is h)) in
      settled_set d m p histories id (advanced d id k a) s.settled h (goes_recorded d m p histories id k is h (advanced d id k a) s.enclosing (λ b z e. sym (s.ends b ∙ same_ends d k a fit.no_end b) ∙ e) (λ t z x e own same. s.outcome ∙ recorded_unended d m p histories id k is h t z x e own same))

  -- outside transactions
  pub settled_outside : tx_now d id k ≡ None → Settled d m p histories → Settled d m p (map.insert histories id (advanced d id k a))
  settled_outside outside h = settled_moved (record {
    no_end = λ c g. let out = outside_parts d id k k.answers outside in let clash = sym (outside_effect d k k.answers out.0 out.1) ∙ ap is_of_tx g in cc;
    holder = λ c i inside dead holder. let clash = sym (ap is_some outside) ∙ inside in cc;
  }) h

  -- .. or at an operation inside, of whose death the holder was made
  pub settled_operated : (o : ℕ × List ℕ) → touched (effect_of d k) ≡ Some o → ((c : Cause) (i : IntentId) → a ≡ Answer.Aborted c → c.holder ≡ Some i → is_some (map.get p.made i) ≡ true) → Settled d m p histories → Settled d m p (map.insert histories id (advanced d id k a))
  settled_operated o touch dead h = settled_moved (record { no_end = λ c g. let clash = sym (ap touched g) ∙ touch in cc; holder = λ c i inside. dead c i }) h
