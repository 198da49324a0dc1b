-- Who lets an operation inside die is older than its transaction.
use Rattle.beldi_histories.proofs.Names.{Bool, Content, Deployment, Instance, Intent, IntentId, IsDeath, IsPending, Item, ItemMatches, Histories, List, None, Option, Owner, Place, WellFormedHistories, Some, ContentReply, Tx, TxId, age_of, ap, died, either, false, held, id_eq, id_self, if◌then◌else◌, is_older, is_owner, lock_on, lock_or, none_by, note_at, other_owner, owner_eq, refl, sym, touched, true, with_note, ℕ, ◌∙◌, ◌≡◌, Note}
use Rattle.beldi_histories.proofs.{LockRows.tx_self, Participants.owner_holds_none, LockReplies.past_note, Cases.by_cases}

-- it owns the item, and is not younger
record Stops (t : TxId) (was : Option Owner) (holder : IntentId) : Type 0 where
  owner : Owner
  owns : was ≡ Some owner
  other : owner_eq owner (Tx t) ≡ false
  old : is_older t.intent (age_of owner) ≡ false
  age : age_of owner ≡ holder

stops : (p : Place) (t : TxId) (c x : Content) (holder : IntentId) → lock_on p t c ≡ (x, died holder) → Stops t c.owner holder
stops p t c x holder h =
    let k = past_note c x (note_at c.notes p) (lock_or p t c (other_owner (Tx t) c.owner)) (died holder) h (λ m e. cc) in
    by_owner c.owner k.1
  where
    by_age : (o : Owner) → owner_eq o (Tx t) ≡ false → (b : Bool) → is_older t.intent (age_of o) ≡ b → ◌≡◌ {A = Content × ContentReply} (if b then (c, held o) else (with_note c p (Note.Died (age_of o)), died (age_of o))) (x, died holder) → Stops t (Some o) holder
    by_age o other true e g = let clash = ap (λ z. z.1) g in cc
    by_age o other false e g = let told = ap (λ z. z.1) g in let same : age_of o ≡ holder = cc in record { owner = o; owns = refl; other = other; old = e; age = same }

    by_other : (o : Owner) (b : Bool) → owner_eq o (Tx t) ≡ b → lock_or p t c (if b then None else Some o) ≡ (x, died holder) → Stops t (Some o) holder
    by_other o true e g = let clash = ap (λ z. z.1) g in cc
    by_other o false e g = by_age o e (is_older t.intent (age_of o)) refl g

    by_owner : (w : Option Owner) → lock_or p t c (other_owner (Tx t) w) ≡ (x, died holder) → Stops t w holder
    by_owner None g = let clash = ap (λ z. z.1) g in cc
    by_owner (Some o) g = by_other o (owner_eq o (Tx t)) refl g

module _ (d : Deployment) (histories : Histories) (h : WellFormedHistories d histories) (lock_ahead : IntentId → Bool) (id : IntentId) (q : Instance) (s : TxId) (t : ℕ) (k : List ℕ) (front : IsPending d histories id q s t k) (y : Item) (c : Content) (matches : ItemMatches d histories lock_ahead y c) where
  -- no other transaction of its intent owns the item, so it is as old as no owner
  pub death_is_older : ((u : TxId) → c.owner ≡ Some (Tx u) → u.intent ≡ s.intent → u ≡ s) → (p : Place) (x : Content) (holder : IntentId) → lock_on p s c ≡ (x, died holder) → IsDeath p s (record { place = p; holder = Some holder })
  death_is_older single p x holder acts =
      let z = stops p s c x holder acts in
      record { holder = holder; cause = refl; older = by_cases (is_older holder s.intent) (λ e. e) (λ e. absurd (apart z.owner z.owns z.other (either s.intent (age_of z.owner) z.old (ap (λ i. is_older i s.intent) z.age ∙ e)))) }
    where
      open_still : q.outcome ≡ None
      open_still = none_by q.outcome (λ o is. let m = h.each id q front.made in let clash = sym front.touch ∙ ap touched (m.over o is) in cc)

      apart : (o : Owner) → c.owner ≡ Some o → owner_eq o (Tx s) ≡ false → s.intent ≡ age_of o → ⊥
      apart (Intent j) owns other same =
          let none = owner_holds_none d histories h id q s front.made open_still front.inside y in
          let clash = sym (id_self j) ∙ ap (λ i. id_eq j i) (sym same) ∙ sym (ap (λ w. is_owner w (Intent s.intent)) owns) ∙ matches.owner s.intent ∙ none in cc
      apart (Tx u) owns other same = let one = single u owns (sym same) in let clash = sym (tx_self s) ∙ ap (λ v. owner_eq (Tx v) (Tx s)) (sym one) ∙ other in cc
