-- Owners of transactions: a Begin that an instance is past was answered by its End.
use Rattle.beldi_histories.specs.Histories.{Got}
use Rattle.beldi_plain_laws.proofs.Ends.{ended_stays}
use Rattle.beldi_histories.proofs.{Callers.all_called, ReadLists.asked_for, ReadLists.asked_own, ReadLists.member_tx, Cases.by_option}
use Rattle.beldi_invariant.proofs.Names.{Answer, Bool, Deployment, Effect, Instance, IntentId, Item, Histories, List, None, Option, WellFormedHistories, Some, TxId, Txs, [], ap, append-nil, append_assoc, arith, begin_is, drop, effect_after, ended_by, false, got_by, if◌then◌else◌, inl, inr, is_at, is_some, length, length-append, refl, subst, sym, take, take-append-drop, true, true_false, tx_end, txs_after, txs_by, txs_pushed, ℕ, ◌++◌, ◌<◌, ◌∙◌, ◌∷◌, ◌≡◌, ◌⊎◌}
use Rattle.beldi_invariant.proofs.{Ended.EndedAt, Ended.ended_at}
use Rattle.beldi_invariant.proofs.Names.map

-- ---- the owner of a transaction, after some answers, by which it was begun
pub record WasOwner (d : Deployment) (histories : Histories) (t : TxId) : Type 0 where
  pub owner : Instance
  pub made : map.get histories t.intent ≡ Some owner
  pub func_is : t.func ≡ owner.func
  pub outside : owner.enclosing ≡ None
  pub given : List Answer
  pub later : List Answer
  pub all : given ++ later ≡ owner.answers
  pub begun : (txs_after d owner given).begun ≡ Some t.begin

module _ (d : Deployment) (histories : Histories) (well_formed : WellFormedHistories d histories) (t : TxId) where
  -- .. of one that somebody was called in
  pub called_owner : (j : IntentId) (z : Instance) → map.get histories j ≡ Some z → z.enclosing ≡ Some t → WasOwner d histories t
  called_owner j z = all_called d histories well_formed t (λ i q. WasOwner d histories t) (λ i q inner c outside o. record {
    owner = c.waiter;
    made = ap (map.get histories) o.intent ∙ c.made;
    func_is = o.func_is;
    outside = outside;
    given = take c.step c.waiter.answers;
    later = drop c.step c.waiter.answers;
    all = take-append-drop c.step c.waiter.answers;
    begun = o.begun;
  }) (λ i q inner c up o. o) j z

  -- .. and of one that got an item
  pub got_owner : (lock_ahead : IntentId → Bool) (x : Item) → Got d histories lock_ahead t x → WasOwner d histories t
  got_owner lock_ahead x g = by_option (map.get histories g.member) (λ e. absurd (true_false (sym (sym (ap (got_by d t x g.member (lock_ahead g.member)) e) ∙ g.got))))
      (λ z e. by_within z e (sym (ap (got_by d t x g.member (lock_ahead g.member)) e) ∙ g.got))
    where
      by_within : (z : Instance) → map.get histories g.member ≡ Some z → got_by d t x g.member (lock_ahead g.member) (Some z) ≡ true → WasOwner d histories t
      by_within z is got = by_option z.enclosing
          (λ none. let a = asked_for d t x g.member z (lock_ahead g.member) got in let o = asked_own d t x g.member z none a.given a.on in
          record { owner = z; made = ap (map.get histories) o.intent ∙ is; func_is = o.func_is; outside = none; given = a.given; later = a.later; all = a.all; begun = o.begun })
          (λ u in_it. called_owner g.member z is (in_it ∙ ap Some (sym (member_tx d t x g.member z u in_it (lock_ahead g.member) got))))

-- ---- a Begin that was open is open, or was answered by its End
module _ (d : Deployment) (q : Instance) (b : ℕ) where
  abbrev IsPast : List Answer → Type 0
  IsPast given = ((txs_after d q given).begun ≡ Some b) ⊎ ((z : ℕ × Bool) × ((txs_after d q given).ends b ≡ Some z))

  -- .. once an effect is answered
  abbrev IsPastThen : List Answer → Effect → Type 0
  IsPastThen given e = let s = txs_by (length given) e (txs_after d q given) in (s.begun ≡ Some b) ⊎ ((z : ℕ × Bool) × (s.ends b ≡ Some z))

  past_one : (given : List Answer) (a : Answer) → IsPast given → IsPast (given ++ a ∷ [])
  past_one given a h = subst (λ (s : Txs). (s.begun ≡ Some b) ⊎ ((z : ℕ × Bool) × (s.ends b ≡ Some z))) (sym (txs_pushed d q given a)) (by_effect (effect_after d q given) refl h)
    where
      by_end : (c t : Bool) (o : Option (ℕ × Bool)) → is_at b (txs_after d q given).begun ≡ t → ((txs_after d q given).begun ≡ Some b) ⊎ ((z : ℕ × Bool) × (o ≡ Some z)) → (z : ℕ × Bool) × ((if t then Some (length given, c) else o) ≡ Some z)
      by_end c true o e h = ((length given, c), refl)
      by_end c false o e (inr h) = h
      by_end c false o e (inl is_open) = absurd (not_at (txs_after d q given).begun is_open e)
        where
          not_at : (o : Option ℕ) → o ≡ Some b → is_at b o ≡ false → ⊥
          not_at o is off = grind (arith, is, off)

      by_effect : (e : Effect) → effect_after d q given ≡ e → IsPast given → IsPastThen given e
      by_effect Effect.Begin is (inl is_open) = let clash = sym (ap is_some is_open) ∙ (begin_is d q given is).1 in cc
      by_effect Effect.Begin is (inr ended) = inr ended
      by_effect (Effect.End c) is h = inr (by_end c (is_at b (txs_after d q given).begun) ((txs_after d q given).ends b) refl h)
      by_effect e is h = h

  past_on : (given rest : List Answer) → IsPast given → IsPast (given ++ rest)
  past_on given [] h = subst IsPast (sym (append-nil given)) h
  past_on given (a ∷ rest) h = subst IsPast (append_assoc given (a ∷ []) rest) (past_on (given ++ a ∷ []) rest (past_one given a h))

  -- what is open after some answers was so after fewer, if past the Begin
  pub open_before : (given rest : List Answer) → b < length given → (txs_after d q (given ++ rest)).begun ≡ Some b → (txs_after d q given).begun ≡ Some b
  open_before given [] less h = ap (λ ts. (txs_after d q ts).begun) (sym (append-nil given)) ∙ h
  open_before given (a ∷ rest) less h = grind (
    arith,
    sym (ap (λ (s : Txs). s.begun) (txs_pushed d q given a))
        ∙ open_before (given ++ a ∷ []) rest (let l = length-append given (a ∷ []) in omega (arith, l, less)) (ap (λ ts. (txs_after d q ts).begun) (append_assoc given (a ∷ []) rest) ∙ h),
  )

-- ---- of two fronts of a list one begins the other
Begins : List Answer → List Answer → Type 0
Begins xs ys = (zs : List Answer) × (ys ≡ xs ++ zs)

fronts : (xs us ys vs : List Answer) → xs ++ us ≡ ys ++ vs → Begins xs ys ⊎ Begins ys xs
unfolding Begins
fronts [] us ys vs h = inl (ys, refl)
fronts (x ∷ xs) us [] vs h = inr (x ∷ xs, refl)
fronts (x ∷ xs) us (y ∷ ys) vs h =
    let first : x ≡ y = cc in
    let rest : xs ++ us ≡ ys ++ vs = cc in
    elim (fronts xs us ys vs rest) [
      | inl k ↦ inl (k.0, λ i. sym first i ∷ k.1 i)
      | inr k ↦ inr (k.0, λ i. first i ∷ k.1 i)
    ]

module _ (d : Deployment) (histories : Histories) (t : TxId) (w : WasOwner d histories t) (ts rest : List Answer) (all : ts ++ rest ≡ w.owner.answers) (begun : t.begin < length ts) (closed : (txs_after d w.owner ts).begun ≡ Some t.begin → ⊥) where
  -- so one that is not open has ended
  pub ends_there : (z : ℕ × Bool) × ((txs_after d w.owner ts).ends t.begin ≡ Some z)
  unfolding Begins
  ends_there = elim (fronts w.given w.later ts rest (w.all ∙ sym all)) [
    | inl k ↦ elim (past_on d w.owner t.begin w.given k.0 (inl w.begun)) [
      | inl is_open ↦ absurd (closed (ap (λ xs. (txs_after d w.owner xs).begun) k.1 ∙ is_open))
      | inr ended ↦ (ended.0, ap (λ xs. (txs_after d w.owner xs).ends t.begin) k.1 ∙ ended.1)
    ]
    | inr k ↦ absurd (closed (open_before d w.owner t.begin ts k.0 begun (ap (λ xs. (txs_after d w.owner xs).begun) (sym k.1) ∙ w.begun)))
  ]

  -- with an End among these answers
  pub ended_there : EndedAt d w.owner ts t.begin ends_there.0
  ended_there = let e = ended_at d (record w.owner { answers = ts }) t.begin ends_there.0 ends_there.1 in record { before = e.before; ends = e.ends; begun = e.begun }

  pub tx_ended : tx_end d histories t ≡ Some ends_there.0
  tx_ended = ap (ended_by d t.begin) w.made ∙ ended_stays d w.owner ts rest t.begin ends_there.0 all ends_there.1
