-- How a transaction ended: its End was wanted while it was open, and all steps of its owner between its Begin and its End are of it.
use Rattle.std.proofs.lemmas.Bool.{ltb-false}
use Rattle.beldi_invariant.proofs.Names.{Answer, Bool, Deployment, Effect, Instance, IntentId, List, None, Some, Txs, [], ap, append-nil, append_assoc, arith, at_of, begin_is, drop, effect_after, effect_before, end_of, eq-or-lt_of_le, false, fits_at, get_or, if◌then◌else◌, inl, inr, is_at, is_bound, is_some, length, length-append, length-take-le, ltb-true, nat_lt, no_bound, none_by, or_own, refl, same_some, subst, sym, take, take-append-drop, take-append-le, take_front, take_more, true, tx_at, tx_by, txs_after, txs_by, txs_pushed, wants, ℕ, ◌++◌, ◌+◌, ◌<◌, ◌∙◌, ◌∷◌, ◌≡◌, ◌≤◌, ◌⊎◌}

-- after these answers the Begin at a step ended so: its End was wanted while it was open
pub record EndedAt (d : Deployment) (q : Instance) (given : List Answer) (b : ℕ) (z : ℕ × Bool) : Type 0 where
  pub before : z.0 < length given
  pub ends : effect_after d q (take z.0 given) ≡ Effect.End z.1
  pub begun : (txs_after d q (take z.0 given)).begun ≡ Some b

AllEnded : Deployment → Instance → List Answer → Type 0
AllEnded d q given = (b : ℕ) (z : ℕ × Bool) → (txs_after d q given).ends b ≡ Some z → EndedAt d q given b z

module _ (d : Deployment) (q : Instance) (given : List Answer) (a : Answer) where
  ended_still : (b : ℕ) (z : ℕ × Bool) → EndedAt d q given b z → EndedAt d q (given ++ a ∷ []) b z
  ended_still b z h =
      let k = h.before in
      let l = length-append given (a ∷ []) in
      let same : take z.0 (given ++ a ∷ []) ≡ take z.0 given = take-append-le z.0 given (a ∷ []) (omega (arith, k)) in
      record { before = omega (arith, k, l); ends = ap (effect_after d q) same ∙ h.ends; begun = ap (λ ts. (txs_after d q ts).begun) same ∙ h.begun }

  ended_more : AllEnded d q given → AllEnded d q (given ++ a ∷ [])
  unfolding AllEnded
  ended_more h b z is = by_effect (effect_after d q given) refl (sym (ap (λ (s : Txs). s.ends b) (txs_pushed d q given a)) ∙ is)
    where
      at_end : (c : Bool) → effect_after d q given ≡ Effect.End c → (txs_after d q given).begun ≡ Some b → (length given, c) ≡ z → EndedAt d q (given ++ a ∷ []) b z
      at_end c ends begun same =
          let l = length-append given (a ∷ []) in
          let front : take (length given) (given ++ a ∷ []) ≡ given = take_front given (a ∷ []) in
          subst (EndedAt d q (given ++ a ∷ []) b) same (record { before = omega (arith, l); ends = ap (effect_after d q) front ∙ ends; begun = ap (λ ts. (txs_after d q ts).begun) front ∙ begun })

      by_test : (c : Bool) → effect_after d q given ≡ Effect.End c → (t : Bool) → is_at b (txs_after d q given).begun ≡ t → (if t then Some (length given, c) else (txs_after d q given).ends b) ≡ Some z → EndedAt d q (given ++ a ∷ []) b z
      by_test c ends true e g = at_end c ends (at_of b (txs_after d q given).begun e) (same_some g)
      by_test c ends false e g = ended_still b z (h b z g)

      by_effect : (e : Effect) → effect_after d q given ≡ e → (txs_by (length given) e (txs_after d q given)).ends b ≡ Some z → EndedAt d q (given ++ a ∷ []) b z
      by_effect (Effect.End c) ends g = by_test c ends (is_at b (txs_after d q given).begun) refl g
      by_effect Effect.Begin ends g = ended_still b z (h b z g)
      by_effect e ends g = ended_still b z (h b z g)

ended_on : (d : Deployment) (q : Instance) (given rest : List Answer) → AllEnded d q given → AllEnded d q (given ++ rest)
ended_on d q given [] h = subst (AllEnded d q) (sym (append-nil given)) h
ended_on d q given (a ∷ rest) h = subst (AllEnded d q) (append_assoc given (a ∷ []) rest) (ended_on d q (given ++ a ∷ []) rest (ended_more d q given a h))

pub ended_at : (d : Deployment) (q : Instance) (b : ℕ) (z : ℕ × Bool) → end_of d q b ≡ Some z → EndedAt d q q.answers b z
unfolding AllEnded
ended_at d q b z h = ended_on d q [] q.answers (λ b z e. cc) b z h

-- who was called in a transaction wants no End
pub ends_outside : (d : Deployment) (q : Instance) (given : List Answer) (c : Bool) → effect_after d q given ≡ Effect.End c → q.enclosing ≡ None
ends_outside d q given c ends = none_by q.enclosing (λ t is. let clash = sym (no_bound d q.func q.args given) ∙ ap (λ w. is_bound (wants d q.func q.args (is_some w) given)) (sym is) ∙ ap is_bound ends in cc)

-- ---- between a Begin and its End
module _ (d : Deployment) (q : Instance) (b : ℕ) where
  -- what is open after some answers was so after fewer, if past the Begin
  begun_before : (given rest : List Answer) → b < length given → (txs_after d q (given ++ rest)).begun ≡ Some b → (txs_after d q given).begun ≡ Some b
  begun_before given [] less h = ap (λ ts. (txs_after d q ts).begun) (sym (append-nil given)) ∙ h
  begun_before given (a ∷ rest) less h =
      grind (
        arith,
        sym (ap (λ (s : Txs). s.begun) (txs_pushed d q given a))
            ∙ begun_before (given ++ a ∷ []) rest (let l = length-append given (a ∷ []) in omega (arith, l, less)) (ap (λ ts. (txs_after d q ts).begun) (append_assoc given (a ∷ []) rest) ∙ h),
      )

  begun_at : (n m : ℕ) → n ≤ m → m ≤ length q.answers → b < n → (txs_after d q (take m q.answers)).begun ≡ Some b → (txs_after d q (take n q.answers)).begun ≡ Some b
  begun_at n m le len less h =
      let all = q.answers in
      let front = take m all in
      let long : length front ≡ m = length-take-le m all len in
      let same : take n front ≡ take n all = sym (take-append-le n front (drop m all) (omega (arith, le, long))) ∙ ap (take n) (take-append-drop m all) in
      let short : length (take n front) ≡ n = length-take-le n front (omega (arith, le, long)) in
      ap (λ ts. (txs_after d q ts).begun) (sym same) ∙ begun_before (take n front) (drop n front) (omega (arith, less, short)) (ap (λ ts. (txs_after d q ts).begun) (take-append-drop n front) ∙ h)

  module _ (z : ℕ × Bool) (ended : end_of d q b ≡ Some z) where
    abbrev at : EndedAt d q q.answers b z
    at = ended_at d q b z ended

    pub owner_outside : q.enclosing ≡ None
    owner_outside = ends_outside d q (take z.0 q.answers) z.1 at.ends

    -- a step between the two is of the transaction
    pub tx_between : (id : IntentId) (n : ℕ) → b < n → n < z.0 → tx_at d id q n ≡ Some (record { intent = id; begin = b; func = q.func })
    tx_between id n past less =
        let ts = take n q.answers in
        ap (λ w. or_own w (tx_by id q.func (length ts) (effect_before d q n) (txs_after d q ts).begun)) owner_outside
        ∙ ap (tx_by id q.func (length ts) (effect_before d q n)) open_there ∙ by_effect (effect_before d q n) refl
      where
        open_there : (txs_after d q (take n q.answers)).begun ≡ Some b
        open_there = let k = at.before in begun_at n z.0 (omega (arith, less)) (omega (arith, k)) past at.begun

        by_effect : (e : Effect) → effect_before d q n ≡ e → tx_by id q.func (length (take n q.answers)) e (Some b) ≡ Some (record { intent = id; begin = b; func = q.func })
        by_effect Effect.Begin is = let clash = sym (ap is_some open_there) ∙ (begin_is d q (take n q.answers) is).1 in cc
        by_effect e is = refl

    -- and where the transaction is open before a step that is no End, the End comes later
    pub before_end : (n : ℕ) → n ≤ length q.answers → (txs_after d q (take n q.answers)).begun ≡ Some b → b < n → ((c : Bool) → effect_before d q n ≡ Effect.End c → ⊥) → n < z.0
    before_end n len begun past none = by_less (nat_lt n z.0) refl
      where
        by_last : (z.0 ≡ n) ⊎ (z.0 < n) → n < z.0
        by_last (inl same) = absurd (none z.1 (ap (effect_before d q) (sym same) ∙ at.ends))
        by_last (inr less) =
            let k = at.before in
            let ts = take z.0 q.answers in
            let a = get_or q.answers z.0 Answer.Done in
            let more : take (z.0 + 1) q.answers ≡ ts ++ a ∷ [] = take_more q.answers z.0 Answer.Done k in
            let before = (fits_at d q ts).before b at.begun in
            let short = length-take-le z.0 q.answers (omega (arith, k)) in
            let clash = sym (begun_at (z.0 + 1) n (omega (arith, less)) len (omega (arith, before, short)) begun) ∙ ap (λ xs. (txs_after d q xs).begun) more ∙ ap (λ (s : Txs). s.begun) (txs_pushed d q ts a) ∙ ap (λ e. (txs_by (length ts) e (txs_after d q ts)).begun) at.ends in cc

        by_less : (t : Bool) → nat_lt n z.0 ≡ t → n < z.0
        by_less true e = ltb-true n z.0 e
        by_less false e = by_last (eq-or-lt_of_le (ltb-false n z.0 e))
