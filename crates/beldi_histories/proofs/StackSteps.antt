-- An open transaction goes on: by an answer to the one that can step, by a call of it, or by its return; and by what takes no turn.
use Rattle.beldi_plain.specs.{Moves.after_move, Moves.Leads, Transaction.is_owner}
use Rattle.beldi_histories.proofs.Names.{Answer, Caller, Cause, Deployment, Effect, FinMap, Going, Instance, IntentId, IsIn, Items, Histories, List, Move, None, OpenTx, Outcome, PlainState, Some, TxId, Value, [], aborted, all_in, local_answer, answer_by, answer_of, answered, answered_on, answers_so, ap, local_steps, begins, callee_in, callee_of, calls_at, calls_so, child_of, child_same, cond, dies_at, effect_of, ended, false, fell, get-insert, gone_on, has_callees, here, id_cmp, id_total, if◌then◌else◌, inl, inr, is_eq, is_some, items_by, last_of, length, new_member, local_step, opened, place_of, plain, refl, returned, returns_so, same_some, set_alike, subst, sym, true, tx_begun, with_member, ℕ, ◌++◌, ◌∙◌, ◌∷◌, ◌≡◌}
use Rattle.beldi_histories.proofs.{LocalSteps.none_of, LocalSteps.once_none, LocalSteps.once_some, Begins.aborts_once, CallStacks.front_in_tx, CallStacks.line, CallStacks.member, Phases.begin_is, FrameAt.recorded_same}
use Rattle.beldi_histories.proofs.Names.map
use Rattle.beldi_histories.proofs.Names.plain

-- it is open, this one can step in it, and these are its items
pub record GoesOn (d : Deployment) (p : PlainState) (histories : Histories) (o : IntentId) (q : Instance) (front : IntentId) (items : Items) : Type 0 where
  pub tx : OpenTx d p histories o q
  pub front_is : tx.going.active ≡ front
  pub items_are : tx.going.state.items ≡ items

leads_more : (d : Deployment) (t : TxId) (s : Going) (ms : List Move) (l r : Going) (m : Move) → Leads d t s ms l → after_move d t m l ≡ Some r → Leads d t s (ms ++ m ∷ []) r
leads_more d t s [] l r m h step = (r, subst (λ z. after_move d t m z ≡ Some r) (sym h) step, refl)
leads_more d t s (n ∷ ms) l r m h step = (h.0, h.1, leads_more d t h.0 ms l r m h.2 step)

-- ---- maps that agree on some
set_again : (f : FinMap id_cmp Instance) (k i : IntentId) (y z : Instance) → map.get (map.insert f k z) i ≡ map.get (map.insert (map.insert f k y) k z) i
set_again f k i y z = get-insert id_total f k z i ∙ elim (is_eq (id_cmp i k)) as (λ b. cond b (Some z) (map.get f i) ≡ cond b (Some z) (cond b (Some y) (map.get f i))) [ true ↦ refl | false ↦ refl ]
    ∙ sym (get-insert id_total (map.insert f k y) k z i ∙ ap (cond (is_eq (id_cmp i k)) (Some z)) (get-insert id_total f k y i))

module _ (d : Deployment) (p : PlainState) (o : IntentId) (q : Instance) where
  next_on : (histories after : Histories) (tx : OpenTx d p histories o q) (m : Move) (r : Going) → after_move d (tx_begun o q) m tx.going ≡ Some r → ((i : IntentId) → IsIn (tx_begun o q) i → map.get after i ≡ map.get r.state.made i) → GoesOn d p after o q r.active r.state.items
  next_on histories after tx m r step whole = record {
    tx = record { moves = tx.moves ++ m ∷ []; going = r; leads = leads_more d (tx_begun o q) (opened p o q) tx.moves tx.going r m tx.leads step; whole = whole };
    front_is = refl;
    items_are = refl;
  }

module _ (d : Deployment) (p : PlainState) (well_formed : plain.WellFormed d p) (o : IntentId) (q : Instance) (made : map.get p.made o ≡ Some q) (b : begins d q ≡ true) where
  module _ (histories : Histories) (tx : OpenTx d p histories o q) where
    in_it : IsIn (tx_begun o q) tx.going.active
    in_it = front_in_tx d p histories well_formed o q made b tx

    made_front : (y : Instance) → map.get histories tx.going.active ≡ Some y → map.get tx.going.state.made tx.going.active ≡ Some y
    made_front y is = sym (tx.whole tx.going.active in_it) ∙ is

    -- nobody in it stands at a Begin
    pub no_begin : (i : IntentId) (z : Instance) → IsIn (tx_begun o q) i → map.get histories i ≡ Some z → effect_of d z ≡ Effect.Begin → ⊥
    no_begin i z (inl own) is at = let clash = sym (ap is_some ((member d p histories well_formed o q made b tx i z (inl own) is).owner own).begun) ∙ (begin_is d z z.answers at).1 in cc
    no_begin i z (inr h) is at = let clash = sym ((member d p histories well_formed o q made b tx i z (inr h) is).below h) ∙ (begin_is d z z.answers at).0 in cc

    answer_on : (y : Instance) → map.get histories tx.going.active ≡ Some y → (m : Move) (a : Answer) → answer_by tx.going.active tx.going.state.items y (effect_of d y) m ≡ Some a
        → GoesOn d p (map.insert histories tx.going.active (answered y a)) o q tx.going.active (items_by tx.going.state.items y (effect_of d y) m)
    answer_on y is m a gives = next_on d p o q histories (map.insert histories tx.going.active (answered y a)) tx m (gone_on tx.going (items_by tx.going.state.items y (effect_of d y) m) y a)
        (answers_so d (tx_begun o q) m tx.going y (made_front y is) a gives) (λ i is_in. set_alike histories tx.going.state.made tx.going.active i (answered y a) (tx.whole i is_in))

    settled : (y : Instance) → map.get histories tx.going.active ≡ Some y → y.outcome ≡ None → GoesOn d p (map.insert histories tx.going.active (local_steps d tx.going.active y)) o q tx.going.active tx.going.state.items
    settled y is none = by_effect (effect_of d y) refl
      where
        i : IntentId
        i = tx.going.active

        still : local_answer tx.going.active (length y.answers) (effect_of d y) ≡ None → GoesOn d p (map.insert histories tx.going.active (local_steps d tx.going.active y)) o q tx.going.active tx.going.state.items
        still e = subst (λ z. GoesOn d p (map.insert histories tx.going.active z) o q tx.going.active tx.going.state.items) (sym (ap (local_step d tx.going.active) (once_none d tx.going.active y e) ∙ once_none d tx.going.active y e))
            (record {
              tx = record { moves = tx.moves; going = tx.going; leads = tx.leads; whole = λ j is_in. recorded_same histories tx.going.active y is j ∙ tx.whole j is_in };
              front_is = refl;
              items_are = refl;
            })

        by_effect : (e : Effect) → effect_of d y ≡ e → GoesOn d p (map.insert histories tx.going.active (local_steps d tx.going.active y)) o q tx.going.active tx.going.state.items
        by_effect Effect.Begin at = absurd (no_begin tx.going.active y in_it is at)
        by_effect Effect.Abort at =
            let c : Cause = record { place = place_of tx.going.active (length y.answers); holder = None } in
            let a = Answer.Aborted c in
            let first = once_some d tx.going.active y a none (ap (local_answer tx.going.active (length y.answers)) at) in
            let then_none = none_of tx.going.active (length (answered y a).answers) (effect_of d (answered y a)) (aborts_once d y.func y.args (is_some y.enclosing) y.answers c at) in
            subst (λ z. GoesOn d p (map.insert histories tx.going.active z) o q tx.going.active tx.going.state.items) (sym (ap (local_step d tx.going.active) first ∙ once_none d tx.going.active (answered y a) then_none))
            (answer_on y is (fell None) a (ap (λ e. if dies_at None e then Some (aborted tx.going.active y None) else None) at))
        by_effect e at = still (ap (local_answer tx.going.active (length y.answers)) at)

  -- .. with what takes no turn
  then_once : (f : Histories) (i : IntentId) (y : Instance) (items : Items) → GoesOn d p (map.insert f i y) o q i items → y.outcome ≡ None → GoesOn d p (map.insert f i (local_steps d i y)) o q i items
  then_once f i y items g none = by_front g.tx.going.active g.front_is (settled (map.insert f i y) g.tx y (ap (map.get (map.insert f i y)) g.front_is ∙ here f i y) none)
    where
      by_front : (j : IntentId) → j ≡ i → GoesOn d p (map.insert (map.insert f i y) j (local_steps d j y)) o q j g.tx.going.state.items → GoesOn d p (map.insert f i (local_steps d i y)) o q i items
      by_front j same h = let w = subst (λ j. GoesOn d p (map.insert (map.insert f i y) j (local_steps d j y)) o q j g.tx.going.state.items) same h in record {
        tx = record { moves = w.tx.moves; going = w.tx.going; leads = w.tx.leads; whole = λ x is_in. set_again f i x y (local_steps d i y) ∙ w.tx.whole x is_in };
        front_is = w.front_is;
        items_are = w.items_are ∙ g.items_are;
      }

  module _ (histories : Histories) (tx : OpenTx d p histories o q) where
    -- ---- an answer
    pub goes_answered : (y : Instance) → map.get histories tx.going.active ≡ Some y → y.outcome ≡ None → (m : Move) (a : Answer) → answer_by tx.going.active tx.going.state.items y (effect_of d y) m ≡ Some a
        → GoesOn d p (map.insert histories tx.going.active (answered_on d tx.going.active y a)) o q tx.going.active (items_by tx.going.state.items y (effect_of d y) m)
    goes_answered y is none m a gives = then_once histories tx.going.active (answered y a) (items_by tx.going.state.items y (effect_of d y) m) (answer_on histories tx y is m a gives) none

    -- ---- a call
    pub goes_called : (y : Instance) → map.get histories tx.going.active ≡ Some y → (f : ℕ) (v : Value) → effect_of d y ≡ Effect.Call f v → has_callees tx.going.active ≡ true → map.get histories (callee_of tx.going.active y) ≡ None → let c = callee_of tx.going.active y in
        GoesOn d p (map.insert histories c (local_steps d c (new_member (tx_begun o q) f v (calls_at tx.going.active y true)))) o q c tx.going.state.items
    goes_called y is f v call short gone =
        let t = tx_begun o q in
        let i = tx.going.active in
        let c = callee_of i y in
        let z = new_member t f v (calls_at i y true) in
        let there = made_front histories tx y is in
        let c_in = callee_in d t tx.going.state.made i y (line d p histories well_formed o q made b tx) there in
        then_once histories c z tx.going.state.items
        (next_on d p o q histories (map.insert histories c z) tx plain (with_member t tx.going.state i y f v) (calls_so d t plain tx.going y there f v refl call short (sym (tx.whole c c_in) ∙ gone))
        (λ j is_in. set_alike histories tx.going.state.made c j z (tx.whole j is_in))) refl

    -- ---- a return, to who waits
    pub goes_returned : (z : Instance) → map.get histories tx.going.active ≡ Some z → (u : Outcome) (c : Caller) → effect_of d z ≡ Effect.Return u → is_owner (tx_begun o q) tx.going.active ≡ false → z.parent ≡ Some c
        → (i : IntentId) (n : ℕ) (y : Instance) → tx.going.active ≡ child_of i n → map.get histories i ≡ Some y → GoesOn d p (map.insert (map.insert histories tx.going.active (ended z u)) i (answered_on d i y (answer_of u))) o q i tx.going.state.items
    goes_returned z is u c returns own from i n y called there =
        let t = tx_begun o q in
        let f = tx.going.state.made in
        let j = tx.going.active in
        let now = made_front histories tx z is in
        let step = returns_so d t plain tx.going z now u c refl returns own from in
        let w = returned d t plain tx.going _ z now (line d p histories well_formed o q made b tx) (record { plainly = refl; outcome = u; returns = returns; not_owner = own; caller = c; parent = from; is = refl }) in
        let same : w.caller ≡ i = (child_same w.caller i (length w.member.waiter.answers) n (sym w.member.is_callee ∙ called)).0 in
        let i_in : IsIn t i = subst (IsIn t) same (all_in d t f w.caller w.line) in
        let waiter : w.member.waiter ≡ y = same_some (sym w.member.waits ∙ ap (map.get f) same ∙ sym (tx.whole i i_in) ∙ there) in
        let last = last_of d t f w.caller w.line in
        let none : y.outcome ≡ None = ap (λ (x : Instance). x.outcome) (sym waiter ∙ same_some (sym w.member.waits ∙ last.1)) ∙ last.2 in
        let over = ended z u in
        let r : Going = record { state = record { items = tx.going.state.items; made = map.insert (map.insert f j over) i (answered y (answer_of u)) }; active = i } in
        let led : after_move d t plain tx.going ≡ Some r = step ∙ ap (λ x. Some x) (w.is ∙ (λ k. record { state = record { items = tx.going.state.items; made = map.insert (map.insert f j over) (same k) (answered (waiter k) (answer_of u)) }; active = same k })) in
        then_once (map.insert histories j over) i (answered y (answer_of u)) tx.going.state.items
        (next_on d p o q histories (map.insert (map.insert histories j over) i (answered y (answer_of u))) tx plain r led
        (λ x is_in. set_alike (map.insert histories j over) (map.insert f j over) i x (answered y (answer_of u)) (set_alike histories f j x over (tx.whole x is_in)))) none
