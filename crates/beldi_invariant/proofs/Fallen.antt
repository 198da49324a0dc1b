-- What was aborted in an open transaction, if anything: it is the cause that a run keeps, and its instance's last answer.
use Rattle.beldi_invariant.proofs.Names.{Answer, Bool, Cause, Deployment, Effect, Inherited, Instance, IntentId, IsAnswer, List, None, OpenTx, Option, Own, RunTx, WellFormedHistory, Some, TxId, [], abort_ends, ap, append-nil, append_assoc, arith, effect_after, false, get_next, is_some, last_answer, length, open_after, open_of, place_of, refl, slice_get, subst, sym, take, take_front, true, tx_after, inherited_tx, ◌++◌, ◌∙◌, ◌∷◌, ◌≡◌}
use Rattle.beldi_invariant.proofs.OpenOf.{own_begin, open_begun, open_pushed}

-- one's own is one
same_own : {v w : OpenTx} → Some (Own v) ≡ Some (Own w) → v ≡ w
same_own h = cc

-- where nothing was answered none is one's own
none_own : (t : Option TxId) (w : OpenTx) → inherited_tx t ≡ Some (Own w) → ⊥
none_own t w h = grind arith

-- the cause of an answer
abbrev pub cause_in : Option Answer → Option Cause
cause_in (Some (Answer.Aborted c)) = Some c
cause_in a = None

last_pushed : (ts : List Answer) (a : Answer) → last_answer (ts ++ a ∷ []) ≡ Some a
last_pushed [] a = refl
last_pushed (b ∷ []) a = refl
last_pushed (b ∷ c ∷ ts) a = last_pushed (c ∷ ts) a

module _ (d : Deployment) (id : IntentId) (q : Instance) where
  -- the last answer, after which the End is wanted
  record IsCause (ts : List Answer) (o : OpenTx) : Type 0 where
    last : o.cause ≡ cause_in (last_answer ts)
    ends : is_some o.cause ≡ true → effect_after d q ts ≡ Effect.End false

  abbrev Causes : List Answer → Type 0
  Causes ts = (o : OpenTx) → open_of d q ts ≡ Some (Own o) → IsCause ts o

  -- one more answer is the last
  abbrev IsNext : List Answer → Answer → OpenTx → Type 0
  IsNext ts b w = (w.cause ≡ cause_in (Some b)) × (is_some w.cause ≡ true → effect_after d q (ts ++ b ∷ []) ≡ Effect.End false)

  next : (ts : List Answer) (a : Answer) → IsAnswer (place_of id (length ts)) (tx_after d id q ts) (effect_after d q ts) a → Causes ts → Causes (ts ++ a ∷ [])
  next ts a fits h o is = let z = by_open (open_of d q ts) refl (effect_after d q ts) refl a fits (sym (open_pushed d q ts a) ∙ is) in record { last = z.0 ∙ ap cause_in (sym (last_pushed ts a)); ends = z.1 }
    where
      no_cause : (u : Option Cause) → u ≡ None → is_some u ≡ true → ⊥
      no_cause u e g = grind arith

      -- where the answer is none that was aborted, nothing was before
      no_end : (e : Effect) → effect_after d q ts ≡ e → ((c : Bool) → e ≡ Effect.End c → ⊥) → (w : OpenTx) → IsCause ts w → (u : Option Cause) → w.cause ≡ u → u ≡ None
      no_end e is other w z u there = grind arith

      plainly : (e : Effect) → effect_after d q ts ≡ e → ((c : Bool) → e ≡ Effect.End c → ⊥) → (w : OpenTx) → open_of d q ts ≡ Some (Own w) → w ≡ o → o.cause ≡ None
      plainly e is other w opened same = ap (λ (y : OpenTx). y.cause) (sym same) ∙ no_end e is other w (h w opened) w.cause refl

      by_open : (u : Option RunTx) → open_of d q ts ≡ u → (e : Effect) → effect_after d q ts ≡ e → (b : Answer) → IsAnswer (place_of id (length ts)) (tx_after d id q ts) e b → open_after (length ts) e b u ≡ Some (Own o) → IsNext ts b o
      by_open u opened Effect.Begin is Answer.Done fits g = let none = ap (λ (y : OpenTx). y.cause) (sym (same_own g)) in (none, λ s. absurd (no_cause o.cause none s))
      by_open u opened Effect.Begin is b fits g = absurd fits
      by_open u opened (Effect.End c) is b fits g = cc
      by_open None opened e is (Answer.Aborted c) fits g = cc
      by_open (Some (Inherited x)) opened e is (Answer.Aborted c) fits g = cc
      by_open (Some (Own w)) opened e is (Answer.Aborted c) fits g = (ap (λ (y : OpenTx). y.cause) (sym (same_own g)), λ s. abort_ends d q ts c (ap is_some (open_begun d q ts ∙ ap own_begin opened)) (λ b ends. absurd (no_abort b (subst (λ y. IsAnswer (place_of id (length ts)) (tx_after d id q ts) y (Answer.Aborted c)) (sym is ∙ ends) fits))))
        where
          no_abort : (b : Bool) → IsAnswer (place_of id (length ts)) (tx_after d id q ts) (Effect.End b) (Answer.Aborted c) → ⊥
          no_abort b f = f
      by_open None opened e is b fits g = cc
      by_open (Some (Inherited x)) opened e is b fits g = cc
      by_open (Some (Own w)) opened e is b fits g = let none = plainly e is (other e b fits g) w opened (same_own g) in (none, λ s. absurd (no_cause o.cause none s))
        where
          other : (e : Effect) (b : Answer) → IsAnswer (place_of id (length ts)) (tx_after d id q ts) e b → open_after (length ts) e b (Some (Own w)) ≡ Some (Own o) → (c : Bool) → e ≡ Effect.End c → ⊥
          other e b f g c same = grind arith

  along_answers : (given rest : List Answer) → given ++ rest ≡ q.answers → WellFormedHistory d id q → Causes given → Causes q.answers
  along_answers given [] all well_formed h = subst Causes (sym (append-nil given) ∙ all) h
  along_answers given (a ∷ rest) all well_formed h = along_answers (given ++ a ∷ []) rest (append_assoc given (a ∷ []) rest ∙ all) well_formed
      (next given a (subst (λ ts. IsAnswer (place_of id (length given)) (tx_after d id q ts) (effect_after d q ts) a) (ap (take (length given)) (sym all) ∙ take_front given (a ∷ rest))
      (well_formed.past (length given) a (ap (λ ts. slice_get ts (length given)) (sym all) ∙ get_next given rest a))) h)

  -- so a run keeps the cause of the last answer
  pub cause_is : WellFormedHistory d id q → (o : OpenTx) → open_of d q q.answers ≡ Some (Own o) → o.cause ≡ cause_in (last_answer q.answers)
  cause_is well_formed o is = (along_answers [] q.answers refl well_formed (λ w e. absurd (none_own q.enclosing w e)) o is).last
