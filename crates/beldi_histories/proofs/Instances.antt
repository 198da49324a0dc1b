-- The rows of an intent, and of the calls to it and from it, as its instance goes on.
use Rattle.beldi_histories.proofs.Names.{Body, BodyMatches, Bool, CalleeBodyMatches, CalleeMatches, FinMap, FinishMatches, Instance, IntentId, IntentMatches, IntentRow, IsBodyOf, None, Option, Outcome, OutcomeMatches, Place, RootMatches, Row, Some, TxId, [], ap, arith, body_of, called_by, child_of, ended, false, id_cmp, if◌then◌else◌, invoke_key, is_eq, is_waited, key_cmp, key_self, length, length-append, made_set, refl, result_of, same_some, subst, sym, true, tx_in, ℕ, ◌==◌, ◌∙◌, ◌∷◌, ◌≡◌}
use Rattle.beldi_histories.proofs.Answers.{true_false}
use Rattle.beldi_histories.proofs.Names.map

-- one that is there has a body only of an instance that was made
pub record IsRowOf (r : IntentRow) (i : Option Instance) : Type 0 where
  pub body : (b : Body) → r.body ≡ Some b → IsBodyOf b i
  pub outcome : (b : Body) (u : Outcome) (q : Instance) → r.body ≡ Some b → r.outcome ≡ Some u → i ≡ Some q → q.outcome ≡ Some u

root_body : (b : Option Body) (o : Option Outcome) (i : Option Instance) → BodyMatches b o i → (c : Body) → b ≡ Some c → IsBodyOf c i
root_body None o i h c is = cc
root_body (Some b) o i h c is = subst (λ z. IsBodyOf z i) (same_some is) h.0

root_outcome : (b : Option Body) (o : Option Outcome) (i : Option Instance) → BodyMatches b o i → (c : Body) (u : Outcome) (q : Instance) → b ≡ Some c → o ≡ Some u → i ≡ Some q → q.outcome ≡ Some u
root_outcome None o i h c u q is some made = cc
root_outcome (Some b) o i h c u q is some made = ap (λ z. z.outcome) (same_some (sym made ∙ h.0.made)) ∙ h.1 ∙ some

callee_body : (home : ℕ) (b : Option Body) (o : Option Outcome) (i : Option Instance) → CalleeBodyMatches home b o i → (c : Body) → b ≡ Some c → IsBodyOf c i
callee_body home None o i h c is = absurd h
callee_body home (Some b) o i h c is = subst (λ z. IsBodyOf z i) (same_some is) h.0

pub outcome_kept : (t : Bool) (o u : Option Outcome) → OutcomeMatches t o u → (v : Outcome) → o ≡ Some v → u ≡ Some v
outcome_kept true o u h v is = h v is
outcome_kept false o u h v is = h ∙ is

callee_outcome : (home : ℕ) (b : Option Body) (o : Option Outcome) (i : Option Instance) → CalleeBodyMatches home b o i → (c : Body) (u : Outcome) (q : Instance) → b ≡ Some c → o ≡ Some u → i ≡ Some q → q.outcome ≡ Some u
callee_outcome home None o i h c u q is some made = absurd h
callee_outcome home (Some b) o i h c u q is some made = ap (λ z. z.outcome) (same_some (sym made ∙ h.0.made)) ∙ outcome_kept (is_waited b.parent) o h.0.instance.outcome h.2 u some

root_row : (b : Bool) (r : IntentRow) (i : Option Instance) → RootMatches b (Some (Row.Intent r)) i → IsRowOf r i
root_row true r i h = record { body = root_body r.body r.outcome i h.body; outcome = root_outcome r.body r.outcome i h.body }
root_row false r i h = cc

pub row_of : (ended : TxId → Bool) (b : Bool) (home : ℕ) (r : IntentRow) (i : Option Instance) → IntentMatches ended b home (Some (Row.Intent r)) i → IsRowOf r i
row_of ended true home r i h = root_row (home == 0) r i h
row_of ended false home r i h = record { body = callee_body home r.body r.outcome i h.body; outcome = callee_outcome home r.body r.outcome i h.body }

-- a row matches still as transactions end
abbrev pub EndMore : (TxId → Bool) → (TxId → Bool) → Type 0
EndMore before after = (t : TxId) → before t ≡ true → after t ≡ true

module _ (before after : TxId → Bool) (more : EndMore before after) where
  finish_stays : (w : Option TxId) (f : Option ℕ) (o : Option Outcome) → FinishMatches before w f o → FinishMatches after w f o
  finish_stays None f o h = h
  finish_stays (Some t) f o h = λ there. more t (h there)

  callee_stays : (home : ℕ) (r : Option Row) (i : Option Instance) → CalleeMatches before home r i → CalleeMatches after home r i
  callee_stays home None i h = h
  callee_stays home (Some (Row.Intent r)) i h = record { finishes = finish_stays (tx_in r.body) r.finish r.outcome h.finishes; body = h.body }
  callee_stays home (Some r) i h = absurd h

  pub intent_stays : (b : Bool) (home : ℕ) (r : Option Row) (i : Option Instance) → IntentMatches before b home r i → IntentMatches after b home r i
  intent_stays true home r i h = h
  intent_stays false home r i h = callee_stays home r i h

-- a body stays that of its instance, which is answered, or ends
abbrev pub body_stays : (b : Body) (q s : Instance) → body_of q ≡ body_of s → IsBodyOf b (Some q) → IsBodyOf b (Some s)
body_stays b q s same h = record { instance = s; made = refl; body = h.body ∙ ap body_of (same_some (sym h.made)) ∙ same }

root_same : (b : Option Body) (o : Option Outcome) (q s : Instance) → body_of q ≡ body_of s → q.outcome ≡ s.outcome → BodyMatches b o (Some q) → BodyMatches b o (Some s)
root_same None o q s body same h = cc
root_same (Some b) o q s body same h = (body_stays b q s body h.0, sym same ∙ ap (λ z. z.outcome) (same_some h.0.made) ∙ h.1)

-- an instance goes on so that its row, or that it has none yet, matches it still
pub record KeepsRow (q s : Instance) : Type 0 where
  pub body : body_of q ≡ body_of s
  pub outcomes : (o : Option Outcome) → OutcomeMatches (is_waited q.parent) o q.outcome → OutcomeMatches (is_waited q.parent) o s.outcome
  pub open_still : is_waited q.parent ≡ false → q.outcome ≡ None → s.outcome ≡ None

-- one with the same body and outcome does, and so does one that gives its outcome back to who waits for it
same_keeps_row : (q s : Instance) → body_of q ≡ body_of s → q.outcome ≡ s.outcome → KeepsRow q s
same_keeps_row q s body same = record { body = body; outcomes = λ o h. subst (OutcomeMatches (is_waited q.parent) o) same h; open_still = λ w none. sym same ∙ none }

pub return_keeps_row : (q : Instance) (u : Outcome) → is_waited q.parent ≡ true → q.outcome ≡ None → KeepsRow q (ended q u)
return_keeps_row q u waited none = record {
  body = refl;
  outcomes = λ o h. subst (λ t. OutcomeMatches t o (Some u)) (sym waited) (λ v is. let clash = sym none ∙ outcome_kept (is_waited q.parent) o q.outcome h v is in cc);
  open_still = λ idle was. let clash = sym waited ∙ idle in cc;
}

callee_goes : (home : ℕ) (b : Option Body) (o : Option Outcome) (q s : Instance) → KeepsRow q s → CalleeBodyMatches home b o (Some q) → CalleeBodyMatches home b o (Some s)
callee_goes home None o q s keeps h = absurd h
callee_goes home (Some b) o q s keeps h =
    let from : b.parent ≡ q.parent = ap (λ z. z.parent) (h.0.body ∙ ap body_of (same_some (sym h.0.made))) in (
      body_stays b q s keeps.body h.0,
      h.1,
      subst (λ t. OutcomeMatches t o s.outcome) (ap is_waited (sym from))
          (keeps.outcomes o (subst (λ t. OutcomeMatches t o q.outcome) (ap is_waited from) (subst (OutcomeMatches (is_waited b.parent) o) (ap (λ z. z.outcome) (same_some (sym h.0.made))) h.2))),
    )

pub callee_on : (ended : TxId → Bool) (home : ℕ) (r : Option Row) (q s : Instance) → KeepsRow q s → CalleeMatches ended home r (Some q) → CalleeMatches ended home r (Some s)
callee_on ended home None q s keeps h = record {
  open_still = λ z is func idle.
      let same : s ≡ z = same_some is in
      let was_func : q.func ≡ home = ap (λ y. y.func) keeps.body ∙ ap (λ y. y.func) same ∙ func in
      let was_idle : is_waited q.parent ≡ false = ap (λ y. is_waited y.parent) keeps.body ∙ ap (λ y. is_waited y.parent) same ∙ idle in
      ap (λ y. y.outcome) (sym same) ∙ keeps.open_still was_idle (h.open_still q refl was_func was_idle);
}
callee_on ended home (Some (Row.Intent i)) q s keeps h = record { finishes = h.finishes; body = callee_goes home i.body i.outcome q s keeps h.body }
callee_on ended home (Some r) q s keeps h = absurd h

roots_same : (b : Bool) (r : Option Row) (q s : Instance) → body_of q ≡ body_of s → q.outcome ≡ s.outcome → RootMatches b r (Some q) → RootMatches b r (Some s)
roots_same true None q s body same h = cc
roots_same true (Some (Row.Intent i)) q s body same h = record { bare = h.bare; finishes = h.finishes; body = root_same i.body i.outcome q s body same h.body }
roots_same true (Some r) q s body same h = absurd h
roots_same false r q s body same h = h

-- so the rows of its intent match it
pub intent_same : (ended : TxId → Bool) (b : Bool) (home : ℕ) (r : Option Row) (q s : Instance) → body_of q ≡ body_of s → q.outcome ≡ s.outcome → IntentMatches ended b home r (Some q) → IntentMatches ended b home r (Some s)
intent_same ended true home r q s body same h = roots_same (home == 0) r q s body same h
intent_same ended false home r q s body same h = callee_on ended home r q s (same_keeps_row q s body same) h

-- an intent that was not made has no row with hops
pub callee_new : (ended : TxId → Bool) (home : ℕ) (r : Option Row) (s : Instance) → s.outcome ≡ None → CalleeMatches ended home r None → CalleeMatches ended home r (Some s)
callee_new ended home None s none h = record { open_still = λ q is func idle. ap (λ z. z.outcome) (sym (same_some is)) ∙ none }
callee_new ended home (Some (Row.Intent i)) s none h = no_body i.body h.body
  where
    no_body : (b : Option Body) → CalleeBodyMatches home b i.outcome None → CalleeMatches ended home (Some (Row.Intent i)) (Some s)
    no_body None g = absurd g
    no_body (Some b) g = let clash = g.0.made in cc
callee_new ended home (Some r) s none h = absurd h

-- ---- calls
-- a caller by its function, and a callee by its function and its result
pub same_caller : (f : ℕ) (i s : Instance) (j : Option Instance) → s.func ≡ i.func → called_by f (Some s) j ≡ called_by f (Some i) j
same_caller f i s None func = refl
same_caller f i s (Some j) func = ap (λ g. if g == f then Some (j.func, result_of j) else None) func

pub same_callee : (f : ℕ) (i : Option Instance) (j s : Instance) → s.func ≡ j.func → result_of s ≡ result_of j → called_by f i (Some s) ≡ called_by f i (Some j)
same_callee f None j s func result = refl
same_callee f (Some i) j s func result = λ k. if i.func == f then Some (func k, result k) else None

pub no_callee : (f : ℕ) (i : Option Instance) → called_by f i None ≡ None
no_callee f None = refl
no_callee f (Some i) = refl

-- what the logs of calls expect, when an instance was set
module _ (made : FinMap id_cmp Instance) (id : IntentId) (s : Instance) where
  abbrev later : FinMap id_cmp Instance
  later = map.insert made id s

  -- as before at a place whose intent and whose callee are others, or expect the same
  pub calls_moved : (f : ℕ) (b : Place) → (b.intent ≡ id → called_by f (Some s) (map.get later (child_of b.intent b.step)) ≡ called_by f (map.get made id) (map.get later (child_of b.intent b.step)))
      → (child_of b.intent b.step ≡ id → called_by f (map.get made b.intent) (Some s) ≡ called_by f (map.get made b.intent) (map.get made id))
      → called_by f (map.get later b.intent) (map.get later (child_of b.intent b.step)) ≡ called_by f (map.get made b.intent) (map.get made (child_of b.intent b.step))
  calls_moved f b caller callee =
      made_set made id s (λ z o. b.intent ≡ z → called_by f o (map.get later (child_of b.intent b.step)) ≡ called_by f (map.get made z) (map.get later (child_of b.intent b.step))) caller (λ z e. refl) b.intent refl
      ∙ made_set made id s (λ z o. child_of b.intent b.step ≡ z → called_by f (map.get made b.intent) o ≡ called_by f (map.get made b.intent) (map.get made z)) callee (λ z e. refl) (child_of b.intent b.step) refl

-- ---- where a call is
-- no id is that of its own callee
pub no_own_callee : (id : IntentId) (n : ℕ) → child_of id n ≡ id → ⊥
no_own_callee id n h = let l = ap (λ (z : IntentId). length z.hops) h in let k = length-append id.hops (n ∷ []) in omega (arith, l, k)

-- the key of a call, by its home and its place
pub same_key : (home f : ℕ) (a b : Place) → home ≡ f → a ≡ b → is_eq (key_cmp (invoke_key home a) (invoke_key f b)) ≡ false → ⊥
same_key home f a b same place other = true_false (sym (key_self (invoke_key f b)) ∙ ap (λ z. is_eq (key_cmp z (invoke_key f b))) (λ i. invoke_key (sym same i) (sym place i)) ∙ other)

-- another function's log has no call there
pub not_home : (f : ℕ) (i : Instance) (j : Option Instance) → (i.func == f) ≡ false → called_by f (Some i) j ≡ None
not_home f i None off = refl
not_home f i (Some j) off = ap (λ b. if b then Some (j.func, result_of j) else None) off
