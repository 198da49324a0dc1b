-- What each entry keeps: a transfer has not begun or is to return, and the items are balanced.
use Rattle.std.proofs.Common.{◌≡◌, ℕ, Bool, true, false, cond, List, [], ◌∷◌, ◌++◌, length, Option, None, Some, refl, ap, ap₂, sym, subst, ◌∙◌, ◌⊎◌, inl, inr}
use Rattle.std.specs.Prelude.{if◌then◌else◌}
use Rattle.std.specs.FinMap as map
use Rattle.std.specs.FinMap.{FinMap, get-empty, get-insert, same_map}
use Rattle.std.specs.Ordering.{is_eq}
use Rattle.beldi_value.specs.{Id.id_cmp, Id.id_exact, Id.id_total, Id.root_of, declared.id.IntentId.IntentId, declared.outcome.Outcome.Outcome, declared.place.Place.Place, declared.place.TxId.TxId, declared.value.Value.Value}
use Rattle.beldi_lang.specs.declared.effect.{Answer.Answer, Effect.Effect}
use Rattle.beldi_book.specs.declared.entry.Entry.{Entry}
use Rattle.beldi_plain.specs.Plain.{Instance, PlainState, answered, effect_of, ended, kind_of, new_instance, nothing, step_by, with_instance}
use Rattle.beldi_plain.specs.{PlainEntries.after, Item.item_cmp, Operation.set_item, declared.kind.Kind.Kind}
use Rattle.beldi_plain.specs.Transaction.{Going, aborted, at_instance, dies_at, fallen, gives, moves_by, opened, tx_begun}
use Rattle.beldi_plain.specs.Moves.{Aborts, AllPlain, AtEnd, Commits, FallsSo, Leads, Move, fell, move_by, after_move, plain}
use Rattle.beldi_plain_laws.proofs.{EntryLaws.Started, EntryLaws.Stepped, EntryLaws.did, Maps.here, Maps.made_set, Maps.same_some}
use Rattle.beldi_bank.specs.{Bank.IsTransfer, Bank.bank_code, BankLaws.AreBalanced}
use Rattle.beldi_bank.proofs.{Balance.has, Balance.item, Balance.no_items, Effects.Returns, BankFlows.Falls, BankFlows.Flow, BankFlows.flow, BankFlows.wanted}

-- a transfer that was started, after these answers
abbrev pub one : Value → List Answer → Option Outcome → Instance
one v given o = record { func = 1; args = v; parent = None; enclosing = None; answers = given; outcome = o }

-- a transfer that has not begun, or is to return
pub record Fine (q : Instance) : Type 0 where
  pub args : Value
  pub transfer : IsTransfer args
  pub given : List Answer
  pub outcome : Option Outcome
  pub is : q ≡ one args given outcome
  pub stands : (given ≡ []) ⊎ Returns (wanted args given)

-- each instance is such a transfer, and the items are balanced
pub record Kept (p : PlainState) : Type 0 where
  pub fine : (id : IntentId) (q : Instance) → map.get p.made id ≡ Some q → Fine q
  pub even : AreBalanced p.items

-- each of these instances is one
abbrev AreFine : FinMap id_cmp Instance → Type 0
AreFine f = (id : IntentId) (q : Instance) → map.get f id ≡ Some q → Fine q

fine_set : (f : FinMap id_cmp Instance) (id : IntentId) (s : Instance) → Fine s → AreFine f → AreFine (map.insert f id s)
fine_set f id s fine h = made_set f id s (λ j o. (q : Instance) → o ≡ Some q → Fine q) (λ q is. subst Fine (same_some is) fine) h

-- what such an instance stands at
at_rest : (q : Instance) → Fine q → (effect_of bank_code q ≡ Effect.Begin) ⊎ Returns (effect_of bank_code q)
at_rest q h = by_stand h.stands
  where
    by_stand : (h.given ≡ []) ⊎ Returns (wanted h.args h.given) → (effect_of bank_code q ≡ Effect.Begin) ⊎ Returns (effect_of bank_code q)
    by_stand (inl none) = inl (ap (effect_of bank_code) h.is ∙ ap (wanted h.args) none)
    by_stand (inr r) = inr (r.0, ap (effect_of bank_code) h.is ∙ r.1)

-- ---- small forms
same_end : {b c : Bool} → Effect.End b ≡ Effect.End c → b ≡ c
same_end h = cc

set_twice : (b : Bool) (x y o : Option Instance) → cond b y (cond b x o) ≡ cond b y o
set_twice true x y o = refl
set_twice false x y o = refl

over_set : (f : FinMap id_cmp Instance) (id : IntentId) (x y : Instance) → map.insert (map.insert f id x) id y ≡ map.insert f id y
over_set f id x y = same_map id_total id_exact _ _ (λ q.
    get-insert id_total (map.insert f id x) id y q ∙ ap (cond (is_eq (id_cmp q id)) (Some y)) (get-insert id_total f id x q)
    ∙ set_twice (is_eq (id_cmp q id)) (Some x) (Some y) (map.get f q) ∙ sym (get-insert id_total f id y q))

-- ---- a transaction under way, of a transfer that these instances stand beside
module _ (f : FinMap id_cmp Instance) (id : IntentId) (v : Value) (o : Option Outcome) where
  abbrev state : FinMap item_cmp Value → List Answer → PlainState
  state m given = record { items = m; made = map.insert f id (one v given o) }

  abbrev going : FinMap item_cmp Value → List Answer → Going
  going m given = record { state = state m given; active = id }

  -- it has these items and answers, and goes on from there
  record FlowsOn (s : Going) : Type 0 where
    pub items : FinMap item_cmp Value
    pub given : List Answer
    pub is : s ≡ going items given
    pub flow : Flow v items given

  -- the next answer
  answers_so : (m n : FinMap item_cmp Value) (given : List Answer) (a : Answer) → record { state = with_instance (record { items = n; made = map.insert f id (one v given o) }) id (one v (given ++ a ∷ []) o); active = id } ≡ going n (given ++ a ∷ [])
  answers_so m n given a = ap (λ g. record { state = record { items = n; made = g }; active = id }) (over_set f id (one v given o) (one v (given ++ a ∷ []) o))

  module _ (t : TxId) where
    move_is : (m : FinMap item_cmp Value) (given : List Answer) (k : Move) → after_move bank_code t k (going m given) ≡ move_by t (state m given) id (one v given o) (wanted v given) k
    move_is m given k = ap (λ q. at_instance q (λ z. move_by t (state m given) id z (effect_of bank_code z) k)) (here f id (one v given o))

    move_by_flow : (m : FinMap item_cmp Value) (given : List Answer) (r : Going) → Flow v m given → moves_by t (state m given) id (one v given o) (wanted v given) ≡ Some r → FlowsOn r
    move_by_flow m given r (Flow.over _ _ b e even) h = let c = sym (ap (moves_by t (state m given) id (one v given o)) e.0) ∙ h in cc
    move_by_flow m given r (Flow.reads _ _ k e falls next) h = record {
      items = m;
      given = given ++ Answer.Value (has m k) ∷ [];
      is = sym (same_some (sym (ap (moves_by t (state m given) id (one v given o)) e) ∙ h)) ∙ answers_so m m given (Answer.Value (has m k));
      flow = next;
    }
    move_by_flow m given r (Flow.writes _ _ k w e falls next) h = record {
      items = set_item m (item k) w;
      given = given ++ Answer.Done ∷ [];
      is = sym (same_some (sym (ap (moves_by t (state m given) id (one v given o)) e) ∙ h)) ∙ answers_so m (set_item m (item k) w) given Answer.Done;
      flow = next;
    }

    moved_stage : (s r : Going) → FlowsOn s → after_move bank_code t plain s ≡ Some r → FlowsOn r
    moved_stage s r h is = move_by_flow h.items h.given r h.flow (sym (ap (after_move bank_code t plain) h.is ∙ move_is h.items h.given plain) ∙ is)

    -- an effect that is aborted leads to the end
    fallen_stage : (u : Option IntentId) (m : FinMap item_cmp Value) (given : List Answer) (r : Going) → Falls v given → (b : Bool) → (if b then Some (fallen (state m given) id (one v given o) u) else None) ≡ Some r → FlowsOn r
    fallen_stage u m given r falls false h = cc
    fallen_stage u m given r falls true h = record {
      items = m;
      given = given ++ aborted id (one v given o) u ∷ [];
      is = sym (same_some h) ∙ answers_so m m given (aborted id (one v given o) u);
      flow = Flow.over m _ false (falls (record { place = record { intent = id; step = length given }; holder = u })) (λ c. cc);
    }

    end_lives : (u : Option IntentId) (b : Bool) → dies_at u (Effect.End b) ≡ false
    end_lives None b = refl
    end_lives (Some i) b = refl

    fell_by_flow : (u : Option IntentId) (m : FinMap item_cmp Value) (given : List Answer) (r : Going) → Flow v m given → (if dies_at u (wanted v given) then Some (fallen (state m given) id (one v given o) u) else None) ≡ Some r → FlowsOn r
    fell_by_flow u m given r (Flow.over _ _ b e even) h = let c = sym (ap (λ d. if d then Some (fallen (state m given) id (one v given o) u) else None) (ap (dies_at u) e.0 ∙ end_lives u b)) ∙ h in cc
    fell_by_flow u m given r (Flow.reads _ _ k e falls next) h = fallen_stage u m given r falls (dies_at u (wanted v given)) h
    fell_by_flow u m given r (Flow.writes _ _ k w e falls next) h = fallen_stage u m given r falls (dies_at u (wanted v given)) h

    fell_stage : (u : Option IntentId) (s r : Going) → FlowsOn s → after_move bank_code t (fell u) s ≡ Some r → FlowsOn r
    fell_stage u s r h is = fell_by_flow u h.items h.given r h.flow (sym (ap (after_move bank_code t (fell u)) h.is ∙ move_is h.items h.given (fell u)) ∙ is)

    led_stage : (moves : List Move) (s l : Going) → FlowsOn s → Leads bank_code t s moves l → AllPlain moves → FlowsOn l
    led_stage [] s l h leads plainly = subst FlowsOn leads h
    led_stage (m ∷ ms) s l h leads plainly = led_stage ms leads.0 l (moved_stage s leads.0 h (ap (λ k. after_move bank_code t k s) (sym plainly.0) ∙ leads.1)) leads.2 plainly.1

    fallen_led : (u : Option IntentId) (moves : List Move) (s l : Going) → FlowsOn s → Leads bank_code t s moves l → FallsSo u moves → FlowsOn l
    fallen_led u [] s l h leads falls = subst FlowsOn leads h
    fallen_led u (m ∷ ms) s l h leads falls = led_stage ms leads.0 l (fell_stage u s leads.0 h (ap (λ k. after_move bank_code t k s) (sym falls.0) ∙ leads.1)) leads.2 falls.1

  -- .. and at its end
  record Closed (commit : Bool) (s : Going) (q : Instance) : Type 0 where
    pub items : FinMap item_cmp Value
    pub given : List Answer
    pub is : s ≡ going items given
    pub instance : q ≡ one v given o
    pub returns : Returns (wanted v (given ++ Answer.Done ∷ []))
    pub even : commit ≡ true → AreBalanced items

  closed : (c : Bool) (s : Going) (at : AtEnd bank_code id s c) → FlowsOn s → Closed c s at.stands.instance
  closed c s at h = by_flow h.items h.given h.is h.flow
    where
      by_flow : (m : FinMap item_cmp Value) (given : List Answer) → s ≡ going m given → Flow v m given → Closed c s at.stands.instance
      by_flow m given is w = by_kind w
        where
          there : at.stands.instance ≡ one v given o
          there = same_some (sym at.stands.made ∙ ap (λ (z : Going). map.get z.state.made z.active) is ∙ here f id (one v given o))

          ends : wanted v given ≡ Effect.End c
          ends = ap (effect_of bank_code) (sym there) ∙ at.stands.effect

          by_kind : Flow v m given → Closed c s at.stands.instance
          by_kind (Flow.over _ _ b e even) = record { items = m; given = given; is = is; instance = there; returns = e.1 Answer.Done; even = λ yes. even (same_end (sym e.0 ∙ ends) ∙ yes) }
          by_kind (Flow.reads _ _ k e falls next) = let x = sym e ∙ ends in cc
          by_kind (Flow.writes _ _ k y e falls next) = let x = sym e ∙ ends in cc

-- ---- the entries
-- a transfer that was begun
module _ (p : PlainState) (h : Kept p) (id : IntentId) (q : Instance) (made : map.get p.made id ≡ Some q) (begins : effect_of bank_code q ≡ Effect.Begin) where
  was : Fine q
  was = h.fine id q made

  none_given : was.given ≡ []
  none_given = by_stand was.stands
    where
      by_stand : (was.given ≡ []) ⊎ Returns (wanted was.args was.given) → was.given ≡ []
      by_stand (inl none) = none
      by_stand (inr r) = let c = sym (ap (effect_of bank_code) (sym was.is) ∙ begins) ∙ r.1 in cc

  begun : FlowsOn p.made id was.args was.outcome (opened p id q)
  begun = record {
    items = p.items;
    given = Answer.Done ∷ [];
    is = ap (opened p id) (was.is ∙ ap (λ g. one was.args g was.outcome) none_given);
    flow = flow was.args was.transfer p.items h.even;
  }

  returning : (given : List Answer) → Returns (wanted was.args (given ++ Answer.Done ∷ [])) → Fine (one was.args (given ++ Answer.Done ∷ []) was.outcome)
  returning given r = record { args = was.args; transfer = was.transfer; given = given ++ Answer.Done ∷ []; outcome = was.outcome; is = refl; stands = inr r }

commit_kept : (p : PlainState) (id : IntentId) (r : PlainState) → Kept p → Commits bank_code p id r → Kept r
commit_kept p id r h c =
    let q = c.instance in
    let a = was p h id q c.runs.made c.runs.begins in
    let s = led_stage p.made id a.args a.outcome (tx_begun id q) c.moves (opened p id q) c.last (begun p h id q c.runs.made c.runs.begins) c.runs.leads c.plainly in
    let e = closed p.made id a.args a.outcome true c.last c.ends s in
    subst Kept (sym (c.is ∙ ap₂ (λ (z : Going) y. gives z.state id y Answer.Done) e.is e.instance ∙ ap (λ (z : Going). z.state) (answers_so p.made id a.args a.outcome e.items e.items e.given Answer.Done)))
    (record { fine = fine_set p.made id _ (returning p h id q c.runs.made c.runs.begins e.given e.returns) h.fine; even = e.even refl })

abort_kept : (p : PlainState) (id : IntentId) (place : Place) (holder : Option IntentId) (r : PlainState) → Kept p → Aborts bank_code p id place holder r → Kept r
abort_kept p id place holder r h c =
    let q = c.instance in
    let t = tx_begun id q in
    let a = was p h id q c.runs.made c.runs.begins in
    let s = led_stage p.made id a.args a.outcome t c.before (opened p id q) c.there (begun p h id q c.runs.made c.runs.begins) c.runs.leads c.plainly in
    let e = closed p.made id a.args a.outcome false c.last c.ends (fallen_led p.made id a.args a.outcome t holder c.since c.there c.last s c.leads c.falls) in
    subst Kept (sym (c.is ∙ ap (λ y. with_instance p id (answered y Answer.Done)) e.instance))
    (record { fine = fine_set p.made id _ (returning p h id q c.runs.made c.runs.begins e.given e.returns) h.fine; even = h.even })

started_kept : (p : PlainState) (t : ℕ) (v : Value) (func : ℕ) (r : PlainState) → Kept p → func ≡ 1 → IsTransfer v → Started p t func v r → Kept r
started_kept p t v func r h first v_is s = subst Kept s.leads
    (record { fine = fine_set p.made (root_of t) _ (record { args = v; transfer = v_is; given = []; outcome = None; is = ap (λ n. new_instance n v None) first; stands = inl refl }) h.fine; even = h.even })

-- a step is the return
read_kept : (p : PlainState) (id : IntentId) (r : PlainState) → Kept p → Stepped bank_code p id Kind.Read r → Kept r
read_kept p id r h s = by_rest (at_rest s.instance (h.fine id s.instance s.made))
  where
    by_rest : (effect_of bank_code s.instance ≡ Effect.Begin) ⊎ Returns (effect_of bank_code s.instance) → Kept r
    by_rest (inl e) = let c = sym (ap (kind_of id) e) ∙ s.kind in cc
    by_rest (inr e) = let c = sym (ap (kind_of id) e.1) ∙ s.kind in cc

step_kept : (p : PlainState) (id : IntentId) (r : PlainState) → Kept p → Stepped bank_code p id Kind.Change r → Kept r
step_kept p id r h s = by_rest (at_rest s.instance (h.fine id s.instance s.made))
  where
    a : Fine s.instance
    a = h.fine id s.instance s.made

    ended_fine : (u : Outcome) → (a.given ≡ []) ⊎ Returns (wanted a.args a.given) → Fine (ended (one a.args a.given a.outcome) u)
    ended_fine u stands = record { args = a.args; transfer = a.transfer; given = a.given; outcome = Some u; is = refl; stands = stands }

    by_rest : (effect_of bank_code s.instance ≡ Effect.Begin) ⊎ Returns (effect_of bank_code s.instance) → Kept r
    by_rest (inl e) = let c = sym (ap (kind_of id) e) ∙ s.kind in cc
    by_rest (inr e) = subst Kept (sym (ap (step_by p id s.instance) e.1 ∙ ap (λ q. step_by p id q (Effect.Return e.0)) a.is) ∙ s.leads)
        (record { fine = fine_set p.made id _ (ended_fine e.0 a.stands) h.fine; even = h.even })

-- a start is one of a transfer
abbrev pub StartsTransfer : Entry → Type 0
StartsTransfer (Entry.Start t f a) = (f ≡ 1) × IsTransfer a
StartsTransfer e = Unit {0}

pub after_kept : (p : PlainState) (e : Entry) (r : PlainState) → StartsTransfer e → Kept p → after bank_code p e ≡ Some r → Kept r
after_kept p (Entry.Start t f a) r start h is = started_kept p t a f r h start.0 start.1 (did bank_code p (Entry.Start t f a) r is)
after_kept p (Entry.Read id version) r start h is = read_kept p id r h (did bank_code p (Entry.Read id version) r is)
after_kept p (Entry.Step id) r start h is = step_kept p id r h (did bank_code p (Entry.Step id) r is)
after_kept p (Entry.CommittedTx id) r start h is = commit_kept p id r h (did bank_code p (Entry.CommittedTx id) r is)
after_kept p (Entry.AbortedTx id place holder) r start h is = abort_kept p id place holder r h (did bank_code p (Entry.AbortedTx id place holder) r is)

pub kept_nothing : Kept nothing
kept_nothing = record { fine = λ id q is. let c = sym (get-empty id_cmp id) ∙ is in cc; even = no_items }
