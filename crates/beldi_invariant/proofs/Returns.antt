-- A run at its return: who called its instance, and how that ends.
use Rattle.beldi_invariant.proofs.Names.{Answer, Begun, Caller, Cause, Core, Deployment, IsConsistent, Grows, Inside, Instance, IntentId, IsAnswer, IsCalled, Histories, Knows, List, LocksAreAheadAtEnds, Machine, None, Option, Outcome, Place, PlainState, Return, Invariant, Rows, Run, RunTx, SameShadows, WellFormedHistories, StageOutput, Some, StandsAt, Step, TxId, [], ahead_set, answer_of, ap, arith, caller_in, child_of, effect_of, enabled_step, ended, ended_by, false, goes_one, got_ended, grown_end, grows_at, has_no_hops, inl, inr, is_begin, is_some, is_waited, item_touched, key_in, kind_of, none_by, none_out, place_of, refl, root_of, root_or_called, run_tx, same_some, set_over, step_by, subst, sym, touched, touched_by, true, turned_by, tx_after, tx_at, unlocked_elsewhere, waits_at, with_instance, inherited_tx, ℕ, ◌<◌, ◌∙◌, ◌∷◌, ◌≡◌}
use Rattle.beldi_invariant.proofs.{Ended.ended_at, Frames.NobodyJoins, Frames.nobody_set, Settling.UnendedOwner, Settling.settled_ended, Settling.settled_grown, Moves.AfterTurn, Moves.change_entered, Moves.Entered, Passing.returns_in, Passing.tx_is, Shown.Settled, Shown.settled, Shown.legal_well_formed, StageTurns.answer_here, StageTurns.effect_here, StageTurns.effect_next, StageTurns.well_formed_instance, StageTurns.step_here, StageTurns.plain_there, StageTurns.outside_there, Cases.false_by}
use Rattle.beldi_invariant.proofs.Names.map

-- the caller of an instance, if it has one, made it at this step
pub record HasCaller (d : Deployment) (histories : Histories) (id : IntentId) (q : Instance) (c : Caller) : Type 0 where
  pub caller : Instance
  pub is_callee : id ≡ child_of c.place.intent c.place.step
  pub made : map.get histories c.place.intent ≡ Some caller
  pub called : IsCalled d c.place.intent caller c.place.step q
  pub func : caller.func ≡ c.func

pub has_caller : (d : Deployment) (histories : Histories) (id : IntentId) (q : Instance) (c : Caller) → WellFormedHistories d histories → map.get histories id ≡ Some q → q.parent ≡ Some c → HasCaller d histories id q c
has_caller d histories id q c well_formed made from = elim (root_or_called d histories well_formed id q made) [
  | inl root ↦ let clash = sym (well_formed.roots id.ticket q (ap (map.get histories) (sym root) ∙ made)).0 ∙ from in cc
  | inr r ↦
      let is : record { place = record { intent = r.caller; step = r.step }; func = r.waiter.func; waits = r.called.waits } ≡ c = same_some (sym r.called.parent ∙ from) in
      subst (HasCaller d histories id q) is (record { caller = r.waiter; is_callee = r.is; made = r.made; called = r.called; func = refl })
]

-- a root has none, and was called in no transaction
pub root_is : (id : IntentId) → has_no_hops id.hops ≡ true → id ≡ root_of id.ticket
root_is id root = grind arith

pub root_outside : (d : Deployment) (histories : Histories) (id : IntentId) (q : Instance) → WellFormedHistories d histories → map.get histories id ≡ Some q → has_no_hops id.hops ≡ true → (q.parent ≡ None) × (q.enclosing ≡ None)
root_outside d histories id q well_formed made root = well_formed.roots id.ticket q (ap (map.get histories) (sym (root_is id root)) ∙ made)

-- of a run that returns: its instance as it has ended, what is known then, and the plain state after its step
module _ {d : Deployment} {histories : Histories} {id : IntentId} {home : ℕ} {c : Option Caller} {s : Machine} {z : Option RunTx} (k : StandsAt d histories id home c s z) (o : Outcome) where
  abbrev pub done : Instance
  done = ended k.instance o

  abbrev pub over : Histories
  over = map.insert histories id done

  abbrev pub state : PlainState → PlainState
  state p = step_by p id k.instance (Return o)

-- .. and what its turn leaves
module _ {d : Deployment} {c : Core} {m : Rows} (h : Invariant d c m) (i : ℕ) (r : Run) (g : Begun) where
  abbrev pub Left : StageOutput → Rows → Type 0
  Left s n = AfterTurn d h.plain c i r (turned_by d r g s) n

-- a return has no answer
unanswered : (p : Place) (t : Option TxId) (o : Outcome) (a : Answer) → IsAnswer p t (Return o) a → ⊥
unanswered p t o a h = grind arith

-- an outcome that was aborted
pub aborted_by : (o : Outcome) (c : Cause) → answer_of o ≡ Answer.Aborted c → o ≡ Outcome.Aborted c
aborted_by o c e = grind arith

module _ (d : Deployment) (c : Core) (m : Rows) (i : ℕ) (r : Run) (g : Begun) (h : Invariant d c m) (live : map.get c.runs i ≡ Some r) (k : Knows d h.histories r g) (finds : Inside m h.plain c.book k g.stage) (o : Outcome) (is : g.machine.effect ≡ Return o) where
  -- a body that returns was answered nothing more
  no_answer : (later : List Answer) → k.later ≡ later → k.later ≡ []
  no_answer [] left = left
  no_answer (a ∷ rest) left = absurd (unanswered (place_of r.id g.machine.steps) (tx_at d r.id k.instance g.machine.steps) o a
      (subst (λ e. IsAnswer (place_of r.id g.machine.steps) (tx_at d r.id k.instance g.machine.steps) e a) (effect_here k ∙ is) ((well_formed_instance h k).past g.machine.steps a (answer_here k (a ∷ rest) left))))

  pub at_end : k.later ≡ []
  at_end = no_answer k.later refl

  pub returns_now : effect_of d k.instance ≡ Return o
  returns_now = effect_next k at_end ∙ is

  -- it is in the transaction that it was called in, if any
  pub tx : g.tx ≡ inherited_tx k.instance.enclosing
  tx = returns_in k o is

  pub unlocked : h.lock_ahead r.id ≡ false
  unlocked = unlocked_elsewhere d h.histories h.lock_ahead h.ahead_at_ends r.id k.instance k.made (ap touched returns_now)

  -- an outcome that it has is this one
  pub same_outcome : (u : Outcome) → k.instance.outcome ≡ Some u → u ≡ o
  same_outcome u has = let both : Return u ≡ Return o = sym ((well_formed_instance h k).over u has) ∙ returns_now in cc

  -- who was called in a transaction has its row
  seated : (t : TxId) → k.instance.enclosing ≡ Some t → is_some (map.get m (key_in k.instance.func r.id)) ≡ true
  seated t inherited_tx = ap (λ f. is_some (map.get m (key_in f r.id))) k.func ∙ finds.row (false_by (has_no_hops r.id.hops) (λ e. let clash = sym inherited_tx ∙ (root_outside d h.histories r.id k.instance h.well_formed k.made e).1 in cc))

  -- past the ends of its transactions it owns nothing
  owns_nothing : UnendedOwner d m h.histories r.id (Some o)
  owns_nothing t z x e own same =
      let end = ended_at d k.instance t.begin z (sym (ap (ended_by d t.begin) (ap (map.get h.histories) same ∙ k.made)) ∙ e) in
      absurd (finds.released t z same e (subst (λ n. z.0 < n) (sym (step_here k at_end)) end.before) x own)

  -- one that nobody waits for was called in none
  pub idle_outside : is_waited g.caller ≡ false → k.instance.enclosing ≡ None
  idle_outside idle = none_by k.instance.enclosing (λ t e. let clash = sym idle ∙ ap is_waited (k.caller ∙ (caller_in d h.histories h.well_formed t r.id k.instance k.made e).parent) in cc)

  pub ahead_over : LocksAreAheadAtEnds d (over k o) h.lock_ahead
  ahead_over = ahead_set d h.histories h.lock_ahead h.ahead_at_ends h.lock_ahead r.id (done k o) (none_out h.lock_ahead r.id unlocked)

  -- who ends was known
  pub nobody_over : NobodyJoins d h.histories (over k o)
  nobody_over = nobody_set d h.histories r.id (done k o) (ap is_some k.made)

  -- its step ends it, and answers its caller
  module _ (open_still : k.instance.outcome ≡ None) where
    pub grows_over : Grows h.histories (over k o)
    grows_over = grows_at h.histories r.id k.instance (done k o) k.made (grown_end k.instance o open_still)

    pub settled_over : (p : PlainState) → Grows h.plain.made p.made → Settled d m p (over k o)
    settled_over p grows = settled_ended d m p h.histories r.id k.instance o k.made seated owns_nothing (settled_grown d m h.plain p h.histories grows (settled h))

  -- outside it is the plain step
  module _ (own : k.instance.enclosing ≡ None) where
    out : tx_after d r.id k.instance k.answers ≡ None
    out = tx_is k (ap is_begin is) ∙ ap (run_tx r.id r.func) (tx ∙ ap inherited_tx own)

    there : map.get h.plain.made r.id ≡ Some k.instance
    there = plain_there d c m i r g h live k finds out (Return o) is at_end

    pub goes_over : (n : Rows) → SameShadows m n → IsConsistent d n (with_instance h.plain r.id (done k o)) (over k o) h.lock_ahead
    goes_over n same = goes_one d m h.plain h.histories h.lock_ahead h.shadows h.extends r.id (done k o)
        (set_over d m h.plain h.histories h.lock_ahead h.shadows h.extends h.well_formed h.rows (legal_well_formed h) r.id k.instance k.made o (outside_there k out at_end)) n same (got_ended d m h.histories h.lock_ahead h.shadows.got n same r.id k.instance k.made o)

    pub leads : k.instance.outcome ≡ None → (next : Histories) → Entered d c h.plain h.histories (Step r.id) (state k o h.plain) next
    leads open_still next = change_entered d c m h (Step r.id) (state k o h.plain) next refl
        (enabled_step d h.plain r.id k.instance there open_still (ap (waits_at h.plain.made r.id k.instance) returns_now) (ap (kind_of r.id) returns_now) ∙ ap (λ z. Some (step_by h.plain r.id k.instance z)) returns_now)
        (λ x touched. let none = sym (ap (touched_by d) there ∙ ap (item_touched k.instance) returns_now) ∙ touched in cc)
