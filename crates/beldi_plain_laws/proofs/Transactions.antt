-- A commit and an abort are lists of moves.
use Rattle.beldi_plain.specs.Transaction.{enough}
use Rattle.beldi_plain_laws.proofs.Names.{Aborts, AllPlain, AtEnd, Bool, Commits, Deployment, Effect, FallsSo, Going, Instance, IntentId, Leads, List, Move, None, NotBefore, Option, Outcome, TransactionsAreMoves, Place, PlainState, Runs, Some, AbortedTx, CommittedTx, TxId, [], after, and_parts, answered, ap, arith, at_instance, can_step, dies_at, effect_of, ends_by, ends_on, fallen, falls_by, false, fault_by, fell, gives, id_total, if_open, if◌then◌else◌, is_eq, is_holder, is_owner, is_same, is_there, is_waiting, length, length-append, move_by, after_move, moves_by, opened, option_and_then, over_by, commit_from, plain, refl, stands_at, stands_there, subst, suc, sym, tied_itself, true, abort_from, abort_on, tx_begun, unless, waits_at, with_answers, with_instance, zero, ℕ, ◌&&◌, ◌++◌, ◌+◌, ◌-◌, ◌<◌, ◌∙◌, ◌∷◌, ◌≡◌, ◌≤◌, Answer}
use Rattle.beldi_plain_laws.proofs.{Bound.few_moves, CallStack.all_moves, Maps.same_some, Maps.equal, Maps.here}
use Rattle.beldi_plain_laws.proofs.Names.map

-- ---- an instance that can step
pub record CanStep {X : Type 0} (o : Option Instance) (w : Instance → Bool) (f : Instance → Option X) (x : X) : Type 0 where
  pub instance : Instance
  pub made : o ≡ Some instance
  pub open_still : instance.outcome ≡ None
  pub free : w instance ≡ false
  pub gives_it : f instance ≡ Some x

unless_is : {X : Type 0} (b : Bool) (o : Option X) (x : X) → unless b o ≡ Some x → (b ≡ false) × (o ≡ Some x)
unless_is true o x h = cc
unless_is false o x h = (refl, h)

pub can_step_is : {X : Type 0} (o : Option Instance) (w : Instance → Bool) (f : Instance → Option X) (x : X) → can_step o w f ≡ Some x → CanStep o w f x
can_step_is None w f x h = cc
can_step_is {X = X} (Some q) w f x h = by_outcome q.outcome refl h
  where
    by_outcome : (u : Option Outcome) → q.outcome ≡ u → if_open u (unless (w q) (f q)) ≡ Some x → CanStep (Some q) w f x
    by_outcome None none g = let u = unless_is (w q) (f q) x g in record { instance = q; made = refl; open_still = none; free = u.0; gives_it = u.1 }
    by_outcome (Some u) some g = cc

-- .. and what does
pub steps_so : {X : Type 0} (o : Option Instance) (q : Instance) (w : Instance → Bool) (f : Instance → Option X) → o ≡ Some q → q.outcome ≡ None → w q ≡ false → can_step o w f ≡ f q
steps_so o q w f is none free = ap (λ u. can_step u w f) is ∙ ap (λ u. if_open u (unless (w q) (f q))) none ∙ ap (λ b. unless b (f q)) free

-- ---- small forms
pub if_some : {X : Type 0} (b : Bool) (o : Option X) (x : X) → (if b then o else None) ≡ Some x → (b ≡ true) × (o ≡ Some x)
if_some true o x h = (refl, h)
if_some false o x h = cc

pub some_of : {X Y : Type 0} (o : Option X) (k : X → Option Y) (y : Y) → option_and_then k o ≡ Some y → (x : X) × (o ≡ Some x) × (k x ≡ Some y)
some_of None k y h = cc
some_of (Some x) k y h = (x, refl, h)

left_of : (m n : ℕ) → m ≤ n → (l : ℕ) × (l + m ≡ n)
left_of m n h = (n - m, omega (arith, h))

-- ---- what goes on by plain moves until it stops
module _ (d : Deployment) (t : TxId) (go : ℕ → Going → Option PlainState) (stops : Going → Instance → Bool) (last : ℕ → Going → Instance → Option PlainState)
    (starts : (s : Going) → go zero s ≡ None)
    (nobody : (n : ℕ) (s : Going) → map.get s.state.made s.active ≡ None → go (suc n) s ≡ None)
    (steps : (n : ℕ) (s : Going) (q : Instance) → map.get s.state.made s.active ≡ Some q → go (suc n) s ≡ (if stops s q then last n s q else option_and_then (go n) (moves_by t s.state s.active q (effect_of d q)))) where
  -- one move
  plain_move : (s : Going) (q : Instance) → map.get s.state.made s.active ≡ Some q → after_move d t plain s ≡ moves_by t s.state s.active q (effect_of d q)
  plain_move s q is = ap (λ o. at_instance o (λ z. move_by t s.state s.active z (effect_of d z) plain)) is

  -- no state before the last stops
  abbrev pub GoesBy : Going → List Move → Type 0
  GoesBy s [] = Unit {0}
  GoesBy s (m ∷ ms) = ((q : Instance) → map.get s.state.made s.active ≡ Some q → stops s q ≡ false) × ((r : Going) → after_move d t m s ≡ Some r → GoesBy r ms)

  pub record WentOn (n : ℕ) (s : Going) (r : PlainState) : Type 0 where
    pub moves : List Move
    pub to : Going
    pub leads : Leads d t s moves to
    pub plainly : AllPlain moves
    pub goes : GoesBy s moves
    pub left : ℕ
    pub fuel : left + suc (length moves) ≡ n
    pub instance : Instance
    pub made : map.get to.state.made to.active ≡ Some instance
    pub stopped : stops to instance ≡ true
    pub came : last left to instance ≡ Some r

  pub went : (n : ℕ) (s : Going) (r : PlainState) → go n s ≡ Some r → WentOn n s r
  went zero s r h = let c = sym (starts s) ∙ h in cc
  went (suc n) s r h = by_front (map.get s.state.made s.active) refl (λ z. went n z r)
    where
      by_move : (q : Instance) → map.get s.state.made s.active ≡ Some q → stops s q ≡ false → (w : (z : Going) × (moves_by t s.state s.active q (effect_of d q) ≡ Some z) × (go n z ≡ Some r)) → WentOn n w.0 r → WentOn (suc n) s r
      by_move q is off w on =
          let step = plain_move s q is ∙ w.1 in
          record {
            moves = plain ∷ on.moves;
            to = on.to;
            leads = (w.0, step, on.leads);
            plainly = (refl, on.plainly);
            goes = (λ y made. ap (stops s) (same_some (sym made ∙ is)) ∙ off, λ z so. subst (λ y. GoesBy y on.moves) (same_some (sym step ∙ so)) on.goes);
            left = on.left;
            fuel = let k = on.fuel in omega (arith, k);
            instance = on.instance;
            made = on.made;
            stopped = on.stopped;
            came = on.came;
          }

      by_stop : (q : Instance) → map.get s.state.made s.active ≡ Some q → (b : Bool) → stops s q ≡ b → (if b then last n s q else option_and_then (go n) (moves_by t s.state s.active q (effect_of d q))) ≡ Some r
          → ((z : Going) → go n z ≡ Some r → WentOn n z r) → WentOn (suc n) s r
      by_stop q is true stop g rest = record { moves = []; to = s; leads = refl; plainly = tt; goes = tt; left = n; fuel = omega arith; instance = q; made = is; stopped = stop; came = g }
      by_stop q is false stop g rest = let w = some_of (moves_by t s.state s.active q (effect_of d q)) (go n) r g in by_move q is stop w (rest w.0 w.2)

      by_front : (o : Option Instance) → map.get s.state.made s.active ≡ o → ((z : Going) → go n z ≡ Some r → WentOn n z r) → WentOn (suc n) s r
      by_front None is rest = let c = sym (nobody n s is) ∙ h in cc
      by_front (Some q) is rest = by_stop q is (stops s q) refl (sym (steps n s q is) ∙ h) rest

  -- .. and by moves that stop nowhere before
  pub led : (moves : List Move) (n left : ℕ) (s to : Going) (q : Instance) (r : PlainState) → Leads d t s moves to → AllPlain moves → GoesBy s moves → left + suc (length moves) ≡ n → map.get to.state.made to.active ≡ Some q → stops to q ≡ true → last left to q ≡ Some r
      → go n s ≡ Some r
  led moves zero left s to q r leads plainly goes fuel made stopped came = absurd (omega (arith, fuel))
  led [] (suc n) left s to q r leads plainly goes fuel made stopped came =
      let same : left ≡ n = omega (arith, fuel) in
      ap (go (suc n)) leads ∙ steps n to q made ∙ ap (λ b. if b then last n to q else option_and_then (go n) (moves_by t to.state to.active q (effect_of d q))) stopped ∙ ap (λ k. last k to q) (sym same) ∙ came
  led (m ∷ ms) (suc n) left s to q r leads plainly goes fuel made stopped came =
      by_front (map.get s.state.made s.active) refl (led ms n left leads.0 to q r leads.2 plainly.1 (goes.1 leads.0 leads.1) (omega (arith, fuel)) made stopped came)
    where
      step : after_move d t plain s ≡ Some leads.0
      step = ap (λ z. after_move d t z s) (sym plainly.0) ∙ leads.1

      by_front : (o : Option Instance) → map.get s.state.made s.active ≡ o → go n leads.0 ≡ Some r → go (suc n) s ≡ Some r
      by_front None is rest = let c = sym (ap (λ o. at_instance o (λ z. move_by t s.state s.active z (effect_of d z) plain)) is) ∙ step in cc
      by_front (Some z) is rest =
          steps n s z is
          ∙ ap (λ b. if b then last n s z else option_and_then (go n) (moves_by t s.state s.active z (effect_of d z))) (goes.0 z is)
          ∙ ap (option_and_then (go n)) (sym (plain_move s z is) ∙ step) ∙ rest

-- ---- up to the end of the owner
abbrev pub ends_now : Effect → Bool
ends_now (Effect.End b) = true
ends_now e = false

abbrev close_by : TxId → Bool → PlainState → IntentId → Instance → Effect → Option PlainState
close_by t c p id q (Effect.End b) = over_by t c b p id q
close_by t c p id q e = None

module _ (d : Deployment) (t : TxId) (c : Bool) where
  ends_nobody : (n : ℕ) (s : Going) → map.get s.state.made s.active ≡ None → ends_on d (suc n) t c s ≡ None
  ends_nobody n s is = ap (λ o. at_instance o (λ q. ends_by (ends_on d n t c) t c s.state s.active q (effect_of d q))) is

  ends_steps : (n : ℕ) (s : Going) (q : Instance) → map.get s.state.made s.active ≡ Some q
      → ends_on d (suc n) t c s ≡ (if ends_now (effect_of d q) then close_by t c s.state s.active q (effect_of d q) else option_and_then (ends_on d n t c) (moves_by t s.state s.active q (effect_of d q)))
  ends_steps n s q is = ap (λ o. at_instance o (λ z. ends_by (ends_on d n t c) t c s.state s.active z (effect_of d z))) is ∙ by_end (effect_of d q)
    where
      by_end : (e : Effect) → ends_by (ends_on d n t c) t c s.state s.active q e ≡ (if ends_now e then close_by t c s.state s.active q e else option_and_then (ends_on d n t c) (moves_by t s.state s.active q e))
      by_end (Effect.End b) = refl
      by_end e = refl

  abbrev stops_at_end : Going → Instance → Bool
  stops_at_end s q = ends_now (effect_of d q)

  abbrev closes_there : ℕ → Going → Instance → Option PlainState
  closes_there n s q = close_by t c s.state s.active q (effect_of d q)

  -- what is at its end is over
  pub record Ended (n : ℕ) (s : Going) (r : PlainState) : Type 0 where
    pub moves : List Move
    pub last : Going
    pub leads : Leads d t s moves last
    pub plainly : AllPlain moves
    pub few : length moves < n
    pub ends : AtEnd d t.intent last c
    pub is : r ≡ gives last.state t.intent ends.stands.instance Answer.Done

  same_flag : (a b : Bool) → is_same a b ≡ true → b ≡ a
  same_flag true b h = h
  same_flag false true h = cc
  same_flag false false h = refl

  flag_self : (a : Bool) → is_same a a ≡ true
  flag_self true = refl
  flag_self false = refl

  closed_so : (s : Going) (q : Instance) (r : PlainState) (e : Effect) → close_by t c s.state s.active q e ≡ Some r → (e ≡ Effect.End c) × (s.active ≡ t.intent) × (r ≡ gives s.state t.intent q Answer.Done)
  closed_so s q r (Effect.End b) h =
      let w = if_some (is_owner t s.active && is_same c b) (Some (gives s.state s.active q Answer.Done)) r h in
      let both = and_parts (is_owner t s.active) (is_same c b) w.0 in
      let own = sym (equal t.intent s.active both.0) in
      (ap Effect.End (same_flag c b both.1), own, sym (same_some w.1) ∙ ap (λ i. gives s.state i q Answer.Done) own)
  closed_so s q r e h = cc

  owner_is : (id : IntentId) → id ≡ t.intent → is_owner t id ≡ true
  owner_is id own = ap (is_owner t) own ∙ ap is_eq (tied_itself id_total t.intent)

  pub closes_so : (s : Going) (at : AtEnd d t.intent s c) (n : ℕ) → closes_there n s at.stands.instance ≡ Some (gives s.state t.intent at.stands.instance Answer.Done)
  closes_so s at n =
      let q = at.stands.instance in
      ap (close_by t c s.state s.active q) at.stands.effect
      ∙ ap (λ b. if b && is_same c c then Some (gives s.state s.active q Answer.Done) else None) (owner_is s.active at.owner)
      ∙ ap (λ b. if b then Some (gives s.state s.active q Answer.Done) else None) (flag_self c)
      ∙ ap (λ i. Some (gives s.state i q Answer.Done)) at.owner

  pub ended_so : (n : ℕ) (s : Going) (r : PlainState) → ends_on d n t c s ≡ Some r → Ended n s r
  ended_so n s r h =
      let w = went d t (λ k z. ends_on d k t c z) stops_at_end closes_there (λ z. refl) ends_nobody ends_steps n s r h in
      let e = closed_so w.to w.instance r (effect_of d w.instance) w.came in
      record {
        moves = w.moves;
        last = w.to;
        leads = w.leads;
        plainly = w.plainly;
        few = let k = w.fuel in omega (arith, k);
        ends = record { owner = e.1; stands = record { instance = w.instance; made = w.made; effect = e.0 } };
        is = e.2;
      }

  -- nobody moves at an end
  pub no_end : (p : PlainState) (id : IntentId) (q : Instance) (e : Effect) (r : Going) → moves_by t p id q e ≡ Some r → ends_now e ≡ false
  no_end p id q (Effect.End b) r h = cc
  no_end p id q e r h = refl

  goes_by : (s to : Going) (moves : List Move) → Leads d t s moves to → AllPlain moves → GoesBy d t (λ k z. ends_on d k t c z) stops_at_end closes_there (λ z. refl) ends_nobody ends_steps s moves
  goes_by s to [] leads plainly = tt
  goes_by s to (m ∷ ms) leads plainly = (
    λ q is. no_end s.state s.active q (effect_of d q) leads.0 (sym (ap (λ o. at_instance o (λ z. move_by t s.state s.active z (effect_of d z) plain)) is) ∙ ap (λ z. after_move d t z s) (sym plainly.0) ∙ leads.1),
    λ r so. subst (λ z. GoesBy d t (λ k z. ends_on d k t c z) stops_at_end closes_there (λ z. refl) ends_nobody ends_steps z ms) (same_some (sym leads.1 ∙ so)) (goes_by leads.0 to ms leads.2 plainly.1),
  )

  pub ends_so : (n : ℕ) (s : Going) (r : PlainState) → Ended n s r → ends_on d n t c s ≡ Some r
  ends_so n s r h =
      let l = left_of (suc (length h.moves)) n (omega (arith, h.few)) in
      led d t (λ k z. ends_on d k t c z) stops_at_end closes_there (λ z. refl) ends_nobody ends_steps h.moves n l.0 s h.last h.ends.stands.instance r h.leads h.plainly (goes_by s h.last h.moves h.leads h.plainly) l.1 h.ends.stands.made
      (ap ends_now h.ends.stands.effect) (closes_so h.last h.ends l.0 ∙ ap (λ z. Some z) (sym h.is))

-- ---- the commit
module _ (d : Deployment) (id : IntentId) where
  commit_begins : (p : PlainState) (q : Instance) (e : Effect) (r : PlainState) → commit_from d p id q e ≡ Some r → (e ≡ Effect.Begin) × (ends_on d enough (tx_begun id q) true (opened p id q) ≡ Some r)
  commit_begins p q Effect.Begin r h = (refl, h)
  commit_begins p q e r h = cc

  pub commits : (p r : PlainState) → after d p (CommittedTx id) ≡ Some r → Commits d p id r
  commits p r h =
      let c = can_step_is (map.get p.made id) (is_waiting d p id) (λ q. commit_from d p id q (effect_of d q)) r h in
      let b = commit_begins p c.instance (effect_of d c.instance) r c.gives_it in
      let w = ended_so d (tx_begun id c.instance) true enough (opened p id c.instance) r b.1 in
      record {
        instance = c.instance;
        moves = w.moves;
        last = w.last;
        runs = record { made = c.made; open_still = c.open_still; begins = b.0; leads = w.leads };
        plainly = w.plainly;
        ends = w.ends;
        is = w.is;
      }

  starts_so : (p : PlainState) (q : Instance) (f : Instance → Option PlainState) → map.get p.made id ≡ Some q → q.outcome ≡ None → effect_of d q ≡ Effect.Begin → can_step (map.get p.made id) (is_waiting d p id) f ≡ f q
  starts_so p q f is none begins = steps_so (map.get p.made id) q (is_waiting d p id) f is none (ap (waits_at p.made id q) begins)

  pub committed : (p r : PlainState) → Commits d p id r → after d p (CommittedTx id) ≡ Some r
  committed p r h =
      let q = h.instance in
      starts_so p q (λ z. commit_from d p id z (effect_of d z)) h.runs.made h.runs.open_still h.runs.begins ∙ ap (commit_from d p id q) h.runs.begins
      ∙ ends_so d (tx_begun id q) true enough (opened p id q) r (record { moves = h.moves; last = h.last; leads = h.runs.leads; plainly = h.plainly; few = few_moves d p id q h.moves h.last h.runs; ends = h.ends; is = h.is })

-- ---- the abort
module _ (d : Deployment) (t : TxId) (place : Place) (holder : Option IntentId) where
  abbrev stops_there : Going → Instance → Bool
  stops_there s q = stands_at place s.active q

  abbrev falls_there : ℕ → Going → Instance → Option PlainState
  falls_there n s q = falls_by (ends_on d n t false) t s.state s.active q holder (effect_of d q)

  abort_nobody : (n : ℕ) (s : Going) → map.get s.state.made s.active ≡ None → abort_on d (suc n) t place holder s ≡ None
  abort_nobody n s is = ap (λ o. at_instance o (λ q. if stands_at place s.active q then falls_by (ends_on d n t false) t s.state s.active q holder (effect_of d q) else option_and_then (abort_on d n t place holder) (moves_by t s.state s.active q (effect_of d q)))) is

  abort_steps : (n : ℕ) (s : Going) (q : Instance) → map.get s.state.made s.active ≡ Some q
      → abort_on d (suc n) t place holder s ≡ (if stops_there s q then falls_there n s q else option_and_then (abort_on d n t place holder) (moves_by t s.state s.active q (effect_of d q)))
  abort_steps n s q is = ap (λ o. at_instance o (λ z. if stands_at place s.active z then falls_by (ends_on d n t false) t s.state s.active z holder (effect_of d z) else option_and_then (abort_on d n t place holder) (moves_by t s.state s.active z (effect_of d z)))) is

  -- what falls at its place, and ends
  pub record Fell (n : ℕ) (s : Going) (r : PlainState) : Type 0 where
    pub since : List Move
    pub last : Going
    pub leads : Leads d t s since last
    pub falls : FallsSo holder since
    pub few : length since ≤ n
    pub ends : AtEnd d t.intent last false
    pub is : r ≡ gives last.state t.intent ends.stands.instance Answer.Done

  fell_move : (s : Going) (q : Instance) → map.get s.state.made s.active ≡ Some q → dies_at holder (effect_of d q) ≡ true → after_move d t (fell holder) s ≡ Some (fallen s.state s.active q holder)
  fell_move s q is dies = ap (λ o. at_instance o (λ z. move_by t s.state s.active z (effect_of d z) (fell holder))) is ∙ ap (λ b. if b then Some (fallen s.state s.active q holder) else None) dies

  pub fell_so : (n : ℕ) (s : Going) (q : Instance) (r : PlainState) → map.get s.state.made s.active ≡ Some q → falls_there n s q ≡ Some r → Fell n s r
  fell_so n s q r is h = by_test (dies_at holder (effect_of d q)) refl h
    where
      by_fault : (o : Option IntentId) (e : Effect) → holder ≡ o → effect_of d q ≡ e → fault_by t s.state s.active q o e ≡ Some r → Fell n s r
      by_fault None (Effect.End b) none so g =
          let e = closed_so d t false s q r (Effect.End b) g in
          record { since = []; last = s; leads = refl; falls = none; few = omega arith; ends = record { owner = e.1; stands = record { instance = q; made = is; effect = so ∙ e.0 } }; is = e.2 }
      by_fault None e none so g = cc
      by_fault (Some u) e none so g = cc

      by_test : (b : Bool) → dies_at holder (effect_of d q) ≡ b → (if b then ends_on d n t false (fallen s.state s.active q holder) else fault_by t s.state s.active q holder (effect_of d q)) ≡ Some r → Fell n s r
      by_test true dies g =
          let w = ended_so d t false n (fallen s.state s.active q holder) r g in
          record {
            since = fell holder ∷ w.moves;
            last = w.last;
            leads = (fallen s.state s.active q holder, fell_move s q is dies, w.leads);
            falls = (refl, w.plainly);
            few = let k = w.few in omega (arith, k);
            ends = w.ends;
            is = w.is;
          }
      by_test false dies g = by_fault holder (effect_of d q) refl refl g

  -- .. and the other way
  end_lives : (o : Option IntentId) (b : Bool) → dies_at o (Effect.End b) ≡ false
  end_lives None b = refl
  end_lives (Some h) b = refl

  pub falls_so : (n : ℕ) (s : Going) (q : Instance) (r : PlainState) → map.get s.state.made s.active ≡ Some q → Fell n s r → falls_there n s q ≡ Some r
  falls_so n s q r is h = by_since h.since h.leads h.falls h.few
    where
      by_since : (since : List Move) → Leads d t s since h.last → FallsSo holder since → length since ≤ n → falls_there n s q ≡ Some r
      by_since [] leads none few =
          let at = subst (λ z. AtEnd d t.intent z false) (sym leads) h.ends in
          let here : h.ends.stands.instance ≡ q = same_some (sym h.ends.stands.made ∙ ap (λ (z : Going). map.get z.state.made z.active) (sym leads) ∙ is) in
          let so : effect_of d q ≡ Effect.End false = ap (effect_of d) (sym here) ∙ h.ends.stands.effect in
          ap (falls_by (ends_on d n t false) t s.state s.active q holder) so
          ∙ ap (λ b. if b then ends_on d n t false (fallen s.state s.active q holder) else fault_by t s.state s.active q holder (Effect.End false)) (end_lives holder false)
          ∙ ap (λ o. fault_by t s.state s.active q o (Effect.End false)) none
          ∙ ap (close_by t false s.state s.active q) (sym so)
          ∙ closes_so d t false s (record { owner = at.owner; stands = record { instance = q; made = is; effect = so } }) n
          ∙ ap (λ (z : PlainState). Some (gives z t.intent q Answer.Done)) (ap (λ (z : Going). z.state) leads)
          ∙ ap (λ z. Some (gives h.last.state t.intent z Answer.Done)) (sym here) ∙ ap (λ z. Some z) (sym h.is)
      by_since (m ∷ ms) leads falls few = by_dies (dies_at holder (effect_of d q)) refl
        where
          step : after_move d t (fell holder) s ≡ Some leads.0
          step = ap (λ z. after_move d t z s) (sym falls.0) ∙ leads.1

          by_dies : (b : Bool) → dies_at holder (effect_of d q) ≡ b → (if b then ends_on d n t false (fallen s.state s.active q holder) else fault_by t s.state s.active q holder (effect_of d q)) ≡ Some r
          by_dies false lives = let c = sym (ap (λ o. at_instance o (λ z. move_by t s.state s.active z (effect_of d z) (fell holder))) is ∙ ap (λ b. if b then Some (fallen s.state s.active q holder) else None) lives) ∙ step in cc
          by_dies true dies =
              let same : fallen s.state s.active q holder ≡ leads.0 = same_some (sym (fell_move s q is dies) ∙ step) in
              ap (ends_on d n t false) same ∙ ends_so d t false n leads.0 r (record { moves = ms; last = h.last; leads = leads.2; plainly = falls.1; few = omega (arith, few); ends = h.ends; is = h.is })

  -- a state that is not at the place
  pub record Tried (n : ℕ) (s : Going) (r : PlainState) : Type 0 where
    pub before : List Move
    pub there : Going
    pub to : Leads d t s before there
    pub plainly : AllPlain before
    pub first : NotBefore d t place s before
    pub stands : is_there place there ≡ true
    pub left : ℕ
    pub fuel : left + suc (length before) ≡ n
    pub fell : Fell left there r

  not_there : (s : Going) (q : Instance) → map.get s.state.made s.active ≡ Some q → is_there place s ≡ stands_at place s.active q
  not_there s q is = ap (stands_there place s) is

  nobody_there : (s : Going) → map.get s.state.made s.active ≡ None → is_there place s ≡ false
  nobody_there s is = ap (stands_there place s) is

  abbrev GoesThere : Going → List Move → Type 0
  GoesThere s moves = GoesBy d t (λ k z. abort_on d k t place holder z) stops_there falls_there (λ z. refl) abort_nobody abort_steps s moves

  not_before : (s : Going) (moves : List Move) → GoesThere s moves → NotBefore d t place s moves
  not_before s [] goes = tt
  not_before s (m ∷ ms) goes = (by_front (map.get s.state.made s.active) refl, λ r so. not_before r ms (goes.1 r so))
    where
      by_front : (o : Option Instance) → map.get s.state.made s.active ≡ o → is_there place s ≡ false
      by_front None is = nobody_there s is
      by_front (Some q) is = not_there s q is ∙ goes.0 q is

  goes_there : (s : Going) (moves : List Move) → NotBefore d t place s moves → GoesThere s moves
  goes_there s [] first = tt
  goes_there s (m ∷ ms) first = (λ q is. sym (not_there s q is) ∙ first.0, λ r so. goes_there r ms (first.1 r so))

  pub tried_so : (n : ℕ) (s : Going) (r : PlainState) → abort_on d n t place holder s ≡ Some r → Tried n s r
  tried_so n s r h =
      let w = went d t (λ k z. abort_on d k t place holder z) stops_there falls_there (λ z. refl) abort_nobody abort_steps n s r h in
      record {
        before = w.moves;
        there = w.to;
        to = w.leads;
        plainly = w.plainly;
        first = not_before s w.moves w.goes;
        stands = not_there w.to w.instance w.made ∙ w.stopped;
        left = w.left;
        fuel = w.fuel;
        fell = fell_so w.left w.to w.instance r w.made w.came;
      }

  -- who stands at a place was made
  pub stander : (s : Going) → is_there place s ≡ true → (q : Instance) × (map.get s.state.made s.active ≡ Some q)
  stander s h = by_front (map.get s.state.made s.active) refl h
    where
      by_front : (o : Option Instance) → map.get s.state.made s.active ≡ o → stands_there place s o ≡ true → (q : Instance) × (map.get s.state.made s.active ≡ Some q)
      by_front None is g = cc
      by_front (Some q) is g = (q, is)

  pub abort_so : (n : ℕ) (s : Going) (r : PlainState) → Tried n s r → abort_on d n t place holder s ≡ Some r
  abort_so n s r h =
      let q = stander h.there h.stands in
      led d t (λ k z. abort_on d k t place holder z) stops_there falls_there (λ z. refl) abort_nobody abort_steps h.before n h.left s h.there q.0 r h.to h.plainly (goes_there s h.before h.first) h.fuel q.1
      (sym (not_there h.there q.0 q.1) ∙ h.stands) (falls_so h.left h.there q.0 r q.1 h.fell)

module _ (d : Deployment) (id : IntentId) (place : Place) (holder : Option IntentId) where
  abbrev tries : PlainState → Instance → Option PlainState
  tries p q = if is_holder p id holder then option_and_then (with_answers p id) (abort_on d enough (tx_begun id q) place holder (opened p id q)) else None

  abort_begins : (p : PlainState) (q : Instance) (e : Effect) (r : PlainState) → abort_from d p id place holder q e ≡ Some r → (e ≡ Effect.Begin) × (tries p q ≡ Some r)
  abort_begins p q Effect.Begin r h = (refl, h)
  abort_begins p q e r h = cc

  answers_of : (p s : PlainState) (q : Instance) → map.get s.made id ≡ Some q → with_answers p id s ≡ Some (with_instance p id q)
  answers_of p s q is = ap (λ o. at_instance o (λ z. Some (with_instance p id z))) is

  pub aborts : (p r : PlainState) → after d p (AbortedTx id place holder) ≡ Some r → Aborts d p id place holder r
  aborts p r h =
      let c = can_step_is (map.get p.made id) (is_waiting d p id) (λ q. abort_from d p id place holder q (effect_of d q)) r h in
      let b = abort_begins p c.instance (effect_of d c.instance) r c.gives_it in
      let o = if_some (is_holder p id holder) (option_and_then (with_answers p id) (abort_on d enough (tx_begun id c.instance) place holder (opened p id c.instance))) r b.1 in
      let t = some_of (abort_on d enough (tx_begun id c.instance) place holder (opened p id c.instance)) (with_answers p id) r o.1 in
      let w = tried_so d (tx_begun id c.instance) place holder enough (opened p id c.instance) t.0 t.1 in
      let f = w.fell in
      let last = answered f.ends.stands.instance Answer.Done in
      let there : map.get t.0.made id ≡ Some last = ap (λ (z : PlainState). map.get z.made id) f.is ∙ here f.last.state.made id last in
      record {
        instance = c.instance;
        before = w.before;
        there = w.there;
        runs = record { made = c.made; open_still = c.open_still; begins = b.0; leads = w.to };
        plainly = w.plainly;
        first = w.first;
        stands = w.stands;
        older = o.0;
        since = f.since;
        last = f.last;
        leads = f.leads;
        falls = f.falls;
        ends = f.ends;
        is = same_some (sym t.2 ∙ answers_of p t.0 last there);
      }

  pub aborted_so : (p r : PlainState) → Aborts d p id place holder r → after d p (AbortedTx id place holder) ≡ Some r
  aborted_so p r h =
      let q = h.instance in
      let t = tx_begun id q in
      let last = answered h.ends.stands.instance Answer.Done in
      let all : Runs d p id q (h.before ++ h.since) h.last = record { made = h.runs.made; open_still = h.runs.open_still; begins = h.runs.begins; leads = all_moves d t (opened p id q) h.there h.last h.before h.since h.runs.leads h.leads } in
      let few = few_moves d p id q (h.before ++ h.since) h.last all in
      let n = length-append h.before h.since in
      let l = left_of (suc (length h.before)) enough (omega (arith, few, n)) in
      starts_so d id p q (λ z. abort_from d p id place holder z (effect_of d z)) h.runs.made h.runs.open_still h.runs.begins ∙ ap (abort_from d p id place holder q) h.runs.begins
      ∙ ap (λ b. if b then option_and_then (with_answers p id) (abort_on d enough t place holder (opened p id q)) else None) h.older
      ∙ ap (option_and_then (with_answers p id)) (abort_so d t place holder enough (opened p id q) (gives h.last.state id h.ends.stands.instance Answer.Done) (record {
        before = h.before;
        there = h.there;
        to = h.runs.leads;
        plainly = h.plainly;
        first = h.first;
        stands = h.stands;
        left = l.0;
        fuel = l.1;
        fell = record { since = h.since; last = h.last; leads = h.leads; falls = h.falls; few = let k = l.1 in omega (arith, k, few, n); ends = h.ends; is = refl };
      }))
      ∙ answers_of p (gives h.last.state id h.ends.stands.instance Answer.Done) last (here h.last.state.made id last) ∙ ap (λ z. Some z) (sym h.is)

pub transactions_are_moves : TransactionsAreMoves
transactions_are_moves = record { commits = λ d p id. commits d id p; committed = λ d p id. committed d id p; aborts = λ d p id place holder. aborts d id place holder p; aborted = λ d p id place holder. aborted_so d id place holder p }
