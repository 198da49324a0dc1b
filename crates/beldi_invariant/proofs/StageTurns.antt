-- The turns of a run: where it stands, and what each thing that a stage says leaves.
use Rattle.std.specs.Prelude.{is_some}
use Rattle.beldi_lang.specs.declared.effect.Effect.TheVariants.{Lock}
use Rattle.beldi_links.specs.Links.{At}
use Rattle.beldi_step.specs.Run.{callee_of}
use Rattle.beldi_invariant.proofs.Names.{Answer, Async, AtStage, Begins, Begun, Bool, ByTx, Call, Caller, CondWrite, Core, Deployment, Effect, End, Entry, Grown, Inherited, Inside, Instance, IntentId, IsAnswer, IsAt, IsOutside, IsTrue, Item, Histories, Knows, KnowsAt, List, Machine, Mark, None, OpenTx, Option, Outcome, Own, Owner, Place, PlainState, Prefix, Read, Released, Return, Invariant, Rows, Run, RunAt, RunTx, WellFormedHistory, StageOutput, SeesAt, Some, Stage, StandsAt, TxId, Unlock, Write, [], and_local, local_answer, ap, append-nil, append_assoc, arith, at, at_effect, at_next, at_stage, caller_in, cell_key, chain, content_of, effect_after, effect_before, effect_of, entry_of, false, first_stage, get_after, get_set, goes, goes_from, goes_to, going_now, has_callees, has_no_hops, id_exact, id_total, if◌then◌else◌, is_waited, key_in, last_stage, length, marked, advanced, none_by, open_after, open_of, outside_parts, over, own_tx, place_of, refl, run_on, run_on_prefix, run_local, same_some, slice_get, stands, subst, sym, take, take-append_seam, takes, takes_if, true, turned_by, tx_after, tx_at, tx_now, txs_after, unlocked_outside, walks_begin, wants, wants_answer, ℕ, ◌++◌, ◌∙◌, ◌∷◌, ◌≡◌, AsyncAt, CallAt, Wait}
use Rattle.beldi_invariant.proofs.Moves.{AfterTurn, SameRoots, Kept, Led, Stays, Entered, led_still, turned, KnowsCallee, quiet, entered}
use Rattle.beldi_invariant.proofs.{Cases.by_list, Shown.Shows, Shown.legal_well_formed, Lives.places_same, Lives.run_on as live_on, Lives.stands_still, OpenOf.called_in, OpenOf.open_begun, OpenOf.open_none, OpenOf.open_pushed, OpenOf.own_begin, Outside.outside_more, Outside.plain_here, Released.released_next, Released.released_on, Grown.grown_same, Grown.grown_moved, Grown.moved_more}
use Rattle.beldi_invariant.proofs.Names.map
use Rattle.beldi_invariant.proofs.Names.step

-- ---- where an effect begins is one of its stages, of which a run knows what it has to
module _ {d : Deployment} (n : Rows) (p : PlainState) (book : List Entry) {histories : Histories} {id : IntentId} {home : ℕ} {c : Option Caller} {s : Machine} {o : Option RunTx} (k : StandsAt d histories id home c s o) where
  first : {v w : Stage} (e : Effect) (z : Option RunTx) → Some v ≡ Some w → AtStage n p book k v e z → AtStage n p book k w e z
  first e z is = subst (λ w. AtStage n p book k w e z) (same_some is)

  by_hops : (v w : Stage) (e : Effect) (z : Option RunTx) → (has_callees id ≡ true → AtStage n p book k v e z) → (b : Bool) → has_callees id ≡ b → (if b then Some v else None) ≡ Some w → AtStage n p book k w e z
  by_hops v w e z knows b hops is = grind arith

  -- the walk of a write sees what it has to at the first row
  begins : (t : ℕ) (x : List ℕ) → (true ≡ true) × SeesAt (chain n (cell_key home t x)) (place_of id s.steps) (At.Try 0)
  begins t x = (refl, walks_begin (chain n (cell_key home t x)) (place_of id s.steps))

  -- a body returns in no transaction of its own, and in the one that it was called in to who waits
  pub first_stands : (e : Effect) (z : Option RunTx) (w : Stage) → (is_some z ≡ true → (u : Outcome) → e ≡ Return u → is_waited c ≡ true) → first_stage id c z s.steps e ≡ Some w → AtStage n p book k w e z
  first_stands (Read t x) None w waits is = first (Read t x) None is tt
  first_stands (Read t x) (Some a) w waits is = first (Read t x) (Some a) is (tt, record { begin = tt; asked = λ b. cc; locked = tt; sees = tt; found = λ q made same. tt })
  first_stands (Write t x v) None w waits is = first (Write t x v) None is (begins t x)
  first_stands (Write t x v) (Some a) w waits is = first (Write t x v) (Some a) is (tt, record { begin = refl; asked = λ b. cc; locked = tt; sees = tt; found = λ q made same. tt })
  first_stands (CondWrite t x r u v) None w waits is = first (CondWrite t x r u v) None is (begins t x)
  first_stands (CondWrite t x r u v) (Some a) w waits is = first (CondWrite t x r u v) (Some a) is (tt, record { begin = refl; asked = λ b. cc; locked = tt; sees = tt; found = λ q made same. tt })
  first_stands (Lock t x) None w waits is = first (Lock t x) None is (begins t x)
  first_stands (Unlock t x) None w waits is = first (Unlock t x) None is (begins t x)
  first_stands (Call f a) z w waits is = by_hops (Stage.Call CallAt.Open) w (Call f a) z (λ h. (h, λ b. cc)) (has_callees id) refl is
  first_stands (Async f a) None w waits is = by_hops (Stage.Async AsyncAt.Open) w (Async f a) None (λ h. (h, λ b. cc)) (has_callees id) refl is
  first_stands (End commit) (Some (Own y)) w waits is = first (End commit) (Some (Own y)) is refl
  first_stands (Return u) z w waits is = by_caller c refl is
    where
      outside : (y : Option RunTx) → (is_some y ≡ true → ⊥) → is_waited c ≡ false → AtStage n p book k Stage.Notify (Return u) y
      outside y none e = grind arith

      by_wait : (b : Bool) → is_waited c ≡ b → Some (if b then Stage.Back else Stage.Notify) ≡ Some w → AtStage n p book k w (Return u) z
      by_wait b e is = grind arith

      by_caller : (b : Option Caller) → c ≡ b → Some (last_stage b) ≡ Some w → AtStage n p book k w (Return u) z
      by_caller b from is = grind arith
  first_stands e z w waits is = cc

-- where a Begin is open no body returns
pub no_return : (d : Deployment) (q : Instance) (given : List Answer) (u : Outcome) → is_some (txs_after d q given).begun ≡ true → effect_after d q given ≡ Return u → ⊥
no_return d q given u begun is =
    let g = at d q given in
    let k = (going_now d q.func q.args (is_some q.enclosing) given g.going).standing (g.begun ∙ begun) (λ c e. let clash = sym is ∙ e in cc) in
    let clash = sym (ap (stands true) is) ∙ k in cc

-- ---- a machine stands after these answers of an instance, with what is open there
pub record MachineAt (d : Deployment) (func : ℕ) (j : Instance) (given : List Answer) (s : Machine × Option RunTx) : Type 0 where
  pub machine : IsAt d func j.args (is_some j.enclosing) s.0 given
  pub open_there : s.1 ≡ open_of d j given

-- an effect whose answer takes no turn wants one
wanted_local_steps : (id : IntentId) (n : ℕ) (e : Effect) (a : Answer) → local_answer id n e ≡ Some a → IsTrue (wants_answer e)
wanted_local_steps id n e a h = grind arith

module _ (d : Deployment) (func : ℕ) (j : Instance) (same : j.func ≡ func) where
  module _ (given : List Answer) (s : Machine × Option RunTx) (h : MachineAt d func j given s) where
    pub steps_there : s.0.steps ≡ length given
    steps_there = (at_effect d func j.args (is_some j.enclosing) s.0 given h.machine).1

    pub effect_there : s.0.effect ≡ effect_after d j given
    effect_there = (at_effect d func j.args (is_some j.enclosing) s.0 given h.machine).0 ∙ ap (λ f. wants d f j.args (is_some j.enclosing) given) (sym same)

    -- an answer more
    pub takes_there : (a : Answer) → IsTrue (wants_answer s.0.effect) → MachineAt d func j (given ++ a ∷ []) (takes d s.0 s.1 a)
    takes_there a wanted = record {
      machine = at_next d func j.args (is_some j.enclosing) s.0 given a wanted h.machine;
      open_there = (λ i. open_after (steps_there i) (effect_there i) a (h.open_there i)) ∙ sym (open_pushed d j given a);
    }

    once_there : (id : IntentId) → MachineAt d func j (run_local d id j given) (step.local_step d id s)
    once_there id = subst (λ ts. MachineAt d func j ts (step.local_step d id s)) (λ i. and_local given (local_answer id (steps_there i) (effect_there i))) (by_answer (local_answer id s.0.steps s.0.effect) refl)
      where
        by_answer : (o : Option Answer) → local_answer id s.0.steps s.0.effect ≡ o → MachineAt d func j (and_local given o) (takes_if d s.0 s.1 o)
        by_answer None e = h
        by_answer (Some a) e = takes_there a (wanted_local_steps id s.0.steps s.0.effect a e)

  -- past what takes no turn
  pub local_steps_there : (given : List Answer) (s : Machine × Option RunTx) (id : IntentId) → MachineAt d func j given s → MachineAt d func j (run_on d id j given) (step.local_steps d id s)
  local_steps_there given s id h = once_there (run_local d id j given) (step.local_step d id s) (once_there given s h id) id

-- ---- a run of an instance goes on from where its machine stands
module _ (d : Deployment) (book : List Entry) (n : Rows) (p : PlainState) (histories : Histories) (after : IntentId → Bool) (shows : Shows d n p histories after)
    (r : Run) (c : Option Caller) (j : Instance) (made : map.get histories r.id ≡ Some j) (func : j.func ≡ r.func) (caller : c ≡ j.parent) (row : has_no_hops r.id.hops ≡ false → is_some (map.get n (key_in r.func r.id)) ≡ true) where
  -- at the first stage of its effect it knows what it has to
  pub knows_first : (given later : List Answer) (s : Machine × Option RunTx) (w : Stage) → given ++ later ≡ j.answers → MachineAt d r.func j given s → Released d n histories r.id (length given) → first_stage r.id c s.1 s.0.steps s.0.effect ≡ Some w
      → let g : Begun = record { machine = s.0; caller = c; tx = s.1; stage = w } in RunAt d n p book histories (Some (record r { at = Begins g }))
  knows_first given later s w prefix h released is =
      let k : StandsAt d histories r.id r.func c s.0 s.1 = record { instance = j; made = made; func = func; caller = caller; answers = given; later = later; run_answers = prefix; machine = h.machine; run_open = h.open_there } in
      (k, record { here = first_stands n p book k s.0.effect s.1 w (λ inner u returns. waits u returns (open_of d j given) refl (ap is_some (sym h.open_there) ∙ inner)) is; released = subst (Released d n histories r.id) (sym (steps_there d r.func j func given s h)) released; row = row })
    where
      -- one's own begun body does not return, and who was called in one is waited for
      waits : (u : Outcome) → s.0.effect ≡ Return u → (o : Option RunTx) → open_of d j given ≡ o → is_some o ≡ true → is_waited c ≡ true
      waits u returns None e inner = cc
      waits u returns (Some (Own o)) e inner = absurd (no_return d j given u (ap is_some (open_begun d j given ∙ ap own_begin e)) (sym (effect_there d r.func j func given s h) ∙ returns))
      waits u returns (Some (Inherited t)) e inner = ap is_waited (caller ∙ (caller_in d histories shows.well_formed t r.id j made (called_in d j t given e)).parent)

  -- .. past what takes no turn
  pub knows_next : (given : List Answer) (s : Machine × Option RunTx) → Prefix given j → MachineAt d r.func j given s → Released d n histories r.id (length given) → (b : Option Mark) → RunAt d n p book histories (goes_to d r s c b).next
  knows_next given s prefix h released b =
      let more = run_on_prefix d r.id j (shows.well_formed.closed r.id j made) (shows.well_formed.each r.id j made) given prefix in
      let t = step.local_steps d r.id s in
      by_stage t (first_stage r.id c t.1 t.0.steps t.0.effect)
      (λ w is. knows_first (run_on d r.id j given) more.later t w more.all (local_steps_there d r.func j func given s r.id h)
      (released_on d n histories after shows.rows shows.well_formed r.id j made given more released) is)
    where
      by_stage : (t : Machine × Option RunTx) (o : Option Stage) → ((w : Stage) → o ≡ Some w → let g : Begun = record { machine = t.0; caller = c; tx = t.1; stage = w } in RunAt d n p book histories (Some (record r { at = Begins g }))) → RunAt d n p book histories (goes_from r t c b o).next
      by_stage t None knows = tt
      by_stage t (Some w) knows = knows w refl

-- ---- a run comes to the next effect of its machine, or is over
module _ (d : Deployment) (c : Core) (m n : Rows) (i : ℕ) (r : Run) (h : Invariant d c m) (live : map.get c.runs i ≡ Some r) (roots : SameRoots m n) where
  pub is_over : Stays h n → AfterTurn d h.plain c i r (over None) n
  is_over kept = quiet d c m n i r h live roots (over None) h.histories h.lock_ahead refl refl tt (λ e. cc) kept

  pub comes_to : (b : Option Mark) (more : List Entry) (q : PlainState) (next : Histories) (after : IntentId → Bool) (s : Machine × Option RunTx) (k : Option Caller) → more ≡ marked c.book r.id b → Led d c h.plain h.histories more q next → RunAt d n q more next (goes_to d r s k b).next → Kept h n q next after
      → AfterTurn d h.plain c i r (goes_to d r s k b) n
  comes_to b more q next after s k book leads run kept = let t = step.local_steps d r.id s in by_stage t (first_stage r.id k t.1 t.0.steps t.0.effect) run
    where
      by_stage : (t : Machine × Option RunTx) (o : Option Stage) → RunAt d n q more next (goes_from r t k b o).next → AfterTurn d h.plain c i r (goes_from r t k b o) n
      by_stage t None run = turned d c m n i r h live roots (over b) more q next after book leads (λ u e. cc) run (λ e. cc) kept
      by_stage t (Some w) run = turned d c m n i r h live roots (goes r (record { machine = t.0; caller = k; tx = t.1; stage = w }) b) more q next after book leads (λ u e. cc) run (λ e. cc) kept

  -- .. with no entry
  pub comes_quiet : (next : Histories) (after : IntentId → Bool) (s : Machine × Option RunTx) (k : Option Caller) → RunAt d n h.plain c.book next (goes_to d r s k None).next → Kept h n h.plain next after → AfterTurn d h.plain c i r (goes_to d r s k None) n
  comes_quiet next after s k = comes_to None c.book h.plain next after s k (sym (append-nil c.book)) (led_still h next)

  -- .. and a run of its callee may start
  pub comes_with : (s : Machine × Option RunTx) (k : Option Caller) → RunAt d n h.plain c.book h.histories (goes_to d r s k None).next → ((o : Run) → callee_of r ≡ Some o → KnowsAt d n h.plain c.book h.histories o o.at) → Stays h n → AfterTurn d h.plain c i r (record (goes_to d r s k None) { starts = true }) n
  comes_with s k run callee kept = let t = step.local_steps d r.id s in by_stage t (first_stage r.id k t.1 t.0.steps t.0.effect) run
    where
      by_stage : (t : Machine × Option RunTx) (o : Option Stage) → RunAt d n h.plain c.book h.histories (goes_from r t k None o).next → AfterTurn d h.plain c i r (record (goes_from r t k None o) { starts = true }) n
      by_stage t None run = quiet d c m n i r h live roots (record (over None) { starts = true }) h.histories h.lock_ahead refl refl run (λ e. callee) kept
      by_stage t (Some w) run = quiet d c m n i r h live roots (record (goes r (record { machine = t.0; caller = k; tx = t.1; stage = w }) None) { starts = true }) h.histories h.lock_ahead refl refl run (λ e. callee) kept

-- ---- where a run stands in its instance's answers
module _ {d : Deployment} {histories : Histories} {id : IntentId} {home : ℕ} {c : Option Caller} {s : Machine} {o : Option RunTx} (k : StandsAt d histories id home c s o) where
  -- its machine stands where its answers lead
  pub at_steps : s.steps ≡ length k.answers
  at_steps = (at_effect d home k.instance.args (is_some k.instance.enclosing) s k.answers k.machine).1

  pub front_here : take s.steps k.instance.answers ≡ k.answers
  front_here = ap (λ n. take n k.instance.answers) at_steps ∙ ap (take (length k.answers)) (sym k.run_answers) ∙ take-append_seam k.answers k.later

  -- its effect is the instance's, after the answers that the run was given
  pub wanted_here : effect_after d k.instance k.answers ≡ s.effect
  wanted_here = ap (λ f. wants d f k.instance.args (is_some k.instance.enclosing) k.answers) k.func ∙ sym (at_effect d home k.instance.args (is_some k.instance.enclosing) s k.answers k.machine).0

  -- .. at this step
  pub effect_here : effect_before d k.instance s.steps ≡ s.effect
  effect_here = ap (effect_after d k.instance) front_here ∙ wanted_here

  -- what the step was answered is the first answer that the run has still to be given
  pub answer_here : (later : List Answer) → k.later ≡ later → slice_get k.instance.answers s.steps ≡ slice_get later 0
  answer_here later e = ap (slice_get k.instance.answers) at_steps ∙ ap (λ xs. slice_get xs (length k.answers)) (sym k.run_answers) ∙ get_after k.answers k.later ∙ ap (λ xs. slice_get xs 0) e

  -- .. so they begin with it
  pub recorded_prefix : (a : Answer) (rest : List Answer) → k.later ≡ a ∷ rest → (k.answers ++ a ∷ []) ++ rest ≡ k.instance.answers
  recorded_prefix a rest left = append_assoc k.answers (a ∷ []) rest ∙ ap (λ ys. k.answers ++ ys) (sym left) ∙ k.run_answers

  -- where there is none, it is at the instance's next step
  pub all_here : k.later ≡ [] → k.answers ≡ k.instance.answers
  all_here e = sym (append-nil k.answers) ∙ ap (λ ys. k.answers ++ ys) (sym e) ∙ k.run_answers

  pub step_here : k.later ≡ [] → s.steps ≡ length k.instance.answers
  step_here e = at_steps ∙ ap length (all_here e)

  pub effect_next : k.later ≡ [] → effect_of d k.instance ≡ s.effect
  effect_next e = ap (effect_after d k.instance) (sym (all_here e)) ∙ wanted_here

  -- .. so the step is new, or was answered
  pub by_answer : {P : Type 0} → (k.later ≡ [] → P) → ((a : Answer) (rest : List Answer) → k.later ≡ a ∷ rest → P) → P
  by_answer new again = by_list k.later new again

  -- ---- it stands outside transactions, at an effect that is none of theirs
  module _ (out : tx_after d id k.instance k.answers ≡ None) where
    pub tx_step : tx_at d id k.instance s.steps ≡ None
    tx_step = ap (tx_after d id k.instance) front_here ∙ out

    pub outside_here : IsOutside d k.instance k.answers
    outside_here = (outside_parts d id k.instance k.answers out).0

    pub none_open : o ≡ None
    none_open = k.run_open ∙ open_none d id k.instance k.answers out

    pub outside_next : (a : Answer) → IsOutside d k.instance (k.answers ++ a ∷ [])
    outside_next a = outside_more d id k.instance k.answers outside_here (outside_parts d id k.instance k.answers out).1 a

    pub tx_next : k.later ≡ [] → tx_now d id k.instance ≡ None
    tx_next e = subst (λ ts. tx_after d id k.instance ts ≡ None) (all_here e) out

    pub outside_there : k.later ≡ [] → IsOutside d k.instance k.instance.answers
    outside_there e = (outside_parts d id k.instance k.instance.answers (tx_next e)).0

    pub outside_after : k.later ≡ [] → (a : Answer) → IsOutside d k.instance (k.instance.answers ++ a ∷ [])
    outside_after e a = subst (λ ts. IsOutside d k.instance (ts ++ a ∷ [])) (all_here e) (outside_next a)

-- an effect with an answer wants one
pub wants_it : (p : Place) (t : Option TxId) (e : Effect) (a : Answer) → IsAnswer p t e a → IsTrue (wants_answer e)
wants_it p t e a is = grind arith

-- ---- its instance
module _ {d : Deployment} {b : Core} {m : Rows} (h : Invariant d b m) {id : IntentId} {home : ℕ} {c : Option Caller} {s : Machine} {o : Option RunTx} (k : StandsAt d h.histories id home c s o) where
  pub well_formed_instance : WellFormedHistory d id k.instance
  well_formed_instance = h.well_formed.each id k.instance k.made

  -- a step that is the instance's next has not returned
  pub not_over : k.later ≡ [] → IsTrue (wants_answer s.effect) → k.instance.outcome ≡ None
  not_over left wanted = none_by k.instance.outcome (λ u some. let clash = ap wants_answer (sym (well_formed_instance.over u some) ∙ effect_next k left) ∙ wanted in cc)

-- ---- what each thing that a stage says leaves
module _ (d : Deployment) (c : Core) (m : Rows) (i : ℕ) (r : Run) (g : Begun) (h : Invariant d c m) (live : map.get c.runs i ≡ Some r) (k : Knows d h.histories r g) where
  abbrev pub Leaves : StageOutput → Rows → Type 0
  Leaves s n = AfterTurn d h.plain c i r (turned_by d r g s) n

  -- past an end it owns nothing
  abbrev pub Freed : Rows → Type 0
  Freed n = (o : OpenTx) (commit : Bool) (x : Item) → g.tx ≡ Some (Own o) → g.machine.effect ≡ End commit → (content_of n x).owner ≡ Some (ByTx (own_tx r.id r.func o)) → ⊥

  -- where it stands it finds what it found
  stays_as : (n : Rows) → Stays h n → RunAt d n h.plain c.book h.histories (Some r)
  stays_as n kept = live_on d m n h.plain h.plain c.book c.book h.histories h.histories kept.grows (places_same d c.book h.histories h.histories) kept.others (Some r) (subst (RunAt d m h.plain c.book h.histories) live (h.runs.runs i))

  -- it waits where it stands: for an owner, or for a callee of which a run may be started
  pub held : (o : Owner) (n : Rows) → SameRoots m n → Stays h n → Leaves (StageOutput.Waits (Wait.Held o)) n
  held o n roots kept = quiet d c m n i r h live roots (turned_by d r g (StageOutput.Waits (Wait.Held o))) h.histories h.lock_ahead refl refl (stays_as n kept) (λ e. cc) kept

  -- .. or where no row can follow the last one of an item
  pub worn : (n : Rows) → SameRoots m n → Stays h n → Leaves (StageOutput.Waits Wait.Worn) n
  worn n roots kept = quiet d c m n i r h live roots (turned_by d r g (StageOutput.Waits Wait.Worn)) h.histories h.lock_ahead refl refl (stays_as n kept) (λ e. cc) kept

  pub awaits : (j : IntentId) (n : Rows) → SameRoots m n → Stays h n → KnowsCallee d n h.plain c.book h.histories r (turned_by d r g (StageOutput.Waits (Wait.Result j))) (Some (Wait.Result j)) → Leaves (StageOutput.Waits (Wait.Result j)) n
  awaits j n roots kept callee = quiet d c m n i r h live roots (turned_by d r g (StageOutput.Waits (Wait.Result j))) h.histories h.lock_ahead refl refl (stays_as n kept) callee kept

  -- the run is over
  pub ends : (n : Rows) → SameRoots m n → Stays h n → Leaves (StageOutput.Ends None None) n
  ends n roots kept = quiet d c m n i r h live roots (turned_by d r g (StageOutput.Ends None None)) h.histories h.lock_ahead refl refl tt (λ e. cc) kept

  -- ---- of a run that has found what it has to
  module _ (finds : Inside m h.plain c.book k g.stage) where
    -- it finds that still, when its instance has grown
    pub finds_still : (n : Rows) (q : PlainState) (next : Histories) (after : IntentId → Bool) → Kept h n q next after → (j : Instance) (made : map.get next r.id ≡ Some j) (w : Grown k.instance j) → Inside n q c.book (stands_still k j made w) g.stage
    finds_still n q next after kept = kept.others c.book (places_same d c.book h.histories next) r g k finds

    -- it stays where it is
    pub stays_on : (n : Rows) → SameRoots m n → Stays h n → Leaves StageOutput.Stays n
    stays_on n roots kept = quiet d c m n i r h live roots (goes r g None) h.histories h.lock_ahead refl refl (stands_still k k.instance k.made (grown_same k.instance), finds_still n h.plain h.histories h.lock_ahead kept k.instance k.made (grown_same k.instance)) (λ e. cc) kept

    -- it goes on from this answer, the next that is known of its instance
    takes_next : (more : List Entry) (n : Rows) (q : PlainState) (next : Histories) (after : IntentId → Bool) (j : Instance) (a : Answer) (rest : List Answer) (b : Option Mark) → Kept h n q next after → map.get next r.id ≡ Some j → Grown k.instance j → (k.answers ++ a ∷ []) ++ rest ≡ j.answers
        → IsTrue (wants_answer g.machine.effect) → Freed n → RunAt d n q more next (goes_to d r (takes d g.machine g.tx a) g.caller b).next
    takes_next more n q next after j a rest b kept made w prefix wanted freed =
        let at = stands_still k j made w in
        let still = finds_still n q next after kept j made w in
        let here : MachineAt d r.func j k.answers (g.machine, g.tx) = record { machine = at.machine; open_there = at.run_open } in
        knows_next d more n q next after kept.shows r g.caller j made at.func at.caller still.row (k.answers ++ a ∷ []) (takes d g.machine g.tx a) (record { later = rest; all = prefix })
        (takes_there d r.func j at.func k.answers (g.machine, g.tx) here a wanted)
        (released_next d n next after kept.shows.rows kept.shows.well_formed r.id j made k.answers a (record { later = rest; all = prefix })
        (subst (Released d n next r.id) (at_steps k) still.released)
        (λ o commit x e f owned. freed o commit x (here.open_there ∙ e) (effect_there d r.func j at.func k.answers (g.machine, g.tx) here ∙ f) (owned ∙ ap (λ f. Some (ByTx (own_tx r.id f o))) at.func))) b

    -- it has this answer, before or since this turn; no entry is made
    pub answers_on : (a : Answer) (rest : List Answer) (n : Rows) (next : Histories) (after : IntentId → Bool) (j : Instance) → SameRoots m n → Kept h n h.plain next after → map.get next r.id ≡ Some j → Grown k.instance j → (k.answers ++ a ∷ []) ++ rest ≡ j.answers
        → IsTrue (wants_answer g.machine.effect) → Freed n → Leaves (StageOutput.Answers a None) n
    answers_on a rest n next after j roots kept made w prefix wanted freed =
        comes_quiet d c m n i r h live roots next after (takes d g.machine g.tx a) g.caller (takes_next c.book n h.plain next after j a rest None kept made w prefix wanted freed) kept

    -- ---- it goes on to another stage of its effect, of which it knows what it has to
    module _ {e : Effect} {o : Option RunTx} (is : g.machine.effect ≡ e) (tx : g.tx ≡ o) (s : Stage) where
      pub at_other : (more : List Entry) (n : Rows) (q : PlainState) (next : Histories) (after : IntentId → Bool) (j : Instance) (made : map.get next r.id ≡ Some j) (w : Grown k.instance j) → Kept h n q next after → AtStage n q more (stands_still k j made w) s e o → RunAt d n q more next (Some (record r { at = Begins (at_stage g s) }))
      at_other more n q next after j made w kept knows =
          let still = finds_still n q next after kept j made w in
          (stands_still k j made w, record { here = subst {A = Effect × Option RunTx} (λ z. AtStage n q more (stands_still k j made w) s z.0 z.1) (λ i. (sym is i, sym tx i)) knows; released = still.released; row = still.row })

      -- .. where its instance stays as it is; a lock may be ahead that was not
      pub stands_at : (n : Rows) (after : IntentId → Bool) → Kept h n h.plain h.histories after → AtStage n h.plain c.book k s e o → RunAt d n h.plain c.book h.histories (Some (record r { at = Begins (at_stage g s) }))
      stands_at n after kept knows =
          let still = finds_still n h.plain h.histories after kept k.instance k.made (grown_same k.instance) in
          (k, record { here = subst {A = Effect × Option RunTx} (λ z. AtStage n h.plain c.book k s z.0 z.1) (λ i. (sym is i, sym tx i)) knows; released = still.released; row = still.row })

      pub stands_on : (n : Rows) (after : IntentId → Bool) → SameRoots m n → Kept h n h.plain h.histories after → AtStage n h.plain c.book k s e o → Leaves (StageOutput.On s None) n
      stands_on n after roots kept knows = quiet d c m n i r h live roots (goes r (at_stage g s) None) h.histories after refl refl (stands_at n after kept knows) (λ e. cc) kept

      -- .. the act made its entry
      pub enters_on : (by : Mark) (n : Rows) (q : PlainState) (next : Histories) (j : Instance) (made : map.get next r.id ≡ Some j) (w : Grown k.instance j) → SameRoots m n → Entered d c h.plain h.histories (entry_of r.id by) q next → Kept h n q next h.lock_ahead
          → AtStage n q (c.book ++ entry_of r.id by ∷ []) (stands_still k j made w) s e o → Leaves (StageOutput.On s (Some by)) n
      enters_on by n q next j made w roots leads kept knows =
          let more : List Entry = c.book ++ entry_of r.id by ∷ [] in
          entered d c m n i r h live roots (goes r (at_stage g s) (Some by)) by q next h.lock_ahead refl leads (λ u e. cc) (at_other more n q next h.lock_ahead j made w kept knows) (λ e. cc) kept

    -- ---- outside transactions, at this effect
    module _ (out : tx_after d r.id k.instance k.answers ≡ None) (e : Effect) (is : g.machine.effect ≡ e) where
      -- at the front the plain state has it
      pub plain_there : k.later ≡ [] → map.get h.plain.made r.id ≡ Some k.instance
      plain_there left = plain_here d h.plain h.histories h.extends r.id k.instance k.made (outside_here k out).0 (legal_well_formed h) (outside_there k out left).1

      -- and no lock of it is ahead
      pub unlocked_there : k.later ≡ [] → h.lock_ahead r.id ≡ false
      unlocked_there left = unlocked_outside d h.histories h.lock_ahead h.ahead_at_ends r.id k.instance k.made (tx_next k out left)

      -- another stage of its effect
      pub goes_on : (n : Rows) (s : Stage) → SameRoots m n → Stays h n → AtStage n h.plain c.book k s e None → Leaves (StageOutput.On s None) n
      goes_on n s roots kept knows = stands_on is (none_open k out) s n h.lock_ahead roots kept knows

      -- what the step was answered, where it was, is an answer to its effect
      pub fits : (a : Answer) (rest : List Answer) → k.later ≡ a ∷ rest → IsAnswer (place_of r.id g.machine.steps) None e a
      fits a rest left = subst (λ z. IsAnswer (place_of r.id g.machine.steps) None z a) is
          (subst (λ t. IsAnswer (place_of r.id g.machine.steps) t g.machine.effect a) (tx_step k out)
          (subst (λ z. IsAnswer (place_of r.id g.machine.steps) (tx_at d r.id k.instance g.machine.steps) z a) (effect_here k) ((well_formed_instance h k).past g.machine.steps a (answer_here k (a ∷ rest) left))))

      pub answers_it : (a : Answer) → IsAnswer (place_of r.id g.machine.steps) None e a → IsTrue (wants_answer g.machine.effect)
      answers_it a ok = subst (λ e. IsTrue (wants_answer e)) (sym is) (wants_it (place_of r.id g.machine.steps) None e a ok)

      -- there is nothing to own
      none_owned : (n : Rows) → Freed n
      none_owned n o commit x open_there ends owned = let clash = sym (none_open k out) ∙ open_there in cc

      -- it replays: the answer is the one that its instance has
      pub replays : (n : Rows) (a : Answer) (rest : List Answer) → SameRoots m n → Stays h n → k.later ≡ a ∷ rest → Leaves (StageOutput.Answers a None) n
      replays n a rest roots kept left = answers_on a rest n h.histories h.lock_ahead k.instance roots kept k.made (grown_same k.instance) (recorded_prefix k a rest left) (answers_it a (fits a rest left)) (none_owned n)

      -- .. and a run of its callee, which has its row, may start
      pub starts_one : (n : Rows) (a : Answer) (rest : List Answer) → SameRoots m n → Stays h n → k.later ≡ a ∷ rest → ((o : Run) → callee_of r ≡ Some o → KnowsAt d n h.plain c.book h.histories o o.at) → Leaves (StageOutput.Starts a) n
      starts_one n a rest roots kept left callee = comes_with d c m n i r h live roots (takes d g.machine g.tx a) g.caller
          (takes_next c.book n h.plain h.histories h.lock_ahead k.instance a rest None kept k.made (grown_same k.instance) (recorded_prefix k a rest left) (answers_it a (fits a rest left)) (none_owned n)) callee kept

      -- it steps on: the instance has the answer now
      pub steps_on : (a : Answer) (by : Mark) (q : PlainState) (n : Rows) → k.later ≡ [] → IsAnswer (place_of r.id g.machine.steps) None e a → let histories : Histories = map.insert h.histories r.id (advanced d r.id k.instance a) in Entered d c h.plain h.histories (entry_of r.id by) q histories → SameRoots m n → Kept h n q histories h.lock_ahead → Leaves (StageOutput.Answers a (Some by)) n
      steps_on a by q n left ok leads roots kept =
          let j = advanced d r.id k.instance a in
          let more = moved_more d r.id k.instance a in
          let next : Histories = map.insert h.histories r.id j in
          let more_book : List Entry = c.book ++ entry_of r.id by ∷ [] in
          comes_to d c m n i r h live roots (Some by) more_book q next h.lock_ahead (takes d g.machine g.tx a) g.caller refl leads
          (takes_next more_book n q next h.lock_ahead j a more.more (Some by) kept (get_set id_total id_exact h.histories r.id j) (grown_moved d r.id k.instance a)
          (ap (λ xs. (xs ++ a ∷ []) ++ more.more) (all_here k left) ∙ more.same) (answers_it a ok) (none_owned n)) kept
