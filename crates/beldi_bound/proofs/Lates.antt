-- A run and its turn: what two runs of one intent have alike, and where a turn leaves its run.
use Rattle.std.specs.FinMap as map
use Rattle.std.proofs.Common.{◌≡◌, ℕ, zero, suc, ◌+◌, ◌-◌, ◌^◌, ◌≤◌, Bool, true, false, not, ◌||◌, List, [], ◌∷◌, length, Option, Some, None, is_some, cond, if◌then◌else◌, refl, sym, ap, subst, ◌∙◌, arith}
use Rattle.std.specs.Prelude.{take}
use Rattle.std.proofs.lemmas.List.{length-append, take-append-le}
use Rattle.beldi_value.specs.{Id.has_callees, declared.id.IntentId.IntentId, declared.outcome.Outcome.Outcome, declared.place.Caller.Caller}
use Rattle.beldi_tree.specs.{Names.func_at, declared.deployment.Deployment.Deployment, declared.deployment.Func.Func}
use Rattle.beldi_lang.specs.{Machine.begun as machine_begun, Machine.gone_on, Machine.next_step, Machine.released, Machine.resumed, Machine.standing, BodyRuns.From, BodyRuns.Went, BodyRuns.leaves, BodyRuns.outcome_of, BodyRuns.run_body, BodyRuns.stops, declared.effect.Answer.Answer, declared.effect.Effect.Effect, declared.machine.Machine.Machine, declared.machine.MachinePhase.MachinePhase as MachineStage, declared.state.Frame.Frame, declared.state.HeldLock.HeldLock, declared.state.State.State}
use Rattle.beldi_book.specs.{LinearOrder.count_changes, declared.entry.Entry.Entry}
use Rattle.beldi_plain.specs.Plain.{Instance, PlainState, effect_before}
use Rattle.beldi_plain_laws.{proofs.Ends.fits_at, proofs.Maps.same_some, specs.Txs.effect_after, specs.Txs.txs_after}
use Rattle.beldi_row.{proofs.Gets.got, proofs.Gets.key_self, specs.Act.act, specs.Act.end_with, specs.Key.RowKey, specs.Table.Rows, specs.declared.act.Act.Act, specs.declared.row.Body.Body, specs.declared.row.IntentRow.IntentRow, specs.declared.row.Row.Row}
use Rattle.beldi_query.specs.{Query.QueryReply, Query.rows_after, Query.replied, Query.query_reply, declared.query.Query.Query}
use Rattle.beldi_readlog.specs.ReadLog.{given_of}
use Rattle.beldi_intent.specs.Intent.{body_told, intent_key}
use Rattle.beldi_call.specs.declared.{async_call.AsyncAt.AsyncAt, call.CallAt.CallAt}
use Rattle.beldi_histories.{proofs.Cases.by_option, proofs.Frame.begins, specs.Histories.Histories}
use Rattle.beldi_step.specs.{HostStep.Core, declared.run.Begun.Begun, declared.run.Mark.Mark, declared.run.OpenTx.OpenTx, declared.run.Run.Run, declared.run.RunAt.RunAt, declared.run.RunTx.RunTx, declared.run.StageOutput.StageOutput, declared.run.Stage.Stage, Run.local_answer, Run.ask_output, Run.asks_at, Run.local_steps, Run.at_stage, Run.begin_in, Run.body_registered, Run.close_asks, Run.first_stage, Run.goes_from, Run.goes_to, Run.is_inherited, Run.local_step, Run.run_asks, Run.stage_asks, Run.takes, Run.takes_if, Run.told_at, Run.turned_by, Run.inherited_tx}
use Rattle.beldi_invariant.specs.{Invariant.AtStage, Invariant.Inside, Invariant.Knows, Invariant.Invariant, Invariant.StandsAt, Invariant.open_of}
use Rattle.beldi_invariant.proofs.{OpenOf.open_begun, OpenOf.own_begin, StageTurns.at_steps, StageTurns.effect_here, StageTurns.front_here, StageTurns.wanted_here, Widths.answered_small}
use Rattle.beldi_upkeep.specs.Checked.{has_begun, is_close, next_output, next_turn}
use Rattle.beldi_bound.specs.{Ends.is_walk, SettleWork.has_ended, SettleWork.seat}
use Rattle.beldi_bound.proofs.Standing.{its_row}

-- ---- two runs of one intent
module _ {d : Deployment} {c : Core} {m : Rows} (h : Invariant d c m) (r s : Run) (g f : Begun) (k : Knows d h.histories r g) (l : Knows d h.histories s f) (ids : r.id ≡ s.id) where
  pub same_instance : k.instance ≡ l.instance
  same_instance = same_some (sym k.made ∙ ap (map.get h.histories) ids ∙ l.made)

  pub same_func : r.func ≡ s.func
  same_func = sym k.func ∙ ap (λ (q : Instance). q.func) same_instance ∙ l.func

  pub same_seat : seat r ≡ seat s
  same_seat = λ i. intent_key (ids i) (same_func i)

  -- at one step they stand at one effect, in one transaction
  module _ (steps : g.machine.steps ≡ f.machine.steps) where
    same_answers : k.answers ≡ l.answers
    same_answers = sym (front_here k) ∙ (λ i. take (steps i) (same_instance i).answers) ∙ front_here l

    pub same_effect : g.machine.effect ≡ f.machine.effect
    same_effect = sym (wanted_here k) ∙ (λ i. effect_after d (same_instance i) (same_answers i)) ∙ wanted_here l

    pub same_open : g.tx ≡ f.tx
    same_open = k.run_open ∙ (λ i. open_of d (same_instance i) (same_answers i)) ∙ sym l.run_open

  -- where the one's open transaction was begun the other stands at a Begin
  pub begin_here : (o : OpenTx) → g.tx ≡ Some (RunTx.Own o) → f.machine.steps ≡ o.begin → f.machine.effect ≡ Effect.Begin
  begin_here o open_there at =
      let q = k.instance in
      let begun : (txs_after d q k.answers).begun ≡ Some o.begin = open_begun d q k.answers ∙ ap own_begin (sym k.run_open ∙ open_there) in
      let there : effect_after d q (take o.begin k.answers) ≡ Effect.Begin = (begins d q k.answers).begun o.begin begun in
      let less = (fits_at d q k.answers).before o.begin begun in
      let whole : take o.begin q.answers ≡ take o.begin k.answers = ap (take o.begin) (sym k.run_answers) ∙ take-append-le o.begin k.answers k.later (omega (arith, less)) in
      sym (effect_here l) ∙ (λ i. effect_before d (sym same_instance i) (at i)) ∙ ap (effect_after d q) whole ∙ there

-- ---- steps
released_steps : (func n : ℕ) (o : Outcome) (s : State) (ls : List HeldLock) (rest : List Answer) → (released func n o s ls rest).steps ≡ n
released_steps func n o s [] rest = refl
released_steps func n o s (l ∷ ls) [] = refl
released_steps func n o s (l ∷ ls) (a ∷ rest) = released_steps func n o s ls rest

standing_steps : (func n : ℕ) (w : Went (List Frame)) → (standing func n w).steps ≡ n
standing_steps func n (stops e at s) = refl
standing_steps func n (leaves x s rest) = released_steps func n (outcome_of x) s s.held rest

resumed_steps : (d : Deployment) (m : Machine) (a : Answer) → (resumed d m a).steps ≡ next_step m.steps
resumed_steps d m a = by_stage m.stage
  where
    by_stage : (z : MachineStage) → (gone_on d m.func (next_step m.steps) m.effect m.state z a []).steps ≡ next_step m.steps
    by_stage (MachineStage.Running at) = standing_steps m.func (next_step m.steps) (run_body d (func_at d m.func) (From at a) m.state [])
    by_stage (MachineStage.Releasing o) = released_steps m.func (next_step m.steps) o m.state m.state.held []
    by_stage MachineStage.Returned = refl

next_one : (n k : ℕ) → k ≡ next_step n → n ≤ 30000 → (n + 1 ≤ k) × (k ≤ 2 ^ 32 - 1)
next_one n k is few = (omega (arith, is, few), omega (arith, is, few))

next_more : (n j k : ℕ) → k ≡ next_step j → n ≤ j → j ≤ 2 ^ 32 - 1 → (n ≤ k) × (k ≤ 2 ^ 32 - 1)
next_more n j k is le most = (omega (arith, is, le, most), omega (arith, is, le, most))

once_steps : (d : Deployment) (id : IntentId) (s : Machine × Option RunTx) (n : ℕ) → n ≤ s.0.steps → s.0.steps ≤ 2 ^ 32 - 1 → (n ≤ (local_step d id s).0.steps) × ((local_step d id s).0.steps ≤ 2 ^ 32 - 1)
once_steps d id s n le most = by_answer (local_answer id s.0.steps s.0.effect)
  where
    by_answer : (o : Option Answer) → (n ≤ (takes_if d s.0 s.1 o).0.steps) × ((takes_if d s.0 s.1 o).0.steps ≤ 2 ^ 32 - 1)
    by_answer None = (le, most)
    by_answer (Some a) = next_more n s.0.steps (resumed d s.0 a).steps (resumed_steps d s.0 a) le most

local_steps_steps : (d : Deployment) (id : IntentId) (s : Machine × Option RunTx) (n : ℕ) → n ≤ s.0.steps → s.0.steps ≤ 2 ^ 32 - 1 → n ≤ (local_steps d id s).0.steps
local_steps_steps d id s n le most = let one = once_steps d id s n le most in (once_steps d id (local_step d id s) n one.0 one.1).0

-- an answer makes one step more
pub answers_go : (d : Deployment) (id : IntentId) (g : Begun) (a : Answer) → g.machine.steps ≤ 30000 → g.machine.steps + 1 ≤ (local_steps d id (takes d g.machine g.tx a)).0.steps
answers_go d id g a few = let one = next_one g.machine.steps (resumed d g.machine a).steps (resumed_steps d g.machine a) few in local_steps_steps d id (takes d g.machine g.tx a) (g.machine.steps + 1) one.0 one.1

-- a live run was not answered more than so often
pub few_steps : {d : Deployment} {c : Core} {m : Rows} (h : Invariant d c m) (r : Run) (g : Begun) → Knows d h.histories r g → g.machine.steps ≤ 30000
few_steps {d} h r g k = by_steps g.machine.steps (at_steps k)
  where
    by_steps : (n : ℕ) → n ≡ length k.answers → n ≤ 30000
    by_steps zero is = omega arith
    by_steps (suc n) is =
        let all = ap length k.run_answers in
        let long = length-append k.answers k.later in
        let small = answered_small d r.id k.instance n (h.well_formed.each r.id k.instance k.made) (omega (arith, is, all, long)) in
        omega (arith, small)

-- ---- a turn
pub turn_is : (d : Deployment) (c : Core) (m : Rows) (r : Run) (g : Begun) → r.at ≡ RunAt.Begins g → next_turn d c m r ≡ turned_by d r g (next_output c m r g)
turn_is d c m r g at = ap (λ z. told_at d (count_changes c.book) r z (query_reply (asks_at r z) c.now m)) at

-- it answers the effect
abbrev pub is_answer : StageOutput → Bool
is_answer (StageOutput.Answers a m) = true
is_answer (StageOutput.Starts a) = true
is_answer x = false

none_some : {s : Run} → None ≡ Some s → ⊥
none_some h = cc

same_begun : {g f : Begun} → RunAt.Begins g ≡ RunAt.Begins f → g ≡ f
same_begun h = cc

-- the run goes on, with so many steps at least
pub record GoesFrom (r : Run) (n : ℕ) (s : Run) : Type 0 where
  pub id : s.id ≡ r.id
  pub func : s.func ≡ r.func
  pub deadline : s.deadline ≡ r.deadline
  pub begun : Begun
  pub at : s.at ≡ RunAt.Begins begun
  pub further : n ≤ begun.machine.steps

goes_so : (r : Run) (n : ℕ) (g : Begun) (s : Run) → n ≤ g.machine.steps → Some (record r { at = RunAt.Begins g }) ≡ Some s → GoesFrom r n s
goes_so r n g s le is = subst (GoesFrom r n) (same_some is) (record { id = refl; func = refl; deadline = refl; begun = g; at = refl; further = le })

comes_so : (r : Run) (n : ℕ) (z : Machine × Option RunTx) (c : Option Caller) (k : Option Mark) (w : Option Stage) (s : Run) → n ≤ z.0.steps → (goes_from r z c k w).next ≡ Some s → GoesFrom r n s
comes_so r n z c k None s le is = absurd (none_some is)
comes_so r n z c k (Some w) s le is = goes_so r n (record { machine = z.0; caller = c; tx = z.1; stage = w }) s le is

module _ (d : Deployment) (r : Run) (g : Begun) (at : r.at ≡ RunAt.Begins g) (few : g.machine.steps ≤ 30000) (s : Run) where
  comes_further : (a : Answer) (k : Option Mark) → (goes_to d r (takes d g.machine g.tx a) g.caller k).next ≡ Some s → GoesFrom r (g.machine.steps + 1) s
  comes_further a k is = let z = local_steps d r.id (takes d g.machine g.tx a) in comes_so r (g.machine.steps + 1) z g.caller k (first_stage r.id g.caller z.1 z.0.steps z.0.effect) s (answers_go d r.id g a few) is

  pub answer_goes : (x : StageOutput) → is_answer x ≡ true → (turned_by d r g x).next ≡ Some s → GoesFrom r (g.machine.steps + 1) s
  answer_goes (StageOutput.Answers a k) t is = comes_further a k is
  answer_goes (StageOutput.Starts a) t is = comes_further a None is
  answer_goes x t is = let clash = t in cc

  itself : Some r ≡ Some s → GoesFrom r g.machine.steps s
  itself is = subst (GoesFrom r g.machine.steps) (same_some is) (record { id = refl; func = refl; deadline = refl; begun = g; at = at; further = omega arith })

  less : GoesFrom r (g.machine.steps + 1) s → GoesFrom r g.machine.steps s
  less t = record { id = t.id; func = t.func; deadline = t.deadline; begun = t.begun; at = t.at; further = (let le = t.further in omega (arith, le)) }

  pub turn_goes : (x : StageOutput) → (turned_by d r g x).next ≡ Some s → GoesFrom r g.machine.steps s
  turn_goes (StageOutput.On w k) is = goes_so r g.machine.steps (at_stage g w) s (omega arith) is
  turn_goes StageOutput.Stays is = goes_so r g.machine.steps g s (omega arith) is
  turn_goes (StageOutput.Opens k) is = goes_so r g.machine.steps (at_stage g (Stage.Call CallAt.Look)) s (omega arith) is
  turn_goes (StageOutput.Waits w) is = itself is
  turn_goes (StageOutput.Starts a) is = less (comes_further a None is)
  turn_goes (StageOutput.Answers a k) is = less (comes_further a k is)
  turn_goes (StageOutput.Ends k o) is = absurd (none_some is)

-- ---- who stands at a look for its value after a turn stood there before, and was not answered
no_walk_of : (id : IntentId) (c : Option Caller) (o : Option RunTx) (step : ℕ) (e : Effect) (s : Stage) → first_stage id c o step e ≡ Some s → is_walk s ≡ true → ⊥
no_walk_of id c None step (Effect.Read t k) s h walks = cc
no_walk_of id c (Some o) step (Effect.Read t k) s h walks = cc
no_walk_of id c None step (Effect.Write t k v) s h walks = cc
no_walk_of id c (Some o) step (Effect.Write t k v) s h walks = cc
no_walk_of id c None step (Effect.CondWrite t k r u v) s h walks = cc
no_walk_of id c (Some o) step (Effect.CondWrite t k r u v) s h walks = cc
no_walk_of id c None step (Effect.Lock t k) s h walks = cc
no_walk_of id c (Some o) step (Effect.Lock t k) s h walks = cc
no_walk_of id c None step (Effect.Unlock t k) s h walks = cc
no_walk_of id c (Some o) step (Effect.Unlock t k) s h walks = cc
no_walk_of id c o step (Effect.Call f a) s h walks = by_test (has_callees id) h
  where
    by_test : (b : Bool) → (if b then Some (Stage.Call CallAt.Open) else None) ≡ Some s → ⊥
    by_test true h = cc
    by_test false h = cc
no_walk_of id c None step (Effect.Async f a) s h walks = by_test (has_callees id) h
  where
    by_test : (b : Bool) → (if b then Some (Stage.Async AsyncAt.Open) else None) ≡ Some s → ⊥
    by_test true h = cc
    by_test false h = cc
no_walk_of id c (Some o) step (Effect.Async f a) s h walks = cc
no_walk_of id c None step (Effect.End commit) s h walks = cc
no_walk_of id c (Some (RunTx.Own o)) step (Effect.End commit) s h walks = cc
no_walk_of id c (Some (RunTx.Inherited t)) step (Effect.End commit) s h walks = cc
no_walk_of id None o step (Effect.Return u) s h walks = cc
no_walk_of id (Some b) o step (Effect.Return u) s h walks = by_test b.waits h
  where
    by_test : (w : Bool) → Some (if w then Stage.Back else Stage.Notify) ≡ Some s → ⊥
    by_test true h = cc
    by_test false h = cc
no_walk_of id c o step e s h walks = cc

comes_no_walk : (r : Run) (z : Machine × Option RunTx) (c : Option Caller) (k : Option Mark) (w : Option Stage) (s : Run) (f : Begun) → ((x : Stage) → w ≡ Some x → is_walk x ≡ true → ⊥) → (goes_from r z c k w).next ≡ Some s → s.at ≡ RunAt.Begins f → is_walk f.stage ≡ true → ⊥
comes_no_walk r z c k None s f never is at walks = none_some is
comes_no_walk r z c k (Some w) s f never is at walks =
    let same : record { machine = z.0; caller = c; tx = z.1; stage = w } ≡ f = same_begun (ap (λ (x : Run). x.at) (same_some is) ∙ at) in
    never w refl (ap (λ (x : Begun). is_walk x.stage) same ∙ walks)

pub record StoodAt (g : Begun) (x : StageOutput) (f : Begun) : Type 0 where
  pub machine : f.machine ≡ g.machine
  pub tx : f.tx ≡ g.tx
  pub unanswered : is_answer x ≡ false

module _ (d : Deployment) (r : Run) (g : Begun) (at : r.at ≡ RunAt.Begins g) (s : Run) (f : Begun) (then_at : s.at ≡ RunAt.Begins f) (walks : is_walk f.stage ≡ true) where
  stood_so : (x : StageOutput) (w : Stage) → is_answer x ≡ false → Some (record r { at = RunAt.Begins (at_stage g w) }) ≡ Some s → StoodAt g x f
  stood_so x w un is =
      let same : f ≡ at_stage g w = sym (same_begun (ap (λ (z : Run). z.at) (same_some is) ∙ then_at)) in
      record { machine = ap (λ (z : Begun). z.machine) same; tx = ap (λ (z : Begun). z.tx) same; unanswered = un }

  stood_it : (x : StageOutput) → is_answer x ≡ false → Some r ≡ Some s → StoodAt g x f
  stood_it x un is =
      let same : f ≡ g = sym (same_begun (sym at ∙ ap (λ (z : Run). z.at) (same_some is) ∙ then_at)) in
      record { machine = ap (λ (z : Begun). z.machine) same; tx = ap (λ (z : Begun). z.tx) same; unanswered = un }

  stood_again : (x : StageOutput) → is_answer x ≡ false → Some (record r { at = RunAt.Begins g }) ≡ Some s → StoodAt g x f
  stood_again x un is =
      let same : f ≡ g = sym (same_begun (ap (λ (z : Run). z.at) (same_some is) ∙ then_at)) in
      record { machine = ap (λ (z : Begun). z.machine) same; tx = ap (λ (z : Begun). z.tx) same; unanswered = un }

  came_no_walk : (a : Answer) (k : Option Mark) → (goes_to d r (takes d g.machine g.tx a) g.caller k).next ≡ Some s → ⊥
  came_no_walk a k is = let z = local_steps d r.id (takes d g.machine g.tx a) in comes_no_walk r z g.caller k (first_stage r.id g.caller z.1 z.0.steps z.0.effect) s f (no_walk_of r.id g.caller z.1 z.0.steps z.0.effect) is then_at walks

  pub walk_stood : (x : StageOutput) → (turned_by d r g x).next ≡ Some s → StoodAt g x f
  walk_stood (StageOutput.On w k) is = stood_so (StageOutput.On w k) w refl is
  walk_stood StageOutput.Stays is = stood_again StageOutput.Stays refl is
  walk_stood (StageOutput.Opens k) is = stood_so (StageOutput.Opens k) (Stage.Call CallAt.Look) refl is
  walk_stood (StageOutput.Waits w) is = stood_it (StageOutput.Waits w) refl is
  walk_stood (StageOutput.Starts a) is = absurd (came_no_walk a None is)
  walk_stood (StageOutput.Answers a k) is = absurd (came_no_walk a k is)
  walk_stood (StageOutput.Ends k o) is = absurd (none_some is)

-- no body begins there
module _ (d : Deployment) (r s : Run) (f : Begun) (at : s.at ≡ RunAt.Begins f) (walks : is_walk f.stage ≡ true) where
  body_no_walk : (func : Option Func) (b : Option Body) → (begin_in d r func b).next ≡ Some s → ⊥
  body_no_walk func None is = none_some is
  body_no_walk None (Some b) is = none_some is
  body_no_walk (Some func) (Some b) is =
      let z = local_steps d r.id (machine_begun d r.func b.args (is_some b.tx), inherited_tx b.tx) in
      comes_no_walk r z b.parent None (first_stage r.id b.parent z.1 z.0.steps z.0.effect) s f (no_walk_of r.id b.parent z.1 z.0.steps z.0.effect) is at walks

  pub begin_no_walk : (changes : ℕ) (x : RunAt) (t : QueryReply) → has_begun x ≡ false → (told_at d changes r x t).next ≡ Some s → ⊥
  begin_no_walk changes RunAt.Looks t yet is = body_no_walk (func_at d r.func) (body_told r.func t) is
  begin_no_walk changes (RunAt.Registers b) t yet is = body_no_walk (func_at d r.func) (body_registered r.func b t) is
  begin_no_walk changes (RunAt.Begins g) t yet is = let clash = yet in cc

-- ---- stages
pub record IsRead (e : Effect) (z : Option RunTx) : Type 0 where
  pub table : ℕ
  pub key : List ℕ
  pub effect : e ≡ Effect.Read table key
  pub out : z ≡ None

module _ {d : Deployment} (m : Rows) (p : PlainState) (book : List Entry) {histories : Histories} {id : IntentId} {home : ℕ} {c : Option Caller} {s : Machine} {o : Option RunTx} (k : StandsAt d histories id home c s o) where
  -- who looks for its value is to read, outside a transaction
  pub walks_read : (w : Stage) (e : Effect) (z : Option RunTx) → is_walk w ≡ true → AtStage m p book k w e z → IsRead e z
  walks_read (Stage.Walk r) (Effect.Read t x) None is h = record { table = t; key = x; effect = refl; out = refl }
  walks_read (Stage.Walk r) e z is h = absurd h
  walks_read w e z is h = cc

  -- who closes returns
  pub closes_return : (e : Effect) (z : Option RunTx) → AtStage m p book k Stage.Close e z → (u : Outcome) × (e ≡ Effect.Return u)
  closes_return (Effect.Return u) z h = (u, refl)
  closes_return e z h = absurd h

-- a look for what was kept finds its row
pub told_there : (k : RowKey) (now : ℕ) (m : Rows) (v : Row) → map.get m k ≡ Some v → is_answer (ask_output (given_of (query_reply (Query.Act k Act.Look) now m))) ≡ true
told_there k now m v there = ap (λ o. is_answer (ask_output (given_of (replied (act Act.Look now o).1)))) there

-- ---- the turn of who closes leaves the row of its intent ended
end_ended : (u : Outcome) (b : Bool) (now : ℕ) (i : IntentRow) → has_ended (act (Act.End u b) now (Some (Row.Intent i))).0 ≡ true
end_ended u b now i = by_option i.outcome
    (λ none. ap (λ o. has_ended (Some (Row.Intent (end_with u b now i o).0))) none)
    (λ v some. ap (λ o. has_ended (Some (Row.Intent (end_with u b now i o).0))) some ∙ ap (λ o. is_some o || is_some i.finish) some)

close_row : (r : Run) (u : Outcome) (b : Bool) (now : ℕ) (m : Rows) (i : IntentRow) → map.get m (seat r) ≡ Some (Row.Intent i) → has_ended (map.get (rows_after (Query.Act (seat r) (Act.End u b)) now m) (seat r)) ≡ true
close_row r u b now m i there =
    let v = (act (Act.End u b) now (map.get m (seat r))).0 in
    ap has_ended (got m (seat r) (seat r) v ∙ ap (λ t. cond t v (map.get m (seat r))) (key_self (seat r))) ∙ ap (λ o. has_ended (act (Act.End u b) now o).0) there ∙ end_ended u b now i

pub close_ends : (d : Deployment) (c : Core) (m : Rows) (h : Invariant d c m) (r : Run) (g : Begun) (at : r.at ≡ RunAt.Begins g) (k : Knows d h.histories r g) → Inside m h.plain c.book k g.stage → is_close g.stage ≡ true → has_ended (map.get (rows_after (run_asks r) c.now m) (seat r)) ≡ true
close_ends d c m h r g at k inside close =
    let its = its_row d c m h r g k inside in
    let closes = is_it g.stage close in
    let u = closes_return m h.plain c.book k g.machine.effect g.tx (subst (λ w. AtStage m h.plain c.book k w g.machine.effect g.tx) closes inside.here) in
    let asks : run_asks r ≡ close_asks r.id r.func g.tx (Effect.Return u.0) = ap (asks_at r) at ∙ ap (λ w. stage_asks r.id r.func g.caller g.tx g.machine.steps g.machine.effect w) closes ∙ ap (λ e. close_asks r.id r.func g.tx e) u.1 in
    subst (λ q. has_ended (map.get (rows_after q c.now m) (seat r)) ≡ true) (sym asks) (close_row r u.0 (not (is_inherited g.tx)) c.now m its.row its.there)
  where
    is_it : (w : Stage) → is_close w ≡ true → w ≡ Stage.Close
    is_it Stage.Close h = refl
    is_it w h = let clash = h in cc
