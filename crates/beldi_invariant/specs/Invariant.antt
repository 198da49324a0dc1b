-- The invariant, which every event keeps of the host and its rows.
use Rattle.std.specs.Prelude.{ℕ, nat_lt, nat_le, true, false, List, length, Option, Some, None, is_some, IsTrue, ◌≡◌, ◌≤◌, ◌&&◌, ◌++◌, [], Bool}
use Rattle.std.specs.{FinMap.FinMap, Ordering.nat_cmp}
use Rattle.std.specs.FinMap as map
use Rattle.beldi_value.specs.{Id.has_callees, Id.has_no_hops, Id.child_of, declared.id.IntentId.IntentId, declared.place.Caller.Caller, declared.value.Value.Value}
use Rattle.beldi_tree.specs.declared.deployment.Deployment.{Deployment}
use Rattle.beldi_lang.specs.{declared.effect.Answer.Answer, declared.effect.Effect.Effect, declared.effect.Effect.TheVariants.Read, declared.effect.Effect.TheVariants.Call, declared.effect.Effect.TheVariants.Async, declared.effect.Effect.TheVariants.End, declared.effect.Effect.TheVariants.Return, Machine.IsAt, declared.machine.Machine.Machine}
use Rattle.beldi_book.specs.{declared.entry.Entry.Entry, LinearOrder.count_changes, LinearOrder.linear, LinearOrder.VersionsBounded}
use Rattle.beldi_plain.specs.{Item.Item, Plain.AllShort, Plain.Instance, Plain.PlainState, Plain.nothing, Plain.value_at, Guard.IsGuarded, Holds.holds, Operation.op_of, Operation.touched, Legal.run_of}
use Rattle.beldi_plain_laws.specs.{PlainLaws.IsStateAt, Txs.along, Txs.effect_after}
use Rattle.beldi_row.specs.{declared.row.Body.Body, Table.Rows}
use Rattle.beldi_chain.specs.Chain.{chain}
use Rattle.beldi_links.specs.Links.{ReadsAt}
use Rattle.beldi_daal.specs.Cell.{cell_key}
use Rattle.beldi_intent.specs.Intent.{root_key}
use Rattle.beldi_txn.specs.{declared.end.EndAt.EndAt, declared.end.EndAt.TheVariants.Decide, TxTurn.Fits, Visited.Visited}
use Rattle.beldi_call.specs.declared.{async_call.AsyncAt.AsyncAt, call.CallAt.CallAt}
use Rattle.beldi_step.specs.{declared.run.Run.Run, declared.run.RunAt.TheVariants.Looks, declared.run.RunAt.TheVariants.Registers, declared.run.RunAt.TheVariants.Begins, declared.run.RunTx.RunTx, declared.run.RunTx.TheVariants.Own, Run.cell_op, Run.is_waited, Run.open_after, Run.place_of, Run.end_mark, Run.inherited_tx, declared.run.Begun.Begun, declared.run.Stage.Stage, HostStep.Core, HostStep.most_runs}
use Rattle.beldi_step.specs.declared.run.RunAt as standing
use Rattle.beldi_histories.specs.{RowMatching.IsBodyOf, Histories.Histories, Matches.Matches, Matches.LocksAreAheadAtEnds, WellFormedHistories.WellFormedHistories, Stands.key_in, Extends.Extends, InsideLaws.HoldersInsideAreMade, Listed.listed, Shadows.Shadows}
use Rattle.beldi_invariant.specs.FoundInside.{InItem, Released, SeesPut, end_walk, OwnedAreUnmarked, OwnersCallNobody, OwnersHaveNotEnded, ParticipantsAreReleased, ParticipantsHaveRows}

-- ---- where a run stands
-- what a run is in after these answers: the transaction that it was called in, or its own one, with what was aborted in it
abbrev pub open_of : Deployment → Instance → List Answer → Option RunTx
open_of d q given = along (λ ts a o. open_after (length ts) (effect_after d q ts) a o) [] given (inherited_tx q.enclosing)

-- a run of an intent, of a function, with this caller, machine and open transaction
pub record StandsAt (d : Deployment) (histories : Histories) (id : IntentId) (home : ℕ) (c : Option Caller) (s : Machine) (o : Option RunTx) : Type 0 where
  -- its instance is known, and has its function
  pub instance : Instance
  pub made : map.get histories id ≡ Some instance
  pub func : instance.func ≡ home
  pub caller : c ≡ instance.parent
  -- what it was answered is how the known answers begin
  pub answers : List Answer
  pub later : List Answer
  pub run_answers : answers ++ later ≡ instance.answers
  -- its machine stands where these answers lead
  pub machine : IsAt d home instance.args (is_some instance.enclosing) s answers
  pub run_open : o ≡ open_of d instance answers

abbrev pub Knows : Deployment → Histories → Run → Begun → Type 0
Knows d histories r g = StandsAt d histories r.id r.func g.caller g.machine g.tx

-- where a read belongs after the first `version` changes: there its instance had these answers, and the item had this value and
-- was not locked by another
pub record WasThere (d : Deployment) (book : List Entry) (id : IntentId) (answers : List Answer) (x : Item) (v : Value) (version : ℕ) : Type 0 where
  pub state : PlainState
  pub is_state : IsStateAt d book version state
  pub instance : Instance
  pub made : map.get state.made id ≡ Some instance
  pub same : instance.answers ≡ answers
  pub value : value_at state x ≡ v
  pub unlocked : (j : IntentId) → holds d x (map.get state.made j) ≡ true → j ≡ id

-- a run that is to keep a value: where its instance was not answered since, the read belongs where the value was found
pub record Keeps (d : Deployment) (book : List Entry) (id : IntentId) (answers later : List Answer) (x : Item) (v : Value) (version : ℕ) : Type 0 where
  pub few : version ≤ count_changes book
  pub was_there : later ≡ [] → WasThere d book id answers x v version

-- an end is past its decision
abbrev pub is_past : EndAt → Bool
is_past Decide = false
is_past a = true

-- a call was opened
abbrev pub is_opened : CallAt → Bool
is_opened CallAt.Open = false
is_opened CallAt.Look = true

-- .. that nobody waits for
abbrev pub is_sent : AsyncAt → Bool
is_sent AsyncAt.Open = false
is_sent a = true

-- ---- what a run knows and has found in the rows, at each stage of its effect
module _ {d : Deployment} (m : Rows) (p : PlainState) (book : List Entry) {histories : Histories} {id : IntentId} {home : ℕ} {c : Option Caller} {s : Machine} {o : Option RunTx} (k : StandsAt d histories id home c s o) where
  abbrev pub AtStage : Stage → Effect → Option RunTx → Type 0
  -- outside a transaction: what a walk sees of the rows, and, where a value is to be kept, where its read belongs
  AtStage Stage.Ask (Read t x) None = Unit {0}
  AtStage (Stage.Walk r) (Read t x) None = ReadsAt (chain m (cell_key home t x)) r
  AtStage (Stage.Keep v version) (Read t x) None = Keeps d book id k.answers k.later (record { func = home; table = t; key = x }) v version
  AtStage (Stage.Write at) e None = (is_some (op_of e) ≡ true) × SeesPut m home (place_of id s.steps) at (cell_op e)
  -- what it opened is known
  AtStage (Stage.Async at) (Async f a) None = (has_callees id ≡ true) × (is_sent at ≡ true → is_some (map.get histories (child_of id s.steps)) ≡ true)
  AtStage (Stage.Call at) (Call f a) o = (has_callees id ≡ true) × (is_opened at ≡ true → is_some (map.get histories (child_of id s.steps)) ≡ true)
  -- an outcome that a caller waits for was given back before the end
  AtStage Stage.Back (Return u) o = is_waited c ≡ true
  AtStage Stage.Notify (Return u) None = is_waited c ≡ false
  AtStage Stage.Close (Return u) o = (is_some o ≡ true → is_waited c ≡ true) × (is_waited c ≡ true → is_some k.instance.outcome ≡ true)
  -- inside one: what the operation found, the mark of the decision, and what was visited
  AtStage (Stage.Tx a) e (Some o) = Fits e a × InItem d m p histories id home o s.steps e a (touched e)
  AtStage (Stage.Decide w) (End commit) (Some (Own o)) = w ≡ end_mark id s.steps o.cause commit
  AtStage (Stage.End v) (End commit) (Some (Own o)) = (is_past v.at ≡ true) × Visited (end_walk id home o s.steps commit v) m
  AtStage w e o = ⊥

  -- a run at a stage: past the ends of its transactions it owns nothing, and a callee's row was registered before it began
  pub record Inside (w : Stage) : Type 0 where
    pub here : AtStage w s.effect o
    pub released : Released d m histories id s.steps
    pub row : has_no_hops id.hops ≡ false → is_some (map.get m (key_in home id)) ≡ true

-- the body that a call gave a run is that of its instance, and of its function
pub record KnowsBody (histories : Histories) (r : Run) (b : Body) : Type 0 where
  pub body : IsBodyOf b (map.get histories r.id)
  pub func : b.func ≡ r.func
  pub callee : has_no_hops r.id.hops ≡ false

-- nothing else is known of a run before its first turn, and only one that has begun has found anything in the rows
abbrev pub KnowsAt : Deployment → Rows → PlainState → List Entry → Histories → Run → standing.RunAt → Type 0
KnowsAt d m p book histories r Looks = Unit {0}
KnowsAt d m p book histories r (Registers b) = KnowsBody histories r b
KnowsAt d m p book histories r (Begins g) = (k : Knows d histories r g) × Inside m p book k g.stage

-- the run of a number, if it is live, knows so much
abbrev pub RunAt : Deployment → Rows → PlainState → List Entry → Histories → Option Run → Type 0
RunAt d m p book histories None = Unit {0}
RunAt d m p book histories (Some r) = KnowsAt d m p book histories r r.at

-- the live runs
pub record RunsMatch (d : Deployment) (m : Rows) (p : PlainState) (book : List Entry) (histories : Histories) (live : FinMap nat_cmp Run) (last : ℕ) : Type 0 where
  -- their numbers were given
  pub numbers : (n : ℕ) → IsTrue (is_some (map.get live n)) → (1 ≤ n) × (n ≤ last)
  -- there are at most as many as may live
  pub few : map.len live ≤ most_runs
  -- each knows what a run knows
  pub runs : (n : ℕ) → RunAt d m p book histories (map.get live n)

-- ---- the invariant
pub record Invariant (d : Deployment) (c : Core) (m : Rows) : Type 0 where
  -- the book is legal, and this is its run
  pub bounded : VersionsBounded 0 c.book
  pub plain : PlainState
  pub legal : run_of d c.book ≡ Some plain
  pub guarded : IsGuarded d nothing (linear c.book)
  -- the history of each instance, inside transactions as well, and whose lock is ahead of its answer
  pub histories : Histories
  pub lock_ahead : IntentId → Bool
  pub extends : Extends d plain histories
  pub well_formed : WellFormedHistories d histories
  pub ahead_at_ends : LocksAreAheadAtEnds d histories lock_ahead
  -- ids are as short as ids are
  pub short : AllShort histories
  -- the rows stand for it
  pub rows : Matches d m histories lock_ahead
  pub values : (x : Item) → listed m x ≡ value_at plain x
  -- a root has its row exactly where its ticket was issued
  pub tickets : (t : ℕ) → is_some (map.get m (root_key t)) ≡ (nat_lt 0 t && nat_le t c.newest)
  -- shadows show what the open transactions see, and what a decided one owned is given back once, before its owner calls anybody or ends
  pub shadows : Shadows d m plain histories lock_ahead
  pub marks : OwnedAreUnmarked d m histories
  pub latest : OwnersCallNobody d m histories
  pub unended : OwnersHaveNotEnded d m histories
  -- each death has a holder that was made
  pub holders : HoldersInsideAreMade d plain histories
  -- who took part in a transaction has its row once it has its outcome, and has given back all once it has its finish
  pub seated : ParticipantsHaveRows m histories
  pub released : ParticipantsAreReleased d m histories
  -- each live run knows what the histories have, and has found what is in the rows
  pub runs : RunsMatch d m plain c.book histories c.runs c.last_run
