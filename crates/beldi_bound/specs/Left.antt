-- What is left of the effect that a run stands in: how many turns it takes at most until the effect has its answer.
use Rattle.std.specs.Prelude.{◌≡◌, ℕ, suc, ◌+◌, ◌-◌, ◌*◌, ◌≤◌, Bool, true, false, is_some, Option, Some, None}
use Rattle.std.specs.FinMap as map
use Rattle.beldi_value.specs.{Id.has_callees, declared.id.IntentId.IntentId, declared.place.Caller.Caller, declared.place.Place.Place}
use Rattle.beldi_lang.specs.declared.effect.Effect.{Effect}
use Rattle.beldi_row.specs.{Log.note_at, Table.Rows, declared.notes.Note.Note}
use Rattle.beldi_query.specs.Query.{rows_after, query_reply}
use Rattle.beldi_chain.specs.Chain.{Chain, chain, content}
use Rattle.beldi_links.specs.Links.{IsLinked, ReadsAt, SeesAt}
use Rattle.beldi_daal.specs.{Cell.cell_key, Cell.shadow_key, Logged.at_of, declared.cell.WriteAt.WriteAt, declared.cell.WriteAt.TheVariants.Try}
use Rattle.beldi_lock.specs.declared.lock.LockAt.{LockAt}
use Rattle.beldi_invokelog.specs.InvokeLog.{invoke_key, call_at}
use Rattle.beldi_txn.specs.{End.first_visit, TxTurn.Fits, TxTurn.Sees, Visited.RowsStay, declared.end.EndAt.EndAt, declared.end.EndState.EndState, declared.tx.TxAt.TxAt}
use Rattle.beldi_call.specs.declared.{async_call.AsyncAt.AsyncAt, call.CallAt.CallAt}
use Rattle.beldi_step.specs.{Run.own_tx, Run.place_of, Run.stage_asks, Run.stage_output, Run.tx_at, Run.tx_of, declared.run.RunTx.RunTx, declared.run.RunTx.TheVariants.Own, declared.run.StageOutput.StageOutput, declared.run.Stage.Stage}
use Rattle.beldi_bound.specs.{Cost.aside_length, Cost.item_length, Visits.put_left, Visits.visit_left}

-- ---- walks over the rows of an item, by how many it has in the end, and whether its first row is there
abbrev pub read_left : ℕ → ℕ → ℕ
read_left c r = 2 + (c - 1 - r)

abbrev pub lock_left : ℕ → Bool → LockAt → ℕ
lock_left c there (LockAt.Lockset b) = 1 + put_left c there (Try 0)
lock_left c there (LockAt.Item w) = put_left c there w

-- ---- an operation inside a transaction, by the same of the item and of the shadow
abbrev pub past_lock : ℕ → ℕ → Bool → Effect → ℕ
past_lock c s aside (Effect.Read t k) = c + s + 1
past_lock c s aside (Effect.Write t k v) = put_left s aside (Try 0)
past_lock c s aside (Effect.CondWrite t k r o v) = c + 3 * s + 1
past_lock c s aside e = 0

abbrev pub item_left : ℕ → ℕ → Effect → ℕ → ℕ
item_left c s (Effect.Read t k) r = read_left c r
item_left c s e r = 3 * s + 1 + (c - 1 - r)

abbrev pub tx_left : ℕ → ℕ → Bool → Bool → Effect → TxAt → ℕ
tx_left c s there aside e TxAt.Log = 2 + put_left c there (Try 0) + past_lock c s aside e
tx_left c s there aside e (TxAt.Lock l) = lock_left c there l + past_lock c s aside e
tx_left c s there aside e TxAt.Seek = c + 3 * s + 1
tx_left c s there aside e (TxAt.Shadow r) = c + read_left s r
tx_left c s there aside e (TxAt.Item r) = item_left c s e r
tx_left c s there aside e (TxAt.Keep v) = 1
tx_left c s there aside e (TxAt.Head v) = 3 * s
tx_left c s there aside e (TxAt.Write w) = put_left s aside w

-- ---- any stage; v is what is left of a visit at an end
-- the visit once the end is decided
abbrev pub decided_visit : EndState
decided_visit = record first_visit { at = EndAt.Callees }

abbrev pub stage_left : ℕ → ℕ → Bool → Bool → (EndState → ℕ) → Effect → Stage → ℕ
stage_left c s there aside v e Stage.Ask = c + 2
stage_left c s there aside v e (Stage.Walk r) = read_left c r
stage_left c s there aside v e (Stage.Keep u version) = 1
stage_left c s there aside v e (Stage.Write w) = put_left c there w
stage_left c s there aside v e (Stage.Tx a) = tx_left c s there aside e a
stage_left c s there aside v e (Stage.Decide m) = 1 + v decided_visit
stage_left c s there aside v e (Stage.End w) = v w
stage_left c s there aside v e (Stage.Call CallAt.Open) = 2
stage_left c s there aside v e (Stage.Call CallAt.Look) = 1
stage_left c s there aside v e (Stage.Async AsyncAt.Open) = 3
stage_left c s there aside v e (Stage.Async AsyncAt.Register) = 2
stage_left c s there aside v e (Stage.Async AsyncAt.Note) = 1
stage_left c s there aside v e Stage.Back = 2
stage_left c s there aside v e Stage.Notify = 2
stage_left c s there aside v e Stage.Close = 1

-- ---- the rows that a stage looks at
abbrev pub item_there : Rows → ℕ → Effect → Bool
item_there m func (Effect.Read t k) = is_some (map.get m (cell_key func t k))
item_there m func (Effect.Write t k v) = is_some (map.get m (cell_key func t k))
item_there m func (Effect.CondWrite t k r o v) = is_some (map.get m (cell_key func t k))
item_there m func (Effect.Lock t k) = is_some (map.get m (cell_key func t k))
item_there m func (Effect.Unlock t k) = is_some (map.get m (cell_key func t k))
item_there m func e = false

abbrev pub aside_there : Rows → ℕ → IntentId → Option RunTx → Effect → Bool
aside_there m func id None e = false
aside_there m func id (Some o) (Effect.Read t k) = is_some (map.get m (shadow_key func (tx_of id func o) t k))
aside_there m func id (Some o) (Effect.Write t k v) = is_some (map.get m (shadow_key func (tx_of id func o) t k))
aside_there m func id (Some o) (Effect.CondWrite t k r u v) = is_some (map.get m (shadow_key func (tx_of id func o) t k))
aside_there m func id (Some o) e = false

-- over the rows m, with the rows e in the end
abbrev pub end_left : Rows → Rows → ℕ → IntentId → Option RunTx → ℕ → EndState → ℕ
end_left e m func id (Some (Own o)) step v = visit_left e m (own_tx id func o) step v
end_left e m func id o step v = 0

abbrev pub left_at : Rows → Rows → ℕ → IntentId → Option RunTx → ℕ → Effect → Stage → ℕ
left_at e m func id o step f s = stage_left (item_length e func f) (aside_length e func (tx_at id func o) f) (item_there m func f) (aside_there m func id o f) (end_left e m func id o step) f s

-- ---- what a turn needs so as to move: each is a fact that a host with the invariant has
-- a lock leaves a lock, or a death
abbrev pub OfLock : Option Note → Type 0
OfLock None = Unit {0}
OfLock (Some Note.Got) = Unit {0}
OfLock (Some (Note.Died a)) = Unit {0}
OfLock (Some n) = ⊥

-- a write of a shadow leaves a note of its kind
abbrev pub OfWrite : Effect → Option Note → Type 0
OfWrite e None = Unit {0}
OfWrite (Effect.Write t k v) (Some Note.Wrote) = Unit {0}
OfWrite (Effect.CondWrite t k r o v) (Some (Note.Cond b)) = Unit {0}
OfWrite e (Some n) = ⊥

-- what a walk needs of the rows that it is on: they are linked, and it sees what it has to
abbrev pub CanRead : Chain → ℕ → Type 0
CanRead f r = IsLinked f × ReadsAt f r

abbrev pub CanPut : Chain → Place → WriteAt → Type 0
CanPut f p w = IsLinked f × SeesAt f p (at_of w)

-- .. and an operation inside, of the rows of its item and of the shadow
pub record CanWork (e : Effect) (a : TxAt) (p : Place) (f g : Chain) : Type 0 where
  pub item : IsLinked f
  pub shadow : IsLinked g
  pub unowned : (content g).owner ≡ None
  pub lock : OfLock (note_at (content f).notes p)
  pub write : OfWrite e (note_at (content g).notes p)
  pub fits : Fits e a
  pub sees : Sees a p f g

-- ---- what a turn says, by what is left after
abbrev pub OutputLower : (Stage → ℕ) → ℕ → StageOutput → Type 0
OutputLower after n (StageOutput.On s m) = suc (after s) ≤ n
OutputLower after n StageOutput.Stays = ⊥
OutputLower after n (StageOutput.Opens m) = suc (after (Stage.Call CallAt.Look)) ≤ n
OutputLower after n (StageOutput.Starts a) = 1 ≤ n
OutputLower after n (StageOutput.Waits w) = Unit {0}
OutputLower after n (StageOutput.Answers a m) = 1 ≤ n
OutputLower after n (StageOutput.Ends m o) = 1 ≤ n

-- ---- what each stage needs of the rows
abbrev pub Needs : Rows → IntentId → ℕ → Option Caller → Option RunTx → ℕ → Effect → Stage → Type 0
Needs m id func c None step (Effect.Read t k) Stage.Ask = Unit {0}
Needs m id func c None step (Effect.Read t k) (Stage.Walk r) = CanRead (chain m (cell_key func t k)) r
Needs m id func c None step (Effect.Read t k) (Stage.Keep u version) = Unit {0}
Needs m id func c None step (Effect.Write t k v) (Stage.Write w) = CanPut (chain m (cell_key func t k)) (place_of id step) w
Needs m id func c None step (Effect.CondWrite t k r o v) (Stage.Write w) = CanPut (chain m (cell_key func t k)) (place_of id step) w
Needs m id func c None step (Effect.Lock t k) (Stage.Write w) = CanPut (chain m (cell_key func t k)) (place_of id step) w
Needs m id func c None step (Effect.Unlock t k) (Stage.Write w) = CanPut (chain m (cell_key func t k)) (place_of id step) w
Needs m id func c (Some o) step (Effect.Read t k) (Stage.Tx a) = CanWork (Effect.Read t k) a (place_of id step) (chain m (cell_key func t k)) (chain m (shadow_key func (tx_of id func o) t k))
Needs m id func c (Some o) step (Effect.Write t k v) (Stage.Tx a) = CanWork (Effect.Write t k v) a (place_of id step) (chain m (cell_key func t k)) (chain m (shadow_key func (tx_of id func o) t k))
Needs m id func c (Some o) step (Effect.CondWrite t k r u v) (Stage.Tx a) = CanWork (Effect.CondWrite t k r u v) a (place_of id step) (chain m (cell_key func t k)) (chain m (shadow_key func (tx_of id func o) t k))
Needs m id func c o step (Effect.Call f a) (Stage.Call w) = Unit {0}
Needs m id func c o step (Effect.Async f a) (Stage.Async AsyncAt.Open) = Unit {0}
Needs m id func c o step (Effect.Async f a) (Stage.Async AsyncAt.Register) = Unit {0}
Needs m id func c o step (Effect.Async f a) (Stage.Async AsyncAt.Note) = (has_callees id ≡ true) × (is_some (call_at m (invoke_key func (place_of id step))) ≡ true)
Needs m id func c o step (Effect.Return x) Stage.Back = Unit {0}
Needs m id func c o step (Effect.Return x) Stage.Notify = Unit {0}
Needs m id func c o step (Effect.Return x) Stage.Close = Unit {0}
Needs m id func c o step e s = ⊥

-- a turn that does not wait leaves less of its effect, at any stage but those of an end, where no row goes that is there after it
abbrev pub StagesLower : Type 0
StagesLower = (v : EndState → ℕ) (e m : Rows) (now : ℕ) (id : IntentId) (func : ℕ) (c : Option Caller) (o : Option RunTx) (changes step : ℕ) (f : Effect) (s : Stage) → Needs m id func c o step f s
    → let q = stage_asks id func c o step f s in let n = rows_after q now m in let x = item_length e func f in let y = aside_length e func (tx_at id func o) f in RowsStay n e
    → OutputLower (stage_left x y (item_there n func f) (aside_there n func id o f) v f) (stage_left x y (item_there m func f) (aside_there m func id o f) v f s) (stage_output id func c o changes step f s (query_reply q now m))
