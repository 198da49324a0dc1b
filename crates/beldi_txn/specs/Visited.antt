-- What the end of a transaction leaves, and that at its end no item that the transaction asked the lock of is its own any more, and each
-- of its participants has its finish.
use Rattle.std.specs.Prelude.{◌≡◌, ◌⊎◌, ◌≤◌, ◌<◌, ℕ, Bool, true, false, List, [], ◌∷◌, Option, Some, None, is_some, Ok}
use Rattle.std.specs.{Option.option_map, declared.cmp.Ordering.TheVariants.Less}
use Rattle.std.specs.FinMap as map
use Rattle.beldi_value.specs.{declared.place.Owner.Owner, declared.place.Place.Place, declared.place.TxId.TxId, declared.value.Value.Value, Id.has_callees}
use Rattle.beldi_row.specs.{declared.notes.Note.Note, declared.row.IntentRow.IntentRow, declared.row.Row.Row, Act.owns, Key.RowKey, Key.key_cmp, Log.note_at, Table.Rows, Table.TableState, Table.Tells}
use Rattle.beldi_query.specs.Walk.{Turned}
use Rattle.beldi_chain.specs.{Chain.Chain, Chain.ChangedAlone, Chain.chain, Chain.content, Chain.tail, Content.Content}
use Rattle.beldi_links.specs.Links.{AllGrow, IsLinked, Passed, ReadsAt, SeesAt}
use Rattle.beldi_daal.specs.{declared.cell.CellOp.TheVariants.Free as FreeOp, declared.cell.WriteAt.WriteAt, declared.cell.WriteAt.TheVariants.Try, Cell.cell_key, Cell.shadow_key, Logged.at_of, Logged.done_to}
use Rattle.beldi_lock.specs.{Lock.lockset_key, Lockset.AreHops, Lockset.AreFit}
use Rattle.beldi_readlog.specs.ReadLog.{log_key}
use Rattle.beldi_intent.specs.Intent.{intent_key}
use Rattle.beldi_txn.specs.End.{begin_place, visited_by, free_place, first_end, walk_asks, walk_next, walk_output}
use Rattle.beldi_txn.specs.{declared.call_path.Called.Called, Invokes.call_key, Invokes.func_called, CallPath.Member, CallPath.callee_of, CallPath.is_owner, declared.end.EndAt.EndAt, declared.end.EndAt.TheVariants.Decide, declared.end.EndAt.TheVariants.Callees, declared.end.EndAt.TheVariants.Next, declared.end.EndAt.TheVariants.Shadow, declared.end.EndAt.TheVariants.Free, declared.end.EndAt.TheVariants.Stamp, declared.end.EndOutput.EndOutput, declared.end.EndState.EndState, declared.end_walk.EndWalk.EndWalk, TxTurn.head_asked, TxTurn.shadow_value}

-- ---- the rows: the decision, and by its table and key an item of a function, the transaction's shadow of it, and that a member asked
-- for its lock
abbrev pub decision_row : EndWalk → RowKey
decision_row w = log_key w.tx.func (begin_place w.tx)

abbrev pub item_row : ℕ → ℕ × List ℕ → RowKey
item_row f i = cell_key f i.0 i.1

abbrev pub aside_row : EndWalk → ℕ → ℕ × List ℕ → RowKey
aside_row w f i = shadow_key f w.tx i.0 i.1

abbrev pub lock_row : EndWalk → Member → ℕ × List ℕ → RowKey
lock_row w p i = lockset_key p.1 p.0 w.tx.begin i.0 i.1

abbrev pub item_in : ℕ → Rows → ℕ × List ℕ → Content
item_in f m i = content (chain m (item_row f i))

-- the transaction owns an item with this content
abbrev pub is_own : EndWalk → Content → Bool
is_own w c = owns (Owner.Tx w.tx) c.owner

-- the decision is kept
abbrev pub IsDecided : EndWalk → Rows → Type 0
IsDecided w m = map.get m (decision_row w) ≡ Some (Row.ReadLog (Value.Bool w.commit))

-- the value that an item is given back with: that of the shadow, none where there is none; and none at an abort
abbrev pub given_value : Bool → Option Row → Option Value
given_value true r = shadow_value r
given_value false r = None

-- ---- who takes part
-- the function that a member called at a step, by the row of the call
abbrev pub called_at : Rows → Member → ℕ → Option ℕ
called_at m p step = option_map func_called (map.get m (call_key p.1 p.0 step))

-- the row of the call is there, and its callee has an id
abbrev pub IsCall : Rows → Member → Called → Type 0
IsCall m p c = (has_callees p.0 ≡ true) × (called_at m p c.step ≡ Some c.func)

abbrev pub IsCallPath : Rows → Member → List Called → Type 0
IsCallPath m p [] = Unit {0}
IsCallPath m p (c ∷ cs) = IsCall m p c × IsCallPath m (callee_of p c) cs

-- of the owner's calls those after the transaction's begin and before its end are the transaction's
abbrev pub IsWithin : EndWalk → ℕ → Type 0
IsWithin w n = (w.tx.begin < n) × (n < w.end)

abbrev pub StartsWithin : EndWalk → List Called → Type 0
StartsWithin w [] = Unit {0}
StartsWithin w (c ∷ cs) = IsWithin w c.step

abbrev pub owner_of : EndWalk → Member
owner_of w = (w.tx.intent, w.tx.func)

-- calls that lead to a participant, or none
abbrev pub IsMember : EndWalk → Rows → List Called → Type 0
IsMember w m cs = StartsWithin w cs × IsCallPath m (owner_of w) cs

-- the row of a participant has its finish, or is absent
abbrev pub row_closed : Option Row → Bool
row_closed (Some (Row.Intent i)) = is_some i.finish
row_closed r = true

abbrev pub is_closed : Rows → Member → Bool
is_closed m p = row_closed (map.get m (intent_key p.0 p.1))

-- so it is of the callees of a member at these steps
abbrev pub AreClosed : Rows → Member → (ℕ → Type 0) → Type 0
AreClosed m p At = (c : Called) → IsCall m p c → At c.step → is_closed m (callee_of p c) ≡ true

-- no item is the transaction's whose lock the member asked for
abbrev pub AllFreed : EndWalk → Rows → Member → Type 0
AllFreed w m p = (q : ℕ × List ℕ) (r : Row) → map.get m (lock_row w p q) ≡ Some r → is_own w (item_in p.1 m q) ≡ false

-- a participant that is closed has given back all, and so have its callees
abbrev pub IsReleased : EndWalk → Rows → Member → Type 0
IsReleased w m p = AllFreed w m p × AreClosed m p (λ n. Unit {0})

abbrev pub AreReleased : EndWalk → Rows → Type 0
AreReleased w m = (c : Called) (cs : List Called) → IsMember w m (c ∷ cs) → is_closed m (visited_by w.tx (c ∷ cs)) ≡ true → IsReleased w m (visited_by w.tx (c ∷ cs))

-- ---- what is so of the walk and the rows
abbrev pub DecidedAt : EndAt → EndWalk → Rows → Type 0
DecidedAt Decide w m = Unit {0}
DecidedAt a w m = IsDecided w m

abbrev pub HasItem : EndAt → Option (ℕ × List ℕ) → Type 0
HasItem Decide i = i ≡ None
HasItem Callees i = i ≡ None
HasItem Next i = Unit {0}
HasItem Stamp i = Unit {0}
HasItem a i = is_some i ≡ true

-- it begins at the owner, who gets no finish here
abbrev pub HasCallPath : EndAt → List Called → Option ℕ → Type 0
HasCallPath Decide cs after = (cs ≡ []) × (after ≡ None)
HasCallPath Stamp cs after = is_owner cs ≡ false
HasCallPath a cs after = Unit {0}

-- the owner's calls are passed from the begin on
abbrev pub IsFrom : EndWalk → List Called → Option ℕ → Type 0
IsFrom w [] (Some s) = w.tx.begin < s
IsFrom w cs after = Unit {0}

-- only a commit looks at the shadow; an item is given back with its value exactly where the transaction commits and has a shadow of it
abbrev pub Gives : EndAt → EndWalk → ℕ → Rows → Option (ℕ × List ℕ) → Type 0
Gives (Shadow r) w home m i = w.commit ≡ true
Gives (Free f) w home m (Some i) = w.visit.value ≡ given_value w.commit (tail (chain m (aside_row w home i)))
Gives a w home m i = Unit {0}

-- what a walk sees that gives an item back, by whether the item is still to be given back: if it is, no row that the walk passed has
-- its place; an item that is another's, or nobody's, may have it in such a row
abbrev pub SeesFreeing : Bool → Chain → Place → WriteAt → Type 0
SeesFreeing own f p (Try r) = ReadsAt f r × (own ≡ true → Passed f p r)
SeesFreeing own f p a = SeesAt f p (at_of a)

-- what it sees of the rows of the shadow that it looks at, and of those of the item that it gives back
abbrev pub SeesRows : EndAt → EndWalk → ℕ → Rows → Option (ℕ × List ℕ) → Type 0
SeesRows (Shadow r) w home m (Some i) = ReadsAt (chain m (aside_row w home i)) r
SeesRows (Free f) w home m (Some i) = SeesFreeing (is_own w (item_in home m i)) (chain m (item_row home i)) (free_place w.tx w.end w.visit.path) f
SeesRows a w home m i = Unit {0}

-- the row is there that says that the lock of the item was asked for
abbrev pub WasAsked : EndAt → EndWalk → Member → Rows → Option (ℕ × List ℕ) → Type 0
WasAsked (Shadow r) w p m (Some i) = is_some (map.get m (lock_row w p i)) ≡ true
WasAsked (Free f) w p m (Some i) = is_some (map.get m (lock_row w p i)) ≡ true
WasAsked a w p m i = Unit {0}

-- the calls of who is visited are passed in the order of their steps
abbrev pub IsPassed : EndAt → Option ℕ → ℕ → Type 0
IsPassed Decide after n = ⊥
IsPassed Callees None n = ⊥
IsPassed Callees (Some s) n = n ≤ s
IsPassed a after n = Unit {0}

-- each callee is closed whose call was passed: of those on the way, before the call of the next one
abbrev pub Levels : Rows → Member → (ℕ → Type 0) → List Called → (ℕ → Type 0) → Type 0
Levels m p At [] Past = AreClosed m p (λ n. At n × Past n)
Levels m p At (c ∷ cs) Past = AreClosed m p (λ n. At n × (n < c.step)) × Levels m (callee_of p c) (λ n. Unit {0}) cs Past

-- at the end of the way: those of the owner's calls that count, and all of a participant's
abbrev pub AtEnd : (ℕ → Type 0) → List Called → ℕ → Type 0
AtEnd At [] n = At n
AtEnd At (c ∷ cs) n = Unit {0}

-- the rows of the locks are passed in the order of their keys, up to the item, or to those before it while it is given back
abbrev pub IsPast : EndAt → EndWalk → Member → Option (ℕ × List ℕ) → ℕ × List ℕ → Type 0
IsPast Decide w p i q = ⊥
IsPast Callees w p i q = ⊥
IsPast Stamp w p i q = Unit {0}
IsPast Next w p None q = ⊥
IsPast Next w p (Some i) q = key_cmp (lock_row w p i) (lock_row w p q) ≡ Less → ⊥
IsPast a w p None q = ⊥
IsPast a w p (Some i) q = key_cmp (lock_row w p q) (lock_row w p i) ≡ Less

-- the rows of all items and shadows are linked
abbrev pub AreLinked : EndWalk → Rows → Type 0
AreLinked w m = (f : ℕ) (q : ℕ × List ℕ) → IsLinked (chain m (item_row f q)) × IsLinked (chain m (aside_row w f q))

-- an item with a note at a place where a member gives items back is not the transaction's
abbrev pub AreMarked : EndWalk → Rows → Type 0
AreMarked w m = (cs : List Called) → IsMember w m cs → let f = (visited_by w.tx cs).1 in
    (q : ℕ × List ℕ) (n : Note) → note_at (item_in f m q).notes (free_place w.tx w.end cs) ≡ Some n → is_own w (item_in f m q) ≡ false

pub record Visited (w : EndWalk) (m : Rows) : Type 0 where
  pub decided : DecidedAt w.visit.at w m
  pub item : HasItem w.visit.at w.visit.item
  pub begins : HasCallPath w.visit.at w.visit.path w.visit.after
  pub from : IsFrom w w.visit.path w.visit.after
  -- the calls that lead to who is visited are there
  pub member : IsMember w m w.visit.path
  pub gives : Gives w.visit.at w (visited_by w.tx w.visit.path).1 m w.visit.item
  pub sees : SeesRows w.visit.at w (visited_by w.tx w.visit.path).1 m w.visit.item
  pub asked : WasAsked w.visit.at w (visited_by w.tx w.visit.path) m w.visit.item
  pub callees : Levels m (owner_of w) (IsWithin w) w.visit.path (IsPassed w.visit.at w.visit.after)
  -- no item is the transaction's whose lock who is visited asked for, and that was passed
  pub freed : (q : ℕ × List ℕ) (r : Row) → let p = visited_by w.tx w.visit.path in map.get m (lock_row w p q) ≡ Some r → IsPast w.visit.at w p w.visit.item q → is_own w (item_in p.1 m q) ≡ false
  pub released : AreReleased w m
  pub marked : AreMarked w m
  pub linked : AreLinked w m

-- the owner and all who took part have given back all, and all but the owner are closed
pub record AllReleased (w : EndWalk) (m : Rows) : Type 0 where
  pub owner : AllFreed w m (owner_of w)
  pub closed : (c : Called) (cs : List Called) → IsMember w m (c ∷ cs) → is_closed m (visited_by w.tx (c ∷ cs)) ≡ true
  pub freed : (c : Called) (cs : List Called) → IsMember w m (c ∷ cs) → AllFreed w m (visited_by w.tx (c ∷ cs))

-- no row goes
abbrev pub RowsStay : Rows → Rows → Type 0
RowsStay m n = (k : RowKey) → is_some (map.get m k) ≡ true → is_some (map.get n k) ≡ true

-- ---- a turn of its own
-- the decision is put once; the end stays at another decision than its own
abbrev pub Decides : EndOutput → Value → Option Row → Option Row → Type 0
Decides (EndOutput.Decided true) v r s = (r ≡ None) × (s ≡ Some (Row.ReadLog v))
Decides (EndOutput.Decided false) v r s = (r ≡ Some (Row.ReadLog v)) × (s ≡ r)
Decides EndOutput.Going v r s = (r ≡ Some (Row.ReadLog v) → ⊥) × (s ≡ r)
Decides EndOutput.Worn v r s = ⊥
Decides EndOutput.Done v r s = ⊥

-- an item that is the transaction's is given back, where its place has no note; any other stands
abbrev pub Frees : Place → Owner → Option Value → Content → Content → Type 0
Frees p who v c d = (d ≡ c) ⊎ ((note_at c.notes p ≡ None) × (owns who c.owner ≡ true) × (d ≡ done_to p who (FreeOp v) c))

-- a participant gets its finish, where it is there and has none
pub record GetsFinish (r s : Option Row) : Type 0 where
  pub intent : IntentRow
  pub before : r ≡ Some (Row.Intent intent)
  pub none : intent.finish ≡ None
  pub finish : ℕ
  pub now : s ≡ Some (Row.Intent (record intent { finish = Some finish }))

abbrev pub Stamps : Option Row → Option Row → Type 0
Stamps r s = ((s ≡ r) × (row_closed r ≡ true)) ⊎ GetsFinish r s

abbrev pub LeftAt : EndAt → EndWalk → Option (ℕ × List ℕ) → EndOutput → Rows → Rows → Type 0
LeftAt Decide w i s m n = Decides s (Value.Bool w.commit) (map.get m (decision_row w)) (map.get n (decision_row w))
LeftAt (Free f) w (Some i) s m n = let h = (visited_by w.tx w.visit.path).1 in Frees (free_place w.tx w.end w.visit.path) (Owner.Tx w.tx) w.visit.value (item_in h m i) (item_in h n i)
LeftAt Stamp w i s m n = let p = visited_by w.tx w.visit.path in Stamps (map.get m (intent_key p.0 p.1)) (map.get n (intent_key p.0 p.1))
LeftAt a w i s m n = n ≡ m

pub record EndTurn (w x : EndWalk) (m n : Rows) (s : EndOutput) : Type 0 where
  -- all rows are as before but the one, or those of the item, that it asks for
  pub others : ChangedAlone (head_asked (walk_asks w)) m n
  pub stay : RowsStay m n
  pub grows : AllGrow m n
  pub left : LeftAt w.visit.at w w.visit.item s m n
  pub same : x ≡ record w { visit = x.visit }
  pub visited : Visited x n
  pub done : s ≡ EndOutput.Done → IsDecided w n × AllReleased w n

-- for every turn that says something, over every table that tells its rows
abbrev pub EndsAreVisits : Type 0
EndsAreVisits = (w x : EndWalk) (now : ℕ) (old new : TableState) (s : EndOutput) → 1 ≤ w.tx.intent.ticket → AreHops 63 w.tx.intent.hops
    → Turned (walk_asks w) now (walk_next w) (walk_output w) w x old new (Ok s) → Tells old.rows new.rows (λ m n. AreFit m → Visited w m → EndTurn w x m n s)

-- ---- what others do
-- rows that stay and grow, keep the decision and the values of the transaction's shadows, and have no further row of its calls and its locks; the
-- calls on the way stand; who is closed stays so, and who becomes so has given back all; the transaction owns no item that it did not,
-- and none that has a note at a place where items are given back
pub record Leaves (w : EndWalk) (m n : Rows) : Type 0 where
  pub stay : RowsStay m n
  pub grows : AllGrow m n
  pub decision : IsDecided w m → IsDecided w n
  pub asides : (f : ℕ) (q : ℕ × List ℕ) → shadow_value (tail (chain n (aside_row w f q))) ≡ shadow_value (tail (chain m (aside_row w f q)))
  pub path : IsMember w m w.visit.path → IsMember w n w.visit.path
  pub calls : (cs : List Called) → IsMember w m cs → (c : Called) → AtEnd (IsWithin w) cs c.step → IsCall n (visited_by w.tx cs) c → IsCall m (visited_by w.tx cs) c
  pub locks : (cs : List Called) → IsMember w m cs → (q : ℕ × List ℕ) (r : Row) → map.get n (lock_row w (visited_by w.tx cs) q) ≡ Some r → is_some (map.get m (lock_row w (visited_by w.tx cs) q)) ≡ true
  pub closed : (c : Called) (cs : List Called) → IsMember w m (c ∷ cs) → is_closed m (visited_by w.tx (c ∷ cs)) ≡ true → is_closed n (visited_by w.tx (c ∷ cs)) ≡ true
  pub items : (f : ℕ) (q : ℕ × List ℕ) → is_own w (item_in f m q) ≡ false → is_own w (item_in f n q) ≡ false
  pub released : AreReleased w n
  pub marks : AreMarked w n
  pub linked : AreLinked w n

abbrev pub VisitsStand : Type 0
VisitsStand = (w : EndWalk) (m n : Rows) → Visited w m → Leaves w m n → Visited w n

-- it is so from the start, where no item has a note at a place where items are given back that is the transaction's, and who is
-- closed has given back all
abbrev pub VisitsBegin : Type 0
VisitsBegin = (tx : TxId) (end : ℕ) (commit : Bool) (m : Rows) → let w = first_end tx end commit in AreReleased w m → AreMarked w m → AreLinked w m → Visited w m

-- a turn of another walk of the same end, wherever that walk stands, is among what an end bears
abbrev pub OtherWalksLeave : Type 0
OtherWalksLeave = (w x : EndWalk) (v : EndState) (m n : Rows) (s : EndOutput) → EndTurn (record w { visit = v }) x m n s → Leaves w m n

-- a walk that is to give an item back may stand at a further row: what it has not seen then counts only where the item is the transaction's
abbrev pub FreesStandFurther : Type 0
FreesStandFurther = (w : EndWalk) (m : Rows) (i : ℕ × List ℕ) (r k : ℕ) → w.visit.at ≡ Free (Try r) → w.visit.item ≡ Some i → Visited w m → let home = (visited_by w.tx w.visit.path).1 in
    let f = chain m (item_row home i) in ReadsAt f k → (is_own w (item_in home m i) ≡ true → Passed f (free_place w.tx w.end w.visit.path) k) → Visited (record w { visit = record w.visit { at = Free (Try k) } }) m
