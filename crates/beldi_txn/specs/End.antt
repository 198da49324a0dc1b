-- The end of a transaction, as a machine that asks one thing a turn: it keeps the decision, and then visits the owner. To visit an
-- intent is to visit each of its callees, by the row of its next call; then to give back each item that it asked the lock of, once, by
-- the row of its next lock; and then to give a participant's row its finish.
use Rattle.std.specs.Prelude.{ℕ, nat_lt, Bool, true, false, List, [], ◌∷◌, ◌++◌, Option, Some, None, if◌then◌else◌}
use Rattle.beldi_value.specs.{declared.place.Place.Place, declared.place.TxId.TxId, declared.value.Value.Value, Id.has_callees, declared.place.Owner.Owner}
use Rattle.beldi_row.specs.{declared.act.Act.TheVariants.Look, Key.at_row, Act.added, Act.kept, declared.notes.Note.Note}
use Rattle.beldi_query.specs.{declared.query.Query.Query, declared.query.Query.TheVariants.Act, Query.QueryReply, Query.replied}
use Rattle.beldi_daal.specs.{declared.cell.ReadGoes.ReadGoes, declared.cell.WriteAt.WriteAt, declared.cell.WriteAt.TheVariants.Try, declared.cell.WriteGoes.WriteGoes, Cell.cell_key, Cell.shadow_key, Cell.read_goes, Cell.write_asks, Cell.write_goes, declared.cell.CellOp.CellOp}
use Rattle.beldi_lock.specs.{Last.split_last, Lockset.most, Lockset.lockset_asks, Lockset.lockset_found}
use Rattle.beldi_readlog.specs.ReadLog.{keep_asks}
use Rattle.beldi_intent.specs.Intent.{stamp_asks}
use Rattle.beldi_txn.specs.{Invokes.invokes_asks, Invokes.invokes_found, CallPath.Member, CallPath.member_at, CallPath.is_owner, declared.call_path.Called.Called, declared.end.EndAt.EndAt, declared.end.EndAt.TheVariants.Decide, declared.end.EndAt.TheVariants.Callees, declared.end.EndAt.TheVariants.Next, declared.end.EndAt.TheVariants.Shadow, declared.end.EndAt.TheVariants.Free, declared.end.EndAt.TheVariants.Stamp, declared.end.EndGoes.EndGoes, declared.end.EndOutput.EndOutput, declared.end.EndState.EndState, declared.end_walk.EndWalk.EndWalk}

-- the places of the transaction's begin, and of its end
abbrev pub begin_place : TxId → Place
begin_place x = record { intent = x.intent; step = x.begin }

abbrev pub end_place : TxId → ℕ → Place
end_place x end = record { intent = x.intent; step = end }

abbrev pub first_visit : EndState
first_visit = record { path = []; after = None; item = None; value = None; at = Decide }

-- ---- who is visited
abbrev pub visited_by : TxId → List Called → Member
visited_by x cs = member_at (x.intent, x.func) cs

-- after which of the calls of an intent the next one is looked for: of the owner's, only those after its begin count ..
abbrev pub calls_after : TxId → List Called → Option ℕ → Option ℕ
calls_after x [] None = Some x.begin
calls_after x cs after = after

-- .. and before its end
abbrev pub counts : ℕ → List Called → Called → Bool
counts end [] c = nat_lt c.step end
counts end (d ∷ ds) c = true

-- the place at which items are given back: the owner's end, or the last of all steps of a participant
abbrev pub free_place : TxId → ℕ → List Called → Place
free_place x end [] = end_place x end
free_place x end (c ∷ cs) = record { intent = (visited_by x (c ∷ cs)).0; step = most }

-- ---- what it asks; without an item, where one should be, for the first one
abbrev pub shadow_asks : TxId → Member → ℕ → Option (ℕ × List ℕ) → Query
shadow_asks x p r (Some i) = Act (at_row (shadow_key p.1 x i.0 i.1) r) Look
shadow_asks x p r None = lockset_asks p.1 p.0 x.begin None

abbrev pub free_asks : TxId → Member → Place → Option Value → WriteAt → Option (ℕ × List ℕ) → Query
free_asks x p at v w (Some i) = write_asks (cell_key p.1 i.0 i.1) at (Owner.Tx x) (CellOp.Free v) w
free_asks x p at v w None = lockset_asks p.1 p.0 x.begin None

abbrev pub visit_asks : TxId → ℕ → Bool → List Called → Option ℕ → Option (ℕ × List ℕ) → Option Value → EndAt → Query
visit_asks x end commit cs after i v Decide = keep_asks x.func (begin_place x) (Value.Bool commit)
visit_asks x end commit cs after i v Callees = let p = visited_by x cs in invokes_asks p.1 p.0 (calls_after x cs after)
visit_asks x end commit cs after i v Next = let p = visited_by x cs in lockset_asks p.1 p.0 x.begin i
visit_asks x end commit cs after i v (Shadow r) = shadow_asks x (visited_by x cs) r i
visit_asks x end commit cs after i v (Free w) = free_asks x (visited_by x cs) (free_place x end cs) v w i
visit_asks x end commit cs after i v Stamp = let p = visited_by x cs in stamp_asks p.0 p.1

-- ---- where it goes after it was told
-- it stays at another decision than its own
abbrev pub decided_by : Bool → Bool → EndGoes
decided_by true true = EndGoes.Decided false
decided_by true false = EndGoes.Stays
decided_by false true = EndGoes.Stays
decided_by false false = EndGoes.Decided false

abbrev pub decide_goes : Bool → QueryReply → EndGoes
decide_goes commit (replied added) = EndGoes.Decided true
decide_goes commit (replied (kept (Value.Bool b))) = decided_by commit b
decide_goes commit t = EndGoes.Stays

-- the callee of a call is visited next; a call of an intent whose callees have no id is passed over
abbrev pub call_goes : Bool → List Called → Called → EndGoes
call_goes true cs c = EndGoes.Callee (cs ++ c ∷ [])
call_goes false cs c = EndGoes.Passed c.step

-- after the last call come the locks
abbrev pub calls_goes : ℕ → Member → List Called → Option Called → EndGoes
calls_goes end p cs None = EndGoes.On Next
calls_goes end p cs (Some c) = if counts end cs c then call_goes (has_callees p.0) cs c else EndGoes.On Next

-- after the last lock the owner is done, and a participant is stamped
abbrev pub last_goes : Bool → EndGoes
last_goes true = EndGoes.Done
last_goes false = EndGoes.On Stamp

abbrev pub next_goes : List Called → Option (ℕ × List ℕ) → EndGoes
next_goes cs None = last_goes (is_owner cs)
next_goes cs (Some i) = EndGoes.Item i.0 i.1

-- the item is given back with the shadow's value, if there is a shadow
abbrev pub value_goes : ReadGoes → EndGoes
value_goes (ReadGoes.On n) = EndGoes.On (Shadow n)
value_goes ReadGoes.Stays = EndGoes.Stays
value_goes (ReadGoes.Got v) = EndGoes.Value v
value_goes (ReadGoes.Held o) = EndGoes.Stays

-- the next item comes once this one was given back, or is another's; a free waits for nobody
abbrev pub freed_goes : WriteGoes → EndGoes
freed_goes (WriteGoes.On next) = EndGoes.On (Free next)
freed_goes WriteGoes.Stays = EndGoes.Stays
freed_goes (WriteGoes.Done n first) = EndGoes.On Next
freed_goes WriteGoes.NotOwner = EndGoes.On Next
freed_goes (WriteGoes.Held o) = EndGoes.Stays
freed_goes WriteGoes.Worn = EndGoes.Worn

abbrev pub end_goes : TxId → ℕ → Bool → List Called → EndAt → QueryReply → EndGoes
end_goes x end commit cs Decide t = decide_goes commit t
end_goes x end commit cs Callees t = let p = visited_by x cs in calls_goes end p cs (invokes_found p.1 p.0 t)
end_goes x end commit cs Next t = let p = visited_by x cs in next_goes cs (lockset_found p.1 p.0 x.begin t)
end_goes x end commit cs (Shadow r) t = value_goes (read_goes None t)
end_goes x end commit cs (Free w) t = freed_goes (write_goes Note.Freed w t)
end_goes x end commit cs Stamp t = EndGoes.Back

-- ---- the way on
-- a commit gives an item back with the shadow's value, so it looks at the shadow
abbrev pub free_first : Bool → EndAt
free_first true = Shadow 0
free_first false = Free (Try 0)

-- at the calls of who is visited, after a step
abbrev pub at_calls : List Called → Option ℕ → EndState
at_calls cs after = record { path = cs; after = after; item = None; value = None; at = Callees }

-- a participant was visited: its caller goes on after this call
abbrev pub back_from : EndState → Option (List Called × Called) → EndState
back_from v None = v
back_from v (Some s) = at_calls s.0 (Some s.1.step)

abbrev pub end_after : Bool → EndState → EndGoes → EndState
end_after commit v (EndGoes.On a) = record v { at = a }
end_after commit v EndGoes.Stays = v
end_after commit v EndGoes.Worn = v
end_after commit v (EndGoes.Decided first) = record v { at = Callees }
end_after commit v (EndGoes.Passed s) = record v { after = Some s }
end_after commit v (EndGoes.Callee cs) = at_calls cs None
end_after commit v (EndGoes.Item t k) = record v { item = Some (t, k); value = None; at = free_first commit }
end_after commit v (EndGoes.Value u) = record v { value = u; at = Free (Try 0) }
end_after commit v EndGoes.Back = back_from v (split_last v.path)
end_after commit v EndGoes.Done = v

abbrev pub output_of : EndGoes → EndOutput
output_of (EndGoes.On a) = EndOutput.Going
output_of EndGoes.Stays = EndOutput.Going
output_of EndGoes.Worn = EndOutput.Worn
output_of (EndGoes.Decided first) = EndOutput.Decided first
output_of (EndGoes.Passed s) = EndOutput.Going
output_of (EndGoes.Callee cs) = EndOutput.Going
output_of (EndGoes.Item t k) = EndOutput.Going
output_of (EndGoes.Value u) = EndOutput.Going
output_of EndGoes.Back = EndOutput.Going
output_of EndGoes.Done = EndOutput.Done

-- ---- the walk
abbrev pub first_end : TxId → ℕ → Bool → EndWalk
first_end x end commit = record { tx = x; end = end; commit = commit; visit = first_visit }

abbrev pub walk_asks : EndWalk → Query
walk_asks w = visit_asks w.tx w.end w.commit w.visit.path w.visit.after w.visit.item w.visit.value w.visit.at

abbrev pub walk_goes : EndWalk → QueryReply → EndGoes
walk_goes w t = end_goes w.tx w.end w.commit w.visit.path w.visit.at t

abbrev pub walk_next : EndWalk → QueryReply → EndWalk
walk_next w t = record w { visit = end_after w.commit w.visit (walk_goes w t) }

abbrev pub walk_output : EndWalk → QueryReply → EndOutput
walk_output w t = output_of (walk_goes w t)
