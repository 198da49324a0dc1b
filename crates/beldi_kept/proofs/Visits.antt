-- A turn of a visit: it is the same over both where who is visited is not gone; who is gone is closed, so the visit may go on without the
-- rows that the table has no more.
use Rattle.std.specs.FinMap as map
use Rattle.std.specs.Prelude.{IfOk, Ok, Result}
use Rattle.std.specs.declared.alloc.AllocError.{AllocError}
use Rattle.beldi_plain.specs.Item.{Item}
use Rattle.std.proofs.Common.{◌≡◌, ◌⊎◌, inl, inr, ℕ, ◌+◌, ◌≤◌, Bool, true, false, List, [], ◌∷◌, ◌++◌, Option, Some, None, is_some, refl, ap, sym, ◌∙◌, subst}
use Rattle.std.proofs.lemmas.List.{append-nil}
use Rattle.std.specs.Option.{option_map}
use Rattle.beldi_value.specs.{Id.has_callees, Id.has_no_hops, declared.id.IntentId.IntentId, declared.place.Owner.Owner, declared.place.Place.Place, declared.place.TxId.TxId, declared.value.Value.Value}
use Rattle.beldi_tree.specs.declared.deployment.Deployment.{Deployment}
use Rattle.beldi_lang.specs.declared.effect.Effect.{Effect}
use Rattle.beldi_book.specs.LinearOrder.{count_changes}
use Rattle.beldi_row.specs.{Key.RowKey, Key.at_row, Log.note_at, Table.IsNext, Table.Rows, Table.next_row, declared.act.Act.Act, declared.row.Cell.Cell, declared.row.Row.Row}
use Rattle.beldi_row.proofs.Least.{next_row_least}
use Rattle.beldi_query.specs.{declared.query.Query.Query, Query.QueryReply, Query.found, Query.query_reply, Query.rows_after}
use Rattle.beldi_daal.specs.{Cell.cell_key, Cell.shadow_key, declared.cell.CellOp.CellOp, declared.cell.WriteAt.WriteAt, Logged.at_of}
use Rattle.beldi_intent.specs.Intent.{intent_key}
use Rattle.beldi_chain.specs.Chain.{Chain, chain}
use Rattle.beldi_links.specs.Links.{At, SeesAt}
use Rattle.beldi_splice.proofs.Alike.{reads_go_further}
use Rattle.beldi_lock.specs.{Lock.lockset_key, Lockset.item_after, Lockset.lockset_after}
use Rattle.beldi_txn.specs.{Closed.ClosedArePassed, Visited.SeesFreeing, Visited.is_own, Visited.item_in, Visited.lock_row, Closed.Passes, End.call_goes, End.calls_goes, End.end_goes, End.free_first, End.free_place, End.next_goes, End.shadow_asks, End.visit_asks, End.visited_by, Invokes.call_after, Invokes.func_called, Invokes.invokes_after, Visited.IsPassed, Visited.IsWithin, Visited.Levels, Visited.Visited, Visited.called_at, Visited.is_closed, Visited.row_closed, CallPath.Member, CallPath.callee_of, CallPath.member_at, declared.end.EndAt.EndAt, declared.end.EndState.EndState, declared.call_path.Called.Called}
use Rattle.beldi_txn.proofs.{InvokedInside.is_call, LocksetRows.is_item, Visited.FindsFirstCall, Visited.FindsFirstLock}
use Rattle.beldi_step.specs.HostStep.{Core, asks, counted, put_run, turn_next, turned_core}
use Rattle.beldi_step.specs.EventContent.{reply_entries, reply_outcome}
use Rattle.beldi_step.specs.Run.{Turned, asks_at, end_by_asks, end_here_asks, own_tx, run_asks, run_told, stage_asks, turned_by, visit_output}
use Rattle.beldi_step.specs.declared.{event.Event.Event, event.EventReply.EventReply, run.Begun.Begun, run.OpenTx.OpenTx, run.Run.Run, run.RunAt.TheVariants.Begins, run.RunTx.RunTx, run.RunTx.TheVariants.Own, run.StageOutput.StageOutput, run.Stage.Stage}
use Rattle.beldi_step.specs.RunStride.{stage_to, write_walking}
use Rattle.beldi_histories.specs.{Contents.head_key, Histories.tx_end, Stands.key_in}
use Rattle.beldi_invariant.specs.{FoundInside.end_walk, FoundInside.has_finish, Invariant.AtStage, Invariant.Knows, Invariant.KnowsAt, Invariant.RunAt, Invariant.is_past}
use Rattle.beldi_invariant.proofs.Cases.{false_by}
use Rattle.beldi_invariant.proofs.{Members.members_joined, Members.part_below, Members.took_part, Others.decided_past, Widths.finds_first}
use Rattle.beldi_upkeep.specs.{Callees.belongs_to, WorksFor.WorksFor}
use Rattle.beldi_upkeep.proofs.EndRows.{tx_is_ended}
use Rattle.beldi_kept.specs.{KeptAhead.StaysAhead, KeptAhead.StaysAtStage, KeptAhead.StaysFor, KeptRows.HasKept, KeptRows.IsOver, Less.IsGone, Less.is_item as of_item}
use Rattle.beldi_kept.proofs.{Elsewhere.makes_back, Elsewhere.stands_elsewhere, Elsewhere.wanted_then, Elsewhere.works_still, Events.Goal, Events.as_were, Events.core_of, Events.turns_alike, Events.turns_by, Gone.done_there, Gone.old_finished, Gone.one_row, Gone.unbound_root, Less.stays_on, Less.there_kept, Less.GoesOn, Step.Step, Step.upkeep_elsewhere, Step.wanted_elsewhere, Turn.SameTurn}
use Rattle.beldi_kept.proofs.{ItemStages.at_stage_is, ItemStages.kept_links, ItemStages.output_is, ItemStages.sees_then, ItemStages.walks_is, ItemWrites.IsNumbered, ItemWrites.numbered_of, ItemWrites.writes}
use Rattle.beldi_kept.proofs.VisitAlike as alike

-- ---- rows of who is visited
finish_closes : (r : Option Row) → has_finish r ≡ true → row_closed r ≡ true
finish_closes None fin = cc
finish_closes (Some (Row.Intent w)) fin = fin
finish_closes (Some r) fin = refl

there_row : {P : Type 0} (m : Rows) (k : RowKey) (o : Option Row) → map.get m k ≡ o → is_some o ≡ true → ((r : Row) → map.get m k ≡ Some r → P) → P
there_row m k (Some r) is some f = f r is
there_row m k None is some f = cc

-- of who calls nobody, all calls are passed
none_called : (m : Rows) (p : Member) (At Past Then : ℕ → Type 0) (cs : List Called) → has_callees (member_at p cs).0 ≡ false → Levels m p At cs Past → Levels m p At cs Then
none_called m p At Past Then [] off l = λ c call here. let clash = sym off ∙ call.0 in cc
none_called m p At Past Then (c ∷ cs) off l = (l.0, none_called m (callee_of p c) (λ n. Unit {0}) Past Then cs off l.1)

module _ (d : Deployment) (c : Core) (m : Rows) (h : HasKept d c m) (p : Member) where
  found_call : (k : RowKey) (f : Option (RowKey × Row)) → IsNext m k f → (x : Called) → call_after p.1 p.0 f ≡ Some x → called_at h.kept p x.step ≡ Some x.func
  found_call k None next x is = cc
  found_call k (Some e) next x is = let q = is_call p.1 p.0 e.0.home e.0.kind e.1 x is in ap (λ z. option_map func_called (map.get h.kept z)) (sym q.0) ∙ ap (option_map func_called) (there_kept h.gone m h.kept h.less e.0 e.1 (ap (λ (z : RowKey). of_item z.kind) q.0) next.1) ∙ ap Some q.1

  found_lock : (begin : ℕ) (k : RowKey) (f : Option (RowKey × Row)) → IsNext m k f → (x : ℕ × List ℕ) → item_after p.1 p.0 begin f ≡ Some x → is_some (map.get h.kept (lockset_key p.1 p.0 begin x.0 x.1)) ≡ true
  found_lock begin k None next x is = cc
  found_lock begin k (Some e) next x is = ap (λ z. is_some (map.get h.kept z)) (sym (is_item p.1 p.0 begin e.0.home e.0.kind x is)) ∙ ap is_some (there_kept h.gone m h.kept h.less e.0 e.1 (ap (λ (z : RowKey). of_item z.kind) (is_item p.1 p.0 begin e.0.home e.0.kind x is)) next.1)

  -- who is gone and has hops is closed
  gone_closed : has_no_hops p.0.hops ≡ false → h.gone p.0 ≡ true → is_closed h.kept p ≡ true
  gone_closed below off = by_row (map.get h.kept (intent_key p.0 p.1)) refl
    where
      o : IsOver d.life c.newest h.latest m h.kept p.0
      o = h.over p.0 off

      by_row : (r : Option Row) → map.get h.kept (intent_key p.0 p.1) ≡ r → row_closed r ≡ true
      by_row None is = refl
      by_row (Some r) is = elim (h.over p.0 off).over [
        | inl old ↦
            let fin = old_finished d.life h.latest (map.get h.kept (key_in (h.over p.0 off).home p.0)) old in
            ap row_closed (sym is) ∙ finish_closes (map.get h.kept (intent_key p.0 p.1)) (subst (λ k. has_finish (map.get h.kept k) ≡ true)
            (one_row d c h.kept h.upkeep.invariant p.0 (h.over p.0 off).home (intent_key p.0 p.1).home (done_there (map.get h.kept (key_in (h.over p.0 off).home p.0)) (inl fin)) (ap is_some is)) fin)
        | inr u ↦ let clash = sym below ∙ unbound_root c.newest p.0 (map.get m (key_in (h.over p.0 off).home p.0)) (map.get h.kept (key_in (h.over p.0 off).home p.0)) u in cc
      ]

-- ---- a turn
module _ (may_pass : ClosedArePassed) (d : Deployment) (c : Core) (m : Rows) (h : HasKept d c m) (room old new : ℕ) (b : Core) (n : Rows) (x : Result EventReply AllocError) (i : ℕ) (r : Run) (live : map.get c.runs i ≡ Some r) (in_time : c.now ≤ r.deadline)
    (g : Begun) (at : r.at ≡ Begins g) (ahead : StaysAhead d.life m r (Begins g)) (o : OpenTx) (tx : g.tx ≡ Some (Own o)) (commit : Bool) (ends : g.machine.effect ≡ Effect.End commit) where
  abbrev t : TxId
  t = own_tx r.id r.func o

  abbrev step : ℕ
  step = g.machine.steps

  abbrev Turns : Type 0
  Turns = Goal d c m h room old new b n x (Event.Turn i) (asks (run_asks r)) × Goal d c m h room old new b n x (Event.Lost i) (asks (run_asks r))

  alive : h.gone r.id ≡ false
  alive = h.spared i r r.id live in_time (subst (λ y. WorksFor r y r.id) (sym at) (inl refl))

  before : KnowsAt d h.kept h.upkeep.invariant.plain c.book h.upkeep.invariant.histories r (Begins g)
  before = subst (KnowsAt d h.kept h.upkeep.invariant.plain c.book h.upkeep.invariant.histories r) at (subst (RunAt d h.kept h.upkeep.invariant.plain c.book h.upkeep.invariant.histories) live (h.upkeep.invariant.runs.runs i))

  module _ (v : EndState) (stage : g.stage ≡ Stage.End v) (past : is_past v.at ≡ true) (visited : Visited (end_walk r.id r.func o step commit v) h.kept) where
    abbrev p : Member
    p = visited_by t v.path

    abbrev q : EndAt → Query
    q a = visit_asks t step commit v.path v.after v.item v.value a

    asks_is : run_asks r ≡ q v.at
    asks_is = ap (asks_at r) at ∙ ap (stage_asks r.id r.func g.caller g.tx step g.machine.effect) stage ∙ ap (λ e. end_here_asks r.id r.func step e v g.tx) ends ∙ ap (λ z. end_by_asks r.id r.func step commit v z) tx

    has : tx_end d h.upkeep.invariant.histories t ≡ Some (step, commit)
    has = tx_is_ended d c h.kept h.upkeep.invariant h.upkeep.seats h.upkeep.owe r g before.0 before.1 o tx commit ends (decided_past v.at (end_walk r.id r.func o step commit v) h.kept past visited.decided)

    pub same_turn : (a : EndAt) → v.at ≡ a → SameTurn d c h.gone m h.kept r (q a) → Turns
    same_turn a is same = turns_alike d c m h room old new b n x i r live (subst (SameTurn d c h.gone m h.kept r) (ap q (sym is) ∙ sym asks_is) same)

    -- ---- the visit stands elsewhere, by what the table tells; the kept rows stay
    module _ (w : EndState) (on : is_past w.at ≡ true) (quiet : makes_back w.at ≡ false) (there : Visited (end_walk r.id r.func o step commit w) h.kept) where
      abbrev left : Turned
      left = turned_by d r g (StageOutput.On (Stage.End w) None)

      stands : (k : Knows d h.upkeep.invariant.histories r g) → AtStage h.kept h.upkeep.invariant.plain c.book k (Stage.End w) g.machine.effect g.tx
      stands k = subst (λ e. AtStage h.kept h.upkeep.invariant.plain c.book k (Stage.End w) e g.tx) (sym ends) (subst (λ x. AtStage h.kept h.upkeep.invariant.plain c.book k (Stage.End w) (Effect.End commit) x) (sym tx) (on, there))

      leaves : b ≡ turned_core (counted c) i r.id left → n ≡ m → Step d c b h.gone m h.kept n
      leaves is same = subst (λ z. Step d c z h.gone m h.kept n) (sym (is ∙ ap (λ z. record (counted c) { runs = put_run c.runs i left.next; book = z }) (append-nil c.book))) (record {
        after = h.kept;
        upkeep = upkeep_elsewhere d (record c { runs = put_run c.runs i left.next }) c.cursor (c.taken + 1) c.shut h.kept (stands_elsewhere d c h.kept h.upkeep i r g (Stage.End w) live at quiet tt tt stands);
        wanted = wanted_elsewhere d (record c { runs = put_run c.runs i left.next }) c.cursor (c.taken + 1) c.shut h.kept (wanted_then d c h.kept h.upkeep i r g (Stage.End w) live at quiet tt tt stands h.wanted);
        goes = as_were d c m h room old new b n x same;
        works = λ k s j is works. inl (works_still d c h.kept h.upkeep i r g (Stage.End w) live at quiet tt tt stands k s j is works);
        stay = λ k there. there;
        dates = λ k f is. is;
      })

      module _ (k : RowKey) (after_it : q v.at ≡ Query.After k) (goes : run_told d (count_changes c.book) r (found (next_row m k)) ≡ left) (mark : (run_told d (count_changes c.book) r (found (next_row h.kept k))).mark ≡ None) where
        asks_it : run_asks r ≡ Query.After k
        asks_it = asks_is ∙ after_it

        turned : (l : Rows) → run_told d (count_changes c.book) r (query_reply (run_asks r) c.now l) ≡ run_told d (count_changes c.book) r (found (next_row l k))
        turned l = ap (λ z. run_told d (count_changes c.book) r (query_reply z c.now l)) asks_it

        goes_on : Turns
        goes_on = turns_by d c m h room old new b n x i r live (ap (λ (z : Turned). z.mark) (turned m ∙ goes) ∙ sym (ap (λ (z : Turned). z.mark) (turned h.kept) ∙ mark))
            (subst (λ z. GoesOn h.gone m h.kept (rows_after z c.now m) (rows_after z c.now h.kept)) (sym asks_it) (stays_on h.gone m h.kept h.less))
            (λ y is f rows over.
            let made : (b, y) ≡ turn_next (counted c) i r left = f ∙ ap (turn_next (counted c) i r) (turned m ∙ goes) in
            inr (
              leaves (core_of made) (rows ∙ ap (λ z. rows_after z c.now m) asks_it),
              record { book = ap (λ (z : Core). z.book) (core_of made) ∙ append-nil c.book; tells = subst (λ u. IfOk u (λ y. (reply_outcome y ≡ None) × (reply_entries (Event.Turn i) y ≡ []))) (sym (is ∙ ap (λ z. Ok z.1) made)) (refl, refl) },
            ))

  -- ---- who is visited is gone
  module _ (e : Called) (es : List Called) (after : Option ℕ) (value : Option Value) where
    abbrev w : Member
    w = visited_by t (e ∷ es)

    abbrev V : Option (ℕ × List ℕ) → EndAt → EndState
    V item a = record { path = e ∷ es; after = after; item = item; value = value; at = a }

    module _ (off : h.gone w.0 ≡ true) where
      module _ (item : Option (ℕ × List ℕ)) (a : EndAt) (stage : g.stage ≡ Stage.End (V item a)) (past : is_past a ≡ true) (visited : Visited (end_walk r.id r.func o step commit (V item a)) h.kept) where
        closed : is_closed h.kept w ≡ true
        closed =
            let ended = has (V item a) stage past visited in
            let part = took_part (members_joined d h.kept h.upkeep.invariant.histories h.upkeep.invariant.lock_ahead h.upkeep.invariant.rows h.upkeep.invariant.well_formed t (step, commit) ended e es visited.member) in
            gone_closed d c m h w (part_below d h.upkeep.invariant.histories h.upkeep.invariant.well_formed t w.0 part) off

        passes : Passes t step commit e es after h.kept
        passes = may_pass t step commit e es after h.kept closed

        output : (u : QueryReply) → run_told d (count_changes c.book) r u ≡ turned_by d r g (visit_output commit (V item a) (end_goes t step commit (e ∷ es) a u))
        output u = alike.output d c h.gone m h.kept h.less r g (V item a) at stage alive o tx commit ends u

      -- its calls
      module _ (stage : g.stage ≡ Stage.End (V None EndAt.Callees)) (visited : Visited (end_walk r.id r.func o step commit (V None EndAt.Callees)) h.kept) where
        abbrev k : RowKey
        k = invokes_after w.1 w.0 after

        mark : (f : Option Called) → (turned_by d r g (visit_output commit (V None EndAt.Callees) (calls_goes step w (e ∷ es) f))).mark ≡ None
        mark None = refl
        mark (Some z) = by_callees (has_callees w.0)
          where
            by_callees : (y : Bool) → (turned_by d r g (visit_output commit (V None EndAt.Callees) (call_goes y (e ∷ es) z))).mark ≡ None
            by_callees true = refl
            by_callees false = refl

        kept_mark : (run_told d (count_changes c.book) r (found (next_row h.kept k))).mark ≡ None
        kept_mark = ap (λ (z : Turned). z.mark) (output None EndAt.Callees stage refl visited (found (next_row h.kept k))) ∙ mark (call_after w.1 w.0 (next_row h.kept k))

        told : (f : Option Called) → call_after w.1 w.0 (next_row m k) ≡ f → run_told d (count_changes c.book) r (found (next_row m k)) ≡ turned_by d r g (visit_output commit (V None EndAt.Callees) (calls_goes step w (e ∷ es) f))
        told f is = output None EndAt.Callees stage refl visited (found (next_row m k)) ∙ ap (λ z. turned_by d r g (visit_output commit (V None EndAt.Callees) (calls_goes step w (e ∷ es) z))) is

        passed : (s : ℕ) → has_callees w.0 ≡ false → Visited (end_walk r.id r.func o step commit (record (V None EndAt.Callees) { after = Some s })) h.kept
        passed s none = record {
          decided = visited.decided;
          item = visited.item;
          begins = tt;
          from = tt;
          member = visited.member;
          gives = tt;
          sees = tt;
          asked = tt;
          callees = none_called h.kept (t.intent, t.func) (IsWithin (end_walk r.id r.func o step commit (V None EndAt.Callees))) (IsPassed EndAt.Callees after) (IsPassed EndAt.Callees (Some s)) (e ∷ es) none visited.callees;
          freed = λ q r at past. absurd past;
          released = visited.released;
          marked = visited.marked;
          linked = visited.linked;
        }

        called : (z : Called) → call_after w.1 w.0 (next_row m k) ≡ Some z → (t2 : Bool) → has_callees w.0 ≡ t2 → Turns
        called z is true has_some = goes_on (V None EndAt.Callees) stage refl visited (record { path = e ∷ (es ++ z ∷ []); after = None; item = None; value = None; at = EndAt.Callees }) refl refl
            ((passes None EndAt.Callees stage refl visited).called value z (has_some, found_call d c m h w k (next_row m k) (next_row_least m k) z is) visited)
            k refl (told (Some z) is ∙ ap (λ y. turned_by d r g (visit_output commit (V None EndAt.Callees) (call_goes y (e ∷ es) z))) has_some) kept_mark
        called z is false none = goes_on (V None EndAt.Callees) stage refl visited (record (V None EndAt.Callees) { after = Some z.step }) refl refl (passed z.step none)
            k refl (told (Some z) is ∙ ap (λ y. turned_by d r g (visit_output commit (V None EndAt.Callees) (call_goes y (e ∷ es) z))) none) kept_mark

        calls_gone : (f : Option Called) → call_after w.1 w.0 (next_row m k) ≡ f → Turns
        calls_gone None is = goes_on (V None EndAt.Callees) stage refl visited (V None EndAt.Next) refl refl ((passes None EndAt.Callees stage refl visited).calls value visited) k refl (told None is) kept_mark
        calls_gone (Some z) is = called z is (has_callees w.0) refl

      -- its locks
      module _ (item : Option (ℕ × List ℕ)) (stage : g.stage ≡ Stage.End (V item EndAt.Next)) (visited : Visited (end_walk r.id r.func o step commit (V item EndAt.Next)) h.kept) where
        abbrev l : RowKey
        l = lockset_after w.1 w.0 t.begin item

        lock_mark : (f : Option (ℕ × List ℕ)) → (turned_by d r g (visit_output commit (V item EndAt.Next) (next_goes (e ∷ es) f))).mark ≡ None
        lock_mark None = refl
        lock_mark (Some z) = refl

        kept_lock : (run_told d (count_changes c.book) r (found (next_row h.kept l))).mark ≡ None
        kept_lock = ap (λ (z : Turned). z.mark) (output item EndAt.Next stage refl visited (found (next_row h.kept l))) ∙ lock_mark (item_after w.1 w.0 t.begin (next_row h.kept l))

        lock_told : (f : Option (ℕ × List ℕ)) → item_after w.1 w.0 t.begin (next_row m l) ≡ f → run_told d (count_changes c.book) r (found (next_row m l)) ≡ turned_by d r g (visit_output commit (V item EndAt.Next) (next_goes (e ∷ es) f))
        lock_told f is = output item EndAt.Next stage refl visited (found (next_row m l)) ∙ ap (λ z. turned_by d r g (visit_output commit (V item EndAt.Next) (next_goes (e ∷ es) z))) is

        frees : (y : Bool) → is_past (free_first y) ≡ true
        frees true = refl
        frees false = refl

        makes_none : (y : Bool) → makes_back (free_first y) ≡ false
        makes_none true = refl
        makes_none false = refl

        locks_gone : (f : Option (ℕ × List ℕ)) → item_after w.1 w.0 t.begin (next_row m l) ≡ f → Turns
        locks_gone None is = goes_on (V item EndAt.Next) stage refl visited (V item EndAt.Stamp) refl refl ((passes item EndAt.Next stage refl visited).stamp item value visited) l refl (lock_told None is) kept_lock
        locks_gone (Some z) is = goes_on (V item EndAt.Next) stage refl visited (record (V item EndAt.Next) { item = Some z; value = None; at = free_first commit }) (frees commit) (makes_none commit)
            ((passes item EndAt.Next stage refl visited).locks item value z (found_lock d c m h w t.begin l (next_row m l) (next_row_least m l) z is) visited) l refl (lock_told (Some z) is) kept_lock

  -- ---- by where the visit stands
  by_gone : (y : Bool) (i : IntentId) → h.gone i ≡ y → (h.gone i ≡ false → Turns) → (h.gone i ≡ true → Turns) → Turns
  by_gone true i is stays goes = goes is
  by_gone false i is stays goes = stays is

  module _ (v : EndState) (stage : g.stage ≡ Stage.End v) where
    abbrev Alike : Query → Type 0
    Alike z = SameTurn d c h.gone m h.kept r z

    row_alike : (k : RowKey) → of_item k.kind ≡ false → (a : Act) → (IsGone h.gone (belongs_to k.kind) → ⊥) → Alike (Query.Act k a)
    row_alike = alike.act_alike d c h.gone m h.kept h.less r g v at stage alive o tx commit ends

    shadow : (f : Member) (row : ℕ) (z : Option (ℕ × List ℕ)) → is_some z ≡ true → Alike (shadow_asks t f row z)
    shadow f row None there = cc
    shadow f row (Some z) there = row_alike (at_row (shadow_key f.1 t z.0 z.1) row) refl Act.Look (λ off. let clash = sym off ∙ alive in cc)

  abbrev VisitOf : List Called → Option ℕ → Option (ℕ × List ℕ) → Option Value → EndAt → EndState
  VisitOf path after item value a = record { path = path; after = after; item = item; value = value; at = a }

  abbrev Finds : List Called → EndState → Type 0
  Finds path v = g.stage ≡ Stage.End v → is_past v.at ≡ true → Visited (end_walk r.id r.func o step commit v) h.kept → FindsFirstCall (visited_by t path) h.kept × FindsFirstLock t (visited_by t path) h.kept

  finds : (v : EndState) → Finds v.path v
  finds v stage past visited = finds_first d c h.kept h.upkeep.invariant t (step, commit) (has v stage past visited) v.path visited.member

  ahead_free : (path : List Called) (after : Option ℕ) (z : ℕ × List ℕ) (value : Option Value) (wr : WriteAt) → g.stage ≡ Stage.End (VisitOf path after (Some z) value (EndAt.Free wr)) → StaysFor d.life r.deadline (chain m (cell_key (visited_by t path).1 z.0 z.1)) (at_of wr)
  ahead_free path after z value wr stage = subst (λ s. StaysAtStage d.life r.deadline m r.id r.func s g.machine.effect (Some (Own o))) stage (subst (StaysAtStage d.life r.deadline m r.id r.func g.stage g.machine.effect) tx ahead)

  -- ---- an item is given back
  module _ (path : List Called) (after : Option ℕ) (z : ℕ × List ℕ) (value : Option Value) (wr : WriteAt) (stage : g.stage ≡ Stage.End (VisitOf path after (Some z) value (EndAt.Free wr))) (past : is_past (EndAt.Free wr) ≡ true)
      (visited : Visited (end_walk r.id r.func o step commit (VisitOf path after (Some z) value (EndAt.Free wr))) h.kept) where
    abbrev its : Item
    its = record { func = (visited_by t path).1; table = z.0; key = z.1 }

    abbrev f : Chain
    f = chain h.kept (head_key its)

    abbrev place : Place
    place = free_place t step path

    abbrev FreeAt : WriteAt → EndState
    FreeAt w = VisitOf path after (Some z) value (EndAt.Free w)

    abbrev own : Bool
    own = is_own (end_walk r.id r.func o step commit (FreeAt wr)) (item_in (visited_by t path).1 h.kept z)

    numbered : (w : WriteAt) → SeesFreeing own f place w → IsNumbered (at_of w)
    numbered (WriteAt.Try row) sees = tt
    numbered WriteAt.Make sees = tt
    numbered (WriteAt.Append k v) sees = numbered_of f place (At.Append k v.value v.owner) sees
    numbered (WriteAt.Link k) sees = numbered_of f place (At.Link k) sees

    -- while it is the transaction's, who is visited is not gone
    owner_there : own ≡ true → h.gone place.intent ≡ false
    owner_there owned = by_way path refl
      where
        by_way : (cs : List Called) → path ≡ cs → h.gone (free_place t step cs).intent ≡ false
        by_way [] is = alive
        by_way (e ∷ es) is = false_by (h.gone (visited_by t (e ∷ es)).0) (λ off.
            let seen = subst (λ cs. Visited (end_walk r.id r.func o step commit (VisitOf cs after (Some z) value (EndAt.Free wr))) h.kept) is visited in
            let shut = closed e es after value off (Some z) (EndAt.Free wr) (stage ∙ ap (λ cs. Stage.End (VisitOf cs after (Some z) value (EndAt.Free wr))) is) refl seen in
            let free = there_row h.kept (lock_row (end_walk r.id r.func o step commit (FreeAt wr)) (visited_by t (e ∷ es)) z) _ refl seen.asked ((seen.released e es seen.member shut).0 z) in
            let clash = sym owned ∙ ap (λ cs. is_own (end_walk r.id r.func o step commit (FreeAt wr)) (item_in (visited_by t cs).1 h.kept z)) is ∙ free in cc)

    -- where it was led past rows it sees at the row that it comes to what it has to
    seen_at : (w : WriteAt) → wr ≡ w → SeesFreeing own f place w → own ≡ true → SeesAt f place (at_of wr)
    seen_at (WriteAt.Try row) is sees owned = subst (λ w. SeesAt f place (at_of w)) (sym is) (sees.0.0, sees.1 owned, sees.0.1)
    seen_at WriteAt.Make is sees owned = subst (λ w. SeesAt f place (at_of w)) (sym is) tt
    seen_at (WriteAt.Append k v) is sees owned = subst (λ w. SeesAt f place (at_of w)) (sym is) sees
    seen_at (WriteAt.Link k) is sees owned = subst (λ w. SeesAt f place (at_of w)) (sym is) sees

    comes : (row j : ℕ) (u : Cell) → map.get m (at_row (head_key its) row) ≡ Some (Row.Cell u) → u.next ≡ Some j → (wr ≡ WriteAt.Try row → note_at u.log place ≡ None) → (wr ≡ WriteAt.Try row) ⊎ (wr ≡ WriteAt.Link (row + 1)) → SeesFreeing own f place (WriteAt.Try j)
    comes row j u is to none where_at = (
      reads_go_further h.gone (chain m (head_key its)) f (kept_links d c m h room old new b n x i r live in_time g at its row u is) (h.less.cells its) row j u is to,
      λ owned. (sees_then d c m h room old new b n x i r live in_time g at its place wr (owner_there owned) (seen_at wr refl visited.sees owned) row j u is to none where_at).1,
    )

    there_then : (j : ℕ) → SeesFreeing own f place (WriteAt.Try j) → Visited (end_walk r.id r.func o step commit (FreeAt (WriteAt.Try j))) h.kept
    there_then j sees = record {
      decided = visited.decided;
      item = visited.item;
      begins = visited.begins;
      from = visited.from;
      member = visited.member;
      gives = visited.gives;
      sees = sees;
      asked = visited.asked;
      callees = visited.callees;
      freed = visited.freed;
      released = visited.released;
      marked = visited.marked;
      linked = visited.linked;
    }

    gives_back : StaysFor d.life r.deadline (chain m (head_key its)) (at_of wr) → Turns
    gives_back stays = writes d c m h room old new b n x i r live in_time g at its place (Owner.Tx t) (CellOp.Free value) wr
        (asks_is (FreeAt wr) stage past visited) stays (numbered wr visited.sees)
        (λ row is. walks_is d c m h room old new b n x i r live in_time g at (Stage.End (FreeAt wr)) stage (Effect.End commit) ends (Some (Own o)) tx ∙ ap (λ w. write_walking place (cell_key its.func z.0 z.1) w) is)
        (λ j. Stage.End (FreeAt (WriteAt.Try j))) (λ row j is. ap (stage_to j) stage ∙ ap (λ w. stage_to j (Stage.End (FreeAt w))) is)
        (λ l k j is told. output_is d c m h room old new b n x i r live in_time g at (Stage.End (FreeAt wr)) stage (Effect.End commit) ends (Some (Own o)) tx (query_reply (run_asks r) c.now l) ∙ ap (λ y. turned_by d r g (visit_output commit (FreeAt wr) (end_goes t step commit path (EndAt.Free wr) y))) told)
        (λ j. refl) (λ j. tt) (λ j. tt)
        (λ row j u is to none where_at. at_stage_is d c m h room old new b n x i r live in_time g at (Stage.End (FreeAt wr)) stage (Effect.End commit) ends (Some (Own o)) tx (Stage.End (FreeAt (WriteAt.Try j))) (λ k. (past, there_then j (comes row j u is to none where_at))))

  by_visit : (path : List Called) (after : Option ℕ) (item : Option (ℕ × List ℕ)) (value : Option Value) (a : EndAt) → g.stage ≡ Stage.End (VisitOf path after item value a) → is_past a ≡ true → Visited (end_walk r.id r.func o step commit (VisitOf path after item value a)) h.kept → Turns
  by_visit path after item value EndAt.Decide stage past visited = cc
  by_visit [] after item value EndAt.Callees stage past visited =
      let v = VisitOf [] after item value EndAt.Callees in
      same_turn v stage past visited EndAt.Callees refl (alike.calls d c h.gone m h.kept h.less r g v at stage alive o tx commit ends refl alive (finds v stage past visited).0)
  by_visit (e ∷ es) after None value EndAt.Callees stage past visited =
      let v = VisitOf (e ∷ es) after None value EndAt.Callees in
      by_gone (h.gone (visited_by t (e ∷ es)).0) (visited_by t (e ∷ es)).0 refl
      (λ on. same_turn v stage past visited EndAt.Callees refl (alike.calls d c h.gone m h.kept h.less r g v at stage alive o tx commit ends refl on (finds v stage past visited).0))
      (λ off. calls_gone e es after value off stage visited (call_after (visited_by t (e ∷ es)).1 (visited_by t (e ∷ es)).0 (next_row m (invokes_after (visited_by t (e ∷ es)).1 (visited_by t (e ∷ es)).0 after))) refl)
  by_visit (e ∷ es) after (Some z) value EndAt.Callees stage past visited = let clash = visited.item in cc
  by_visit [] after item value EndAt.Next stage past visited =
      let v = VisitOf [] after item value EndAt.Next in
      same_turn v stage past visited EndAt.Next refl (alike.locks d c h.gone m h.kept h.less r g v at stage alive o tx commit ends refl alive (finds v stage past visited).1)
  by_visit (e ∷ es) after item value EndAt.Next stage past visited =
      let v = VisitOf (e ∷ es) after item value EndAt.Next in
      by_gone (h.gone (visited_by t (e ∷ es)).0) (visited_by t (e ∷ es)).0 refl
      (λ on. same_turn v stage past visited EndAt.Next refl (alike.locks d c h.gone m h.kept h.less r g v at stage alive o tx commit ends refl on (finds v stage past visited).1))
      (λ off. locks_gone e es after value off item stage visited (item_after (visited_by t (e ∷ es)).1 (visited_by t (e ∷ es)).0 t.begin (next_row m (lockset_after (visited_by t (e ∷ es)).1 (visited_by t (e ∷ es)).0 t.begin item))) refl)
  by_visit path after item value (EndAt.Shadow row) stage past visited =
      let v = VisitOf path after item value (EndAt.Shadow row) in same_turn v stage past visited (EndAt.Shadow row) refl (shadow v stage (visited_by t path) row item visited.item)
  by_visit path after None value (EndAt.Free a) stage past visited = cc
  by_visit path after (Some z) value (EndAt.Free a) stage past visited = gives_back path after z value a stage past visited (ahead_free path after z value a stage)
  by_visit path after item value EndAt.Stamp stage past visited =
      let v = VisitOf path after item value EndAt.Stamp in same_turn v stage past visited EndAt.Stamp refl (alike.stamps d c h.gone m h.kept h.less r g v at stage alive o tx commit ends refl)

-- by the effect and the transaction of the run
pub visit_turns : ClosedArePassed → (d : Deployment) (c : Core) (m : Rows) (h : HasKept d c m) (room old new : ℕ) (b : Core) (n : Rows) (x : Result EventReply AllocError) (i : ℕ) (r : Run) → map.get c.runs i ≡ Some r → c.now ≤ r.deadline → (g : Begun) → r.at ≡ Begins g → StaysAhead d.life m r (Begins g) → (v : EndState) → g.stage ≡ Stage.End v
    → Goal d c m h room old new b n x (Event.Turn i) (asks (run_asks r)) × Goal d c m h room old new b n x (Event.Lost i) (asks (run_asks r))
visit_turns may_pass d c m h room old new b n x i r live in_time g at ahead v stage =
    by_effect g.machine.effect refl g.tx refl (subst (λ s. AtStage h.kept h.upkeep.invariant.plain c.book knows.0 s g.machine.effect g.tx) stage knows.1.here)
  where
    knows : KnowsAt d h.kept h.upkeep.invariant.plain c.book h.upkeep.invariant.histories r (Begins g)
    knows = subst (KnowsAt d h.kept h.upkeep.invariant.plain c.book h.upkeep.invariant.histories r) at (subst (RunAt d h.kept h.upkeep.invariant.plain c.book h.upkeep.invariant.histories) live (h.upkeep.invariant.runs.runs i))

    by_effect : (e : Effect) → g.machine.effect ≡ e → (o : Option RunTx) → g.tx ≡ o → AtStage h.kept h.upkeep.invariant.plain c.book knows.0 (Stage.End v) e o
        → Goal d c m h room old new b n x (Event.Turn i) (asks (run_asks r)) × Goal d c m h room old new b n x (Event.Lost i) (asks (run_asks r))
    by_effect (Effect.End commit) ends (Some (Own o)) tx here = by_visit may_pass d c m h room old new b n x i r live in_time g at ahead o tx commit ends v.path v.after v.item v.value v.at stage here.0 here.1
    by_effect e ends o tx here = absurd here
