-- A turn at the end of a transaction leaves less of the visit.
use Rattle.std.specs.Prelude.{nat_lt}
use Rattle.std.specs.FinMap as map
use Rattle.std.specs.Ordering.{is_lt}
use Rattle.std.specs.declared.cmp.Ordering.{Ordering, TheVariants.Less, TheVariants.Equal, TheVariants.Greater}
use Rattle.std.proofs.lemmas.{Bool.le-ltb, Bool.lt-ltb, Cmp.tied_itself, List.length-append}
use Rattle.std.proofs.Common.{Bool, List, None, Option, Some, [], ap, arith, eq-eqb, false, if◌then◌else◌, is_some, ltb-true, refl, subst, suc, sym, true, ℕ, ◌&&◌, ◌*◌, ◌++◌, ◌+◌, ◌-◌, ◌<◌, ◌==◌, ◌∙◌, ◌∷◌, ◌≡◌, ◌≤◌}
use Rattle.beldi_value.specs.{Id.has_callees, declared.place.Owner.Owner, declared.place.Place.Place, declared.place.TxId.TxId, declared.value.Value.Value}
use Rattle.beldi_tree.specs.declared.deployment.Deployment.{Deployment}
use Rattle.beldi_lang.specs.declared.effect.Effect.{Effect}
use Rattle.beldi_row.specs.{Act.act, Act.kept_reply, Key.RowKey, Key.key_cmp, KeyOrder.key_total, Table.IsNext, Table.Rows, Table.next_row, declared.act.Act.Act, declared.key.Kind.Kind, declared.notes.Note.Note, declared.row.Row.Row}
use Rattle.beldi_row.proofs.Least.{next_row_least}
use Rattle.beldi_query.specs.{Query.rows_after, Query.replied, Query.query_reply, declared.query.Query.Query}
use Rattle.beldi_chain.specs.Chain.{chain}
use Rattle.beldi_links.specs.Links.{IsLinked, ReadsAt}
use Rattle.beldi_daal.specs.{Cell.cell_key, Cell.read_goes, Cell.shadow_key, Cell.write_asks, Cell.write_goes, declared.cell.CellOp.CellOp, declared.cell.ReadGoes.ReadGoes, declared.cell.WriteAt.WriteAt, declared.cell.WriteAt.TheVariants.Try, declared.cell.WriteGoes.WriteGoes}
use Rattle.beldi_lock.specs.{Lock.lockset_key, Lockset.item_after, Lockset.lockset_after}
use Rattle.beldi_lock.proofs.Last.{split_front}
use Rattle.beldi_txn.specs.End.{at_calls, back_from, call_goes, calls_after, calls_goes, counts, decide_goes, end_goes, first_visit, free_first, free_place, freed_goes, last_goes, end_after, next_goes, value_goes, visit_asks, visited_by}
use Rattle.beldi_txn.specs.{Invokes.IsAfter, Invokes.call_after, Invokes.call_key, Invokes.invokes_after, Visited.IsFrom, Visited.IsMember, Visited.RowsStay, Visited.SeesFreeing, Visited.StartsWithin, Visited.Visited, Visited.is_own, Visited.item_in, CallPath.Member, CallPath.is_owner, declared.end.EndAt.EndAt, declared.end.EndGoes.EndGoes, declared.end.EndState.EndState, declared.end_walk.EndWalk.EndWalk, declared.call_path.Called.Called}
use Rattle.beldi_txn.proofs.{InvokedInside.call_past, InvokedInside.is_call, Levels.ends_in, LocksetRows.Item, LocksetRows.is_item}
use Rattle.beldi_step.specs.{HostStep.Core, Run.decided_output, Run.asks_at, Run.own_tx, Run.run_asks, Run.stage_asks, Run.stage_output, Run.visit_output, Tables.decision_key, declared.run.Begun.Begun, declared.run.Mark.Mark, declared.run.Run.Run, declared.run.RunAt.RunAt, declared.run.RunTx.RunTx, declared.run.RunTx.TheVariants.Own, declared.run.Stage.Stage}
use Rattle.beldi_book.specs.LinearOrder.{count_changes}
use Rattle.beldi_invariant.specs.{OneAnswer.IsBegun, Invariant.AtStage, Invariant.Knows, Invariant.Invariant, Invariant.is_past}
use Rattle.beldi_upkeep.specs.Checked.{next_output}
use Rattle.beldi_upkeep.proofs.Notes.{decisions_are_own, knows}
use Rattle.beldi_bound.specs.{Ends.Sound, Left.OutputLower, Left.decided_visit, Left.left_at, Visits.at_left, Visits.call_ahead, Visits.call_is_ahead, Visits.call_cost, Visits.call_turns, Visits.chain_length, Visits.end_row_cost, Visits.freed_length, Visits.freed_there, Visits.is_ahead, Visits.is_call_ahead, Visits.is_lock_ahead, Visits.is_within, Visits.last_left, Visits.lock_ahead, Visits.lock_cost, Visits.lock_is_ahead, Visits.lock_past, Visits.lock_turns, Visits.put_left, Visits.row_left, Visits.steps_of, Visits.steps_to, Visits.sum_by, Visits.visit_left, Visits.path_left}
use Rattle.beldi_bound.proofs.{Facts.GoesOn, Lengths.freed_some, Lengths.length_some, Puts.Freed, Puts.ReadOn, Puts.free_turn, Puts.put_falls, Puts.put_some, Puts.read_turn, Puts.there_stays}
use Rattle.beldi_bound.proofs.Sums.{sum_less, sum_lower}
use Rattle.beldi_bound.proofs.BoundAhead.{calls_more, locks_more, calls_pushed, locks_pushed, calls_popped, locks_popped, call_here, call_above, lock_here, steps_more, steps_here}

-- ---- small facts
if_at_most : (a b : Bool) (n : ℕ) → (a ≡ true → b ≡ true) → (if a then n else 0) ≤ (if b then n else 0)
if_at_most true true n more = omega arith
if_at_most true false n more = let clash = more refl in cc
if_at_most false b n more = omega arith

less_is : (o : Ordering) → is_lt o ≡ true → o ≡ Less
less_is Less h = refl
less_is Equal h = cc
less_is Greater h = cc

-- an item that is found first costs so many turns beside
first_few : (commit there : Bool) (c s last : ℕ) → 1 ≤ c → 1 ≤ s → at_left c s there last (free_first commit) ≤ last + (3 * c + s + 1)
first_few true true c s last one two = omega (arith, one, two)
first_few true false c s last one two = omega (arith, one, two)
first_few false true c s last one two = omega (arith, one, two)
first_few false false c s last one two = omega (arith, one, two)

-- ---- a call more on the way
abbrev base : List Called → ℕ
base cs = path_left cs + last_left cs

base_more : (cs : List Called) (c : Called) → base (cs ++ c ∷ []) ≡ base cs + 3
base_more [] c = refl
base_more (d ∷ ds) c = let n = length-append ds (c ∷ []) in omega (arith, n)

last_more : (cs : List Called) (c : Called) → last_left (cs ++ c ∷ []) ≡ 2
last_more [] c = refl
last_more (d ∷ ds) c = refl

-- ---- with less ahead, less is left of the rows
module _ (t : TxId) (z v : EndState) where
  record Fewer : Type 0 where
    calls : (xs : List ℕ) (n : ℕ) → is_call_ahead (call_ahead z.at z.after) (steps_of z.path) xs n ≡ true → is_call_ahead (call_ahead v.at v.after) (steps_of v.path) xs n ≡ true
    locks : (k : RowKey) (xs : List ℕ) → is_lock_ahead (call_ahead z.at z.after) (lock_ahead z.at (visited_by t z.path) t.begin z.item k) (steps_of z.path) xs ≡ true
        → is_lock_ahead (call_ahead v.at v.after) (lock_ahead v.at (visited_by t v.path) t.begin v.item k) (steps_of v.path) xs ≡ true

  module _ (e : Rows) (end : ℕ) (fewer : Fewer) where
    fewer_calls : (n : ℕ) (s : Option (List ℕ)) → call_is_ahead z n s ≡ true → call_is_ahead v n s ≡ true
    fewer_calls n None h = h
    fewer_calls n (Some xs) h = fewer.calls xs n h

    fewer_locks : (k : RowKey) (s : Option (List ℕ)) → lock_is_ahead t z k s ≡ true → lock_is_ahead t v k s ≡ true
    fewer_locks k None h = h
    fewer_locks k (Some xs) h = fewer.locks k xs h

    fewer_kinds : (k : RowKey) (kind : Kind) → is_ahead t z k kind ≡ true → is_ahead t v k kind ≡ true
    fewer_kinds k (Kind.Invoke p) h = fewer_calls p.step (steps_to t p.intent) h
    fewer_kinds k (Kind.Lockset i b n x) h = fewer_locks k (steps_to t i) h
    fewer_kinds k kind h = h

    fewer_rows : (k : RowKey) (r : Row) → row_left e t end z k r ≤ row_left e t end v k r
    fewer_rows k r = if_at_most (is_ahead t z k k.kind) (is_ahead t v k k.kind) (end_row_cost e t end k r) (fewer_kinds k k.kind)

    rows_less : sum_by (row_left e t end z) (map.entries e) ≤ sum_by (row_left e t end v) (map.entries e)
    rows_less = sum_less (row_left e t end z) (row_left e t end v) fewer_rows (map.entries e)

    -- .. by what a row costs that is ahead no more
    rows_lower : (n : ℕ) (k : RowKey) → is_some (map.get e k) ≡ true → is_ahead t z k k.kind ≡ false → is_ahead t v k k.kind ≡ true → ((r : Row) → end_row_cost e t end k r ≡ n)
        → sum_by (row_left e t end z) (map.entries e) + n ≤ sum_by (row_left e t end v) (map.entries e)
    rows_lower n k there off on cost = sum_lower (row_left e t end z) (row_left e t end v) fewer_rows n k falls e there
      where
        falls : (r : Row) → row_left e t end z k r + n ≤ row_left e t end v k r
        falls r =
            let a : row_left e t end z k r ≡ 0 = ap (λ b. if b then end_row_cost e t end k r else 0) off in
            let b : row_left e t end v k r ≡ n = ap (λ b. if b then end_row_cost e t end k r else 0) on ∙ cost r in
            omega (arith, a, b)

-- ---- the visits of a transaction
module _ (t : TxId) where
  abbrev visit : List Called → Option ℕ → Option Item → Option Value → EndAt → EndState
  visit cs af i u a = record { path = cs; after = af; item = i; value = u; at = a }

  abbrev who : List Called → Member
  who cs = visited_by t cs

  -- at the same intent
  same_way : (cs : List Called) (af bf : Option ℕ) (i j : Option Item) (u w : Option Value) (a b : EndAt) → ((n : ℕ) → call_ahead a af n ≡ true → call_ahead b bf n ≡ true)
      → ((k : RowKey) → lock_ahead a (who cs) t.begin i k ≡ true → lock_ahead b (who cs) t.begin j k ≡ true) → Fewer t (visit cs af i u a) (visit cs bf j w b)
  same_way cs af bf i j u w a b calls locks = record {
    calls = λ xs n. calls_more (call_ahead a af) (call_ahead b bf) calls (steps_of cs) xs n;
    locks = λ k xs. locks_more (call_ahead a af) (call_ahead b bf) calls (lock_ahead a (who cs) t.begin i k) (lock_ahead b (who cs) t.begin j k) (locks k) (steps_of cs) xs;
  }

  -- what is past a call that is ahead is ahead
  past_it : (af : Option ℕ) (s : ℕ) → call_ahead EndAt.Callees af s ≡ true → (n : ℕ) → s < n → call_ahead EndAt.Callees af n ≡ true
  past_it None s h n less = refl
  past_it (Some a) s h n less = let b = ltb-true a s h in lt-ltb a n (omega (arith, b, less))

  -- at a callee
  pushed : (cs : List Called) (af : Option ℕ) (i : Option Item) (u : Option Value) (c : Called) → call_ahead EndAt.Callees af c.step ≡ true → Fewer t (at_calls (cs ++ c ∷ []) None) (visit cs af i u EndAt.Callees)
  pushed cs af i u c h = record {
    calls = λ xs n e. calls_pushed (call_ahead EndAt.Callees None) f c.step h past (steps_of cs) xs n (subst (λ ps. is_call_ahead (call_ahead EndAt.Callees None) ps xs n ≡ true) (steps_more cs c) e);
    locks = λ k xs e. locks_pushed (call_ahead EndAt.Callees None) f c.step h past true (steps_of cs) xs (subst (λ ps. is_lock_ahead (call_ahead EndAt.Callees None) true ps xs ≡ true) (steps_more cs c) e);
  }
    where
      f : ℕ → Bool
      f = call_ahead EndAt.Callees af

      past : (n : ℕ) → c.step < n → f n ≡ true
      past = past_it af c.step h

  -- back at the caller
  popped : (cs : List Called) (c : Called) (af : Option ℕ) (i : Option Item) (u : Option Value) → Fewer t (at_calls cs (Some c.step)) (visit (cs ++ c ∷ []) af i u EndAt.Stamp)
  popped cs c af i u = record {
    calls = λ xs n e. subst (λ ps. is_call_ahead (call_ahead EndAt.Stamp af) ps xs n ≡ true) (sym (steps_more cs c)) (calls_popped (call_ahead EndAt.Stamp af) c.step (steps_of cs) xs n e);
    locks = λ k xs e. subst (λ ps. is_lock_ahead (call_ahead EndAt.Stamp af) false ps xs ≡ true) (sym (steps_more cs c)) (locks_popped (call_ahead EndAt.Stamp af) c.step true false (steps_of cs) xs e);
  }

-- ---- a turn of a visit
module _ (t : TxId) (end : ℕ) (commit : Bool) (e : Rows) where
  abbrev at : List Called → Option ℕ → Option Item → Option Value → EndAt → EndState
  at cs af i u a = visit t cs af i u a

  abbrev walk : EndState → EndWalk
  walk v = record { tx = t; end = end; commit = commit; visit = v }

  abbrev sum : EndState → ℕ
  sum v = sum_by (row_left e t end v) (map.entries e)

  abbrev left : Rows → EndState → ℕ
  left m v = visit_left e m t end v

  -- what it leaves, by where it goes
  abbrev Falls : Rows → Rows → EndState → EndGoes → Type 0
  Falls m n v EndGoes.Done = 1 ≤ left m v
  Falls m n v EndGoes.Worn = Unit {0}
  Falls m n v z = suc (left n (end_after commit v z)) ≤ left m v

  abbrev Keys : Rows → Type 0
  Keys m = (k : RowKey) → is_some (map.get m k) ≡ true → is_some (map.get e k) ≡ true

  -- ---- the row that is found, of who is visited
  module _ (m : Rows) (keys : Keys m) (cs : List Called) (member : IsMember (walk first_visit) m cs) where
    abbrev p : Member
    p = visited_by t cs

    steps : steps_to t p.0 ≡ Some (steps_of cs)
    steps = steps_here m t cs member.1

    both_within : (n : ℕ) → t.begin < n → n < end → (nat_lt t.begin n && nat_lt n end) ≡ true
    both_within n a b = ap (λ z. z && nat_lt n end) (lt-ltb t.begin n a) ∙ lt-ltb n end b

    starts_within : (cs : List Called) → StartsWithin (walk first_visit) cs → is_within t end (steps_of cs) ≡ true
    starts_within [] h = refl
    starts_within (d ∷ ds) h = both_within d.step h.0 h.1

    -- ---- a call
    module _ (af : Option ℕ) (i : Option Item) (u : Option Value) (from : IsFrom (walk first_visit) cs af) (c : Called) (past : IsAfter (calls_after t cs af) c.step) (there : is_some (map.get m (call_key p.1 p.0 c.step)) ≡ true) (counted : counts end cs c ≡ true) where
      abbrev key : RowKey
      key = call_key p.1 p.0 c.step

      abbrev here : EndState
      here = at cs af i u EndAt.Callees

      ahead_by : (cs : List Called) (af : Option ℕ) → IsAfter (calls_after t cs af) c.step → call_ahead EndAt.Callees af c.step ≡ true
      ahead_by cs None h = refl
      ahead_by [] (Some a) h = lt-ltb a c.step h
      ahead_by (d ∷ ds) (Some a) h = lt-ltb a c.step h

      ahead : call_ahead EndAt.Callees af c.step ≡ true
      ahead = ahead_by cs af past

      within_by : (cs : List Called) (af : Option ℕ) → IsFrom (walk first_visit) cs af → IsAfter (calls_after t cs af) c.step → counts end cs c ≡ true → StartsWithin (walk first_visit) cs → is_within t end (steps_of cs ++ c.step ∷ []) ≡ true
      within_by [] None from past counted starts = both_within c.step past (ltb-true c.step end counted)
      within_by [] (Some a) from past counted starts = both_within c.step (omega (arith, from, past)) (ltb-true c.step end counted)
      within_by (d ∷ ds) af from past counted starts = both_within d.step starts.0 starts.1

      cost : (r : Row) → end_row_cost e t end key r ≡ 4
      cost r = ap (call_cost t end c.step) steps ∙ ap call_turns (within_by cs af from past counted member.0)

      on : is_ahead t here key key.kind ≡ true
      on = ap (call_is_ahead here c.step) steps ∙ call_here (call_ahead EndAt.Callees af) (steps_of cs) c.step ∙ ahead

      abbrev callee : EndState
      callee = at_calls (cs ++ c ∷ []) None

      callee_off : is_ahead t callee key key.kind ≡ false
      callee_off = ap (call_is_ahead callee c.step) steps ∙ ap (λ ps. is_call_ahead (call_ahead EndAt.Callees None) ps (steps_of cs) c.step) (steps_more cs c)
          ∙ call_above (call_ahead EndAt.Callees None) (steps_of cs) c.step c.step ∙ le-ltb c.step c.step (omega arith)

      to_callee : suc (left m callee) ≤ left m here
      to_callee =
          let rows = rows_lower t callee here e end (pushed t cs af i u c ahead) 4 key (keys key there) callee_off on cost in
          let more = base_more cs c in
          omega (arith, rows, more)

      abbrev passed : EndState
      passed = at cs (Some c.step) i u EndAt.Callees

      passed_off : is_ahead t passed key key.kind ≡ false
      passed_off = ap (call_is_ahead passed c.step) steps ∙ call_here (nat_lt c.step) (steps_of cs) c.step ∙ le-ltb c.step c.step (omega arith)

      to_passed : suc (left m passed) ≤ left m here
      to_passed =
          let fewer = same_way t cs (Some c.step) af i i u u EndAt.Callees EndAt.Callees (λ n h. past_it t af c.step ahead n (ltb-true c.step n h)) (λ k h. h) in
          let rows = rows_lower t passed here e end fewer 4 key (keys key there) passed_off on cost in
          omega (arith, rows)

      by_id : (b : Bool) → Falls m m here (call_goes b cs c)
      by_id true = to_callee
      by_id false = to_passed

    -- none that counts is left: to the locks
    to_next : (af : Option ℕ) (i : Option Item) (u : Option Value) → Falls m m (at cs af i u EndAt.Callees) (EndGoes.On EndAt.Next)
    to_next af i u =
        let rows = rows_less t (at cs af i u EndAt.Next) (at cs af i u EndAt.Callees) e end (same_way t cs af af i i u u EndAt.Next EndAt.Callees (λ n h. cc) (λ k h. refl)) in
        omega (arith, rows)

    calls_fall : (af : Option ℕ) (i : Option Item) (u : Option Value) → IsFrom (walk first_visit) cs af → (x : Option (RowKey × Row)) → IsNext m (invokes_after p.1 p.0 (calls_after t cs af)) x
        → (f : Option Called) → call_after p.1 p.0 x ≡ f → Falls m m (at cs af i u EndAt.Callees) (calls_goes end p cs f)
    calls_fall af i u from x next None is = to_next af i u
    calls_fall af i u from None next (Some c) is = cc
    calls_fall af i u from (Some x) next (Some c) is = by_count (counts end cs c) refl
      where
        same : x.0 ≡ call_key p.1 p.0 c.step
        same = (is_call p.1 p.0 x.0.home x.0.kind x.1 c is).0

        after_it : (a : Option ℕ) → IsNext m (invokes_after p.1 p.0 a) (Some x) → IsAfter a c.step
        after_it None h = tt
        after_it (Some a) h = call_past p.1 p.0 m a c x h.0 is

        by_count : (b : Bool) → counts end cs c ≡ b → Falls m m (at cs af i u EndAt.Callees) (if b then call_goes (has_callees p.0) cs c else EndGoes.On EndAt.Next)
        by_count true counted = by_id af i u from c (after_it (calls_after t cs af) next) (ap is_some (ap (map.get m) (sym same) ∙ next.1)) counted (has_callees p.0)
        by_count false counted = to_next af i u

    -- ---- a lock
    module _ (af : Option ℕ) (i : Option Item) (u : Option Value) where
      abbrev at_next : EndState
      at_next = at cs af i u EndAt.Next

      abbrev lock_key : Item → RowKey
      lock_key j = lockset_key p.1 p.0 t.begin j.0 j.1

      module _ (j : Item) (past : lock_past p t.begin i (lock_key j) ≡ true) (there : is_some (map.get m (lock_key j)) ≡ true) where
        abbrev freeing : EndAt → EndState
        freeing a = at cs af (Some j) None a

        abbrev c : ℕ
        c = chain_length e (cell_key p.1 j.0 j.1)

        abbrev s : ℕ
        s = chain_length e (shadow_key p.1 t j.0 j.1)

        lock_costs : (r : Row) → end_row_cost e t end (lock_key j) r ≡ 3 * c + s + 2
        lock_costs r = ap (lock_cost t end c s (t.begin == t.begin)) steps ∙ ap (λ b. lock_turns c s (b && is_within t end (steps_of cs))) (eq-eqb t.begin t.begin refl) ∙ ap (lock_turns c s) (starts_within cs member.0)

        lock_on : is_ahead t at_next (lock_key j) (lock_key j).kind ≡ true
        lock_on = ap (lock_is_ahead t at_next (lock_key j)) steps ∙ lock_here (call_ahead EndAt.Next af) (lock_past p t.begin i (lock_key j)) (steps_of cs) ∙ past

        not_past : lock_past p t.begin (Some j) (lock_key j) ≡ false
        not_past = ap is_lt (tied_itself key_total (lock_key j))

        past_by : (i : Option Item) → lock_past p t.begin i (lock_key j) ≡ true → (k : RowKey) → lock_past p t.begin (Some j) k ≡ true → lock_past p t.begin i k ≡ true
        past_by None h k g = refl
        past_by (Some o) h k g = ap is_lt (key_total.trans (lock_key o) (lock_key j) k (less_is (key_cmp (lock_key o) (lock_key j)) h) (less_is (key_cmp (lock_key j) k) g))

        to_item : (b : Bool) → suc (left m (freeing (free_first b))) ≤ left m at_next
        to_item true =
            let off : is_ahead t (freeing (EndAt.Shadow 0)) (lock_key j) (lock_key j).kind ≡ false = ap (lock_is_ahead t (freeing (EndAt.Shadow 0)) (lock_key j)) steps ∙ lock_here (call_ahead (EndAt.Shadow 0) af) (lock_past p t.begin (Some j) (lock_key j)) (steps_of cs) ∙ not_past in
            let rows = rows_lower t (freeing (EndAt.Shadow 0)) at_next e end (same_way t cs af af (Some j) i None u (EndAt.Shadow 0) EndAt.Next (λ n h. h) (past_by i past)) (3 * c + s + 2) (lock_key j) (keys (lock_key j) there) off lock_on lock_costs in
            let few = first_few true (freed_there m p (Some j)) c s (last_left cs) (length_some e (cell_key p.1 j.0 j.1)) (length_some e (shadow_key p.1 t j.0 j.1)) in
            omega (arith, rows, few)
        to_item false =
            let off : is_ahead t (freeing (EndAt.Free (Try 0))) (lock_key j) (lock_key j).kind ≡ false = ap (lock_is_ahead t (freeing (EndAt.Free (Try 0))) (lock_key j)) steps ∙ lock_here (call_ahead (EndAt.Free (Try 0)) af) (lock_past p t.begin (Some j) (lock_key j)) (steps_of cs) ∙ not_past in
            let rows = rows_lower t (freeing (EndAt.Free (Try 0))) at_next e end (same_way t cs af af (Some j) i None u (EndAt.Free (Try 0)) EndAt.Next (λ n h. h) (past_by i past)) (3 * c + s + 2) (lock_key j) (keys (lock_key j) there) off lock_on lock_costs in
            let few = first_few false (freed_there m p (Some j)) c s (last_left cs) (length_some e (cell_key p.1 j.0 j.1)) (length_some e (shadow_key p.1 t j.0 j.1)) in
            omega (arith, rows, few)

      locks_fall : (x : Option (RowKey × Row)) → IsNext m (lockset_after p.1 p.0 t.begin i) x → (f : Option Item) → item_after p.1 p.0 t.begin x ≡ f → Falls m m at_next (next_goes cs f)
      locks_fall x next None is = none cs
        where
          none : (cs : List Called) → Falls m m (at cs af i u EndAt.Next) (last_goes (is_owner cs))
          none [] = omega arith
          none (d ∷ ds) =
              let rows = rows_less t (at (d ∷ ds) af i u EndAt.Stamp) (at (d ∷ ds) af i u EndAt.Next) e end (same_way t (d ∷ ds) af af i i u u EndAt.Stamp EndAt.Next (λ n h. h) (λ k h. cc)) in
              omega (arith, rows)
      locks_fall None next (Some j) is = cc
      locks_fall (Some x) next (Some j) is = to_item j (past_here i next) (ap is_some (ap (map.get m) (sym same) ∙ next.1)) commit
        where
          same : x.0 ≡ lock_key j
          same = is_item p.1 p.0 t.begin x.0.home x.0.kind j is

          past_here : (i : Option Item) → IsNext m (lockset_after p.1 p.0 t.begin i) (Some x) → lock_past p t.begin i (lock_key j) ≡ true
          past_here None h = refl
          past_here (Some o) h = ap is_lt (ap (key_cmp (lock_key o)) (sym same) ∙ h.0)

  -- ---- an item is given back
  module _ (m n : Rows) (cs : List Called) (af : Option ℕ) (j : Item) (u : Option Value) where
    abbrev at_item : EndAt → EndState
    at_item a = at cs af (Some j) u a

    abbrev there : Rows → Bool
    there l = freed_there l (visited_by t cs) (Some j)

    abbrev its_rows : ℕ
    its_rows = freed_length e (visited_by t cs) (Some j)

    freed_falls : (w : WriteAt) (g : WriteGoes) → Freed (put_left its_rows (there n)) (put_left its_rows (there m) w) g → Falls m n (at_item (EndAt.Free w)) (freed_goes g)
    freed_falls w (WriteGoes.On x) h = omega (arith, h)
    freed_falls w WriteGoes.Stays h = absurd h
    freed_falls w (WriteGoes.Done y first) h = let some = put_some its_rows (there m) w (freed_some e (visited_by t cs) (Some j)) in omega (arith, some)
    freed_falls w WriteGoes.NotOwner h = let some = put_some its_rows (there m) w (freed_some e (visited_by t cs) (Some j)) in omega (arith, some)
    freed_falls w (WriteGoes.Held o) h = absurd h
    freed_falls w WriteGoes.Worn h = tt

  module _ (now : ℕ) (m : Rows) (cs : List Called) (af : Option ℕ) (j : Item) (u : Option Value) where
    abbrev item_key : RowKey
    item_key = cell_key (visited_by t cs).1 j.0 j.1

    abbrev aside_key : RowKey
    aside_key = shadow_key (visited_by t cs).1 t j.0 j.1

    frees_fall : (who : Owner) (p : Place) (own : Bool) (w : WriteAt) → IsLinked (chain m item_key) → SeesFreeing own (chain m item_key) p w → let q = write_asks item_key p who (CellOp.Free u) w in RowsStay (rows_after q now m) e
        → Falls m (rows_after q now m) (at cs af (Some j) u (EndAt.Free w)) (freed_goes (write_goes Note.Freed w (query_reply q now m)))
    frees_fall who p own w linked sees stay = let q = write_asks item_key p who (CellOp.Free u) w in
        freed_falls m (rows_after q now m) cs af j u w (write_goes Note.Freed w (query_reply q now m)) (free_turn e m now item_key refl p who u linked own w sees stay)

    -- a row of the shadow is looked at, and then the next one, or the item is given back
    shadow_falls : (r : ℕ) → IsLinked (chain m aside_key) → ReadsAt (chain m aside_key) r → let q = visit_asks t end commit cs af (Some j) u (EndAt.Shadow r) in RowsStay (rows_after q now m) e
        → Falls m (rows_after q now m) (at cs af (Some j) u (EndAt.Shadow r)) (end_goes t end commit cs (EndAt.Shadow r) (query_reply q now m))
    shadow_falls r linked reads stay = goes (read_goes None (query_reply q now m)) (read_turn e m now aside_key None r linked reads stay)
      where
        q : Query
        q = visit_asks t end commit cs af (Some j) u (EndAt.Shadow r)

        p : Member
        p = visited_by t cs

        puts : put_left (chain_length e item_key) (freed_there (rows_after q now m) p (Some j)) (Try 0) ≤ put_left (chain_length e item_key) (freed_there m p (Some j)) (Try 0)
        puts = put_falls (chain_length e item_key) (freed_there m p (Some j)) (freed_there (rows_after q now m) p (Some j)) (Try 0) (there_stays q refl now m item_key)

        goes : (g : ReadGoes) → ReadOn (chain_length e aside_key) r None (chain m aside_key) g → Falls m (rows_after q now m) (at cs af (Some j) u (EndAt.Shadow r)) (value_goes g)
        goes (ReadGoes.On n) h = let next = h.0 in let less = h.1 in omega (arith, puts, next, less)
        goes ReadGoes.Stays h = absurd h
        goes (ReadGoes.Got v) h = omega (arith, puts)
        goes (ReadGoes.Held o) h = cc

  -- ---- a participant has its finish
  stamp_falls : (m n : Rows) (cs : List Called) (af : Option ℕ) (i : Option Item) (u : Option Value) → is_owner cs ≡ false → Falls m n (at cs af i u EndAt.Stamp) EndGoes.Back
  stamp_falls m n cs af i u some =
      let s = ends_in cs some in
      subst (λ ds. Falls m n (at ds af i u EndAt.Stamp) EndGoes.Back) (sym s.parts)
      (subst (λ y. suc (left n y) ≤ left m (at (s.front ++ s.last ∷ []) af i u EndAt.Stamp)) (sym (ap (back_from (at (s.front ++ s.last ∷ []) af i u EndAt.Stamp)) (split_front s.front s.last))) (back s.front s.last))
    where
      back : (front : List Called) (c : Called) → suc (left n (at_calls front (Some c.step))) ≤ left m (at (front ++ c ∷ []) af i u EndAt.Stamp)
      back front c =
          let rows = rows_less t (at_calls front (Some c.step)) (at (front ++ c ∷ []) af i u EndAt.Stamp) e end (popped t front c af i u) in
          let more = base_more front c in
          let last = last_more front c in
          omega (arith, rows, more, last)

  -- ---- any turn past the decision
  module _ (now : ℕ) (m : Rows) where
    abbrev after : EndState → Rows
    after v = rows_after (visit_asks t end commit v.path v.after v.item v.value v.at) now m

    abbrev goes : EndState → EndGoes
    goes v = end_goes t end commit v.path v.at (query_reply (visit_asks t end commit v.path v.after v.item v.value v.at) now m)

    turn_falls : (cs : List Called) (af : Option ℕ) (i : Option Item) (u : Option Value) (a : EndAt) → let v = at cs af i u a in is_past a ≡ true → Visited (walk v) m → Keys (after v) → Falls m (after v) v (goes v)
    turn_falls cs af i u EndAt.Decide past v keys = cc
    turn_falls cs af i u EndAt.Callees past v keys =
        let p = visited_by t cs in let k = invokes_after p.1 p.0 (calls_after t cs af) in calls_fall m keys cs v.member af i u v.from (next_row m k) (next_row_least m k) (call_after p.1 p.0 (next_row m k)) refl
    turn_falls cs af i u EndAt.Next past v keys =
        let p = visited_by t cs in let k = lockset_after p.1 p.0 t.begin i in locks_fall m keys cs v.member af i u (next_row m k) (next_row_least m k) (item_after p.1 p.0 t.begin (next_row m k)) refl
    turn_falls cs af (Some j) u (EndAt.Shadow r) past v keys = shadow_falls now m cs af j u r (v.linked (visited_by t cs).1 j).1 v.sees keys
    turn_falls cs af None u (EndAt.Shadow r) past v keys = let none = v.item in cc
    turn_falls cs af (Some j) u (EndAt.Free w) past v keys = frees_fall now m cs af j u (Owner.Tx t) (free_place t end cs) (is_own (walk first_visit) (item_in (visited_by t cs).1 m j)) w (v.linked (visited_by t cs).1 j).0 v.sees keys
    turn_falls cs af None u (EndAt.Free w) past v keys = let none = v.item in cc
    turn_falls cs af i u EndAt.Stamp past v keys = stamp_falls m (after (at cs af i u EndAt.Stamp)) cs af i u v.begins

-- ---- what it says
module _ (t : TxId) (end : ℕ) (commit : Bool) (e m n : Rows) (v : EndState) where
  output_lower : (f : Stage → ℕ) → ((z : EndState) → f (Stage.End z) ≡ visit_left e n t end z) → (g : EndGoes) → Falls t end commit e m n v g → OutputLower f (visit_left e m t end v) (visit_output commit v g)
  output_lower f is EndGoes.Done h = h
  output_lower f is EndGoes.Worn h = tt
  output_lower f is g h = let same = is (end_after commit v g) in omega (arith, h, same)

-- the decision is put, or is its own
decide_lower : (commit : Bool) (w : Mark) (now : ℕ) (r : Option Row) (f : Stage → ℕ) (n : ℕ) → ((z : Row) → r ≡ Some z → z ≡ Row.ReadLog (Value.Bool commit)) → suc (f (Stage.End decided_visit)) ≤ n
    → OutputLower f n (decided_output commit w (decide_goes commit (replied (act (Act.PutRead (Value.Bool commit)) now r).1)))
decide_lower commit w now None f n its h = h
decide_lower commit w now (Some z) f n its h = subst (λ y. OutputLower f n (decided_output commit w (decide_goes commit (replied (kept_reply (Some y)))))) (sym (its z refl)) (own commit)
  where
    own : (b : Bool) → OutputLower f n (decided_output b w (decide_goes b (replied (kept_reply (Some (Row.ReadLog (Value.Bool b)))))))
    own true = h
    own false = h

-- ---- a turn of a live run at the end of its transaction
abbrev pub is_end : Stage → Bool
is_end (Stage.Decide w) = true
is_end (Stage.End v) = true
is_end s = false

abbrev pub EndsLower : Type 0
EndsLower = (d : Deployment) (c : Core) (m e : Rows) (i : ℕ) (r : Run) (g : Begun) → Sound d c m → GoesOn (rows_after (run_asks r) c.now m) e → map.get c.runs i ≡ Some r → r.at ≡ RunAt.Begins g → is_end g.stage ≡ true
    → OutputLower (left_at e (rows_after (run_asks r) c.now m) r.func r.id g.tx g.machine.steps g.machine.effect) (left_at e m r.func r.id g.tx g.machine.steps g.machine.effect g.stage) (next_output c m r g)

module _ (d : Deployment) (c : Core) (m e : Rows) (r : Run) (g : Begun) (h : Invariant d c m) (b : IsBegun c r.id r g) (k : Knows d h.histories r g) where
  abbrev asks : Stage → Effect → Option RunTx → Query
  asks s f o = stage_asks r.id r.func g.caller o g.machine.steps f s

  abbrev Lower : Stage → Effect → Option RunTx → Type 0
  Lower s f o = let n = rows_after (asks s f o) c.now m in
      OutputLower (left_at e n r.func r.id o g.machine.steps f) (left_at e m r.func r.id o g.machine.steps f s) (stage_output r.id r.func g.caller o (count_changes c.book) g.machine.steps f s (query_reply (asks s f o) c.now m))

  by_decide : (w : Mark) (f : Effect) (o : Option RunTx) → g.machine.effect ≡ f → g.tx ≡ o → AtStage m h.plain c.book k (Stage.Decide w) f o → Lower (Stage.Decide w) f o
  by_decide w (Effect.End commit) (Some (Own o)) ends in_it here =
      decide_lower commit w c.now (map.get m (decision_key (own_tx r.id r.func o))) _ _ (λ z there. decisions_are_own d c m r g o commit z h b in_it ends there) (omega arith)
  by_decide w f o ends in_it here = absurd here

  by_visit : (v : EndState) (f : Effect) (o : Option RunTx) → AtStage m h.plain c.book k (Stage.End v) f o → GoesOn (rows_after (asks (Stage.End v) f o) c.now m) e → Lower (Stage.End v) f o
  by_visit v (Effect.End commit) (Some (Own o)) here goes =
      let t = own_tx r.id r.func o in
      let n = rows_after (asks (Stage.End v) (Effect.End commit) (Some (Own o))) c.now m in
      output_lower t g.machine.steps commit e m n v (left_at e n r.func r.id (Some (Own o)) g.machine.steps (Effect.End commit)) (λ z. refl) _
      (turn_falls t g.machine.steps commit e c.now m v.path v.after v.item v.value v.at here.0 here.1 goes.keys)
  by_visit v f o here goes = absurd here

  by_stage : (s : Stage) (f : Effect) (o : Option RunTx) → is_end s ≡ true → g.machine.effect ≡ f → g.tx ≡ o → AtStage m h.plain c.book k s f o → GoesOn (rows_after (asks s f o) c.now m) e → Lower s f o
  by_stage (Stage.Decide w) f o is ends in_it here goes = by_decide w f o ends in_it here
  by_stage (Stage.End v) f o is ends in_it here goes = by_visit v f o here goes
  by_stage s f o is ends in_it here goes = cc

pub ends_lower : EndsLower
ends_lower d c m e i r g sound goes live begun is =
    let h = sound.upkeep.invariant in
    let b : IsBegun c r.id r g = record { number = i; live = live; same_id = refl; begun = begun } in
    let k = knows d c m h r g b in
    let asked : run_asks r ≡ stage_asks r.id r.func g.caller g.tx g.machine.steps g.machine.effect g.stage = ap (λ (s : RunAt). asks_at r s) begun in
    subst (λ q. OutputLower (left_at e (rows_after q c.now m) r.func r.id g.tx g.machine.steps g.machine.effect) (left_at e m r.func r.id g.tx g.machine.steps g.machine.effect g.stage) (next_output c m r g)) (sym asked)
    (by_stage d c m e r g h b k.0 g.stage g.machine.effect g.tx is refl refl k.1.here (subst (λ q. GoesOn (rows_after q c.now m) e) asked goes))
