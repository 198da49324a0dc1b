-- What is left of an effect at any stage is at most what it costs.
use Rattle.beldi_plain_laws.proofs.Maps.{same_some}
use Rattle.std.specs.Ordering.{is_eq, is_lt}
use Rattle.std.proofs.lemmas.Cmp.{tied_itself}
use Rattle.std.specs.Option.{option_map}
use Rattle.std.specs.FinMap as map
use Rattle.std.proofs.Common.{Bool, List, None, Option, Some, [], ap, append_assoc, arith, eq-eqb, false, if◌then◌else◌, is_some, length, length-append, lt-ltb, ltb-true, nat_lt, refl, subst, sym, true, ℕ, ◌&&◌, ◌*◌, ◌++◌, ◌+◌, ◌<◌, ◌==◌, ◌∙◌, ◌∷◌, ◌≡◌, ◌≤◌}
use Rattle.beldi_value.specs.{Id.child_of, declared.id.IntentId.IntentId, declared.place.Caller.Caller, declared.place.Place.Place, declared.place.TxId.TxId}
use Rattle.beldi_tree.specs.declared.deployment.Deployment.{Deployment}
use Rattle.beldi_lang.specs.declared.{effect.Answer.Answer, effect.Effect.Effect, machine.Machine.Machine}
use Rattle.beldi_book.specs.declared.entry.Entry.{Entry}
use Rattle.beldi_plain.specs.Plain.{Instance, PlainState, effect_of}
use Rattle.beldi_plain_laws.specs.Txs.{tx_now}
use Rattle.beldi_row.{proofs.Gets.key_same, proofs.Gets.key_self, specs.Key.RowKey, specs.Key.key_cmp, specs.KeyOrder.key_total, specs.Table.Rows, specs.declared.key.Kind.Kind, specs.declared.row.Body.Body, specs.declared.row.Row.Row}
use Rattle.beldi_daal.specs.{Cell.cell_key, Cell.shadow_key, declared.cell.WriteAt.WriteAt, declared.cell.WriteAt.TheVariants.Try}
use Rattle.beldi_lock.specs.{Lock.lockset_key, declared.lock.LockAt.LockAt}
use Rattle.beldi_txn.specs.{TxTurn.Fits, Visited.HasItem, Visited.IsCall, Visited.IsCallPath, Visited.StartsWithin, Visited.WasAsked, declared.end_walk.EndWalk.EndWalk}
use Rattle.beldi_txn.specs.{End.visited_by, Invokes.call_key, Invokes.func_called, CallPath.Member, CallPath.callee_of, declared.end.EndAt.EndAt, declared.end.EndState.EndState, declared.tx.TxAt.TxAt, declared.call_path.Called.Called}
use Rattle.beldi_call.specs.declared.{async_call.AsyncAt.AsyncAt, call.CallAt.CallAt}
use Rattle.beldi_step.specs.{HostStep.Core, Run.own_tx, Run.tx_at, declared.run.Begun.Begun, declared.run.Run.Run, declared.run.RunAt.RunAt, declared.run.RunTx.RunTx, declared.run.RunTx.TheVariants.Own, declared.run.Stage.Stage}
use Rattle.beldi_histories.{proofs.Cases.by_cases, proofs.Cases.by_option, specs.Histories.Histories}
use Rattle.beldi_invariant.specs.FoundInside.{end_walk}
use Rattle.beldi_invariant.specs.Invariant.{AtStage, KnowsAt, RunAt as LiveAt, StandsAt, open_of}
use Rattle.beldi_invariant.proofs.{Names.is_begin, OpenOf.open_tx, OpenOf.tx_open}
use Rattle.beldi_txn.proofs.LocksetRows.{Item}
use Rattle.beldi_bound.specs.{Cost.aside_length, Cost.cost_inside, Cost.effect_cost, Cost.item_length, Cost.step_cost, Cost.with_answers, Ends.Sound, Left.aside_there, Left.decided_visit, Left.item_there, Left.left_at, Left.tx_left}
use Rattle.beldi_bound.specs.Visits.{at_left, behind, call_ahead, call_cost, call_is_ahead, call_turns, chain_length, end_cost, end_row_cost, freed_length, freed_there, given_length, is_ahead, is_call_ahead, is_within, last_left, lock_ahead, lock_cost, lock_is_ahead, lock_turns, put_left, row_left, steps_of, steps_to, sum_by, visit_left, path_left}
use Rattle.beldi_bound.proofs.{BoundAhead.lock_here, BoundAhead.steps_here, Facts.Along, Facts.GoesOn, Lengths.aside_some, Lengths.item_some, Lengths.length_some, Puts.put_few, Sums.sum_less, Sums.sum_lower}

-- ---- the calls on the way to who is visited
if_few : (b : Bool) (n : ℕ) → (if b then n else 0) ≤ n
if_few true n = omega arith
if_few false n = omega arith

-- three turns for the row of each
abbrev three : Bool → ℕ
three b = if b then 3 else 0

abbrev paid : Member → List Called → RowKey → ℕ
paid p [] k = 0
paid p (c ∷ cs) k = three (is_eq (key_cmp (call_key p.1 p.0 c.step) k)) + paid (callee_of p c) cs k

module _ (m : Rows) where
  callee_is : (p : Member) (c : Called) → IsCall m p c → (callee_of p c).0 ≡ child_of p.0 c.step
  callee_is p c call = ap (λ b. if b then child_of p.0 c.step else p.0) call.0

  -- callees have more hops, so no row is paid for twice
  paid_none : (p : Member) (cs : List Called) (k : RowKey) (q : Place) → IsCallPath m p cs → k.kind ≡ Kind.Invoke q → length q.intent.hops < length p.0.hops → paid p cs k ≡ 0
  paid_none p [] k q path kind less = refl
  paid_none p (c ∷ cs) k q path kind less =
      let more = ap (λ (i : IntentId). length i.hops) (callee_is p c path.0) ∙ length-append p.0.hops (c.step ∷ []) in
      let rest = paid_none (callee_of p c) cs k q path.1 kind (omega (arith, more, less)) in
      let here : three (is_eq (key_cmp (call_key p.1 p.0 c.step) k)) ≡ 0 = ap three (by_cases (is_eq (key_cmp (call_key p.1 p.0 c.step) k))
      (λ t. let same = place_is (ap (λ (z : RowKey). z.kind) (key_same (call_key p.1 p.0 c.step) k t) ∙ kind) in let hops = ap (λ (z : Place). length z.intent.hops) same in absurd (omega (arith, hops, less))) (λ t. t)) in omega (arith, here, rest)
    where
      place_is : {a b : Place} → Kind.Invoke a ≡ Kind.Invoke b → a ≡ b
      place_is h = cc

behind_more : (ps hs xs : List ℕ) (s : ℕ) → behind ps hs ≡ Some xs → behind ps (hs ++ s ∷ []) ≡ Some (xs ++ s ∷ [])
behind_more [] hs xs s h = ap (λ z. Some (z ++ s ∷ [])) (same_some h)
behind_more (p ∷ ps) [] xs s h = cc
behind_more (p ∷ ps) (h ∷ hs) xs s is = (elim (p == h) as (λ b. (if b then behind ps hs else None) ≡ Some xs → (if b then behind ps (hs ++ s ∷ []) else None) ≡ Some (xs ++ s ∷ [])) [
  | true ↦ λ i. behind_more ps hs xs s i
  | false ↦ λ i. cc
]) is

steps_more : (t : TxId) (i : IntentId) (xs : List ℕ) (s : ℕ) → steps_to t i ≡ Some xs → steps_to t (child_of i s) ≡ Some (xs ++ s ∷ [])
steps_more t i xs s h = (elim (t.intent.ticket == i.ticket) as (λ b. (if b then behind t.intent.hops i.hops else None) ≡ Some xs → (if b then behind t.intent.hops (i.hops ++ s ∷ []) else None) ≡ Some (xs ++ s ∷ [])) [
  | true ↦ λ e. behind_more t.intent.hops i.hops xs s e
  | false ↦ λ e. cc
]) h

-- a call on the way is not ahead
call_passed : (f : ℕ → Bool) (ps rest : List ℕ) (s : ℕ) → is_call_ahead f (ps ++ s ∷ rest) ps s ≡ false
call_passed f [] rest s = by_cases (nat_lt s s) (λ t. absurd (let l = ltb-true s s t in omega (arith, l))) (λ t. t)
call_passed f (p ∷ ps) rest s = ap (λ b. if b then is_call_ahead f (ps ++ s ∷ rest) ps s else nat_lt p p) (eq-eqb p p refl) ∙ call_passed f ps rest s

within_more : (t : TxId) (end n y : ℕ) (xs : List ℕ) → is_within t end (xs ++ n ∷ []) ≡ true → is_within t end ((xs ++ n ∷ []) ++ y ∷ []) ≡ true
within_more t end n y [] h = h
within_more t end n y (x ∷ xs) h = h

-- the next call counts
abbrev Counts : TxId → ℕ → List ℕ → List Called → Type 0
Counts t end xs [] = Unit {0}
Counts t end xs (c ∷ cs) = is_within t end (xs ++ c.step ∷ []) ≡ true

counts_more : (t : TxId) (end n : ℕ) (xs : List ℕ) (cs : List Called) → is_within t end (xs ++ n ∷ []) ≡ true → Counts t end (xs ++ n ∷ []) cs
counts_more t end n xs [] h = tt
counts_more t end n xs (c ∷ cs) h = within_more t end n c.step xs h

module _ (e m : Rows) (t : TxId) (end : ℕ) (v : EndState) where
  -- what the row of a call on the way costs is not left
  row_paid : (p : Member) (xs : List ℕ) (cs : List Called) → IsCallPath m p cs → steps_to t p.0 ≡ Some xs → steps_of v.path ≡ xs ++ steps_of cs → Counts t end xs cs → (k : RowKey) (r : Row) → paid p cs k + row_left e t end v k r ≤ end_row_cost e t end k r
  row_paid p xs [] path to all within k r = let l = if_few (is_ahead t v k k.kind) (end_row_cost e t end k r) in omega (arith, l)
  row_paid p xs (c ∷ cs) path to all within k r = by_cases (is_eq (key_cmp (call_key p.1 p.0 c.step) k))
      (λ same. subst (λ z. paid p (c ∷ cs) z + row_left e t end v z r ≤ end_row_cost e t end z r) (key_same (call_key p.1 p.0 c.step) k same)
      (let few = paid_none m (callee_of p c) cs (call_key p.1 p.0 c.step) (record { intent = p.0; step = c.step }) path.1 refl (let more = ap (λ (i : IntentId). length i.hops) (callee_is m p c path.0) ∙ length-append p.0.hops (c.step ∷ []) in omega (arith, more)) in
      let here = if_few (is_eq (key_cmp (call_key p.1 p.0 c.step) (call_key p.1 p.0 c.step))) 3 in omega (arith, few, here, none_left, whole)))
      (λ other. let rest = row_paid (callee_of p c) (xs ++ c.step ∷ []) cs path.1 (ap (steps_to t) (callee_is m p c path.0) ∙ steps_more t p.0 xs c.step to) (all ∙ sym (append_assoc xs (c.step ∷ []) (steps_of cs))) (counts_more t end c.step xs cs within) k r in
      let here : three (is_eq (key_cmp (call_key p.1 p.0 c.step) k)) ≡ 0 = ap three other in omega (arith, rest, here))
    where
      none_left : row_left e t end v (call_key p.1 p.0 c.step) r ≡ 0
      none_left = ap (λ b. if b then end_row_cost e t end (call_key p.1 p.0 c.step) r else 0) (ap (call_is_ahead v c.step) to ∙ ap (λ ps. is_call_ahead (call_ahead v.at v.after) ps xs c.step) all ∙ call_passed (call_ahead v.at v.after) xs (steps_of cs) c.step)

      whole : end_row_cost e t end (call_key p.1 p.0 c.step) r ≡ 4
      whole = ap (call_cost t end c.step) to ∙ ap call_turns within

-- an item is being given back
abbrev is_free : EndAt → Bool
is_free (EndAt.Shadow r) = true
is_free (EndAt.Free w) = true
is_free a = false

sum_two : (f g h : RowKey → Row → ℕ) → ((k : RowKey) (r : Row) → f k r + g k r ≤ h k r) → (es : List (RowKey × Row)) → sum_by f es + sum_by g es ≤ sum_by h es
sum_two f g h less [] = omega arith
sum_two f g h less (x ∷ es) = let a = less x.0 x.1 in let b = sum_two f g h less es in omega (arith, a, b)

module _ (e m : Rows) (stay : (k : RowKey) → is_some (map.get m k) ≡ true → is_some (map.get e k) ≡ true) where
  call_there : (p : Member) (c : Called) → IsCall m p c → is_some (map.get m (call_key p.1 p.0 c.step)) ≡ true
  call_there p c call = by_row (map.get m (call_key p.1 p.0 c.step)) call.1
    where
      by_row : (o : Option Row) → option_map func_called o ≡ Some c.func → is_some o ≡ true
      by_row None h = cc
      by_row (Some r) h = refl

  rows_paid : (p : Member) (cs : List Called) → IsCallPath m p cs → 3 * length cs ≤ sum_by (λ k r. paid p cs k) (map.entries e)
  rows_paid p [] path = omega arith
  rows_paid p (c ∷ cs) path =
      let rest = rows_paid (callee_of p c) cs path.1 in
      let self : three (is_eq (key_cmp (call_key p.1 p.0 c.step) (call_key p.1 p.0 c.step))) ≡ 3 = ap three (key_self (call_key p.1 p.0 c.step)) in
      let here = sum_lower (λ k r. paid (callee_of p c) cs k) (λ k r. paid p (c ∷ cs) k) (λ k r. omega arith) 3 (call_key p.1 p.0 c.step) (λ r. omega (arith, self)) e (stay (call_key p.1 p.0 c.step) (call_there p c path.0)) in
      omega (arith, rest, here)

  -- ---- a visit
  -- no call on the way is a lock
  none_paid : (p : Member) (cs : List Called) (home : ℕ) (i : IntentId) (begin n : ℕ) (x : List ℕ) → paid p cs (lockset_key home i begin n x) ≡ 0
  none_paid p [] home i begin n x = refl
  none_paid p (c ∷ cs) home i begin n x =
      let rest = none_paid (callee_of p c) cs home i begin n x in
      let here : three (is_eq (key_cmp (call_key p.1 p.0 c.step) (lockset_key home i begin n x))) ≡ 0 = ap three (by_cases (is_eq (key_cmp (call_key p.1 p.0 c.step) (lockset_key home i begin n x)))
      (λ t. let kind = ap (λ (z : RowKey). z.kind) (key_same (call_key p.1 p.0 c.step) (lockset_key home i begin n x) t) in cc) (λ t. t)) in omega (arith, here, rest)

  at_few : (c s : ℕ) (there : Bool) (last : ℕ) (a : EndAt) → is_free a ≡ false → 1 ≤ last → at_left c s there last a ≤ last + 2
  at_few c s there last (EndAt.Shadow r) is h = cc
  at_few c s there last (EndAt.Free w) is h = cc
  at_few c s there last a is h = omega arith

  free_few : (c s : ℕ) (there : Bool) (last : ℕ) (a : EndAt) → is_free a ≡ true → 1 ≤ c → 1 ≤ s → at_left c s there last a ≤ last + (3 * c + s + 1)
  free_few c s there last (EndAt.Shadow r) is one two = let l = put_few c there (Try 0) one in omega (arith, l, two)
  free_few c s there last (EndAt.Free w) is one two = let l = put_few c there w one in omega (arith, l)
  free_few c s there last a is one two = cc

  way_few : (cs : List Called) → (path_left cs + last_left cs ≤ 1 + 3 * length cs) × (1 ≤ last_left cs)
  way_few [] = (omega arith, omega arith)
  way_few (c ∷ cs) = (omega arith, omega arith)

  module _ (t : TxId) (end : ℕ) (commit : Bool) (v : EndState) (path : IsCallPath m (t.intent, t.func) v.path) (counts : Counts t end [] v.path) where
    abbrev owner : Member
    owner = (t.intent, t.func)

    abbrev p : Member
    p = visited_by t v.path

    -- what is paid, and what is left, of a row
    abbrev spent : RowKey → Row → ℕ
    spent k r = paid owner v.path k + row_left e t end v k r

    within_by : (cs : List Called) → Counts t end [] cs → is_within t end (steps_of cs) ≡ true
    within_by [] h = refl
    within_by (c ∷ cs) h = h

    rows_fit : (k : RowKey) (r : Row) → spent k r ≤ end_row_cost e t end k r
    rows_fit k r = row_paid e m t end v owner [] v.path path (steps_here m t [] tt) refl counts k r

    sums : 3 * length v.path + sum_by (row_left e t end v) (map.entries e) ≤ sum_by spent (map.entries e)
    sums =
        let both = sum_two (λ k r. paid owner v.path k) (row_left e t end v) spent (λ k r. omega arith) (map.entries e) in
        let calls = rows_paid owner v.path path in
        omega (arith, both, calls)

    abbrev left_beside : ℕ
    left_beside = at_left (freed_length e p v.item) (given_length e t p v.item) (freed_there m p v.item) (last_left v.path) v.at

    -- no lock is being given back
    no_lock : is_free v.at ≡ false → visit_left e m t end v ≤ end_cost e t end
    no_lock is =
        let fit = sum_less spent (end_row_cost e t end) rows_fit (map.entries e) in
        let last = way_few v.path in
        let few = at_few (freed_length e p v.item) (given_length e t p v.item) (freed_there m p v.item) (last_left v.path) v.at is last.1 in
        let on_way = last.0 in omega (arith, fit, sums, few, on_way)

    -- .. or one is, whose row is there, and is not ahead
    module _ (j : Item) (item : v.item ≡ Some j) (is : is_free v.at ≡ true) (there : is_some (map.get m (lockset_key p.1 p.0 t.begin j.0 j.1)) ≡ true) where
      abbrev key : RowKey
      key = lockset_key p.1 p.0 t.begin j.0 j.1

      abbrev c : ℕ
      c = chain_length e (cell_key p.1 j.0 j.1)

      abbrev s : ℕ
      s = chain_length e (shadow_key p.1 t j.0 j.1)

      steps : steps_to t p.0 ≡ Some (steps_of v.path)
      steps = steps_here m t v.path path

      passed_by : (a : EndAt) → is_free a ≡ true → lock_ahead a p t.begin (Some j) key ≡ false
      passed_by (EndAt.Shadow r) h = ap is_lt (tied_itself key_total key)
      passed_by (EndAt.Free w) h = ap is_lt (tied_itself key_total key)
      passed_by a h = cc

      none_left : (r : Row) → row_left e t end v key r ≡ 0
      none_left r = ap (λ b. if b then end_row_cost e t end key r else 0)
          (ap (lock_is_ahead t v key) steps ∙ lock_here (call_ahead v.at v.after) (lock_ahead v.at p t.begin v.item key) (steps_of v.path) ∙ ap (λ i. lock_ahead v.at p t.begin i key) item ∙ passed_by v.at is)

      whole : (r : Row) → end_row_cost e t end key r ≡ 3 * c + s + 2
      whole r = ap (lock_cost t end c s (t.begin == t.begin)) steps ∙ ap (λ b. lock_turns c s (b && is_within t end (steps_of v.path))) (eq-eqb t.begin t.begin refl) ∙ ap (lock_turns c s) (within_by v.path counts)

      frees : visit_left e m t end v ≤ end_cost e t end
      frees =
          let fit = sum_lower spent (end_row_cost e t end) rows_fit (3 * c + s + 2) key (λ r. let none = none_paid owner v.path p.1 p.0 t.begin j.0 j.1 in let left = none_left r in let all = whole r in omega (arith, none, left, all)) e (stay key there) in
          let last = way_few v.path in
          let few : left_beside ≤ last_left v.path + (3 * c + s + 1) = subst (λ i. at_left (freed_length e p i) (given_length e t p i) (freed_there m p i) (last_left v.path) v.at ≤ last_left v.path + (3 * c + s + 1)) (sym item)
          (free_few c s (freed_there m p (Some j)) (last_left v.path) v.at is (length_some e (cell_key p.1 j.0 j.1)) (length_some e (shadow_key p.1 t j.0 j.1))) in
          let on_way = last.0 in omega (arith, fit, sums, few, on_way)

    visit_few : HasItem v.at v.item → WasAsked v.at (record { tx = t; end = end; commit = commit; visit = v }) p m v.item → visit_left e m t end v ≤ end_cost e t end
    visit_few has asked = by_cases (is_free v.at) (λ is. by_item v.item refl is (lock_there v.at v.item is has asked)) no_lock
      where
        lock_there : (a : EndAt) (i : Option Item) → is_free a ≡ true → HasItem a i → WasAsked a (record { tx = t; end = end; commit = commit; visit = v }) p m i → (j : Item) × (i ≡ Some j) × (is_some (map.get m (lockset_key p.1 p.0 t.begin j.0 j.1)) ≡ true)
        lock_there (EndAt.Shadow r) (Some j) is has asked = (j, refl, asked)
        lock_there (EndAt.Shadow r) None is has asked = cc
        lock_there (EndAt.Free w) (Some j) is has asked = (j, refl, asked)
        lock_there (EndAt.Free w) None is has asked = cc
        lock_there a i is has asked = cc

        by_item : (i : Option Item) → v.item ≡ i → is_free v.at ≡ true → (j : Item) × (i ≡ Some j) × (is_some (map.get m (lockset_key p.1 p.0 t.begin j.0 j.1)) ≡ true) → visit_left e m t end v ≤ end_cost e t end
        by_item i at is (j, item, there) = frees j (at ∙ item) is there

  -- the decision, and then the first visit
  decide_few : (t : TxId) (end : ℕ) → 1 + visit_left e m t end decided_visit ≤ end_cost e t end
  decide_few t end = let rest = sum_less (row_left e t end decided_visit) (end_row_cost e t end) (λ k r. if_few (is_ahead t decided_visit k k.kind) (end_row_cost e t end k r)) (map.entries e) in omega (arith, rest)

-- ---- an operation inside a transaction
tx_few : (c s : ℕ) (there aside : Bool) (f : Effect) (a : TxAt) → 1 ≤ c → 1 ≤ s → Fits f a → tx_left c s there aside f a ≤ cost_inside c s 0 f
tx_few c s there aside (Effect.Read t k) TxAt.Log one two h = let l = put_few c there (Try 0) one in omega (arith, l)
tx_few c s there aside (Effect.Read t k) (TxAt.Lock (LockAt.Lockset b)) one two h = let l = put_few c there (Try 0) one in omega (arith, l)
tx_few c s there aside (Effect.Read t k) (TxAt.Lock (LockAt.Item w)) one two h = let l = put_few c there w one in omega (arith, l)
tx_few c s there aside (Effect.Read t k) (TxAt.Shadow r) one two h = omega arith
tx_few c s there aside (Effect.Read t k) (TxAt.Item r) one two h = omega arith
tx_few c s there aside (Effect.Read t k) (TxAt.Keep v) one two h = omega arith
tx_few c s there aside (Effect.Write t k v) (TxAt.Lock (LockAt.Lockset b)) one two h = let l = put_few c there (Try 0) one in let n = put_few s aside (Try 0) two in omega (arith, l, n)
tx_few c s there aside (Effect.Write t k v) (TxAt.Lock (LockAt.Item w)) one two h = let l = put_few c there w one in let n = put_few s aside (Try 0) two in omega (arith, l, n)
tx_few c s there aside (Effect.Write t k v) (TxAt.Write w) one two h = let l = put_few s aside w two in omega (arith, l)
tx_few c s there aside (Effect.CondWrite t k r o v) (TxAt.Lock (LockAt.Lockset b)) one two h = let l = put_few c there (Try 0) one in omega (arith, l)
tx_few c s there aside (Effect.CondWrite t k r o v) (TxAt.Lock (LockAt.Item w)) one two h = let l = put_few c there w one in omega (arith, l)
tx_few c s there aside (Effect.CondWrite t k r o v) TxAt.Seek one two h = omega arith
tx_few c s there aside (Effect.CondWrite t k r o v) (TxAt.Item n) one two h = omega arith
tx_few c s there aside (Effect.CondWrite t k r o v) (TxAt.Head u) one two h = omega arith
tx_few c s there aside (Effect.CondWrite t k r o v) (TxAt.Write w) one two h = let l = put_few s aside w two in omega (arith, l)
tx_few c s there aside f a one two h = absurd h

-- ---- any stage
module _ {d : Deployment} (m : Rows) (p : PlainState) (book : List Entry) {histories : Histories} {id : IntentId} {home : ℕ} {c : Option Caller} {s : Machine} {o : Option RunTx} (k : StandsAt d histories id home c s o) where
  begin_nowhere : (w : Stage) (o : Option RunTx) → AtStage m p book k w Effect.Begin o → ⊥
  begin_nowhere (Stage.Write at) None h = let none = h.0 in cc
  begin_nowhere (Stage.Tx a) (Some o) h = absurd h.0
  begin_nowhere w o h = absurd h

  module _ (e : Rows) (q : Instance) (stay : (k : RowKey) → is_some (map.get m k) ≡ true → is_some (map.get e k) ≡ true) where
    starts : (t : TxId) (end : ℕ) (w : EndWalk) (cs : List Called) → w.tx ≡ t → w.end ≡ end → StartsWithin w cs → Counts t end [] cs
    starts t end w [] tx at h = tt
    starts t end w (c ∷ cs) tx at h =
        ap (λ b. b && nat_lt c.step end) (ap (λ (z : TxId). nat_lt z.begin c.step) (sym tx) ∙ lt-ltb w.tx.begin c.step h.0) ∙ ap (nat_lt c.step) (sym at) ∙ lt-ltb c.step w.end h.1

    -- the cost of its function's items
    abbrev cost : Option RunTx → Effect → ℕ
    cost o f = effect_cost e (record q { func = home }) (tx_at id home o) s.steps f

    put_is_few : (f : Effect) (w : WriteAt) → put_left (item_length e home f) (item_there m home f) w ≤ 3 * item_length e home f + 1
    put_is_few f w = put_few (item_length e home f) (item_there m home f) w (item_some e home f)

    tx_is_few : (f : Effect) (o : RunTx) (a : TxAt) → Fits f a → let t = tx_at id home (Some o) in tx_left (item_length e home f) (aside_length e home t f) (item_there m home f) (aside_there m home id (Some o) f) f a ≤ cost_inside (item_length e home f) (aside_length e home t f) 0 f
    tx_is_few f o a h = let t = tx_at id home (Some o) in tx_few (item_length e home f) (aside_length e home t f) (item_there m home f) (aside_there m home id (Some o) f) f a (item_some e home f) (aside_some e home t f) h

    few_at : (w : Stage) (f : Effect) (o : Option RunTx) → AtStage m p book k w f o → left_at e m home id o s.steps f w ≤ cost o f
    few_at Stage.Ask (Effect.Read t x) None h = omega arith
    few_at (Stage.Walk r) (Effect.Read t x) None h = let some = item_some e home (Effect.Read t x) in omega (arith, some)
    few_at (Stage.Keep v version) (Effect.Read t x) None h = omega arith
    few_at (Stage.Write w) (Effect.Write t x v) None h = put_is_few (Effect.Write t x v) w
    few_at (Stage.Write w) (Effect.CondWrite t x r u v) None h = put_is_few (Effect.CondWrite t x r u v) w
    few_at (Stage.Write w) (Effect.Lock t x) None h = put_is_few (Effect.Lock t x) w
    few_at (Stage.Write w) (Effect.Unlock t x) None h = put_is_few (Effect.Unlock t x) w
    few_at (Stage.Write w) f None h = let none = h.0 in cc
    few_at (Stage.Async AsyncAt.Open) (Effect.Async f a) None h = omega arith
    few_at (Stage.Async AsyncAt.Register) (Effect.Async f a) None h = omega arith
    few_at (Stage.Async AsyncAt.Note) (Effect.Async f a) None h = omega arith
    few_at (Stage.Call CallAt.Open) (Effect.Call f a) None h = omega arith
    few_at (Stage.Call CallAt.Open) (Effect.Call f a) (Some o) h = omega arith
    few_at (Stage.Call CallAt.Look) (Effect.Call f a) None h = omega arith
    few_at (Stage.Call CallAt.Look) (Effect.Call f a) (Some o) h = omega arith
    few_at Stage.Back (Effect.Return u) None h = omega arith
    few_at Stage.Back (Effect.Return u) (Some o) h = omega arith
    few_at Stage.Notify (Effect.Return u) None h = omega arith
    few_at Stage.Close (Effect.Return u) None h = omega arith
    few_at Stage.Close (Effect.Return u) (Some o) h = omega arith
    few_at (Stage.Tx a) (Effect.Read t x) (Some o) h = tx_is_few (Effect.Read t x) o a h.0
    few_at (Stage.Tx a) (Effect.Write t x v) (Some o) h = tx_is_few (Effect.Write t x v) o a h.0
    few_at (Stage.Tx a) (Effect.CondWrite t x r u v) (Some o) h = tx_is_few (Effect.CondWrite t x r u v) o a h.0
    few_at (Stage.Tx a) f (Some o) h = absurd h.0
    few_at (Stage.Decide w) (Effect.End commit) (Some (Own o)) h = decide_few e m stay (own_tx id home o) s.steps
    few_at (Stage.End v) (Effect.End commit) (Some (Own o)) h =
        visit_few e m stay (own_tx id home o) s.steps commit v h.1.member.1 (starts (own_tx id home o) s.steps (end_walk id home o s.steps commit v) v.path refl refl h.1.member.0) h.1.item h.1.asked
    few_at w f o h = absurd h

-- ---- of a live run
-- the transaction of its effect is the one that it is in
tx_here : (d : Deployment) (id : IntentId) (q : Instance) → is_begin (effect_of d q) ≡ false → (o : Option RunTx) → open_of d q q.answers ≡ o → tx_now d id q ≡ tx_at id q.func o
tx_here d id q apart (Some o) is = tx_open d id q q.answers o is apart
tx_here d id q apart None is = by_option (tx_now d id q) (λ none. none) (λ t at. let clash = sym is ∙ (open_tx d id q q.answers t at apart).1 in cc)

begin_is : (f : Effect) → is_begin f ≡ true → f ≡ Effect.Begin
begin_is Effect.Begin h = refl
begin_is f h = cc

pub stage_is_few : (d : Deployment) (c : Core) (m e : Rows) (i : ℕ) (r : Run) (g : Begun) (b : Body) (given : List Answer) → Sound d c m → GoesOn m e → map.get c.runs i ≡ Some r → r.at ≡ RunAt.Begins g → (s : Along d r.id b given r g)
    → left_at e m r.func r.id g.tx g.machine.steps g.machine.effect g.stage ≤ step_cost d e r.id b s.answers
stage_is_few d c m e i r g b given sound goes live at s =
    let right = sound.upkeep.invariant in
    let run : KnowsAt d m right.plain c.book right.histories r r.at = subst (LiveAt d m right.plain c.book right.histories) live (right.runs.runs i) in
    let knows : KnowsAt d m right.plain c.book right.histories r (RunAt.Begins g) = subst (KnowsAt d m right.plain c.book right.histories r) at run in
    let q = with_answers b s.answers in
    let few = few_at m right.plain c.book knows.0 e q goes.keys g.stage g.machine.effect g.tx knows.1.here in
    let apart : is_begin (effect_of d q) ≡ false = by_cases (is_begin (effect_of d q))
    (λ t. absurd (begin_nowhere m right.plain c.book knows.0 g.stage g.tx (subst (λ f. AtStage m right.plain c.book knows.0 g.stage f g.tx) (s.effect ∙ begin_is (effect_of d q) t) knows.1.here))) (λ t. t) in
    let tx : tx_at r.id r.func g.tx ≡ tx_now d r.id q = (λ i. tx_at r.id (sym s.func i) (s.tx i)) ∙ sym (tx_here d r.id q apart (open_of d q s.answers) refl) in
    subst (λ n. left_at e m r.func r.id g.tx g.machine.steps g.machine.effect g.stage ≤ n) (λ i. effect_cost e (record q { func = sym s.func i }) (tx i) (sym s.steps i) (s.effect i)) few
