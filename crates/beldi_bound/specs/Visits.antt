-- What is left of the visit at the end of a transaction: a sum over the rows of the calls and the locks that were made in it and are still
-- ahead, and a few turns for each member on the way.
use Rattle.std.specs.Prelude.{ℕ, zero, suc, ◌+◌, ◌-◌, ◌*◌, max, ◌==◌, nat_lt, ◌&&◌, Bool, true, false, List, [], ◌∷◌, ◌++◌, map, length, Option, Some, None, is_some, if◌then◌else◌}
use Rattle.std.specs.Ordering.{is_lt}
use Rattle.std.specs.FinMap as finite
use Rattle.beldi_value.specs.declared.{id.IntentId.IntentId, place.TxId.TxId}
use Rattle.beldi_row.specs.{Key.RowKey, Key.key_cmp, Table.Rows, declared.key.Kind.Kind, declared.row.Row.Row}
use Rattle.beldi_chain.specs.Chain.{Chain, chain, most_rows}
use Rattle.beldi_daal.specs.{Cell.cell_key, Cell.shadow_key, declared.cell.WriteAt.WriteAt, declared.cell.WriteAt.TheVariants.Try, declared.cell.WriteAt.TheVariants.Make, declared.cell.WriteAt.TheVariants.Append, declared.cell.WriteAt.TheVariants.Link}
use Rattle.beldi_lock.specs.Lock.{lockset_key}
use Rattle.beldi_txn.specs.{End.visited_by, CallPath.Member, declared.end.EndAt.EndAt, declared.end.EndState.EndState, declared.call_path.Called.Called}

-- ---- sums over rows
abbrev pub sum_by : {K X : Type 0} → (K → X → ℕ) → List (K × X) → ℕ
sum_by f [] = 0
sum_by f (e ∷ es) = f e.0 e.1 + sum_by f es

-- ---- the rows of a transaction
-- how many rows an item has, by the key of its first row: those of the numbers 0, 1, 2 and so on, up to the first that is not there; and at
-- least one
abbrev pub rows_from : ℕ → Chain → ℕ → ℕ
rows_from zero f n = 0
rows_from (suc s) f n = if is_some (f n) then 1 + rows_from s f (n + 1) else 0

abbrev pub chain_length : Rows → RowKey → ℕ
chain_length e head = max 1 (rows_from most_rows (chain e head) 0)

-- the steps of calls that lead from an intent to another, by their hops; none where they do not
abbrev pub behind : List ℕ → List ℕ → Option (List ℕ)
behind [] hs = Some hs
behind (p ∷ ps) [] = None
behind (p ∷ ps) (h ∷ hs) = if p == h then behind ps hs else None

abbrev pub steps_to : TxId → IntentId → Option (List ℕ)
steps_to t i = if t.intent.ticket == i.ticket then behind t.intent.hops i.hops else None

-- of the owner's calls those between its begin and its end are the transaction's
abbrev pub is_within : TxId → ℕ → List ℕ → Bool
is_within t end [] = true
is_within t end (n ∷ ns) = nat_lt t.begin n && nat_lt n end

-- turns for a participant, by the row of its call; and for a lock that was asked for, by the rows of the item and of the shadow
abbrev pub call_turns : Bool → ℕ
call_turns true = 4
call_turns false = 0

abbrev pub lock_turns : ℕ → ℕ → Bool → ℕ
lock_turns c s true = 3 * c + s + 2
lock_turns c s false = 0

abbrev pub call_cost : TxId → ℕ → ℕ → Option (List ℕ) → ℕ
call_cost t end n None = 0
call_cost t end n (Some xs) = call_turns (is_within t end (xs ++ n ∷ []))

abbrev pub lock_cost : TxId → ℕ → ℕ → ℕ → Bool → Option (List ℕ) → ℕ
lock_cost t end c s same None = 0
lock_cost t end c s same (Some xs) = lock_turns c s (same && is_within t end xs)

-- what a row costs the end of a transaction
abbrev pub kind_cost : Rows → TxId → ℕ → ℕ → Kind → ℕ
kind_cost e t end home (Kind.Invoke p) = call_cost t end p.step (steps_to t p.intent)
kind_cost e t end home (Kind.Lockset i b n k) = lock_cost t end (chain_length e (cell_key home n k)) (chain_length e (shadow_key home t n k)) (b == t.begin) (steps_to t i)
kind_cost e t end home k = 0

abbrev pub end_row_cost : Rows → TxId → ℕ → RowKey → Row → ℕ
end_row_cost e t end k r = kind_cost e t end k.home k.kind

-- the whole end: the decision, that the owner has no further call, and no further lock; and what its rows cost
abbrev pub end_cost : Rows → TxId → ℕ → ℕ
end_cost e t end = 3 + sum_by (end_row_cost e t end) (finite.entries e)

-- ---- what is ahead of a visit
-- at who is visited: a call at a step, and a lock by the key of its row
abbrev pub call_ahead : EndAt → Option ℕ → ℕ → Bool
call_ahead EndAt.Decide after n = true
call_ahead EndAt.Callees None n = true
call_ahead EndAt.Callees (Some s) n = nat_lt s n
call_ahead a after n = false

abbrev pub lock_past : Member → ℕ → Option (ℕ × List ℕ) → RowKey → Bool
lock_past p begin None k = true
lock_past p begin (Some i) k = is_lt (key_cmp (lockset_key p.1 p.0 begin i.0 i.1) k)

abbrev pub lock_ahead : EndAt → Member → ℕ → Option (ℕ × List ℕ) → RowKey → Bool
lock_ahead EndAt.Decide p begin i k = true
lock_ahead EndAt.Callees p begin i k = true
lock_ahead EndAt.Stamp p begin i k = false
lock_ahead a p begin i k = lock_past p begin i k

-- calls and locks are visited call by call, each callee with all that it called before the next one; the locks of a member come after
-- its calls. By the steps of the way, and those to who made the call, or asked for the lock.
abbrev pub is_call_ahead : (ℕ → Bool) → List ℕ → List ℕ → ℕ → Bool
is_call_ahead ahead [] [] n = ahead n
is_call_ahead ahead [] (x ∷ xs) n = ahead x
is_call_ahead ahead (p ∷ ps) [] n = nat_lt p n
is_call_ahead ahead (p ∷ ps) (x ∷ xs) n = if p == x then is_call_ahead ahead ps xs n else nat_lt p x

abbrev pub is_lock_ahead : (ℕ → Bool) → Bool → List ℕ → List ℕ → Bool
is_lock_ahead ahead here [] [] = here
is_lock_ahead ahead here [] (x ∷ xs) = ahead x
is_lock_ahead ahead here (p ∷ ps) [] = true
is_lock_ahead ahead here (p ∷ ps) (x ∷ xs) = if p == x then is_lock_ahead ahead here ps xs else nat_lt p x

abbrev pub steps_of : List Called → List ℕ
steps_of cs = map (λ (c : Called). c.step) cs

abbrev pub call_is_ahead : EndState → ℕ → Option (List ℕ) → Bool
call_is_ahead v n None = false
call_is_ahead v n (Some xs) = is_call_ahead (call_ahead v.at v.after) (steps_of v.path) xs n

abbrev pub lock_is_ahead : TxId → EndState → RowKey → Option (List ℕ) → Bool
lock_is_ahead t v k None = false
lock_is_ahead t v k (Some xs) = is_lock_ahead (call_ahead v.at v.after) (lock_ahead v.at (visited_by t v.path) t.begin v.item k) (steps_of v.path) xs

abbrev pub is_ahead : TxId → EndState → RowKey → Kind → Bool
is_ahead t v k (Kind.Invoke p) = call_is_ahead v p.step (steps_to t p.intent)
is_ahead t v k (Kind.Lockset i b n x) = lock_is_ahead t v k (steps_to t i)
is_ahead t v k kind = false

abbrev pub row_left : Rows → TxId → ℕ → EndState → RowKey → Row → ℕ
row_left e t end v k r = if is_ahead t v k k.kind then end_row_cost e t end k r else 0

-- ---- turns beside those of rows
-- a write, by how many rows the item has in the end, and whether the first one is there: a row that is full takes a turn to tell it, one to
-- make the next and one to link that
abbrev pub put_left : ℕ → Bool → WriteAt → ℕ
put_left c there (Try r) = 3 * (c - 1 - r) + (if there then 2 else 4)
put_left c there Make = 3 * c
put_left c there (Append n t) = 3 * (c - n) + 1
put_left c there (Link n) = 3 * (c - 1 - n) + 3

-- the last turns of who is visited: that it has no further lock, and the finish of a participant
abbrev pub last_left : List Called → ℕ
last_left [] = 1
last_left (c ∷ cs) = 2

abbrev pub at_left : ℕ → ℕ → Bool → ℕ → EndAt → ℕ
at_left c s there last EndAt.Decide = last + 2
at_left c s there last EndAt.Callees = last + 1
at_left c s there last EndAt.Next = last
at_left c s there last (EndAt.Shadow r) = last + (1 + put_left c there (Try 0) + (s - 1 - r))
at_left c s there last (EndAt.Free w) = last + put_left c there w
at_left c s there last EndAt.Stamp = 1

-- the same of those on the way to it, who go on with their next call
abbrev pub path_left : List Called → ℕ
path_left [] = 0
path_left (c ∷ cs) = 2 + 3 * length cs

-- the first row of the item that is given back is there
abbrev pub freed_there : Rows → Member → Option (ℕ × List ℕ) → Bool
freed_there m p None = false
freed_there m p (Some i) = is_some (finite.get m (cell_key p.1 i.0 i.1))

-- how many rows that item has, and the shadow of it
abbrev pub freed_length : Rows → Member → Option (ℕ × List ℕ) → ℕ
freed_length e p None = 1
freed_length e p (Some i) = chain_length e (cell_key p.1 i.0 i.1)

abbrev pub given_length : Rows → TxId → Member → Option (ℕ × List ℕ) → ℕ
given_length e t p None = 1
given_length e t p (Some i) = chain_length e (shadow_key p.1 t i.0 i.1)

-- what is left of a visit, over the rows m, with the rows e in the end
abbrev pub visit_left : Rows → Rows → TxId → ℕ → EndState → ℕ
visit_left e m t end v = let p = visited_by t v.path in
    path_left v.path + at_left (freed_length e p v.item) (given_length e t p v.item) (freed_there m p v.item) (last_left v.path) v.at + sum_by (row_left e t end v) (finite.entries e)
