-- A visit of a participant that is closed may go on as if none of its calls and locks were there.
use Rattle.std.specs.Prelude.{◌≡◌, ℕ, Bool, true, List, [], ◌∷◌, ◌++◌, Option, Some, None, is_some}
use Rattle.std.specs.FinMap as map
use Rattle.beldi_value.specs.declared.{place.TxId.TxId, value.Value.Value}
use Rattle.beldi_row.specs.Table.{Rows}
use Rattle.beldi_txn.specs.{declared.call_path.Called.Called, declared.end.EndAt.EndAt, declared.end.EndAt.TheVariants.Callees, declared.end.EndAt.TheVariants.Next, declared.end.EndAt.TheVariants.Stamp, declared.end_walk.EndWalk.EndWalk, End.visited_by, End.free_first, Visited.Visited, Visited.IsCall, Visited.is_closed, Visited.lock_row}

-- a visit of a participant, at a stage
abbrev pub visiting : TxId → ℕ → Bool → Called → List Called → Option ℕ → Option (ℕ × List ℕ) → Option Value → EndAt → EndWalk
visiting tx end commit c cs after i v a = record { tx = tx; end = end; commit = commit; visit = record { path = c ∷ cs; after = after; item = i; value = v; at = a } }

pub record Passes (tx : TxId) (end : ℕ) (commit : Bool) (c : Called) (cs : List Called) (after : Option ℕ) (m : Rows) : Type 0 where
  -- its calls are passed
  pub calls : (v : Option Value) → Visited (visiting tx end commit c cs after None v Callees) m → Visited (visiting tx end commit c cs after None v Next) m
  -- any of its calls may come next
  pub called : (v : Option Value) (e : Called) → IsCall m (visited_by tx (c ∷ cs)) e → Visited (visiting tx end commit c cs after None v Callees) m → Visited (visiting tx end commit c (cs ++ e ∷ []) None None None Callees) m
  -- any of its locks may come next
  pub locks : (i : Option (ℕ × List ℕ)) (v : Option Value) (j : ℕ × List ℕ) → let w = visiting tx end commit c cs after i v Next in
      is_some (map.get m (lock_row w (visited_by tx (c ∷ cs)) j)) ≡ true → Visited w m → Visited (visiting tx end commit c cs after (Some j) None (free_first commit)) m
  -- and its stamp
  pub stamp : (i : Option (ℕ × List ℕ)) (v : Option Value) → Visited (visiting tx end commit c cs after i v Next) m → Visited (visiting tx end commit c cs after i v Stamp) m

abbrev pub ClosedArePassed : Type 0
ClosedArePassed = (tx : TxId) (end : ℕ) (commit : Bool) (c : Called) (cs : List Called) (after : Option ℕ) (m : Rows) → is_closed m (visited_by tx (c ∷ cs)) ≡ true → Passes tx end commit c cs after m
