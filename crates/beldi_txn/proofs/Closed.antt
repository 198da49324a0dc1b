-- A visit of a participant that is closed may go on.
use Rattle.std.proofs.Common.{◌≡◌, ℕ, Bool, true, false, List, [], ◌∷◌, ◌++◌, Option, None, Some, is_some, refl}
use Rattle.std.specs.FinMap as map
use Rattle.beldi_value.specs.declared.{place.TxId.TxId, value.Value.Value}
use Rattle.beldi_row.specs.{Table.Rows, declared.row.Row.Row}
use Rattle.beldi_chain.specs.Chain.{chain, tail}
use Rattle.beldi_links.proofs.Meets.{reads_begin, walks_begin}
use Rattle.beldi_txn.specs.{CallPath.Member, CallPath.member_at, CallPath.callee_of, declared.call_path.Called.Called, declared.end.EndAt.TheVariants.Callees, declared.end.EndAt.TheVariants.Next, declared.end.EndAt.TheVariants.Stamp, declared.end_walk.EndWalk.EndWalk, End.visited_by, End.free_first, End.free_place}
use Rattle.beldi_daal.specs.declared.cell.WriteAt.TheVariants.{Try}
use Rattle.beldi_txn.proofs.Freeing.{freeing_sees}
use Rattle.beldi_txn.specs.Visited.{Visited, is_closed, is_own, item_in, item_row, aside_row, lock_row, IsCall, IsCallPath, AreClosed, Levels, IsWithin, IsPassed, owner_of, IsReleased, given_value}
use Rattle.beldi_txn.specs.Closed.{visiting, Passes, ClosedArePassed}

-- where all callees of who is at the end of the way are closed, any of its calls are passed
any_passed : (m : Rows) (p : Member) (At Past Then : ℕ → Type 0) (cs : List Called) → AreClosed m (member_at p cs) (λ n. Unit {0}) → Levels m p At cs Past → Levels m p At cs Then
any_passed m p At Past Then [] all l = λ c call here. all c call tt
any_passed m p At Past Then (c ∷ cs) all l = (l.0, any_passed m (callee_of p c) (λ n. Unit {0}) Past Then cs all l.1)

path_more : (m : Rows) (p : Member) (cs : List Called) (e : Called) → IsCallPath m p cs → IsCall m (member_at p cs) e → IsCallPath m p (cs ++ e ∷ [])
path_more m p [] e path call = (call, tt)
path_more m p (c ∷ cs) e path call = (path.0, path_more m (callee_of p c) cs e path.1 call)

levels_more : (m : Rows) (p : Member) (At Past : ℕ → Type 0) (cs : List Called) (e : Called) → AreClosed m (member_at p cs) (λ n. Unit {0}) → Levels m p At cs Past → Levels m p At (cs ++ e ∷ []) (λ n. ⊥)
levels_more m p At Past [] e all l = (λ c call here. all c call tt, λ c call here. absurd here.1)
levels_more m p At Past (c ∷ cs) e all l = (l.0, levels_more m (callee_of p c) (λ n. Unit {0}) Past cs e all l.1)

module _ (tx : TxId) (end : ℕ) (commit : Bool) (c : Called) (cs : List Called) (after : Option ℕ) (m : Rows) (closed : is_closed m (visited_by tx (c ∷ cs)) ≡ true) where
  calls_passed : (v : Option Value) → Visited (visiting tx end commit c cs after None v Callees) m → Visited (visiting tx end commit c cs after None v Next) m
  calls_passed v h =
      let w = visiting tx end commit c cs after None v Callees in
      let rel : IsReleased w m (visited_by tx (c ∷ cs)) = h.released c cs h.member closed in
      record {
        decided = h.decided;
        item = tt;
        begins = tt;
        from = h.from;
        member = h.member;
        gives = tt;
        sees = tt;
        asked = tt;
        callees = any_passed m (owner_of w) (IsWithin w) (IsPassed Callees after) (IsPassed Next after) (c ∷ cs) rel.1 h.callees;
        freed = λ q r there past. absurd past;
        released = h.released;
        marked = h.marked;
        linked = h.linked;
      }

  call_found : (v : Option Value) (e : Called) → IsCall m (visited_by tx (c ∷ cs)) e → Visited (visiting tx end commit c cs after None v Callees) m → Visited (visiting tx end commit c (cs ++ e ∷ []) None None None Callees) m
  call_found v e call h =
      let w = visiting tx end commit c cs after None v Callees in
      let rel : IsReleased w m (visited_by tx (c ∷ cs)) = h.released c cs h.member closed in
      record {
        decided = h.decided;
        item = refl;
        begins = tt;
        from = tt;
        member = (h.member.0, path_more m (owner_of w) (c ∷ cs) e h.member.1 call);
        gives = tt;
        sees = tt;
        asked = tt;
        callees = levels_more m (owner_of w) (IsWithin w) (IsPassed Callees after) (c ∷ cs) e rel.1 h.callees;
        freed = λ q r there past. absurd past;
        released = h.released;
        marked = h.marked;
        linked = h.linked;
      }

  module _ (i : Option (ℕ × List ℕ)) (v : Option Value) where
    abbrev w : EndWalk
    w = visiting tx end commit c cs after i v Next

    abbrev p : Member
    p = visited_by tx (c ∷ cs)

    any_lock : (b : Bool) → commit ≡ b → (j : ℕ × List ℕ) → is_some (map.get m (lock_row w p j)) ≡ true → Visited w m → Visited (visiting tx end commit c cs after (Some j) None (free_first b)) m
    any_lock true is j asked h =
        let rel : IsReleased w m p = h.released c cs h.member closed in
        record { decided = h.decided; item = refl; begins = tt; from = h.from; member = h.member; gives = is; sees = reads_begin (chain m (aside_row w p.1 j)); asked = asked; callees = h.callees; freed = λ q r there past. rel.0 q r there; released = h.released; marked = h.marked; linked = h.linked }
    any_lock false is j asked h =
        let rel : IsReleased w m p = h.released c cs h.member closed in
        record { decided = h.decided; item = refl; begins = tt; from = h.from; member = h.member; gives = none_given commit is (tail (chain m (aside_row w p.1 j))); sees = let f = chain m (item_row p.1 j) in freeing_sees (is_own w (item_in p.1 m j)) f (free_place tx end (c ∷ cs)) (Try 0) (walks_begin f (free_place tx end (c ∷ cs))); asked = asked; callees = h.callees; freed = λ q r there past. rel.0 q r there; released = h.released; marked = h.marked; linked = h.linked }
      where
        none_given : (b : Bool) → b ≡ false → (r : Option Row) → None ≡ given_value b r
        none_given true e r = cc
        none_given false e r = refl

    to_stamp : Visited w m → Visited (visiting tx end commit c cs after i v Stamp) m
    to_stamp h =
        let rel : IsReleased w m p = h.released c cs h.member closed in
        record { decided = h.decided; item = tt; begins = refl; from = h.from; member = h.member; gives = tt; sees = tt; asked = tt; callees = h.callees; freed = λ q r there past. rel.0 q r there; released = h.released; marked = h.marked; linked = h.linked }

  passes : Passes tx end commit c cs after m
  passes = record { calls = calls_passed; called = call_found; locks = λ i v. any_lock i v commit refl; stamp = to_stamp }

pub closed_are_passed : ClosedArePassed
closed_are_passed = passes
