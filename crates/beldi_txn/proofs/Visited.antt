-- The end of a transaction visits all who took part, and passes all rows of their locks, one after another.
use Rattle.beldi_txn.{specs.declared.end.EndAt.TheVariants.Shadow, proofs.TxTurn.others_set, proofs.TxTurn.here_set, proofs.TxTurn.Reads, proofs.TxTurn.reads_on, proofs.TxTurn.other_kind, proofs.TxTurn.item_kept, proofs.TxTurn.aside_kept, proofs.TxTurn.asked, proofs.InvokedInside.by_order, proofs.InvokedInside.next_call, proofs.InvokedInside.first_call, proofs.LocksetRows.Item, proofs.LocksetRows.item_at, proofs.LocksetRows.item_told, proofs.LocksetRows.none_past, proofs.LocksetRows.none_first, proofs.LocksetRows.none_between, proofs.LocksetRows.none_before}
use Rattle.beldi_txn.proofs.Names.{cell_key, rows_there, write_spares, Act, AllFreed, AllGrow, AllReleased, AreClosed, AreFit, AreLinked, AreMarked, AreReleased, AtEnd, Bool, Called, Callees, CellOp, Chain, ChangedAlone, Content, Decide, DecidedAt, EndAt, EndGoes, EndOutput, EndTurn, EndWalk, EndsAreVisits, Free, Frees, Gives, HasItem, HasCallPath, IntentId, IsAfter, IsCall, IsDecided, IsFirstFrom, IsFrom, IsLinked, IsMember, IsNext, IsNextCall, IsPassed, IsPast, IsReleased, IsCallPath, IsWithin, Kind, Leaves, LeftAt, Less, Levels, List, LoggedTurn, Look, Member, Next, None, Note, Option, Owner, Place, Plain, PutRead, Query, ReadGoes, Row, RowKey, Rows, RowsStay, SeesAt, SeesFreeing, SeesRows, Some, Stamp, StampAct, Stamps, StartsWithin, Try, TxId, Value, EndState, Visited, VisitsBegin, VisitsStand, WasAsked, WriteAt, WriteGoes, WriteOutput, WriteWalk, [], act, alone_by, ap, arith, aside_head, aside_row, at_each, at_of, at_row, back_from, by_op, call_after, call_goes, call_key, called_at, callee_of, calls_after, calls_goes, chain, chain_other, child_of, content, counts, decide_goes, decision_row, false, first_from, first_visit, free_first, free_place, freed_goes, func_called, given_value, has_callees, has_no_hops, head_asked, home_of, if◌then◌else◌, inl, inr, intent_key, invokes_after, is_closed, is_eq, is_none, is_own, is_owner, is_some, item_after, item_head, item_in, item_row, key_cmp, key_exact, key_same, key_total, last_goes, left_row, lock_row, lockset_after, lockset_key, logged_at, logged_so, looked, ltb-false, ltb-true, member_at, end_after, next_goes, next_row, next_row_least, no_root, note_at, of_no_item, option_map, ordering_reverse, others_grow, owner_of, owns, rank_of, read_goes, readers_keep, reads_begin, refl, row_closed, rows_after, replied, output_of, same_grow, shadow_value, split_front, stamp_with, subst, suc, sym, tail, query_reply, true, turned, unless_owned, value_goes, visited_by, walk_asks, walk_goes, walk_next, walk_output, walks_begin, write_goes, zero, ℕ, ◌++◌, ◌<◌, ◌∙◌, ◌∷◌, ◌≡◌, ◌≤◌, ◌⊎◌}
use Rattle.beldi_txn.proofs.Freeing.{GoesPast, Passes, freeing_sees, freeing_stands, puts_or_passes}
use Rattle.beldi_txn.proofs.Levels.{ends_in, member_more, path_more, path_front, path_last, levels_top, levels_with, levels_pushed, levels_last, levels_popped, member_fit}
use Rattle.beldi_txn.proofs.Names.map

is_owned : (b : Bool) (s : Option WriteOutput) → unless_owned b ≡ s → b ≡ is_none s
is_owned true s h = ap is_none h
is_owned false s h = ap is_none h

-- what is at the one key, and at the others
pub by_key : (q k : RowKey) (P : Type 0) → (q ≡ k → P) → (is_eq (key_cmp q k) ≡ false → P) → P
by_key q k P same apart = (elim (is_eq (key_cmp q k)) as (λ b. is_eq (key_cmp q k) ≡ b → P) [
  | true ↦ λ e. same (key_same q k e)
  | false ↦ λ e. apart e
]) refl

at_most_or : (a b : ℕ) → (a ≤ b) ⊎ (b < a)
at_most_or zero b = inl (omega arith)
at_most_or (suc a) zero = inr (omega arith)
at_most_or (suc a) (suc b) = elim (at_most_or a b) [
  | inl h ↦ inl (omega (arith, h))
  | inr h ↦ inr (omega (arith, h))
]

row_in : (o : Option Row) → is_some o ≡ true → (r : Row) × (o ≡ Some r)
row_in None h = cc
row_in (Some r) h = (r, refl)

was_called : (o : Option Row) (f : ℕ) → option_map func_called o ≡ Some f → is_some o ≡ true
was_called None f h = cc
was_called (Some r) f h = refl

-- calls at rows with the same of them
module _ (m n : Rows) (same : (p : Member) (s : ℕ) → map.get n (call_key p.1 p.0 s) ≡ map.get m (call_key p.1 p.0 s)) where
  pub call_kept : (p : Member) (c : Called) → IsCall m p c → IsCall n p c
  call_kept p c k = (k.0, ap (option_map func_called) (same p c.step) ∙ k.1)

  pub path_kept : (p : Member) (cs : List Called) → IsCallPath m p cs → IsCallPath n p cs
  path_kept p [] w = tt
  path_kept p (c ∷ cs) w = (call_kept p c w.0, path_kept (callee_of p c) cs w.1)

-- ---- what others do
decided_stands : (a : EndAt) (w : EndWalk) (m n : Rows) → Leaves w m n → DecidedAt a w m → DecidedAt a w n
decided_stands Decide w m n h d = tt
decided_stands a w m n h d = h.decision d

given_same : (commit : Bool) (r s : Option Row) → shadow_value s ≡ shadow_value r → given_value commit r ≡ given_value commit s
given_same true r s h = sym h
given_same false r s h = refl

gives_stands : (a : EndAt) (i : Option Item) (w : EndWalk) (home : ℕ) (m n : Rows) → Leaves w m n → Gives a w home m i → Gives a w home n i
gives_stands (Free f) (Some j) w home m n h d = d ∙ given_same w.commit _ _ (h.asides home j)
gives_stands a i w home m n h d = d

sees_stands : (a : EndAt) (i : Option Item) (w : EndWalk) (home : ℕ) (m n : Rows) → Leaves w m n → SeesRows a w home m i → SeesRows a w home n i
sees_stands (Shadow r) (Some j) w home m n h d =
    let k = aside_row w home j in readers_keep (chain m k) (chain n k) r (h.grows k (aside_head home w.tx j.0 j.1)) d
sees_stands (Free f) (Some j) w home m n h d =
    let k = item_row home j in
    freeing_stands (chain m k) (chain n k) (free_place w.tx w.end w.visit.path) f (is_own w (item_in home m j)) (is_own w (item_in home n j)) (h.grows k (item_head home j.0 j.1)) (h.items home j) d
sees_stands a i w home m n h d = tt

asked_stands : (a : EndAt) (i : Option Item) (w : EndWalk) (p : Member) (m n : Rows) → RowsStay m n → WasAsked a w p m i → WasAsked a w p n i
asked_stands (Shadow r) (Some j) w p m n stay d = stay (lock_row w p j) d
asked_stands (Free f) (Some j) w p m n stay d = stay (lock_row w p j) d
asked_stands a i w p m n stay d = tt

module _ (w : EndWalk) (m n : Rows) (h : Leaves w m n) where
  -- the callee of a member is a participant
  closed_more : (ds : List Called) (c : Called) → IsMember w m ds → IsCall m (visited_by w.tx ds) c → AtEnd (IsWithin w) ds c.step → is_closed m (callee_of (visited_by w.tx ds) c) ≡ true → is_closed n (callee_of (visited_by w.tx ds) c) ≡ true
  closed_more [] c member k at closed = h.closed c [] (at, (k, tt)) closed
  closed_more (d ∷ ds) c member k at closed =
      let same = member_more (callee_of (owner_of w) d) ds c in
      ap (is_closed n) (sym same) ∙ h.closed d (ds ++ c ∷ []) (member.0, path_more m (owner_of w) (d ∷ ds) c member.1 k) (ap (is_closed m) same ∙ closed)

  level_on : (ds : List Called) (At P : ℕ → Type 0) → IsMember w m ds → ((s : ℕ) → At s → AtEnd (IsWithin w) ds s) → AreClosed m (visited_by w.tx ds) (λ s. At s × P s) → AreClosed n (visited_by w.tx ds) (λ s. At s × P s)
  level_on ds At P member within l c k at = let was = h.calls ds member c (within c.step at.0) k in closed_more ds c member was (within c.step at.0) (l c was at)

  below_on : (d : Called) (ds cs : List Called) (Past : ℕ → Type 0) → let p = visited_by w.tx (d ∷ ds) in IsMember w m (d ∷ ds) → IsCallPath m p cs → Levels m p (λ s. Unit {0}) cs Past → Levels n p (λ s. Unit {0}) cs Past
  below_on d ds [] Past member leads l = level_on (d ∷ ds) (λ s. Unit {0}) Past member (λ s at. tt) l
  below_on d ds (e ∷ es) Past member leads l = (
    level_on (d ∷ ds) (λ s. Unit {0}) (λ s. s < e.step) member (λ s at. tt) l.0,
    subst (λ (p : Member). IsCallPath m p es → Levels m p (λ s. Unit {0}) es Past → Levels n p (λ s. Unit {0}) es Past) (member_more (callee_of (owner_of w) d) ds e)
        (below_on d (ds ++ e ∷ []) es Past (member.0, path_more m (owner_of w) (d ∷ ds) e member.1 leads.0)) leads.1 l.1,
  )

  levels_stand : (cs : List Called) (Past : ℕ → Type 0) → IsMember w m cs → Levels m (owner_of w) (IsWithin w) cs Past → Levels n (owner_of w) (IsWithin w) cs Past
  levels_stand [] Past member l = level_on [] (IsWithin w) Past (tt, tt) (λ s at. at) l
  levels_stand (e ∷ es) Past member l = (
    level_on [] (IsWithin w) (λ s. s < e.step) (tt, tt) (λ s at. at) l.0,
    below_on e [] es Past (member.0, (member.1.0, tt)) member.1.1 l.1,
  )

pub visits_stand : VisitsStand
visits_stand w m n v h = record {
  decided = decided_stands w.visit.at w m n h v.decided;
  item = v.item;
  begins = v.begins;
  from = v.from;
  member = h.path v.member;
  gives = gives_stands w.visit.at w.visit.item w p.1 m n h v.gives;
  sees = sees_stands w.visit.at w.visit.item w p.1 m n h v.sees;
  asked = asked_stands w.visit.at w.visit.item w p m n h.stay v.asked;
  callees = levels_stand w m n h w.visit.path (IsPassed w.visit.at w.visit.after) v.member v.callees;
  freed = λ q r here past. let s = row_in (map.get m (lock_row w p q)) (h.locks w.visit.path v.member q r here) in h.items p.1 q (v.freed q s.0 s.1 past);
  released = h.released;
  marked = h.marks;
  linked = h.linked;
}
  where
    p : Member
    p = visited_by w.tx w.visit.path

pub visits_begin : VisitsBegin
visits_begin tx end commit m released marked linked = record {
  decided = tt;
  item = refl;
  begins = (refl, refl);
  from = tt;
  member = (tt, tt);
  gives = tt;
  sees = tt;
  asked = tt;
  callees = λ c k at. absurd at.1;
  freed = λ q r here past. absurd past;
  released = released;
  marked = marked;
  linked = linked;
}

-- ---- the next call, and the next lock
-- the row that is asked for, where there is no call before, is the first of those of its calls ..
abbrev pub FindsFirstCall : Member → Rows → Type 0
FindsFirstCall p m = (e : Option (RowKey × Row)) → IsNext m (invokes_after p.1 p.0 None) e → IsFirstFrom m (call_key p.1 p.0 0) e

-- .. and where there is no item before, of its locks
abbrev pub FindsFirstLock : TxId → Member → Rows → Type 0
FindsFirstLock x p m = (e : Option (RowKey × Row)) → IsNext m (lockset_after p.1 p.0 x.begin None) e → IsFirstFrom m (lockset_key p.1 p.0 x.begin 0 []) e

at_end : (At : ℕ → Type 0) (cs : List Called) (n : ℕ) → is_owner cs ≡ false → AtEnd At cs n
at_end At [] n h = cc
at_end At (c ∷ cs) n h = tt

-- ---- the decision
-- a row that is there is this decision, or the end stays at it
abbrev Decided_by : Bool → Row → EndGoes → Type 0
Decided_by c r g = ((r ≡ Row.ReadLog (Value.Bool c)) × (g ≡ EndGoes.Decided false)) ⊎ ((r ≡ Row.ReadLog (Value.Bool c) → ⊥) × (g ≡ EndGoes.Stays))

by_row : (c : Bool) (now : ℕ) (r : Row) → Decided_by c r (decide_goes c (replied (act (PutRead (Value.Bool c)) now (Some r)).1))
by_row true now (Row.ReadLog (Value.Bool true)) = inl (refl, refl)
by_row true now (Row.ReadLog (Value.Bool false)) = inr (λ h. cc, refl)
by_row false now (Row.ReadLog (Value.Bool true)) = inr (λ h. cc, refl)
by_row false now (Row.ReadLog (Value.Bool false)) = inl (refl, refl)
by_row c now r = inr (λ h. cc, refl)

-- ---- a participant gets its finish
-- a participant is no root
not_root : (m : Rows) (p : Member) (cs : List Called) → IsCallPath m p cs → is_owner cs ≡ false → has_no_hops (member_at p cs).0.hops ≡ false
not_root m p [] w h = cc
not_root m p (c ∷ []) w h = ap (λ b. has_no_hops (if b then child_of p.0 c.step else p.0).hops) w.0.0 ∙ no_root p.0 c.step
not_root m p (c ∷ d ∷ ds) w h = not_root m (callee_of p c) (d ∷ ds) w.1 refl

owner_not : (front : List Called) (c : Called) → is_owner (front ++ c ∷ []) ≡ false
owner_not [] c = refl
owner_not (d ∷ ds) c = refl

abbrev id_in : Kind → IntentId
id_in (Kind.Intent i) = i
id_in k = record { ticket = 0; hops = [] }

home_is : (p : Member) → has_no_hops p.0.hops ≡ false → home_of p.0 p.1 ≡ p.1
home_is p h = ap (λ b. if b then 0 else p.1) h

-- the row of a participant is of no other
same_member : (p q : Member) → has_no_hops p.0.hops ≡ false → has_no_hops q.0.hops ≡ false → intent_key q.0 q.1 ≡ intent_key p.0 p.1 → q ≡ p
same_member p q hp hq h =
    let id : q.0 ≡ p.0 = ap (λ (k : RowKey). id_in k.kind) h in
    let f : q.1 ≡ p.1 = sym (home_is q hq) ∙ ap (λ (k : RowKey). k.home) h ∙ home_is p hp in
    λ i. (id i, f i)

-- what it leaves is closed
stamp_leaves : (now : ℕ) (r : Option Row) → Stamps r (act StampAct now r).0
stamp_leaves now (Some (Row.Intent i)) = by i.finish refl
  where
    by : (o : Option ℕ) → i.finish ≡ o → Stamps (Some (Row.Intent i)) (Some (Row.Intent (stamp_with now i o).0))
    by None is = inr (record { intent = i; before = refl; none = is; finish = now; now = refl })
    by (Some t) is = inl (refl, ap is_some is)
stamp_leaves now r = inl (refl, refl)

pub closed_by : (r s : Option Row) → Stamps r s → row_closed s ≡ true
closed_by r s (inl h) = ap row_closed h.0 ∙ h.1
closed_by r s (inr h) = ap row_closed h.now

abbrev func_or : ℕ → Option ℕ → ℕ
func_or n None = n
func_or n (Some f) = f

module _ (x : TxId) (end : ℕ) (commit : Bool) where
  abbrev walk : EndState → EndWalk
  walk z = record { tx = x; end = end; commit = commit; visit = z }

  abbrev visit : List Called → Option ℕ → Option Item → Option Value → EndAt → EndState
  visit cs af i u a = record { path = cs; after = af; item = i; value = u; at = a }

  -- the walk, wherever it stands
  abbrev bare : EndWalk
  bare = walk first_visit

  abbrev owns_all : Member
  owns_all = owner_of bare

  abbrev who : List Called → Member
  who cs = visited_by x cs

  pub record Leads (z : EndState) (q : Query) (m n : Rows) (g : EndGoes) : Type 0 where
    pub others : ChangedAlone (head_asked q) m n
    pub stay : RowsStay m n
    pub grows : AllGrow m n
    pub left : LeftAt z.at (walk z) z.item (output_of g) m n
    pub visited : Visited (walk (end_after commit z g)) n
    pub done : output_of g ≡ EndOutput.Done → IsDecided (walk z) n × AllReleased (walk z) n

  -- a turn of the walk at a visit ..
  abbrev Turns : EndState → ℕ → Rows → Type 0
  Turns z now m = let q = walk_asks (walk z) in Leads z q m (rows_after q now m) (walk_goes (walk z) (query_reply q now m))

  -- .. and one that leaves the rows
  abbrev Moves : EndState → Rows → EndGoes → Type 0
  Moves z m g = Leads z (walk_asks (walk z)) m m g

  -- unless it is the last, it says what is so of where it goes
  moves : (z : EndState) (m : Rows) (g : EndGoes) → LeftAt z.at (walk z) z.item (output_of g) m m → (output_of g ≡ EndOutput.Done → ⊥) → Visited (walk (end_after commit z g)) m → Moves z m g
  moves z m g left on v = record { others = λ k off. refl; stay = λ k h. h; grows = same_grow m m refl; left = left; visited = v; done = λ h. absurd (on h) }

  -- at the same rows, all that is said of everyone is so at any visit
  goes_to : (z y : EndState) (m : Rows) → Visited (walk z) m → DecidedAt y.at (walk y) m → HasItem y.at y.item → HasCallPath y.at y.path y.after → IsFrom bare y.path y.after → IsMember bare m y.path
      → Gives y.at (walk y) (who y.path).1 m y.item → SeesRows y.at (walk y) (who y.path).1 m y.item → WasAsked y.at (walk y) (who y.path) m y.item → Levels m owns_all (IsWithin bare) y.path (IsPassed y.at y.after)
      → ((q : Item) (r : Row) → let p = who y.path in map.get m (lock_row bare p q) ≡ Some r → IsPast y.at (walk y) p y.item q → is_own bare (item_in p.1 m q) ≡ false) → Visited (walk y) m
  goes_to z y m v decided item begins from member gives sees asked callees freed = record {
    decided = decided;
    item = item;
    begins = begins;
    from = from;
    member = member;
    gives = gives;
    sees = sees;
    asked = asked;
    callees = callees;
    freed = freed;
    released = v.released;
    marked = v.marked;
    linked = v.linked;
  }

  -- to the calls of who is visited
  to_calls : (z : EndState) (cs : List Called) (af : Option ℕ) (u : Option Value) (m : Rows) → Visited (walk z) m → IsDecided bare m → IsFrom bare cs af → IsMember bare m cs → Levels m owns_all (IsWithin bare) cs (IsPassed Callees af)
      → Visited (walk (visit cs af None u Callees)) m
  to_calls z cs af u m v decided from member callees = goes_to z (visit cs af None u Callees) m v decided refl tt from member tt tt tt callees (λ q r here past. absurd past)

  -- ---- what a turn leaves of the rows
  record Shows (m n : Rows) : Type 0 where
    stay : RowsStay m n
    grows : AllGrow m n
    decision : IsDecided bare m → IsDecided bare n
    calls : (p : Member) (s : ℕ) → map.get n (call_key p.1 p.0 s) ≡ map.get m (call_key p.1 p.0 s)
    locks : (p : Member) (q : Item) → map.get n (lock_row bare p q) ≡ map.get m (lock_row bare p q)
    asides : (f : ℕ) (q : Item) → chain n (aside_row bare f q) ≡ chain m (aside_row bare f q)
    closed : (p : Member) → is_closed m p ≡ true → is_closed n p ≡ true
    -- an item is as it was, or is not the transaction's
    items : (f : ℕ) (q : Item) → (item_in f n q ≡ item_in f m q) ⊎ (is_own bare (item_in f n q) ≡ false)
    -- who is closed was so, or has given back all
    released : (c : Called) (cs : List Called) → IsMember bare m (c ∷ cs) → is_closed n (who (c ∷ cs)) ≡ true → (is_closed m (who (c ∷ cs)) ≡ true) ⊎ IsReleased bare m (who (c ∷ cs))
    linked : AreLinked bare n

  module _ (m n : Rows) (h : Shows m n) where
    call_back : (p : Member) (s : ℕ) → map.get m (call_key p.1 p.0 s) ≡ map.get n (call_key p.1 p.0 s)
    call_back p s = sym (h.calls p s)

    own_on : (f : ℕ) (q : Item) → is_own bare (item_in f m q) ≡ false → is_own bare (item_in f n q) ≡ false
    own_on f q was = elim (h.items f q) [
      | inl same ↦ ap (is_own bare) same ∙ was
      | inr none ↦ none
    ]

    released_on : AreReleased bare m → AreReleased bare n
    released_on all c cs member closed =
        let was : IsMember bare m (c ∷ cs) = (member.0, path_kept n m call_back owns_all (c ∷ cs) member.1) in
        elim (h.released c cs was closed) [
          | inl k ↦ on (who (c ∷ cs)) (all c cs was k)
          | inr k ↦ on (who (c ∷ cs)) k
        ]
      where
        on : (p : Member) → IsReleased bare m p → IsReleased bare n p
        on p k = (λ q r there. own_on p.1 q (k.0 q r (sym (h.locks p q) ∙ there)), λ c called at. h.closed (callee_of p c) (k.1 c (call_kept n m call_back p c called) at))

    marked_on : AreMarked bare m → AreMarked bare n
    marked_on v cs member q nt noted = elim (h.items (who cs).1 q) [
      | inl same ↦ ap (is_own bare) same ∙ v cs (member.0, path_kept n m call_back owns_all cs member.1) q nt (sym (ap (λ (c : Content). note_at c.notes (free_place x end cs)) same) ∙ noted)
      | inr none ↦ none
    ]

    -- so the visit stands, wherever it is
    stands : (z : EndState) → Visited (walk z) m → Visited (walk z) n
    stands z v = visits_stand (walk z) m n v (record {
      stay = h.stay;
      grows = h.grows;
      decision = h.decision;
      asides = λ f q. ap (λ c. shadow_value (tail c)) (h.asides f q);
      path = λ w. (w.0, path_kept m n h.calls owns_all z.path w.1);
      calls = λ cs w c at. call_kept n m call_back (who cs) c;
      locks = λ cs w q r here. ap is_some (sym (h.locks (who cs) q) ∙ here);
      closed = λ c cs w. h.closed (who (c ∷ cs));
      items = own_on;
      released = released_on v.released;
      marks = marked_on v.marked;
      linked = h.linked;
    })

  -- ---- the decision
  module _ (u : Option Value) (now : ℕ) (m : Rows) (v : Visited (walk (visit [] None None u Decide)) m) where
    abbrev dz : EndState
    dz = visit [] None None u Decide

    abbrev dk : RowKey
    dk = decision_row bare

    decides : (n : Rows) → Visited (walk dz) n → IsDecided bare n → Visited (walk (visit [] None None u Callees)) n
    decides n w there = to_calls dz [] None u n w there tt (tt, tt) (λ c k at. absurd at.1)

    abbrev dn : Rows
    dn = rows_after (walk_asks (walk dz)) now m

    put_first : map.get m dk ≡ None → Leads dz (walk_asks (walk dz)) m dn (EndGoes.Decided true)
    put_first none = record { others = others; stay = stay; grows = grows; left = (none, there); visited = decides dn (stands m dn shows dz v) there; done = λ is. cc }
      where
        s : Option Row
        s = (act (PutRead (Value.Bool commit)) now (map.get m dk)).0

        there : map.get dn dk ≡ Some (Row.ReadLog (Value.Bool commit))
        there = here_set m dk s ∙ ap (λ o. (act (PutRead (Value.Bool commit)) now o).0) none

        others : ChangedAlone dk m dn
        others = alone_by m dn dk refl (others_set m dk s)

        stay : RowsStay m dn
        stay = rows_there (walk_asks (walk dz)) refl now m

        grows : AllGrow m dn
        grows = others_grow m dn dk (of_no_item dk refl) (others_set m dk s)

        same : (q : RowKey) → (rank_of q.kind ≡ 1 → ⊥) → map.get dn q ≡ map.get m q
        same = other_kind m dn dk others

        same_item : (f : ℕ) (q : Item) → chain dn (item_row f q) ≡ chain m (item_row f q)
        same_item f q = item_kept m dn dk others (λ y. cc) f q.0 q.1

        same_aside : (f : ℕ) (q : Item) → chain dn (aside_row bare f q) ≡ chain m (aside_row bare f q)
        same_aside f q = aside_kept m dn dk others (λ y. cc) f x q.0 q.1

        shows : Shows m dn
        shows = record {
          stay = stay;
          grows = grows;
          decision = λ is. there;
          calls = λ p s. same (call_key p.1 p.0 s) (λ y. cc);
          locks = λ p q. same (lock_row bare p q) (λ y. cc);
          asides = same_aside;
          closed = λ p c. ap row_closed (same (intent_key p.0 p.1) (λ y. cc)) ∙ c;
          items = λ f q. inl (ap content (same_item f q));
          released = λ c ds w k. inl (sym (ap row_closed (same (intent_key (who (c ∷ ds)).0 (who (c ∷ ds)).1) (λ y. cc))) ∙ k);
          linked = λ f q. (subst IsLinked (sym (same_item f q)) (v.linked f q).0, subst IsLinked (sym (same_aside f q)) (v.linked f q).1);
        }

    -- it was there, and stays as it is
    stood : (r : Row) (g : EndGoes) → map.get m dk ≡ Some r → Decided_by commit r g → Moves dz m g
    stood r g is (inl h) = let there = is ∙ ap (λ s. Some s) h.0 in subst (Moves dz m) (sym h.1) (moves dz m (EndGoes.Decided false) (there, refl) (λ e. cc) (decides m v there))
    stood r g is (inr h) = subst (Moves dz m) (sym h.1) (moves dz m EndGoes.Stays (λ was. h.0 (let e = sym is ∙ was in cc), refl) (λ e. cc) v)

    by_told : (o : Option Row) → map.get m dk ≡ o → Leads dz (walk_asks (walk dz)) m dn (decide_goes commit (replied (act (PutRead (Value.Bool commit)) now o).1))
    by_told None is = put_first is
    by_told (Some r) is =
        let g = decide_goes commit (replied (act (PutRead (Value.Bool commit)) now (Some r)).1) in
        subst (λ n. Leads dz (walk_asks (walk dz)) m n g) (sym (left_row (PutRead (Value.Bool commit)) now dk m (Some r) is refl)) (stood r g is (by_row commit now r))

  -- ---- the next call of who is visited
  from_none : (cs : List Called) → IsFrom bare cs None
  from_none [] = tt
  from_none (c ∷ cs) = tt

  -- a call that counts was passed, or is past those that were
  passed_or : (cs : List Called) (af : Option ℕ) (q : ℕ) → AtEnd (IsWithin bare) cs q → IsPassed Callees af q ⊎ IsAfter (calls_after x cs af) q
  passed_or [] None q at = inr at.0
  passed_or [] (Some s) q at = at_most_or q s
  passed_or (d ∷ ds) None q at = inr tt
  passed_or (d ∷ ds) (Some s) q at = at_most_or q s

  from_told : (cs : List Called) (af : Option ℕ) (n : ℕ) → IsFrom bare cs af → IsAfter (calls_after x cs af) n → IsFrom bare cs (Some n)
  from_told [] None n from past = past
  from_told [] (Some s) n from past = let a = past in let b = from in omega (arith, a, b)
  from_told (d ∷ ds) af n from past = tt

  starts_within : (cs : List Called) (c : Called) → StartsWithin bare cs → IsFrom bare cs (Some c.step) → counts end cs c ≡ true → StartsWithin bare (cs ++ c ∷ [])
  starts_within [] c w from h = (from, ltb-true c.step end h)
  starts_within (d ∷ ds) c w from h = w

  -- a call at the end's step or later is none of the transaction's
  counted_before : (cs : List Called) (c : Called) (n : ℕ) → counts end cs c ≡ false → AtEnd (IsWithin bare) cs n → n < c.step
  counted_before [] c n h at = let a = ltb-false c.step end h in let b = at.1 in omega (arith, a, b)
  counted_before (d ∷ ds) c n h at = cc

  module _ (cs : List Called) (af : Option ℕ) (u : Option Value) (m : Rows) (v : Visited (walk (visit cs af None u Callees)) m) where
    abbrev cz : EndState
    cz = visit cs af None u Callees

    abbrev ckey : RowKey
    ckey = invokes_after (who cs).1 (who cs).0 (calls_after x cs af)

    seen : (q : ℕ) (r : Row) → map.get m (call_key (who cs).1 (who cs).0 q) ≡ Some r → AtEnd (IsWithin bare) cs q → (IsAfter (calls_after x cs af) q → map.get m (call_key (who cs).1 (who cs).0 q) ≡ None) → IsPassed Callees af q
    seen q r here at none = elim (passed_or cs af q at) [
      | inl past ↦ past
      | inr l ↦ let clash = sym here ∙ none l in cc
    ]

    closed_if : (At : ℕ → Type 0) → ((q : ℕ) (r : Row) → map.get m (call_key (who cs).1 (who cs).0 q) ≡ Some r → AtEnd (IsWithin bare) cs q → At q → IsPassed Callees af q) → AreClosed m (who cs) (λ n. AtEnd (IsWithin bare) cs n × At n)
    closed_if At seen c k at =
        let o = map.get m (call_key (who cs).1 (who cs).0 c.step) in
        let r = row_in o (was_called o c.func k.1) in
        levels_top m owns_all (IsWithin bare) cs (IsPassed Callees af) v.callees c k (at.0, seen c.step r.0 r.1 at.0 at.1)

    to_locks : AreClosed m (who cs) (λ n. AtEnd (IsWithin bare) cs n × Unit {0}) → Moves cz m (EndGoes.On Next)
    to_locks closed = moves cz m (EndGoes.On Next) refl (λ h. cc)
        (goes_to cz (visit cs af None u Next) m v v.decided tt tt v.from v.member tt tt tt (levels_with m owns_all (IsWithin bare) cs (IsPassed Callees af) (IsPassed Next af) v.callees closed) (λ q r here past. absurd past))

    module _ (c : Called) (next : IsNextCall (who cs).1 (who cs).0 (calls_after x cs af) m (Some c)) where
      from : IsFrom bare cs (Some c.step)
      from = from_told cs af c.step v.from next.0

      seen_before : (q : ℕ) (r : Row) → map.get m (call_key (who cs).1 (who cs).0 q) ≡ Some r → AtEnd (IsWithin bare) cs q → q < c.step → IsPassed Callees af q
      seen_before q r here at less = seen q r here at (λ l. next.1.1 q l less)

      by_callees : (b : Bool) → has_callees (who cs).0 ≡ b → counts end cs c ≡ true → Moves cz m (call_goes b cs c)
      by_callees true has counted = moves cz m (EndGoes.Callee (cs ++ c ∷ [])) refl (λ h. cc)
          (to_calls cz (cs ++ c ∷ []) None None m v v.decided (from_none (cs ++ c ∷ [])) (starts_within cs c v.member.0 from counted, path_more m owns_all cs c v.member.1 (has, next.1.0))
          (levels_pushed m owns_all (IsWithin bare) cs c (IsPassed Callees af) (IsPassed Callees None) v.callees (closed_if (λ n. n < c.step) seen_before) (λ d k at. absurd at.1)))
      by_callees false has counted = moves cz m (EndGoes.Passed c.step) refl (λ h. cc)
          (to_calls cz cs (Some c.step) u m v v.decided from v.member
          (levels_with m owns_all (IsWithin bare) cs (IsPassed Callees af) (IsPassed Callees (Some c.step)) v.callees (λ d k at. let clash = sym has ∙ k.0 in cc)))

      by_counts : (b : Bool) → counts end cs c ≡ b → Moves cz m (if b then call_goes (has_callees (who cs).0) cs c else EndGoes.On Next)
      by_counts true h = by_callees (has_callees (who cs).0) refl h
      by_counts false h = to_locks (closed_if (λ n. Unit {0}) (λ q r here at y. seen_before q r here at (counted_before cs c q h at)))

    by_call : (f : Option Called) → IsNextCall (who cs).1 (who cs).0 (calls_after x cs af) m f → Moves cz m (calls_goes end (who cs) cs f)
    by_call None next = to_locks (closed_if (λ n. Unit {0}) (λ q r here at y. seen q r here at (next q)))
    by_call (Some c) next = by_counts c next (counts end cs c) refl

    call_turn : (now : ℕ) → FindsFirstCall (who cs) m → Turns cz now m
    call_turn now first =
        let e = next_row m ckey in
        by_call (call_after (who cs).1 (who cs).0 e) (next_call (who cs).1 (who cs).0 m first (calls_after x cs af) e (next_row_least m ckey) (call_after (who cs).1 (who cs).0 e) refl)

  -- ---- after the last lock the owner is done: all who took part are closed, as each of them has given back all and so have its callees
  module _ (m : Rows) (released : AreReleased bare m) (own : AreClosed m owns_all (IsWithin bare)) where
    -- from a way to a participant that is closed, on to those below it
    below_closed : (c : Called) (ds : List Called) → IsMember bare m (c ∷ ds) → is_closed m (who (c ∷ ds)) ≡ true → (es : List Called) → IsCallPath m (who (c ∷ ds)) es → is_closed m (member_at (who (c ∷ ds)) es) ≡ true
    below_closed c ds member closed [] w = closed
    below_closed c ds member closed (e ∷ es) w =
        let k = (released c ds member closed).1 e w.0 tt in
        let same = member_more (callee_of owns_all c) ds e in
        subst (λ (p : Member). is_closed m (member_at p es) ≡ true) same
        (below_closed c (ds ++ e ∷ []) (member.0, path_more m owns_all (c ∷ ds) e member.1 w.0) (subst (λ (p : Member). is_closed m p ≡ true) (sym same) k) es (subst (λ (p : Member). IsCallPath m p es) (sym same) w.1))

    all_closed : (c : Called) (cs : List Called) → IsMember bare m (c ∷ cs) → is_closed m (who (c ∷ cs)) ≡ true
    all_closed c cs member = below_closed c [] (member.0, (member.1.0, tt)) (own c member.1.0 member.0) cs member.1.1

  -- an item is given back from its first row on
  free_begins : (m : Rows) (cs : List Called) (j : Item) → SeesFreeing (is_own bare (item_in (who cs).1 m j)) (chain m (item_row (who cs).1 j)) (free_place x end cs) (Try 0)
  free_begins m cs j = let f = chain m (item_row (who cs).1 j) in freeing_sees (is_own bare (item_in (who cs).1 m j)) f (free_place x end cs) (Try 0) (walks_begin f (free_place x end cs))

  -- ---- the next item of who is visited
  -- a participant gets its finish next
  past_locks : (cs : List Called) (af : Option ℕ) (i : Option Item) (u : Option Value) (m : Rows) → let z = visit cs af i u Next in Visited (walk z) m → AllFreed bare m (who cs) → Moves z m (last_goes (is_owner cs))
  past_locks [] af i u m v freed = record { others = λ k off. refl; stay = λ k h. h; grows = same_grow m m refl; left = refl; visited = v; done = λ h. (v.decided, record { owner = freed; closed = closed; freed = λ c cs member. (v.released c cs member (closed c cs member)).0 }) }
    where
      closed : (c : Called) (cs : List Called) → IsMember bare m (c ∷ cs) → is_closed m (who (c ∷ cs)) ≡ true
      closed = all_closed m v.released (λ c k at. v.callees c k (at, tt))
  past_locks (c ∷ cs) af i u m v freed = moves (visit (c ∷ cs) af i u Next) m (EndGoes.On Stamp) refl (λ h. cc)
      (goes_to (visit (c ∷ cs) af i u Next) (visit (c ∷ cs) af i u Stamp) m v v.decided tt refl tt v.member tt tt tt v.callees (λ q r here past. freed q r here))

  module _ (cs : List Called) (af : Option ℕ) (u : Option Value) (m : Rows) (first : FindsFirstLock x (who cs) m) where
    abbrev nz : Option Item → EndState
    nz i = visit cs af i u Next

    abbrev key_after : Option Item → RowKey
    key_after i = lockset_after (who cs).1 (who cs).0 x.begin i

    -- all that was passed was freed; so are all up to the item that is told ..
    freed_before : (i : Option Item) (v : Visited (walk (nz i)) m) (j q : Item) (r : Row) (e : Option (RowKey × Row)) → IsNext m (key_after i) e → item_after (who cs).1 (who cs).0 x.begin e ≡ Some j
        → map.get m (lock_row bare (who cs) q) ≡ Some r → key_cmp (lock_row bare (who cs) q) (lock_row bare (who cs) j) ≡ Less → is_own bare (item_in (who cs).1 m q) ≡ false
    freed_before None v j q r e next is here less = absurd (none_before (who cs).1 (who cs).0 x.begin m j q r e (first e next) is here less)
    freed_before (Some c) v j q r e next is here less = v.freed q r here (λ l. none_between (who cs).1 (who cs).0 x.begin m c j q r e next is here less l)

    -- .. and all, where none is told
    freed_all : (i : Option Item) (v : Visited (walk (nz i)) m) (e : Option (RowKey × Row)) → IsNext m (key_after i) e → item_after (who cs).1 (who cs).0 x.begin e ≡ None → AllFreed bare m (who cs)
    freed_all None v e next none q r here = absurd (none_first (who cs).1 (who cs).0 x.begin m q r e (first e next) none here)
    freed_all (Some c) v e next none q r here = v.freed q r here (λ l. none_past (who cs).1 (who cs).0 x.begin m c q r e next none here l)

    -- a commit looks at the shadow, and an abort gives the item back
    at_item : (i : Option Item) (v : Visited (walk (nz i)) m) (j : Item) → ((q : Item) (r : Row) → map.get m (lock_row bare (who cs) q) ≡ Some r → key_cmp (lock_row bare (who cs) q) (lock_row bare (who cs) j) ≡ Less → is_own bare (item_in (who cs).1 m q) ≡ false)
        → is_some (map.get m (lock_row bare (who cs) j)) ≡ true → (c : Bool) → commit ≡ c → Visited (walk (visit cs af (Some j) None (free_first c))) m
    at_item i v j freed asked true is = goes_to (nz i) (visit cs af (Some j) None (Shadow 0)) m v v.decided refl tt v.from v.member is (reads_begin (chain m (aside_row bare (who cs).1 j))) asked v.callees freed
    at_item i v j freed asked false is = goes_to (nz i) (visit cs af (Some j) None (Free (Try 0))) m v v.decided refl tt v.from v.member (ap (λ c. given_value c (tail (chain m (aside_row bare (who cs).1 j)))) (sym is))
        (free_begins m cs j) asked v.callees freed

    next_turn : (i : Option Item) (now : ℕ) → Visited (walk (nz i)) m → Turns (nz i) now m
    next_turn i now v = by (item_after (who cs).1 (who cs).0 x.begin found) refl
      where
        found : Option (RowKey × Row)
        found = next_row m (key_after i)

        least : IsNext m (key_after i) found
        least = next_row_least m (key_after i)

        by : (f : Option Item) → item_after (who cs).1 (who cs).0 x.begin found ≡ f → Moves (nz i) m (next_goes cs f)
        by None is = past_locks cs af i u m v (freed_all i v found least is)
        by (Some j) is = moves (nz i) m (EndGoes.Item j.0 j.1) refl (λ h. cc) (at_item i v j (λ q r here less. freed_before i v j q r found least is here less) (item_told (who cs).1 (who cs).0 x.begin m (key_after i) j found least is) commit refl)

  -- ---- the shadow of an item
  look_turn : (cs : List Called) (af : Option ℕ) (j : Item) (u : Option Value) (r now : ℕ) (m : Rows) → let z = visit cs af (Some j) u (Shadow r) in Visited (walk z) m → Turns z now m
  look_turn cs af j u r now m v =
      subst (λ n. Leads z (walk_asks (walk z)) m n (walk_goes (walk z) (query_reply (walk_asks (walk z)) now m))) (sym (looked now (at_row (aside_row bare (who cs).1 j) r) m))
      (by (read_goes None (replied (act Look now (chain m (aside_row bare (who cs).1 j) r)).1)) (reads_on (chain m (aside_row bare (who cs).1 j)) r now (v.linked (who cs).1 j).1 v.sees))
    where
      z : EndState
      z = visit cs af (Some j) u (Shadow r)

      f : Chain
      f = chain m (aside_row bare (who cs).1 j)

      valued : (s : Option Value) → shadow_value (tail f) ≡ s → Moves z m (EndGoes.Value s)
      valued s is = moves z m (EndGoes.Value s) refl (λ h. cc)
          (goes_to z (visit cs af (Some j) s (Free (Try 0))) m v v.decided refl tt v.from v.member (sym is ∙ ap (λ c. given_value c (tail f)) (sym v.gives))
          (free_begins m cs j) v.asked v.callees v.freed)

      by : (g : ReadGoes) → Reads f g → Moves z m (value_goes g)
      by (ReadGoes.On n) sees = moves z m (EndGoes.On (Shadow n)) refl (λ h. cc) (goes_to z (visit cs af (Some j) u (Shadow n)) m v v.decided refl tt v.from v.member v.gives sees v.asked v.callees v.freed)
      by (ReadGoes.Got None) none = valued None (ap shadow_value none)
      by (ReadGoes.Got (Some w)) is = valued (Some w) is
      by g other = absurd other

  -- ---- an item is given back
  module _ (cs : List Called) (af : Option ℕ) (j : Item) (u : Option Value) (f : WriteAt) (m : Rows) (v : Visited (walk (visit cs af (Some j) u (Free f))) m) where
    -- the walk may go on to where it sees what it has to ..
    further : (a : WriteAt) → SeesFreeing (is_own bare (item_in (who cs).1 m j)) (chain m (item_row (who cs).1 j)) (free_place x end cs) a → Visited (walk (visit cs af (Some j) u (Free a))) m
    further a sees = goes_to (visit cs af (Some j) u (Free f)) (visit cs af (Some j) u (Free a)) m v v.decided refl tt v.from v.member v.gives sees v.asked v.callees v.freed

    -- .. or past the item, which is not the transaction's
    past_item : is_own bare (item_in (who cs).1 m j) ≡ false → Visited (walk (visit cs af (Some j) u Next)) m
    past_item not_own = goes_to (visit cs af (Some j) u (Free f)) (visit cs af (Some j) u Next) m v v.decided tt tt v.from v.member tt tt tt v.callees
        (λ q r here past. by_order (key_cmp (lock_row bare (who cs) q) (lock_row bare (who cs) j)) (is_own bare (item_in (who cs).1 m q) ≡ false)
        (λ less. v.freed q r here less)
        (λ level. subst (λ (i : Item). is_own bare (item_in (who cs).1 m i) ≡ false) (sym (ap (λ (k : RowKey). item_at k.kind) (key_exact (lock_row bare (who cs) q) (lock_row bare (who cs) j) level))) not_own)
        (λ greater. absurd (past (key_total.antisymm (lock_row bare (who cs) j) (lock_row bare (who cs) q) ∙ ap ordering_reverse greater))))

  module _ (cs : List Called) (af : Option ℕ) (j : Item) (u : Option Value) (f : WriteAt) (m n : Rows) (stay : RowsStay m n) (v : Visited (walk (visit cs af (Some j) u (Free f))) m) where
    abbrev fz : EndState
    fz = visit cs af (Some j) u (Free f)

    abbrev place : Place
    place = free_place x end cs

    abbrev as_free : WriteWalk
    as_free = record { home = (who cs).1; item = Plain j.0 j.1; place = place; who = Owner.Tx x; op = CellOp.Free u; at = f }

    abbrev Frees_to : EndGoes → Type 0
    Frees_to g = Leads fz (walk_asks (walk fz)) m n g

    -- the item stands, or is nobody's
    abbrev Became : Content → Content → Type 0
    Became c d = (d ≡ c) ⊎ (is_own bare d ≡ false)

    module _ (y : WriteWalk) (s : WriteOutput) (l : LoggedTurn as_free y m n s) (became : Became (item_in (who cs).1 m j) (item_in (who cs).1 n j)) where
      abbrev fk : RowKey
      fk = item_row (who cs).1 j

      beside : (k : RowKey) → (rank_of k.kind ≡ 3 → ⊥) → map.get n k ≡ map.get m k
      beside = other_kind m n fk l.others

      other_item : (h : ℕ) (q : Item) → is_eq (key_cmp (item_row h q) fk) ≡ false → chain n (item_row h q) ≡ chain m (item_row h q)
      other_item h q = chain_other m n fk (item_row h q) l.others (item_head h q.0 q.1)

      same_aside : (h : ℕ) (q : Item) → chain n (aside_row bare h q) ≡ chain m (aside_row bare h q)
      same_aside h q = aside_kept m n fk l.others (λ y. cc) h x q.0 q.1

      stood_free : Visited (walk fz) n
      stood_free = stands m n (record {
        stay = stay;
        grows = l.grows;
        decision = λ is. beside (decision_row bare) (λ y. cc) ∙ is;
        calls = λ p t. beside (call_key p.1 p.0 t) (λ y. cc);
        locks = λ p q. beside (lock_row bare p q) (λ y. cc);
        asides = same_aside;
        closed = λ p c. ap row_closed (beside (intent_key p.0 p.1) (λ y. cc)) ∙ c;
        items = λ h q. by_key (item_row h q) fk (Became (item_in h m q) (item_in h n q))
            (λ e. subst (λ k. Became (content (chain m k)) (content (chain n k))) (sym e) became)
            (λ off. inl (ap content (other_item h q off)));
        released = λ c ds w k. inl (sym (ap row_closed (beside (intent_key (who (c ∷ ds)).0 (who (c ∷ ds)).1) (λ y. cc))) ∙ k);
        linked = λ h q. (
          by_key (item_row h q) fk (IsLinked (chain n (item_row h q)))
              (λ e. subst (λ k. IsLinked (chain n k)) (sym e) l.linked)
              (λ off. subst IsLinked (sym (other_item h q off)) (v.linked h q).0),
          subst IsLinked (sym (same_aside h q)) (v.linked h q).1,
        );
      }) fz v

      freed_to : (g : EndGoes) → Frees place (Owner.Tx x) u (item_in (who cs).1 m j) (item_in (who cs).1 n j) → (output_of g ≡ EndOutput.Done → ⊥) → Visited (walk (end_after commit fz g)) n → Frees_to g
      freed_to g left going w = record {
        others = subst (λ y. ChangedAlone y m n) (sym (asked fk (λ r. refl) refl place (Owner.Tx x) (CellOp.Free u) f)) l.others;
        stay = stay;
        grows = l.grows;
        left = left;
        visited = w;
        done = λ h. absurd (going h);
      }

    -- it goes on at this item, or stays ..
    on_item : (a : WriteAt) (l : LoggedTurn as_free (record as_free { at = a }) m n WriteOutput.Going) → Frees_to (EndGoes.On (Free a))
    on_item a l =
        let y = record as_free { at = a } in
        let w = stood_free y WriteOutput.Going l (inl l.logs) in
        let sees = freeing_sees (is_own bare (item_in (who cs).1 n j)) (chain n (item_row (who cs).1 j)) place a l.sees in
        freed_to y WriteOutput.Going l (inl l.logs) (EndGoes.On (Free a)) (inl l.logs) (λ h. cc) (further cs af j u f n w a sees)

    again : (s : WriteOutput) (l : LoggedTurn as_free as_free m n s) → item_in (who cs).1 n j ≡ item_in (who cs).1 m j → (g : EndGoes) → end_after commit fz g ≡ fz → (output_of g ≡ EndOutput.Done → ⊥) → Frees_to g
    again s l same g stays going = freed_to as_free s l (inl same) g (inl same) going (subst (λ z. Visited (walk z) n) (sym stays) (stood_free as_free s l (inl same)))

    -- .. or goes past it, as it is not the transaction's
    onward : (s : WriteOutput) (l : LoggedTurn as_free as_free m n s) → Frees place (Owner.Tx x) u (item_in (who cs).1 m j) (item_in (who cs).1 n j) → is_own bare (item_in (who cs).1 n j) ≡ false → Frees_to (EndGoes.On Next)
    onward s l left not_own = freed_to as_free s l (inr not_own) (EndGoes.On Next) left (λ h. cc) (past_item cs af j u f n (stood_free as_free s l (inr not_own)) not_own)

    free_by : (g : WriteGoes) → LoggedTurn as_free (logged_at as_free g) m n (logged_so g) → Frees_to (freed_goes g)
    free_by (WriteGoes.On a) l = on_item a l
    free_by WriteGoes.Stays l = again WriteOutput.Going l l.logs EndGoes.Stays refl (λ h. cc)
    free_by (WriteGoes.Done nt true) l =
        let did = l.logs.1.1 in
        onward (WriteOutput.Done nt true) l (inr (l.logs.1.0, is_owned (owns (Owner.Tx x) (item_in (who cs).1 m j).owner) None did.0, did.1)) (ap (is_own bare) did.1)
    free_by (WriteGoes.Done nt false) l =
        let same = l.logs.1 in
        onward (WriteOutput.Done nt false) l (inl same) (ap (is_own bare) same ∙ v.marked cs v.member j nt (ap (λ (c : Content). note_at c.notes place) (sym same) ∙ l.logs.0))
    free_by WriteGoes.NotOwner l = onward WriteOutput.NotOwner l (inl l.logs.2) (ap (is_own bare) l.logs.2 ∙ is_owned (owns (Owner.Tx x) (item_in (who cs).1 m j).owner) (Some WriteOutput.NotOwner) l.logs.1)
    free_by (WriteGoes.Held o) l = again (WriteOutput.Held o) l l.logs.2 EndGoes.Stays refl (λ h. cc)
    free_by WriteGoes.Worn l = again WriteOutput.Worn l l.logs.1 EndGoes.Worn refl (λ h. cc)

  -- .. by what it sees: it is the turn of a walk that puts, or passes an item that is not the transaction's
  module _ (cs : List Called) (af : Option ℕ) (j : Item) (u : Option Value) (f : WriteAt) (now : ℕ) (m : Rows) (v : Visited (walk (visit cs af (Some j) u (Free f))) m) where
    abbrev gz : EndState
    gz = visit cs af (Some j) u (Free f)

    abbrev gq : Query
    gq = walk_asks (walk gz)

    abbrev gk : RowKey
    gk = item_row (who cs).1 j

    puts : SeesAt (chain m gk) (free_place x end cs) (at_of f) → Turns gz now m
    puts sees =
        let n = rows_after gq now m in
        let stay = rows_there gq (write_spares gk (free_place x end cs) (Owner.Tx x) (CellOp.Free u) f) now m in
        free_by cs af j u f m n stay v (write_goes Note.Freed f (query_reply gq now m)) (by_op (as_free cs af j u f m n stay v) m n now (v.linked (who cs).1 j).0 sees refl)

    module _ (h : Passes gk (free_place x end cs) (Owner.Tx x) u now m f) where
      goes_past : (g : WriteGoes) → GoesPast (chain m gk) (free_place x end cs) g → Moves gz m (freed_goes g)
      goes_past (WriteGoes.On a) sees = moves gz m (EndGoes.On (Free a)) (inl refl) (λ e. cc) (further cs af j u f m v a (subst (λ b. SeesFreeing b (chain m gk) (free_place x end cs) a) (sym h.not_own) sees))
      goes_past (WriteGoes.Done w false) past = moves gz m (EndGoes.On Next) (inl refl) (λ e. cc) (past_item cs af j u f m v h.not_own)
      goes_past WriteGoes.NotOwner past = moves gz m (EndGoes.On Next) (inl refl) (λ e. cc) (past_item cs af j u f m v h.not_own)
      goes_past g past = absurd past

      passes : Turns gz now m
      passes = let g = write_goes Note.Freed f (query_reply gq now m) in subst (λ n. Leads gz gq m n (freed_goes g)) (sym h.rows) (goes_past g h.goes)

    free_turn : Turns gz now m
    free_turn = elim (puts_or_passes gk (free_place x end cs) (Owner.Tx x) u now m (v.linked (who cs).1 j).0 f v.sees) [
      | inl sees ↦ puts sees
      | inr past ↦ passes past
    ]

  -- ---- a participant gets its finish
  module _ (front : List Called) (c : Called) (af : Option ℕ) (i : Option Item) (u : Option Value) (now : ℕ) (m : Rows) (v : Visited (walk (visit (front ++ c ∷ []) af i u Stamp)) m) where
    abbrev path : List Called
    path = front ++ c ∷ []

    abbrev pz : EndState
    pz = visit path af i u Stamp

    abbrev pk : RowKey
    pk = intent_key (who path).0 (who path).1

    abbrev pn : Rows
    pn = rows_after (walk_asks (walk pz)) now m

    stamped : Stamps (map.get m pk) (map.get pn pk)
    stamped = subst (Stamps (map.get m pk)) (sym (here_set m pk (act StampAct now (map.get m pk)).0)) (stamp_leaves now (map.get m pk))

    off_here : (k : RowKey) → is_eq (key_cmp k pk) ≡ false → map.get pn k ≡ map.get m k
    off_here = others_set m pk (act StampAct now (map.get m pk)).0

    alone : ChangedAlone pk m pn
    alone = alone_by m pn pk refl off_here

    stay : RowsStay m pn
    stay = rows_there (walk_asks (walk pz)) refl now m

    grows : AllGrow m pn
    grows = others_grow m pn pk (of_no_item pk refl) off_here

    same_off : (k : RowKey) → (rank_of k.kind ≡ 0 → ⊥) → map.get pn k ≡ map.get m k
    same_off = other_kind m pn pk alone

    same_item : (h : ℕ) (q : Item) → chain pn (item_row h q) ≡ chain m (item_row h q)
    same_item h q = item_kept m pn pk alone (λ y. cc) h q.0 q.1

    same_shadow : (h : ℕ) (q : Item) → chain pn (aside_row bare h q) ≡ chain m (aside_row bare h q)
    same_shadow h q = aside_kept m pn pk alone (λ y. cc) h x q.0 q.1

    closed_here : row_closed (map.get pn pk) ≡ true
    closed_here = closed_by (map.get m pk) (map.get pn pk) stamped

    -- who is visited has given back all, and so have its callees
    given_back : IsReleased bare m (who path)
    given_back = (λ q r here. v.freed q r here tt, λ d k at. levels_top m owns_all (IsWithin bare) path (IsPassed Stamp af) v.callees d k (at_end (IsWithin bare) path d.step (owner_not front c), tt))

    stood_stamp : Visited (walk pz) pn
    stood_stamp = stands m pn (record {
      stay = stay;
      grows = grows;
      decision = λ is. same_off (decision_row bare) (λ y. cc) ∙ is;
      calls = λ p t. same_off (call_key p.1 p.0 t) (λ y. cc);
      locks = λ p q. same_off (lock_row bare p q) (λ y. cc);
      asides = same_shadow;
      closed = λ p k. by_key (intent_key p.0 p.1) pk (is_closed pn p ≡ true)
          (λ e. ap (λ (y : RowKey). row_closed (map.get pn y)) e ∙ closed_here)
          (λ off. ap row_closed (off_here (intent_key p.0 p.1) off) ∙ k);
      items = λ h q. inl (ap content (same_item h q));
      released = λ d ds w k. let p = who (d ∷ ds) in by_key (intent_key p.0 p.1) pk ((is_closed m p ≡ true) ⊎ IsReleased bare m p)
          (λ e. inr (subst (λ (y : Member). IsReleased bare m y) (sym (same_member (who path) p (not_root m owns_all path v.member.1 (owner_not front c)) (not_root m owns_all (d ∷ ds) w.1 refl) e)) given_back))
          (λ off. inl (sym (ap row_closed (off_here (intent_key p.0 p.1) off)) ∙ k));
      linked = λ h q. (subst IsLinked (sym (same_item h q)) (v.linked h q).0, subst IsLinked (sym (same_shadow h q)) (v.linked h q).1);
    }) pz v

    -- the caller's callees are closed up to this one
    closed_to : let caller = who front in AreClosed pn caller (λ s. AtEnd (IsWithin bare) front s × (s ≤ c.step))
    closed_to d k at = elim (at_most_or c.step d.step) [
      | inl l ↦
          let level : d.step ≡ c.step = omega (arith, l, at.1) in
          let func : d.func ≡ c.func = ap (func_or 0) (sym k.1 ∙ ap (called_at pn (who front)) level ∙ (path_last pn owns_all front c stood_stamp.member.1).1) in
          let same : d ≡ c = λ y. record { step = level y; func = func y } in
          ap (λ e. is_closed pn (callee_of (who front) e)) same ∙ ap (is_closed pn) (sym (member_more owns_all front c)) ∙ closed_here
      | inr l ↦ levels_last pn owns_all (IsWithin bare) front c (IsPassed Stamp af) stood_stamp.callees d k (at.0, l)
    ]

    begins_front : (ds : List Called) → StartsWithin bare (ds ++ c ∷ []) → IsFrom bare ds (Some c.step) × StartsWithin bare ds
    begins_front [] w = (w.0, tt)
    begins_front (d ∷ ds) w = (tt, w)

    stamp_turn : Turns pz now m
    stamp_turn = record {
      others = alone;
      stay = stay;
      grows = grows;
      left = stamped;
      visited = subst (λ (s : Option (List Called × Called)). Visited (walk (back_from pz s)) pn) (sym (split_front front c))
          (to_calls pz front (Some c.step) None pn stood_stamp stood_stamp.decided (begins_front front v.member.0).0 ((begins_front front v.member.0).1, path_front pn owns_all front c stood_stamp.member.1)
          (levels_popped pn owns_all (IsWithin bare) front c (IsPassed Stamp af) (IsPassed Callees (Some c.step)) stood_stamp.callees closed_to));
      done = λ h. cc;
    }

  -- ---- all stages
  module _ (now : ℕ) (m : Rows) where
    -- the decision comes first
    decide_turn : (cs : List Called) (af : Option ℕ) (i : Option Item) (u : Option Value) → Visited (walk (visit cs af i u Decide)) m → Turns (visit cs af i u Decide) now m
    decide_turn [] None None u v = by_told u now m v (map.get m (decision_row bare)) refl
    decide_turn [] None (Some j) u v = absurd (let clash = v.item in cc)
    decide_turn [] (Some s) i u v = absurd (let clash = v.begins.1 in cc)
    decide_turn (c ∷ cs) af i u v = absurd (let clash = v.begins.0 in cc)

    pub turns : (cs : List Called) (af : Option ℕ) (i : Option Item) (u : Option Value) (a : EndAt) → FindsFirstCall (who cs) m → FindsFirstLock x (who cs) m → Visited (walk (visit cs af i u a)) m → Turns (visit cs af i u a) now m
    turns cs af i u Decide calls locks v = decide_turn cs af i u v
    turns cs af None u Callees calls locks v = call_turn cs af u m v now calls
    turns cs af (Some j) u Callees calls locks v = let clash = v.item in cc
    turns cs af i u Next calls locks v = next_turn cs af u m locks i now v
    turns cs af (Some j) u (Shadow r) calls locks v = look_turn cs af j u r now m v
    turns cs af (Some j) u (Free f) calls locks v = free_turn cs af j u f now m v
    turns cs af None u (Shadow r) calls locks v = let clash = v.item in cc
    turns cs af None u (Free f) calls locks v = let clash = v.item in cc
    turns cs af i u Stamp calls locks v =
        let e = ends_in cs v.begins in
        subst (λ (ds : List Called). Visited (walk (visit ds af i u Stamp)) m → Turns (visit ds af i u Stamp) now m) (sym e.parts) (λ w. stamp_turn e.front e.last af i u now m w) v

pub ends_are_visits : EndsAreVisits
ends_are_visits w x now old new s some hops h =
    turned (walk_asks w) now (walk_next w) (walk_output w) (λ m n z. AreFit m → Visited w m → EndTurn w z.0 m n z.1)
    (λ m fit v.
    let p = visited_by w.tx w.visit.path in
    let k = member_fit m (w.tx.intent, w.tx.func) w.visit.path fit some hops v.member.1 in
    let l = turns w.tx w.end w.commit now m w.visit.path w.visit.after w.visit.item w.visit.value w.visit.at
    (λ e next. first_call p.1 p.0 k.0 k.1 m e fit next) (λ e next. first_from p.1 p.0 k.0 k.1 w.tx.begin m e fit next) v in
    record { others = l.others; stay = l.stay; grows = l.grows; left = l.left; same = refl; visited = l.visited; done = l.done }) w x old new s h
