-- What is so of the visits of an end: it is so once the decision is there, and stays through what others do.
use Rattle.beldi_txn.specs.{Tx.op_of, Visited.Leaves, Visited.item_in, CallPath.callee_of}
use Rattle.beldi_invariant.proofs.Names.{AreLinked, AreMarked, AreReleased, AtEnd, Bool, ByTx, Called, Core, Deployment, Effect, EndWalk, Frame, Grows, Instance, IntentId, IsCall, IsDecided, IsFreePlace, IsMember, IsOf, IsCallPath, IsWithin, IsWriting, Item, Histories, List, Matches, Member, None, Option, Outcome, OwnedAreUnmarked, Owner, ParticipantsAreReleased, PlainState, Invariant, Row, Rows, WellFormedHistories, Some, TookPart, TxId, Visited, [], ahead_by, ap, arith, at_calls, at_step, commit_in, content_of, decided_over, effect_after, effect_of, eqb-true, false, first_end, free_place, if◌then◌else◌, inl, inr, is_closed, is_decided, is_mark, is_own, is_some, last_step, length, lock_row, none_by, note_at, note_by, note_or, now_open, expected_note, owner_of, owns, refl, shadow_value, slice_get, slice_get_within, sym, tail, take, true, tx_after, tx_end, tx_now, visited_by, visits_stand, ℕ, ◌&&◌, ◌==◌, ◌||◌, ◌∙◌, ◌∷◌, ◌≡◌}
use Rattle.beldi_invariant.proofs.Members.{IsRecordedCall, TakesPart, call_recorded, call_there, callee_is, calls_joined, members_joined, took_part}
use Rattle.beldi_invariant.proofs.{Closing.before_part, Closing.closed_there, Closing.finish_there, Closing.owner_is, Closing.owns_it, Shown.Shows, Widths.answered_small, Cases.false_by}
use Rattle.beldi_invariant.proofs.Names.map

-- ---- small facts
-- none that it owns
not_owned : (t : TxId) (o : Option Owner) → (o ≡ Some (ByTx t) → ⊥) → owns (ByTx t) o ≡ false
not_owned t o none = false_by (owns (ByTx t) o) (λ e. none (owner_is t o e))

-- an effect that gives back the outcome is a return
no_outcome : (d : Deployment) (q : Instance) → ((o : Outcome) → effect_of d q ≡ Effect.Return o → ⊥) → ((o : Outcome) → q.outcome ≡ Some o → effect_of d q ≡ Effect.Return o) → q.outcome ≡ None
no_outcome d q none over = none_by q.outcome (λ o e. none o (over o e))

module _ (d : Deployment) (m : Rows) (histories : Histories) (lock_ahead : IntentId → Bool) (h : Matches d m histories lock_ahead) (well_formed : WellFormedHistories d histories) where
  pub linked_rows : (w : EndWalk) → AreLinked w m
  linked_rows w f i = let x : Item = record { func = f; table = i.0; key = i.1 } in (h.chains x, (h.asides w.tx x).linked)

  module _ (t : TxId) (z : ℕ × Bool) (ended : tx_end d histories t ≡ Some z) (marks : OwnedAreUnmarked d m histories) where
    -- an item with a note at a place where it is given back is not the transaction's
    pub marked_rows : AreMarked (first_end t z.0 z.1) m
    marked_rows cs member i nt noted = not_owned t (item_in (visited_by t cs).1 m i).owner (λ own. marks t z (record { func = (visited_by t cs).1; table = i.0; key = i.1 }) (free_place t z.0 cs) nt ended own (free cs member) noted)
      where
        free : (cs : List Called) → IsMember (first_end t z.0 z.1) m cs → IsFreePlace histories t z.0 (free_place t z.0 cs)
        free [] member = inl refl
        free (e ∷ es) member = inr (refl, took_part (members_joined d m histories lock_ahead h well_formed t z ended e es member))

    -- the decision is there, and nobody was visited yet
    pub visits_found : ParticipantsAreReleased d m histories → let w : EndWalk = record { tx = t; end = z.0; commit = z.1; visit = at_calls [] None } in IsDecided w m → Visited w m
    visits_found released there = record {
      decided = there;
      item = refl;
      begins = tt;
      from = tt;
      member = (tt, tt);
      gives = tt;
      sees = tt;
      asked = tt;
      callees = λ c call at. absurd at.1;
      freed = λ q r here past. absurd past;
      released = released t z ended;
      marked = marked_rows;
      linked = linked_rows (first_end t z.0 z.1);
    }

  -- ---- who took part comes to no step as late as that at which its items are given back
  module _ (t : TxId) (open_still : tx_end d histories t ≡ None) (i : IntentId) (part : TookPart histories t i) where
    abbrev y : Instance
    y = part.instance

    never : slice_get y.answers last_step ≡ None
    never = none_by (slice_get y.answers last_step) (λ a e. let small = answered_small d i y last_step (well_formed.each i y part.made) (slice_get_within y.answers last_step a e) in absurd (omega (arith, small)))

    not_next : (last_step == length y.answers) ≡ false
    not_next = false_by (last_step == length y.answers) (λ e.
        let same = eqb-true last_step (length y.answers) e in
        let small = answered_small d i y 30000 (well_formed.each i y part.made) (omega (arith, same)) in
        absurd (omega (arith, small)))

    -- so before the decision no item has a note there
    pub at_part : (x : Item) → note_at (content_of m x).notes (record { intent = i; step = last_step }) ≡ None
    at_part x =
        (h.items x).notes (record { intent = i; step = last_step })
        (ap (is_mark d histories last_step) part.made ∙ (λ j. is_some (at_step (λ given a. commit_in (effect_after d y given)) (take last_step y.answers) (never j)) || (is_decided d histories (part.enclosing j) && (last_step == last_step))) ∙ ap (λ e. is_some e && (last_step == last_step)) open_still)
        ∙ ap (expected_note d x i (lock_ahead i) last_step) part.made
        ∙ (λ j. note_or (at_step (λ ts a. note_by x y.func (tx_after d i y ts) (effect_after d y ts) a) (take last_step y.answers) (never j)) (if not_next j then ahead_by x y.func (tx_now d i y) (effect_of d y) (lock_ahead i) else None))

-- ---- what others leave
module _ (d : Deployment) (c : Core) (m n : Rows) (h : Invariant d c m) (q : PlainState) (next : Histories) (after : IntentId → Bool) (then_rows : Matches d n next after) (then_sane : WellFormedHistories d next) (grows : Grows h.histories next) (frame : Frame d m n h.plain q h.histories next)
    (w : EndWalk) (ended : tx_end d h.histories w.tx ≡ Some (w.end, w.commit)) (then_ended : tx_end d next w.tx ≡ Some (w.end, w.commit)) where
  abbrev s : TxId
  s = w.tx

  abbrev z : ℕ × Bool
  z = (w.end, w.commit)

  abbrev item : ℕ → ℕ × List ℕ → Item
  item f i = record { func = f; table = i.0; key = i.1 }

  -- ---- the calls
  call_on : (p : Member) (e : Called) → IsCall m p e → IsCall n p e
  call_on p e call = (call.0, frame.calls p.1 (record { intent = p.0; step = e.step }) e.func call.1)

  way_on : (p : Member) (cs : List Called) → IsCallPath m p cs → IsCallPath n p cs
  way_on p [] path = tt
  way_on p (e ∷ es) path = (call_on p e path.0, way_on (callee_of p e) es path.1)

  member_on : (cs : List Called) → IsMember w m cs → IsMember w n cs
  member_on cs member = (member.0, way_on (owner_of w) cs member.1)

  -- who calls was known, and nobody is called any more
  call_back : (cs : List Called) → IsMember w m cs → (e : Called) → AtEnd (IsWithin w) cs e.step → IsCall n (visited_by s cs) e → IsCall m (visited_by s cs) e
  call_back cs member e at call = (call.0, call_there d m h.histories h.lock_ahead h.rows p e (record { caller = caller.0; made = caller.1; func = caller.2; callee = callee.instance; there = ap (λ (b : Member). map.get h.histories b.0) (sym (callee_is p e call.0)) ∙ callee.made; its = callee.func }))
    where
      p : Member
      p = visited_by s cs

      caller_of : (cs : List Called) → IsMember w m cs → IsRecordedCall next (visited_by s cs) e → (y : Instance) × (map.get h.histories (visited_by s cs).0 ≡ Some y) × (y.func ≡ (visited_by s cs).1)
      caller_of (b ∷ bs) member then_call = let k = members_joined d m h.histories h.lock_ahead h.rows h.well_formed s z ended b bs member in (k.instance, k.made, k.func)
      caller_of [] member then_call = grind (arith, ended)

      caller : (y : Instance) × (map.get h.histories p.0 ≡ Some y) × (y.func ≡ p.1)
      caller = caller_of cs member (call_recorded d n next after then_rows p e call.1)

      callee : TakesPart h.histories s (callee_of p e)
      callee = before_part d c m h n q next after then_rows then_sane grows frame s z then_ended (callee_of p e) (calls_joined d n next after then_rows then_sane s z then_ended cs (member_on cs member) e at call)

  -- ---- locks, items and finishes
  lock_back : (cs : List Called) → IsMember w m cs → (i : ℕ × List ℕ) (r : Row) → map.get n (lock_row w (visited_by s cs) i) ≡ Some r → is_some (map.get m (lock_row w (visited_by s cs) i)) ≡ true
  lock_back cs member i r there = let p = visited_by s cs in frame.locksets s z p.0 (item p.1 i) then_ended (of_it cs member) (ap is_some there)
    where
      of_it : (cs : List Called) → IsMember w m cs → IsOf next s (visited_by s cs).0
      of_it [] member = inl refl
      of_it (e ∷ es) member = inr (took_part (members_joined d n next after then_rows then_sane s z then_ended e es (member_on (e ∷ es) member)))

  item_on : (f : ℕ) (i : ℕ × List ℕ) → is_own w (item_in f m i) ≡ false → is_own w (item_in f n i) ≡ false
  item_on f i free = not_owned s (item_in f n i).owner (λ own. let clash = sym (owns_it s (item_in f m i).owner (frame.owners s z (item f i) then_ended own).owner) ∙ free in cc)

  closed_on : (e : Called) (es : List Called) → IsMember w m (e ∷ es) → is_closed m (visited_by s (e ∷ es)) ≡ true → is_closed n (visited_by s (e ∷ es)) ≡ true
  closed_on e es member closed =
      let p = visited_by s (e ∷ es) in
      let k = members_joined d m h.histories h.lock_ahead h.rows h.well_formed s z ended e es member in
      let finish = finish_there d m h.histories h.lock_ahead h.rows h.well_formed s p k h.seated (decided_over d h.histories h.well_formed p.0 k.instance s z k.made k.enclosing ended) closed in
      closed_there d n next after then_rows then_sane s p (members_joined d n next after then_rows then_sane s z then_ended e es (member_on (e ∷ es) member)) (frame.finishes p.1 p.0 finish)

  -- the decision is known
  decided_then : (owner : Instance) → map.get next s.intent ≡ Some owner → owner.func ≡ s.func → IsDecided w n
  decided_then owner made func = grind arith

  -- nobody writes in it any more
  not_writing : IsWriting d h.histories s → ⊥
  not_writing wr = let clash = sym ended ∙ now_open d h.histories h.well_formed wr.writer wr.instance s wr.made
      (no_outcome d wr.instance (λ o returns. let clash = sym wr.writes ∙ ap (λ e. is_some (op_of e)) returns in cc) (h.well_formed.each wr.writer wr.instance wr.made).over) wr.now in cc

  leaves : (owner : Instance) → map.get next s.intent ≡ Some owner → owner.func ≡ s.func → OwnedAreUnmarked d n next → AreReleased w n → Leaves w m n
  leaves owner made func marks released = record {
    stay = frame.rows;
    grows = frame.grows;
    decision = λ before. decided_then owner made func;
    asides = λ f i. ap (λ z. shadow_value (tail z)) (frame.shadows s (item f i) not_writing);
    path = member_on w.visit.path;
    calls = call_back;
    locks = lock_back;
    closed = closed_on;
    items = item_on;
    released = released;
    marks = marked_rows d n next after then_rows then_sane s z then_ended marks;
    linked = linked_rows d n next after then_rows then_sane w;
  }

-- ---- what a run at its end has found stays
pub visit_stays : (d : Deployment) (c : Core) (m n : Rows) (h : Invariant d c m) (q : PlainState) (next : Histories) (after : IntentId → Bool) → Shows d n q next after → Grows h.histories next → Frame d m n h.plain q h.histories next
    → (w : EndWalk) → tx_end d h.histories w.tx ≡ Some (w.end, w.commit) → tx_end d next w.tx ≡ Some (w.end, w.commit) → (owner : Instance) → map.get next w.tx.intent ≡ Some owner → owner.func ≡ w.tx.func → Visited w m → Visited w n
visit_stays d c m n h q next after shows grows frame w ended then_ended owner made func was =
    visits_stand w m n was (leaves d c m n h q next after shows.rows shows.well_formed grows frame w ended then_ended owner made func shows.settled.marks (shows.settled.released w.tx (w.end, w.commit) then_ended))
