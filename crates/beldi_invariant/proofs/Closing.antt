-- Who took part in a transaction that has ended, and has its finish, has given back all: whatever row changes, unless it is such a finish.
use Rattle.beldi_txn.specs.{Visited.item_in, CallPath.callee_of}
use Rattle.beldi_invariant.proofs.Names.{AllFreed, AreClosed, AreReleased, Bool, ByTx, CalleeMatches, Core, Deployment, EndWalk, Frame, Grown, GrownAt, Grows, Instance, Intent, IntentId, IntentMatches, IsReleased, Histories, Matches, Member, None, Option, Owner, ParticipantsAreReleased, ParticipantsHaveRows, PlainState, Invariant, Row, Rows, WellFormedHistories, Some, TookPart, TxId, ap, arith, decided_over, end_of, ended_by, ended_stays, false, first_end, has_ended, has_finish, inr, is_closed, is_own, is_some, key_in, lock_row, owns, refl, row_closed, same_some, subst, sym, true, tx_end, tx_same, tx_self, txs_after, visited_by, ℕ, ◌∙◌, ◌∷◌, ◌≡◌}
use Rattle.beldi_invariant.proofs.Members.{TakesPart, call_there, callee_is, callee_joins, members_joined, part_below, part_key, reached, took_part}
use Rattle.beldi_invariant.proofs.{Frames.NoFinish, Settling.seated_stays, Settling.settled_rows, Shown.Settled}
use Rattle.beldi_invariant.proofs.Names.map

-- ---- who owns an item
pub owner_is : (t : TxId) (o : Option Owner) → owns (ByTx t) o ≡ true → o ≡ Some (ByTx t)
owner_is t None h = cc
owner_is t (Some (Intent i)) h = cc
owner_is t (Some (ByTx s)) h = ap (λ z. Some (ByTx z)) (tx_same s t h)

pub owns_it : (t : TxId) (o : Option Owner) → o ≡ Some (ByTx t) → owns (ByTx t) o ≡ true
owns_it t o h = ap (owns (ByTx t)) h ∙ tx_self t

-- ---- what has ended stays so
pub end_grows : (d : Deployment) (i j : Instance) (b : ℕ) (z : ℕ × Bool) → Grown i j → end_of d i b ≡ Some z → end_of d j b ≡ Some z
end_grows d i j b z w e = ended_stays d j i.answers w.later b z w.more ((λ k. (txs_after d (record i { func = w.func k; args = w.args k; enclosing = w.enclosing k }) i.answers).ends b) ∙ e)

pub ended_grows : (d : Deployment) (histories next : Histories) (t : TxId) (z : ℕ × Bool) → Grows histories next → tx_end d histories t ≡ Some z → tx_end d next t ≡ Some z
ended_grows d histories next t z grows = at_owner (map.get histories t.intent) (map.get next t.intent) (grows t.intent)
  where
    at_owner : (o u : Option Instance) → GrownAt o u → ended_by d t.begin o ≡ Some z → ended_by d t.begin u ≡ Some z
    at_owner None u w e = cc
    at_owner (Some i) None w e = absurd w
    at_owner (Some i) (Some j) w e = end_grows d i j t.begin z w e

-- ---- the row of who took part
-- it is closed by its finish
finish_of : (ended : TxId → Bool) (home : ℕ) (r : Option Row) (i : Option Instance) → CalleeMatches ended home r i → is_some r ≡ true → row_closed r ≡ true → has_finish r ≡ true
finish_of ended home r i h there closed = grind arith

closed_by : (r : Option Row) → has_finish r ≡ true → row_closed r ≡ true
closed_by r h = grind arith

-- which it has only where its transaction has ended
ended_for : (ended : TxId → Bool) (home : ℕ) (r : Option Row) (q : Instance) (t : TxId) → q.enclosing ≡ Some t → CalleeMatches ended home r (Some q) → has_finish r ≡ true → ended t ≡ true
ended_for ended home None q t inner h finish = cc
ended_for ended home (Some (Row.Intent r)) q t inner h finish = grind (arith, h.body, h.finishes)
ended_for ended home (Some r) q t inner h finish = absurd h

module _ (d : Deployment) (m : Rows) (histories : Histories) (lock_ahead : IntentId → Bool) (matches : Matches d m histories lock_ahead) (well_formed : WellFormedHistories d histories) (t : TxId) (p : Member) (part : TakesPart histories t p) where
  pub at_key : CalleeMatches (has_ended d histories) p.1 (map.get m (key_in p.1 p.0)) (map.get histories p.0)
  at_key = subst (λ b. IntentMatches (has_ended d histories) b p.1 (map.get m (key_in p.1 p.0)) (map.get histories p.0)) (part_below d histories well_formed t p.0 (took_part part)) (matches.keys (key_in p.1 p.0))

  pub finish_there : ParticipantsHaveRows m histories → is_some part.instance.outcome ≡ true → is_closed m p ≡ true → has_finish (map.get m (key_in p.1 p.0)) ≡ true
  finish_there seated over closed = finish_of (has_ended d histories) p.1 (map.get m (key_in p.1 p.0)) (map.get histories p.0) at_key
      (subst (λ f. is_some (map.get m (key_in f p.0)) ≡ true) part.func (seated p.0 part.instance t part.made part.enclosing over))
      (ap (λ k. row_closed (map.get m k)) (sym (part_key d histories well_formed t p.0 p.1 (took_part part))) ∙ closed)

  pub closed_there : has_finish (map.get m (key_in p.1 p.0)) ≡ true → is_closed m p ≡ true
  closed_there finish = ap (λ k. row_closed (map.get m k)) (part_key d histories well_formed t p.0 p.1 (took_part part)) ∙ closed_by (map.get m (key_in p.1 p.0)) finish

  pub ended_there : has_finish (map.get m (key_in p.1 p.0)) ≡ true → has_ended d histories t ≡ true
  ended_there finish = ended_for (has_ended d histories) p.1 (map.get m (key_in p.1 p.0)) part.instance t part.enclosing (subst (CalleeMatches (has_ended d histories) p.1 (map.get m (key_in p.1 p.0))) part.made at_key) finish

-- ---- rows move
module _ (d : Deployment) (c : Core) (m : Rows) (h : Invariant d c m) (n : Rows) (q : PlainState) (next : Histories) (after : IntentId → Bool) (now : Matches d n next after) (well_formed : WellFormedHistories d next) (grows : Grows h.histories next) (frame : Frame d m n h.plain q h.histories next)
    (t : TxId) (z : ℕ × Bool) (ended : tx_end d next t ≡ Some z) where
  abbrev walk : EndWalk
  walk = first_end t z.0 z.1

  -- ---- who takes part did so before
  pub before_part : (p : Member) → TakesPart next t p → TakesPart h.histories t p
  before_part p part = grind arith

  over_now : (p : Member) (part : TakesPart next t p) → is_some part.instance.outcome ≡ true
  over_now p part = decided_over d next well_formed p.0 part.instance t z part.made part.enclosing ended

  module _ (known_end : tx_end d h.histories t ≡ Some z) (p : Member) (part : TakesPart next t p) where
    over_before : (p : Member) (k : TakesPart h.histories t p) → is_some k.instance.outcome ≡ true
    over_before p k = decided_over d h.histories h.well_formed p.0 k.instance t z k.made k.enclosing known_end

    -- it had given back all
    released_before : has_finish (map.get m (key_in p.1 p.0)) ≡ true → IsReleased walk m p
    released_before finish =
        let k = before_part p part in
        let r = reached d m h.histories h.lock_ahead h.rows h.well_formed t z known_end h.short p.0 k.instance k.made k.enclosing in
        let leads : visited_by t (r.first ∷ r.rest) ≡ p = r.leads ∙ ap (λ f. (p.0, f)) k.func in
        subst (IsReleased walk m) leads (h.released t z known_end r.first r.rest r.member (subst (λ y. is_closed m y ≡ true) (sym leads) (closed_there d m h.histories h.lock_ahead h.rows h.well_formed t p k finish)))

    -- .. and has no item that it had not
    freed_still : AllFreed walk m p → AllFreed walk n p
    freed_still freed i r there = by_row (map.get m (lock_row walk p i)) refl (frame.locksets t z p.0 (record { func = p.1; table = i.0; key = i.1 }) ended (inr (took_part part)) (ap is_some there))
      where
        by_own : (b : Bool) → is_own walk (item_in p.1 n i) ≡ b → is_own walk (item_in p.1 m i) ≡ false → b ≡ false
        by_own false e free = refl
        by_own true e free =
            let o = frame.owners t z (record { func = p.1; table = i.0; key = i.1 }) ended (owner_is t (item_in p.1 n i).owner e) in
            let clash = sym (owns_it t (item_in p.1 m i).owner o.owner) ∙ free in cc

        by_row : (o : Option Row) → map.get m (lock_row walk p i) ≡ o → is_some o ≡ true → is_own walk (item_in p.1 n i) ≡ false
        by_row None is g = cc
        by_row (Some w) is g = by_own (is_own walk (item_in p.1 n i)) refl (freed i w is)

    -- .. and its callees have their finish still
    closed_still : AreClosed m p (λ s. Unit {0}) → AreClosed n p (λ s. Unit {0})
    closed_still closed e call any =
        let k = before_part p part in
        let callee = callee_joins d n next after now well_formed t p e part call in
        let c = before_part (callee_of p e) callee in
        let to = callee_is p e call.0 in
        let there = call_there d m h.histories h.lock_ahead h.rows p e (record { caller = k.instance; made = k.made; func = k.func; callee = c.instance; there = ap (λ (y : Member). map.get h.histories y.0) (sym to) ∙ c.made; its = c.func }) in
        let finish = finish_there d m h.histories h.lock_ahead h.rows h.well_formed t (callee_of p e) c h.seated (over_before (callee_of p e) c) (closed e (call.0, there) any) in
        closed_there d n next after now well_formed t (callee_of p e) callee (frame.finishes (callee_of p e).1 (callee_of p e).0 finish)

  -- ---- so it is of one transaction, where no finish of who took part is new
  pub closed_rows_of : ParticipantsHaveRows n next → ((i : IntentId) (home : ℕ) → TookPart next t i → has_finish (map.get n (key_in home i)) ≡ true → has_finish (map.get m (key_in home i)) ≡ true) → AreReleased (first_end t z.0 z.1) n
  closed_rows_of seated none e es member closed =
      let part = members_joined d n next after now well_formed t z ended e es member in
      let p = visited_by t (e ∷ es) in
      let finish = none p.0 p.1 (took_part part) (finish_there d n next after now well_formed t p part seated (over_now p part) closed) in
      by_end p part finish (tx_end d h.histories t) refl (ended_there d m h.histories h.lock_ahead h.rows h.well_formed t p (before_part p part) finish)
    where
      by_end : (p : Member) (part : TakesPart next t p) → has_finish (map.get m (key_in p.1 p.0)) ≡ true → (o : Option (ℕ × Bool)) → tx_end d h.histories t ≡ o → is_some o ≡ true → IsReleased walk n p
      by_end p part finish None is there = cc
      by_end p part finish (Some y) is there =
          let same : y ≡ z = same_some (sym (ended_grows d h.histories next t y grows is) ∙ ended) in
          let known_end = is ∙ ap Some same in
          let r = released_before known_end p part finish in
          (freed_still known_end p part r.0, closed_still known_end p part r.1)

-- .. and so of all
pub closed_rows : (d : Deployment) (c : Core) (m : Rows) (h : Invariant d c m) (n : Rows) (q : PlainState) (next : Histories) (after : IntentId → Bool) → Matches d n next after → WellFormedHistories d next → Grows h.histories next → Frame d m n h.plain q h.histories next → ParticipantsHaveRows n next → NoFinish d m n next → ParticipantsAreReleased d n next
closed_rows d c m h n q next after now well_formed grows frame seated none t z ended = closed_rows_of d c m h n q next after now well_formed grows frame t z ended seated (λ i home. none t z i home ended)

-- what the rows keep, after rows that give no participant a finish
pub settled_after : (d : Deployment) (c : Core) (m : Rows) (h : Invariant d c m) (n : Rows) (q : PlainState) (next : Histories) (after : IntentId → Bool) → Matches d n next after → WellFormedHistories d next → Grows h.histories next → Frame d m n h.plain q h.histories next → NoFinish d m n next → Settled d m q next → Settled d n q next
settled_after d c m h n q next after now well_formed grows frame none s =
    settled_rows d m n h.plain q h.histories next frame (closed_rows d c m h n q next after now well_formed grows frame (seated_stays d m n h.plain q h.histories next frame s.seated) none) s
