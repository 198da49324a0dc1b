-- Another walk of the same end.
use Rattle.std.specs.Prelude.{is_some}
use Rattle.beldi_value.specs.declared.place.Place.{Place}
use Rattle.beldi_txn.specs.Visited.{Decides, OtherWalksLeave}
use Rattle.beldi_txn.specs.declared.end.EndAt.TheVariants.{Shadow}
use Rattle.beldi_txn.proofs.Names.{AllGrow, Callees, ChangedAlone, Decide, EndAt, EndOutput, EndWalk, Free, Frees, IsDecided, Leaves, LeftAt, List, Member, Next, None, Option, Row, RowKey, Rows, RowsStay, Some, Stamp, Value, EndState, Visited, ap, aside_row, call_key, chain, chain_other, content, decision_row, false, free_place, head_asked, inl, inr, intent_key, is_closed, is_own, item_in, item_row, lock_row, rank_of, refl, row_closed, shadow_value, subst, sym, tail, true, visited_by, walk_asks, ℕ, ◌∙◌, ◌≡◌, ◌∷◌, Called, CellOp, Owner, Stamps, owner_of, item_head}
use Rattle.beldi_txn.proofs.{TxTurn.asked, TxTurn.aside_kept, TxTurn.item_kept, TxTurn.other_kind, Visited.by_key, Visited.call_kept, Visited.closed_by, Visited.path_kept, LocksetRows.Item}
use Rattle.beldi_txn.proofs.Names.map

-- what is as before after a turn of the walk w: no row of calls and locks and no copy changes, no finish and no decision goes, and no item
-- becomes the transaction's
record Keeps (w : EndWalk) (m n : Rows) : Type 0 where
  decision : IsDecided w m → IsDecided w n
  calls : (p : Member) (s : ℕ) → map.get n (call_key p.1 p.0 s) ≡ map.get m (call_key p.1 p.0 s)
  locks : (p : Member) (q : Item) → map.get n (lock_row w p q) ≡ map.get m (lock_row w p q)
  asides : (f : ℕ) (q : Item) → chain n (aside_row w f q) ≡ chain m (aside_row w f q)
  closed : (p : Member) → is_closed m p ≡ true → is_closed n p ≡ true
  items : (f : ℕ) (q : Item) → is_own w (item_in f m q) ≡ false → is_own w (item_in f n q) ≡ false

decided_still : (s : EndOutput) (v : Value) (r t : Option Row) → Decides s v r t → r ≡ Some (Row.ReadLog v) → t ≡ Some (Row.ReadLog v)
decided_still (EndOutput.Decided true) v r t h e = let clash = sym h.0 ∙ e in cc
decided_still (EndOutput.Decided false) v r t h e = h.1 ∙ e
decided_still EndOutput.Going v r t h e = h.1 ∙ e
decided_still EndOutput.Worn v r t h e = absurd h
decided_still EndOutput.Done v r t h e = absurd h

-- no row changed
module _ (w : EndWalk) (m n : Rows) where
  still : n ≡ m → Keeps w m n
  still e = record {
    decision = subst (IsDecided w) (sym e);
    calls = λ p s. ap (λ l. map.get l (call_key p.1 p.0 s)) e;
    locks = λ p q. ap (λ l. map.get l (lock_row w p q)) e;
    asides = λ f q. ap (λ l. chain l (aside_row w f q)) e;
    closed = λ p c. ap (λ l. is_closed l p) e ∙ c;
    items = λ f q c. ap (λ l. is_own w (item_in f l q)) e ∙ c;
  }

-- the rows of one item changed, or one row of another kind
module _ (w : EndWalk) (m n : Rows) where
  -- the decision
  decided : (s : EndOutput) → ChangedAlone (decision_row w) m n → Decides s (Value.Bool w.commit) (map.get m (decision_row w)) (map.get n (decision_row w)) → Keeps w m n
  decided s others h = record {
    decision = decided_still s (Value.Bool w.commit) (map.get m (decision_row w)) (map.get n (decision_row w)) h;
    calls = λ p s. same (call_key p.1 p.0 s) (λ y. cc);
    locks = λ p q. same (lock_row w p q) (λ y. cc);
    asides = λ f q. aside_kept m n (decision_row w) others (λ y. cc) f w.tx q.0 q.1;
    closed = λ p c. ap row_closed (same (intent_key p.0 p.1) (λ y. cc)) ∙ c;
    items = λ f q c. ap (λ r. is_own w (content r)) (item_kept m n (decision_row w) others (λ y. cc) f q.0 q.1) ∙ c;
  }
    where
      same : (q : RowKey) → (rank_of q.kind ≡ 1 → ⊥) → map.get n q ≡ map.get m q
      same = other_kind m n (decision_row w) others

  -- an item, which was given back or stands
  freed : (f : ℕ) (i : Item) (p : Place) (u : Option Value) → ChangedAlone (item_row f i) m n → Frees p (Owner.Tx w.tx) u (item_in f m i) (item_in f n i) → Keeps w m n
  freed f i p u others h = record {
    decision = λ c. same (decision_row w) (λ y. cc) ∙ c;
    calls = λ p s. same (call_key p.1 p.0 s) (λ y. cc);
    locks = λ p q. same (lock_row w p q) (λ y. cc);
    asides = λ g q. aside_kept m n (item_row f i) others (λ y. cc) g w.tx q.0 q.1;
    closed = λ p c. ap row_closed (same (intent_key p.0 p.1) (λ y. cc)) ∙ c;
    items = λ g q c. by_key (item_row g q) (item_row f i) (is_own w (item_in g n q) ≡ false)
        (λ e. ap (λ z. is_own w (content (chain n z))) e ∙ given h (sym (ap (λ z. is_own w (content (chain m z))) e) ∙ c))
        (λ off. ap (λ r. is_own w (content r)) (chain_other m n (item_row f i) (item_row g q) others (item_head g q.0 q.1) off) ∙ c);
  }
    where
      same : (q : RowKey) → (rank_of q.kind ≡ rank_of (item_row f i).kind → ⊥) → map.get n q ≡ map.get m q
      same = other_kind m n (item_row f i) others

      given : Frees p (Owner.Tx w.tx) u (item_in f m i) (item_in f n i) → is_own w (item_in f m i) ≡ false → is_own w (item_in f n i) ≡ false
      given (inl stood) c = ap (is_own w) stood ∙ c
      given (inr done) c = ap (is_own w) done.2

  -- a participant, which got its finish or stands
  stamped : (p : Member) → ChangedAlone (intent_key p.0 p.1) m n → Stamps (map.get m (intent_key p.0 p.1)) (map.get n (intent_key p.0 p.1)) → Keeps w m n
  stamped p others h = record {
    decision = λ c. same (decision_row w) (λ y. cc) ∙ c;
    calls = λ p s. same (call_key p.1 p.0 s) (λ y. cc);
    locks = λ p q. same (lock_row w p q) (λ y. cc);
    asides = λ g q. aside_kept m n (intent_key p.0 p.1) others (λ y. cc) g w.tx q.0 q.1;
    closed = λ o c. by_key (intent_key o.0 o.1) (intent_key p.0 p.1) (is_closed n o ≡ true)
        (λ e. ap (λ z. row_closed (map.get n z)) e ∙ closed_by (map.get m (intent_key p.0 p.1)) (map.get n (intent_key p.0 p.1)) h)
        (λ off. ap row_closed (others (intent_key o.0 o.1) off) ∙ c);
    items = λ f q c. ap (λ r. is_own w (content r)) (item_kept m n (intent_key p.0 p.1) others (λ y. cc) f q.0 q.1) ∙ c;
  }
    where
      same : (q : RowKey) → (rank_of q.kind ≡ rank_of (intent_key p.0 p.1).kind → ⊥) → map.get n q ≡ map.get m q
      same = other_kind m n (intent_key p.0 p.1) others

-- by where the other walk stands
module _ (w : EndWalk) (cs : List Called) (af : Option ℕ) (u : Option Value) (m n : Rows) (s : EndOutput) where
  abbrev at : EndAt → Option Item → EndWalk
  at a i = record w { visit = record { path = cs; after = af; item = i; value = u; at = a } }

  left : (a : EndAt) (i : Option Item) → ChangedAlone (head_asked (walk_asks (at a i))) m n → LeftAt a (at a i) i s m n → Keeps w m n
  left Decide i others h = decided w m n s others h
  left Callees i others h = still w m n h
  left Next i others h = still w m n h
  left (Shadow r) i others h = still w m n h
  left (Free f) None others h = still w m n h
  left (Free f) (Some i) others h = freed w m n (visited_by w.tx cs).1 i (free_place w.tx w.end cs) u (subst (λ k. ChangedAlone k m n) (asked (item_row (visited_by w.tx cs).1 i) (λ r. refl) refl (free_place w.tx w.end cs) (Owner.Tx w.tx) (CellOp.Free u) f) others) h
  left Stamp i others h = stamped w m n (visited_by w.tx cs) others h

-- what a turn keeps, and what is so after it, is all that an end bears
borne : (w : EndWalk) (v : EndState) (m n : Rows) → RowsStay m n → AllGrow m n → Keeps w m n → Visited (record w { visit = v }) n → Leaves w m n
borne w v m n stay grows k after = record {
  stay = stay;
  grows = grows;
  decision = k.decision;
  asides = λ f q. ap (λ c. shadow_value (tail c)) (k.asides f q);
  path = λ h. (h.0, path_kept m n k.calls (owner_of w) w.visit.path h.1);
  calls = λ cs h c at. call_kept n m (λ p s. sym (k.calls p s)) (visited_by w.tx cs) c;
  locks = λ cs h q r there. ap is_some (sym (k.locks (visited_by w.tx cs) q) ∙ there);
  closed = λ c cs h. k.closed (visited_by w.tx (c ∷ cs));
  items = k.items;
  released = after.released;
  marks = after.marked;
  linked = after.linked;
}

pub other_walks_leave : OtherWalksLeave
other_walks_leave w x v m n s h = borne w x.visit m n h.stay h.grows (left w v.path v.after v.value m n s v.at v.item h.others h.left) (subst (λ y. Visited y n) h.same h.visited)
