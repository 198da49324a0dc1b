-- What a transaction that has ended owns, one that took part asked the lock of. So where all who took part have given back all, it owns
-- nothing.
use Rattle.beldi_invariant.proofs.Names.{AllFreed, AllReleased, AllShort, Answer, Bool, Deployment, Instance, IntentId, Item, Histories, List, LocksAreAheadAtEnds, IsAheadIf, LocksetMatches, Matches, Member, None, Option, Row, Rows, WellFormedHistories, Some, Tx, TxId, [], and_parts, ap, arith, asked_own, begins_at, content_of, effect_after, effect_of, eq-eqb, false, first_end, gathered, got_before, got_by, inl, inr, is_aborted, is_item, is_its, is_on, is_tx, item_same, length, lockset_ahead, lockset_key, lockset_there, not, now_open, or_own, expected_lockset, owns, refl, subst, sym, touched, true, tx_after, tx_by, tx_end, tx_now, tx_self, txs_after, visited_by, ℕ, ◌&&◌, ◌++◌, ◌||◌, ◌∙◌, ◌∷◌, ◌≡◌, ◌⊎◌, Kind}
use Rattle.beldi_invariant.proofs.Members.{TakesPart, reached}
use Rattle.beldi_invariant.proofs.Names.map

of_function : (x : Item) (func : ℕ) (o : Option (ℕ × List ℕ)) → is_item x func o ≡ true → x.func ≡ func
of_function x func None h = cc
of_function x func (Some k) h = ap (λ (y : Item). y.func) (sym (item_same (record { func = func; table = k.0; key = k.1 }) x h))

row_expected : (r : Option Row) (ahead : Bool) → LocksetMatches r true ahead → r ≡ Some Row.Lockset
row_expected r ahead h = grind arith

-- a member's function has the item, and the row is there
pub record HasAsked (m : Rows) (histories : Histories) (t : TxId) (x : Item) : Type 0 where
  pub member : Member
  pub role : (◌≡◌ {A = Member} member (t.intent, t.func)) ⊎ TakesPart histories t member
  pub func : x.func ≡ member.1
  pub row : map.get m (lockset_key member.0 t.begin x) ≡ Some Row.Lockset

module _ (d : Deployment) (m : Rows) (histories : Histories) (lock_ahead : IntentId → Bool) (h : Matches d m histories lock_ahead) (well_formed : WellFormedHistories d histories) (ends : LocksAreAheadAtEnds d histories lock_ahead) (t : TxId) (e : ℕ × Bool) (ended : tx_end d histories t ≡ Some e) (x : Item) where
  module _ (j : IntentId) (q : Instance) (is : map.get histories j ≡ Some q) where
    abbrev On : List Answer → Type 0
    On ts = is_on t x q.func (tx_after d j q ts) (effect_after d q ts) ≡ true

    tx_there : (ts : List Answer) → On ts → tx_after d j q ts ≡ Some t
    tx_there ts on = is_its t (tx_after d j q ts) (and_parts (is_tx t (tx_after d j q ts)) (is_item x q.func (touched (effect_after d q ts))) on).0

    -- it is its owner, or was called in it
    role_there : (ts : List Answer) → On ts → (◌≡◌ {A = Member} (j, q.func) (t.intent, t.func)) ⊎ TakesPart histories t (j, q.func)
    role_there ts on = by_within q.enclosing refl
      where
        by_within : (o : Option TxId) → q.enclosing ≡ o → (◌≡◌ {A = Member} (j, q.func) (t.intent, t.func)) ⊎ TakesPart histories t (j, q.func)
        by_within None out = let own = asked_own d t x j q out ts on in inl (λ i. (sym own.intent i, sym own.func_is i))
        by_within (Some s) in_it = inr (record {
          instance = q;
          made = is;
          enclosing = in_it ∙ sym (ap (λ o. or_own o (tx_by j q.func (length ts) (effect_after d q ts) (txs_after d q ts).begun)) in_it) ∙ tx_there ts on;
          func = refl;
        })

    -- an operation of it that was answered
    by_answer : (ts later : List Answer) (a : Answer) → ts ++ a ∷ later ≡ q.answers → On ts → HasAsked m histories t x
    by_answer ts later a parts here =
        let touches = (and_parts (is_tx t (tx_after d j q ts)) (is_item x q.func (touched (effect_after d q ts))) here).1 in
        let asks : (begins_at t.begin (tx_after d j q ts) && is_item x q.func (touched (effect_after d q ts))) ≡ true =
        ap (λ z. begins_at t.begin z && is_item x q.func (touched (effect_after d q ts))) (tx_there ts here) ∙ ap (λ b. b && is_item x q.func (touched (effect_after d q ts))) (eq-eqb t.begin t.begin refl) ∙ touches in
        let expected : expected_lockset d t.begin x j (map.get histories j) ≡ true = ap (expected_lockset d t.begin x j) is ∙ lockset_there d j q ts a later parts t.begin x asks in
        let key = lockset_key j t.begin x in
        record {
          member = (j, q.func);
          role = role_there ts here;
          func = of_function x q.func (touched (effect_after d q ts)) touches;
          row = row_expected (map.get m key) (lockset_ahead d histories t.begin x j (map.get histories j)) (subst (λ b. LocksetMatches (map.get m key) b (lockset_ahead d histories t.begin x j (map.get histories j))) expected (h.keys key));
        }

    -- none is ahead, as it has ended
    not_ahead : (lock_ahead j && is_on t x q.func (tx_now d j q) (effect_of d q)) ≡ true → ⊥
    not_ahead g =
        let k = and_parts (lock_ahead j) (is_on t x q.func (tx_now d j q) (effect_of d q)) g in
        let at = subst (IsAheadIf d j) is (ends j k.0) in
        let clash = sym (now_open d histories well_formed j q t is at.open_still (tx_there q.answers k.1)) ∙ ended in cc

    by_got : (b : Bool) → got_before d t x j q ≡ b → (b || (lock_ahead j && is_on t x q.func (tx_now d j q) (effect_of d q))) ≡ true → HasAsked m histories t x
    by_got false was g = absurd (not_ahead g)
    by_got true was g = elim (gathered (λ ts c. is_on t x q.func (tx_after d j q ts) (effect_after d q ts) && not (is_aborted c)) [] q.answers false was) [
      | inl k ↦ cc
      | inr k ↦ by_answer k.before k.later k.answer k.parts (and_parts (is_on t x q.func (tx_after d j q k.before) (effect_after d q k.before)) (not (is_aborted k.answer)) k.holds).0
    ]

  by_member : (j : IntentId) (u : Option Instance) → map.get histories j ≡ u → got_by d t x j (lock_ahead j) u ≡ true → HasAsked m histories t x
  by_member j None is g = cc
  by_member j (Some q) is g = by_got j q is (got_before d t x j q) refl g

  pub has_asked : (content_of m x).owner ≡ Some (Tx t) → HasAsked m histories t x
  has_asked owned = let g = (h.txs x).owned_is_got t owned in by_member g.member (map.get histories g.member) refl g.got

  -- so it owns nothing, where all who took part have given back all
  pub owns_none : AllShort histories → AllReleased (first_end t e.0 e.1) m → (content_of m x).owner ≡ Some (Tx t) → ⊥
  owns_none short all owned = let a = has_asked owned in by_role a a.role
    where
      freed_by : (a : HasAsked m histories t x) (p : Member) → a.member ≡ p → AllFreed (first_end t e.0 e.1) m p → ⊥
      freed_by a p same freed =
          let func : x.func ≡ p.1 = a.func ∙ ap (λ (y : Member). y.1) same in
          let row : map.get m (lockset_key p.0 t.begin (record { func = p.1; table = x.table; key = x.key })) ≡ Some Row.Lockset = subst (λ f. map.get m (record { home = f; kind = Kind.Lockset p.0 t.begin x.table x.key }) ≡ Some Row.Lockset) func (subst (λ (i : IntentId). map.get m (lockset_key i t.begin x) ≡ Some Row.Lockset) (ap (λ (y : Member). y.0) same) a.row) in
          let own : (content_of m (record { func = p.1; table = x.table; key = x.key })).owner ≡ Some (Tx t) = subst (λ f. (content_of m (record { func = f; table = x.table; key = x.key })).owner ≡ Some (Tx t)) func owned in
          let clash = sym (ap (owns (Tx t)) own ∙ tx_self t) ∙ freed (x.table, x.key) Row.Lockset row in cc

      by_role : (a : HasAsked m histories t x) → (◌≡◌ {A = Member} a.member (t.intent, t.func)) ⊎ TakesPart histories t a.member → ⊥
      by_role a (inl own) = freed_by a (t.intent, t.func) own all.owner
      by_role a (inr part) =
          let r = reached d m histories lock_ahead h well_formed t e ended short a.member.0 part.instance part.made part.enclosing in
          let to : a.member ≡ visited_by t (r.first ∷ r.rest) = sym (r.leads ∙ ap (λ f. (a.member.0, f)) part.func) in
          freed_by a (visited_by t (r.first ∷ r.rest)) to (all.freed r.first r.rest r.member)
