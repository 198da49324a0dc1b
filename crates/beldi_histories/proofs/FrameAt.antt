-- What is expected at each key, after an instance was answered: it changes at that place alone.
use Rattle.beldi_histories.proofs.Names.{Answer, AnswersOne, Body, Bool, Content, Deployment, Effect, Instance, IntentId, Item, ItemMatches, Histories, LockedOut, LocksetMatches, None, Note, Option, Owner, Place, Row, Some, TxId, TxsMatch, Value, ahead_by, ahead_note, and_right, answered_note, ap, arith, asks_lock, begins_at, called_by, child_of, cond, effect_after, effect_of, ended_at, eq-eqb, eqb-true, false, false_from_ne_true, get-insert, got_before, got_by, held_if, holds, id_cmp, id_same, id_total, if◌then◌else◌, is_aborted, is_decided, is_eq, is_item, is_mark, is_none, is_on, is_open, is_some, is_waited, last_step, length, lockset_ahead, not, note_by, note_or, op_of, expected_call, expected_lockset, expected_note, expected_read, expected_shadow, expected_value, place_eq, place_of, place_same, place_self, put, refl, row_added, row_at, shadow_by, subst, sym, tied_itself, touched, true, tx_after, tx_end, tx_now, txs_after, ℕ, ◌&&◌, ◌<◌, ◌==◌, ◌||◌, ◌∙◌, ◌≡◌}
use Rattle.beldi_histories.proofs.{Instances.calls_moved, Instances.same_caller, Instances.same_callee, Answers.true_false, Frame.step_next, Cases.by_cases, Cases.if_is, Cases.if_same}
use Rattle.beldi_histories.proofs.Names.map

pub recorded_set : (histories : Histories) (id : IntentId) (r : Instance) (P : IntentId → Option Instance → Type 0) → P id (Some r) → ((j : IntentId) → is_eq (id_cmp j id) ≡ false → P j (map.get histories j)) → (j : IntentId) → P j (map.get (map.insert histories id r) j)
recorded_set histories id r P here others j = subst (P j) (sym (get-insert id_total histories id r j)) (elim (is_eq (id_cmp j id)) as (λ b. is_eq (id_cmp j id) ≡ b → P j (cond b (Some r) (map.get histories j))) [
  | true ↦ λ e. subst (λ z. P z (Some r)) (sym (id_same j id e)) here
  | false ↦ λ e. others j e
] refl)

-- one that is put where it is
pub recorded_same : (histories : Histories) (id : IntentId) (q : Instance) → map.get histories id ≡ Some q → (j : IntentId) → map.get (map.insert histories id q) j ≡ map.get histories j
recorded_same histories id q is = recorded_set histories id q (λ j o. o ≡ map.get histories j) (sym is) (λ j other. refl)

-- nothing is taken out that was not ahead
pub none_out : (lock_ahead : IntentId → Bool) (id : IntentId) → lock_ahead id ≡ false → LockedOut lock_ahead lock_ahead id
none_out lock_ahead id h = record { out = h; others = λ j other. refl }

-- ---- what is expected alike matches alike
module _ (d : Deployment) (histories after : Histories) (lock_ahead unlocked : IntentId → Bool) (x : Item) where
  pub item_alike : ((j : IntentId) → holds d x (map.get after j) ≡ holds d x (map.get histories j)) → ((b : Place) → is_mark d after b.step (map.get after b.intent) ≡ false → is_mark d histories b.step (map.get histories b.intent) ≡ false)
      → ((b : Place) → expected_note d x b.intent (unlocked b.intent) b.step (map.get after b.intent) ≡ expected_note d x b.intent (lock_ahead b.intent) b.step (map.get histories b.intent)) → (c : Content) → ItemMatches d histories lock_ahead x c → ItemMatches d after unlocked x c
  item_alike held marks notes c h = record { owner = λ j. h.owner j ∙ sym (held j); notes = λ b apart. h.notes b (marks b apart) ∙ sym (notes b) }

  -- a lockset row
  pub lockset_by : (b : ℕ) (j : IntentId) (row : Option Row) → (row ≡ None → expected_lockset d b x j (map.get histories j) ≡ false → expected_lockset d b x j (map.get after j) ≡ false)
      → (row ≡ Some Row.Lockset → (expected_lockset d b x j (map.get histories j) || lockset_ahead d histories b x j (map.get histories j)) ≡ true → (expected_lockset d b x j (map.get after j) || lockset_ahead d after b x j (map.get after j)) ≡ true)
      → LocksetMatches row (expected_lockset d b x j (map.get histories j)) (lockset_ahead d histories b x j (map.get histories j)) → LocksetMatches row (expected_lockset d b x j (map.get after j)) (lockset_ahead d after b x j (map.get after j))
  lockset_by b j None none there h = none refl h
  lockset_by b j (Some Row.Lockset) none there h = there refl h
  lockset_by b j (Some r) none there h = h

  -- who owns it, where what is open was open
  pub txs_alike : ((t : TxId) (j : IntentId) → got_by d t x j (unlocked j) (map.get after j) ≡ got_by d t x j (lock_ahead j) (map.get histories j)) → ((t : TxId) → tx_end d after t ≡ None → tx_end d histories t ≡ None) → (o : Option Owner) → TxsMatch d histories lock_ahead x o → TxsMatch d after unlocked x o
  txs_alike got ends o h = record {
    owned_is_got = λ t e. let g = h.owned_is_got t e in record { member = g.member; got = got t g.member ∙ g.got };
    got_is_owned = λ t g open_still. h.got_is_owned t (record { member = g.member; got = sym (got t g.member) ∙ g.got }) (ends t open_still);
  }

-- where transactions have ended as before, marks are as before, and what is ahead
module _ (d : Deployment) (histories after : Histories) (ends : (t : TxId) → tx_end d after t ≡ tx_end d histories t) where
  pub decided_alike : (t : Option TxId) → is_decided d after t ≡ is_decided d histories t
  decided_alike None = refl
  decided_alike (Some t) = ap is_some (ends t)

  open_alike : (t : Option TxId) → is_open d after t ≡ is_open d histories t
  open_alike None = refl
  open_alike (Some t) = ap (λ z. not (is_some z)) (ends t)

  pub mark_alike : (n : ℕ) (o : Option Instance) → is_mark d after n o ≡ is_mark d histories n o
  mark_alike n None = refl
  mark_alike n (Some z) = ap (λ c. is_some (ended_at d z n) || (c && (n == last_step))) (decided_alike z.enclosing)

  pub ahead_alike : (b : ℕ) (x : Item) (i : IntentId) (o : Option Instance) → lockset_ahead d after b x i o ≡ lockset_ahead d histories b x i o
  ahead_alike b x i None = refl
  ahead_alike b x i (Some z) = ap (λ u. is_none z.outcome && (u && (begins_at b (tx_now d i z) && is_item x z.func (touched (effect_of d z))))) (open_alike (tx_now d i z))

-- ---- a table by places, of which an instance changed one step
module _ {X : Type 0} (histories : Histories) (id : IntentId) (q r : Instance) (is : map.get histories id ≡ Some q) (F G : IntentId → ℕ → Option Instance → X)
    (others : (j : IntentId) → is_eq (id_cmp j id) ≡ false → (m : ℕ) (o : Option Instance) → G j m o ≡ F j m o) where
  pub no_place : ((m : ℕ) → G id m (Some r) ≡ F id m (Some q)) → (b : Place) → G b.intent b.step (map.get (map.insert histories id r) b.intent) ≡ F b.intent b.step (map.get histories b.intent)
  no_place here b = recorded_set histories id r (λ j o. G j b.step o ≡ F j b.step (map.get histories j)) (here b.step ∙ ap (F id b.step) (sym is)) (λ j other. others j other b.step (map.get histories j)) b.intent

  pub one_place : (n : ℕ) (v : X) → ((m : ℕ) → G id m (Some r) ≡ (if m == n then v else F id m (Some q))) → (b : Place) → G b.intent b.step (map.get (map.insert histories id r) b.intent) ≡ (if place_eq (place_of id n) b then v else F b.intent b.step (map.get histories b.intent))
  one_place n v here b = recorded_set histories id r (λ j o. G j b.step o ≡ (if place_eq (place_of id n) (place_of j b.step) then v else F j b.step (map.get histories j)))
      (here b.step ∙ if_is (b.step == n)
      (λ e. ap (λ c. if c then v else F id b.step (map.get histories id)) (sym (subst (λ m. place_eq (place_of id n) (place_of id m) ≡ true) (sym (eqb-true b.step n e)) (place_self (place_of id n)))))
      (λ e. sym (if_is (place_eq (place_of id n) (place_of id b.step)) (λ g. absurd (true_false (sym (eq-eqb b.step n (sym (ap (λ (z : Place). z.step) (place_same (place_of id n) (place_of id b.step) g)))) ∙ e))) (λ g. ap (F id b.step) is))))
      (λ j other. others j other b.step (map.get histories j) ∙ sym (if_is (place_eq (place_of id n) (place_of j b.step))
      (λ g. let same : id ≡ j = ap (λ (z : Place). z.intent) (place_same (place_of id n) (place_of j b.step) g) in absurd (true_false (sym (ap is_eq (tied_itself id_total id)) ∙ ap (λ z. is_eq (id_cmp z id)) same ∙ other))) (λ g. refl)))
      b.intent

-- ---- an instance was answered
-- a step that ended no transaction is no mark
pub no_mark_at : (d : Deployment) (histories : Histories) (id : IntentId) (q : Instance) (n : ℕ) → map.get histories id ≡ Some q → n < last_step → ended_at d q n ≡ None → is_mark d histories n (map.get histories id) ≡ false
no_mark_at d histories id q n is short none = ap (is_mark d histories n) is ∙ ap (λ z. is_some z || (is_decided d histories q.enclosing && (n == last_step))) none
    ∙ ap (λ z. is_decided d histories q.enclosing && z) (false_from_ne_true (n == last_step) (λ g. let k = eqb-true n last_step g in omega (arith, k, short))) ∙ and_right (is_decided d histories q.enclosing) false refl

-- nothing is ahead where no lock is
pub none_ahead : (x : Item) (f : ℕ) (t : Option TxId) (e : Effect) → ahead_by x f t e false ≡ None
none_ahead x f None e = refl
none_ahead x f (Some t) e = refl

pub not_ahead : (d : Deployment) (x : Item) (id : IntentId) (n : ℕ) (q : Instance) → ahead_note d x id false n q ≡ None
not_ahead d x id n q = ap (λ o. if n == length q.answers then o else None) (none_ahead x q.func (tx_now d id q) (effect_of d q)) ∙ if_same (n == length q.answers) None

pub or_no : (b : Bool) → (b || false) ≡ b
or_no true = refl
or_no false = refl

pub or_none : (o : Option Note) → note_or o None ≡ o
or_none None = refl
or_none (Some n) = refl

module _ (d : Deployment) (histories : Histories) (id : IntentId) (q r : Instance) (a : Answer) (is : map.get histories id ≡ Some q) (h : AnswersOne d id q a r) where
  abbrev n : ℕ
  n = length q.answers

  abbrev after : Histories
  after = map.insert histories id r

  -- the rows of reads and decisions
  pub read_none : row_added n (txs_after d q q.answers).begun (effect_of d q) a ≡ None → (f : ℕ) (b : Place) → expected_read d after f b ≡ expected_read d histories f b
  read_none none f b = no_place histories id q r is (λ j m o. expected_value d f m o) (λ j m o. expected_value d f m o) (λ j other m o. refl)
      (λ m. ap (λ z. if z == f then row_at d r m else None) h.func ∙ ap (λ z. if q.func == f then z else None) (h.rows m ∙ ap (λ z. put z m (row_at d q m)) none)) b

  pub read_one : (m : ℕ) (v : Value) → row_added n (txs_after d q q.answers).begun (effect_of d q) a ≡ Some (m, v) → (f : ℕ) (b : Place)
      → expected_read d after f b ≡ (if place_eq (place_of id m) b then (if q.func == f then Some v else None) else expected_read d histories f b)
  read_one m v some f b = one_place histories id q r is (λ j k o. expected_value d f k o) (λ j k o. expected_value d f k o) (λ j other k o. refl) m (if q.func == f then Some v else None)
      (λ k. ap (λ z. if z == f then row_at d r k else None) h.func ∙ ap (λ z. if q.func == f then z else None) (h.rows k ∙ ap (λ z. put z k (row_at d q k)) some) ∙ by_test (q.func == f) (k == m) (row_at d q k)) b
    where
      by_test : (b c : Bool) (o : Option Value) → (if b then (if c then Some v else o) else None) ≡ (if c then (if b then Some v else None) else (if b then o else None))
      by_test b c o = grind arith

  pub read_here : (m : ℕ) (v : Value) → row_added n (txs_after d q q.answers).begun (effect_of d q) a ≡ Some (m, v) → expected_read d after q.func (place_of id m) ≡ Some v
  read_here m v some = read_one m v some q.func (place_of id m) ∙ ap (λ c. if c then (if q.func == q.func then Some v else None) else expected_read d histories q.func (place_of id m)) (place_self (place_of id m)) ∙ ap (λ c. if c then Some v else None) (eq-eqb q.func q.func refl)

  -- the notes of a shadow
  pub shadow_one : (t : TxId) (x : Item) (b : Place) → expected_shadow d t x b.intent b.step (map.get after b.intent) ≡ (if place_eq (place_of id n) b then shadow_by t x q.func (tx_now d id q) (effect_of d q) a else expected_shadow d t x b.intent b.step (map.get histories b.intent))
  shadow_one t x b = one_place histories id q r is (λ j m o. expected_shadow d t x j m o) (λ j m o. expected_shadow d t x j m o) (λ j other m o. refl) n _ (λ m. h.shadows t x m) b

  -- lockset rows
  pub lockset_one : (b : ℕ) (x : Item) (j : IntentId) → expected_lockset d b x j (map.get after j) ≡ (expected_lockset d b x j (map.get histories j) || (is_eq (id_cmp j id) && asks_lock b x q.func (tx_now d id q) (effect_of d q)))
  lockset_one b x j = recorded_set histories id r (λ j o. expected_lockset d b x j o ≡ (expected_lockset d b x j (map.get histories j) || (is_eq (id_cmp j id) && asks_lock b x q.func (tx_now d id q) (effect_of d q))))
      (h.locksets b x ∙ ap (λ o. expected_lockset d b x id o || asks_lock b x q.func (tx_now d id q) (effect_of d q)) (sym is) ∙ ap (λ c. expected_lockset d b x id (map.get histories id) || (is_eq c && asks_lock b x q.func (tx_now d id q) (effect_of d q))) (sym (tied_itself id_total id)))
      (λ j other. sym (or_no (expected_lockset d b x j (map.get histories j))) ∙ ap (λ c. expected_lockset d b x j (map.get histories j) || (c && asks_lock b x q.func (tx_now d id q) (effect_of d q))) (sym other)) j

  -- who holds an item's own lock
  pub holds_one : (x : Item) (P : IntentId → Bool → Type 0) → P id (held_if x q.func (op_of (effect_of d q)) (holds d x (map.get histories id))) → ((j : IntentId) → is_eq (id_cmp j id) ≡ false → P j (holds d x (map.get histories j))) → (j : IntentId) → P j (holds d x (map.get after j))
  holds_one x P here others j = recorded_set histories id r (λ j o. P j (holds d x o)) (subst (P id) (ap (λ o. held_if x q.func (op_of (effect_of d q)) (holds d x o)) is ∙ sym (h.held x)) here) others j

  -- the rows of calls are as before
  pub calls_same : (f : ℕ) (b : Place) → expected_call after f b ≡ expected_call histories f b
  calls_same f b = calls_moved histories id r f b
      (λ e. same_caller f q r (map.get after (child_of b.intent b.step)) h.func ∙ ap (λ o. called_by f o (map.get after (child_of b.intent b.step))) (sym is))
      (λ e. same_callee f (map.get histories b.intent) q r h.func (λ i. if is_waited (ap (λ (z : Body). z.parent) (sym h.body) i) then h.outcome i else None) ∙ ap (called_by f (map.get histories b.intent)) (sym is))

  module _ (lock_ahead unlocked : IntentId → Bool) (out : LockedOut lock_ahead unlocked id) where
    -- the notes of a plain item
    pub note_one : (x : Item) (b : Place) → expected_note d x b.intent (unlocked b.intent) b.step (map.get after b.intent)
        ≡ (if place_eq (place_of id n) b then note_by x q.func (tx_now d id q) (effect_of d q) a else expected_note d x b.intent (lock_ahead b.intent) b.step (map.get histories b.intent))
    note_one x b = one_place histories id q r is (λ j m o. expected_note d x j (lock_ahead j) m o) (λ j m o. expected_note d x j (unlocked j) m o) (λ j other m o. ap (λ c. expected_note d x j c m o) (out.others j other)) n (note_by x q.func (tx_now d id q) (effect_of d q) a)
        (λ m. ap (λ c. note_or (answered_note d x id m r) (ahead_note d x id c m r)) out.out ∙ ap (note_or (answered_note d x id m r)) (not_ahead d x id m r) ∙ or_none (answered_note d x id m r) ∙ h.notes x m
        ∙ by_cases (m == n) (λ e. ap (λ c. if c then note_by x q.func (tx_now d id q) (effect_of d q) a else answered_note d x id m q) e ∙ sym (ap (λ c. if c then note_by x q.func (tx_now d id q) (effect_of d q) a else expected_note d x id (lock_ahead id) m (Some q)) e))
        -- no other step has a note ahead
        (λ e. ap (λ c. if c then note_by x q.func (tx_now d id q) (effect_of d q) a else answered_note d x id m q) e ∙ sym (ap (λ c. if c then note_by x q.func (tx_now d id q) (effect_of d q) a else note_or (answered_note d x id m q) (if c then ahead_by x q.func (tx_now d id q) (effect_of d q) (lock_ahead id) else None)) e ∙ or_none (answered_note d x id m q)))) b

    -- nothing is expected at the next step, where no lock is ahead; so an answer that expects no note leaves all as they are
    nothing_yet : (x : Item) → lock_ahead id ≡ false → expected_note d x id (lock_ahead id) n (map.get histories id) ≡ None
    nothing_yet x was = ap (expected_note d x id (lock_ahead id) n) is ∙ ap (λ c. note_or (answered_note d x id n q) (ahead_note d x id c n q)) was ∙ ap (note_or (answered_note d x id n q)) (not_ahead d x id n q)
        ∙ or_none (answered_note d x id n q) ∙ step_next (λ ts c. note_by x q.func (tx_after d id q ts) (effect_after d q ts) c) q.answers

    pub note_same : (x : Item) → note_by x q.func (tx_now d id q) (effect_of d q) a ≡ None → lock_ahead id ≡ false → (b : Place) → expected_note d x b.intent (unlocked b.intent) b.step (map.get after b.intent) ≡ expected_note d x b.intent (lock_ahead b.intent) b.step (map.get histories b.intent)
    note_same x none was b = note_one x b ∙ if_is (place_eq (place_of id n) b)
        (λ e. subst (λ (z : Place). note_by x q.func (tx_now d id q) (effect_of d q) a ≡ expected_note d x z.intent (lock_ahead z.intent) z.step (map.get histories z.intent)) (place_same (place_of id n) b e) (none ∙ sym (nothing_yet x was))) (λ e. refl)

    -- what a transaction has got
    pub got_one : (t : TxId) (x : Item) (P : IntentId → Bool → Type 0) → P id (got_before d t x id q || (is_on t x q.func (tx_now d id q) (effect_of d q) && not (is_aborted a)))
        → ((j : IntentId) → is_eq (id_cmp j id) ≡ false → P j (got_by d t x j (lock_ahead j) (map.get histories j))) → (j : IntentId) → P j (got_by d t x j (unlocked j) (map.get after j))
    got_one t x P here others j = recorded_set histories id r (λ j o. P j (got_by d t x j (unlocked j) o))
        (subst (P id) (sym (ap (λ b. got_before d t x id r || (b && is_on t x r.func (tx_now d id r) (effect_of d r))) out.out ∙ or_no (got_before d t x id r) ∙ h.got t x)) here)
        (λ j other. subst (λ b. P j (got_by d t x j b (map.get histories j))) (sym (out.others j other)) (others j other)) j

    -- an answer other than a death to whose lock is ahead, or a death to whose is not: what is got stays
    pub got_same : (lock_ahead id ≡ not (is_aborted a)) → (t : TxId) (x : Item) (j : IntentId) → got_by d t x j (unlocked j) (map.get after j) ≡ got_by d t x j (lock_ahead j) (map.get histories j)
    got_same same t x = got_one t x (λ j b. b ≡ got_by d t x j (lock_ahead j) (map.get histories j))
        (ap (λ b. got_before d t x id q || b) (turn (is_on t x q.func (tx_now d id q) (effect_of d q)) (not (is_aborted a)) ∙ ap (λ b. b && is_on t x q.func (tx_now d id q) (effect_of d q)) (sym same)) ∙ ap (got_by d t x id (lock_ahead id)) (sym is)) (λ j other. refl)
      where
        turn : (b c : Bool) → (b && c) ≡ (c && b)
        turn b c = grind arith
