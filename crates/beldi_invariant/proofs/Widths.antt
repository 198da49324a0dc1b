-- Ids that are known are as long as ids may be, and rows of locks and of calls are of steps that bodies have: so the end of a
-- transaction finds the first of the rows of whom it visits.
use Rattle.std.specs.Prelude.{take}
use Rattle.beldi_lock.proofs.Firsts.{IsLast}
use Rattle.beldi_invariant.proofs.Names.{AllShort, Answer, AreHops, Bool, Called, CalledBy, Core, Deployment, Effect, FindsFirstCall, FindsFirstLock, Instance, IntentId, IntentMatches, IsAnswer, IsApart, IsCalled, IsMember, IsNarrow, IsTrue, Item, Kind, Histories, List, LocksetMatches, Matches, Member, None, Option, Place, Invariant, Row, Rows, WellFormedHistories, WellFormedHistory, Some, TxId, Txs, Value, [], add-one, and_parts, ap, append-nil, arith, asks_lock, begin_is, begins, begins_at, call_of, called_begun, effect_after, effect_before, effect_of, ended_by, false, few_answers, first_apart, first_end, first_narrow, fits_at, func_called, gathered, get_or, has_ended, inl, inr, is_begin, is_item, is_none, is_open, is_some, length, length-append, length-take-le, lockset_ahead, lockset_key, lockset_of, most, nat_le, nat_lt, next_step, no_begin, option_map, expected_lockset, refl, root_key, root_of, root_or_called, same_some, slice_get, subst, suc, sym, take-append-le, take_more, touched, true, tx_after, tx_end, tx_now, txs_after, txs_by, txs_pushed, visited_by, wants_answer, zero, ℕ, ◌&&◌, ◌++◌, ◌+◌, ◌<◌, ◌||◌, ◌∙◌, ◌∷◌, ◌≡◌, ◌≤◌, ◌⊎◌}
use Rattle.beldi_invariant.proofs.{Ended.owner_outside, Members.call_recorded, Members.members_joined}
use Rattle.beldi_invariant.proofs.Names.map

-- ---- steps
wanted_by : (p : Place) (t : Option TxId) (e : Effect) (a : Answer) → IsAnswer p t e a → IsTrue (wants_answer e)
wanted_by p t e a h = grind arith

wants_call : (w : Bool) (f : ℕ) (v : Value) → IsTrue (wants_answer (call_of w f v))
wants_call w f v = grind arith

wants_item : (x : Item) (func : ℕ) (e : Effect) → is_item x func (touched e) ≡ true → IsTrue (wants_answer e)
wants_item x func e h = grind arith

-- a step that was answered is one that bodies have
pub answered_small : (d : Deployment) (id : IntentId) (q : Instance) (n : ℕ) → WellFormedHistory d id q → n < length q.answers → n < 30000
answered_small d id q n well_formed less = by_answer (slice_get q.answers n) refl
  where
    by_answer : (o : Option Answer) → slice_get q.answers n ≡ o → n < 30000
    by_answer None e = let same = next_step q.answers n (omega (arith, less)) e in absurd (omega (arith, less, same))
    by_answer (Some a) e =
        let few = few_answers d q.func q.args (is_some q.enclosing) (take n q.answers) (wanted_by _ _ (effect_before d q n) a (well_formed.past n a e)) in
        let long = length-take-le n q.answers (omega (arith, less)) in
        omega (arith, few, long)

-- ---- ids
-- each hop is a step that a body has
Each : List ℕ → Type 0
Each [] = Unit {0}
Each (h ∷ hs) = (h ≤ most) × Each hs

each_pushed : (hs : List ℕ) (n : ℕ) → Each hs → n ≤ most → Each (hs ++ n ∷ [])
unfolding Each
each_pushed [] n all small = (small, tt)
each_pushed (h ∷ hs) n all small = (all.0, each_pushed hs n all.1 small)

are_hops : (room : ℕ) (hs : List ℕ) → Each hs → length hs ≤ room → AreHops room hs
unfolding Each
are_hops room [] all few = tt
are_hops zero (h ∷ hs) all few = omega (arith, few)
are_hops (suc room) (h ∷ hs) all few = (all.0, are_hops room hs all.1 (omega (arith, few)))

-- a caller stands at a step that bodies have
called_small : (d : Deployment) (i : IntentId) (n : ℕ) (j q : Instance) → IsCalled d i q n j → n ≤ most
called_small d i n j q c =
    let ts = take n q.answers in
    let few = few_answers d q.func q.args (is_some q.enclosing) ts (subst (λ e. IsTrue (wants_answer e)) (sym c.call) (wants_call c.waits j.func j.args)) in
    let long : length ts ≡ n = length-take-le n q.answers c.here in
    omega (arith, few, long)

module _ (d : Deployment) (histories : Histories) (well_formed : WellFormedHistories d histories) (tickets : (t : ℕ) (q : Instance) → map.get histories (root_of t) ≡ Some q → 1 ≤ t) where
  record Fit (i : IntentId) : Type 0 where
    pub ticket : 1 ≤ i.ticket
    pub hops : Each i.hops

  fit_step : (j : IntentId) (z : Instance) → map.get histories j ≡ Some z → ((i : IntentId) (q : Instance) → length i.hops < length j.hops → map.get histories i ≡ Some q → Fit i) → Fit j
  unfolding Each
  fit_step j z is rest = elim (root_or_called d histories well_formed j z is) [
    | inl root ↦ record { ticket = tickets j.ticket z (ap (map.get histories) (sym root) ∙ is); hops = subst Each (sym (ap (λ (i : IntentId). i.hops) root)) tt }
    | inr c ↦
        let l = length-append c.caller.hops (c.step ∷ []) in
        let k = ap (λ (i : IntentId). length i.hops) c.is in
        let f = rest c.caller c.waiter (omega (arith, l, k)) c.made in
        record { ticket = subst (λ (i : IntentId). 1 ≤ i.ticket) (sym c.is) f.ticket; hops = subst (λ (i : IntentId). Each i.hops) (sym c.is) (each_pushed c.caller.hops c.step f.hops (called_small d c.caller c.step z c.waiter c.called)) }
  ]

  fits_all : (n : ℕ) (j : IntentId) (z : Instance) → length j.hops ≤ n → map.get histories j ≡ Some z → Fit j
  fits_all zero j z small is = fit_step j z is (λ i q less. absurd (omega (arith, small, less)))
  fits_all (suc n) j z small is = fit_step j z is (λ i q less. fits_all n i q (omega (arith, small, less)))

  -- where ids are as short as ids are
  pub ids_fit : AllShort histories → (j : IntentId) (z : Instance) → map.get histories j ≡ Some z → (1 ≤ j.ticket) × AreHops 63 j.hops
  ids_fit short j z is = let f = fits_all (length j.hops) j z (omega arith) is in (f.ticket, are_hops 63 j.hops f.hops (short j (ap is_some is)))

-- ---- rows of locks
-- a lock was asked for in a transaction that began at this step
record Asks (d : Deployment) (histories : Histories) (i : IntentId) (b : ℕ) : Type 0 where
  pub instance : Instance
  pub made : map.get histories i ≡ Some instance
  pub given : List Answer
  pub more : List Answer
  pub all : given ++ more ≡ instance.answers
  pub begins : begins_at b (tx_after d i instance given) ≡ true
  pub on : is_begin (effect_after d instance given) ≡ false
  pub few : length given < 30000

row_there : (r : Option Row) (row : Row) (owed ahead : Bool) → r ≡ Some row → LocksetMatches r owed ahead → (owed || ahead) ≡ true
row_there r row owed ahead is h = grind arith

module _ (d : Deployment) (m : Rows) (histories : Histories) (lock_ahead : IntentId → Bool) (h : Matches d m histories lock_ahead) (well_formed : WellFormedHistories d histories) where
  module _ (i : IntentId) (b : ℕ) (x : Item) where
    asked_in : (q : Instance) (given more : List Answer) → map.get histories i ≡ Some q → given ++ more ≡ q.answers → asks_lock b x q.func (tx_after d i q given) (effect_after d q given) ≡ true → Asks d histories i b
    asked_in q given more is all asks =
        let e = effect_after d q given in
        let k = and_parts (begins_at b (tx_after d i q given)) (is_item x q.func (touched e)) asks in
        record { instance = q; made = is; given = given; more = more; all = all; begins = k.0; on = no_begin x q.func e k.1; few = few_answers d q.func q.args (is_some q.enclosing) given (wants_item x q.func e k.1) }

    by_expected : (o : Option Instance) → map.get histories i ≡ o → (expected_lockset d b x i o || lockset_ahead d histories b x i o) ≡ true → Asks d histories i b
    by_expected None is g = cc
    by_expected (Some q) is g = by_row (lockset_of d b x i q) refl g
      where
        by_row : (u : Bool) → lockset_of d b x i q ≡ u → (u || lockset_ahead d histories b x i (Some q)) ≡ true → Asks d histories i b
        by_row true e g = elim (gathered (λ ts a. asks_lock b x q.func (tx_after d i q ts) (effect_after d q ts)) [] q.answers false e) [
          | inl k ↦ cc
          | inr k ↦ asked_in q k.before (k.answer ∷ k.later) is k.parts k.holds
        ]
        by_row false e g =
            let a = and_parts (is_none q.outcome) (is_open d histories (tx_now d i q) && (begins_at b (tx_now d i q) && is_item x q.func (touched (effect_of d q)))) g in
            asked_in q q.answers [] is (append-nil q.answers) (and_parts (is_open d histories (tx_now d i q)) (begins_at b (tx_now d i q) && is_item x q.func (touched (effect_of d q))) a.1).1

  asked_lock : (home : ℕ) (i : IntentId) (b t : ℕ) (k : List ℕ) (r : Row) → map.get m (lockset_key i b (record { func = home; table = t; key = k })) ≡ Some r → Asks d histories i b
  asked_lock home i b t k r there =
      let x : Item = record { func = home; table = t; key = k } in
      let key = lockset_key i b x in
      by_expected i b x (map.get histories i) refl (row_there (map.get m key) r (expected_lockset d b x i (map.get histories i)) (lockset_ahead d histories b x i (map.get histories i)) there (h.keys key))

  -- the transaction is its own, or the one that it was called in
  module _ (i : IntentId) (b : ℕ) (a : Asks d histories i b) where
    abbrev q : Instance
    q = a.instance

    begins_in : (o : Option TxId) → begins_at b o ≡ true → (t : TxId) × (o ≡ Some t) × (t.begin ≡ b)
    begins_in o g = grind arith

    own_open : q.enclosing ≡ None → (txs_after d q a.given).begun ≡ Some b
    own_open outside = grind arith

    inherited : (s : TxId) → q.enclosing ≡ Some s → s.begin ≡ b
    inherited s inner = grind arith

    begin_small : b < 30000
    begin_small = by_within q.enclosing refl
      where
        by_within : (w : Option TxId) → q.enclosing ≡ w → b < 30000
        by_within None e = let less = (fits_at d q a.given).before b (own_open e) in let few = a.few in omega (arith, less, few)
        by_within (Some s) e =
            let k = called_begun d histories well_formed i q s a.made e in
            subst (λ n. n < 30000) (inherited s e) (answered_small d s.intent k.owner s.begin (well_formed.each s.intent k.owner k.made) k.before)

  -- ---- who is visited at the end of a transaction: its owner, or who was called in it
  pub record IsVisitor (t : TxId) (p : Member) : Type 0 where
    pub instance : Instance
    pub made : map.get histories p.0 ≡ Some instance
    pub role : ((instance.enclosing ≡ None) × (effect_before d instance t.begin ≡ Effect.Begin)) ⊎ (instance.enclosing ≡ Some t)

  module _ (fit : (j : IntentId) (z : Instance) → map.get histories j ≡ Some z → (1 ≤ j.ticket) × AreHops 63 j.hops) (t : TxId) (p : Member) (v : IsVisitor t p) where
    abbrev own_fit : (1 ≤ p.0.ticket) × AreHops 63 p.0.hops
    own_fit = fit p.0 v.instance v.made

    -- a Begin comes directly after no Begin
    not_next : (q : Instance) (c : ℕ) → c < length q.answers → effect_before d q c ≡ Effect.Begin → effect_before d q (suc c) ≡ Effect.Begin → ⊥
    not_next q c less at next =
        let ts = take c q.answers in
        let a = get_or q.answers c Answer.Done in
        let more : take (suc c) q.answers ≡ ts ++ a ∷ [] = ap (λ n. take n q.answers) (sym (add-one c)) ∙ take_more q.answers c Answer.Done less in
        let open_there : is_some (txs_after d q (ts ++ a ∷ [])).begun ≡ true = ap (λ (s : Txs). is_some s.begun) (txs_pushed d q ts a) ∙ ap (λ e. is_some (txs_by (length ts) e (txs_after d q ts)).begun) at in
        let clash = sym open_there ∙ (begin_is d q (ts ++ a ∷ []) (ap (effect_after d q) (sym more) ∙ next)).1 in cc

    -- so no row of its own is of the step before the transaction's
    not_before : (c : ℕ) → t.begin ≡ suc c → (a : Asks d histories p.0 c) → ⊥
    not_before c next a = by_role (subst (λ (y : Instance). ((y.enclosing ≡ None) × (effect_before d y t.begin ≡ Effect.Begin)) ⊎ (y.enclosing ≡ Some t)) (same_some (sym v.made ∙ a.made)) v.role)
      where
        by_role : ((a.instance.enclosing ≡ None) × (effect_before d a.instance t.begin ≡ Effect.Begin)) ⊎ (a.instance.enclosing ≡ Some t) → ⊥
        by_role (inr inner) = let same = inherited p.0 c a t inner in omega (arith, same, next)
        by_role (inl own) =
            let q = a.instance in
            let begun = own_open p.0 c a own.0 in
            let less = (fits_at d q a.given).before c begun in
            let long : length a.given + length a.more ≡ length q.answers = sym (length-append a.given a.more) ∙ ap length a.all in
            let there : effect_before d q c ≡ Effect.Begin = ap (λ ts. effect_after d q (take c ts)) (sym a.all) ∙ ap (effect_after d q) (take-append-le c a.given a.more (omega (arith, less))) ∙ (begins d q a.given).begun c begun in
            not_next q c (omega (arith, less, long)) there (ap (effect_before d q) (sym next) ∙ own.1)

    not_last : (home begin : ℕ) → t.begin ≡ begin → (i : IntentId) (b n : ℕ) (k : List ℕ) → Asks d histories i b → IsLast home p.0 own_fit.0 own_fit.1 begin i b n k → ⊥
    not_last home zero same i b n k a l = let small = begin_small i b a in let is = l.1 in omega (arith, small, is)
    not_last home (suc c) same i b n k a l = not_before c same (subst (λ y. Asks d histories y c) l.0 (subst (Asks d histories i) l.1 a))

    apart : (home room : ℕ) (kind : Kind) (r : Row) → map.get m (record { home = room; kind = kind }) ≡ Some r → IsApart home p.0 own_fit.0 own_fit.1 t.begin kind
    apart home room (Kind.Lockset i b n k) r there =
        let a = asked_lock room i b n k r there in
        let small = begin_small i b a in
        ((fit i a.instance a.made).1, omega (arith, small), not_last home t.begin refl i b n k a)
    apart home room kind r there = tt

    pub finds_lock : FindsFirstLock t p m
    finds_lock e next = first_apart p.1 p.0 own_fit.0 own_fit.1 t.begin m e (λ k r there. apart p.1 k.home k.kind r there) next

    -- ---- rows of calls
    narrow : (room : ℕ) (kind : Kind) (r : Row) → map.get m (record { home = room; kind = kind }) ≡ Some r → IsNarrow kind
    narrow room (Kind.Invoke a) r there =
        let k = call_recorded d m histories lock_ahead h (a.intent, room) (record { step = a.step; func = func_called r }) (ap (option_map func_called) there) in
        ((fit a.intent k.caller k.made).1, called_small d a.intent a.step k.callee k.caller (subst (λ o. CalledBy d a.intent o a.step k.callee) k.made (well_formed.called a.intent a.step k.callee k.there)))
    narrow room kind r there = tt

    pub finds_call : FindsFirstCall p m
    finds_call e next = first_narrow p.1 p.0 own_fit.0 own_fit.1 m e (λ k r there. narrow k.home k.kind r there) next

-- ---- of a host that has the invariant
module _ (d : Deployment) (c : Core) (m : Rows) (h : Invariant d c m) where
  -- a root that was made has its row
  tickets : (t : ℕ) (z : Instance) → map.get h.histories (root_of t) ≡ Some z → 1 ≤ t
  tickets t z made = positive (nat_lt 0 t) refl (sym (h.tickets t) ∙ by_row (map.get m (root_key t)) made (h.rows.keys (root_key t)))
    where
      by_row : (o : Option Row) → map.get h.histories (root_of t) ≡ Some z → IntentMatches (has_ended d h.histories) true 0 o (map.get h.histories (root_of t)) → is_some o ≡ true
      by_row o made g = grind arith

      positive : (b : Bool) → nat_lt 0 t ≡ b → (b && nat_le t c.newest) ≡ true → 1 ≤ t
      positive b e g = grind arith

  module _ (t : TxId) (z : ℕ × Bool) (ended : tx_end d h.histories t ≡ Some z) where
    owner_visits : (o : Option Instance) → map.get h.histories t.intent ≡ o → ended_by d t.begin o ≡ Some z → IsVisitor d m h.histories h.lock_ahead h.rows h.well_formed t (t.intent, t.func)
    owner_visits None is e = cc
    owner_visits (Some q) is e = record { instance = q; made = is; role = inl (owner_outside d q t.begin z e, (begins d q q.answers).ended t.begin z e) }

    visitor : (cs : List Called) → IsMember (first_end t z.0 z.1) m cs → IsVisitor d m h.histories h.lock_ahead h.rows h.well_formed t (visited_by t cs)
    visitor [] member = owner_visits (map.get h.histories t.intent) refl ended
    visitor (c ∷ cs) member = let k = members_joined d m h.histories h.lock_ahead h.rows h.well_formed t z ended c cs member in record { instance = k.instance; made = k.made; role = inr k.enclosing }

    -- the end of a transaction finds the first rows of whom it visits
    pub finds_first : (cs : List Called) → IsMember (first_end t z.0 z.1) m cs → FindsFirstCall (visited_by t cs) m × FindsFirstLock t (visited_by t cs) m
    finds_first cs member =
        let fit = ids_fit d h.histories h.well_formed tickets h.short in
        let v = visitor cs member in
        (finds_call d m h.histories h.lock_ahead h.rows h.well_formed fit t (visited_by t cs) v, finds_lock d m h.histories h.lock_ahead h.rows h.well_formed fit t (visited_by t cs) v)
