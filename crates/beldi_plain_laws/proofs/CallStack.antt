-- Who waits inside a transaction: a line from the owner to the one that can step. A move changes it at its end alone.
use Rattle.beldi_plain_laws.proofs.Names.{Answer, Caller, Deployment, FinMap, Going, OnCallStack, Instance, IntentId, IsIn, IsMember, Leads, CallStack, List, Move, None, Outcome, PlainState, Some, TxId, [], answer_of, answer_to, answered, ap, append_assoc, arith, callee_of, calls_at, child_of, ended, give, id_cmp, id_total, inl, inr, is_eq, is_owner, length, length-append, after_move, new_member, next, opened, refl, subst, suc, sym, tied_itself, top, true, tx_begun, with_instance, ℕ, ◌++◌, ◌<◌, ◌∙◌, ◌∷◌, ◌≡◌, ◌≤◌, Effect}
use Rattle.beldi_plain_laws.proofs.Moved.{Returns, MoveIs, answers, calls, returns, move_is, mover}
use Rattle.beldi_plain_laws.proofs.Maps.{same_some, here, elsewhere}
use Rattle.beldi_plain_laws.proofs.Names.map

-- ---- ids
pub longer : (i : IntentId) (n : ℕ) → length (child_of i n).hops ≡ suc (length i.hops)
longer i n = let h = length-append i.hops (n ∷ []) in omega (arith, h)

-- one with more hops is another
pub not_longer : (i j : IntentId) → length i.hops < length j.hops → j ≡ i → ⊥
not_longer i j h same = let k = ap (λ (z : IntentId). length z.hops) same in omega (arith, h, k)

module _ (d : Deployment) (t : TxId) where
  -- ---- the last of the line
  pub last_of : (f : FinMap id_cmp Instance) (i : IntentId) → CallStack d t f i → (q : Instance) × (map.get f i ≡ Some q) × (q.outcome ≡ None)
  last_of f i (top _ h) = (h.instance, h.made, h.open_still)
  last_of f i (next k _ l h) = (h.instance, h.made, h.open_still)

  -- none in it is above the owner, and only the owner is as short
  pub long : (f : FinMap id_cmp Instance) (i : IntentId) → CallStack d t f i → length t.intent.hops ≤ length i.hops
  long f i (top _ h) = let k = ap (λ (z : IntentId). length z.hops) h.own in omega (arith, k)
  long f i (next k _ l h) = let n = long f k l in let m = longer k (length h.waiter.answers) in let c = ap (λ (z : IntentId). length z.hops) h.is_callee in omega (arith, n, m, c)

  deeper : (f : FinMap id_cmp Instance) (k i : IntentId) → CallStack d t f k → IsMember d t f k i → i ≡ t.intent → ⊥
  deeper f k i l h own = not_longer t.intent i (let n = long f k l in let m = longer k (length h.waiter.answers) in let c = ap (λ (z : IntentId). length z.hops) h.is_callee in omega (arith, n, m, c)) own

  child_in : (f : FinMap id_cmp Instance) (k : IntentId) (y : Instance) → CallStack d t f k → map.get f k ≡ Some y → IsIn t k → IsIn t (callee_of k y)
  child_in f k y (top _ h) made (inl own) =
      let same : h.instance ≡ y = same_some (sym h.made ∙ made) in
      inr (record {
        step = length y.answers;
        later = subst (λ (z : Instance). t.begin < length z.answers) same h.begun;
        hops = [];
        is = ap (λ z. child_of z (length y.answers)) own;
      })
  child_in f k y (next j _ l h) made (inl own) = absurd (deeper f j k l h own)
  child_in f k y l made (inr b) = inr (record {
    step = b.step;
    later = b.later;
    hops = b.hops ++ length y.answers ∷ [];
    is = ap (λ z. child_of z (length y.answers)) b.is ∙ ap (λ hs. record { ticket = t.intent.ticket; hops = hs }) (append_assoc t.intent.hops (b.step ∷ b.hops) (length y.answers ∷ []));
  })

  -- all of it is in the transaction, and so is what the last of it calls
  pub all_in : (f : FinMap id_cmp Instance) (i : IntentId) → CallStack d t f i → IsIn t i
  all_in f i (top _ h) = inl h.own
  all_in f i (next k _ l h) = subst (IsIn t) (sym h.is_callee) (child_in f k h.waiter l h.waits (all_in f k l))

  pub callee_in : (f : FinMap id_cmp Instance) (i : IntentId) (q : Instance) → CallStack d t f i → map.get f i ≡ Some q → IsIn t (callee_of i q)
  callee_in f i q l made = child_in f i q l made (all_in f i l)

  pub shorter : (f : FinMap id_cmp Instance) (k i : IntentId) (h : IsMember d t f k i) → length k.hops < length i.hops
  shorter f k i h = let m = longer k (length h.waiter.answers) in let c = ap (λ (z : IntentId). length z.hops) h.is_callee in omega (arith, m, c)

  -- ---- it goes by what is as short as its last
  line_same : (f g : FinMap id_cmp Instance) (i : IntentId) → ((j : IntentId) → length j.hops ≤ length i.hops → map.get g j ≡ map.get f j) → CallStack d t f i → CallStack d t g i
  line_same f g i same (top _ h) = top i (record { own = h.own; instance = h.instance; made = same i (omega arith) ∙ h.made; open_still = h.open_still; begun = h.begun })
  line_same f g i same (next k _ l h) =
      let lt = shorter f k i h in
      next k i (line_same f g k (λ j few. same j (omega (arith, lt, few))) l) (record {
        waiter = h.waiter;
        waits = same k (omega (arith, lt)) ∙ h.waits;
        instance = h.instance;
        made = same i (omega arith) ∙ h.made;
        called = h.called;
        is_callee = h.is_callee;
        parent = h.parent;
        enclosing = h.enclosing;
        open_still = h.open_still;
      })

  -- .. or by who is in the transaction
  pub line_alike : (f g : FinMap id_cmp Instance) (i : IntentId) → ((j : IntentId) → IsIn t j → map.get g j ≡ map.get f j) → CallStack d t f i → CallStack d t g i
  line_alike f g i same (top _ h) = top i (record { own = h.own; instance = h.instance; made = same i (inl h.own) ∙ h.made; open_still = h.open_still; begun = h.begun })
  line_alike f g i same (next k _ l h) = next k i (line_alike f g k same l) (record {
    waiter = h.waiter;
    waits = same k (all_in f k l) ∙ h.waits;
    instance = h.instance;
    made = same i (all_in f i (next k i l h)) ∙ h.made;
    called = h.called;
    is_callee = h.is_callee;
    parent = h.parent;
    enclosing = h.enclosing;
    open_still = h.open_still;
  })

  -- who is longer was set
  pub line_past : (f : FinMap id_cmp Instance) (i k : IntentId) (z : Instance) → length i.hops < length k.hops → CallStack d t f i → CallStack d t (map.insert f k z) i
  line_past f i k z lt l = line_same f (map.insert f k z) i (λ j few. elsewhere f k j z (λ same. not_longer j k (omega (arith, few, lt)) same)) l

  -- the last was answered
  pub line_answered : (f : FinMap id_cmp Instance) (i : IntentId) (q : Instance) (a : Answer) → map.get f i ≡ Some q → CallStack d t f i → CallStack d t (map.insert f i (answered q a)) i
  line_answered f i q a made (top _ h) =
      let same : h.instance ≡ q = same_some (sym h.made ∙ made) in
      top i (record {
        own = h.own;
        instance = answered q a;
        made = here f i (answered q a);
        open_still = ap (λ (z : Instance). z.outcome) (sym same) ∙ h.open_still;
        begun = let n = length-append q.answers (a ∷ []) in let k = subst (λ (z : Instance). t.begin < length z.answers) same h.begun in omega (arith, n, k);
      })
  line_answered f i q a made (next k _ l h) =
      let same : h.instance ≡ q = same_some (sym h.made ∙ made) in
      let lt = shorter f k i h in
      next k i (line_past f k i (answered q a) lt l) (record {
        waiter = h.waiter;
        waits = elsewhere f i k (answered q a) (λ e. not_longer k i lt e) ∙ h.waits;
        instance = answered q a;
        made = here f i (answered q a);
        called = h.called ∙ ap (λ (z : Instance). Effect.Call z.func z.args) same;
        is_callee = h.is_callee;
        parent = ap (λ (z : Instance). z.parent) (sym same) ∙ h.parent;
        enclosing = ap (λ (z : Instance). z.enclosing) (sym same) ∙ h.enclosing;
        open_still = ap (λ (z : Instance). z.outcome) (sym same) ∙ h.open_still;
      })

  -- ---- a return, by who waited
  pub record Returned (f : FinMap id_cmp Instance) (s r : Going) (q : Instance) (o : Outcome) (c : Caller) : Type 0 where
    pub caller : IntentId
    pub line : CallStack d t f caller
    pub member : IsMember d t f caller s.active
    pub call_is : c ≡ calls_at caller member.waiter true
    pub is : r ≡ record { state = record { items = s.state.items; made = map.insert (map.insert f s.active (ended q o)) caller (answered member.waiter (answer_of o)) }; active = caller }

  pub answers_who_waits : (s : Going) (q : Instance) (o : Outcome) (c : Caller) (k : IntentId) (y : Instance) → c ≡ calls_at k y true → map.get (map.insert s.state.made s.active (ended q o)) k ≡ Some y
      → answer_to (with_instance s.state s.active (ended q o)) c o ≡ record { items = s.state.items; made = map.insert (map.insert s.state.made s.active (ended q o)) k (answered y (answer_of o)) }
  answers_who_waits s q o c k y is there = ap (λ c. answer_to (with_instance s.state s.active (ended q o)) c o) is ∙ ap (give (with_instance s.state s.active (ended q o)) k (answer_of o)) there

  pub returned : (m : Move) (s r : Going) (q : Instance) → map.get s.state.made s.active ≡ Some q → OnCallStack d t s → (h : Returns d t m s r q) → Returned s.state.made s r q h.outcome h.caller
  returned m s r q made l h = by_line s.active refl l
    where
      by_line : (i : IntentId) → s.active ≡ i → CallStack d t s.state.made i → Returned s.state.made s r q h.outcome h.caller
      by_line i own (top _ w) = let c = sym h.not_owner ∙ ap (is_owner t) (own ∙ w.own) ∙ ap is_eq (tied_itself id_total t.intent) in cc
      by_line i same (next k _ l w) =
          let member = subst (IsMember d t s.state.made k) (sym same) w in
          let own : member.instance ≡ q = same_some (sym member.made ∙ made) in
          let y = member.waiter in
          let c : h.caller ≡ calls_at k y true = same_some (sym h.parent ∙ ap (λ (z : Instance). z.parent) (sym own) ∙ member.parent) in
          let there = elsewhere s.state.made s.active k (ended q h.outcome) (λ e. not_longer k s.active (shorter s.state.made k s.active member) e) ∙ member.waits in
          record {
            caller = k;
            line = l;
            member = member;
            call_is = c;
            is = h.is ∙ (λ j. record { state = answers_who_waits s q h.outcome h.caller k y c there j; active = (c j).place.intent });
          }

  -- ---- every move keeps the line
  pub line_moved : (m : Move) (s r : Going) → OnCallStack d t s → after_move d t m s ≡ Some r → OnCallStack d t r
  line_moved m s r l h = let q = mover d t m s r h in by_kind q.0 q.1 (move_is d t m s q.0 r q.1 h)
    where
      by_kind : (q : Instance) → map.get s.state.made s.active ≡ Some q → MoveIs d t m s r q → OnCallStack d t r
      by_kind q made (answers a) = subst (OnCallStack d t) (sym a.is) (line_answered s.state.made s.active q a.answer made l)
      by_kind q made (calls c) =
          let k = callee_of s.active q in
          let z = new_member t c.func c.args (calls_at s.active q true) in
          let lt : length s.active.hops < length k.hops = let n = longer s.active (length q.answers) in omega (arith, n) in
          subst (OnCallStack d t) (sym c.is) (next s.active k (line_past s.state.made s.active k z lt l) (record {
            waiter = q;
            waits = elsewhere s.state.made k s.active z (λ e. not_longer s.active k lt e) ∙ made;
            instance = z;
            made = here s.state.made k z;
            called = c.call;
            is_callee = refl;
            parent = refl;
            enclosing = refl;
            open_still = refl;
          }))
      by_kind q made (returns e) =
          let w = returned m s r q made l e in
          let lt = shorter s.state.made w.caller s.active w.member in
          let over = map.insert s.state.made s.active (ended q e.outcome) in
          let there = elsewhere s.state.made s.active w.caller (ended q e.outcome) (λ same. not_longer w.caller s.active lt same) ∙ w.member.waits in
          subst (OnCallStack d t) (sym w.is) (line_answered over w.caller w.member.waiter (answer_of e.outcome) there (line_past s.state.made w.caller s.active (ended q e.outcome) lt w.line))

  pub in_line : (s : Going) (moves : List Move) (l : Going) → OnCallStack d t s → Leads d t s moves l → OnCallStack d t l
  in_line s [] l h leads = subst (OnCallStack d t) leads h
  in_line s (m ∷ ms) l h leads = in_line leads.0 ms l (line_moved m s leads.0 h leads.1) leads.2

-- moves after moves
pub all_moves : (d : Deployment) (t : TxId) (s k l : Going) (xs ys : List Move) → Leads d t s xs k → Leads d t k ys l → Leads d t s (xs ++ ys) l
all_moves d t s k l [] ys a b = subst (λ z. Leads d t z ys l) (sym a) b
all_moves d t s k l (x ∷ xs) ys a b = (a.0, a.1, all_moves d t a.0 k l xs ys a.2 b)

-- a transaction of an instance begins with a line of its owner alone
pub line_opened : (d : Deployment) (p : PlainState) (id : IntentId) (q : Instance) → q.outcome ≡ None → OnCallStack d (tx_begun id q) (opened p id q)
line_opened d p id q none = top id (record { own = refl; instance = answered q Answer.Done; made = here p.made id (answered q Answer.Done); open_still = none; begun = let n = length-append q.answers (Answer.Done ∷ []) in omega (arith, n) })
