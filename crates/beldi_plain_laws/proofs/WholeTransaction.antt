-- Where a transaction begins and where it ends, all is well formed: with commit what it called stays, and without it is forgotten.
use Rattle.beldi_plain_laws.proofs.Names.{Answer, Bool, Deployment, FinMap, Going, Grown, Instance, IntentId, IsAnswer, IsCalled, IsCommitted, List, None, Option, PlainState, Some, TxId, Txs, Value, [], answered, ap, append_assoc, arith, call_of, effect_before, effect_of, end_of, eq-or-lt_of_le, false, forgets, forgets_begun, id_cmp, id_total, if◌then◌else◌, inl, inr, is_at, is_eq, is_forgotten, is_owner, is_some, length, length-append, nat_tests, not, opened, refl, root_of, slice_get, subst, suc, sym, take, take-append-le, take_all, tied_itself, true, tx_after, tx_begun, tx_now, txs_after, txs_by, wants, enclosing_by, zero, ℕ, ◌++◌, ◌<◌, ◌∙◌, ◌∷◌, ◌≡◌, ◌≤◌, ◌⊎◌, Effect}
use Rattle.beldi_plain_laws.proofs.WellFormed.{open_of, WellFormedIn, WellFormedInAt, WellFormedWith, Follows, follows_answer, well_formed_in, good_set}
use Rattle.beldi_plain_laws.proofs.{Called.Linked, Called.caller_answered, Called.callee_answered, Called.effect_now, Called.forgets_on, Called.pairs_set, Ends.ended_stays, GoingOn.GoingWellFormed, CallStack.line_opened, Maps.same_some, Maps.here, Maps.made_set, Maps.equal, Maps.none_by, Went.txs_pushed, Went.went_pushed}
use Rattle.beldi_plain_laws.proofs.Names.map

order : (n m : ℕ) → (n < m) ⊎ ((n ≡ m) ⊎ (m < n))
order zero zero = inr (inl refl)
order zero (suc m) = inl (omega arith)
order (suc n) zero = inr (inr (omega arith))
order (suc n) (suc m) = elim (order n m) [
  | inl h ↦ inl (omega (arith, h))
  | inr (inl h) ↦ inr (inl (ap suc h))
  | inr (inr h) ↦ inr (inr (omega (arith, h)))
]

self_at : (b : ℕ) → is_at b (Some b) ≡ true
self_at b = grind (arith, nat_tests)

get_first : (xs ys : List Answer) (n : ℕ) → n < length xs → slice_get (xs ++ ys) n ≡ slice_get xs n
get_first [] ys n h = absurd (omega (arith, h))
get_first (x ∷ xs) ys zero h = refl
get_first (x ∷ xs) ys (suc n) h = get_first xs ys n (omega (arith, h))

owner_self : (t : TxId) → is_owner t t.intent ≡ true
owner_self t = ap is_eq (tied_itself id_total t.intent)

-- a Begin and an End are no calls
begin_no_call : (w : Bool) (g : ℕ) (v : Value) → Effect.Begin ≡ call_of w g v → ⊥
begin_no_call true g v h = cc
begin_no_call false g v h = cc

end_no_call : (c w : Bool) (g : ℕ) (v : Value) → Effect.End c ≡ call_of w g v → ⊥
end_no_call c true g v h = cc
end_no_call c false g v h = cc

module _ (d : Deployment) (t : TxId) where
  -- who is not the owner stands in none of its own, whether it is open or not
  restated : (o u : Option TxId) (j : IntentId) (x : Option Instance) → open_of o j ≡ open_of u j → WellFormedInAt d o j x → WellFormedInAt d u j x
  restated o u j None same h = tt
  restated o u j (Some q) same h = record { past = h.past; over = h.over; begun = h.begun ∙ same }

  each_set : (o u : Option TxId) (f : FinMap id_cmp Instance) (z : Instance) → ((j : IntentId) → is_owner t j ≡ false → open_of o j ≡ open_of u j) → WellFormedIn d u t.intent z → ((j : IntentId) → WellFormedInAt d o j (map.get f j)) → (j : IntentId) → WellFormedInAt d u j (map.get (map.insert f t.intent z) j)
  each_set o u f z same good each j = by_test (is_owner t j) refl
    where
      by_test : (b : Bool) → is_owner t j ≡ b → WellFormedInAt d u j (map.get (map.insert f t.intent z) j)
      by_test true own = subst (λ k. WellFormedInAt d u k (map.get (map.insert f t.intent z) k)) (equal t.intent j own) (subst (WellFormedInAt d u t.intent) (sym (here f t.intent z)) good)
      by_test false off = made_set f t.intent z (λ k x. is_owner t k ≡ false → WellFormedInAt d u k x) (λ e. let c = sym e ∙ owner_self t in cc) (λ k e. restated o u k (map.get f k) (same k e) (each k)) j off

  off_none : (j : IntentId) → is_owner t j ≡ false → open_of (Some t) j ≡ None
  off_none j off = ap (λ b. if b then Some t.begin else None) off

-- ---- its Begin
module _ (d : Deployment) (p : PlainState) (h : WellFormedWith d None p.made) (id : IntentId) (q : Instance) (is : map.get p.made id ≡ Some q) (none : q.outcome ≡ None) (begins : effect_of d q ≡ Effect.Begin) where
  abbrev t : TxId
  t = tx_begun id q

  begun_now : (txs_after d q (q.answers ++ Answer.Done ∷ [])).begun ≡ Some t.begin
  begun_now = ap (λ (s : Txs). s.begun) (txs_pushed d q q.answers Answer.Done ∙ ap (λ e. txs_by (length q.answers) e (txs_after d q q.answers)) begins)

  pub going_begun : GoingWellFormed d t q (opened p id q)
  going_begun =
      let s = answered q Answer.Done in
      let follows = λ (z : Instance) (g : map.get p.made id ≡ Some z). subst (λ (y : Instance). Follows d y s) (same_some (sym is ∙ g)) (follows_answer d q Answer.Done) in
      record {
        well_formed = record {
          each = each_set d t None (Some t) p.made s (λ j off. sym (off_none d t j off)) (record {
            past = went_pushed d id q Answer.Done (subst (λ e. IsAnswer (record { intent = id; step = length q.answers }) (tx_now d id q) e Answer.Done) (sym begins) tt) (well_formed_in d None p.made h id q is).past;
            over = λ u g. let c = sym g ∙ none in cc;
            begun = begun_now ∙ sym (ap (λ b. if b then Some t.begin else None) (owner_self t));
          }) h.each;
          links = pairs_set (Linked d) p.made id s h.links
              (λ n u l. caller_answered d id q Answer.Done n u (λ e w g v call. begin_no_call w g v (sym begins ∙ call)) (subst (λ z. Linked d id z n u) is l))
              (λ i n same l. callee_answered d i (map.get (map.insert p.made id s) i) n q Answer.Done (subst (λ z. Linked d i (map.get (map.insert p.made id s) i) n z) is l));
          roots = λ r z. made_set p.made id s (λ j u. j ≡ root_of r → u ≡ Some z → (z.parent ≡ None) × (z.enclosing ≡ None))
              (λ same e. subst (λ (x : Instance). (x.parent ≡ None) × (x.enclosing ≡ None)) (same_some e) (h.roots r q (ap (map.get p.made) (sym same) ∙ is))) (λ j same e. h.roots r z (ap (map.get p.made) (sym same) ∙ e)) (root_of r) refl;
          committed = λ i z u made within. elim (good_set d p.made id s follows None h.committed (λ x e. h.committed id q x is e) i z u made within) [ inl e ↦ cc | inr c ↦ inr c ];
        };
        line = line_opened d p id q none;
        owner = record {
          owner = s;
          made = here p.made id s;
          grown = record { func = refl; args = refl; parent = refl; enclosing = refl; later = Answer.Done ∷ []; more = refl; over = λ o e. e };
          began = λ n lt le.
              let m = length-append q.answers (Answer.Done ∷ []) in
              let all : n ≡ length (q.answers ++ Answer.Done ∷ []) = omega (arith, lt, le, m) in
              ap (λ ts. (txs_after d q ts).begun) (ap (λ k. take k (q.answers ++ Answer.Done ∷ [])) all ∙ take_all (length (q.answers ++ Answer.Done ∷ [])) (q.answers ++ Answer.Done ∷ []) (omega arith)) ∙ begun_now;
        };
      }

-- ---- its End
module _ (d : Deployment) (t : TxId) (q : Instance) (s : Going) (h : GoingWellFormed d t q s) (z : Instance) (made : map.get s.state.made t.intent ≡ Some z) (open_still : z.outcome ≡ None) (c : Bool) (ends : effect_of d z ≡ Effect.End c) where
  abbrev last : Instance
  last = answered z Answer.Done

  begun_there : (txs_after d z z.answers).begun ≡ Some t.begin
  begun_there = (well_formed_in d (Some t) s.state.made h.well_formed t.intent z made).begun ∙ ap (λ b. if b then Some t.begin else None) (owner_self t)

  txs_last : txs_after d last last.answers ≡ txs_by (length z.answers) (Effect.End c) (txs_after d z z.answers)
  txs_last = txs_pushed d z z.answers Answer.Done ∙ ap (λ e. txs_by (length z.answers) e (txs_after d z z.answers)) ends

  pub ended_at : end_of d last t.begin ≡ Some (length z.answers, c)
  ended_at = ap (λ (x : Txs). x.ends t.begin) txs_last ∙ ap (λ b. if is_at t.begin b then Some (length z.answers, c) else (txs_after d z z.answers).ends t.begin) begun_there
      ∙ ap (λ b. if b then Some (length z.answers, c) else (txs_after d z z.answers).ends t.begin) (self_at t.begin)

  pub last_well_formed : WellFormedIn d None t.intent last
  last_well_formed = record {
    past = went_pushed d t.intent z Answer.Done (subst (λ e. IsAnswer (record { intent = t.intent; step = length z.answers }) (tx_now d t.intent z) e Answer.Done) (sym ends) tt) (well_formed_in d (Some t) s.state.made h.well_formed t.intent z made).past;
    over = λ u g. let k = sym g ∙ open_still in cc;
    begun = ap (λ (x : Txs). x.begun) txs_last;
  }

  -- with commit
  pub committed_with : c ≡ true → q.enclosing ≡ None → q.func ≡ t.func → WellFormedWith d None (map.insert s.state.made t.intent last)
  committed_with commit outside func =
      let f = s.state.made in
      let g = map.insert f t.intent last in
      let same : h.owner.owner ≡ z = same_some (sym h.owner.made ∙ made) in
      let follows = λ (y : Instance) (e : map.get f t.intent ≡ Some y). subst (λ (x : Instance). Follows d x last) (same_some (sym made ∙ e)) (follows_answer d z Answer.Done) in
      let this : IsCommitted d g t = record {
        owner = last;
        made = here f t.intent last;
        func = ap (λ (x : Instance). x.func) (sym same) ∙ h.owner.grown.func ∙ func;
        outside = ap (λ (x : Instance). x.enclosing) (sym same) ∙ h.owner.grown.enclosing ∙ outside;
        step = length z.answers;
        ends = ended_at ∙ ap (λ b. Some (length z.answers, b)) commit;
      } in
      record {
        each = each_set d t (Some t) None f last (λ j off. off_none d t j off) last_well_formed h.well_formed.each;
        links = pairs_set (Linked d) f t.intent last h.well_formed.links
            (λ n u l. caller_answered d t.intent z Answer.Done n u (λ e w k v call. end_no_call c w k v (sym ends ∙ call)) (subst (λ y. Linked d t.intent y n u) made l))
            (λ i n e l. callee_answered d i (map.get g i) n z Answer.Done (subst (λ y. Linked d i (map.get g i) n y) made l));
        roots = λ r y. made_set f t.intent last (λ j u. j ≡ root_of r → u ≡ Some y → (y.parent ≡ None) × (y.enclosing ≡ None))
            (λ e k. subst (λ (x : Instance). (x.parent ≡ None) × (x.enclosing ≡ None)) (same_some k) (h.well_formed.roots r z (ap (map.get f) (sym e) ∙ made))) (λ j e k. h.well_formed.roots r y (ap (map.get f) (sym e) ∙ k)) (root_of r) refl;
        committed = λ i y u e within.
            elim (good_set d f t.intent last follows (Some t) h.well_formed.committed (λ x k. h.well_formed.committed t.intent z x made k) i y u e within) [
              | inl k ↦ inr (subst (IsCommitted d g) (same_some k) this)
              | inr k ↦ inr k
            ];
      }

  -- ---- without: only its answers stay
  module _ (p : PlainState) (before : WellFormedWith d None p.made) (is : map.get p.made t.intent ≡ Some q) (begins : effect_of d q ≡ Effect.Begin) (begin : t.begin ≡ length q.answers) (abort : c ≡ false) where
    same_z : h.owner.owner ≡ z
    same_z = same_some (sym h.owner.made ∙ made)

    grown : Grown q z
    grown = subst (Grown q) same_z h.owner.grown

    abbrev rest : List Answer
    rest = grown.later ++ Answer.Done ∷ []

    all : last.answers ≡ q.answers ++ rest
    all = ap (λ xs. xs ++ Answer.Done ∷ []) (sym grown.more) ∙ append_assoc q.answers grown.later (Answer.Done ∷ [])

    take_front : (n : ℕ) → n ≤ length q.answers → take n last.answers ≡ take n q.answers
    take_front n le = ap (take n) all ∙ take-append-le n q.answers rest le

    same_wants : (ts : List Answer) → wants d last.func last.args (is_some last.enclosing) ts ≡ wants d q.func q.args (is_some q.enclosing) ts
    same_wants ts = λ i. wants d (grown.func i) (grown.args i) (is_some (grown.enclosing i)) ts

    effect_front : (n : ℕ) → n ≤ length q.answers → effect_before d last n ≡ effect_before d q n
    effect_front n le = same_wants (take n last.answers) ∙ ap (wants d q.func q.args (is_some q.enclosing)) (take_front n le)

    -- as the one that begins, with these answers
    as_longer : last ≡ record q { answers = q.answers ++ rest }
    as_longer = λ i. record { func = grown.func i; args = grown.args i; parent = grown.parent i; enclosing = grown.enclosing i; answers = all i; outcome = same_outcome i }
      where
        same_outcome : last.outcome ≡ q.outcome
        same_outcome = open_still ∙ sym (none_by q.outcome (λ u e. let k = sym (grown.over u e) ∙ open_still in cc))

    abbrev longer : Instance
    longer = record q { answers = q.answers ++ rest }

    -- what was called before the Begin stays, and what was called since is forgotten
    called_longer : (n : ℕ) (j : Instance) → IsCalled d t.intent q n j → IsCalled d t.intent longer n j
    called_longer n j l = elim (eq-or-lt_of_le l.here) [
      | inl e ↦ absurd (begin_no_call l.waits j.func j.args (sym begins ∙ sym (effect_now d q) ∙ ap (effect_before d q) (sym e) ∙ l.call))
      | inr lt ↦ record {
        waits = l.waits;
        here = let m = length-append q.answers rest in let k = l.here in omega (arith, m, k);
        call = ap (wants d q.func q.args (is_some q.enclosing)) (take-append-le n q.answers rest l.here) ∙ l.call;
        parent = l.parent;
        enclosing = l.enclosing ∙ ap (enclosing_by l.waits) (sym (ap (tx_after d t.intent q) (take-append-le n q.answers rest l.here)));
        answered = get_first q.answers rest n lt ∙ l.answered;
      }
    ]

    forgotten_longer : (n : ℕ) → n ≤ length q.answers → is_forgotten d q n ≡ true → is_forgotten d longer n ≡ true
    forgotten_longer n le f =
        ap (λ ts. forgets_begun (end_of d longer) (txs_after d q ts).begun) (take-append-le n q.answers rest le)
        ∙ forgets_on d q (end_of d q) (end_of d longer) (txs_after d q (take n q.answers)).begun (λ b e is. ended_stays d longer q.answers rest b e refl is) f

    forgotten_since : (n : ℕ) → length q.answers < n → n ≤ length z.answers → is_forgotten d last n ≡ true
    forgotten_since n lt le =
        ap (λ ts. forgets_begun (end_of d last) (txs_after d z ts).begun) (take-append-le n z.answers (Answer.Done ∷ []) le)
        ∙ ap (forgets_begun (end_of d last)) (subst (λ (y : Instance). (k : ℕ) → t.begin < k → k ≤ length y.answers → (txs_after d y (take k y.answers)).begun ≡ Some t.begin) same_z h.owner.began n (omega (arith, lt, begin)) le)
        ∙ ap forgets ended_at ∙ ap not abort

    caller_longer : (n : ℕ) (u : Option Instance) → Linked d t.intent (Some q) n u → Linked d t.intent (Some last) n u
    caller_longer n (Some j) l = subst (λ y. IsCalled d t.intent y n j) (sym as_longer) (called_longer n j l)
    caller_longer n None l = λ lt w g v call. by_place (eq-or-lt_of_le (within_all n lt)) lt w g v call
      where
        within_all : (n : ℕ) → n < length last.answers → n ≤ length z.answers
        within_all n lt = let m = length-append z.answers (Answer.Done ∷ []) in omega (arith, lt, m)

        early : (w : Bool) (g : ℕ) (v : Value) → effect_before d last n ≡ call_of w g v → n < length q.answers → is_forgotten d last n ≡ true
        early w g v call le = subst (λ y. is_forgotten d y n ≡ true) (sym as_longer) (forgotten_longer n (omega (arith, le)) (l le w g v (sym (effect_front n (omega (arith, le))) ∙ call)))

        by_order : (w : Bool) (g : ℕ) (v : Value) → effect_before d last n ≡ call_of w g v → n ≤ length z.answers → (n < length q.answers) ⊎ ((n ≡ length q.answers) ⊎ (length q.answers < n)) → is_forgotten d last n ≡ true
        by_order w g v call le (inl lt) = early w g v call lt
        by_order w g v call le (inr (inl e)) = absurd (begin_no_call w g v (sym begins ∙ sym (effect_now d q) ∙ ap (effect_before d q) (sym e) ∙ sym (effect_front n (omega (arith, e))) ∙ call))
        by_order w g v call le (inr (inr gt)) = forgotten_since n gt le

        by_place : (n ≡ length z.answers) ⊎ (n < length z.answers) → n < length last.answers → (w : Bool) (g : ℕ) (v : Value) → effect_before d last n ≡ call_of w g v → is_forgotten d last n ≡ true
        by_place o lt w g v call = by_order w g v call (within_all n lt) (order n (length q.answers))

    called_same : (i : IntentId) (x : Option Instance) (n : ℕ) → Linked d i x n (Some q) → Linked d i x n (Some longer)
    called_same i None n l = cc
    called_same i (Some y) n l = record { waits = l.waits; here = l.here; call = l.call; parent = l.parent; enclosing = l.enclosing; answered = l.answered }

    follows_longer : (x : Instance) → map.get p.made t.intent ≡ Some x → Follows d x last
    follows_longer x e = subst (λ (y : Instance). Follows d y last) (same_some (sym is ∙ e)) (subst (Follows d q) (sym as_longer) (record { func = refl; enclosing = refl; ends = λ b k g. ended_stays d longer q.answers rest b k refl g }))

    pub aborted_with : WellFormedWith d None (map.insert p.made t.intent last)
    aborted_with = record {
      each = each_set d t None None p.made last (λ j off. refl) last_well_formed before.each;
      links = pairs_set (Linked d) p.made t.intent last before.links (λ n u l. caller_longer n u (subst (λ y. Linked d t.intent y n u) is l))
          (λ i n e l. let there = map.get (map.insert p.made t.intent last) i in subst (λ y. Linked d i there n (Some y)) (sym as_longer) (called_same i there n (subst (Linked d i there n) is l)));
      roots = λ r y. made_set p.made t.intent last (λ j u. j ≡ root_of r → u ≡ Some y → (y.parent ≡ None) × (y.enclosing ≡ None))
          (λ e k. subst (λ (x : Instance). (x.parent ≡ None) × (x.enclosing ≡ None)) (sym as_longer ∙ same_some k) (before.roots r q (ap (map.get p.made) (sym e) ∙ is))) (λ j e k. before.roots r y (ap (map.get p.made) (sym e) ∙ k)) (root_of r) refl;
      committed = good_set d p.made t.intent last follows_longer None before.committed (λ u e. before.committed t.intent q u is (sym grown.enclosing ∙ e));
    }
