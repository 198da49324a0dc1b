-- A transaction that goes on is well formed at each of its moves; and so is what it leaves at its end.
use Rattle.beldi_plain_laws.proofs.Names.{Answer, Bool, Deployment, Effect, FinMap, Going, Grown, OnCallStack, Instance, IntentId, IsAnswer, IsCalled, IsMember, Leads, CallStack, List, Move, None, Option, Place, Some, TxId, Value, [], aborted, answer_of, answered, ap, append_assoc, arith, call_of, callee_of, calls_at, dies_at, effect_of, ended, eq-or-lt_of_le, false, false_from_ne_true, fell, id_cmp, id_total, if◌then◌else◌, inl, inr, is_eq, is_older, is_owner, length, length-append, after_move, next, or_own, plain, refl, subst, sym, take, take-append-le, take_all, tied_itself, top, true, tx_by, tx_now, txs_after, ℕ, ◌++◌, ◌<◌, ◌∙◌, ◌∷◌, ◌≡◌, ◌≤◌}
use Rattle.beldi_plain_laws.proofs.CallStack.{last_of, line_moved, returned, longer, long, not_longer, shorter}
use Rattle.beldi_plain_laws.proofs.Moved.{Items, answer_inside, answer_by, MoveIs, answers, calls, returns, move_is, mover}
use Rattle.beldi_plain_laws.proofs.WellFormed.{is_edge, tx_is, begun_pushed, WellFormedWith, well_formed_in, called_at, Waited, answered_in, called_with, returned_with}
use Rattle.beldi_plain_laws.proofs.Maps.{same_some, here, elsewhere, equal}
use Rattle.beldi_plain_laws.proofs.Names.map

-- ---- the owner, who has gone on from its Begin
pub record OwnerIs (d : Deployment) (t : TxId) (q : Instance) (f : FinMap id_cmp Instance) : Type 0 where
  pub owner : Instance
  pub made : map.get f t.intent ≡ Some owner
  pub grown : Grown q owner
  -- from its Begin on its transaction is open
  pub began : (n : ℕ) → t.begin < n → n ≤ length owner.answers → (txs_after d owner (take n owner.answers)).begun ≡ Some t.begin

-- a holder is older
abbrev pub IsSound : TxId → Move → Type 0
IsSound t plain = Unit {0}
IsSound t (fell None) = Unit {0}
IsSound t (fell (Some h)) = is_older h t.intent ≡ true

abbrev pub AllSound : TxId → List Move → Type 0
AllSound t [] = Unit {0}
AllSound t (m ∷ ms) = IsSound t m × AllSound t ms

-- a transaction that goes on, of an instance that stood so at its Begin
pub record GoingWellFormed (d : Deployment) (t : TxId) (q : Instance) (s : Going) : Type 0 where
  pub well_formed : WellFormedWith d (Some t) s.state.made
  pub line : OnCallStack d t s
  pub owner : OwnerIs d t q s.state.made

-- ---- answers inside
inside_answer : (p : Place) (t : TxId) (m : Items) (func : ℕ) (e : Effect) (a : Answer) → answer_inside m func e ≡ Some a → IsAnswer p (Some t) e a
inside_answer p t m func (Effect.Read b k) a h = subst (IsAnswer p (Some t) (Effect.Read b k)) (same_some h) tt
inside_answer p t m func (Effect.Write b k v) a h = subst (IsAnswer p (Some t) (Effect.Write b k v)) (same_some h) tt
inside_answer p t m func (Effect.CondWrite b k r o v) a h = subst (IsAnswer p (Some t) (Effect.CondWrite b k r o v)) (same_some h) tt
inside_answer p t m func e a h = cc

dies_inside : (p : Place) (t : TxId) (e : Effect) (o : Option IntentId) → IsSound t (fell o) → dies_at o e ≡ true → IsAnswer p (Some t) e (Answer.Aborted (record { place = p; holder = o }))
dies_inside p t Effect.Abort None sound h = refl
dies_inside p t e None sound h = cc
dies_inside p t (Effect.Read b k) (Some u) sound h = record { holder = u; cause = refl; older = sound }
dies_inside p t (Effect.Write b k v) (Some u) sound h = record { holder = u; cause = refl; older = sound }
dies_inside p t (Effect.CondWrite b k r o v) (Some u) sound h = record { holder = u; cause = refl; older = sound }
dies_inside p t e (Some u) sound h = cc

-- they are to no Begin, no End and no call
abbrev pub is_plainly : Effect → Bool
is_plainly (Effect.Read b k) = true
is_plainly (Effect.Write b k v) = true
is_plainly (Effect.CondWrite b k r o v) = true
is_plainly Effect.Abort = true
is_plainly e = false

pub plainly_edge : (e : Effect) → is_plainly e ≡ true → is_edge e ≡ false
plainly_edge Effect.Begin h = cc
plainly_edge (Effect.End c) h = cc
plainly_edge e h = refl

plainly_call : (e : Effect) → is_plainly e ≡ true → (w : Bool) (g : ℕ) (v : Value) → e ≡ call_of w g v → ⊥
plainly_call e h true g v is = let c = sym h ∙ ap is_plainly is in cc
plainly_call e h false g v is = let c = sym h ∙ ap is_plainly is in cc

pub inside_plainly : (m : Items) (func : ℕ) (e : Effect) (a : Answer) → answer_inside m func e ≡ Some a → is_plainly e ≡ true
inside_plainly m func (Effect.Read b k) a h = refl
inside_plainly m func (Effect.Write b k v) a h = refl
inside_plainly m func (Effect.CondWrite b k r o v) a h = refl
inside_plainly m func e a h = cc

pub dies_plainly : (o : Option IntentId) (e : Effect) → dies_at o e ≡ true → is_plainly e ≡ true
dies_plainly None Effect.Abort h = refl
dies_plainly None e h = cc
dies_plainly (Some u) (Effect.Read b k) h = refl
dies_plainly (Some u) (Effect.Write b k v) h = refl
dies_plainly (Some u) (Effect.CondWrite b k r o v) h = refl
dies_plainly (Some u) e h = cc

pub answered_plainly : (id : IntentId) (m : Items) (q : Instance) (e : Effect) (n : Move) (a : Answer) → answer_by id m q e n ≡ Some a → is_plainly e ≡ true
answered_plainly id m q e plain a h = inside_plainly m q.func e a h
answered_plainly id m q e (fell o) a h = by_test (dies_at o e) refl h
  where
    by_test : (b : Bool) → dies_at o e ≡ b → (if b then Some (aborted id q o) else None) ≡ Some a → is_plainly e ≡ true
    by_test false dies g = cc
    by_test true dies g = dies_plainly o e dies

record Fits (p : Place) (t : TxId) (e : Effect) (a : Answer) : Type 0 where
  fits : IsAnswer p (Some t) e a
  plainly : is_plainly e ≡ true

answer_fits : (t : TxId) (id : IntentId) (m : Items) (q : Instance) (e : Effect) (n : Move) (a : Answer) → IsSound t n → answer_by id m q e n ≡ Some a → Fits (record { intent = id; step = length q.answers }) t e a
answer_fits t id m q e plain a sound h = record { fits = inside_answer (record { intent = id; step = length q.answers }) t m q.func e a h; plainly = inside_plainly m q.func e a h }
answer_fits t id m q e (fell o) a sound h = by_test (dies_at o e) refl h
  where
    by_test : (b : Bool) → dies_at o e ≡ b → (if b then Some (aborted id q o) else None) ≡ Some a → Fits (record { intent = id; step = length q.answers }) t e a
    by_test false dies g = cc
    by_test true dies g = record {
      fits = subst (IsAnswer (record { intent = id; step = length q.answers }) (Some t) e) (same_some g) (dies_inside (record { intent = id; step = length q.answers }) t e o sound dies);
      plainly = dies_plainly o e dies;
    }

-- ---- the owner goes on
grown_more : (q y : Instance) (a : Answer) → Grown q y → y.outcome ≡ None → Grown q (answered y a)
grown_more q y a g none = record { func = g.func; args = g.args; parent = g.parent; enclosing = g.enclosing; later = g.later ++ a ∷ []; more = sym (append_assoc q.answers g.later (a ∷ [])) ∙ ap (λ xs. xs ++ a ∷ []) g.more; over = g.over }

module _ (d : Deployment) (t : TxId) (q : Instance) where
  -- .. where somebody else is set
  owner_past : (f : FinMap id_cmp Instance) (k : IntentId) (z : Instance) → (k ≡ t.intent → ⊥) → OwnerIs d t q f → OwnerIs d t q (map.insert f k z)
  owner_past f k z apart h = record { owner = h.owner; made = elsewhere f k t.intent z apart ∙ h.made; grown = h.grown; began = h.began }

  began_more : (y : Instance) (a : Answer) → is_edge (effect_of d y) ≡ false → t.begin < length y.answers → ((n : ℕ) → t.begin < n → n ≤ length y.answers → (txs_after d y (take n y.answers)).begun ≡ Some t.begin)
      → (n : ℕ) → t.begin < n → n ≤ length (answered y a).answers → (txs_after d (answered y a) (take n (answered y a).answers)).begun ≡ Some t.begin
  began_more y a edge begun h n lt le = elim (eq-or-lt_of_le le) [
    | inl e ↦
        ap (λ ts. (txs_after d y ts).begun) (ap (λ k. take k (y.answers ++ a ∷ [])) e ∙ take_all (length (y.answers ++ a ∷ [])) (y.answers ++ a ∷ []) (omega arith))
        ∙ begun_pushed d y a edge ∙ sym (ap (λ ts. (txs_after d y ts).begun) (take_all (length y.answers) y.answers (omega arith))) ∙ h (length y.answers) begun (omega arith)
    | inr l ↦
        let m = length-append y.answers (a ∷ []) in
        ap (λ ts. (txs_after d y ts).begun) (take-append-le n y.answers (a ∷ []) (omega (arith, l, m))) ∙ h n lt (omega (arith, l, m))
  ]

  -- .. or it is answered
  owner_answered : (f : FinMap id_cmp Instance) (i : IntentId) (y : Instance) (a : Answer) → map.get f i ≡ Some y → y.outcome ≡ None → is_edge (effect_of d y) ≡ false → (i ≡ t.intent → t.begin < length y.answers) → OwnerIs d t q f → OwnerIs d t q (map.insert f i (answered y a))
  owner_answered f i y a made none edge begun h = by_test (is_owner t i) refl
    where
      by_test : (b : Bool) → is_owner t i ≡ b → OwnerIs d t q (map.insert f i (answered y a))
      by_test false off = owner_past f i (answered y a) (λ e. let c = sym off ∙ ap (is_owner t) e ∙ ap is_eq (tied_itself id_total t.intent) in cc) h
      by_test true own =
          let e = sym (equal t.intent i own) in
          let same : h.owner ≡ y = same_some (sym h.made ∙ ap (map.get f) (sym e) ∙ made) in
          record {
            owner = answered y a;
            made = ap (map.get (map.insert f i (answered y a))) (sym e) ∙ here f i (answered y a);
            grown = grown_more q y a (subst (Grown q) same h.grown) none;
            began = began_more y a edge (begun e) (subst (λ (z : Instance). (n : ℕ) → t.begin < n → n ≤ length z.answers → (txs_after d z (take n z.answers)).begun ≡ Some t.begin) same h.began);
          }

  pub not_owner : (k : IntentId) → (k ≡ t.intent → ⊥) → is_owner t k ≡ false
  not_owner k apart = false_from_ne_true (is_owner t k) (λ own. apart (sym (equal t.intent k own)))

  -- ---- a move
  begun_by : (f : FinMap id_cmp Instance) (i : IntentId) (y : Instance) → CallStack d t f i → map.get f i ≡ Some y → i ≡ t.intent → t.begin < length y.answers
  begun_by f i y (top _ h) made own = subst (λ (z : Instance). t.begin < length z.answers) (same_some (sym h.made ∙ made)) h.begun
  begun_by f i y (next k _ l h) made own = absurd (not_longer t.intent i (let n = long d t f k l in let m = longer k (length h.waiter.answers) in let c = ap (λ (z : IntentId). length z.hops) h.is_callee in omega (arith, n, m, c)) own)

  module _ (f : FinMap id_cmp Instance) (well_formed : WellFormedWith d (Some t) f) (owner : OwnerIs d t q f) (outside : q.enclosing ≡ None) (func : q.func ≡ t.func) where
    -- who is in the line stands in the transaction
    pub line_tx : (i : IntentId) (y : Instance) → CallStack d t f i → map.get f i ≡ Some y → is_edge (effect_of d y) ≡ false → tx_now d i y ≡ Some t
    line_tx i y (top _ h) made edge =
        let same : owner.owner ≡ y = same_some (sym owner.made ∙ ap (map.get f) (sym h.own) ∙ made) in
        let within : y.enclosing ≡ None = ap (λ (z : Instance). z.enclosing) (sym same) ∙ owner.grown.enclosing ∙ outside in
        let fn : y.func ≡ t.func = ap (λ (z : Instance). z.func) (sym same) ∙ owner.grown.func ∙ func in
        let begun : (txs_after d y y.answers).begun ≡ Some t.begin = (well_formed_in d (Some t) f well_formed i y made).begun ∙ ap (λ b. if b then Some t.begin else None) (ap (is_owner t) h.own ∙ ap is_eq (tied_itself id_total t.intent)) in
        ap (λ x. or_own x (tx_by i y.func (length y.answers) (effect_of d y) (txs_after d y y.answers).begun)) within
        ∙ ap (tx_by i y.func (length y.answers) (effect_of d y)) begun ∙ tx_is i y.func (length y.answers) (effect_of d y) (Some t.begin) edge
        ∙ (λ j. Some (record { intent = h.own j; begin = t.begin; func = fn j }))
    line_tx i y (next k _ l h) made edge =
        let within : y.enclosing ≡ Some t = ap (λ (z : Instance). z.enclosing) (same_some (sym made ∙ h.made)) ∙ h.enclosing in
        ap (λ x. or_own x (tx_by i y.func (length y.answers) (effect_of d y) (txs_after d y y.answers).begun)) within

  -- the caller that a return answers waits for it
  waited_here : (f : FinMap id_cmp Instance) (well_formed : WellFormedWith d (Some t) f) (owner : OwnerIs d t q f) → q.enclosing ≡ None → q.func ≡ t.func → (i k : IntentId) (z : Instance) → map.get f i ≡ Some z → CallStack d t f k → (h : IsMember d t f k i)
      → (w : Waited d f i z) × (w.caller ≡ k) × (w.waiter ≡ h.waiter)
  waited_here f well_formed owner outside func i k z made l h =
      let own : h.instance ≡ z = same_some (sym h.made ∙ made) in
      let y = h.waiter in
      let call : effect_of d y ≡ Effect.Call z.func z.args = h.called ∙ ap (λ (x : Instance). Effect.Call x.func x.args) own in
      let c = called_at d (Some t) f well_formed k (length y.answers) z (ap (map.get f) (sym h.is_callee) ∙ made) in
      let top = last_of d t f k l in (
        record {
          caller = k;
          waiter = y;
          is_callee = h.is_callee;
          made = h.waits;
          open_still = ap (λ (x : Instance). x.outcome) (same_some (sym h.waits ∙ top.1)) ∙ top.2;
          stands = call;
          called = subst (λ x. IsCalled d k x (length y.answers) z) (same_some (sym c.1 ∙ h.waits)) c.2;
          parent = ap (λ (x : Instance). x.parent) (sym own) ∙ h.parent;
          enclosing = ap (λ (x : Instance). x.enclosing) (sym own) ∙ h.enclosing ∙ sym (line_tx f well_formed owner outside func k y l h.waits (ap is_edge call));
        },
        refl,
        refl,
      )

  pub going_moved : (m : Move) (s r : Going) → q.enclosing ≡ None → q.func ≡ t.func → GoingWellFormed d t q s → IsSound t m → after_move d t m s ≡ Some r → GoingWellFormed d t q r
  going_moved m s r outside func h sound step = let z = mover d t m s r step in by_kind z.0 z.1 (move_is d t m s z.0 r z.1 step)
    where
      line : OnCallStack d t r
      line = line_moved d t m s r h.line step

      none_of : (z : Instance) → map.get s.state.made s.active ≡ Some z → z.outcome ≡ None
      none_of z made = let l = last_of d t s.state.made s.active h.line in ap (λ (x : Instance). x.outcome) (same_some (sym made ∙ l.1)) ∙ l.2

      by_kind : (z : Instance) → map.get s.state.made s.active ≡ Some z → MoveIs d t m s r z → GoingWellFormed d t q r
      by_kind z made (answers a) =
          let fit = answer_fits t s.active s.state.items z (effect_of d z) m a.answer sound a.gives_it in
          let edge = plainly_edge (effect_of d z) fit.plainly in
          let tx = line_tx s.state.made h.well_formed h.owner outside func s.active z h.line made edge in
          record {
            well_formed = subst (λ (x : Going). WellFormedWith d (Some t) x.state.made) (sym a.is) (answered_in d (Some t) s.state.made h.well_formed s.active z made (none_of z made) a.answer
                (subst (λ x. IsAnswer (record { intent = s.active; step = length z.answers }) x (effect_of d z) a.answer) (sym tx) fit.fits) edge (plainly_call (effect_of d z) fit.plainly));
            line = line;
            owner = subst (λ (x : Going). OwnerIs d t q x.state.made) (sym a.is) (owner_answered s.state.made s.active z a.answer made (none_of z made) edge (begun_by s.state.made s.active z h.line made) h.owner);
          }
      by_kind z made (calls c) =
          let k = callee_of s.active z in
          let lt : length t.intent.hops < length k.hops = let n = long d t s.state.made s.active h.line in let m = longer s.active (length z.answers) in omega (arith, n, m) in
          let apart : k ≡ t.intent → ⊥ = λ e. not_longer t.intent k lt e in
          let off = not_owner k apart in
          let tx = line_tx s.state.made h.well_formed h.owner outside func s.active z h.line made (ap is_edge c.call) in
          record {
            well_formed = subst (λ (x : Going). WellFormedWith d (Some t) x.state.made) (sym c.is) (called_with d (Some t) s.state.made h.well_formed s.active z (Some t) c.func c.args made c.gone c.call (sym tx) (ap (λ b. if b then Some t.begin else None) off) (λ u e. inl e));
            line = line;
            owner = subst (λ (x : Going). OwnerIs d t q x.state.made) (sym c.is) (owner_past s.state.made k (record { func = c.func; args = c.args; parent = Some (calls_at s.active z true); enclosing = Some t; answers = []; outcome = None }) apart h.owner);
          }
      by_kind z made (returns e) =
          let w = returned d t m s r z made h.line e in
          let x = waited_here s.state.made h.well_formed h.owner outside func s.active w.caller z made w.line w.member in
          let over = map.insert s.state.made s.active (ended z e.outcome) in
          let apart : s.active ≡ t.intent → ⊥ = λ g. let c = sym e.not_owner ∙ ap (is_owner t) g ∙ ap is_eq (tied_itself id_total t.intent) in cc in
          let well_formed = returned_with d (Some t) s.state.made h.well_formed s.active z made (none_of z made) e.outcome e.returns x.0 in
          let back : map.insert over x.0.caller (answered x.0.waiter (answer_of e.outcome)) ≡ map.insert over w.caller (answered w.member.waiter (answer_of e.outcome)) = λ j. map.insert over (x.1 j) (answered (x.2 j) (answer_of e.outcome)) in
          let top = last_of d t s.state.made w.caller w.line in
          let there : map.get over w.caller ≡ Some w.member.waiter = elsewhere s.state.made s.active w.caller (ended z e.outcome) (λ g. not_longer w.caller s.active (shorter d t s.state.made w.caller s.active w.member) g) ∙ w.member.waits in
          record {
            well_formed = subst (λ (y : Going). WellFormedWith d (Some t) y.state.made) (sym w.is) (subst (WellFormedWith d (Some t)) back well_formed);
            line = line;
            owner = subst (λ (y : Going). OwnerIs d t q y.state.made) (sym w.is) (owner_answered over w.caller w.member.waiter (answer_of e.outcome) there (ap (λ (y : Instance). y.outcome) (same_some (sym w.member.waits ∙ top.1)) ∙ top.2) (ap is_edge w.member.called)
                (begun_by s.state.made w.caller w.member.waiter w.line w.member.waits) (owner_past s.state.made s.active (ended z e.outcome) apart h.owner));
          }

  pub going_led : (s : Going) (moves : List Move) (l : Going) → q.enclosing ≡ None → q.func ≡ t.func → GoingWellFormed d t q s → AllSound t moves → Leads d t s moves l → GoingWellFormed d t q l
  going_led s [] l outside func h sound leads = subst (GoingWellFormed d t q) leads h
  going_led s (m ∷ ms) l outside func h sound leads = going_led leads.0 ms l outside func (going_moved m s leads.0 outside func h sound.0 leads.1) sound.1 leads.2
