-- What an instance expects after one answer more, and after what takes no turn.
use Rattle.beldi_histories.proofs.Names.{Answer, AnswersOne, Body, Bool, Deployment, Effect, Instance, IntentId, Item, List, None, Note, Option, Outcome, ExpectsAlso, ExpectsSame, Some, TxId, Txs, Value, [], along_pushed, local_answer, answered, answered_if, ap, append-nil, append_assoc, arith, asks_lock, local_steps, at_step, commit_in, decision_by, effect_after, effect_of, end_of, eqb-true, false, fits, fits_at, got_before, held_if, held_pushed, holds, if◌then◌else◌, inl, inr, is_aborted, is_at, is_item, is_on, is_some, is_tx, length, lock_note, lockset_of, advanced, not, note_by, note_of, local_step, local_step_if, op_of, place_of, put, read_at, refl, row_added, row_at, shadow_by, slice_get, subst, sym, take, take-append-le, take-append_seam, touched, true, tx_after, tx_now, txs_after, txs_by, txs_pushed, value_for, value_or, write_op, ℕ, ◌&&◌, ◌++◌, ◌<◌, ◌==◌, ◌||◌, ◌∙◌, ◌∷◌, ◌≡◌, ◌⊎◌}
use Rattle.beldi_histories.proofs.{Answers.pushed_at, Answers.none_at_end, Cases.if_is, Cases.if_same, Cases.by_cases, Cases.by_option}

-- ---- folds and steps, with an answer more
pub step_pushed : {X : Type 0} (f : List Answer → Answer → Option X) (xs : List Answer) (a : Answer) (n : ℕ) → at_step f (take n (xs ++ a ∷ [])) (slice_get (xs ++ a ∷ []) n) ≡ (if n == length xs then f xs a else at_step f (take n xs) (slice_get xs n))
step_pushed f xs a n = pushed_at (λ ts o. at_step f ts o) (λ ts us. refl) xs a n

-- nothing is expected at the next step
pub step_next : {X : Type 0} (f : List Answer → Answer → Option X) (xs : List Answer) → at_step f (take (length xs) xs) (slice_get xs (length xs)) ≡ None
step_next f xs = ap (at_step f (take (length xs) xs)) (none_at_end xs)

-- an answer that expects nothing
pub step_same : {X : Type 0} (f : List Answer → Answer → Option X) (xs : List Answer) (a : Answer) (n : ℕ) → f xs a ≡ None → at_step f (take n (xs ++ a ∷ [])) (slice_get (xs ++ a ∷ []) n) ≡ at_step f (take n xs) (slice_get xs n)
step_same f xs a n none = step_pushed f xs a n ∙ if_is (n == length xs) (λ e. none ∙ sym (subst (λ m. at_step f (take m xs) (slice_get xs m) ≡ None) (sym (eqb-true n (length xs) e)) (step_next f xs))) (λ e. refl)

-- ---- what is open or ended is a Begin
pub record Begins (d : Deployment) (q : Instance) (given : List Answer) (s : Txs) : Type 0 where
  pub begun : (b : ℕ) → s.begun ≡ Some b → effect_after d q (take b given) ≡ Effect.Begin
  pub ended : (b : ℕ) (z : ℕ × Bool) → s.ends b ≡ Some z → effect_after d q (take b given) ≡ Effect.Begin

module _ (d : Deployment) (q : Instance) where
  module _ (given : List Answer) (a : Answer) (h : Begins d q given (txs_after d q given)) where
    abbrev before : Txs
    before = txs_after d q given

    same_front : (b : ℕ) → b < length given → effect_after d q (take b given) ≡ Effect.Begin → effect_after d q (take b (given ++ a ∷ [])) ≡ Effect.Begin
    same_front b g is = ap (effect_after d q) (take-append-le b given (a ∷ []) (omega (arith, g))) ∙ is

    kept_begins : Begins d q (given ++ a ∷ []) before
    kept_begins = let f = fits_at d q given in record { begun = λ b g. same_front b (f.before b g) (h.begun b g); ended = λ b z g. same_front b (f.below b z g) (h.ended b z g) }

    begins_by : (e : Effect) → effect_after d q given ≡ e → Begins d q (given ++ a ∷ []) (txs_by (length given) e before)
    begins_by Effect.Begin is = record {
      begun = λ b g. let k : length given ≡ b = cc in subst (λ m. effect_after d q (take m (given ++ a ∷ [])) ≡ Effect.Begin) k (ap (effect_after d q) (take-append_seam given (a ∷ [])) ∙ is);
      ended = kept_begins.ended;
    }
    begins_by (Effect.End c) is = record { begun = λ b g. cc; ended = λ b z g. by_open b z before.begun refl g }
      where
        by_open : (b : ℕ) (z : ℕ × Bool) (o : Option ℕ) → before.begun ≡ o → (if is_at b o then Some (length given, c) else before.ends b) ≡ Some z → effect_after d q (take b (given ++ a ∷ [])) ≡ Effect.Begin
        by_open b z None so g = kept_begins.ended b z g
        by_open b z (Some m) so g = by_cases (b == m) (λ e. kept_begins.begun b (so ∙ sym (ap Some (eqb-true b m e)))) (λ e. kept_begins.ended b z (sym (ap (λ t. if t then Some (length given, c) else before.ends b) e) ∙ g))
    begins_by e is = kept_begins

    begins_more : Begins d q (given ++ a ∷ []) (txs_after d q (given ++ a ∷ []))
    begins_more = subst (Begins d q (given ++ a ∷ [])) (sym (txs_pushed d q given a)) (begins_by (effect_after d q given) refl)

  begins_along : (given rest : List Answer) → Begins d q given (txs_after d q given) → Begins d q (given ++ rest) (txs_after d q (given ++ rest))
  begins_along given [] h = subst (λ ts. Begins d q ts (txs_after d q ts)) (sym (append-nil given)) h
  begins_along given (a ∷ rest) h = subst (λ ts. Begins d q ts (txs_after d q ts)) (append_assoc given (a ∷ []) rest) (begins_along (given ++ a ∷ []) rest (begins_more given a h))

  pub begins : (given : List Answer) → Begins d q given (txs_after d q given)
  begins given = begins_along [] given (record { begun = λ b g. cc; ended = λ b z g. cc })

-- ---- an answer more
module _ (d : Deployment) (id : IntentId) (q : Instance) (a : Answer) where
  abbrev n : ℕ
  n = length q.answers

  abbrev s : Txs
  s = txs_after d q q.answers

  ends_more : (b : ℕ) → end_of d (answered q a) b ≡ (txs_by n (effect_of d q) s).ends b
  ends_more b = ap (λ (z : Txs). z.ends b) (txs_pushed d q q.answers a)

  read_more : (m : ℕ) → read_at d (answered q a) m ≡ (if m == n then value_for (effect_of d q) a else read_at d q m)
  read_more m = step_pushed (λ given b. value_for (effect_after d q given) b) q.answers a m

  read_same : value_for (effect_of d q) a ≡ None → (m : ℕ) → read_at d (answered q a) m ≡ read_at d q m
  read_same none m = step_same (λ given b. value_for (effect_after d q given) b) q.answers a m none

  -- by the effect
  rows_by : (e : Effect) → effect_of d q ≡ e → (m : ℕ) → value_or (decision_by ((txs_by n e s).ends m)) (read_at d (answered q a) m) ≡ put (row_added n s.begun e a) m (row_at d q m)
  rows_by (Effect.Read t k) is m = by_answer a refl
    where
      quiet : value_for (Effect.Read t k) a ≡ None → value_or (decision_by (s.ends m)) (read_at d (answered q a) m) ≡ row_at d q m
      quiet none = ap (value_or (decision_by (s.ends m))) (read_same (ap (λ e. value_for e a) is ∙ none) m)

      by_answer : (b : Answer) → a ≡ b → value_or (decision_by (s.ends m)) (read_at d (answered q a) m) ≡ put (row_added n s.begun (Effect.Read t k) b) m (row_at d q m)
      by_answer (Answer.Value v) same = ap (value_or (decision_by (s.ends m))) (read_more m) ∙ by_cases (m == n)
          (λ e. (λ i. value_or (decision_by ((fits d q).fresh m (let k = eqb-true m n e in omega (arith, k)) i)) (if e i then value_for (is i) (same i) else read_at d q m)) ∙ sym (ap (λ c. if c then Some v else row_at d q m) e))
          (λ e. ap (λ c. value_or (decision_by (s.ends m)) (if c then value_for (effect_of d q) a else read_at d q m)) e ∙ sym (ap (λ c. if c then Some v else row_at d q m) e))
      by_answer b same = quiet (ap (value_for (Effect.Read t k)) same)
  rows_by (Effect.End c) is m = ap (value_or (decision_by (if is_at m s.begun then Some (n, c) else s.ends m))) (read_same (ap (λ e. value_for e a) is) m) ∙ by_begun s.begun
    where
      by_begun : (o : Option ℕ) → value_or (decision_by (if is_at m o then Some (n, c) else s.ends m)) (read_at d q m) ≡ put (row_added n o (Effect.End c) a) m (row_at d q m)
      by_begun None = refl
      by_begun (Some b) = elim (m == b) as (λ t. value_or (decision_by (if t then Some (n, c) else s.ends m)) (read_at d q m) ≡ (if t then Some (Value.Bool c) else row_at d q m)) [ true ↦ refl | false ↦ refl ]
  rows_by Effect.Begin is m = ap (value_or (decision_by (s.ends m))) (read_same (ap (λ e. value_for e a) is) m)
  rows_by e is m = ap (value_or (decision_by (s.ends m))) (read_same (ap (λ e. value_for e a) is) m)

  pub answers_one : AnswersOne d id q a (answered q a)
  answers_one = record {
    func = refl;
    enclosing = refl;
    outcome = refl;
    body = refl;
    rows = λ m. ap (λ o. value_or (decision_by o) (read_at d (answered q a) m)) (ends_more m) ∙ rows_by (effect_of d q) refl m;
    notes = λ x m. step_pushed (λ given b. note_by x q.func (tx_after d id q given) (effect_after d q given) b) q.answers a m;
    shadows = λ t x m. step_pushed (λ given b. shadow_by t x q.func (tx_after d id q given) (effect_after d q given) b) q.answers a m;
    locksets = λ b x. along_pushed (λ given c r. r || asks_lock b x q.func (tx_after d id q given) (effect_after d q given)) [] q.answers a false;
    got = λ t x. along_pushed (λ given c r. r || (is_on t x q.func (tx_after d id q given) (effect_after d q given) && not (is_aborted c))) [] q.answers a false;
    held = λ x. held_pushed d x q.func q.args (is_some q.enclosing) [] q.answers a false;
    ends = ends_more;
    marks = λ m. step_pushed (λ given b. commit_in (effect_after d q given)) q.answers a m;
  }

-- ---- what takes no turn expects nothing
same_itself : (d : Deployment) (id : IntentId) (q : Instance) → ExpectsSame d id q q
same_itself d id q = record { func = refl; enclosing = refl; outcome = refl; body = refl; rows = λ m. refl; notes = λ x m. refl; shadows = λ t x m. refl; locksets = λ b x. refl; got = λ t x. refl; held = λ x. refl; ends = λ b. refl; marks = λ m. refl }

-- who expects what another one expects, expects what that one does
expects_then : (d : Deployment) (id : IntentId) (q r : Instance) {f : ℕ} {t : Option TxId} {o : Option Outcome} {b : Body} {row : ℕ → Option Value} {note : Item → ℕ → Option Note} {shadow : TxId → Item → ℕ → Option Note} {lockset : ℕ → Item → Bool} {has : TxId → Item → Bool} {hold : Item → Bool} {ended : ℕ → Option (ℕ × Bool)} {mark : ℕ → Option Bool}
    → ExpectsAlso d id q f t o b row note shadow lockset has hold ended mark → ExpectsSame d id q r → ExpectsAlso d id r f t o b row note shadow lockset has hold ended mark
expects_then d id q r g h = record {
  func = h.func ∙ g.func;
  enclosing = h.enclosing ∙ g.enclosing;
  outcome = h.outcome ∙ g.outcome;
  body = g.body ∙ h.body;
  rows = λ m. h.rows m ∙ g.rows m;
  notes = λ x m. h.notes x m ∙ g.notes x m;
  shadows = λ t x m. h.shadows t x m ∙ g.shadows t x m;
  locksets = λ b x. h.locksets b x ∙ g.locksets b x;
  got = λ t x. h.got t x ∙ g.got t x;
  held = λ x. h.held x ∙ g.held x;
  ends = λ b. h.ends b ∙ g.ends b;
  marks = λ m. h.marks m ∙ g.marks m;
}

pub or_false : (b c : Bool) → c ≡ false → (b || c) ≡ b
or_false true c h = refl
or_false false c h = h

and_no : (b c : Bool) → c ≡ false → (b && c) ≡ false
and_no true c h = h
and_no false c h = refl

-- an effect that is no operation
pub no_note : (x : Item) (f : ℕ) (t : Option TxId) (e : Effect) (a : Answer) → op_of e ≡ None → touched e ≡ None → note_by x f t e a ≡ None
no_note x f None e a h g = ap (λ o. note_of x f o a) h
no_note x f (Some t) e a h g = ap (λ o. if is_item x f o then lock_note a else None) g

pub no_shadow : (t : TxId) (x : Item) (f : ℕ) (s : Option TxId) (e : Effect) (a : Answer) → write_op e ≡ None → shadow_by t x f s e a ≡ None
no_shadow t x f s e a h = ap (λ o. if is_tx t s then note_of x f o a else None) h ∙ if_same (is_tx t s) None

-- .. and ends no transaction
quiet_same : (d : Deployment) (id : IntentId) (q : Instance) (a : Answer) (e : Effect) → effect_of d q ≡ e → op_of e ≡ None → touched e ≡ None → write_op e ≡ None
    → row_added (length q.answers) (txs_after d q q.answers).begun e a ≡ None → ((b : ℕ) → (txs_by (length q.answers) e (txs_after d q q.answers)).ends b ≡ end_of d q b) → commit_in e ≡ None → ExpectsSame d id q (answered q a)
quiet_same d id q a e is op touch writes row ends none =
    let h = answers_one d id q a in
    record {
      func = refl;
      enclosing = refl;
      outcome = refl;
      body = refl;
      rows = λ m. h.rows m ∙ ap (λ z. put z m (row_at d q m)) (ap (λ z. row_added (length q.answers) (txs_after d q q.answers).begun z a) is ∙ row);
      notes = λ x m. step_same (λ given b. note_by x q.func (tx_after d id q given) (effect_after d q given) b) q.answers a m (ap (λ z. note_by x q.func (tx_now d id q) z a) is ∙ no_note x q.func (tx_now d id q) e a op touch);
      shadows = λ t x m. step_same (λ given b. shadow_by t x q.func (tx_after d id q given) (effect_after d q given) b) q.answers a m (ap (λ z. shadow_by t x q.func (tx_now d id q) z a) is ∙ no_shadow t x q.func (tx_now d id q) e a writes);
      locksets = λ b x. h.locksets b x ∙ or_false (lockset_of d b x id q) _ (and_no _ _ (ap (is_item x q.func) (ap touched is ∙ touch)));
      got = λ t x. h.got t x ∙ or_false (got_before d t x id q) _ (no_on t x);
      held = λ x. h.held x ∙ ap (λ z. held_if x q.func z (holds d x (Some q))) (ap op_of is ∙ op);
      ends = λ b. h.ends b ∙ ap (λ (z : Effect). (txs_by (length q.answers) z (txs_after d q q.answers)).ends b) is ∙ ends b;
      marks = λ m. step_same (λ given b. commit_in (effect_after d q given)) q.answers a m (ap commit_in is ∙ none);
    }
  where
    no_on : (t : TxId) (x : Item) → (is_on t x q.func (tx_now d id q) (effect_of d q) && not (is_aborted a)) ≡ false
    no_on t x = ap (λ b. b && not (is_aborted a)) (and_no (is_tx t (tx_now d id q)) _ (ap (is_item x q.func) (ap touched is ∙ touch)))

-- .. and so is what takes no turn: that of a Begin, or of an Abort
pub local_steps_is : (id : IntentId) (n : ℕ) (e : Effect) (a : Answer) → local_answer id n e ≡ Some a → (e ≡ Effect.Begin) ⊎ ((e ≡ Effect.Abort) × (a ≡ Answer.Aborted (record { place = place_of id n; holder = None })))
local_steps_is id n Effect.Begin a h = inl refl
local_steps_is id n Effect.Abort a h = let same : Answer.Aborted (record { place = place_of id n; holder = None }) ≡ a = cc in inr (refl, sym same)
local_steps_is id n e a h = cc

-- it keeps what each of its answers keeps
module _ (d : Deployment) (id : IntentId) (P : Instance → Type 0) (keeps : (q : Instance) (a : Answer) → q.outcome ≡ None → local_answer id (length q.answers) (effect_of d q) ≡ Some a → P q → P (answered q a)) where
  pub once_by : (q : Instance) → P q → P (local_step d id q)
  once_by q h = by_option q.outcome (λ none. subst (λ o. P (local_step_if d id q o)) (sym none) (by_option (local_answer id (length q.answers) (effect_of d q))
      (λ e. subst (λ o. P (answered_if q o)) (sym e) h) (λ a e. subst (λ o. P (answered_if q o)) (sym e) (keeps q a none e h)))) (λ o some. subst (λ u. P (local_step_if d id q u)) (sym some) h)

  pub local_steps_by : (q : Instance) → P q → P (local_steps d id q)
  local_steps_by q h = once_by (local_step d id q) (once_by q h)

pub local_steps_same : (d : Deployment) (id : IntentId) (q : Instance) → ExpectsSame d id q (local_steps d id q)
local_steps_same d id q = local_steps_by d id (ExpectsSame d id q) (λ r a none is g. expects_then d id r (answered r a) g (by_effect r a (effect_of d r) refl is)) q (same_itself d id q)
  where
    by_effect : (r : Instance) (a : Answer) (e : Effect) → effect_of d r ≡ e → local_answer id (length r.answers) e ≡ Some a → ExpectsSame d id r (answered r a)
    by_effect r a Effect.Begin is g = quiet_same d id r a Effect.Begin is refl refl refl refl (λ b. refl) refl
    by_effect r a Effect.Abort is g = quiet_same d id r a Effect.Abort is refl refl refl refl (λ b. refl) refl
    by_effect r a e is g = cc

-- ---- an answer, and then what takes no turn
pub moved_one : (d : Deployment) (id : IntentId) (q : Instance) (a : Answer) → AnswersOne d id q a (advanced d id q a)
moved_one d id q a = expects_then d id (answered q a) (advanced d id q a) (answers_one d id q a) (local_steps_same d id (answered q a))
