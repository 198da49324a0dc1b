-- The moves of a transaction are few: the address of the one that can step, from the owner on, read as a number of 64 digits,
-- rises at each move.
use Rattle.beldi_plain.specs.Transaction.{enough}
use Rattle.beldi_plain_laws.proofs.Names.{Answer, Deployment, Effect, FinMap, Going, OnCallStack, Instance, IntentId, IsTrue, Leads, CallStack, List, Move, None, PlainState, Runs, Some, TxId, [], answer_of, answered, ap, append-nil, append_assoc, arith, callee_of, calls_at, effect_of, ended, fell, few_answers, id_cmp, inl, inr, length, length-append, ltb-true, after_move, mul-le-mul_right, new_member, next, one-le-pow, opened, plain, pow-succ', refl, subst, suc, sym, top, true, tx_begun, wants_answer, zero, ℕ, ◌*◌, ◌++◌, ◌+◌, ◌<◌, ◌^◌, ◌∙◌, ◌∷◌, ◌≡◌, ◌≤◌}
use Rattle.beldi_plain_laws.proofs.Moved.{Items, answer_by, MoveIs, answers, calls, returns, move_is, mover}
use Rattle.beldi_plain_laws.proofs.{CallStack.line_opened, CallStack.last_of, CallStack.line_moved, CallStack.returned, CallStack.shorter, CallStack.longer, Maps.same_some, Maps.here, Rises.Before, Rises.address, Rises.one_rises}
use Rattle.beldi_plain_laws.proofs.Names.map

-- ---- a list read as a number
-- of so many digits to a base, each digit one more than its item: what ends sooner is less
abbrev weigh : ℕ → ℕ → List ℕ → ℕ
weigh b zero xs = 0
weigh b (suc k) [] = 0
weigh b (suc k) (x ∷ xs) = suc x * b ^ k + weigh b k xs

-- digits of at most so much
abbrev AllSmall : ℕ → List ℕ → Type 0
AllSmall most [] = Unit {0}
AllSmall most (x ∷ xs) = (x ≤ most) × AllSmall most xs

one_more : (most : ℕ) (xs : List ℕ) (y : ℕ) → AllSmall most xs → y ≤ most → AllSmall most (xs ++ y ∷ [])
one_more most [] y small le = (le, tt)
one_more most (x ∷ xs) y small le = (small.0, one_more most xs y small.1 le)

module _ (most : ℕ) where
  abbrev base : ℕ
  base = suc (suc most)

  some_power : (k : ℕ) → 1 ≤ base ^ k
  some_power k = one-le-pow k base (omega arith)

  fits : (k : ℕ) (xs : List ℕ) → AllSmall most xs → weigh base k xs < base ^ k
  fits zero xs small = some_power zero
  fits (suc k) [] small = some_power (suc k)
  fits (suc k) (x ∷ xs) small =
      let tail = fits k xs small.1 in
      let whole : suc (suc x) * base ^ k ≤ base * base ^ k = mul-le-mul_right (base ^ k) (omega (arith, small.0)) in
      let power = pow-succ' base k in
      omega (arith, tail, whole, power)

  less : (k : ℕ) (xs ys : List ℕ) → Before xs ys → AllSmall most xs → length ys ≤ k → weigh base k xs < weigh base k ys
  less k [] [] h small short = absurd h
  less zero xs (y ∷ ys) h small short = absurd (omega (arith, short))
  less (suc k) [] (y ∷ ys) h small short = let one = some_power k in omega (arith, one)
  less k (x ∷ xs) [] h small short = absurd h
  less (suc k) (x ∷ xs) (y ∷ ys) (inl lt) small short =
      let tail = fits k xs small.1 in
      let head : suc (suc x) * base ^ k ≤ suc y * base ^ k = mul-le-mul_right (base ^ k) (omega (arith, lt)) in
      omega (arith, tail, head)
  less (suc k) (x ∷ xs) (y ∷ ys) (inr h) small short =
      let tail = less k xs ys h.1 small.1 (omega (arith, short)) in
      let head = ap (λ n. suc n * base ^ k) h.0 in
      omega (arith, tail, head)

cancel : (xs ys zs : List ℕ) → Before (xs ++ ys) (xs ++ zs) → Before ys zs
cancel [] ys zs h = h
cancel (x ∷ xs) ys zs (inl lt) = absurd (omega (arith, lt))
cancel (x ∷ xs) ys zs (inr h) = cancel xs ys zs h.1

-- ---- who wants an answer has had few
abbrev most_answers : ℕ
most_answers = 30000

has_had : (d : Deployment) (q : Instance) (e : Effect) → effect_of d q ≡ e → IsTrue (wants_answer e) → length q.answers < 30000
has_had d q e is w = few_answers d q.func q.args _ q.answers (subst (λ z. IsTrue (wants_answer z)) (sym is) w)

wants_it : (i : IntentId) (m : Items) (q : Instance) (e : Effect) (n : Move) (a : Answer) → answer_by i m q e n ≡ Some a → IsTrue (wants_answer e)
wants_it i m q (Effect.Return o) plain a h = cc
wants_it i m q (Effect.Return o) (fell None) a h = cc
wants_it i m q (Effect.Return o) (fell (Some k)) a h = cc
wants_it i m q e n a h = refl

module _ (d : Deployment) (t : TxId) where
  -- the steps from the owner to the one that can step
  record StepsFrom (i : IntentId) : Type 0 where
    steps : List ℕ
    is : i.hops ≡ t.intent.hops ++ steps
    few : AllSmall most_answers steps

  steps_from : (f : FinMap id_cmp Instance) (i : IntentId) → CallStack d t f i → StepsFrom i
  steps_from f i (top _ h) = record { steps = []; is = ap (λ (z : IntentId). z.hops) h.own ∙ sym (append-nil t.intent.hops); few = tt }
  steps_from f i (next k _ l h) =
      let w = steps_from f k l in
      let n = length h.waiter.answers in
      let few = has_had d h.waiter _ h.called refl in
      record {
        steps = w.steps ++ n ∷ [];
        is = ap (λ (z : IntentId). z.hops) h.is_callee ∙ ap (λ hs. hs ++ n ∷ []) w.is ∙ append_assoc t.intent.hops w.steps (n ∷ []);
        few = one_more most_answers w.steps n w.few (omega (arith, few));
      }

  -- what a move keeps
  record Bounded (s : Going) : Type 0 where
    line : OnCallStack d t s
    short : length s.active.hops ≤ length t.intent.hops + 63
    few : (q : Instance) → map.get s.state.made s.active ≡ Some q → length q.answers ≤ most_answers

  bounded : (s : Going) (z : Instance) → OnCallStack d t s → length s.active.hops ≤ length t.intent.hops + 63 → map.get s.state.made s.active ≡ Some z → length z.answers ≤ most_answers → Bounded s
  bounded s z line short made few = record { line = line; short = short; few = λ q is. subst (λ (y : Instance). length y.answers ≤ most_answers) (same_some (sym made ∙ is)) few }

  bounded_moved : (m : Move) (s r : Going) → Bounded s → after_move d t m s ≡ Some r → Bounded r
  bounded_moved m s r b h = let q = mover d t m s r h in by_kind q.0 q.1 (move_is d t m s q.0 r q.1 h)
    where
      line : OnCallStack d t r
      line = line_moved d t m s r b.line h

      by_kind : (q : Instance) → map.get s.state.made s.active ≡ Some q → MoveIs d t m s r q → Bounded r
      by_kind q made (answers a) =
          let few = has_had d q _ refl (wants_it s.active s.state.items q (effect_of d q) m a.answer a.gives_it) in
          let n = length-append q.answers (a.answer ∷ []) in
          subst Bounded (sym a.is) (bounded _ (answered q a.answer) (subst (OnCallStack d t) a.is line) b.short (here s.state.made s.active (answered q a.answer)) (omega (arith, few, n)))
      by_kind q made (calls c) =
          let z = new_member t c.func c.args (calls_at s.active q true) in
          let n = longer s.active (length q.answers) in
          let k = ltb-true (length s.active.hops) 63 c.short in
          subst Bounded (sym c.is) (bounded _ z (subst (OnCallStack d t) c.is line) (omega (arith, n, k)) (here s.state.made (callee_of s.active q) z) (omega arith))
      by_kind q made (returns e) =
          let w = returned d t m s r q made b.line e in
          let y = w.member.waiter in
          let few = has_had d y _ w.member.called refl in
          let n = length-append y.answers (answer_of e.outcome ∷ []) in
          let k = shorter d t s.state.made w.caller s.active w.member in
          let was = b.short in
          subst Bounded (sym w.is) (bounded _ (answered y (answer_of e.outcome)) (subst (OnCallStack d t) w.is line) (omega (arith, k, was)) (here (map.insert s.state.made s.active (ended q e.outcome)) w.caller (answered y (answer_of e.outcome))) (omega (arith, few, n)))

  -- the address of the one that can step, from the owner on
  abbrev digits : (s : Going) → Bounded s → Instance → List ℕ
  digits s b q = (steps_from s.state.made s.active b.line).steps ++ length q.answers ∷ []

  module _ (s : Going) (b : Bounded s) (q : Instance) (made : map.get s.state.made s.active ≡ Some q) where
    digits_is : address s q ≡ t.intent.hops ++ digits s b q
    digits_is = let w = steps_from s.state.made s.active b.line in ap (λ hs. hs ++ length q.answers ∷ []) w.is ∙ append_assoc t.intent.hops w.steps (length q.answers ∷ [])

    digits_few : AllSmall most_answers (digits s b q)
    digits_few = let w = steps_from s.state.made s.active b.line in one_more most_answers w.steps (length q.answers) w.few (b.few q made)

    digits_short : length (digits s b q) ≤ 64
    digits_short =
        let w = steps_from s.state.made s.active b.line in
        let n = ap (λ (hs : List ℕ). length hs) w.is in
        let k = length-append t.intent.hops w.steps in
        let l = length-append w.steps (length q.answers ∷ []) in
        let short = b.short in
        omega (arith, n, k, l, short)

  counted : (ms : List Move) (s l : Going) (b : Bounded s) (q : Instance) → map.get s.state.made s.active ≡ Some q → Leads d t s ms l → weigh 30002 64 (digits s b q) + length ms < 30002 ^ 64
  counted [] s l b q made leads = let k = fits 30000 64 (digits s b q) (digits_few s b q made) in more k
    where
      more : {m n : ℕ} → m < n → m + 0 < n
      more k = omega (arith, k)
  counted (m ∷ ms) s l b q made leads =
      let r = leads.0 in
      let c = bounded_moved m s r b leads.1 in
      let z = last_of d t r.state.made r.active c.line in
      let rises = cancel t.intent.hops (digits s b q) (digits r c z.0)
      (subst (λ xs. Before xs (t.intent.hops ++ digits r c z.0)) (digits_is s b q made) (subst (λ xs. Before (address s q) xs) (digits_is r c z.0 z.1) (one_rises d t m s r q z.0 b.line leads.1 made z.1))) in
      step (length ms) (less 30000 64 (digits s b q) (digits r c z.0) rises (digits_few s b q made) (digits_short r c z.0 z.1)) (counted ms r l c z.0 z.1 leads.2)
    where
      step : {m n o : ℕ} (k : ℕ) → m < n → n + k < o → m + suc k < o
      step k a b = omega (arith, a, b)

within : (n k : ℕ) → n + k < 30002 ^ 64 → k < enough
unfolding enough
within n k h = less_of (30002 ^ 64) h
  where
    less_of : (o : ℕ) → n + k < o → k < o
    less_of o h = omega (arith, h)

pub few_moves : (d : Deployment) (p : PlainState) (id : IntentId) (q : Instance) (moves : List Move) (s : Going) → Runs d p id q moves s → length moves < enough
few_moves d p id q moves s runs =
    let t = tx_begun id q in
    let z = answered q Answer.Done in
    let made = here p.made id z in
    let few = has_had d q _ runs.begins refl in
    let n = length-append q.answers (Answer.Done ∷ []) in
    within _ (length moves) (counted d t moves (opened p id q) s (bounded d t (opened p id q) z (line_opened d p id q runs.open_still) (omega arith) made (omega (arith, few, n))) z made runs.leads)
