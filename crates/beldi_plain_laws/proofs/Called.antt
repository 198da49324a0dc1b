-- An instance and what it called at a step: what the next entry leaves of the two.
use Rattle.std.proofs.Common.{is_some}
use Rattle.beldi_plain_laws.proofs.Names.{Answer, Async, Bool, Call, CalledBy, Caller, Deployment, Done, FinMap, Instance, IntentId, IsCalled, List, None, Option, Outcome, Some, TxId, Value, [], answer_given, answer_of, answered, ap, arith, call_of, calls_at, child_of, child_same, effect_before, effect_of, end_of, ended, eq-or-lt_of_le, false, forgets, forgets_begun, has_no_hops, id_cmp, id_total, inl, inr, is_eq, is_forgotten, length, length-append, new_instance, no_root, refl, root_of, slice_get, slice_get_past, subst, suc, sym, take, take-append-le, take_all, tied_itself, true, tx_after, tx_at, tx_now, txs_after, wants, enclosing_by, zero, ℕ, ◌++◌, ◌<◌, ◌∙◌, ◌∷◌, ◌≡◌, ◌≤◌, ◌⊎◌}
use Rattle.beldi_plain_laws.proofs.{Ends.ends_go_on, Maps.same_some, Maps.made_set, Maps.equal, Maps.elsewhere, Maps.here}
use Rattle.beldi_plain_laws.proofs.Names.map

-- ---- ids
-- an id is that of a root, or of a callee
pub last_hop : (xs : List ℕ) → (xs ≡ []) ⊎ ((ys : List ℕ) × (n : ℕ) × (xs ≡ ys ++ n ∷ []))
last_hop [] = inl refl
last_hop (x ∷ xs) = elim (last_hop xs) [
  | inl e ↦ inr ([], x, ap (λ l. x ∷ l) e)
  | inr r ↦ inr (x ∷ r.0, r.1, ap (λ l. x ∷ l) r.2)
]

pub not_root : (i : IntentId) (n t : ℕ) → child_of i n ≡ root_of t → ⊥
not_root i n t same = let clash = sym (no_root i n) ∙ ap (λ (z : IntentId). has_no_hops z.hops) same in cc

-- .. and nobody calls itself
pub not_own : (i : IntentId) (n : ℕ) → i ≡ child_of i n → ⊥
not_own i n same = let h = length-append i.hops (n ∷ []) in let k = ap (λ (z : IntentId). length z.hops) same in omega (arith, h, k)

-- ---- answers
pub get_front : (xs : List Answer) (a : Answer) (n : ℕ) → n < length xs → slice_get (xs ++ a ∷ []) n ≡ slice_get xs n
get_front [] a n h = absurd (omega (arith, h))
get_front (x ∷ xs) a zero h = refl
get_front (x ∷ xs) a (suc n) h = get_front xs a n (omega (arith, h))

pub get_after : (xs bs : List Answer) → slice_get (xs ++ bs) (length xs) ≡ slice_get bs 0
get_after [] bs = refl
get_after (x ∷ xs) bs = get_after xs bs

pub get_last : (xs : List Answer) (a : Answer) → slice_get (xs ++ a ∷ []) (length xs) ≡ Some a
get_last xs a = get_after xs (a ∷ [])

-- a step that has no answer is the next one
pub next_step : (xs : List Answer) (n : ℕ) → n ≤ length xs → slice_get xs n ≡ None → n ≡ length xs
next_step [] n h is = omega (arith, h)
next_step (x ∷ xs) zero h is = cc
next_step (x ∷ xs) (suc n) h is = ap suc (next_step xs n (omega (arith, h)) is)

-- a step of a longer list is the last, or one before
pub longer_cases : (xs : List Answer) (a : Answer) (n : ℕ) → n < length (xs ++ a ∷ []) → (n ≡ length xs) ⊎ (n < length xs)
longer_cases xs a n h = let l = length-append xs (a ∷ []) in eq-or-lt_of_le (omega (arith, l, h))

module _ (d : Deployment) (q : Instance) where
  pub effect_now : effect_before d q (length q.answers) ≡ effect_of d q
  effect_now = ap (wants d q.func q.args (is_some q.enclosing)) (take_all (length q.answers) q.answers (omega arith))

  -- the effects so far are as before, after an answer more
  pub effect_past : (a : Answer) (n : ℕ) → n ≤ length q.answers → effect_before d (answered q a) n ≡ effect_before d q n
  effect_past a n h = ap (wants d q.func q.args (is_some q.enclosing)) (take-append-le n q.answers (a ∷ []) h)

  -- .. and so is the transaction that they stand in
  pub tx_past : (i : IntentId) (a : Answer) (n : ℕ) → n ≤ length q.answers → tx_at d i (answered q a) n ≡ tx_at d i q n
  tx_past i a n h = ap (tx_after d i q) (take-append-le n q.answers (a ∷ []) h)

  pub tx_here_now : (i : IntentId) → tx_at d i q (length q.answers) ≡ tx_now d i q
  tx_here_now i = ap (tx_after d i q) (take_all (length q.answers) q.answers (omega arith))

  -- what is forgotten stays so
  pub forgets_on : (ends more : ℕ → Option (ℕ × Bool)) (o : Option ℕ) → ((b : ℕ) (z : ℕ × Bool) → ends b ≡ Some z → more b ≡ Some z) → forgets_begun ends o ≡ true → forgets_begun more o ≡ true
  forgets_on ends more None on h = cc
  forgets_on ends more (Some b) on h = by_end (ends b) refl h
    where
      by_end : (o : Option (ℕ × Bool)) → ends b ≡ o → forgets o ≡ true → forgets (more b) ≡ true
      by_end None is g = cc
      by_end (Some z) is g = ap forgets (on b z is) ∙ g

  pub forgotten_past : (a : Answer) (n : ℕ) → n ≤ length q.answers → is_forgotten d q n ≡ true → is_forgotten d (answered q a) n ≡ true
  forgotten_past a n le h = ap (λ ts. forgets_begun (end_of d (answered q a)) (txs_after d q ts).begun) (take-append-le n q.answers (a ∷ []) le)
      ∙ forgets_on (end_of d q) (end_of d (answered q a)) (txs_after d q (take n q.answers)).begun (λ b z is. ends_go_on d q a b z is) h

-- one that was made in a transaction, or in none
abbrev pub made_in : Option TxId → ℕ → Value → Option Caller → Instance
made_in w f v c = record (new_instance f v c) { enclosing = w }

-- ---- the two
-- nobody waits for it
abbrev pub IsAlone : Option Caller → Type 0
IsAlone o = (c : Caller) → o ≡ Some c → c.waits ≡ false

-- what is at an id, and at the id of its callee of step n: what is there was called there, and a call that was answered has
-- its callee, unless its transaction aborted
abbrev pub Linked : Deployment → IntentId → Option Instance → ℕ → Option Instance → Type 0
Linked d i None n o = o ≡ None
Linked d i (Some q) n None = n < length q.answers → (w : Bool) (f : ℕ) (a : Value) → effect_before d q n ≡ call_of w f a → is_forgotten d q n ≡ true
Linked d i (Some q) n (Some j) = IsCalled d i q n j

-- in the words of `WellFormed`, both ways
module _ (d : Deployment) (i : IntentId) (n : ℕ) where
  pub called_of : (j : Instance) (o : Option Instance) → Linked d i o n (Some j) → CalledBy d i o n j
  called_of j None l = cc
  called_of j (Some q) l = l

  pub has_callee : (q : Instance) (w : Bool) (f : ℕ) (a : Value) → n < length q.answers → effect_before d q n ≡ call_of w f a → is_forgotten d q n ≡ false → (u : Option Instance) → Linked d i (Some q) n u → is_some u ≡ true
  has_callee q w f a lt call kept None l = let c = sym kept ∙ l lt w f a call in cc
  has_callee q w f a lt call kept (Some j) l = refl

  pub linked : (o u : Option Instance) → ((j : Instance) → u ≡ Some j → CalledBy d i o n j)
      → ((q : Instance) (w : Bool) (f : ℕ) (a : Value) → o ≡ Some q → n < length q.answers → effect_before d q n ≡ call_of w f a → is_forgotten d q n ≡ false → is_some u ≡ true) → Linked d i o n u
  linked None None called callees = refl
  linked None (Some j) called callees = absurd (called j refl)
  linked (Some q) None called callees = λ lt w f a call. by_test lt w f a call (is_forgotten d q n) refl
    where
      by_test : n < length q.answers → (w : Bool) (f : ℕ) (a : Value) → effect_before d q n ≡ call_of w f a → (b : Bool) → is_forgotten d q n ≡ b → b ≡ true
      by_test lt w f a call true so = refl
      by_test lt w f a call false so = let c = callees q w f a refl lt call so in cc
  linked (Some q) (Some j) called callees = called j refl

module _ (d : Deployment) (i : IntentId) where
  -- no caller, and then a new one
  pub caller_new : (n : ℕ) (w : Option TxId) (f : ℕ) (v : Value) (c : Option Caller) (o : Option Instance) → Linked d i None n o → Linked d i (Some (made_in w f v c)) n o
  caller_new n u f v c o h = subst (Linked d i (Some (made_in u f v c)) n) (sym h) (λ lt w g a is. absurd (omega (arith, lt)))

  -- the caller was answered, but not at this step unless it stands at no call there
  pub caller_answered : (q : Instance) (a : Answer) (n : ℕ) (o : Option Instance) → (n ≡ length q.answers → (w : Bool) (f : ℕ) (v : Value) → effect_of d q ≡ call_of w f v → ⊥) → Linked d i (Some q) n o → Linked d i (Some (answered q a)) n o
  caller_answered q a n None other h = λ lt w f v is. elim (longer_cases q.answers a n lt) [
    | inl e ↦ absurd (other e w f v (sym (effect_now d q) ∙ ap (effect_before d q) (sym e) ∙ sym (effect_past d q a n (omega (arith, e))) ∙ is))
    | inr l ↦ forgotten_past d q a n (omega (arith, l)) (h l w f v (sym (effect_past d q a n (omega (arith, l))) ∙ is))
  ]
  caller_answered q a n (Some j) other h = record {
    waits = h.waits;
    here = let l = length-append q.answers (a ∷ []) in let k = h.here in omega (arith, l, k);
    call = effect_past d q a n h.here ∙ h.call;
    parent = h.parent;
    enclosing = h.enclosing ∙ ap (enclosing_by h.waits) (sym (tx_past d q i a n h.here));
    answered = get_front q.answers a n (elim (eq-or-lt_of_le h.here) [
      | inl e ↦ absurd (other e h.waits j.func j.args (sym (effect_now d q) ∙ ap (effect_before d q) (sym e) ∙ h.call))
      | inr l ↦ l
    ]) ∙ h.answered;
  }

  -- the caller ended
  pub caller_ended : (q : Instance) (u : Outcome) (n : ℕ) (o : Option Instance) → Linked d i (Some q) n o → Linked d i (Some (ended q u)) n o
  caller_ended q u n None h = h
  caller_ended q u n (Some j) h = record { waits = h.waits; here = h.here; call = h.call; parent = h.parent; enclosing = h.enclosing; answered = h.answered }

  -- the callee was answered
  pub callee_answered : (o : Option Instance) (n : ℕ) (j : Instance) (a : Answer) → Linked d i o n (Some j) → Linked d i o n (Some (answered j a))
  callee_answered None n j a h = cc
  callee_answered (Some q) n j a h = record { waits = h.waits; here = h.here; call = h.call; parent = h.parent; enclosing = h.enclosing; answered = h.answered }

  -- the callee ended, and nobody waited for it
  pub callee_over : (o : Option Instance) (n : ℕ) (j : Instance) (u : Outcome) → IsAlone j.parent → Linked d i o n (Some j) → Linked d i o n (Some (ended j u))
  callee_over None n j u alone h = cc
  callee_over (Some q) n j u alone h =
      let unwaited = alone (record { place = record { intent = i; step = n }; func = q.func; waits = h.waits }) h.parent in
      record { waits = h.waits; here = h.here; call = h.call; parent = h.parent; enclosing = h.enclosing; answered = h.answered ∙ ap (λ b. answer_given b j.outcome) unwaited ∙ sym (ap (λ b. answer_given b (Some u)) unwaited) }

  -- a call, and its return
  pub callee_new : (q : Instance) (w : Option TxId) (f : ℕ) (v : Value) → effect_of d q ≡ Call f v → w ≡ tx_now d i q → IsCalled d i q (length q.answers) (made_in w f v (Some (calls_at i q true)))
  callee_new q w f v is in_it = record { waits = true; here = omega arith; call = effect_now d q ∙ is; parent = refl; enclosing = in_it ∙ sym (tx_here_now d q i); answered = slice_get_past q.answers (length q.answers) (omega arith) }

  -- the caller was answered at its call
  at_call : (q : Instance) (a : Answer) → length q.answers ≤ length (answered q a).answers
  at_call q a = let l = length-append q.answers (a ∷ []) in omega (arith, l)

  pub callee_ended : (q j : Instance) (u : Outcome) → IsCalled d i q (length q.answers) j → j.parent ≡ Some (calls_at i q true) → IsCalled d i (answered q (answer_of u)) (length q.answers) (ended j u)
  callee_ended q j u h waited = record {
    waits = h.waits;
    here = at_call q (answer_of u);
    call = effect_past d q (answer_of u) (length q.answers) h.here ∙ h.call;
    parent = h.parent;
    enclosing = h.enclosing ∙ ap (enclosing_by h.waits) (sym (tx_past d q i (answer_of u) (length q.answers) h.here));
    answered = get_last q.answers (answer_of u) ∙ sym (ap (λ (c : Caller). answer_given c.waits (Some u)) (same_some (sym h.parent ∙ waited)));
  }

  -- a call that nobody waits for
  pub callee_sent : (q : Instance) (f : ℕ) (v : Value) → effect_of d q ≡ Async f v → IsCalled d i (answered q Done) (length q.answers) (new_instance f v (Some (calls_at i q false)))
  callee_sent q f v is = record {
    waits = false;
    here = at_call q Done;
    call = effect_past d q Done (length q.answers) (omega arith) ∙ effect_now d q ∙ is;
    parent = refl;
    enclosing = refl;
    answered = get_last q.answers Done;
  }

-- ---- all of a map
-- the two in a map
abbrev pub LinkedIn : Deployment → FinMap id_cmp Instance → IntentId → ℕ → Type 0
LinkedIn d f i n = Linked d i (map.get f i) n (map.get f (child_of i n))

-- what holds of all such pairs, and does where one of them was set, holds of all
pub pairs_set : (L : IntentId → Option Instance → ℕ → Option Instance → Type 0) (f : FinMap id_cmp Instance) (k : IntentId) (s : Instance) → ((i : IntentId) (n : ℕ) → L i (map.get f i) n (map.get f (child_of i n)))
    → ((n : ℕ) (o : Option Instance) → L k (map.get f k) n o → L k (Some s) n o) → ((i : IntentId) (n : ℕ) → child_of i n ≡ k → L i (map.get (map.insert f k s) i) n (map.get f k) → L i (map.get (map.insert f k s) i) n (Some s))
    → (i : IntentId) (n : ℕ) → L i (map.get (map.insert f k s) i) n (map.get (map.insert f k s) (child_of i n))
pairs_set L f k s all caller callee i n =
    let g = map.insert f k s in
    let first : L i (map.get g i) n (map.get f (child_of i n)) = made_set f k s (λ j o. (m : ℕ) → L j o m (map.get f (child_of j m))) (λ m. caller m (map.get f (child_of k m)) (all k m)) all i n in
    let then_at : (j : IntentId) → child_of i n ≡ j → L i (map.get g i) n (map.get f j) = λ j same. subst (λ z. L i (map.get g i) n (map.get f z)) same first in
    made_set f k s (λ j o. child_of i n ≡ j → L i (map.get g i) n o) (λ same. callee i n same (then_at k same)) then_at (child_of i n) refl

abbrev pub Links : Deployment → FinMap id_cmp Instance → Type 0
Links d f = (i : IntentId) (n : ℕ) → LinkedIn d f i n

-- a callee was set, and then its caller: what holds of the two, and of each with all others, holds of all
module _ (L : IntentId → Option Instance → ℕ → Option Instance → Type 0) (f : FinMap id_cmp Instance) (all : (i : IntentId) (n : ℕ) → L i (map.get f i) n (map.get f (child_of i n))) (k i : IntentId) (at : ℕ) (same : k ≡ child_of i at) (s r : Instance) where
  abbrev over : FinMap id_cmp Instance
  over = map.insert f k s

  abbrev both : FinMap id_cmp Instance
  both = map.insert over i r

  apart : k ≡ i → ⊥
  apart e = not_own i at (sym e ∙ same)

  there : map.get over i ≡ map.get f i
  there = elsewhere f k i s apart

  -- what holds of all pairs but this one
  abbrev Others : IntentId → Option Instance → ℕ → Option Instance → Type 0
  Others j u n v = (child_of j n ≡ k → ⊥) → L j u n v

  pub both_set : ((n : ℕ) (u : Option Instance) → L k (map.get f k) n u → L k (Some s) n u)
      → ((n : ℕ) (u : Option Instance) → (n ≡ at → ⊥) → L i (map.get f i) n u → L i (Some r) n u)
      → ((j : IntentId) (n : ℕ) (o : Option Instance) → L j o n (map.get f i) → L j o n (Some r))
      → L i (Some r) at (Some s) → (j : IntentId) (n : ℕ) → L j (map.get both j) n (map.get both (child_of j n))
  both_set callee caller called two j n = (elim (is_eq (id_cmp (child_of j n) k)) as (λ b. is_eq (id_cmp (child_of j n) k) ≡ b → L j (map.get both j) n (map.get both (child_of j n))) [
    | true ↦ λ e. let t = child_same i j at n (sym same ∙ sym (equal (child_of j n) k e)) in subst (λ z. L z (map.get both z) n (map.get both (child_of z n))) t.0 (subst (λ m. L i (map.get both i) m (map.get both (child_of i m))) t.1 this)
    | false ↦ λ e. others j n (λ own. let clash = sym e ∙ ap (λ z. is_eq (id_cmp z k)) own ∙ ap is_eq (tied_itself id_total k) in cc)
  ]) refl
    where
      others : (l : IntentId) (m : ℕ) → Others l (map.get both l) m (map.get both (child_of l m))
      others = pairs_set Others over i r
          (pairs_set Others f k s (λ l m other. all l m) (λ m u h other. callee m u (h other)) (λ l m own h other. absurd (other own)))
          (λ m u h other. caller m u (λ e. other (ap (child_of i) e ∙ sym same)) (subst (λ z. L i z m u) there (h other)))
          (λ l m own h other. called l m (map.get both l) (subst (λ z. L l (map.get both l) m z) there (h other)))

      this : L i (map.get both i) at (map.get both (child_of i at))
      this =
          let mine : map.get both (child_of i at) ≡ Some s = ap (map.get both) (sym same) ∙ elsewhere over i k r (λ e. apart (sym e)) ∙ here f k s in
          subst (λ u. L i u at (map.get both (child_of i at))) (sym (here over i r)) (subst (L i (Some r) at) (sym mine) two)
