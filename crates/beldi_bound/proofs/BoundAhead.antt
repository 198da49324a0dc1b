-- What is ahead of a visit, as it goes on: at the same way, at a callee, and back at the caller.
use Rattle.std.specs.Prelude.{nat_lt}
use Rattle.std.proofs.lemmas.Bool.{eqb-true}
use Rattle.std.proofs.Common.{Bool, List, None, Some, [], ap, append-nil, append_assoc, arith, eq-eqb, false, if◌then◌else◌, ltb-true, refl, subst, sym, true, ℕ, ◌++◌, ◌<◌, ◌==◌, ◌∙◌, ◌∷◌, ◌≡◌}
use Rattle.beldi_value.specs.{Id.child_of, declared.id.IntentId.IntentId, declared.place.TxId.TxId}
use Rattle.beldi_row.specs.Table.{Rows}
use Rattle.beldi_txn.specs.{End.visited_by, Visited.IsCallPath, CallPath.Member, CallPath.callee_id, CallPath.callee_of, CallPath.member_at, declared.call_path.Called.Called}
use Rattle.beldi_histories.proofs.Cases.{by_cases}
use Rattle.beldi_bound.specs.Visits.{behind, is_call_ahead, is_lock_ahead, steps_of, steps_to}

-- ---- at one step of the way
if_more : (b u v w : Bool) → (u ≡ true → v ≡ true) → (if b then u else w) ≡ true → (if b then v else w) ≡ true
if_more true u v w more h = more h
if_more false u v w more h = h

-- at the step itself, and past it
if_at : (f : ℕ → Bool) (s x : ℕ) (u : Bool) → f s ≡ true → ((n : ℕ) → s < n → f n ≡ true) → (if s == x then u else nat_lt s x) ≡ true → f x ≡ true
if_at f s x u here past h = by_cases (s == x)
    (λ same. subst (λ y. f y ≡ true) (eqb-true s x same) here)
    (λ other. past x (ltb-true s x (sym (ap (λ b. if b then u else nat_lt s x) other) ∙ h)))

-- past the step it is not the step
if_past : (s x : ℕ) (u : Bool) → nat_lt s x ≡ true → (if s == x then u else nat_lt s x) ≡ true
if_past s x u less = by_cases (s == x)
    (λ same. let e = eqb-true s x same in let l = ltb-true s x less in absurd (omega (arith, e, l)))
    (λ other. ap (λ b. if b then u else nat_lt s x) other ∙ less)

if_same : {X : Type 0} (p : ℕ) (u w : X) → (if p == p then u else w) ≡ u
if_same p u w = ap (λ b. if b then u else w) (eq-eqb p p refl)

-- ---- more is ahead at the same way
module _ (f g : ℕ → Bool) (more : (n : ℕ) → f n ≡ true → g n ≡ true) where
  pub calls_more : (ps xs : List ℕ) (n : ℕ) → is_call_ahead f ps xs n ≡ true → is_call_ahead g ps xs n ≡ true
  calls_more [] [] n h = more n h
  calls_more [] (x ∷ xs) n h = more x h
  calls_more (p ∷ ps) [] n h = h
  calls_more (p ∷ ps) (x ∷ xs) n h = if_more (p == x) (is_call_ahead f ps xs n) (is_call_ahead g ps xs n) (nat_lt p x) (calls_more ps xs n) h

  pub locks_more : (a b : Bool) → (a ≡ true → b ≡ true) → (ps xs : List ℕ) → is_lock_ahead f a ps xs ≡ true → is_lock_ahead g b ps xs ≡ true
  locks_more a b here [] [] h = here h
  locks_more a b here [] (x ∷ xs) h = more x h
  locks_more a b here (p ∷ ps) [] h = h
  locks_more a b here (p ∷ ps) (x ∷ xs) h = if_more (p == x) (is_lock_ahead f a ps xs) (is_lock_ahead g b ps xs) (nat_lt p x) (locks_more a b here ps xs) h

-- ---- at a callee
module _ (g f : ℕ → Bool) (s : ℕ) (here : f s ≡ true) (past : (n : ℕ) → s < n → f n ≡ true) where
  pub calls_pushed : (ps xs : List ℕ) (n : ℕ) → is_call_ahead g (ps ++ s ∷ []) xs n ≡ true → is_call_ahead f ps xs n ≡ true
  calls_pushed [] [] n h = past n (ltb-true s n h)
  calls_pushed [] (x ∷ xs) n h = if_at f s x (is_call_ahead g [] xs n) here past h
  calls_pushed (p ∷ ps) [] n h = h
  calls_pushed (p ∷ ps) (x ∷ xs) n h = if_more (p == x) (is_call_ahead g (ps ++ s ∷ []) xs n) (is_call_ahead f ps xs n) (nat_lt p x) (calls_pushed ps xs n) h

  pub locks_pushed : (a : Bool) (ps xs : List ℕ) → is_lock_ahead g a (ps ++ s ∷ []) xs ≡ true → is_lock_ahead f true ps xs ≡ true
  locks_pushed a [] [] h = refl
  locks_pushed a [] (x ∷ xs) h = if_at f s x (is_lock_ahead g a [] xs) here past h
  locks_pushed a (p ∷ ps) [] h = refl
  locks_pushed a (p ∷ ps) (x ∷ xs) h = if_more (p == x) (is_lock_ahead g a (ps ++ s ∷ []) xs) (is_lock_ahead f true ps xs) (nat_lt p x) (locks_pushed a ps xs) h

-- ---- back at the caller
module _ (f : ℕ → Bool) (s : ℕ) where
  pub calls_popped : (ps xs : List ℕ) (n : ℕ) → is_call_ahead (nat_lt s) ps xs n ≡ true → is_call_ahead f (ps ++ s ∷ []) xs n ≡ true
  calls_popped [] [] n h = h
  calls_popped [] (x ∷ xs) n h = if_past s x (is_call_ahead f [] xs n) h
  calls_popped (p ∷ ps) [] n h = h
  calls_popped (p ∷ ps) (x ∷ xs) n h = if_more (p == x) (is_call_ahead (nat_lt s) ps xs n) (is_call_ahead f (ps ++ s ∷ []) xs n) (nat_lt p x) (calls_popped ps xs n) h

  pub locks_popped : (a b : Bool) (ps xs : List ℕ) → is_lock_ahead (nat_lt s) a ps xs ≡ true → is_lock_ahead f b (ps ++ s ∷ []) xs ≡ true
  locks_popped a b [] [] h = refl
  locks_popped a b [] (x ∷ xs) h = if_past s x (is_lock_ahead f b [] xs) h
  locks_popped a b (p ∷ ps) [] h = refl
  locks_popped a b (p ∷ ps) (x ∷ xs) h = if_more (p == x) (is_lock_ahead (nat_lt s) a ps xs) (is_lock_ahead f b (ps ++ s ∷ []) xs) (nat_lt p x) (locks_popped a b ps xs) h

-- ---- a row of who is visited
pub call_here : (f : ℕ → Bool) (ps : List ℕ) (n : ℕ) → is_call_ahead f ps ps n ≡ f n
call_here f [] n = refl
call_here f (p ∷ ps) n = if_same p (is_call_ahead f ps ps n) (nat_lt p p) ∙ call_here f ps n

pub call_above : (f : ℕ → Bool) (ps : List ℕ) (s n : ℕ) → is_call_ahead f (ps ++ s ∷ []) ps n ≡ nat_lt s n
call_above f [] s n = refl
call_above f (p ∷ ps) s n = if_same p (is_call_ahead f (ps ++ s ∷ []) ps n) (nat_lt p p) ∙ call_above f ps s n

pub lock_here : (f : ℕ → Bool) (here : Bool) (ps : List ℕ) → is_lock_ahead f here ps ps ≡ here
lock_here f here [] = refl
lock_here f here (p ∷ ps) = if_same p (is_lock_ahead f here ps ps) (nat_lt p p) ∙ lock_here f here ps

-- ---- the steps to who is visited
behind_all : (ps xs : List ℕ) → behind ps (ps ++ xs) ≡ Some xs
behind_all [] xs = refl
behind_all (p ∷ ps) xs = if_same p (behind ps (ps ++ xs)) None ∙ behind_all ps xs

leads : (m : Rows) (p : Member) (cs : List Called) → IsCallPath m p cs → ((member_at p cs).0.ticket ≡ p.0.ticket) × ((member_at p cs).0.hops ≡ p.0.hops ++ steps_of cs)
leads m p [] path = (refl, sym (append-nil p.0.hops))
leads m p (c ∷ cs) path =
    let same : callee_id p.0 c.step ≡ child_of p.0 c.step = ap (λ b. if b then child_of p.0 c.step else p.0) path.0.0 in
    let l = leads m (callee_of p c) cs path.1 in
    (l.0 ∙ ap (λ (i : IntentId). i.ticket) same, l.1 ∙ ap (λ (i : IntentId). i.hops ++ steps_of cs) same ∙ append_assoc p.0.hops (c.step ∷ []) (steps_of cs))

pub steps_here : (m : Rows) (t : TxId) (cs : List Called) → IsCallPath m (t.intent, t.func) cs → steps_to t (visited_by t cs).0 ≡ Some (steps_of cs)
steps_here m t cs path =
    let i = (visited_by t cs).0 in
    let l = leads m (t.intent, t.func) cs path in
    ap (λ b. if b then behind t.intent.hops i.hops else None) (eq-eqb t.intent.ticket i.ticket (sym l.0)) ∙ ap (behind t.intent.hops) l.1 ∙ behind_all t.intent.hops (steps_of cs)

pub steps_more : (cs : List Called) (c : Called) → steps_of (cs ++ c ∷ []) ≡ steps_of cs ++ c.step ∷ []
steps_more [] c = refl
steps_more (d ∷ ds) c = ap (λ ps. d.step ∷ ps) (steps_more ds c)
