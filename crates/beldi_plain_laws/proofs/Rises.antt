-- In a transaction the place of the one that can step rises at each move, in dictionary order: so nobody stands at one place twice.
use Rattle.beldi_plain_laws.proofs.Names.{Bool, Deployment, Going, OnCallStack, Instance, IntentId, Leads, List, Move, NotBefore, Place, PlacesComeOnce, Some, TxId, [], answer_of, answered, ap, append_assoc, arith, callee_of, calls_at, ended, eqb-true, false, id_cmp, inl, inr, is_eq, is_there, length, length-append, after_move, new_member, refl, stands_there, subst, suc, sym, true, ℕ, ◌&&◌, ◌++◌, ◌<◌, ◌==◌, ◌∙◌, ◌∷◌, ◌≡◌, ◌⊎◌}
use Rattle.beldi_plain_laws.proofs.{CallStack.last_of, CallStack.in_line, CallStack.line_moved, CallStack.returned, Maps.same_some, Maps.here, Maps.equal, Moved.MoveIs, Moved.answers, Moved.calls, Moved.returns, Moved.move_is, Moved.mover}
use Rattle.beldi_plain_laws.proofs.Names.map

-- ---- dictionary order
abbrev pub Before : List ℕ → List ℕ → Type 0
Before [] [] = ⊥
Before [] (y ∷ ys) = Unit {0}
Before (x ∷ xs) [] = ⊥
Before (x ∷ xs) (y ∷ ys) = (x < y) ⊎ ((x ≡ y) × Before xs ys)

not_itself : (xs : List ℕ) → Before xs xs → ⊥
not_itself [] h = h
not_itself (x ∷ xs) (inl lt) = omega (arith, lt)
not_itself (x ∷ xs) (inr h) = not_itself xs h.1

through : (xs ys zs : List ℕ) → Before xs ys → Before ys zs → Before xs zs
through [] [] zs g h = absurd g
through [] (y ∷ ys) [] g h = absurd h
through [] (y ∷ ys) (z ∷ zs) g h = tt
through (x ∷ xs) [] zs g h = absurd g
through (x ∷ xs) (y ∷ ys) [] g h = absurd h
through (x ∷ xs) (y ∷ ys) (z ∷ zs) (inl a) (inl b) = inl (omega (arith, a, b))
through (x ∷ xs) (y ∷ ys) (z ∷ zs) (inl a) (inr b) = let e = b.0 in inl (omega (arith, a, e))
through (x ∷ xs) (y ∷ ys) (z ∷ zs) (inr a) (inl b) = let e = a.0 in inl (omega (arith, e, b))
through (x ∷ xs) (y ∷ ys) (z ∷ zs) (inr a) (inr b) = inr (a.0 ∙ b.0, through xs ys zs a.1 b.1)

after_same : (xs ys zs : List ℕ) → Before ys zs → Before (xs ++ ys) (xs ++ zs)
after_same [] ys zs h = h
after_same (x ∷ xs) ys zs h = inr (refl, after_same xs ys zs h)

longer_after : (xs : List ℕ) (y : ℕ) (ys : List ℕ) → Before xs (xs ++ y ∷ ys)
longer_after [] y ys = tt
longer_after (x ∷ xs) y ys = inr (refl, longer_after xs y ys)

-- ---- the place of the one that can step, as a list
abbrev pub address : Going → Instance → List ℕ
address s q = s.active.hops ++ length q.answers ∷ []

module _ (d : Deployment) (t : TxId) where
  pub one_rises : (m : Move) (s r : Going) (q z : Instance) → OnCallStack d t s → after_move d t m s ≡ Some r → map.get s.state.made s.active ≡ Some q → map.get r.state.made r.active ≡ Some z → Before (address s q) (address r z)
  one_rises m s r q z line h made now = by_kind (move_is d t m s q r made h)
    where
      leads_to : (l : Going) → r ≡ l → map.get l.state.made l.active ≡ Some z
      leads_to l is = ap (λ (y : Going). map.get y.state.made y.active) (sym is) ∙ now

      more : (xs : List ℕ) (n k : ℕ) → k ≡ suc n → Before (xs ++ n ∷ []) (xs ++ k ∷ [])
      more xs n k e = after_same xs (n ∷ []) (k ∷ []) (inl (omega (arith, e)))

      by_kind : MoveIs d t m s r q → Before (address s q) (address r z)
      by_kind (answers a) =
          let own : answered q a.answer ≡ z = same_some (sym (here s.state.made s.active (answered q a.answer)) ∙ ap (λ (y : Going). map.get y.state.made y.active) (sym a.is) ∙ now) in
          let n = length-append q.answers (a.answer ∷ []) in
          subst (λ xs. Before (address s q) xs) (λ j. (sym a.is j).active.hops ++ length (own j).answers ∷ []) (more s.active.hops (length q.answers) (length (answered q a.answer).answers) (omega (arith, n)))
      by_kind (calls c) =
          let y = new_member t c.func c.args (calls_at s.active q true) in
          let own : y ≡ z = same_some (sym (here s.state.made (callee_of s.active q) y) ∙ ap (λ (x : Going). map.get x.state.made x.active) (sym c.is) ∙ now) in
          subst (λ xs. Before (address s q) xs) (λ j. (sym c.is j).active.hops ++ length (own j).answers ∷ []) (longer_after (address s q) 0 [])
      by_kind (returns e) =
          let w = returned d t m s r q made line e in
          let y = answered w.member.waiter (answer_of e.outcome) in
          let over = map.insert s.state.made s.active (ended q e.outcome) in
          let own : y ≡ z = same_some (sym (here over w.caller y) ∙ ap (λ (x : Going). map.get x.state.made x.active) (sym w.is) ∙ now) in
          let k = length w.member.waiter.answers in
          let n = length-append w.member.waiter.answers (answer_of e.outcome ∷ []) in
          let from : address s q ≡ w.caller.hops ++ k ∷ length q.answers ∷ [] = ap (λ (i : IntentId). i.hops ++ length q.answers ∷ []) w.member.is_callee ∙ append_assoc w.caller.hops (k ∷ []) (length q.answers ∷ []) in
          subst (λ xs. Before xs (address r z)) (sym from)
          (subst (λ xs. Before (w.caller.hops ++ k ∷ length q.answers ∷ []) xs) (λ j. (sym w.is j).active.hops ++ length (own j).answers ∷ [])
          (after_same w.caller.hops (k ∷ length q.answers ∷ []) (length y.answers ∷ []) (inl (omega (arith, n)))))

  -- who stands at a place has it as its address
  there_is : (place : Place) (s : Going) (q : Instance) → map.get s.state.made s.active ≡ Some q → is_there place s ≡ true → address s q ≡ place.intent.hops ++ place.step ∷ []
  there_is place s q made h = by_parts (is_eq (id_cmp place.intent s.active)) (place.step == length q.answers) refl refl (sym (ap (stands_there place s) made) ∙ h)
    where
      by_parts : (b c : Bool) → is_eq (id_cmp place.intent s.active) ≡ b → (place.step == length q.answers) ≡ c → (b && c) ≡ true → address s q ≡ place.intent.hops ++ place.step ∷ []
      by_parts true true own at g = let e = equal place.intent s.active own in let n = eqb-true place.step (length q.answers) at in λ j. (sym e j).hops ++ sym n j ∷ []
      by_parts true false own at g = cc
      by_parts false c own at g = cc

  all_rise : (m : Move) (ms : List Move) (s l : Going) (q z : Instance) → OnCallStack d t s → Leads d t s (m ∷ ms) l → map.get s.state.made s.active ≡ Some q → map.get l.state.made l.active ≡ Some z → Before (address s q) (address l z)
  all_rise m [] s l q z line leads made now = one_rises m s l q z line (leads.1 ∙ ap (λ y. Some y) leads.2) made now
  all_rise m (n ∷ ms) s l q z line leads made now =
      let r = leads.0 in
      let y = mover d t n r leads.2.0 leads.2.1 in
      through (address s q) (address r y.0) (address l z) (one_rises m s r q y.0 line leads.1 made y.1) (all_rise n ms r l y.0 z (line_moved d t m s r line leads.1) leads.2 y.1 now)

  not_yet : (place : Place) (m : Move) (ms : List Move) (s l : Going) (z : Instance) → OnCallStack d t s → Leads d t s (m ∷ ms) l → map.get l.state.made l.active ≡ Some z → is_there place l ≡ true → (b : Bool) → is_there place s ≡ b → b ≡ false
  not_yet place m ms s l z line leads now at false e = refl
  not_yet place m ms s l z line leads now at true e =
      let q = mover d t m s leads.0 leads.1 in
      absurd (not_itself (address s q.0) (subst (Before (address s q.0)) (there_is place l z now at ∙ sym (there_is place s q.0 q.1 e)) (all_rise m ms s l q.0 z line leads q.1 now)))

  once : (place : Place) (ms : List Move) (s l : Going) (z : Instance) → OnCallStack d t s → Leads d t s ms l → map.get l.state.made l.active ≡ Some z → is_there place l ≡ true → NotBefore d t place s ms
  once place [] s l z line leads now at = tt
  once place (m ∷ ms) s l z line leads now at = (
    not_yet place m ms s l z line leads now at (is_there place s) refl,
    λ r so. subst (λ y. NotBefore d t place y ms) (same_some (sym leads.1 ∙ so)) (once place ms leads.0 l z (line_moved d t m s leads.0 line leads.1) leads.2 now at),
  )

pub places_come_once : PlacesComeOnce
places_come_once d t place s ms l line leads at =
    let w = last_of d t l.state.made l.active (in_line d t s ms l line leads) in
    once d t place ms s l w.0 line leads w.1 at
