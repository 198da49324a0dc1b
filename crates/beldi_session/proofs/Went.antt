-- Actions that were done, one part after another.
use Rattle.beldi_session.proofs.Names.{Action, Core, Deployment, Err, Follows, IsStep, Leaves, LeftBy, List, Ok, OnOk, Response, Result, State, Steps, Stop, Unchanged, Went, WentBy, [], ap, append-nil, append_assoc, arith, flat_map-append, refl, response_text, responses_text, subst, sym, ℕ, ◌++◌, ◌∙◌, ◌∷◌, ◌≡◌}

abbrev pub Step : Type 1
Step = State → State → Response → Type 0

-- what a call answers that did all, or stopped
abbrev pub fine : {X : Type 0} → X → Result X Stop
fine x = Ok x

abbrev pub broken : (X : Type 0) → Stop → Result X Stop
broken X e = Err e

pub unchanged : (s : State) → Unchanged s s
unchanged s = record { core = refl; rows = refl; later = omega arith }

-- ---- what follows, with more to do after it
follows_before : (bs actions : List Action) (c z : Core) (y : Response) (left : List Action) → Follows actions c z y left → Follows (actions ++ bs) c z y (left ++ bs)
follows_before bs [] c z y left h = absurd h
follows_before bs (a ∷ more) c z y left h = (h.0, h.1, ap (λ k. k ++ bs) h.2 ∙ append_assoc h.0 more bs)

pub steps_before : (P : Step) (bs : List Action) (ys : List Response) (actions more : List Action) (s t : State) → Steps P ys actions more s t → Steps P ys (actions ++ bs) (more ++ bs) s t
steps_before P bs [] actions more s t x = (x.0, ap (λ k. k ++ bs) x.1)
steps_before P bs (y ∷ ys) actions more s t x = (x.0, x.1 ++ bs, x.2, follows_before bs actions s.core x.0.core y x.1 x.3, steps_before P bs ys x.1 more x.0 t x.4)

pub steps_then : (P : Step) (xs ys : List Response) (fs gs hs : List Action) (s t u : State) → Steps P xs fs gs s t → Steps P ys gs hs t u → Steps P (xs ++ ys) fs hs s u
steps_then P [] ys fs gs hs s t u x y = subst (λ k. Steps P ys k hs s u) (sym x.1) (subst (λ z. Steps P ys gs hs z u) x.0 y)
steps_then P (r ∷ xs) ys fs gs hs s t u x y = (x.0, x.1, x.2, x.3, steps_then P xs ys x.1 gs hs x.0 t u x.4 y)

pub went_nothing : (P : Step) (d : Deployment) (fs : List Action) (s : State) (p : List ℕ) → Went P d fs fs s s p [] p
went_nothing P d fs s p = record { responses = []; steps = (refl, refl); text = sym (append-nil p) }

pub went_before : {P : Step} {d : Deployment} {fs more : List Action} {s t : State} {p w q : List ℕ} (bs : List Action) → Went P d fs more s t p w q → Went P d (fs ++ bs) (more ++ bs) s t p w q
went_before {P} {d} {fs} {more} {s} {t} bs x = record { responses = x.responses; steps = steps_before P bs x.responses fs more s t x.steps; text = x.text }

pub went_then : (P : Step) (d : Deployment) (fs gs hs : List Action) (s t u : State) (p w q v rest : List ℕ) → Went P d fs gs s t p w q → Went P d gs hs t u q v rest → Went P d fs hs s u p (w ++ v) rest
went_then P d fs gs hs s t u p w q v rest x y =
    let xt = responses_text d x.responses in
    let yt = responses_text d y.responses in
    record {
      responses = x.responses ++ y.responses;
      steps = steps_then P x.responses y.responses fs gs hs s t u x.steps y.steps;
      text = append_assoc w v rest ∙ ap (λ z. w ++ z) y.text ∙ sym (append_assoc w q yt) ∙ ap (λ z. z ++ yt) x.text ∙ append_assoc p xt yt ∙ ap (λ z. p ++ z) (sym (flat_map-append (response_text d) x.responses y.responses));
    }

-- ---- by what a call answers
module _ (d : Deployment) (room : ℕ) where
  pub by_then : {X Y : Type 0} (fs gs hs : List Action) (s t u : State) (p w q v k : List ℕ) (x : X) (r : Result Y Stop) → WentBy d room fs gs s t p w q (fine x) → WentBy d room gs hs t u q v k r → WentBy d room fs hs s u p (w ++ v) k r
  by_then fs gs hs s t u p w q v k x (Ok y) a b = went_then (IsStep d room) d fs gs hs s t u p w q v k a b
  by_then fs gs hs s t u p w q v k x (Err e) a b = (b.0, b.1, went_then (IsStep d room) d fs gs b.0 s t u p w q v b.1 a b.2)

  -- with more to do after it
  pub by_before : {X : Type 0} (fs left bs : List Action) (s t : State) (p w q : List ℕ) (r : Result X Stop) → WentBy d room fs left s t p w q r → WentBy d room (fs ++ bs) (left ++ bs) s t p w q r
  by_before fs left bs s t p w q (Ok x) a = went_before bs a
  by_before fs left bs s t p w q (Err e) a = (a.0 ++ bs, a.1, went_before bs a.2)

  -- what waits was written, or a front of it
  pub by_flush : {X : Type 0} (s t : State) (p w q : List ℕ) (r : Result X Stop) → t ≡ s → LeftBy p w q r → WentBy d room [] [] s t p w q r
  by_flush s t p w q (Ok x) same h = record { responses = []; steps = (same, refl); text = h ∙ sym (append-nil p) }
  by_flush s t p w q (Err e) same h = ([], h.0, record { responses = []; steps = (same, refl); text = h.1 ∙ sym (append-nil p) })

  -- one response was made
  one : (a : Action) (front : List Action) (y : Response) (s t : State) (p : List ℕ) → Leaves a s.core t.core y front → IsStep d room s t y → Went (IsStep d room) d (a ∷ []) front s t p [] (p ++ response_text d y)
  one a front y s t p is o = record { responses = y ∷ []; steps = (t, front, o, (front, is, sym (append-nil front)), (refl, refl)); text = ap (λ z. p ++ z) (sym (append-nil (response_text d y))) }

  pub by_one : {X : Type 0} (a : Action) (front left : List Action) (y : Response) (s t : State) (p q : List ℕ) (r : Result X Stop) → Leaves a s.core t.core y front → IsStep d room s t y → OnOk r ((left ≡ front) × (q ≡ p ++ response_text d y)) → WentBy d room (a ∷ []) left s t p [] q r
  by_one a front left y s t p q (Ok x) is o h = subst (λ z. Went (IsStep d room) d (a ∷ []) z s t p [] q) (sym h.0) (subst (λ z. Went (IsStep d room) d (a ∷ []) front s t p [] z) (sym h.1) (one a front y s t p is o))
  by_one a front left y s t p q (Err e) is o h = (front, p ++ response_text d y, one a front y s t p is o)

  -- none was
  pub by_stop : (X : Type 0) (fs left : List Action) (s : State) (p q : List ℕ) (e : Stop) → WentBy d room fs left s s p [] q (broken X e)
  by_stop X fs left s p q e = (fs, p, went_nothing (IsStep d room) d fs s p)
