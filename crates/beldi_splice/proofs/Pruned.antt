-- What log collectors do to the rows of an item.
use Rattle.std.proofs.lemmas.{Bool.eqb-false, Option.none-some}
use Rattle.std.proofs.Common.{◌≡◌, inl, inr, ℕ, nat_lt, ltb-true, ltb-false, ◌+◌, ◌<◌, ◌≤◌, Bool, true, false, List, [], ◌∷◌, is_some, Option, Some, None, refl, ap, sym, ◌∙◌, subst, arith}
use Rattle.beldi_value.specs.declared.id.IntentId.{IntentId}
use Rattle.beldi_row.specs.{declared.row.Cell.Cell, declared.row.Row.Row}
use Rattle.beldi_chain.specs.Chain.{Chain, next_of}
use Rattle.beldi_links.specs.Links.{LeadsTo, SetTo, Steps}
use Rattle.beldi_links.proofs.Meets.{between}
use Rattle.beldi_links.proofs.Ways.{few, none_next, one_cell, one_step, same_or, then_way}
use Rattle.beldi_splice.specs.Splice.{IsCellOf, IsMoored, IsPassable, IsSafeFrom, IsSafeTo, IsThreaded, LeadsPast, LessChain, LessRow, MayFollow}
use Rattle.beldi_splice.specs.SpliceLaws.{DanglesKeep, DropsKeep, Keeps, LeadsOver, MarksKeep, SkippedAreUnled, SkipsKeep}
use Rattle.beldi_splice.proofs.{Alike.strictly, Both.at_other, Leading.LeadsAs, Leading.leads, Leading.next_as, Leading.safe_as, Leading.unset}

-- ---- the row of a kept cell
pub record IsOf (gone : IntentId → Bool) (f : Chain) (n : ℕ) (c : Cell) : Type 0 where
  pub kept : Cell
  pub there : f n ≡ Some (Row.Cell kept)
  pub less : IsCellOf gone f n c kept

pub is_of : (gone : IntentId → Bool) (g f : Chain) → LessChain gone g f → (n : ℕ) (c : Cell) → g n ≡ Some (Row.Cell c) → IsOf gone f n c
is_of gone g f less n c is = by_row (f n) refl (subst (λ z. LessRow gone f n z (f n)) is (less n))
  where
    by_row : (r : Option Row) → f n ≡ r → LessRow gone f n (Some (Row.Cell c)) r → IsOf gone f n c
    by_row (Some (Row.Cell k)) there h = record { kept = k; there = there; less = h }
    by_row None there h = absurd h
    by_row (Some r) there h = absurd h

-- a row that is set, of the kept one
set_less : (gone : IntentId → Bool) (g f h : Chain) (r : ℕ) (d : Cell) → SetTo g r (Some (Row.Cell d)) h → (k : Cell) → f r ≡ Some (Row.Cell k) → IsCellOf gone f r d k → LessChain gone g f → LessChain gone h f
set_less gone g f h r d s k there of less n = same_or n r
    (λ at. subst (λ z. LessRow gone f z (h z) (f z)) (sym at) (subst (λ z. LessRow gone f r z (f r)) (sym s.here) (subst (LessRow gone f r (Some (Row.Cell d))) (sym there) of)))
    (λ off. subst (λ z. LessRow gone f n z (f n)) (sym (s.others n off)) (less n))

-- ---- a row that keeps its next
module _ (g h : Chain) (r : ℕ) (c d : Cell) (is : g r ≡ Some (Row.Cell c)) (s : SetTo g r (Some (Row.Cell d)) h) (same : d.next ≡ c.next) where
  forth : LeadsAs g h
  forth = next_as g h r c d s is same

  back : LeadsAs h g
  back = next_as h g r d c (subst (λ z. SetTo h r z g) is (unset g h r (Some (Row.Cell d)) s)) s.here (sym same)

  -- .. and is marked: what is not led to need not be moored
  threads : d.marked ≡ true → (LeadsTo g 0 r → d.dangled ≡ None) → IsThreaded g → IsThreaded h
  threads marked moored threaded = record {
    there = λ n path. let was = leads h g back 0 n path in at_other IsMoored g h r (Some (Row.Cell d)) s n (λ at. moored (subst (LeadsTo g 0) at was)) (threaded.there n was);
    leads = λ n e there next unmarked. same_or n r
        (λ at. let clash = sym marked ∙ ap (λ (z : Cell). z.marked) (one_cell d e (sym s.here ∙ ap h (sym at) ∙ there)) ∙ unmarked in cc)
        (λ off. leads g h forth 0 n (threaded.leads n e (sym (s.others n off) ∙ there) next unmarked));
  }

  stays_safe : (life deadline a : ℕ) → (IsSafeTo life deadline (Some (Row.Cell c)) → IsSafeTo life deadline (Some (Row.Cell d))) → IsSafeFrom life deadline g a → IsSafeFrom life deadline h a
  stays_safe life deadline a here safe = safe_as g h life deadline a (λ n path. leads h g back a n path)
      (λ n path was. safe_other life deadline here n was) safe
    where
      safe_other : (life deadline : ℕ) → (IsSafeTo life deadline (Some (Row.Cell c)) → IsSafeTo life deadline (Some (Row.Cell d))) → (n : ℕ) → IsSafeTo life deadline (g n) → IsSafeTo life deadline (h n)
      safe_other life deadline here n was = at_other (IsSafeTo life deadline) g h r (Some (Row.Cell d)) s n (λ at. here (subst (IsSafeTo life deadline) (ap g at ∙ is) was)) was

  stays_followed : (life deadline a : ℕ) → (IsSafeTo life deadline (Some (Row.Cell c)) → IsSafeTo life deadline (Some (Row.Cell d))) → MayFollow life deadline g a → MayFollow life deadline h a
  stays_followed life deadline a here (inl none) = inl (same_or {P = next_of (h a) ≡ None} a r (λ at. ap next_of (ap h at ∙ s.here) ∙ same ∙ ap next_of (sym is ∙ ap g (sym at)) ∙ none) (λ off. ap next_of (s.others a off) ∙ none))
  stays_followed life deadline a here (inr safe) = inr (at_other (IsSafeTo life deadline) g h r (Some (Row.Cell d)) s (a + 1) (λ at. here (subst (IsSafeTo life deadline) (ap g at ∙ is) safe)) safe)

pub marks_keep : MarksKeep
marks_keep gone g f h r c is pass s less threaded =
    let k = is_of gone g f less r c is in
    let d : Cell = record c { marked = true } in
    record {
      less = set_less gone g f h r d s k.kept k.there (record { value = k.less.value; owner = k.less.owner; log = k.less.log; next = k.less.next; marked = λ m. subst (IsPassable gone r) k.there pass; adrift = λ some. refl }) less;
      threads = λ first. threads g h r c d is s refl refl (λ led. subst IsMoored is (threaded.there r led)) threaded;
      safe = λ life deadline a safe. stays_safe g h r c d is s refl life deadline a (λ was. was) safe;
      follows = λ life deadline a may. stays_followed g h r c d is s refl life deadline a (λ was. was) may;
    }

pub dangles_keep : DanglesKeep
dangles_keep gone g f h x now c is marked unled s less threaded =
    let k = is_of gone g f less x c is in
    let d : Cell = record c { dangled = Some now } in (
      set_less gone g f h x d s k.kept k.there (record { value = k.less.value; owner = k.less.owner; log = k.less.log; next = k.less.next; marked = k.less.marked; adrift = λ some. marked }) less,
      threads g h x c d is s refl marked (λ led. absurd (unled led)) threaded,
      λ life deadline a near. (
        λ safe. stays_safe g h x c d is s refl life deadline a (λ was t at. let same : now ≡ t = same_moment now t at in omega (arith, near, same)) safe,
        λ may. stays_followed g h x c d is s refl life deadline a (λ was t at. let same : now ≡ t = same_moment now t at in omega (arith, near, same)) may,
      ),
    )
  where
    same_moment : (a b : ℕ) → ◌≡◌ {A = Option ℕ} (Some a) (Some b) → a ≡ b
    same_moment a b e = cc

-- ---- a row that goes
module _ (gone : IntentId → Bool) (g f h : Chain) (x since : ℕ) (c : Cell) (is : g x ≡ Some (Row.Cell c)) (adrift : c.dangled ≡ Some since) (s : SetTo g x None h) (less : LessChain gone g f) (threaded : IsThreaded g) where
  unled : LeadsTo g 0 x → ⊥
  unled led = none-some since (sym (subst IsMoored is (threaded.there x led)) ∙ adrift)

  went_back : LeadsAs h g
  went_back n d k there next rise = same_or n x
      (λ at. let clash = sym s.here ∙ ap h (sym at) ∙ there in cc)
      (λ off. one_step g n d k (sym (s.others n off) ∙ there) next rise)

  -- what the first row leads to it leads to still
  led_on : (a : ℕ) → LeadsTo g 0 a → (ks : List ℕ) (n : ℕ) → Steps g a ks n → LeadsTo h a n
  led_on a led [] n path = ([], path)
  led_on a led (k ∷ ks) n (d, there, next, rise, path) = same_or a x
      (λ at. absurd (unled (subst (LeadsTo g 0) at led)))
      (λ off. then_way h a k n (one_step h a d k (s.others a off ∙ there) next rise) (led_on k (then_way g 0 a k led (one_step g a d k there next rise)) ks n path))

  passable : IsPassable gone x (f x)
  passable = let k = is_of gone g f less x c is in subst (IsPassable gone x) (sym k.there) (k.less.marked (k.less.adrift (ap is_some adrift)))

  none_less : (r : Option Row) → IsPassable gone x r → LessRow gone f x None r
  none_less None p = tt
  none_less (Some r) p = p

  pub drop_less : LessChain gone h f
  drop_less n = same_or n x
      (λ at. subst (λ z. LessRow gone f z (h z) (f z)) (sym at) (subst (λ z. LessRow gone f x z (f x)) (sym s.here) (none_less (f x) passable)))
      (λ off. subst (λ z. LessRow gone f n z (f n)) (sym (s.others n off)) (less n))

  pub drop_threaded : IsThreaded h
  drop_threaded = record {
    there = λ n path. let was = leads h g went_back 0 n path in at_other IsMoored g h x None s n (λ at. absurd (unled (subst (LeadsTo g 0) at was))) (threaded.there n was);
    leads = λ n d there next unmarked. same_or n x
        (λ at. let clash = sym s.here ∙ ap h (sym at) ∙ there in cc)
        (λ off. let was = threaded.leads n d (sym (s.others n off) ∙ there) next unmarked in led_on 0 ([], refl) was.0 n was.1);
  }

  not_late : (life now deadline n : ℕ) → since + life < now → now ≤ deadline → IsSafeTo life deadline (g n) → IsSafeTo life deadline (h n)
  not_late life now deadline n old alive was = at_other (IsSafeTo life deadline) g h x None s n (λ at. let late = (subst (IsSafeTo life deadline) (ap g at ∙ is) was) since adrift in absurd (omega (arith, late, old, alive))) was

  followed_on : (life now deadline r : ℕ) → since + life < now → now ≤ deadline → MayFollow life deadline g r → MayFollow life deadline h r
  followed_on life now deadline r old alive (inl none) = inl (same_or {P = next_of (h r) ≡ None} r x (λ at. ap next_of (ap h at ∙ s.here)) (λ off. ap next_of (s.others r off) ∙ none))
  followed_on life now deadline r old alive (inr safe) = inr (not_late life now deadline (r + 1) old alive safe)

  pub drop_safe : (life now deadline r : ℕ) → since + life < now → now ≤ deadline → (IsSafeFrom life deadline g r → IsSafeFrom life deadline h r) × (MayFollow life deadline g r → MayFollow life deadline h r)
  drop_safe life now deadline r old alive = (λ safe. safe_as g h life deadline r (λ n path. leads h g went_back r n path) (λ n path. not_late life now deadline n old alive) safe, followed_on life now deadline r old alive)

pub drops_keep : DropsKeep
drops_keep gone g f h x since c is adrift s less threaded =
    (drop_less gone g f h x since c is adrift s less threaded, drop_threaded gone g f h x since c is adrift s less threaded, drop_safe gone g f h x since c is adrift s less threaded)

-- ---- a row that leads past another
module _ (g h : Chain) (r x y : ℕ) (c d : Cell) (o : LeadsOver g r x y c d) (s : SetTo g r (Some (Row.Cell (record c { next = Some y }))) h) where
  same_next : (e : Cell) (k : ℕ) → g r ≡ Some (Row.Cell e) → e.next ≡ Some k → k ≡ x
  same_next e k is to = let cell : e ≡ c = one_cell e c (sym is ∙ o.here) in let one : Some k ≡ Some x = sym to ∙ ap (λ (z : Cell). z.next) cell ∙ o.next in cc

  same_after : (e : Cell) (k : ℕ) → g x ≡ Some (Row.Cell e) → e.next ≡ Some k → k ≡ y
  same_after e k is to = let cell : e ≡ d = one_cell e d (sym is ∙ o.there) in let one : Some k ≡ Some y = sym to ∙ ap (λ (z : Cell). z.next) cell ∙ o.after in cc

  over : LeadsTo g r y
  over = then_way g r x y (one_step g r c x o.here o.next o.rises) (one_step g x d y o.there o.after o.further)

  step_then : LeadsTo h r y
  step_then = one_step h r (record c { next = Some y }) y s.here refl (let a = o.rises in let b = o.further in omega (arith, a, b))

  pub skip_back : LeadsAs h g
  skip_back n e k is to rise = same_or n r
      (λ at. let cell : e ≡ record c { next = Some y } = one_cell e (record c { next = Some y }) (sym is ∙ ap h at ∙ s.here) in
      let one : Some k ≡ Some y = sym to ∙ ap (λ (z : Cell). z.next) cell in
      subst (λ z. LeadsTo g z k) (sym at) (subst (LeadsTo g r) (sym (same_number k y one)) over))
      (λ off. one_step g n e k (sym (s.others n off) ∙ is) to rise)
    where
      same_number : (a b : ℕ) → ◌≡◌ {A = Option ℕ} (Some a) (Some b) → a ≡ b
      same_number a b e = cc

  -- rows before it lead as they did
  up_to : (a : ℕ) (ks : List ℕ) (n : ℕ) → n ≤ r → Steps g a ks n → LeadsTo h a n
  up_to a [] n most path = ([], path)
  up_to a (k ∷ ks) n most (e, is, to, rise, path) = let far = few g k ks n path in same_or a r
      (λ at. absurd (omega (arith, far, rise, most, at)))
      (λ off. then_way h a k n (one_step h a e k (s.others a off ∙ is) to rise) (up_to k ks n most path))

  -- .. and so does each way to another row than the one that is led past
  pub around : (a : ℕ) (ks : List ℕ) (n : ℕ) → (n ≡ x → ⊥) → Steps g a ks n → LeadsTo h a n
  around a [] n off path = ([], path)
  around a (k ∷ []) n off (e, is, to, rise, path) = same_or a r
      (λ at. absurd (off (sym path ∙ same_next e k (ap g (sym at) ∙ is) to)))
      (λ ne. then_way h a k n (one_step h a e k (s.others a ne ∙ is) to rise) ([], path))
  around a (k ∷ j ∷ js) n off (e, is, to, rise, (e2, is2, to2, rise2, path)) = same_or a r
      (λ at. let past : k ≡ x = same_next e k (ap g (sym at) ∙ is) to in
      let one : j ≡ y = same_after e2 j (ap g (sym past) ∙ is2) to2 in
      subst (λ z. LeadsTo h z n) (sym at) (then_way h r y n step_then (subst (λ z. LeadsTo h z n) one (around j js n off path))))
      (λ ne. then_way h a k n (one_step h a e k (s.others a ne ∙ is) to rise) (around k (j ∷ js) n off (e2, is2, to2, rise2, path)))

  no_way : (ks : List ℕ) → Steps h r ks x → ⊥
  no_way [] path = let w : r ≡ x = path in let rise = o.rises in omega (arith, w, rise)
  no_way (k ∷ ks) (e, is, to, rise, path) =
      let cell : e ≡ record c { next = Some y } = one_cell e (record c { next = Some y }) (sym is ∙ s.here) in
      let one : Some k ≡ Some y = sym to ∙ ap (λ (z : Cell). z.next) cell in
      let same : k ≡ y = cc in
      let far = few h k ks x path in
      let past = o.further in
      omega (arith, far, same, past)

  pub unled_then : LeadsTo g 0 r → LeadsTo h 0 x → ⊥
  unled_then led path = let here = up_to 0 led.0 r (omega arith) led.1 in let on = between h 0 here.0 r path.0 x here.1 path.1 o.rises in no_way on.0 on.1

  module _ (gone : IntentId → Bool) (f : Chain) (less : LessChain gone g f) (threaded : IsThreaded g) where
    past_x : IsPassable gone x (f x)
    past_x = let k = is_of gone g f less x d o.there in subst (IsPassable gone x) (sym k.there) (k.less.marked o.marked)

    -- all between are passed, as they were, and it is
    past_all : (a b : Option ℕ) → LeadsPast gone f r (Some x) a → LeadsPast gone f x (Some y) b → LeadsPast gone f r (Some y) a
    past_all (Some a) (Some b) h i = (
      let one = h.0 in let rise = o.further in omega (arith, one, rise),
      λ z low high. same_or z x
          (λ at. subst (λ q. IsPassable gone q (f q)) (sym at) past_x)
          (λ off. by_order z low high (eqb-false z x off) (nat_lt z x) refl),
    )
      where
        by_order : (z : ℕ) → r < z → z < y → (z ≡ x → ⊥) → (t : Bool) → nat_lt z x ≡ t → IsPassable gone z (f z)
        by_order z low high off true e = h.1 z low (ltb-true z x e)
        by_order z low high off false e = let most = ltb-false z x e in i.1 z (strictly x z most (λ at. off (sym at))) high
    past_all None b h i = absurd h
    past_all (Some a) None h i = absurd i

    skip_less : LessChain gone h f
    skip_less =
        let k = is_of gone g f less r c o.here in
        let m = is_of gone g f less x d o.there in
        set_less gone g f h r (record c { next = Some y }) s k.kept k.there
        (record {
          value = k.less.value;
          owner = k.less.owner;
          log = k.less.log;
          next = past_all k.kept.next m.kept.next (subst (λ z. LeadsPast gone f r z k.kept.next) o.next k.less.next) (subst (λ z. LeadsPast gone f x z m.kept.next) o.after m.less.next);
          marked = k.less.marked;
          adrift = k.less.adrift;
        }) less

    pub skip_keeps : Keeps gone g h f
    skip_keeps = record {
      less = skip_less;
      threads = λ first. record {
        there = λ n path. let was = leads h g skip_back 0 n path in at_other IsMoored g h r (Some (Row.Cell (record c { next = Some y }))) s n (λ at. subst IsMoored (ap g at ∙ o.here) (threaded.there n was)) (threaded.there n was);
        leads = λ n e is next unmarked. same_or n r
            (λ at. let led = threaded.leads r c o.here (ap is_some o.next) o.unmarked in subst (LeadsTo h 0) (sym at) (up_to 0 led.0 r (omega arith) led.1))
            (λ off. let was : g n ≡ Some (Row.Cell e) = sym (s.others n off) ∙ is in let led = threaded.leads n e was next unmarked in
            around 0 led.0 n (λ at. let clash = sym o.marked ∙ ap (λ (z : Cell). z.marked) (one_cell d e (sym o.there ∙ ap g (sym at) ∙ was)) ∙ unmarked in cc) led.1);
      };
      safe = λ life deadline a safe. safe_as g h life deadline a (λ n path. leads h g skip_back a n path)
          (λ n path was. safe_still life deadline n was) safe;
      follows = followed_still;
    }
      where
        safe_still : (life deadline n : ℕ) → IsSafeTo life deadline (g n) → IsSafeTo life deadline (h n)
        safe_still life deadline n was = at_other (IsSafeTo life deadline) g h r (Some (Row.Cell (record c { next = Some y }))) s n (λ at. subst (IsSafeTo life deadline) (ap g at ∙ o.here) was) was

        followed_still : (life deadline a : ℕ) → MayFollow life deadline g a → MayFollow life deadline h a
        followed_still life deadline a (inl none) = inl (same_or {P = next_of (h a) ≡ None} a r (λ at. absurd (none_next c x (ap next_of (sym o.here ∙ ap g (sym at)) ∙ none) o.next)) (λ off. ap next_of (s.others a off) ∙ none))
        followed_still life deadline a (inr safe) = inr (safe_still life deadline (a + 1) safe)

pub skips_keep : SkipsKeep
skips_keep gone g f h r x y c d o s less threaded = skip_keeps g h r x y c d o s gone f less threaded

pub skipped_are_unled : SkippedAreUnled
skipped_are_unled g h r x y c d o s led path = unled_then g h r x y c d o s led path
