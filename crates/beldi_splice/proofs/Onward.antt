-- What stays so of a row that log collectors lead past.
use Rattle.std.proofs.lemmas.{Bool.eqb-false, Option.none-some}
use Rattle.std.proofs.Common.{◌≡◌, ◌⊎◌, inl, inr, ℕ, zero, suc, ◌<◌, ◌≤◌, Bool, true, List, [], ◌∷◌, is_some, Option, Some, None, refl, ap, sym, ◌∙◌, subst, arith}
use Rattle.beldi_value.specs.declared.id.IntentId.{IntentId}
use Rattle.beldi_row.specs.declared.row.{Cell.Cell, Row.Row}
use Rattle.beldi_chain.specs.Chain.{Chain}
use Rattle.beldi_links.specs.Links.{Frozen, IsLinked, LeadsTo, Linked, SetTo, Steps}
use Rattle.beldi_links.proofs.{Meets.rows_below, Ways.few, Ways.kept, Ways.one_cell, Ways.one_step, Ways.same_or, Ways.then_way}
use Rattle.beldi_splice.specs.Splice.{IsMoored, IsThreaded, LeadsPast, LessChain, LessRow}
use Rattle.beldi_splice.specs.Onward.{ActsLeadOn, DropsLeadOn, HasFollower, IsLeftOf, MarksLeadOn, Onward, RowStays, SkipsLeadOn, WaysBegin, WaysEnd, WaysGoOn}
use Rattle.beldi_splice.proofs.{Alike.before_last, Alike.has_next, Both.there_linked, Leading.LeadsAs, Leading.leads, Leading.next_as, Leading.unset, Pruned.around, Pruned.skip_back, Pruned.unled_then}

-- ---- who follows the way
-- a row that is there leads where its next does
after_first : (g : Chain) (at k n : ℕ) (c : Cell) → g at ≡ Some (Row.Cell c) → c.next ≡ Some k → (at ≡ n → ⊥) → (ks : List ℕ) → Steps g at ks n → LeadsTo g k n
after_first g at k n c is to apart [] path = absurd (apart path)
after_first g at k n c is to apart (j ∷ js) (d, there, next, rise, path) =
    let cell : c ≡ d = one_cell c d (sym is ∙ there) in
    let one : Some k ≡ Some j = sym to ∙ ap (λ (z : Cell). z.next) cell ∙ next in
    (js, subst (λ z. Steps g z js n) (number j k (sym one)) path)
  where
    number : (a b : ℕ) → ◌≡◌ {A = Option ℕ} (Some a) (Some b) → a ≡ b
    number a b e = cc

not_absent : (g : Chain) (at n : ℕ) (c : Cell) → g at ≡ Some (Row.Cell c) → g n ≡ None → at ≡ n → ⊥
not_absent g at n c is none same = let clash = sym is ∙ ap g same ∙ none in cc

pub ways_begin : WaysBegin
ways_begin g x led = inl led

pub ways_go_on : WaysGoOn
ways_go_on g x at k c is to low on led = elim (on led) [
  | inl path ↦ inl (after_first g at k x c is to (λ same. omega (arith, same, low)) path.0 path.1)
  | inr off ↦ inr (record { to = off.to; below = off.below; path = after_first g at k off.to c is to (not_absent g at off.to c is off.none) off.path.0 off.path.1; none = off.none })
]

pub ways_end : WaysEnd
ways_end g x at c is past low on led = elim (on led) [
  | inl path ↦ no_way x (λ same. omega (arith, same, low)) (omega arith) path.0 path.1
  | inr off ↦ no_way off.to (not_absent g at off.to c is off.none) (let below = off.below in omega (arith, below)) off.path.0 off.path.1
]
  where
    no_way : (n : ℕ) → (at ≡ n → ⊥) → n ≤ x → (ks : List ℕ) → Steps g at ks n → ⊥
    no_way n apart most [] path = apart path
    no_way n apart most (j ∷ js) (d, there, next, rise, path) =
        let high = past j (ap (λ (z : Cell). z.next) (one_cell c d (sym is ∙ there)) ∙ next) in
        let far = few g j js n path in
        omega (arith, high, far, most)

-- ---- a row that stays as it is
same_left : (c : Cell) → is_some c.next ≡ true → IsLeftOf c c
same_left c next = record { log = refl; next = next; marked = λ is. (is, refl) }

same_row : (r : Option Row) → HasFollower r → RowStays r r
same_row None followed = refl
same_row (Some (Row.Cell c)) followed = same_left c followed
same_row (Some r) followed = absurd followed

-- .. and so do rows of which none changed
pub same_leads_on : (g : Chain) (x : ℕ) → HasFollower (g x) → Onward g g x
same_leads_on g x followed = record { row = same_row (g x) followed; back = λ led. led; ways = λ at on. on }

-- a row becomes another one, where it is that which is set
row_or : (g h : Chain) (r : ℕ) (v : Option Row) → SetTo g r v h → (x : ℕ) → HasFollower (g x) → (x ≡ r → RowStays (g r) v) → RowStays (g x) (h x)
row_or g h r v s x followed here = same_or x r
    (λ at. subst (λ z. RowStays (g z) (h z)) (sym at) (subst (RowStays (g r)) (sym s.here) (here at)))
    (λ off. subst (RowStays (g x)) (sym (s.others x off)) (same_row (g x) followed))

-- what is absent is not the row that is set
still_absent : (g h : Chain) (r : ℕ) (c : Cell) (v : Option Row) → g r ≡ Some (Row.Cell c) → SetTo g r v h → (n : ℕ) → g n ≡ None → h n ≡ None
still_absent g h r c v is s n none = same_or {P = h n ≡ None} n r (λ at. absurd (not_absent g r n c is none (sym at))) (λ off. s.others n off ∙ none)

-- ---- acts of runs
module _ (gone : IntentId → Bool) (g f h : Chain) (linked : IsLinked f) (less : LessChain gone g f) (frozen : Frozen g h) (stay : (n : ℕ) → g n ≡ None → is_some (f n) ≡ true → h n ≡ None) (x : ℕ) (row : Row) (there : f x ≡ Some row) (followed : HasFollower (g x)) where
  l : Linked f
  l = there_linked f linked x row there

  -- the kept row has a next, so it is before the last
  some_next : (k : Cell) → f x ≡ Some (Row.Cell k) → (o : Option ℕ) → k.next ≡ o → is_some o ≡ true → x < l.last
  some_next k is None to some = cc
  some_next k is (Some a) to some = before_last f l x k a is to

  led_past : (n : ℕ) (y o : Option ℕ) → is_some y ≡ true → LeadsPast gone f n y o → is_some o ≡ true
  led_past n (Some y) (Some k) some past = refl
  led_past n (Some y) None some past = absurd past
  led_past n None o some past = cc

  early : x < l.last
  early = by_rows (g x) (f x) refl followed (less x) (ap is_some there)
    where
      by_rows : (r s : Option Row) → f x ≡ s → HasFollower r → LessRow gone f x r s → is_some s ≡ true → x < l.last
      by_rows None None is follows p some = cc
      by_rows None (Some s) is follows p some = some_next p.cell (is ∙ p.there) p.cell.next refl p.followed
      by_rows (Some (Row.Cell c)) (Some (Row.Cell k)) is follows of some = some_next k is k.next refl (led_past x c.next k.next follows of.next)
      by_rows (Some (Row.Cell c)) s is follows of some = absurd of
      by_rows (Some r) s is follows of some = absurd follows

  -- a row below it that leads on did so
  was_so : (n : ℕ) → n < x → (d : Cell) → h n ≡ Some (Row.Cell d) → g n ≡ Some (Row.Cell d)
  was_so n low d is = by_row (g n) refl (subst (LessRow gone f n (g n)) k.2 (less n))
    where
      k : (k : Cell) × (a : ℕ) × (f n ≡ Some (Row.Cell k)) × (k.next ≡ Some a)
      k = has_next f l n (let e = early in omega (arith, low, e))

      by_next : (c : Cell) (o : Option ℕ) → g n ≡ Some (Row.Cell c) → c.next ≡ o → LeadsPast gone f n o (Some k.1) → g n ≡ Some (Row.Cell d)
      by_next c None at to past = absurd past
      by_next c (Some b) at to past = at ∙ sym (frozen n c b at to) ∙ is

      by_row : (r : Option Row) → g n ≡ r → LessRow gone f n r (Some (Row.Cell k.0)) → g n ≡ Some (Row.Cell d)
      by_row None at less = let clash = sym is ∙ stay n at (ap is_some k.2) in cc
      by_row (Some (Row.Cell c)) at of = by_next c c.next at refl (subst (LeadsPast gone f n c.next) k.3 of.next)
      by_row (Some r) at less = absurd less

  back_steps : (a : ℕ) (ks : List ℕ) (n : ℕ) → n ≤ x → Steps h a ks n → Steps g a ks n
  back_steps a [] n most path = path
  back_steps a (k ∷ ks) n most (d, is, next, rise, path) = let far = few h k ks n path in (d, was_so a (omega (arith, far, rise, most)) d is, next, rise, back_steps k ks n most path)

  back : LeadsTo h 0 x → LeadsTo g 0 x
  back led = (led.0, back_steps 0 led.0 x (omega arith) led.1)

  forth : (a n : ℕ) → LeadsTo g a n → LeadsTo h a n
  forth a n led = (led.0, kept g h frozen a led.0 n led.1)

  stays : (r : Option Row) → g x ≡ r → HasFollower r → RowStays r (h x)
  stays None at follows = stay x at (ap is_some there)
  stays (Some (Row.Cell c)) at follows = by_next c.next refl follows
    where
      by_next : (o : Option ℕ) → c.next ≡ o → is_some o ≡ true → RowStays (Some (Row.Cell c)) (h x)
      by_next None to some = cc
      by_next (Some b) to some = subst (RowStays (Some (Row.Cell c))) (sym (frozen x c b at to)) (same_left c follows)
  stays (Some r) at follows = absurd follows

  leads_on : Onward g h x
  leads_on = record {
    row = stays (g x) refl followed;
    back = back;
    ways = λ at on led. elim (on (back led)) [
      | inl path ↦ inl (forth at x path)
      | inr off ↦ inr (record { to = off.to; below = off.below; path = forth at off.to off.path; none = stay off.to off.none (rows_below f l x off.to row there (let low = off.below in omega (arith, low))) })
    ];
  }

pub acts_lead_on : ActsLeadOn
acts_lead_on gone g f h linked less frozen stay x there followed = by_row (f x) refl there
  where
    by_row : (r : Option Row) → f x ≡ r → is_some r ≡ true → Onward g h x
    by_row (Some row) at some = leads_on gone g f h linked less frozen stay x row at followed
    by_row None at some = cc

-- ---- a row that keeps its next
pub marks_lead_on : MarksLeadOn
marks_lead_on g h r c d is s keeps x followed = record {
  row = row_or g h r (Some (Row.Cell d)) s x followed (λ at. subst (λ z. RowStays z (Some (Row.Cell d))) (sym is) (record {
    log = keeps.log;
    next = ap is_some keeps.next ∙ subst HasFollower (ap g at ∙ is) followed;
    marked = λ m. (keeps.marked m, keeps.next);
  }));
  back = leads h g back 0 x;
  ways = λ at on led. elim (on (leads h g back 0 x led)) [
    | inl path ↦ inl (leads g h forth at x path)
    | inr off ↦ inr (record { to = off.to; below = off.below; path = leads g h forth at off.to off.path; none = still_absent g h r c (Some (Row.Cell d)) is s off.to off.none })
  ];
}
  where
    forth : LeadsAs g h
    forth = next_as g h r c d s is keeps.next

    back : LeadsAs h g
    back = next_as h g r d c (subst (λ z. SetTo h r z g) is (unset g h r (Some (Row.Cell d)) s)) s.here (sym keeps.next)

-- ---- a row that leads past another
pub skips_lead_on : SkipsLeadOn
skips_lead_on g h r z y c d o s threaded x followed = record {
  row = row_or g h r v s x followed (λ at. subst (λ q. RowStays q v) (sym o.here) (record { log = refl; next = refl; marked = λ m. let clash = sym m ∙ o.unmarked in cc }));
  back = back;
  ways = λ at on led. elim (on (back led)) [
    | inl path ↦ inl (around g h r z y c d o s at path.0 x (λ same. unled_then g h r z y c d o s (threaded.leads r c o.here (ap is_some o.next) o.unmarked) (subst (LeadsTo h 0) same led)) path.1)
    | inr off ↦ inr (record { to = off.to; below = off.below; path = around g h r z y c d o s at off.path.0 off.to (λ same. not_absent g z off.to d o.there off.none (sym same)) off.path.1; none = still_absent g h r c v o.here s off.to off.none })
  ];
}
  where
    v : Option Row
    v = Some (Row.Cell (record c { next = Some y }))

    back : LeadsTo h 0 x → LeadsTo g 0 x
    back = leads h g (skip_back g h r z y c d o s) 0 x

-- ---- a row that goes
module _ (g h : Chain) (z since : ℕ) (c : Cell) (is : g z ≡ Some (Row.Cell c)) (adrift : c.dangled ≡ Some since) (s : SetTo g z None h) (threaded : IsThreaded g) where
  unled : LeadsTo g 0 z → ⊥
  unled led = none-some since (sym (subst IsMoored is (threaded.there z led)) ∙ adrift)

  went_back : LeadsAs h g
  went_back n d k there next rise = same_or n z
      (λ at. let clash = sym s.here ∙ ap h (sym at) ∙ there in cc)
      (λ off. one_step g n d k (sym (s.others n off) ∙ there) next rise)

  -- a way goes on, or ends where it was
  cut : (a : ℕ) (ks : List ℕ) (n : ℕ) → Steps g a ks n → LeadsTo h a n ⊎ ((z ≤ n) × LeadsTo h a z)
  cut a [] n path = inl ([], path)
  cut a (k ∷ ks) n (d, there, next, rise, path) = same_or a z
      (λ at. inr (let far = few g k ks n path in omega (arith, far, rise, at), ([], at)))
      (λ off. let step = one_step h a d k (s.others a off ∙ there) next rise in elim (cut k ks n path) [
        | inl w ↦ inl (then_way h a k n step w)
        | inr w ↦ inr (w.0, then_way h a k z step w.1)
      ])

  module _ (x : ℕ) (followed : HasFollower (g x)) where
    came_back : LeadsTo h 0 x → LeadsTo g 0 x
    came_back = leads h g went_back 0 x

    low : LeadsTo h 0 x → z ≤ x → z < x
    low led most = same_or z x
        (λ at. absurd (unled (subst (LeadsTo g 0) (sym at) (came_back led))))
        (λ off. let apart = eqb-false z x off in strictly z x most apart)
      where
        strictly : (a b : ℕ) → a ≤ b → (a ≡ b → ⊥) → a < b
        strictly zero zero most apart = absurd (apart refl)
        strictly zero (suc b) most apart = omega arith
        strictly (suc a) zero most apart = absurd (omega (arith, most))
        strictly (suc a) (suc b) most apart = let h = strictly a b (omega (arith, most)) (λ e. apart (ap suc e)) in omega (arith, h)

    absent : (n : ℕ) → g n ≡ None → h n ≡ None
    absent = still_absent g h z c None is s

    drop_leads_on : Onward g h x
    drop_leads_on = record {
      row = row_or g h z None s x followed (λ at. subst (λ q. RowStays q None) (sym is) tt);
      back = came_back;
      ways = λ at on led. elim (on (came_back led)) [
        | inl path ↦ elim (cut at path.0 x path.1) [
          | inl w ↦ inl w
          | inr w ↦ inr (record { to = z; below = low led w.0; path = w.1; none = s.here })
        ]
        | inr off ↦ elim (cut at off.path.0 off.to off.path.1) [
          | inl w ↦ inr (record { to = off.to; below = off.below; path = w; none = absent off.to off.none })
          | inr w ↦ inr (record { to = z; below = (let one = w.0 in let below = off.below in omega (arith, one, below)); path = w.1; none = s.here })
        ]
      ];
    }

pub drops_lead_on : DropsLeadOn
drops_lead_on g h z since c is adrift s threaded x followed = drop_leads_on g h z since c is adrift s threaded x followed
