-- A row that is set in both, as it was alike and none followed it.
use Rattle.std.proofs.lemmas.{Bool.eqb-false}
use Rattle.std.proofs.Common.{◌≡◌, ◌⊎◌, inl, inr, ◌==◌, ℕ, ◌+◌, Bool, true, false, List, [], ◌∷◌, is_some, Option, Some, None, refl, ap, sym, ◌∙◌, subst, arith}
use Rattle.beldi_value.specs.declared.id.IntentId.{IntentId}
use Rattle.beldi_row.specs.{declared.row.Cell.Cell, declared.row.Row.Row}
use Rattle.beldi_chain.specs.Chain.{Chain, next_of}
use Rattle.beldi_links.specs.Links.{Fits, FitsAt, Frozen, IsLinked, LeadsTo, Linked, LinkedFrom, SetTo, Steps}
use Rattle.beldi_links.proofs.{Meets.rows_below, Ways.few, Ways.none_next, Ways.one_cell, Ways.one_step, Ways.same_or, Ways.then_way}
use Rattle.beldi_splice.specs.Splice.{IsMoored, IsPassable, IsSafeTo, IsThreaded, LeadsPast, LessChain, LessRow, MayFollow}
use Rattle.beldi_splice.specs.SpliceLaws.{ActsKeepRowsSo, Keeps}
use Rattle.beldi_splice.proofs.{Alike.before_last, Alike.fits_at, Alike.no_row, Alike.not_followed, Alike.to_last, Alike.unfollowed_alike, Leading.IsEnd, Leading.LeadsAs, Leading.ends_as, Leading.leads, Leading.moored_safe, Leading.safe_as, Leading.unset}

-- ---- a row that both have alike, and that none follows, or that none has, is set
pub record BothSet (g f h e : Chain) (r : ℕ) (u : Cell) : Type 0 where
  pub there : SetTo g r (Some (Row.Cell u)) h
  pub kept : SetTo f r (Some (Row.Cell u)) e
  pub unfollowed : (c : Cell) → f r ≡ Some (Row.Cell c) → c.next ≡ None
  pub alike : g r ≡ f r
  pub unmarked : u.marked ≡ false
  pub moored : u.dangled ≡ None

-- ---- a row that stays
pub at_other : (P : Option Row → Type 0) (g h : Chain) (r : ℕ) (v : Option Row) → SetTo g r v h → (n : ℕ) → (n ≡ r → P v) → P (g n) → P (h n)
at_other P g h r v s n here other = same_or n r (λ at. subst P (sym (ap h at ∙ s.here)) (here at)) (λ off. subst P (sym (s.others n off)) other)

no_adrift : {P : Type 0} (o : Option ℕ) → o ≡ None → is_some o ≡ true → P
no_adrift None none some = cc
no_adrift (Some t) none some = cc

module _ (gone : IntentId → Bool) (g f h e : Chain) (r : ℕ) (u : Cell) (s : BothSet g f h e r u) where
  passable_still : (z : ℕ) → IsPassable gone z (f z) → IsPassable gone z (e z)
  passable_still z p = same_or z r
      (λ at. absurd (not_followed p.cell.next (s.unfollowed p.cell (ap f (sym at) ∙ p.there)) p.followed))
      (λ off. subst (IsPassable gone z) (sym (s.kept.others z off)) p)

  past_still : (n : ℕ) (y k : Option ℕ) → LeadsPast gone f n y k → LeadsPast gone e n y k
  past_still n None None l = l
  past_still n (Some y) (Some k) l = (l.0, λ z low high. passable_still z (l.1 z low high))
  past_still n None (Some k) l = absurd l
  past_still n (Some y) None l = absurd l

  row_still : (n : ℕ) (a b : Option Row) → LessRow gone f n a b → LessRow gone e n a b
  row_still n None None l = l
  row_still n None (Some b) l = l
  row_still n (Some (Row.Cell c)) (Some (Row.Cell k)) l = record { value = l.value; owner = l.owner; log = l.log; next = past_still n c.next k.next l.next; marked = l.marked; adrift = l.adrift }
  row_still n (Some (Row.Cell c)) b l = absurd l
  row_still n (Some a) b l = absurd l

  row_here : LeadsPast gone e r u.next u.next → LessRow gone e r (Some (Row.Cell u)) (Some (Row.Cell u))
  row_here next = record { value = refl; owner = refl; log = refl; next = next; marked = λ is. let clash = sym is ∙ s.unmarked in cc; adrift = λ some. no_adrift u.dangled s.moored some }

  less_then : LeadsPast gone e r u.next u.next → LessChain gone g f → LessChain gone h e
  less_then next less n = same_or n r
      (λ at. subst (λ z. LessRow gone e z (h z) (e z)) (sym at) (subst (λ z. LessRow gone e r z (e r)) (sym s.there.here) (subst (LessRow gone e r (Some (Row.Cell u))) (sym s.kept.here) (row_here next))))
      (λ off. subst (λ z. LessRow gone e n z (e n)) (sym (s.there.others n off)) (subst (LessRow gone e n (g n)) (sym (s.kept.others n off)) (row_still n (g n) (f n) (less n))))

  ended : IsEnd (g r)
  ended c is = s.unfollowed c (sym s.alike ∙ is)

  forth : LeadsAs g h
  forth = ends_as g h r (Some (Row.Cell u)) s.there ended

  moored_then : (n : ℕ) → IsMoored (g n) → IsMoored (h n)
  moored_then n moored = at_other IsMoored g h r (Some (Row.Cell u)) s.there n (λ at. s.moored) moored

  safe_then : (life deadline n : ℕ) → IsSafeTo life deadline (g n) → IsSafeTo life deadline (h n)
  safe_then life deadline n safe = at_other (IsSafeTo life deadline) g h r (Some (Row.Cell u)) s.there n (λ at. moored_safe life deadline (Some (Row.Cell u)) s.moored) safe

  -- what may follow another row may follow it still
  follows_other : (life deadline a : ℕ) → (a == r) ≡ false → MayFollow life deadline g a → MayFollow life deadline h a
  follows_other life deadline a off (inl none) = inl (ap next_of (s.there.others a off) ∙ none)
  follows_other life deadline a off (inr safe) = inr (safe_then life deadline (a + 1) safe)

  -- ---- none follows it
  module _ (last : u.next ≡ None) where
    back : LeadsAs h g
    back = ends_as h g r (g r) (unset g h r (Some (Row.Cell u)) s.there) (λ c is. ap (λ (z : Cell). z.next) (one_cell c u (sym is ∙ s.there.here)) ∙ last)

    next_here : LeadsPast gone e r u.next u.next
    next_here = subst (λ z. LeadsPast gone e r z z) (sym last) tt

    pub set_keeps : LessChain gone g f → IsThreaded g → Keeps gone g h e
    set_keeps less threaded = record {
      less = less_then next_here less;
      threads = λ first. record {
        there = λ n path. moored_then n (threaded.there n (leads h g back 0 n path));
        leads = λ n c is next unmarked. same_or n r
            (λ at. absurd (not_followed c.next (ap (λ (z : Cell). z.next) (one_cell c u (sym is ∙ ap h at ∙ s.there.here)) ∙ last) next))
            (λ off. leads g h forth 0 n (threaded.leads n c (sym (s.there.others n off) ∙ is) next unmarked));
      };
      safe = λ life deadline a safe. safe_as g h life deadline a (λ n path. leads h g back a n path) (λ n path. safe_then life deadline n) safe;
      follows = λ life deadline a may. same_or a r (λ at. inl (ap next_of (ap h at ∙ s.there.here) ∙ last)) (λ off. follows_other life deadline a off may);
    }

  -- ---- a row follows it that is there, and that none follows
  module _ (t : Cell) (next : u.next ≡ Some (r + 1)) (after : g (r + 1) ≡ Some (Row.Cell t)) (ends : t.next ≡ None) (moored : t.dangled ≡ None) where
    after_then : h (r + 1) ≡ Some (Row.Cell t)
    after_then = s.there.others (r + 1) (apart r) ∙ after
      where
        apart : (r : ℕ) → (r + 1 == r) ≡ false
        apart r = same_or {P = (r + 1 == r) ≡ false} (r + 1) r (λ at. absurd (omega (arith, at))) (λ off. off)

    -- what is led to was so, or is the row that follows
    back_or : (a : ℕ) (ks : List ℕ) (n : ℕ) → Steps h a ks n → LeadsTo g a n ⊎ (n ≡ r + 1)
    back_or a [] n path = inl ([], path)
    back_or a (k ∷ ks) n (c, is, to, less, path) = same_or a r
        (λ at. inr (by_end ks (subst (λ z. Steps h z ks n) (same_after c (ap h (sym at) ∙ is) to) path)))
        (λ off. elim (back_or k ks n path) [
          | inl led ↦ inl (then_way g a k n (one_step g a c k (sym (s.there.others a off) ∙ is) to less) led)
          | inr e ↦ inr e
        ])
      where
        same_after : (c : Cell) → h r ≡ Some (Row.Cell c) → c.next ≡ Some k → k ≡ r + 1
        same_after c is to = let cell : c ≡ u = one_cell c u (sym is ∙ s.there.here) in let one : Some k ≡ Some (r + 1) = sym to ∙ ap (λ (z : Cell). z.next) cell ∙ next in cc

        by_end : (ks : List ℕ) → Steps h (r + 1) ks n → n ≡ r + 1
        by_end [] path = sym path
        by_end (j ∷ js) (d, at, to, more, all) = absurd (none_next t j ends (ap (λ (z : Cell). z.next) (one_cell t d (sym after_then ∙ at)) ∙ to))

    safe_after : (life deadline : ℕ) → IsSafeTo life deadline (h (r + 1))
    safe_after life deadline = subst (IsSafeTo life deadline) (sym after_then) (moored_safe life deadline (Some (Row.Cell t)) moored)

    pub link_keeps : LeadsTo g 0 r → LessChain gone g f → IsThreaded g → Keeps gone g h e
    link_keeps led less threaded = record {
      less = less_then (subst (λ z. LeadsPast gone e r z z) (sym next) (omega arith, λ z low high. absurd (omega (arith, low, high)))) less;
      threads = λ first. record {
        there = λ n path. elim (back_or 0 path.0 n path.1) [
          | inl was ↦ moored_then n (threaded.there n was)
          | inr e ↦ subst (λ z. IsMoored (h z)) (sym e) (subst IsMoored (sym after_then) moored)
        ];
        leads = λ n c is some unmarked. same_or n r
            (λ at. subst (LeadsTo h 0) (sym at) (leads g h forth 0 r led))
            (λ off. leads g h forth 0 n (threaded.leads n c (sym (s.there.others n off) ∙ is) some unmarked));
      };
      safe = λ life deadline a safe later n path. elim (back_or a path.0 n path.1) [
        | inl was ↦ safe_then life deadline n (safe later n was)
        | inr e ↦ subst (λ z. IsSafeTo life deadline (h z)) (sym e) (safe_after life deadline)
      ];
      follows = λ life deadline a may. same_or a r (λ at. inr (subst (λ z. IsSafeTo life deadline (h (z + 1))) (sym at) (safe_after life deadline))) (λ off. follows_other life deadline a off may);
    }

-- ---- the first row
first_made : (gone : IntentId → Bool) (g f h e : Chain) (u : Cell) → BothSet g f h e 0 u → u.next ≡ None → ((n : ℕ) → g n ≡ None) → ((n : ℕ) → f n ≡ None) → Keeps gone g h e
first_made gone g f h e u s last none were = record {
  less = less_then gone g f h e 0 u s (next_here gone g f h e 0 u s last) (λ n. subst (λ z. LessRow gone f n z (f n)) (sym (none n)) (subst (LessRow gone f n None) (sym (were n)) tt));
  threads = λ first. record {
    there = λ n path. by_way path.0 n path.1;
    leads = λ n c is next unmarked. same_or n 0
        (λ at. ([], sym at))
        (λ off. let clash = sym (none n) ∙ sym (s.there.others n off) ∙ is in cc);
  };
  safe = λ life deadline a safe later n path. absurd (subst (IsSafeTo life deadline) (none a) (safe later a ([], refl)));
  follows = λ life deadline a may. inl (same_or {P = next_of (h a) ≡ None} a 0 (λ at. ap next_of (ap h at ∙ s.there.here) ∙ last) (λ off. ap next_of (s.there.others a off ∙ none a)));
}
  where
    by_way : (ks : List ℕ) (n : ℕ) → Steps h 0 ks n → IsMoored (h n)
    by_way [] n path = subst (λ z. IsMoored (h z)) path (subst IsMoored (sym s.there.here) s.moored)
    by_way (k ∷ ks) n (c, is, to, less, path) = absurd (none_next u k last (ap (λ (z : Cell). z.next) (one_cell u c (sym s.there.here ∙ is)) ∙ to))

-- ---- whatever is set
-- nothing changed
module _ (gone : IntentId → Bool) (g f h e : Chain) (less : LessChain gone g f) (threads : is_some (g 0) ≡ true → IsThreaded g) where
  same_keeps : h ≡ g → e ≡ f → Keeps gone g h e
  same_keeps same kept = subst (λ z. Keeps gone g z e) (sym same) (subst (Keeps gone g g) (sym kept) (record { less = less; threads = threads; safe = λ life deadline r safe. safe; follows = λ life deadline r may. may }))

unset_same : (g h : Chain) (r : ℕ) (v : Option Row) → SetTo g r v h → v ≡ g r → h ≡ g
unset_same g h r v s same = λ i n. same_or {P = h n ≡ g n} n r (λ at. ap h at ∙ s.here ∙ same ∙ ap g (sym at)) (λ off. s.others n off) i

-- the first kept row is there where one of the table is
first_none : (gone : IntentId → Bool) (f : Chain) (r s : Option Row) → LessRow gone f 0 r s → r ≡ None → s ≡ None
first_none gone f None None l none = refl
first_none gone f None (Some b) l none = let low = l.later in absurd (omega (arith, low))
first_none gone f (Some a) s l none = cc

none_in : (f : Chain) (r : Option Row) → r ≡ None → LinkedFrom r f → (n : ℕ) → f n ≡ None
none_in f None none linked = linked
none_in f (Some r) none linked = cc

linked_in : (f : Chain) (r : Option Row) → is_some r ≡ true → LinkedFrom r f → Linked f
linked_in f (Some r) some linked = linked
linked_in f None some linked = cc

pub there_linked : (f : Chain) → IsLinked f → (n : ℕ) (x : Row) → f n ≡ Some x → Linked f
there_linked f linked n x is = by_first (f 0) refl linked
  where
    by_first : (r : Option Row) → f 0 ≡ r → LinkedFrom r f → Linked f
    by_first (Some r) at l = l
    by_first None at l = let clash = sym (l n) ∙ is in cc

-- a row that is there past one that none follows is to follow the last
module _ (f : Chain) (l : Linked f) (r : ℕ) (c : Cell) (x : Row) (there : f r ≡ Some (Row.Cell c)) (none : c.next ≡ None) (after : f (r + 1) ≡ Some x) where
  no_way : (js : List ℕ) → Steps f r js l.last → r ≡ l.last
  no_way [] path = path
  no_way (j ∷ js) (d, at, to, more, all) = absurd (none_next c j none (ap (λ (z : Cell). z.next) (one_cell c d (sym there ∙ at)) ∙ to))

  not_spare : r ≡ l.last + 1 → (x : Option Row) → f (r + 1) ≡ x → is_some x ≡ true → ⊥
  not_spare e None at some = cc
  not_spare e (Some (Row.Cell x)) at some = elim (l.rest (r + 1) x at) [
    | inl one ↦ omega (arith, e, one)
    | inr w ↦ let far = few f (r + 1) w.1.0 l.last w.1.1 in omega (arith, e, far)
  ]
  not_spare e (Some x) at some = absurd (subst FitsAt at (l.fits (r + 1)))

  pub is_last : r ≡ l.last
  is_last = elim (l.rest r c there) [
    | inl e ↦ absurd (not_spare e (f (r + 1)) refl (ap is_some after))
    | inr w ↦ no_way w.1.0 w.1.1
  ]

  pub follows_last : (s : Cell) × (f (r + 1) ≡ Some (Row.Cell s)) × (s.next ≡ None)
  follows_last = by_row x after
    where
      by_row : (x : Row) → f (r + 1) ≡ Some x → (s : Cell) × (f (r + 1) ≡ Some (Row.Cell s)) × (s.next ≡ None)
      by_row (Row.Cell s) at = (s, at, (l.spare s (ap (λ z. f (z + 1)) (sym is_last) ∙ at)).next)
      by_row x at = absurd (subst FitsAt at (l.fits (r + 1)))

module _ (gone : IntentId → Bool) (g f h e : Chain) (r : ℕ) (v : Option Row) (s : SetTo g r v h) (t : SetTo f r v e) (alike : g r ≡ f r) (stays : is_some (f r) ≡ true → is_some v ≡ true) (frozen : Frozen f e) (linked : IsLinked f) (linked_then : IsLinked e)
    (less : LessChain gone g f) (threads : is_some (g 0) ≡ true → IsThreaded g) where
  unchanged : v ≡ f r → Keeps gone g h e
  unchanged same = same_keeps gone g f h e less threads (unset_same g h r v s (same ∙ sym alike)) (unset_same f e r v t same)

  -- where no first row is there then, there is none of them
  no_first : h 0 ≡ None → Keeps gone g h e
  no_first none = unchanged (same_or {P = v ≡ f r} r 0 at_first past_first)
    where
      at_first : r ≡ 0 → v ≡ f r
      at_first at = by_kept (f r) refl
        where
          gone_then : v ≡ None
          gone_then = sym s.here ∙ ap h at ∙ none

          by_kept : (x : Option Row) → f r ≡ x → v ≡ f r
          by_kept None is = gone_then ∙ sym is
          by_kept (Some x) is = let clash = sym (ap is_some gone_then) ∙ stays (ap is_some is) in cc

      past_first : (r == 0) ≡ false → v ≡ f r
      past_first off =
          let apart : (0 == r) ≡ false = (let ne = eqb-false r 0 off in same_or {P = (0 == r) ≡ false} 0 r (λ e. absurd (ne (sym e))) (λ q. q)) in
          let was : g 0 ≡ None = sym (s.others 0 apart) ∙ none in
          let kept = first_none gone f (g 0) (f 0) (less 0) was in
          let all = none_in f (f 0) kept linked in
          sym t.here ∙ none_in e (e 0) (t.others 0 apart ∙ kept) linked_then r ∙ sym (all r)

  module _ (some : is_some (h 0) ≡ true) (u : Cell) (is : v ≡ Some (Row.Cell u)) where
    now : e r ≡ Some (Row.Cell u)
    now = t.here ∙ is

    then_linked : Linked e
    then_linked = there_linked e linked_then r (Row.Cell u) now

    fits : Fits u
    fits = fits_at e then_linked r u now

    both : ((c : Cell) → f r ≡ Some (Row.Cell c) → c.next ≡ None) → BothSet g f h e r u
    both unfollowed = record { there = subst (λ z. SetTo g r z h) is s; kept = subst (λ z. SetTo f r z e) is t; unfollowed = unfollowed; alike = alike; unmarked = fits.marked; moored = fits.dangled }

    -- the row that follows it was there
    after : (k : ℕ) → u.next ≡ Some k → (k ≡ r + 1) × (is_some (f (r + 1)) ≡ true)
    after k next =
        let one = then_linked.numbers r u k now next in
        let low = before_last e then_linked r u k now next in
        let there = rows_below e then_linked then_linked.last (r + 1) (Row.Cell then_linked.tail) then_linked.there (omega (arith, low)) in
        (one, sym (ap is_some (t.others (r + 1) apart)) ∙ there)
      where
        apart : (r + 1 == r) ≡ false
        apart = same_or {P = (r + 1 == r) ≡ false} (r + 1) r (λ at. absurd (omega (arith, at))) (λ off. off)

    -- there was none
    made : f r ≡ None → Keeps gone g h e
    made none = same_or r 0 first later
      where
        unfollowed : (c : Cell) → f r ≡ Some (Row.Cell c) → c.next ≡ None
        unfollowed c there = let clash = sym none ∙ there in cc

        by_next : (o : Option ℕ) → u.next ≡ o → (is_some (f (r + 1)) ≡ true → ⊥) → u.next ≡ None
        by_next None next off = next
        by_next (Some k) next off = absurd (off (after k next).1)

        first : r ≡ 0 → Keeps gone g h e
        first at =
            let all = none_in f (f 0) (ap f (sym at) ∙ none) linked in
            first_made gone g f h e u (subst (λ z. BothSet g f h e z u) at (both unfollowed)) (by_next u.next refl (λ there. let clash = sym (ap is_some (all (r + 1))) ∙ there in cc)) (λ n. no_row gone f n (g n) (f n) (less n) (all n)) all

        later : (r == 0) ≡ false → Keeps gone g h e
        later off =
            let zero_apart : (0 == r) ≡ false = (let ne = eqb-false r 0 off in same_or {P = (0 == r) ≡ false} 0 r (λ e. absurd (ne (sym e))) (λ d. d)) in
            let was : is_some (g 0) ≡ true = sym (ap is_some (s.others 0 zero_apart)) ∙ some in
            set_keeps gone g f h e r u (both unfollowed) (by_next u.next refl (λ there. by_row (f (r + 1)) refl there)) less (threads was)
          where
            by_row : (x : Option Row) → f (r + 1) ≡ x → is_some x ≡ true → ⊥
            by_row None at there = cc
            by_row (Some x) at there = let clash = sym (ap is_some none) ∙ rows_below f (there_linked f linked (r + 1) x at) (r + 1) r x at (omega arith) in cc

    -- one was that none followed
    changed : (c : Cell) → f r ≡ Some (Row.Cell c) → c.next ≡ None → Keeps gone g h e
    changed c there none = by_next u.next refl
      where
        kept : Linked f
        kept = there_linked f linked r (Row.Cell c) there

        unfollowed : (d : Cell) → f r ≡ Some (Row.Cell d) → d.next ≡ None
        unfollowed d at = ap (λ (z : Cell). z.next) (one_cell d c (sym at ∙ there)) ∙ none

        was : is_some (g 0) ≡ true
        was = same_or {P = is_some (g 0) ≡ true} 0 r (λ at. ap is_some (ap g at ∙ alike ∙ there)) (λ off. sym (ap is_some (s.others 0 off)) ∙ some)

        threaded : IsThreaded g
        threaded = threads was

        by_spare : (k : ℕ) → u.next ≡ Some k → k ≡ r + 1 → (x : Option Row) → f (r + 1) ≡ x → is_some x ≡ true → Keeps gone g h e
        by_spare k next one None at some = cc
        by_spare k next one (Some (Row.Cell x)) at some =
            let last = is_last f kept r c (Row.Cell x) there none at in
            let spare = kept.spare x (ap (λ z. f (z + 1)) (sym last) ∙ at) in
            link_keeps gone g f h e r u (both unfollowed) x (next ∙ ap Some one) (unfollowed_alike gone g f kept less (r + 1) x at spare.next ∙ at) spare.next (fits_at f kept (r + 1) x at).dangled (subst (LeadsTo g 0) (sym last) (to_last gone g f kept less threaded)) less threaded
        by_spare k next one (Some x) at some = absurd (subst FitsAt at (kept.fits (r + 1)))

        by_next : (o : Option ℕ) → u.next ≡ o → Keeps gone g h e
        by_next None next = set_keeps gone g f h e r u (both unfollowed) next less threaded
        by_next (Some k) next = let a = after k next in by_spare k next a.0 (f (r + 1)) refl a.1

  -- what is set is a row of an item
  by_set : ((u : Cell) → v ≡ Some (Row.Cell u) → Keeps gone g h e) → is_some v ≡ true → Keeps gone g h e
  by_set at_cell there = by_row v refl there
    where
      by_row : (x : Option Row) → v ≡ x → is_some x ≡ true → Keeps gone g h e
      by_row None is there = cc
      by_row (Some (Row.Cell u)) is there = at_cell u is
      by_row (Some x) is there = absurd (subst FitsAt (t.here ∙ is) ((there_linked e linked_then r x (t.here ∙ is)).fits r))

  pub acts_keep_so : is_some (h 0) ≡ true → Keeps gone g h e
  acts_keep_so some = by_row (f r) refl
    where
      by_none : (x : Option Row) → v ≡ x → f r ≡ None → Keeps gone g h e
      by_none None is none = unchanged (is ∙ sym none)
      by_none (Some x) is none = by_set (λ u at. made some u at none) (ap is_some is)

      by_next : (c : Cell) (o : Option ℕ) → f r ≡ Some (Row.Cell c) → c.next ≡ o → Keeps gone g h e
      by_next c None there next = by_set (λ u at. changed some u at c there next) (stays (ap is_some there))
      by_next c (Some k) there next = unchanged (sym t.here ∙ frozen r c k there next ∙ sym there)

      by_row : (x : Option Row) → f r ≡ x → Keeps gone g h e
      by_row None at = by_none v refl at
      by_row (Some (Row.Cell c)) at = by_next c c.next at refl
      by_row (Some x) at = absurd (subst FitsAt at ((there_linked f linked r x at).fits r))

  pub acts_keep : Keeps gone g h e
  acts_keep = by_first (h 0) refl
    where
      by_first : (x : Option Row) → h 0 ≡ x → Keeps gone g h e
      by_first None none = no_first none
      by_first (Some x) at = acts_keep_so (ap is_some at)

pub acts_keep_rows_so : ActsKeepRowsSo
acts_keep_rows_so gone g f h e r v s t alike stays frozen linked linked_then less threads = acts_keep gone g f h e r v s t alike stays frozen linked linked_then less threads
