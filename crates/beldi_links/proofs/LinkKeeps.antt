-- A row that is set: what the chain holds then, and that its rows stay linked.
use Rattle.std.proofs.lemmas.{Bool.eqb-false, Bool.false_from_ne_true, Bool.ne_eqb, Option.none-some}
use Rattle.std.specs.Ordering.{is_eq}
use Rattle.std.specs.FinMap as map
use Rattle.std.proofs.Common.{◌≡◌, ◌⊎◌, inl, inr, ℕ, zero, suc, ◌+◌, ◌<◌, ◌≤◌, ◌==◌, false, cond, [], ◌∷◌, ◌++◌, length, length-append, Option, None, Some, refl, ap, sym, ◌∙◌, subst, arith, append_assoc, append-nil}
use Rattle.beldi_row.{specs.Key.RowKey, specs.Key.at_row, specs.Key.key_cmp, specs.Key.row_of, specs.declared.row.Cell.Cell, specs.declared.row.Row.Row, specs.Log.NoneTwice, specs.Log.most_entries, proofs.Gets.got, proofs.Gets.key_same, proofs.Gets.key_self, proofs.Logs.once_pushed}
use Rattle.beldi_chain.specs.{Chain.Chain, Chain.content, Chain.most_rows, Chain.most_rows_are, Content.Content, Content.log_of}
use Rattle.beldi_links.specs.LinkLaws.{EntriesKeepLinks, FirstRowIsLinked, LastRowIsSet, LinkingChangesNothing, LinkingKeepsLinks, MakingChangesNothing, MakingKeepsLinks, RowIsSet}
use Rattle.beldi_links.specs.Links.{Fits, FitsAt, FitsNext, Frozen, IsSpare, LeadsTo, IsLinked, Linked, LinkedFrom, SetTo, before, behind, own}
use Rattle.beldi_links.proofs.Ways.{before_join, before_kept, content_is, few, kept, leads_still, none_next, one_cell, one_step, same_or, then_way}
use Rattle.beldi_links.proofs.{Grows.first_grows, Meets.no_more}

-- ---- one row is set
module _ (f g : Chain) (r : ℕ) (v : Option Row) (set : SetTo f r v g) where
  -- it had no next: so all that have one stay
  frozen : ((c : Cell) (k : ℕ) → f r ≡ Some (Row.Cell c) → c.next ≡ Some k → ⊥) → Frozen f g
  frozen none n c k is next = same_or n r (λ at. absurd (none c k (ap f (sym at) ∙ is) next)) (λ off. set.others n off ∙ is)

  all_fit : FitsAt v → ((n : ℕ) → FitsAt (f n)) → (n : ℕ) → FitsAt (g n)
  all_fit here others n = same_or n r (λ at. subst FitsAt (sym (ap g at ∙ set.here)) here) (λ off. subst FitsAt (sym (set.others n off)) (others n))

  -- what is so of each cell that was there is so of those that are there, if it is of the one that was set
  each : (P : ℕ → Cell → Type 0) → ((c : Cell) → v ≡ Some (Row.Cell c) → P r c) → ((n : ℕ) (c : Cell) → f n ≡ Some (Row.Cell c) → P n c)
      → (n : ℕ) (c : Cell) → g n ≡ Some (Row.Cell c) → P n c
  each P here others n c is = same_or n r
      (λ at. subst (λ z. P z c) (sym at) (here c (sym set.here ∙ ap g (sym at) ∙ is)))
      (λ off. others n c (sym (set.others n off) ∙ is))

  -- so each next is the next number, if that of the one that was set is
  each_next : ((c : Cell) (k : ℕ) → v ≡ Some (Row.Cell c) → c.next ≡ Some k → k ≡ r + 1) → ((n : ℕ) (c : Cell) (k : ℕ) → f n ≡ Some (Row.Cell c) → c.next ≡ Some k → k ≡ n + 1)
      → (n : ℕ) (c : Cell) (k : ℕ) → g n ≡ Some (Row.Cell c) → c.next ≡ Some k → k ≡ n + 1
  each_next here others n c k is = each (λ n c. c.next ≡ Some k → k ≡ n + 1) (λ c at. here c k at) (λ n c at. others n c k at) n c is

-- one without a next was set
not_on : {X : Type 0} (u c : Cell) (k : ℕ) → u.next ≡ None → Some (Row.Cell u) ≡ Some (Row.Cell c) → c.next ≡ Some k → X
not_on u c k ends is next = absurd (none_next c k (subst (λ (z : Cell). z.next ≡ None) (one_cell u c is) ends) next)

pub row_set : RowIsSet
row_set m head is r v = record {
  here = got m (at_row head r) (at_row head r) v ∙ ap (λ b. cond b v (map.get m (at_row head r))) (key_self (at_row head r));
  others = λ n off. got m (at_row head r) (at_row head n) v ∙ ap (λ b. cond b v (map.get m (at_row head n))) (apart n (eqb-false n r off));
}
  where
    apart : (n : ℕ) → (n ≡ r → ⊥) → is_eq (key_cmp (at_row head n) (at_row head r)) ≡ false
    apart n other = false_from_ne_true (is_eq (key_cmp (at_row head n) (at_row head r)))
        (λ e. other (sym (is.numbered n) ∙ ap (λ (z : RowKey). row_of z.kind) (key_same (at_row head n) (at_row head r) e) ∙ is.numbered r))

-- ---- linked rows
-- a row that is there stands past the last, or on the way
abbrev OnWay : (f : Chain) → ℕ → ℕ → Type 0
OnWay f last n = (n ≡ last + 1) ⊎ (LeadsTo f 0 n × LeadsTo f n last)

on_way_still : (f g : Chain) → Frozen f g → (last n : ℕ) → OnWay f last n → OnWay g last n
on_way_still f g still last n (inl e) = inl e
on_way_still f g still last n (inr w) = inr (leads_still f g still 0 n w.0, leads_still f g still n last w.1)

module _ (f : Chain) (l : Linked f) where
  past : (l.last + 1 == l.last) ≡ false
  past = ne_eqb (l.last + 1) l.last (λ e. omega (arith, e))

  no_spare_next : (c : Cell) (k : ℕ) → f (l.last + 1) ≡ Some (Row.Cell c) → c.next ≡ Some k → ⊥
  no_spare_next c k is next = none_next c k (l.spare c is).next next

  content_here : content f ≡ behind (before f 0 l.path.0) (own l.tail)
  content_here = content_is f l.path.0 l.last l.tail l.path.1 l.there l.ends l.few

  -- no row stands two past the last
  none_past : (c : Cell) → f (l.last + 1 + 1) ≡ Some (Row.Cell c) → ⊥
  none_past c is = by_rest (l.rest (l.last + 1 + 1) c is)
    where
      by_rest : OnWay f l.last (l.last + 1 + 1) → ⊥
      by_rest (inl e) = omega (arith, e)
      by_rest (inr w) = let m = few f (l.last + 1 + 1) w.1.0 l.last w.1.1 in omega (arith, m)

-- ---- the last row
module _ (f g : Chain) (l : Linked f) (u : Cell) (set : SetTo f l.last (Some (Row.Cell u)) g) where
  stays : Frozen f g
  stays = frozen f g l.last (Some (Row.Cell u)) set (no_more f l.last l.tail l.there l.ends)

  abbrev way_still : LeadsTo g 0 l.last
  way_still = leads_still f g stays 0 l.last l.path

  holds : u.next ≡ None → content g ≡ behind (before f 0 l.path.0) (own u)
  holds ends =
      content_is g l.path.0 l.last u way_still.1 set.here ends l.few
      ∙ ap (λ z. behind z (own u)) (before_kept f g stays 0 l.path.0 l.last l.path.1)

pub last_set : LastRowIsSet
last_set f g l u set ends = holds f g l u set ends

pub entries_keep : EntriesKeepLinks
entries_keep f g l p w u set ends log fits none = record {
  last = l.last;
  tail = u;
  path = way_still f g l u set;
  there = set.here;
  ends = ends;
  few = l.few;
  fits = all_fit f g l.last (Some (Row.Cell u)) set fits l.fits;
  once = subst NoneTwice (sym notes) (once_pushed (content f).notes p w none l.once);
  spare = λ s is. absurd (no_spare s (sym (set.others (l.last + 1) (past f l)) ∙ is));
  numbers = each_next f g l.last (Some (Row.Cell u)) set (λ c k is next. not_on u c k ends is next) l.numbers;
  rest = each f g l.last (Some (Row.Cell u)) set (λ n c. OnWay g l.last n) (λ c is. inr (way_still f g l u set, ([], refl))) (λ n c is. on_way_still f g still l.last n (l.rest n c is));
}
  where
    notes : (content g).notes ≡ (content f).notes ++ (p, w) ∷ []
    notes =
        ap (λ (z : Content). z.notes) (holds f g l u set ends)
        ∙ ap (λ z. before f 0 l.path.0 ++ z) log
        ∙ sym (append_assoc (before f 0 l.path.0) l.tail.log ((p, w) ∷ []))
        ∙ ap (λ (z : Content). z.notes ++ (p, w) ∷ []) (sym (content_here f l))

    -- there was room, so no row was to follow
    no_spare : (s : Cell) → f (l.last + 1) ≡ Some (Row.Cell s) → ⊥
    no_spare s is =
        let full = (l.spare s is).full in
        let most : length u.log ≤ most_entries = subst (λ z. FitsNext z (length u.log)) ends fits.entries in
        let more = ap length log ∙ length-append l.tail.log ((p, w) ∷ []) in
        omega (arith, full, most, more)

    still : Frozen f g
    still = stays f g l u set

-- ---- the row that is to follow it is made
module _ (f g : Chain) (l : Linked f) (v : Option Row) (set : SetTo f (l.last + 1) v g) where
  made_stays : Frozen f g
  made_stays = frozen f g (l.last + 1) v set (no_spare_next f l)

  last_still : g l.last ≡ Some (Row.Cell l.tail)
  last_still = set.others l.last (ne_eqb l.last (l.last + 1) (λ e. omega (arith, e))) ∙ l.there

  made_holds : content g ≡ content f
  made_holds =
      content_is g l.path.0 l.last l.tail (kept f g made_stays 0 l.path.0 l.last l.path.1) last_still l.ends l.few
      ∙ ap (λ z. behind z (own l.tail)) (before_kept f g made_stays 0 l.path.0 l.last l.path.1)
      ∙ sym (content_here f l)

pub made : MakingChangesNothing
made f g l v set = made_holds f g l v set

pub making_keeps : MakingKeepsLinks
making_keeps f g l s spare fits set = record {
  last = l.last;
  tail = l.tail;
  path = leads_still f g still 0 l.last l.path;
  there = last_still f g l (Some (Row.Cell s)) set;
  ends = l.ends;
  few = l.few;
  fits = all_fit f g (l.last + 1) (Some (Row.Cell s)) set fits l.fits;
  once = subst (λ (z : Content). NoneTwice z.notes) (sym (made_holds f g l (Some (Row.Cell s)) set)) l.once;
  spare = λ q is. subst (IsSpare l.tail) (one_cell s q (sym set.here ∙ is)) spare;
  numbers = each_next f g (l.last + 1) (Some (Row.Cell s)) set (λ c k is next. not_on s c k spare.next is next) l.numbers;
  rest = each f g (l.last + 1) (Some (Row.Cell s)) set (λ n c. OnWay g l.last n) (λ c is. inl refl) (λ n c is. on_way_still f g still l.last n (l.rest n c is));
}
  where
    still : Frozen f g
    still = made_stays f g l (Some (Row.Cell s)) set

-- ---- .. and linked
abbrev linked_to : (f : Chain) → Linked f → Cell
linked_to f l = record l.tail { next = Some (l.last + 1) }

module _ (f g : Chain) (l : Linked f) (s : Cell) (is : f (l.last + 1) ≡ Some (Row.Cell s)) (less : l.last + 1 < most_rows) (set : SetTo f l.last (Some (Row.Cell (linked_to f l))) g) where
  link_stays : Frozen f g
  link_stays = stays f g l (linked_to f l) set

  spare_here : g (l.last + 1) ≡ Some (Row.Cell s)
  spare_here = set.others (l.last + 1) (past f l) ∙ is

  abbrev step : LeadsTo g l.last (l.last + 1)
  step = one_step g l.last (linked_to f l) (l.last + 1) set.here refl (omega arith)

  abbrev way_on : LeadsTo g 0 (l.last + 1)
  way_on = then_way g 0 l.last (l.last + 1) (way_still f g l (linked_to f l) set) step

  notes_on : before g 0 way_on.0 ≡ before f 0 l.path.0 ++ l.tail.log
  notes_on =
      before_join g 0 l.path.0 l.last step.0 (kept f g link_stays 0 l.path.0 l.last l.path.1)
      ∙ (λ i. before_kept f g link_stays 0 l.path.0 l.last l.path.1 i ++ (log_of (set.here i) ++ []))
      ∙ ap (λ z. before f 0 l.path.0 ++ z) (append-nil l.tail.log)

  link_holds : content g ≡ content f
  link_holds =
      let spare = l.spare s is in
      content_is g way_on.0 (l.last + 1) s way_on.1 spare_here spare.next less
      ∙ (λ i. record { value = spare.value i; owner = spare.owner i; notes = notes_on i ++ spare.log i })
      ∙ (λ i. record { value = l.tail.value; owner = l.tail.owner; notes = append-nil (before f 0 l.path.0 ++ l.tail.log) i })
      ∙ sym (content_here f l)

pub linked : LinkingChangesNothing
linked f g l s is less set = link_holds f g l s is less set

pub linking_keeps : LinkingKeepsLinks
linking_keeps f g l s is less set = record {
  last = l.last + 1;
  tail = s;
  path = way_on f g l s is less set;
  there = spare_here f g l s is less set;
  ends = (l.spare s is).next;
  few = less;
  fits = all_fit f g l.last (Some (Row.Cell (linked_to f l))) set full l.fits;
  once = subst (λ (z : Content). NoneTwice z.notes) (sym (link_holds f g l s is less set)) l.once;
  spare = λ q at. absurd (none_past f l q (sym (set.others (l.last + 1 + 1) (ne_eqb (l.last + 1 + 1) l.last (λ e. omega (arith, e)))) ∙ at));
  numbers = each_next f g l.last (Some (Row.Cell (linked_to f l))) set (λ c k at next. one_number (ap (λ (z : Cell). z.next) (one_cell (linked_to f l) c at) ∙ next)) l.numbers;
  rest = each f g l.last (Some (Row.Cell (linked_to f l))) set (λ n c. OnWay g (l.last + 1) n)
      (λ c at. inr (way_still f g l (linked_to f l) set, to_last)) (λ n c at. inr (by_rest n (l.rest n c at)));
}
  where
    still : Frozen f g
    still = link_stays f g l s is less set

    -- it has a next now, and is full
    full : Fits (linked_to f l)
    full = let fit : Fits l.tail = subst FitsAt l.there (l.fits l.last) in record { entries = (l.spare s is).full; marked = fit.marked; dangled = fit.dangled }

    one_number : {k : ℕ} → Some (l.last + 1) ≡ Some k → k ≡ l.last + 1
    one_number h = cc

    to_last : LeadsTo g l.last (l.last + 1)
    to_last = step f g l s is less set

    by_rest : (n : ℕ) → OnWay f l.last n → LeadsTo g 0 n × LeadsTo g n (l.last + 1)
    by_rest n (inl here) = (subst (LeadsTo g 0) (sym here) (way_on f g l s is less set), ([], here))
    by_rest n (inr w) = (leads_still f g still 0 n w.0, then_way g n l.last (l.last + 1) (leads_still f g still n l.last w.1) to_last)

-- ---- the first row
pub none_linked : (f : Chain) → ((n : ℕ) → f n ≡ None) → IsLinked f
none_linked f none = subst (λ z. LinkedFrom z f) (sym (none 0)) none

module _ (f g : Chain) (s : Cell) (none : (n : ℕ) → f n ≡ None) (set : SetTo f 0 (Some (Row.Cell s)) g) (ends : s.next ≡ None) (fit : Fits s) where
  none_else : (n : ℕ) → g (suc n) ≡ None
  none_else n = set.others (suc n) (ne_eqb (suc n) 0 (λ e. omega (arith, e))) ∙ none (suc n)

  no_cell : (n : ℕ) (c : Cell) → g (suc n) ≡ Some (Row.Cell c) → ⊥
  no_cell n c is = none-some (Row.Cell c) (sym (none_else n) ∙ is)

  few_rows : 0 < most_rows
  few_rows = subst (λ z. 0 < z) (sym most_rows_are) (omega arith)

  one_row : s.log ≡ [] → Linked g
  one_row log = record {
    last = 0;
    tail = s;
    path = ([], refl);
    there = set.here;
    ends = ends;
    few = few_rows;
    fits = fits;
    once = subst NoneTwice (sym (ap (λ (z : Content). z.notes) (content_is g [] 0 s refl set.here ends few_rows) ∙ log)) tt;
    spare = λ q at. absurd (no_cell 0 q at);
    numbers = numbers;
    rest = rest;
  }
    where
      fits : (n : ℕ) → FitsAt (g n)
      fits zero = subst FitsAt (sym set.here) fit
      fits (suc n) = subst FitsAt (sym (none_else n)) tt

      numbers : (n : ℕ) (d : Cell) (k : ℕ) → g n ≡ Some (Row.Cell d) → d.next ≡ Some k → k ≡ n + 1
      numbers zero d k at next = absurd (none_next d k (subst (λ (z : Cell). z.next ≡ None) (one_cell s d (sym set.here ∙ at)) ends) next)
      numbers (suc n) d k at next = absurd (no_cell n d at)

      rest : (n : ℕ) (d : Cell) → g n ≡ Some (Row.Cell d) → (n ≡ 0 + 1) ⊎ (LeadsTo g 0 n × LeadsTo g n 0)
      rest zero d at = inr (([], refl), ([], refl))
      rest (suc n) d at = absurd (no_cell n d at)

pub first_linked : FirstRowIsLinked
first_linked f g s none set ends log fits = (one_row f g s none set ends fits log, first_grows f g (Row.Cell s) none set)
