-- A spare row of linked rows follows the last one; while it is there and is not linked, the chain holds what it held.
use Rattle.std.proofs.lemmas.Option.{none-some}
use Rattle.std.proofs.Common.{◌≡◌, ◌⊎◌, ◌==◌, eqb-true, inl, inr, ℕ, ◌+◌, Bool, true, false, Option, None, Some, is_some, refl, ap, sym, ◌∙◌, subst, arith}
use Rattle.beldi_row.specs.{declared.row.Cell.Cell, declared.row.Row.Row}
use Rattle.beldi_chain.specs.{Chain.Chain, Chain.content}
use Rattle.beldi_links.specs.Links.{FitsAt, Frozen, GrowsBy, IsLinked, IsSpare, LeadsTo, Linked, LinkedFrom, RowGrows, SetTo, behind, own}
use Rattle.beldi_links.proofs.{LinkKeeps.made, Meets.last_is_last, Ways.before_kept, Ways.content_is, Ways.few, Ways.kept, Ways.none_next}
use Rattle.beldi_wanted.specs.Wanted.{HasSpare}

-- rows of which one is there begin with a first one
pub linked_at : (f : Chain) → IsLinked f → (r : ℕ) → is_some (f r) ≡ true → Linked f
linked_at f l r there = by_head (f 0) l
  where
    by_head : (y : Option Row) → LinkedFrom y f → Linked f
    by_head None none = absurd (let clash = sym (ap is_some (none r)) ∙ there in cc)
    by_head (Some y) l = l

-- a row that is there is a cell
pub cell_at : (f : Chain) → Linked f → (r : ℕ) → is_some (f r) ≡ true → (c : Cell) × (f r ≡ Some (Row.Cell c))
cell_at f l r there = by_row (f r) refl there (l.fits r)
  where
    by_row : (y : Option Row) → f r ≡ y → is_some y ≡ true → FitsAt y → (c : Cell) × (f r ≡ Some (Row.Cell c))
    by_row None is there fits = cc
    by_row (Some (Row.Cell c)) is there fits = (c, is)
    by_row (Some y) is there fits = absurd fits

module _ (f : Chain) (l : Linked f) where
  -- a row without next is the last, or follows that
  pub row_ends : (r : ℕ) (c : Cell) → f r ≡ Some (Row.Cell c) → c.next ≡ None → (r ≡ l.last) ⊎ (r ≡ l.last + 1)
  row_ends r c is none = by_rest (l.rest r c is)
    where
      by_rest : (r ≡ l.last + 1) ⊎ (LeadsTo f 0 r × LeadsTo f r l.last) → (r ≡ l.last) ⊎ (r ≡ l.last + 1)
      by_rest (inl e) = inr e
      by_rest (inr w) = inl (last_is_last f l.last l.tail l.path l.there l.ends r c (record { at = l.last; head = l.path; here = w.1 }) is none)

  -- none is past that
  none_past : (r : ℕ) → r ≡ l.last + 2 → is_some (f r) ≡ true → ⊥
  none_past r is there = let c = cell_at f l r there in by_rest (l.rest r c.0 c.1)
    where
      by_rest : (r ≡ l.last + 1) ⊎ (LeadsTo f 0 r × LeadsTo f r l.last) → ⊥
      by_rest (inl e) = omega (arith, is, e)
      by_rest (inr w) = let m = few f r w.1.0 l.last w.1.1 in omega (arith, is, m)

  -- so a spare follows the last
  pub spare_last : (s : HasSpare f) → s.row ≡ l.last
  spare_last s = by_end (row_ends s.row s.cell s.there s.ends)
    where
      by_end : (s.row ≡ l.last) ⊎ (s.row ≡ l.last + 1) → s.row ≡ l.last
      by_end (inl e) = e
      by_end (inr e) = absurd (none_past (s.row + 1) (omega (arith, e)) s.after)

  -- .. and that is full
  pub spare_full : is_some (f (l.last + 1)) ≡ true → (s : Cell) × IsSpare l.tail s
  spare_full there = let c = cell_at f l (l.last + 1) there in (c.0, l.spare c.0 c.1)

-- ---- rows that grow
grown_from : (c : Cell) (y : Option Row) → RowGrows (Some (Row.Cell c)) y → (d : Cell) × (y ≡ Some (Row.Cell d)) × GrowsBy c.next c d
grown_from c (Some (Row.Cell d)) h = (d, refl, h)
grown_from c y h = absurd h

module _ (f g : Chain) (grows : (n : ℕ) → RowGrows (f n) (g n)) where
  grown : (r : ℕ) (c : Cell) → f r ≡ Some (Row.Cell c) → (d : Cell) × (g r ≡ Some (Row.Cell d)) × GrowsBy c.next c d
  grown r c is = grown_from c (g r) (subst (λ z. RowGrows z (g r)) is (grows r))

  frozen : Frozen f g
  frozen n c k is next = let w = grown n c is in w.1 ∙ ap (λ (z : Cell). Some (Row.Cell z)) (subst (λ z. GrowsBy z c w.0) next w.2)

  -- a row that has no next then had none
  pub ended : (r : ℕ) (c t : Cell) → f r ≡ Some (Row.Cell c) → g r ≡ Some (Row.Cell t) → t.next ≡ None → c.next ≡ None
  ended r c t is at none = by_next c.next refl
    where
      by_next : (z : Option ℕ) → c.next ≡ z → z ≡ None
      by_next None e = refl
      by_next (Some k) e = absurd (none_next t k none (let same : t ≡ c = one (sym at ∙ frozen r c k is e) in ap (λ (z : Cell). z.next) same ∙ e))
        where
          one : Some (Row.Cell t) ≡ Some (Row.Cell c) → t ≡ c
          one e = cc

  -- where a spare is there before, and the last row has no next then, the chain holds what it held
  pub same_content : (l : Linked f) → is_some (f (l.last + 1)) ≡ true → (t : Cell) → g l.last ≡ Some (Row.Cell t) → t.next ≡ None → content g ≡ content f
  same_content l spare t at none =
      let full = (spare_full f l spare).1.full in
      let w = grown l.last l.tail l.there in
      let one : w.0 ≡ t = same_cell w.0 t (sym w.1 ∙ at) in
      let kept_it = subst (λ z. GrowsBy z l.tail w.0) l.ends w.2 full in
      let own_is : own t ≡ own l.tail = ap own (sym one) ∙ (λ i. record { value = kept_it.0 i; owner = kept_it.1 i; notes = kept_it.2 i }) in
      content_is g l.path.0 l.last t (kept f g frozen 0 l.path.0 l.last l.path.1) at none l.few
      ∙ (λ i. behind (before_kept f g frozen 0 l.path.0 l.last l.path.1 i) (own_is i))
      ∙ sym (content_is f l.path.0 l.last l.tail l.path.1 l.there l.ends l.few)
    where
      same_cell : (a b : Cell) → Some (Row.Cell a) ≡ Some (Row.Cell b) → a ≡ b
      same_cell a b e = cc

-- ---- a row that is made behind all that are there
module _ (f g : Chain) (r : ℕ) (v : Option Row) (set : SetTo f (r + 1) v g) (none : f (r + 1) ≡ None) (l : Linked f) (k : Linked g) (s : HasSpare g) (at : s.row ≡ r) where
  others : (n : ℕ) → (n == (r + 1)) ≡ false → g n ≡ f n
  others n e = set.others n e

  -- follows the last one
  pub made_last : l.last ≡ r
  made_last = by_other (l.last == (r + 1)) refl
    where
      by_other : (b : Bool) → (l.last == (r + 1)) ≡ b → l.last ≡ r
      by_other true e = absurd (let same = eqb-true l.last (r + 1) e in none-some (Row.Cell l.tail) (sym none ∙ ap f (sym same) ∙ l.there))
      by_other false e = by_end (row_ends g k l.last l.tail (others l.last e ∙ l.there) l.ends)
        where
          by_end : (l.last ≡ k.last) ⊎ (l.last ≡ k.last + 1) → l.last ≡ r
          by_end (inl same) = same ∙ sym (spare_last g k s) ∙ at
          by_end (inr past) = absurd (let same : l.last ≡ r + 1 = past ∙ ap (λ z. z + 1) (sym (spare_last g k s) ∙ at) in none-some (Row.Cell l.tail) (sym none ∙ ap f (sym same) ∙ l.there))

  pub made_content : content g ≡ content f
  made_content = made f g l v (subst (λ z. SetTo f (z + 1) v g) (sym made_last) set)
