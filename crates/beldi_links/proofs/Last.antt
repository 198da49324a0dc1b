-- The last row of linked rows: it is a cell, and is there where any row is; or there is no row, and they hold nothing.
use Rattle.std.proofs.Common.{◌≡◌, ℕ, true, Option, None, Some, is_some, ap, sym, ◌∙◌, subst}
use Rattle.beldi_row.specs.declared.row.Row.{Row}
use Rattle.beldi_chain.{specs.Chain.Chain, specs.Chain.content, specs.Chain.tail, specs.Content.content_in, proofs.OneRow.no_content, proofs.OneRow.no_tail}
use Rattle.beldi_links.specs.Links.{IsLinked, Linked, LinkedFrom}
use Rattle.beldi_links.proofs.Ways.{tail_is}

linked_or : {P : Type 0} (f : Chain) → (((n : ℕ) → f n ≡ None) → P) → (Linked f → P) → IsLinked f → P
linked_or {P} f none some h = by_first (f 0) h
  where
    by_first : (r : Option Row) → LinkedFrom r f → P
    by_first None h = none h
    by_first (Some r) h = some h

abbrev pub IsCellOrNone : Option Row → Type 0
IsCellOrNone None = Unit {0}
IsCellOrNone (Some (Row.Cell c)) = Unit {0}
IsCellOrNone (Some r) = ⊥

pub last_is_cell : (f : Chain) → IsLinked f → IsCellOrNone (tail f)
last_is_cell f h = linked_or f (λ none. subst IsCellOrNone (sym (no_tail f (none 0))) tt) (λ l. subst IsCellOrNone (sym (tail_is f l)) tt) h

pub bare : (f : Chain) → IsLinked f → tail f ≡ None → content f ≡ content_in None
bare f h absent = linked_or f (λ none. no_content f (none 0)) (λ l. let clash = sym absent ∙ tail_is f l in cc) h

pub last_there : (f : Chain) → IsLinked f → (n : ℕ) → is_some (f n) ≡ true → is_some (tail f) ≡ true
last_there f h n there = linked_or f (λ none. let clash = sym (ap is_some (none n)) ∙ there in cc) (λ l. ap is_some (tail_is f l)) h

-- .. and so is the first one
pub tail_there : (f : Chain) → IsLinked f → is_some (tail f) ≡ is_some (f 0)
tail_there f h = by_first (f 0) h
  where
    by_first : (r : Option Row) → LinkedFrom r f → is_some (tail f) ≡ is_some r
    by_first None none = ap is_some (no_tail f (none 0))
    by_first (Some r) l = ap is_some (tail_is f l)
