-- The first row above a key.
use Rattle.std.specs.{Option.MatchOption, List.filter, Ordering.is_lt}
use denote.Bor.{Bor}
use Rattle.std.proofs.Common.{◌≡◌, true, false, ◌&&◌, List, [], ◌∷◌, Option, None, Some, refl, ap, sym, ◌∙◌, cond, if◌then◌else◌}
use Rattle.beldi_row.specs.{Key.RowKey, Key.key_cmp, Table.first_above, Table.entry_of, declared.row.Row.Row}

abbrev head_of : List (RowKey × Row) → Option (RowKey × Row)
head_of [] = None
head_of (e ∷ es) = Some e

first_of : (k : RowKey) (es : List (RowKey × Row)) → first_above k es ≡ head_of (filter (λ e. is_lt (key_cmp k e.0) && true) es)
first_of k [] = refl
first_of k (e ∷ es) =
    elim (is_lt (key_cmp k e.0)) as (λ b. (if b then Some e else first_above k es) ≡ head_of (cond (b && true) (e ∷ filter (λ f. is_lt (key_cmp k f.0) && true) es) (filter (λ f. is_lt (key_cmp k f.0) && true) es))) [
      | true ↦ refl
      | false ↦ first_of k es
    ]

pub next_is : (k : RowKey) (es list new : List (RowKey × Row)) (r : Option (Bor RowKey × Bor Row)) → list ≡ filter (λ e. is_lt (key_cmp k e.0) && true) es
    → MatchOption r ((list ≡ []) × (new ≡ [])) (λ x. list ≡ (x.0.now, x.1.now) ∷ new) → entry_of r ≡ first_above k es
next_is k es list new None e h = ap head_of (sym h.0 ∙ e) ∙ sym (first_of k es)
next_is k es list new (Some x) e h = ap head_of (sym h ∙ e) ∙ sym (first_of k es)
