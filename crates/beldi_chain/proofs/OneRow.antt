-- Chains of one row, and of none.
use Rattle.std.proofs.Common.{◌≡◌, ℕ, zero, suc, List, [], ◌++◌, Option, None, Some, refl, ap, ◌∙◌, append-nil}
use Rattle.beldi_value.specs.declared.place.Place.{Place}
use Rattle.beldi_row.specs.{declared.notes.Note.Note, declared.row.Row.Row}
use Rattle.beldi_chain.specs.Chain.{Chain, above, content, most_rows, next_of, notes_from, on_next, tail, tail_from}
use Rattle.beldi_chain.specs.Content.{content_in, held_in, log_of}

module _ (f : Chain) (n : ℕ) (last : above n (next_of (f n)) ≡ None) where
  tail_here : (s : ℕ) → tail_from s f n ≡ f n
  tail_here zero = refl
  tail_here (suc s) = ap (λ o. on_next o (f n) (tail_from s f)) last

  notes_here : (s : ℕ) → notes_from s f n ≡ log_of (f n)
  notes_here zero = refl
  notes_here (suc s) = ap (λ o. log_of (f n) ++ on_next o [] (notes_from s f)) last ∙ append-nil (log_of (f n))

-- the first row is the last one, where none comes after it
module _ (f : Chain) (last : above 0 (next_of (f 0)) ≡ None) where
  pub tail_is_head : tail f ≡ f 0
  tail_is_head = tail_here f 0 last most_rows

  pub content_is_head : content f ≡ content_in (f 0)
  content_is_head = λ i. held_in (tail_is_head i) (notes_here f 0 last most_rows i)

-- without a first row there is none
module _ (f : Chain) (none : f 0 ≡ None) where
  pub no_tail : tail f ≡ None
  no_tail = tail_is_head f (ap (λ r. above 0 (next_of r)) none) ∙ none

  pub no_content : content f ≡ content_in None
  no_content = content_is_head f (ap (λ r. above 0 (next_of r)) none) ∙ ap content_in none

-- the value that a chain has is that of its last row
pub tail_value : (f : Chain) → (content f).value ≡ (content_in (tail f)).value
tail_value f = by_row (tail f) (notes_from most_rows f 0)
  where
    by_row : (r : Option Row) (es : List (Place × Note)) → (held_in r es).value ≡ (content_in r).value
    by_row None es = refl
    by_row (Some (Row.Cell c)) es = refl
    by_row (Some (Row.Intent i)) es = refl
    by_row (Some (Row.ReadLog v)) es = refl
    by_row (Some (Row.Invoke i)) es = refl
    by_row (Some Row.Lockset) es = refl
