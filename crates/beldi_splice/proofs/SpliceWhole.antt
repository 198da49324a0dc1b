-- Where all rows of an item are there, each that is there stays, and so does each that may follow it.
use Rattle.std.proofs.Common.{◌≡◌, ◌⊎◌, inl, inr, ℕ, ◌+◌, true, false, List, [], ◌∷◌, Option, Some, None, is_some, refl, ap, sym, ◌∙◌, subst, arith}
use Rattle.beldi_row.specs.{declared.row.Cell.Cell, declared.row.Row.Row}
use Rattle.beldi_chain.specs.Chain.{Chain, next_of}
use Rattle.beldi_links.specs.Links.{FitsAt, IsLinked, LeadsTo, Linked, StandsAt, Steps}
use Rattle.beldi_links.proofs.{Meets.rows_below, Ways.then_way}
use Rattle.beldi_splice.specs.Splice.{IsMoored, IsSafeFrom, IsSafeTo, IsThreaded, MayFollow}
use Rattle.beldi_splice.proofs.{Alike.fits_at, Alike.linked_are_so, Both.there_linked, Leading.moored_safe}

module _ (f : Chain) (linked : IsLinked f) (life deadline : ℕ) where
  module _ (r : ℕ) (x : Row) (there : f r ≡ Some x) where
    l : Linked f
    l = there_linked f linked r x there

    threads : IsThreaded f
    threads = (linked_are_so (λ i. false) f linked).1 (rows_below f l r 0 x there (omega arith))

    moored : (o : Option Row) → f r ≡ o → IsMoored o
    moored (Some (Row.Cell c)) is = (fits_at f l r c is).dangled
    moored (Some o) is = absurd (subst FitsAt is (l.fits r))
    moored None is = let clash = sym there ∙ is in cc

    stays_at : IsSafeTo life deadline (f r)
    stays_at = moored_safe life deadline (f r) (moored (f r) refl)

    led : (c : Cell) → f r ≡ Some (Row.Cell c) → is_some c.next ≡ true → LeadsTo f 0 r
    led c is next = threads.leads r c is next (fits_at f l r c is).marked

    leads_on : (n : ℕ) (ks : List ℕ) → Steps f r ks n → IsSafeTo life deadline (f n)
    leads_on n [] path = subst (λ z. IsSafeTo life deadline (f z)) path stays_at
    leads_on n (k ∷ ks) (c, is, to, less, path) = moored_safe life deadline (f n) (threads.there n (then_way f 0 r n (led c is (ap is_some to)) (k ∷ ks, (c, is, to, less, path))))

    safe : IsSafeFrom life deadline f r
    safe low n path = leads_on n path.0 path.1

    follows : MayFollow life deadline f r
    follows = by_row (f r) refl
      where
        by_next : (c : Cell) (o : Option ℕ) → f r ≡ Some (Row.Cell c) → c.next ≡ o → (next_of (Some (Row.Cell c)) ≡ None) ⊎ IsSafeTo life deadline (f (r + 1))
        by_next c None is ends = inl ends
        by_next c (Some k) is to = let one : k ≡ r + 1 = l.numbers r c k is to in inr (subst (λ z. IsSafeTo life deadline (f z)) one (leads_on k (k ∷ []) (c, is, to, (omega (arith, one)), refl)))

        by_row : (o : Option Row) → f r ≡ o → (next_of o ≡ None) ⊎ IsSafeTo life deadline (f (r + 1))
        by_row (Some (Row.Cell c)) is = by_next c c.next is refl
        by_row (Some o) is = inl refl
        by_row None is = inl refl

  pub whole_stays : (r : ℕ) → StandsAt (f r) r → IsSafeFrom life deadline f r × MayFollow life deadline f r
  whole_stays r stands = by_row (f r) refl stands
    where
      by_row : (o : Option Row) → f r ≡ o → StandsAt o r → IsSafeFrom life deadline f r × MayFollow life deadline f r
      by_row (Some x) is stands = (safe r x is, follows r x is)
      by_row None is stands = (λ low. absurd (omega (arith, stands, low)), inl (ap next_of is))
