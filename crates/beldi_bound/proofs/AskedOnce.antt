-- The answers that the rows hold for an intent are one list, and answers that they hold begin it.
use Rattle.beldi_invariant.proofs.Names.{Answer, Body, Deployment, IntentId, List, None, Rows, Some, [], ap, append-nil, append_assoc, refl, same_some, subst, sym, ◌++◌, ◌∙◌, ◌∷◌, ◌≡◌}
use Rattle.beldi_bound.specs.Cost.{Asked, next_held}

module _ (d : Deployment) (e : Rows) (id : IntentId) (b : Body) where
  -- each of these answers is held after those before it
  abbrev pub AreHeld : List Answer → Type 0
  AreHeld xs = (front : List Answer) (a : Answer) (rest : List Answer) → front ++ a ∷ rest ≡ xs → next_held d e id b front ≡ Some a

  goes_on : (ys : List Answer) → Asked d e id b ys → (front xs rest : List Answer) → AreHeld (front ++ xs) → front ++ rest ≡ ys → (later : List Answer) × ((front ++ xs) ++ later ≡ ys)
  goes_on ys asked front [] rest held is = (rest, ap (λ zs. zs ++ rest) (append-nil front) ∙ is)
  goes_on ys asked front (a ∷ xs) [] held is = let clash : None ≡ Some a = sym (subst (λ zs. next_held d e id b zs ≡ None) (sym is ∙ append-nil front) asked.last) ∙ held front a xs refl in cc
  goes_on ys asked front (a ∷ xs) (c ∷ rest) held is =
      let same : a ≡ c = same_some (sym (held front a xs refl) ∙ asked.each front c rest is) in
      let more : (front ++ a ∷ []) ++ xs ≡ front ++ a ∷ xs = append_assoc front (a ∷ []) xs in
      let k = goes_on ys asked (front ++ a ∷ []) xs rest (subst AreHeld (sym more) held) (append_assoc front (a ∷ []) rest ∙ ap (λ z. front ++ z ∷ rest) same ∙ is) in
      (k.0, ap (λ zs. zs ++ k.0) (sym more) ∙ k.1)

  pub asked_front : (xs ys : List Answer) → AreHeld xs → Asked d e id b ys → (later : List Answer) × (xs ++ later ≡ ys)
  asked_front xs ys held asked = goes_on ys asked [] xs ys held refl

  pub asked_is_one : (xs ys : List Answer) → Asked d e id b xs → Asked d e id b ys → xs ≡ ys
  asked_is_one xs ys f g = let k = asked_front xs ys f.each g in by_later k.0 k.1
    where
      by_later : (later : List Answer) → xs ++ later ≡ ys → xs ≡ ys
      by_later [] is = sym (append-nil xs) ∙ is
      by_later (a ∷ rest) is = let clash : None ≡ Some a = sym f.last ∙ g.each xs a rest is in cc
