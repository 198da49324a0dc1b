-- Keys are compared by their fronts, and then by their kinds.
use Rattle.std.{specs.Ordering.nat_cmp, specs.Ordering.ordering_then, specs.Cmp.nat_cmp_is, proofs.lemmas.Cmp.ranked, specs.declared.cmp.Ordering.Ordering, specs.declared.cmp.Ordering.TheVariants.Less, specs.declared.cmp.Ordering.TheVariants.Equal, specs.declared.cmp.Ordering.TheVariants.Greater}
use Rattle.std.proofs.Common.{◌≡◌, ℕ, ◌+◌, ◌*◌, ◌^◌, ◌<◌, refl, ap, ap₂, sym, ◌∙◌, arith}
use Rattle.beldi_row.specs.Key.{RowKey, front_of, kind_cmp, key_cmp, rank_of, rest_cmp, ticket_of}
use Rattle.beldi_row.specs.declared.key.Kind.{Kind, TheVariants.Intent, TheVariants.ReadLog, TheVariants.Invoke, TheVariants.Data, TheVariants.Shadow, TheVariants.Lockset}

-- three numbers, of which the later are small, compared as one
module _ (h r t i s u : ℕ) (few : r < 256) (some : s < 256) (small : t < 2 ^ 32) (least : u < 2 ^ 32) where
  abbrev one : ℕ
  one = (h * 256 + r) * 2 ^ 32 + t

  abbrev other : ℕ
  other = (i * 256 + s) * 2 ^ 32 + u

  by_parts : (o p q : Ordering) → o ≡ nat_cmp h i → p ≡ nat_cmp r s → q ≡ nat_cmp t u → ordering_then o (ordering_then p q) ≡ nat_cmp one other
  by_parts Less p q e f g = let a = ranked h i Less e in nat_cmp_is one other Less (omega (arith, a, few, some, small, least))
  by_parts Greater p q e f g = let a = ranked h i Greater e in nat_cmp_is one other Greater (omega (arith, a, few, some, small, least))
  by_parts Equal Less q e f g = let a = ranked h i Equal e in let b = ranked r s Less f in nat_cmp_is one other Less (omega (arith, a, b, small, least))
  by_parts Equal Greater q e f g = let a = ranked h i Equal e in let b = ranked r s Greater f in nat_cmp_is one other Greater (omega (arith, a, b, small, least))
  by_parts Equal Equal Less e f g = let a = ranked h i Equal e in let b = ranked r s Equal f in let c = ranked t u Less g in nat_cmp_is one other Less (omega (arith, a, b, c))
  by_parts Equal Equal Equal e f g = let a = ranked h i Equal e in let b = ranked r s Equal f in let c = ranked t u Equal g in nat_cmp_is one other Equal (omega (arith, a, b, c))
  by_parts Equal Equal Greater e f g = let a = ranked h i Equal e in let b = ranked r s Equal f in let c = ranked t u Greater g in nat_cmp_is one other Greater (omega (arith, a, b, c))

few_ranks : (k : Kind) → rank_of k < 256
few_ranks (Intent a) = omega arith
few_ranks (ReadLog p) = omega arith
few_ranks (Invoke p) = omega arith
few_ranks (Data t k r) = omega arith
few_ranks (Shadow x t k r) = omega arith
few_ranks (Lockset a b t k) = omega arith

-- what was compared already is equal where it is compared again
again : (o p q x : Ordering) → ordering_then (ordering_then o (ordering_then p q)) (ordering_then p (ordering_then q x)) ≡ ordering_then o (ordering_then p (ordering_then q x))
again Less p q x = refl
again Greater p q x = refl
again Equal Less q x = refl
again Equal Greater q x = refl
again Equal Equal Less x = refl
again Equal Equal Greater x = refl
again Equal Equal Equal x = refl

first : (o p : Ordering) → (o ≡ Equal → ⊥) → ordering_then o p ≡ o
first Less p h = refl
first Greater p h = refl
first Equal p h = absurd (h refl)

-- two keys with these fronts
module _ (a b : RowKey) (f g : ℕ) (af : f ≡ front_of a.home a.kind) (bg : g ≡ front_of b.home b.kind) (small : ticket_of a.kind < 2 ^ 32) (least : ticket_of b.kind < 2 ^ 32) where
  by_fronts : ordering_then (nat_cmp f g) (kind_cmp a.kind b.kind) ≡ key_cmp a b
  by_fronts =
      ap₂ (λ x y. ordering_then (nat_cmp x y) (kind_cmp a.kind b.kind)) af bg
      ∙ ap (λ o. ordering_then o (kind_cmp a.kind b.kind)) (sym (by_parts a.home (rank_of a.kind) (ticket_of a.kind) b.home (rank_of b.kind) (ticket_of b.kind) (few_ranks a.kind) (few_ranks b.kind) small least _ _ _ refl refl refl))
      ∙ again (nat_cmp a.home b.home) (nat_cmp (rank_of a.kind) (rank_of b.kind)) (nat_cmp (ticket_of a.kind) (ticket_of b.kind)) (rest_cmp a.kind b.kind)

  pub by_kinds : nat_cmp f g ≡ Equal → kind_cmp a.kind b.kind ≡ key_cmp a b
  by_kinds same = sym (ap (λ o. ordering_then o (kind_cmp a.kind b.kind)) same) ∙ by_fronts

  pub immediately : (nat_cmp f g ≡ Equal → ⊥) → nat_cmp f g ≡ key_cmp a b
  immediately unlike = sym (first _ _ unlike) ∙ by_fronts
