-- A map that is made anew from another one's entries, one after another.
use Rattle.beldi_tree.proofs.Names.{AllByRecursion, Bool, CmpEqualImpliesEq, Equal, FinMap, Greater, IsStrictlySortedBy, IsTotalOrder, Less, List, None, Ordering, Some, [], ap, cond, false, get, get-insert, insert, is_at, is_eq, keys_of, lookup, option_or, refl, same_map, sorted_head, sorted_tail, sym, true, ◌∙◌, ◌∷◌, ◌≡◌}

-- the entries that are left, with what the new map has, are those of the old one
pub record IsCopied {K X : Type 0} (R : K → K → Ordering) (copy old : FinMap R X) (es : List (K × X)) : Type 0 where
  pub sorted : IsStrictlySortedBy R (keys_of es)
  pub together : (q : K) → option_or (lookup (is_at (R q)) es) (get copy q) ≡ get old q

one_key : {K : Type 0} {R : K → K → Ordering} → CmpEqualImpliesEq R → (q k : K) (r : Ordering) → R q k ≡ r → is_eq r ≡ true → q ≡ k
one_key exact q k Less is h = cc
one_key exact q k Equal is h = exact q k is
one_key exact q k Greater is h = cc

module _ {K X : Type 0} {R : K → K → Ordering} (o : IsTotalOrder R) (exact : CmpEqualImpliesEq R) where
  pub all_copied : (copy old : FinMap R X) → IsCopied R copy old [] → copy ≡ old
  all_copied copy old h = same_map o exact copy old h.together

  none_there : (k : K) (es : List (K × X)) → AllByRecursion (λ y. R k y ≡ Less) (keys_of es) → lookup (is_at (R k)) es ≡ None
  none_there k [] h = refl
  none_there k (e ∷ es) h = ap (λ r. cond (is_eq r) (Some e.1) (lookup (is_at (R k)) es)) h.0 ∙ none_there k es h.1

  with_one : (copy old : FinMap R X) (k : K) (v : X) (es : List (K × X)) → IsCopied R copy old ((k, v) ∷ es) → (q : K) (b : Bool) → is_eq (R q k) ≡ b → option_or (lookup (is_at (R q)) es) (get (insert copy k v) q) ≡ get old q
  with_one copy old k v es h q true is =
      ap (λ r. option_or r (get (insert copy k v) q)) (ap (λ p. lookup (is_at (R p)) es) (one_key exact q k (R q k) refl is) ∙ none_there k es (sorted_head R k (keys_of es) h.sorted))
      ∙ get-insert o copy k v q ∙ ap (λ b. cond b (Some v) (get copy q)) is
      ∙ ap (λ b. option_or (cond b (Some v) (lookup (is_at (R q)) es)) (get copy q)) (sym is) ∙ h.together q
  with_one copy old k v es h q false is =
      ap (option_or (lookup (is_at (R q)) es)) (get-insert o copy k v q ∙ ap (λ b. cond b (Some v) (get copy q)) is)
      ∙ ap (λ b. option_or (cond b (Some v) (lookup (is_at (R q)) es)) (get copy q)) (sym is) ∙ h.together q

  pub one_copied : (copy old : FinMap R X) (k : K) (v : X) (es : List (K × X)) → IsCopied R copy old ((k, v) ∷ es) → IsCopied R (insert copy k v) old es
  one_copied copy old k v es h = record { sorted = sorted_tail R k (keys_of es) h.sorted; together = λ q. with_one copy old k v es h q (is_eq (R q k)) refl }
