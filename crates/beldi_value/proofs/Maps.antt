-- The finite map that a map's entries make.
use Rattle.beldi_value.proofs.Names.{AllByRecursion, CmpEqualImpliesEq, IsStrictlySortedBy, IsTotalOrder, Less, List, None, Ordering, Some, [], ap, by_order, cond, empty, entries, entries-insert, eq_by_cmp_equiv, find, from_entries, get, get-from_entries, get-insert, get-remove, insert, is_at, is_eq, keys_of, len-empty, len-entries, lookup, nil_from_length, put, refl, remove, same_map, sorted_head, sorted_tail, sym, ◌∙◌, ◌∷◌, ◌≡◌}

module _ {K X : Type 0} {R : K → K → Ordering} (o : IsTotalOrder R) where
  find_lookup : (es : List (K × X)) (q : K) → find R q es ≡ lookup (is_at (R q)) es
  find_lookup [] q = refl
  find_lookup (e ∷ es) q = ap (cond (is_at (R q) e.0) (Some e.1)) (find_lookup es q)

  -- what the map that the entries make has at a key
  pub get_made : (es : List (K × X)) (q : K) → get (from_entries {R = R} es) q ≡ lookup (is_at (R q)) es
  get_made es q = get-from_entries o es q ∙ find_lookup es q

  put_front : (k : K) (v : X) (es : List (K × X)) → AllByRecursion (λ y. R k y ≡ Less) (keys_of es) → put R k v es ≡ (k, v) ∷ es
  put_front k v [] h = refl
  put_front k v (e ∷ es) h = ap (λ r. by_order r ((k, v) ∷ e ∷ es) ((e.0, v) ∷ es) (e ∷ put R k v es)) h.0

  -- entries in order are those of their map
  pub entries_made : (es : List (K × X)) → IsStrictlySortedBy R (keys_of es) → entries (from_entries {R = R} es) ≡ es
  entries_made [] s = nil_from_length (entries (empty {X = X} {R = R})) (sym (len-entries (empty {X = X} {R = R})) ∙ len-empty R X)
  entries_made (e ∷ es) s = entries-insert o (from_entries es) e.0 e.1 ∙ ap (put R e.0 e.1) (entries_made es (sorted_tail R e.0 (keys_of es) s)) ∙ put_front e.0 e.1 es (sorted_head R e.0 (keys_of es) s)

  module _ (exact : CmpEqualImpliesEq R) where
    -- entries that differ at one key, where they have a value ..
    pub set_made : (es fs : List (K × X)) (k : K) (v : X) → ((q : K) → lookup (is_at (R q)) fs ≡ cond (is_at (R k) q) (Some v) (lookup (is_at (R q)) es)) → from_entries {R = R} fs ≡ insert (from_entries es) k v
    set_made es fs k v h = same_map o exact _ _ (λ q.
        get_made fs q ∙ h q ∙ ap (λ b. cond b (Some v) (lookup (is_at (R q)) es)) ((eq_by_cmp_equiv o).symm k q)
        ∙ sym (get-insert o (from_entries es) k v q ∙ ap (cond (is_eq (R q k)) (Some v)) (get_made es q)))

    -- .. or none
    pub unset_made : (es fs : List (K × X)) (k : K) → ((q : K) → lookup (is_at (R q)) fs ≡ cond (is_at (R k) q) None (lookup (is_at (R q)) es)) → from_entries {R = R} fs ≡ remove (from_entries es) k
    unset_made es fs k h = same_map o exact _ _ (λ q.
        get_made fs q ∙ h q ∙ ap (λ b. cond b None (lookup (is_at (R q)) es)) ((eq_by_cmp_equiv o).symm k q)
        ∙ sym (get-remove o (from_entries es) k q ∙ ap (cond (is_eq (R q k)) None) (get_made es q)))
