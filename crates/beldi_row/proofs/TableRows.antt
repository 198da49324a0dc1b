-- The map that a table's entries make.
use Rattle.std.specs.FinMap.{FinMap, empty, len-entries, entries, entries-insert, from_entries, find, get, insert, remove, len, get-from_entries, get-insert, get-remove, same_map, get_tied, len-insert, len-empty}
use Rattle.std.{specs.Map.lookup, specs.Map.keys_of, proofs.lemmas.List.nil_from_length, specs.BTreeMap.is_at, specs.Cmp.IsTotalOrder, specs.Cmp.Equal-is, proofs.lemmas.Cmp.eq_by_cmp_equiv, proofs.lemmas.Cmp.tied_itself, proofs.lemmas.Map.Lookups.CmpEqualImpliesEq, proofs.lemmas.Map.Keys.sorted_head, proofs.lemmas.Map.Keys.sorted_tail, specs.List.Sorted.IsStrictlySortedBy, specs.List.AllByRecursion, specs.declared.cmp.Ordering.Ordering, specs.declared.cmp.Ordering.TheVariants.Less, specs.Ordering.is_eq, specs.FinMap.Entries.put, specs.FinMap.Entries.by_order}
use Rattle.std.proofs.Common.{◌≡◌, ◌+◌, true, false, cond, List, [], ◌∷◌, length, None, Some, refl, ap, sym, ◌∙◌, is_some, arith}

module _ {K X : Type 0} {R : K → K → Ordering} (o : IsTotalOrder R) (exact : CmpEqualImpliesEq R) where
  find_lookup : (es : List (K × X)) (q : K) → find R q es ≡ lookup (is_at (R q)) es
  find_lookup [] q = refl
  find_lookup (e ∷ es) q = ap (cond (is_at (R q) e.0) (Some e.1)) (find_lookup es q)

  -- what the map that the entries make has at a key
  pub get_rows : (es : List (K × X)) (q : K) → get (from_entries {R = R} es) q ≡ lookup (is_at (R q)) es
  get_rows es q = get-from_entries o es q ∙ find_lookup es q

  pub one_set : (es fs : List (K × X)) (k : K) (v : X) → ((q : K) → lookup (is_at (R q)) fs ≡ cond (is_at (R k) q) (Some v) (lookup (is_at (R q)) es)) → from_entries {R = R} fs ≡ insert (from_entries es) k v
  one_set es fs k v h = same_map o exact _ _ (λ q.
      get_rows fs q ∙ h q ∙ ap (λ b. cond b (Some v) (lookup (is_at (R q)) es)) ((eq_by_cmp_equiv o).symm k q)
      ∙ sym (get-insert o (from_entries es) k v q ∙ ap (cond (is_at (R q) k) (Some v)) (get_rows es q)))

  pub one_gone : (es fs : List (K × X)) (k : K) → ((q : K) → lookup (is_at (R q)) fs ≡ cond (is_at (R k) q) None (lookup (is_at (R q)) es)) → from_entries {R = R} fs ≡ remove (from_entries es) k
  one_gone es fs k h = same_map o exact _ _ (λ q.
      get_rows fs q ∙ h q ∙ ap (λ b. cond b None (lookup (is_at (R q)) es)) ((eq_by_cmp_equiv o).symm k q)
      ∙ sym (get-remove o (from_entries es) k q ∙ ap (cond (is_at (R q) k) None) (get_rows es q)))

  -- what was taken out of where nothing is
  pub none_removed : (m : FinMap R X) (k : K) → get m k ≡ None → remove m k ≡ m
  none_removed m k h = same_map o exact _ _ (λ q. get-remove o m k q ∙ (elim (is_eq (R q k)) as (λ b. is_eq (R q k) ≡ b → cond b None (get m q) ≡ get m q) [
    | true ↦ λ e. sym h ∙ get_tied o m q k ((Equal-is (R q k)).0 e)
    | false ↦ λ e. refl
  ]) refl)

  pub get_set : (m : FinMap R X) (k : K) (v : X) → get (insert m k v) k ≡ Some v
  get_set m k v = get-insert o m k v k ∙ ap (λ r. cond (is_eq r) (Some v) (get m k)) (tied_itself o k)

  -- what is there is set again
  pub same_set : (m : FinMap R X) (k : K) (v : X) → get m k ≡ Some v → insert m k v ≡ m
  same_set m k v h = same_map o exact _ _ (λ q. get-insert o m k v q ∙ (elim (is_eq (R q k)) as (λ b. is_eq (R q k) ≡ b → cond b (Some v) (get m q) ≡ get m q) [
    | true ↦ λ e. sym h ∙ get_tied o m q k ((Equal-is (R q k)).0 e)
    | false ↦ λ e. refl
  ]) refl)

  none_above : (k : K) (es : List (K × X)) → AllByRecursion (λ y. R k y ≡ Less) (keys_of es) → find R k es ≡ None
  none_above k [] h = refl
  none_above k (e ∷ es) h = ap (λ r. cond (is_eq r) (Some e.1) (find R k es)) h.0 ∙ none_above k es h.1

  pub len_rows : (es : List (K × X)) → IsStrictlySortedBy R (keys_of es) → len (from_entries {R = R} es) ≡ length es
  len_rows [] s = len-empty R X
  len_rows (e ∷ es) s =
      len-insert o (from_entries es) e.0 e.1
      ∙ ap (λ r. cond (is_some r) (len (from_entries {R = R} es)) (len (from_entries {R = R} es) + 1)) (get-from_entries o es e.0 ∙ none_above e.0 es (sorted_head R e.0 (keys_of es) s))
      ∙ ap (λ n. n + 1) (len_rows es (sorted_tail R e.0 (keys_of es) s)) ∙ omega arith

  put_front : (k : K) (v : X) (es : List (K × X)) → AllByRecursion (λ y. R k y ≡ Less) (keys_of es) → put R k v es ≡ (k, v) ∷ es
  put_front k v [] h = refl
  put_front k v (e ∷ es) h = ap (λ r. by_order r ((k, v) ∷ e ∷ es) ((e.0, v) ∷ es) (e ∷ put R k v es)) h.0

  -- entries in order are those of their map
  pub entries_rows : (es : List (K × X)) → IsStrictlySortedBy R (keys_of es) → entries (from_entries {R = R} es) ≡ es
  entries_rows [] s = nil_from_length (entries (empty {X = X} {R = R})) (sym (len-entries (empty {X = X} {R = R})) ∙ len-empty R X)
  entries_rows (e ∷ es) s = entries-insert o (from_entries es) e.0 e.1 ∙ ap (put R e.0 e.1) (entries_rows es (sorted_tail R e.0 (keys_of es) s)) ∙ put_front e.0 e.1 es (sorted_head R e.0 (keys_of es) s)
