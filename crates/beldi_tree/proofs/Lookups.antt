-- Entries that are searched from the front, before a map.
use Rattle.std.{proofs.lemmas.Map.lookup-set_value, specs.Cmp.Lexicographic.nat_list_eq_equiv, specs.Cmp.Lexicographic.texts_ties, specs.Map.set_value, specs.Prelude.is_some}
use Rattle.beldi_tree.specs.Bindings.{IsFirst, with_all}
use Rattle.beldi_tree.proofs.Names.{Bindings, Bool, List, None, Option, Some, Value, [], ap, arith, cond, false, get_or, is_name, length, lookup, nat_cmp-IsAntisymmetric, nat_list_cmp_total, option_or, refl, same_map, same_text, set, slice_cmp-IsAntisymmetric, subst, suc, sym, true, ℕ, ◌++◌, ◌<◌, ◌∙◌, ◌∷◌, ◌≡◌}
use Rattle.beldi_tree.proofs.Names.Nat
use Rattle.beldi_tree.proofs.Names.map

-- an entry that is the first one to pass
module _ {K X : Type 0} (t : K → Bool) where
  first_at : (es : List (K × X)) (i : ℕ) (d : K × X) → i < length es → t (get_or es i d).0 ≡ true → ((k : ℕ) → k < i → (d : K × X) → t (get_or es k d).0 ≡ false) → lookup t es ≡ Some (get_or es i d).1
  first_at [] i d within there before = absurd (omega arith)
  first_at (e ∷ es) Nat.zero d within there before = ap (λ b. cond b (Some e.1) (lookup t es)) there
  first_at (e ∷ es) (suc i) d within there before = ap (λ b. cond b (Some e.1) (lookup t es)) (before 0 (omega arith) d) ∙ first_at es i d (omega arith) there (λ k l. before (suc k) (omega arith))

  set_first : (es : List (K × X)) (i : ℕ) (d : K × X) (v : X) → i < length es → t (get_or es i d).0 ≡ true → ((k : ℕ) → k < i → (d : K × X) → t (get_or es k d).0 ≡ false) → set es i ((get_or es i d).0, v) ≡ set_value t es v
  set_first [] i d v within there before = absurd (omega arith)
  set_first (e ∷ es) Nat.zero d v within there before = sym (ap (λ b. cond b ((e.0, v) ∷ es) (e ∷ set_value t es v)) there)
  set_first (e ∷ es) (suc i) d v within there before =
      ap (λ fs. e ∷ fs) (set_first es i d v (omega arith) there (λ k l. before (suc k) (omega arith)))
      ∙ sym (ap (λ b. cond b ((e.0, v) ∷ es) (e ∷ set_value t es v)) (before 0 (omega arith) d))

  none_passes : (es : List (K × X)) → ((i : ℕ) → i < length es → (d : K × X) → t (get_or es i d).0 ≡ false) → lookup t es ≡ None
  none_passes [] h = refl
  none_passes (e ∷ es) h = ap (λ b. cond b (Some e.1) (lookup t es)) (h 0 (omega arith) e) ∙ none_passes es (λ i l. h (suc i) (omega arith))

by_two : (b : Bool) (v : Value) (o p : Option Value) → option_or (cond b (Some v) o) p ≡ cond b (Some v) (option_or o p)
by_two true v o p = refl
by_two false v o p = refl

-- what stands in front counts
all_get : (es : List (List ℕ × Value)) (m : Bindings) (q : List ℕ) → map.get (with_all es m) q ≡ option_or (lookup (is_name q) es) (map.get m q)
all_get [] m q = refl
all_get (e ∷ es) m q =
    map.get-insert nat_list_cmp_total (with_all es m) e.0 e.1 q ∙ ap (λ b. cond b (Some e.1) (map.get (with_all es m) q)) (sym (texts_ties q e.0))
    ∙ ap (cond (is_name q e.0) (Some e.1)) (all_get es m q) ∙ sym (by_two (is_name q e.0) e.1 (lookup (is_name q) es) (map.get m q))

pub get_first : (es : List (List ℕ × Value)) (m : Bindings) (q : List ℕ) (i : ℕ) (d : List ℕ × Value) → IsFirst es q (Some i) → d ≡ get_or es i d → Some d.1 ≡ map.get (with_all es m) q
get_first es m q i d is at =
    ap (λ e. Some e.1) at ∙ sym (ap (λ o. option_or o (map.get m q)) (first_at (is_name q) es i d is.0 (is.1 d) is.2)) ∙ sym (all_get es m q)

none_there : (es : List (List ℕ × Value)) (q : List ℕ) → IsFirst es q None → lookup (is_name q) es ≡ None
none_there es q is = none_passes (is_name q) es is

pub get_after : (es : List (List ℕ × Value)) (m : Bindings) (q : List ℕ) → IsFirst es q None → map.get m q ≡ map.get (with_all es m) q
get_after es m q is = sym (all_get es m q ∙ ap (λ o. option_or o (map.get m q)) (none_there es q is))

-- bindings that differ at one name alone
one_more : (m n : Bindings) (k : List ℕ) (v : Value) → ((q : List ℕ) → map.get n q ≡ cond (is_name q k) (Some v) (map.get m q)) → n ≡ map.insert m k v
one_more m n k v h = same_map nat_list_cmp_total (slice_cmp-IsAntisymmetric nat_cmp-IsAntisymmetric) n (map.insert m k v) (λ q.
    h q ∙ ap (λ b. cond b (Some v) (map.get m q)) (texts_ties q k) ∙ sym (map.get-insert nat_list_cmp_total m k v q))

pub set_at : (es : List (List ℕ × Value)) (m : Bindings) (k : List ℕ) (v : Value) (i : ℕ) (d : List ℕ × Value) → IsFirst es k (Some i) → d ≡ get_or es i d → with_all (set es i (d.0, v)) m ≡ map.insert (with_all es m) k v
set_at es m k v i d is at =
    let same : set es i (d.0, v) ≡ set_value (is_name k) es v = ap (λ e. set es i (e.0, v)) at ∙ set_first (is_name k) es i d v is.0 (is.1 d) is.2 in
    let some : lookup (is_name k) es ≡ Some (get_or es i d).1 = first_at (is_name k) es i d is.0 (is.1 d) is.2 in
    one_more (with_all es m) (with_all (set es i (d.0, v)) m) k v (λ q.
    all_get (set es i (d.0, v)) m q
    ∙ ap (λ fs. option_or (lookup (is_name q) fs) (map.get m q)) same
    ∙ ap (λ o. option_or o (map.get m q)) (lookup-set_value nat_list_eq_equiv (is_name k) (λ x y h. nat_list_eq_equiv.congr k x y h) q v es (ap is_some some))
    ∙ by_two (is_name k q) v (lookup (is_name q) es) (map.get m q)
    ∙ ap (λ b. cond b (Some v) (option_or (lookup (is_name q) es) (map.get m q))) (nat_list_eq_equiv.symm k q)
    ∙ ap (cond (is_name q k) (Some v)) (sym (all_get es m q)))

after : (b : Bool) (v : Value) (o p : Option Value) → (b ≡ true → o ≡ None) → option_or o (cond b (Some v) p) ≡ cond b (Some v) (option_or o p)
after true v o p h = ap (λ r. option_or r (Some v)) (h refl)
after false v o p h = refl

-- a name that does not stand in front is set behind
pub set_after : (es : List (List ℕ × Value)) (m : Bindings) (k : List ℕ) (v : Value) → IsFirst es k None → with_all es (map.insert m k v) ≡ map.insert (with_all es m) k v
set_after es m k v is =
    one_more (with_all es m) (with_all es (map.insert m k v)) k v (λ q.
    all_get es (map.insert m k v) q
    ∙ ap (option_or (lookup (is_name q) es)) (map.get-insert nat_list_cmp_total m k v q ∙ ap (λ b. cond b (Some v) (map.get m q)) (sym (texts_ties q k)))
    ∙ after (is_name q k) v (lookup (is_name q) es) (map.get m q) (λ h. subst (λ p. lookup (is_name p) es ≡ None) (sym (same_text q k (sym h))) (none_there es k is))
    ∙ ap (cond (is_name q k) (Some v)) (sym (all_get es m q)))

pub pushed_behind : (es : List (List ℕ × Value)) (m : Bindings) (k : List ℕ) (v : Value) → with_all (es ++ (k, v) ∷ []) m ≡ with_all es (map.insert m k v)
pushed_behind [] m k v = refl
pushed_behind (e ∷ es) m k v = ap (λ n. map.insert n e.0 e.1) (pushed_behind es m k v)
