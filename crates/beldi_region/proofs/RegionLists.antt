-- One more in a list in order, of keys alone and with what stands at them.
use Rattle.std.specs.{List.AllByRecursion, List.Sorted.IsStrictlySortedBy, Map.lookup, Map.keys_of, BTreeMap.is_at, Cmp.IsTotalOrder, Cmp.eq_by_cmp_equiv, Ordering.is_eq, Ordering.ordering_reverse, declared.cmp.Ordering.Ordering, declared.cmp.Ordering.TheVariants.Less, declared.cmp.Ordering.TheVariants.Greater}
use Rattle.std.proofs.lemmas.Cmp.{tied_itself}
use Rattle.std.proofs.lemmas.Map.{lookup-none}
use Rattle.std.proofs.lemmas.Map.Entries.{none_below_head, lookup_tail}
use Rattle.std.proofs.lemmas.Map.Keys.{sorted_head, sorted_tail}
use Rattle.std.proofs.Common.{◌≡◌, ℕ, zero, suc, ◌+◌, ◌<◌, ◌≤◌, Bool, true, false, cond, List, [], ◌∷◌, length, map, Option, Some, None, refl, ap, sym, ◌∙◌, slice_index_or, insert, remove, arith}

pub all_map : {A : Type 0} {P Q : A → Type 0} → ((x : A) → P x → Q x) → (xs : List A) → AllByRecursion P xs → AllByRecursion Q xs
all_map f [] a = tt
all_map f (x ∷ xs) a = (f x a.0, all_map f xs a.1)

pub at_each : {A : Type 0} (P : A → Type 0) (xs : List A) (i : ℕ) (d : A) → i < length xs → AllByRecursion P xs → P (slice_index_or xs i d)
at_each P [] i d l a = absurd (omega (arith, l))
at_each P (x ∷ xs) zero d l a = a.0
at_each P (x ∷ xs) (suc i) d l a = at_each P xs i d (omega (arith, l)) a.1

pub map_same : {A B : Type 0} {P : A → Type 0} (f g : A → B) → ((x : A) → P x → f x ≡ g x) → (xs : List A) → AllByRecursion P xs → map f xs ≡ map g xs
map_same f g h [] a = refl
map_same f g h (x ∷ xs) a = λ i. h x a.0 i ∷ map_same f g h xs a.1 i

pub any_default : {A : Type 0} (xs : List A) (i : ℕ) (d e : A) → i < length xs → slice_index_or xs i d ≡ slice_index_or xs i e
any_default [] i d e l = absurd (omega (arith, l))
any_default (x ∷ xs) zero d e l = refl
any_default (x ∷ xs) (suc i) d e l = any_default xs i d e (omega (arith, l))

pub map_inserted : {A B : Type 0} (f : A → B) (p : ℕ) (x : A) (xs : List A) → map f (insert xs p x) ≡ insert (map f xs) p (f x)
map_inserted f zero x xs = refl
map_inserted f (suc p) x [] = refl
map_inserted f (suc p) x (y ∷ ys) = ap (λ zs. f y ∷ zs) (map_inserted f p x ys)

pub all_inserted : {A : Type 0} (P : A → Type 0) (p : ℕ) (x : A) (xs : List A) → P x → AllByRecursion P xs → AllByRecursion P (insert xs p x)
all_inserted P zero x xs h a = (h, a)
all_inserted P (suc p) x [] h a = (h, tt)
all_inserted P (suc p) x (y ∷ ys) h a = (a.0, all_inserted P p x ys h a.1)

pub length_inserted : {A : Type 0} (p : ℕ) (x : A) (xs : List A) → length (insert xs p x) ≡ length xs + 1
length_inserted zero x xs = omega arith
length_inserted (suc p) x [] = refl
length_inserted (suc p) x (y ∷ ys) = let h = length_inserted p x ys in omega (arith, h)

pub map_removed : {A B : Type 0} (f : A → B) (p : ℕ) (xs : List A) → map f (remove xs p) ≡ remove (map f xs) p
map_removed f zero [] = refl
map_removed f zero (x ∷ xs) = refl
map_removed f (suc p) [] = refl
map_removed f (suc p) (x ∷ xs) = ap (λ ys. f x ∷ ys) (map_removed f p xs)

pub length_removed : {A : Type 0} (p : ℕ) (xs : List A) → p < length xs → length (remove xs p) + 1 ≡ length xs
length_removed p [] l = absurd (omega (arith, l))
length_removed zero (x ∷ xs) l = omega arith
length_removed (suc p) (x ∷ xs) l = let h = length_removed p xs (omega (arith, l)) in omega (arith, h)

pub all_both : {A : Type 0} (P Q : A → Type 0) (xs : List A) → AllByRecursion P xs → AllByRecursion Q xs → AllByRecursion (λ x. P x × Q x) xs
all_both P Q [] a b = tt
all_both P Q (x ∷ xs) a b = ((a.0, b.0), all_both P Q xs a.1 b.1)

pub all_removed : {A : Type 0} (P : A → Type 0) (p : ℕ) (xs : List A) → AllByRecursion P xs → AllByRecursion P (remove xs p)
all_removed P zero [] a = tt
all_removed P zero (x ∷ xs) a = a.1
all_removed P (suc p) [] a = tt
all_removed P (suc p) (x ∷ xs) a = (a.0, all_removed P p xs a.1)

swapped : {A : Type 0} (b c : Bool) (u v w : A) → (b ≡ true → c ≡ true → ⊥) → cond b u (cond c v w) ≡ cond c v (cond b u w)
swapped true true u v w h = absurd (h refl refl)
swapped true false u v w h = refl
swapped false true u v w h = refl
swapped false false u v w h = refl

pub unpassed : {A : Type 0} (b : Bool) (v : A) (r : Option A) → cond b (Some v) r ≡ None → (b ≡ false) × (r ≡ None)
unpassed true v r h = cc
unpassed false v r h = (refl, h)

module _ {K : Type 0} {R : K → K → Ordering} (o : IsTotalOrder R) where
  -- on both sides of a place, the key before it is lesser, and the one behind it greater
  pub record IsBetween (k : K) (p : ℕ) (ks : List K) : Type 0 where
    pub fits : p ≤ length ks
    pub below : (j : ℕ) (d : K) → j + 1 ≡ p → R k (slice_index_or ks j d) ≡ Greater
    pub above : (d : K) → p < length ks → R k (slice_index_or ks p d) ≡ Less

  lesser : (x y : K) → R x y ≡ Greater → R y x ≡ Less
  lesser x y h = o.antisymm y x ∙ ap ordering_reverse h

  greater_of : (x y : K) → R x y ≡ Less → R y x ≡ Greater
  greater_of x y h = o.antisymm y x ∙ ap ordering_reverse h

  -- the first key is lesser, where the place is behind it
  first_below : (k : K) (p : ℕ) (y : K) (ys : List K) → IsStrictlySortedBy R (y ∷ ys) → IsBetween k (suc p) (y ∷ ys) → R y k ≡ Less
  first_below k zero y ys s b = lesser k y (b.below 0 y (omega arith))
  first_below k (suc p) y ys s b =
      let fits : suc (suc p) ≤ suc (length ys) = b.fits in
      let z = slice_index_or ys p y in
      o.trans y z k (at_each (λ x. R y x ≡ Less) ys p y (omega (arith, fits)) (sorted_head R y ys s)) (lesser k z (b.below (suc p) y (omega arith)))

  later : (k : K) (p : ℕ) (y : K) (ys : List K) → IsBetween k (suc p) (y ∷ ys) → IsBetween k p ys
  later k p y ys b =
      let fits : suc p ≤ suc (length ys) = b.fits in
      record {
        fits = omega (arith, fits);
        below = λ j d e. b.below (suc j) d (omega (arith, e));
        above = λ d h. b.above d (omega (arith, h));
      }

  pub rising_inserted : (k : K) (p : ℕ) (ks : List K) → IsStrictlySortedBy R ks → IsBetween k p ks → IsStrictlySortedBy R (insert ks p k)
  unfolding IsStrictlySortedBy
  rising_inserted k zero [] s b = (tt, tt)
  rising_inserted k zero (y ∷ ys) s b =
      let here = b.above y (omega arith) in
      ((here, all_map {P = λ z. R y z ≡ Less} {Q = λ z. R k z ≡ Less} (λ z. o.trans k y z here) ys s.0), s)
  rising_inserted k (suc p) [] s b = let fits : suc p ≤ 0 = b.fits in absurd (omega (arith, fits))
  rising_inserted k (suc p) (y ∷ ys) s b = (all_inserted (λ z. R y z ≡ Less) p k ys (first_below k p y ys s b) s.0, rising_inserted k p ys s.1 (later k p y ys b))

  module _ {X : Type 0} where
    pub absent : (k : K) (p : ℕ) (es : List (K × X)) → IsStrictlySortedBy R (keys_of es) → IsBetween k p (keys_of es) → lookup (is_at (R k)) es ≡ None
    absent k p [] s b = refl
    absent k zero (e ∷ es) s b = lookup-none (is_at (R k)) (e ∷ es) (none_below_head o k e es s (b.above e.0 (omega arith)))
    absent k (suc p) (e ∷ es) s b =
        lookup_tail (is_at (R k)) e es (ap is_eq (greater_of e.0 k (first_below k p e.0 (keys_of es) s b)))
        ∙ absent k p es (sorted_tail R e.0 (keys_of es) s) (later k p e.0 (keys_of es) b)

    pub lookup_inserted : (q : K) (x : K × X) (p : ℕ) (es : List (K × X)) → lookup (is_at (R x.0)) es ≡ None → lookup (is_at (R q)) (insert es p x) ≡ cond (is_at (R q) x.0) (Some x.1) (lookup (is_at (R q)) es)
    lookup_inserted q x zero es h = refl
    lookup_inserted q x (suc p) [] h = refl
    lookup_inserted q x (suc p) (e ∷ es) h =
        let n = unpassed (is_at (R x.0) e.0) e.1 (lookup (is_at (R x.0)) es) h in
        ap (cond (is_at (R q) e.0) (Some e.1)) (lookup_inserted q x p es n.1)
        ∙ swapped (is_at (R q) e.0) (is_at (R q) x.0) (Some e.1) (Some x.1) (lookup (is_at (R q)) es) (λ b c. let clash : true ≡ false = sym b ∙ (eq_by_cmp_equiv o).congr q x.0 e.0 c ∙ n.0 in cc)

    pub lookup_removed : (q : K) (p : ℕ) (es : List (K × X)) → ((d : K) → p < length es → is_at (R q) (slice_index_or (keys_of es) p d) ≡ false) → lookup (is_at (R q)) (remove es p) ≡ lookup (is_at (R q)) es
    lookup_removed q zero [] n = refl
    lookup_removed q zero (e ∷ es) n = sym (ap (λ b. cond b (Some e.1) (lookup (is_at (R q)) es)) (n e.0 (omega arith)))
    lookup_removed q (suc p) [] n = refl
    lookup_removed q (suc p) (e ∷ es) n = ap (cond (is_at (R q) e.0) (Some e.1)) (lookup_removed q p es (λ d l. n d (omega (arith, l))))

    none_past : (k : K) (es : List (K × X)) → AllByRecursion (λ x. R k x ≡ Less) (keys_of es) → lookup (is_at (R k)) es ≡ None
    none_past k [] a = refl
    none_past k (e ∷ es) a = ap (λ c. cond (is_eq c) (Some e.1) (lookup (is_at (R k)) es)) a.0 ∙ none_past k es a.1

    -- the key at a place is not found once it is taken away
    pub lookup_gone : (p : ℕ) (es : List (K × X)) (d : K) → IsStrictlySortedBy R (keys_of es) → p < length (keys_of es) → lookup (is_at (R (slice_index_or (keys_of es) p d))) (remove es p) ≡ None
    lookup_gone p [] d s l = absurd (omega (arith, l))
    lookup_gone zero (e ∷ es) d s l = none_past e.0 es (sorted_head R e.0 (keys_of es) s)
    lookup_gone (suc p) (e ∷ es) d s l =
        let z = slice_index_or (keys_of es) p d in
        let less : p < length (keys_of es) = omega (arith, l) in
        let past = at_each (λ x. R e.0 x ≡ Less) (keys_of es) p d less (sorted_head R e.0 (keys_of es) s) in
        ap (λ c. cond (is_eq c) (Some e.1) (lookup (is_at (R z)) (remove es p))) (greater_of e.0 z past) ∙ lookup_gone p es d (sorted_tail R e.0 (keys_of es) s) less

    -- the value at a place is found by the key there
    pub lookup_here : (p : ℕ) (es : List (K × X)) (d : K × X) → IsStrictlySortedBy R (keys_of es) → p < length es → lookup (is_at (R (slice_index_or es p d).0)) es ≡ Some (slice_index_or es p d).1
    lookup_here p [] d s l = absurd (omega (arith, l))
    lookup_here zero (e ∷ es) d s l = ap (λ b. cond b (Some e.1) (lookup (is_at (R e.0)) es)) (ap is_eq (tied_itself o e.0))
    lookup_here (suc p) (e ∷ es) d s l =
        let z = slice_index_or es p d in
        let less : p < length es = omega (arith, l) in
        let past = at_each (λ x. R e.0 x.0 ≡ Less) es p d less (keys_all es (sorted_head R e.0 (keys_of es) s)) in
        lookup_tail (is_at (R z.0)) e es (ap is_eq (greater_of e.0 z.0 past)) ∙ lookup_here p es d (sorted_tail R e.0 (keys_of es) s) less
      where
        keys_all : (xs : List (K × X)) → AllByRecursion (λ k. R e.0 k ≡ Less) (keys_of xs) → AllByRecursion (λ x. R e.0 x.0 ≡ Less) xs
        keys_all [] a = tt
        keys_all (x ∷ xs) a = (a.0, keys_all xs a.1)

  pub rising_removed : (p : ℕ) (ks : List K) → IsStrictlySortedBy R ks → IsStrictlySortedBy R (remove ks p)
  unfolding IsStrictlySortedBy
  rising_removed zero [] s = tt
  rising_removed zero (y ∷ ys) s = s.1
  rising_removed (suc p) [] s = tt
  rising_removed (suc p) (y ∷ ys) s = (all_removed (λ z. R y z ≡ Less) p ys s.0, rising_removed p ys s.1)
