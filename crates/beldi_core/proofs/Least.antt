-- The least number past another, of the entries of a map.
use Rattle.std.specs.Prelude.{All}
use Rattle.beldi_core.proofs.Names.{Bool, Bor, Equal-is, IsLeastPast, IsSome, IsStrictlySortedBy, Less, List, MatchOption, MatchOrdering, None, Option, Run, RunMap, Some, T, [], ap, arith, below_all, cond, entries_rows, entries_sorted, false, filter, find, first_past, ge_from_not_lt, get-entries, ltb-false, ltb-true, if◌then◌else◌, is_at, is_eq, is_lt, is_sorted, keys_of, le-ltb, lookup, lt-ltb, nat_cmp, nat_cmp-IsAntisymmetric, nat_cmp_total, nat_lt, option_map, ranks, refl, subst, suc, sym, tied_itself, true, ℕ, ◌&&◌, ◌<◌, ◌∙◌, ◌∷◌, ◌≡◌, ◌≤◌}
use Rattle.beldi_core.proofs.Truths.{first, second, test_true, less}
use Rattle.beldi_core.proofs.Names.map

apart : (j k : ℕ) → (j ≡ k → ⊥) → is_eq (nat_cmp j k) ≡ false
apart j k h = (elim (is_eq (nat_cmp j k)) as (λ b. is_eq (nat_cmp j k) ≡ b → b ≡ false) [
  | true ↦ λ e. absurd (h (nat_cmp-IsAntisymmetric j k ((Equal-is (nat_cmp j k)).0 e)))
  | false ↦ λ e. refl
]) refl

below : (j k : ℕ) → is_lt (nat_cmp j k) ≡ true → j < k
below j k h = subst (λ r. MatchOrdering r (j < k) (j ≡ k) (k < j)) (less (nat_cmp j k) h) (ranks j k)

-- an entry of another key is passed over
skip : (j : ℕ) (e : ℕ × Run) (es : List (ℕ × Run)) → (j ≡ e.0 → ⊥) → find nat_cmp j (e ∷ es) ≡ find nat_cmp j es
skip j e es h = ap (λ b. cond b (Some e.1) (find nat_cmp j es)) (apart j e.0 h)

pub none_under : (j k : ℕ) (es : List (ℕ × Run)) → j ≤ k → T (below_all nat_cmp k es) → find nat_cmp j es ≡ None
none_under j k [] p h = refl
none_under j k (e ∷ es) p h =
    let above : k < e.0 = below k e.0 (test_true _ (first _ _ h)) in
    skip j e es (λ s. omega arith) ∙ none_under j k es p (second _ _ h)

abbrev LeastIn : ℕ → List (ℕ × Run) → Option ℕ → Type 0
LeastIn i es None = (j : ℕ) → i < j → find nat_cmp j es ≡ None
LeastIn i es (Some n) = (i < n) × IsSome (find nat_cmp n es) × ((j : ℕ) → i < j → j < n → find nat_cmp j es ≡ None)

past : (i : ℕ) (e : ℕ × Run) (es : List (ℕ × Run)) (o : Option ℕ) → e.0 ≤ i → LeastIn i es o → LeastIn i (e ∷ es) o
past i e es None p h = λ j q. skip j e es (λ s. omega arith) ∙ h j q
past i e es (Some n) p h = (h.0, subst IsSome (sym (skip n e es (λ s. omega (arith, h.0)))) h.1, λ j q r. skip j e es (λ s. omega arith) ∙ h.2 j q r)

-- those past a number, and the first of them
abbrev past_all : ℕ → List (ℕ × Run) → List (ℕ × Run)
past_all i es = filter (λ e. is_lt (nat_cmp i e.0) && true) es

abbrev head_of : List (ℕ × Run) → Option ℕ
head_of [] = None
head_of (e ∷ es) = Some e.0

least : (i : ℕ) (es : List (ℕ × Run)) → T (is_sorted nat_cmp es) → LeastIn i es (head_of (past_all i es))
least i [] s = λ j p. refl
least i (e ∷ es) s = (elim (is_lt (nat_cmp i e.0)) as (λ b. is_lt (nat_cmp i e.0) ≡ b → LeastIn i (e ∷ es) (head_of (cond (b && true) (e ∷ past_all i es) (past_all i es)))) [
  | true ↦ λ t. (below i e.0 t, subst (λ (o : Option Run). IsSome o) (ap (λ b. cond b (Some e.1) (find nat_cmp e.0 es)) (sym (ap is_eq (tied_itself nat_cmp_total e.0)))) refl, λ j p q. skip j e es (λ s. omega arith) ∙ none_under j e.0 es (omega arith) (first _ _ s))
  | false ↦ λ t. past i e es (head_of (past_all i es)) (ge_from_not_lt i e.0 t) (least i es (second _ _ s))
]) refl

of_map : (i : ℕ) (m : RunMap) (o : Option ℕ) → LeastIn i (map.entries m) o → IsLeastPast i m o
of_map i m None h = λ j p. get-entries m j ∙ h j p
of_map i m (Some n) h = (h.0, subst IsSome (sym (get-entries m n)) h.1, λ j p q. get-entries m j ∙ h.2 j p q)

-- what a range past the number gives first
first_is : (i : ℕ) (es list new : List (ℕ × Run)) (r : Option (Bor ℕ × Bor Run)) → list ≡ past_all i es → MatchOption r ((list ≡ []) × (new ≡ [])) (λ x. list ≡ (x.0.now, x.1.now) ∷ new) → head_of (past_all i es) ≡ option_map (λ e. e.0.now) r
first_is i es list new None e h = ap head_of (sym e ∙ h.0)
first_is i es list new (Some x) e h = ap head_of (sym e ∙ h)

-- .. in the words of a number's tests
tests_alike : (i j : ℕ) → is_lt (nat_cmp i j) ≡ nat_lt i j
tests_alike i j = (elim (is_lt (nat_cmp i j)) as (λ b. is_lt (nat_cmp i j) ≡ b → b ≡ nat_lt i j) [
  | true ↦ λ t. sym (lt-ltb i j (below i j t))
  | false ↦ λ t. sym (le-ltb i j (ge_from_not_lt i j t))
]) refl

head_by : (i : ℕ) (e : ℕ × Run) (es : List (ℕ × Run)) (b : Bool) → head_of (past_all i es) ≡ first_past i es → head_of (cond (b && true) (e ∷ past_all i es) (past_all i es)) ≡ (if b then Some e.0 else first_past i es)
head_by i e es true h = refl
head_by i e es false h = h

heads : (i : ℕ) (es : List (ℕ × Run)) → head_of (past_all i es) ≡ first_past i es
heads i [] = refl
heads i (e ∷ es) = head_by i e es (is_lt (nat_cmp i e.0)) (heads i es) ∙ ap (λ b. if b then Some e.0 else first_past i es) (tests_alike i e.0)

pub next_is : (i : ℕ) (es list new : List (ℕ × Run)) (r : Option (Bor ℕ × Bor Run)) → IsStrictlySortedBy nat_cmp (keys_of es) → list ≡ past_all i es
    → MatchOption r ((list ≡ []) × (new ≡ [])) (λ x. list ≡ (x.0.now, x.1.now) ∷ new) → (m : RunMap) (o : Option ℕ) → map.from_entries es ≡ m → option_map (λ e. e.0.now) r ≡ o → IsLeastPast i m o
next_is i es list new r sorted e h m o is next =
    let all : map.entries m ≡ es = ap map.entries (sym is) ∙ entries_rows nat_cmp_total nat_cmp-IsAntisymmetric es sorted in
    of_map i m o (subst (LeastIn i (map.entries m)) (ap (λ xs. head_of (past_all i xs)) all ∙ first_is i es list new r e h ∙ next) (least i (map.entries m) (entries_sorted m)))

-- there is one least number, so it is the first one in their order
one_least : (i : ℕ) (m : RunMap) (o p : Option ℕ) → IsLeastPast i m o → IsLeastPast i m p → o ≡ p
one_least i m None None h k = refl
one_least i m None (Some n) h k = absurd (let none = h n k.0 in let some = k.1 in cc)
one_least i m (Some n) None h k = absurd (let none = k n h.0 in let some = h.1 in cc)
one_least i m (Some a) (Some b) h k = by (nat_lt a b) (nat_lt b a) refl refl
  where
    by : (x y : Bool) → nat_lt a b ≡ x → nat_lt b a ≡ y → Some a ≡ Some b
    by true y e f = absurd (let none = k.2 a h.0 (ltb-true a b e) in let some = h.1 in cc)
    by false true e f = absurd (let none = h.2 b k.0 (ltb-true b a f) in let some = k.1 in cc)
    by false false e f = ap Some (omega (arith, ltb-false a b e, ltb-false b a f))

pub is_first : (i : ℕ) (m : RunMap) (o : Option ℕ) → IsLeastPast i m o → o ≡ first_past i (map.entries m)
is_first i m o h = one_least i m o (first_past i (map.entries m)) h (of_map i m (first_past i (map.entries m)) (subst (LeastIn i (map.entries m)) (heads i (map.entries m)) (least i (map.entries m) (entries_sorted m))))

-- entries of greater keys have none that is not greater
pub none_behind : (k i : ℕ) (es : List (ℕ × Run)) → i ≤ k → All (λ q. nat_cmp k q ≡ Less) (keys_of es) → lookup (is_at (nat_cmp i)) es ≡ None
none_behind k i [] p h = refl
none_behind k i (e ∷ es) p h =
    let more : k < e.0 = below k e.0 (ap is_lt (h 0 0 (omega arith))) in
    ap (λ b. cond b (Some e.1) (lookup (is_at (nat_cmp i)) es)) (apart i e.0 (λ s. omega (arith, s, more, p))) ∙ none_behind k i es p (λ j d q. h (suc j) d (omega (arith, q)))
