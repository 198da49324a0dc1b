-- What is counted of the runs, as runs come and go.
use Rattle.beldi_core.proofs.Names.{AllCounted, AllKept, Bool, CountMap, Equal-is, IntentId, List, None, Run, RunMap, Some, T, [], ap, arith, cond, count_at, counted, entries_sorted, eq_by_cmp_equiv, eqb_tells, false, find, get-entries, get-insert, get-remove, has_run, id_cmp, id_exact, id_total, if◌then◌else◌, inl, inr, is_eq, is_of, is_some, is_sorted, kept_as, less, list_any, ltb-false, ltb-true, more, more_if, nat_cmp, nat_cmp-IsAntisymmetric, nat_cmp_total, nat_lt, nat_tests, number_of, refl, same_map, subst, suc, sym, tied_itself, true, zero, ℕ, ◌+◌, ◌-◌, ◌==◌, ◌||◌, ◌∙◌, ◌∷◌, ◌≡◌, ◌≢◌, ◌≤◌, ◌⊎◌}
use Rattle.beldi_core.proofs.{Least.none_under, Truths.first, Truths.second}
use Rattle.beldi_core.proofs.Names.map

not_some : false ≡ true → ⊥
not_some h = cc

-- the same at all numbers up to this one
counted_same : (a b : RunMap) (id : IntentId) (g : ℕ) → ((i : ℕ) → i ≤ g → is_of id (map.get a i) ≡ is_of id (map.get b i)) → counted g a id ≡ counted g b id
counted_same a b id zero h = refl
counted_same a b id (suc g) h = (λ j. more_if (h (suc g) (omega arith) j) (counted_same a b id g (λ i p. h i (omega arith)) j))

at_most_one : (b : Bool) (n g : ℕ) → n ≤ g → more_if b n ≤ suc g
at_most_one true n g h = omega arith
at_most_one false n g h = omega arith

few : (g : ℕ) (m : RunMap) (id : IntentId) → counted g m id ≤ g
few zero m id = omega arith
few (suc g) m id = at_most_one (is_of id (map.get m (suc g))) (counted g m id) g (few g m id)

pub none_counted : (g : ℕ) (m : RunMap) (id : IntentId) → ((i : ℕ) → is_of id (map.get m i) ≡ false) → counted g m id ≡ 0
none_counted zero m id h = refl
none_counted (suc g) m id h = (λ j. more_if (h (suc g) j) (none_counted g m id h j))

one_kept : (n : ℕ) → number_of (kept_as n) ≡ n
one_kept zero = refl
one_kept (suc n) = refl

-- ---- one more and one less
module _ (n : CountMap) (id : IntentId) (k : ℕ) where
  more_got : (q : IntentId) → map.get n id ≡ kept_as k → map.get (more n id) q ≡ cond (is_eq (id_cmp q id)) (kept_as (suc k)) (map.get n q)
  more_got q h =
      let size : count_at n id + 1 ≡ suc k = ap (λ o. number_of o + 1) h ∙ ap (λ x. x + 1) (one_kept k) ∙ omega arith in
      get-insert id_total n id (count_at n id + 1) q ∙ ap (λ x. cond (is_eq (id_cmp q id)) (Some x) (map.get n q)) size

  less_got : (q : IntentId) → map.get n id ≡ kept_as (suc k) → map.get (less n id (map.get n id)) q ≡ cond (is_eq (id_cmp q id)) (kept_as k) (map.get n q)
  less_got q h = ap (λ o. map.get (less n id o) q) h ∙ by k
    where
      by : (k : ℕ) → map.get (less n id (kept_as (suc k))) q ≡ cond (is_eq (id_cmp q id)) (kept_as k) (map.get n q)
      by zero = get-remove id_total n id q
      by (suc k) = (λ j. map.get (if two j then map.remove n id else map.insert n id (one_less j)) q) ∙ get-insert id_total n id (suc k) q
        where
          two : nat_lt (suc (suc k)) 2 ≡ false
          two = grind (arith, nat_tests)

          one_less : suc (suc k) - 1 ≡ suc k
          one_less = omega arith

  back_at : (q : IntentId) (b : Bool) → is_eq (id_cmp q id) ≡ b → map.get n id ≡ kept_as k → cond b (kept_as k) (cond b (kept_as (suc k)) (map.get n q)) ≡ map.get n q
  back_at q true e h = sym (ap (map.get n) (id_exact q id ((Equal-is (id_cmp q id)).0 e)) ∙ h)
  back_at q false e h = refl

-- what was added is taken again
less_more : (n : CountMap) (id : IntentId) (k : ℕ) → map.get n id ≡ kept_as k → less (more n id) id (map.get (more n id) id) ≡ n
less_more n id k h = same_map id_total id_exact _ _ (λ q.
    less_got (more n id) id k q (more_got n id k id h ∙ ap (λ b. cond b (kept_as (suc k)) (map.get n id)) (ap is_eq (tied_itself id_total id)))
    ∙ ap (cond (is_eq (id_cmp q id)) (kept_as k)) (more_got n id k q h) ∙ back_at n id k q (is_eq (id_cmp q id)) refl h)

pub undone : (n a b : CountMap) (r s : Run) (k : ℕ) → map.get n r.id ≡ kept_as k → a ≡ more n r.id → s ≡ r → b ≡ less a s.id (map.get a s.id) → b ≡ n
undone n a b r s k h raised same lowered = lowered ∙ (λ j. less (raised j) (same j).id (map.get (raised j) (same j).id)) ∙ less_more n r.id k h

-- a run more of this intent, or one less, is counted so
module _ (f g : ℕ) (a b : RunMap) (n : CountMap) (id : IntentId) where
  counted_more : ((q : IntentId) → counted g b q ≡ more_if (is_eq (id_cmp id q)) (counted f a q)) → AllCounted f a n → AllCounted g b (more n id)
  counted_more is h q = more_got n id (counted f a id) q (h id) ∙ by (is_eq (id_cmp q id)) refl
    where
      by : (t : Bool) → is_eq (id_cmp q id) ≡ t → cond t (kept_as (suc (counted f a id))) (map.get n q) ≡ kept_as (counted g b q)
      by true e = sym (ap kept_as (is q ∙ ap (λ t. more_if t (counted f a q)) ((eq_by_cmp_equiv id_total).symm id q ∙ e) ∙ ap (λ x. suc (counted f a x)) (id_exact q id ((Equal-is (id_cmp q id)).0 e))))
      by false e = h q ∙ sym (ap kept_as (is q ∙ ap (λ t. more_if t (counted f a q)) ((eq_by_cmp_equiv id_total).symm id q ∙ e)))

  counted_less : ((q : IntentId) → counted f a q ≡ more_if (is_eq (id_cmp id q)) (counted g b q)) → AllCounted f a n → AllCounted g b (less n id (map.get n id))
  counted_less is h q = less_got n id (counted g b id) q (h id ∙ ap kept_as (is id ∙ ap (λ t. more_if t (counted g b id)) (ap is_eq (tied_itself id_total id)))) ∙ by (is_eq (id_cmp q id)) refl
    where
      by : (t : Bool) → is_eq (id_cmp q id) ≡ t → cond t (kept_as (counted g b id)) (map.get n q) ≡ kept_as (counted g b q)
      by true e = ap (λ x. kept_as (counted g b x)) (sym (id_exact q id ((Equal-is (id_cmp q id)).0 e)))
      by false e = h q ∙ ap kept_as (is q ∙ ap (λ t. more_if t (counted g b q)) ((eq_by_cmp_equiv id_total).symm id q ∙ e))

-- ---- runs come and go
elsewhere : (k i : ℕ) → (i ≡ k → ⊥) → is_eq (nat_cmp i k) ≡ false
elsewhere k i h = (elim (is_eq (nat_cmp i k)) as (λ b. is_eq (nat_cmp i k) ≡ b → b ≡ false) [
  | true ↦ λ e. absurd (h (nat_cmp-IsAntisymmetric i k ((Equal-is (nat_cmp i k)).0 e)))
  | false ↦ λ e. refl
]) refl

module _ (m : RunMap) (k : ℕ) where
  pub put_here : (r : Run) → map.get (map.insert m k r) k ≡ Some r
  put_here r = get-insert nat_cmp_total m k r k ∙ ap (λ b. cond b (Some r) (map.get m k)) (ap is_eq (tied_itself nat_cmp_total k))

  pub put_there : (r : Run) (i : ℕ) → (i ≡ k → ⊥) → map.get (map.insert m k r) i ≡ map.get m i
  put_there r i h = get-insert nat_cmp_total m k r i ∙ ap (λ b. cond b (Some r) (map.get m i)) (elsewhere k i h)

  pub gone_here : map.get (map.remove m k) k ≡ None
  gone_here = get-remove nat_cmp_total m k k ∙ ap (λ b. cond b None (map.get m k)) (ap is_eq (tied_itself nat_cmp_total k))

  gone_there : (i : ℕ) → (i ≡ k → ⊥) → map.get (map.remove m k) i ≡ map.get m i
  gone_there i h = get-remove nat_cmp_total m k i ∙ ap (λ b. cond b None (map.get m i)) (elsewhere k i h)

-- without a run
swap : (a b : Bool) (n : ℕ) → more_if a (more_if b n) ≡ more_if b (more_if a n)
swap true true n = refl
swap true false n = refl
swap false b n = refl

without : (m : RunMap) (k g : ℕ) (q : IntentId) → 1 ≤ k → k ≤ g → counted g m q ≡ more_if (is_of q (map.get m k)) (counted g (map.remove m k) q)
without m k zero q some p = absurd (omega arith)
without m k (suc g) q some p = by (eqb_tells k (suc g)) (λ p. without m k g q some p)
  where
    by : ((k == suc g) ≡ true) × (k ≡ suc g) ⊎ ((k == suc g) ≡ false) × (k ≢ suc g) → (k ≤ g → counted g m q ≡ more_if (is_of q (map.get m k)) (counted g (map.remove m k) q)) → counted (suc g) m q ≡ more_if (is_of q (map.get m k)) (counted (suc g) (map.remove m k) q)
    by (inl t) before =
        let same = t.1 in
        let rest = counted_same m (map.remove m k) q g (λ i p. ap (is_of q) (sym (gone_there m k i (λ e. omega (arith, e, same, p))))) in
        let here : is_of q (map.get (map.remove m k) (suc g)) ≡ false = ap (λ i. is_of q (map.get (map.remove m k) i)) (sym same) ∙ ap (is_of q) (gone_here m k) in
        (λ j. more_if (is_of q (map.get m (sym same j))) (rest j)) ∙ ap (λ b. more_if (is_of q (map.get m k)) (more_if b (counted g (map.remove m k) q))) (sym here)
    by (inr t) before =
        ap (more_if (is_of q (map.get m (suc g)))) (before (omega (arith, t.1))) ∙ swap (is_of q (map.get m (suc g))) (is_of q (map.get m k)) (counted g (map.remove m k) q)
        ∙ ap (λ o. more_if (is_of q (map.get m k)) (more_if (is_of q o) (counted g (map.remove m k) q))) (sym (gone_there m k (suc g) (λ e. t.1 (sym e))))

pub put_counted : (g : ℕ) (m : RunMap) (n : CountMap) (r : Run) → AllCounted g m n → AllCounted (suc g) (map.insert m (suc g) r) (more n r.id)
put_counted g m n r = counted_more g (suc g) m (map.insert m (suc g) r) n r.id (λ q.
    (λ j. more_if (is_of q (put_here m (suc g) r j)) (counted_same (map.insert m (suc g) r) m q g (λ i p. ap (is_of q) (put_there m (suc g) r i (λ e. omega (arith, e)))) j)))

pub removed_counted : (g k : ℕ) (m : RunMap) (n : CountMap) (r : Run) → map.get m k ≡ Some r → 1 ≤ k → k ≤ g → AllCounted g m n → AllCounted g (map.remove m k) (less n r.id (map.get n r.id))
removed_counted g k m n r is some p = counted_less g g m (map.remove m k) n r.id (λ q. without m k g q some p ∙ ap (λ o. more_if (is_of q o) (counted g (map.remove m k) q)) is)

-- a run of the same intent in its place
pub same_counted : (g k : ℕ) (m : RunMap) (n : CountMap) (r s : Run) → map.get m k ≡ Some r → s.id ≡ r.id → AllCounted g m n → AllCounted g (map.insert m k s) n
same_counted g k m n r s is same h q = h q ∙ ap kept_as (counted_same m (map.insert m k s) q g (λ i p. by i (eqb_tells i k)))
  where
    by : (i : ℕ) → ((i == k) ≡ true) × (i ≡ k) ⊎ ((i == k) ≡ false) × (i ≢ k) → is_of q (map.get m i) ≡ is_of q (map.get (map.insert m k s) i)
    by i (inl t) = subst (λ x. is_of q (map.get m x) ≡ is_of q (map.get (map.insert m k s) x)) (sym t.1) (ap (is_of q) is ∙ ap (λ x. is_eq (id_cmp x q)) (sym same) ∙ sym (ap (is_of q) (put_here m k s)))
    by i (inr t) = ap (is_of q) (sym (put_there m k s i t.1))

-- ---- whether any run is one of an intent
abbrev any_of : IntentId → List (ℕ × Run) → Bool
any_of id es = list_any (λ e. is_of id (Some e.1)) es

any_at : (id : IntentId) (es : List (ℕ × Run)) → T (is_sorted nat_cmp es) → any_of id es ≡ true → (k : ℕ) × (is_of id (find nat_cmp k es) ≡ true)
any_at id [] s h = absurd (not_some h)
any_at id (e ∷ es) s h = (elim (is_of id (Some e.1)) as (λ b. is_of id (Some e.1) ≡ b → any_of id (e ∷ es) ≡ true → (k : ℕ) × (is_of id (find nat_cmp k (e ∷ es)) ≡ true)) [
  | true ↦ λ t x. (e.0, ap (λ b. is_of id (cond b (Some e.1) (find nat_cmp e.0 es))) (ap is_eq (tied_itself nat_cmp_total e.0)) ∙ t)
  | false ↦ λ t x. later (any_at id es (second _ _ s) (sym (ap (λ b. b || any_of id es) t) ∙ x))
]) refl h
  where
    later : (k : ℕ) × (is_of id (find nat_cmp k es) ≡ true) → (k : ℕ) × (is_of id (find nat_cmp k (e ∷ es)) ≡ true)
    later (k, t) = (
      k,
      (elim (is_eq (nat_cmp k e.0)) as (λ b. is_eq (nat_cmp k e.0) ≡ b → is_of id (cond b (Some e.1) (find nat_cmp k es)) ≡ true) [
        | true ↦ λ x.
            let same = nat_cmp-IsAntisymmetric k e.0 ((Equal-is (nat_cmp k e.0)).0 x) in
            absurd (not_some (sym (ap (is_of id) (none_under k e.0 es (omega (arith, same)) (first _ _ s))) ∙ t))
        | false ↦ λ x. t
      ]) refl,
    )

none_at : (id : IntentId) (es : List (ℕ × Run)) → any_of id es ≡ false → (k : ℕ) → is_of id (find nat_cmp k es) ≡ false
none_at id [] h k = refl
none_at id (e ∷ es) h k = (elim (is_of id (Some e.1)) as (λ b. is_of id (Some e.1) ≡ b → (b || any_of id es) ≡ false → is_of id (find nat_cmp k (e ∷ es)) ≡ false) [
  | true ↦ λ t x. absurd (not_some (sym x))
  | false ↦ λ t x. (elim (is_eq (nat_cmp k e.0)) as (λ b. is_of id (cond b (Some e.1) (find nat_cmp k es)) ≡ false) [ true ↦ t | false ↦ none_at id es x k ])
]) refl h

-- a live run has a number from 1 to the last
pub inside : (g : ℕ) (m : RunMap) (n : CountMap) (k : ℕ) → AllKept g m n → (map.get m k ≡ None → ⊥) → (1 ≤ k) × (k ≤ g)
inside g m n k h some = (at_least k some, at_most (nat_lt g k) refl)
  where
    at_least : (k : ℕ) → (map.get m k ≡ None → ⊥) → 1 ≤ k
    at_least zero some = absurd (some h.none_first)
    at_least (suc k) some = omega arith

    at_most : (b : Bool) → nat_lt g k ≡ b → k ≤ g
    at_most true e = absurd (some (h.given_all k (ltb-true g k e)))
    at_most false e = ltb-false g k e

pub any_counted : (g : ℕ) (m : RunMap) (n : CountMap) (id : IntentId) → AllKept g m n → is_some (map.get n id) ≡ has_run m id
any_counted g m n id h = ap is_some (h.counted_all id) ∙ by (has_run m id) refl
  where
    by : (b : Bool) → has_run m id ≡ b → is_some (kept_as (counted g m id)) ≡ b
    by true e =
        let at = any_at id (map.entries m) (entries_sorted m) e in
        let here : is_of id (map.get m at.0) ≡ true = ap (is_of id) (get-entries m at.0) ∙ at.1 in
        let p = inside g m n at.0 h (λ none. not_some (sym (ap (is_of id) none) ∙ here)) in
        ap (λ x. is_some (kept_as x)) (without m at.0 g id p.0 p.1 ∙ ap (λ b. more_if b (counted g (map.remove m at.0) id)) here)
    by false e = ap (λ x. is_some (kept_as x)) (none_counted g m id (λ i. ap (is_of id) (get-entries m i) ∙ none_at id (map.entries m) e i))

pub count_few : (g : ℕ) (m : RunMap) (n : CountMap) (id : IntentId) → AllKept g m n → count_at n id ≤ g
count_few g m n id h = subst (λ k. k ≤ g) (sym (ap number_of (h.counted_all id) ∙ one_kept (counted g m id))) (few g m id)

pub counted_lower : (g : ℕ) (m : RunMap) (id : IntentId) → 1 ≤ g → map.get m g ≡ None → counted g m id ≡ counted (g - 1) m id
counted_lower zero m id p none = absurd (omega arith)
counted_lower (suc g) m id p none = let lower : g ≡ suc g - 1 = omega arith in ap (λ o. more_if (is_of id o) (counted g m id)) none ∙ ap (λ x. counted x m id) lower
