-- The live runs, of which the first lies apart, as one map.
use Rattle.beldi_core.proofs.Names.{Bool, Equal-is, IsLeastPast, IsSome, None, Option, Run, RunMap, Some, ap, arith, cond, eqb_tells, false, get-empty, get-remove, if◌then◌else◌, inl, inr, is_eq, is_some, len-insert, ltb-false, ltb-true, nat_cmp, nat_cmp-IsAntisymmetric, nat_cmp_total, nat_lt, none_removed, put_got, put_run, put_twice, refl, remove_put, same_map, subst, sym, true, ℕ, ◌&&◌, ◌+◌, ◌<◌, ◌==◌, ◌∙◌, ◌≡◌, ◌≢◌, ◌≤◌, ◌⊎◌}
use Rattle.beldi_core.proofs.Counting.{put_here, put_there}
use Rattle.beldi_core.proofs.RunMaps.{both_none}
use Rattle.beldi_core.specs.Live.{IsLeast, with_run}
use Rattle.beldi_core.proofs.Names.map

-- ---- two numbers, in any order
module _ (m : RunMap) (k n : ℕ) (o p : Option Run) (differ : n ≢ k) where
  abbrev at : ℕ → ℕ → Bool
  at q i = is_eq (nat_cmp q i)

  same : (q i : ℕ) → at q i ≡ true → q ≡ i
  same q i e = nat_cmp-IsAntisymmetric q i ((Equal-is (nat_cmp q i)).0 e)

  by : (q : ℕ) (a b : Bool) → at q n ≡ a → at q k ≡ b → cond a p (cond b o (map.get m q)) ≡ cond b o (cond a p (map.get m q))
  by q true true e f = absurd (differ (sym (same q n e) ∙ same q k f))
  by q true false e f = refl
  by q false true e f = refl
  by q false false e f = refl

  pub swapped : put_run (put_run m k o) n p ≡ put_run (put_run m n p) k o
  swapped = same_map nat_cmp_total nat_cmp-IsAntisymmetric _ _ (λ q.
      put_got (put_run m k o) n p q ∙ ap (cond (at q n) p) (put_got m k o q) ∙ by q (at q n) (at q k) refl refl
      ∙ sym (put_got (put_run m n p) k o q ∙ ap (cond (at q k) o) (put_got m n p q)))

-- ---- whether the first one has a number
pub has_number : (n k : ℕ) (o : Option Run) → ((n == k) && is_some o) ≡ true → (n ≡ k) × IsSome o
has_number n k o h = by (n == k) refl h
  where
    by : (b : Bool) → (n == k) ≡ b → (b && is_some o) ≡ true → (n ≡ k) × IsSome o
    by false e h = cc
    by true e h = (grind arith, h)

no_number : (n k : ℕ) (r : Run) → ((n == k) && is_some (Some r)) ≡ false → n ≢ k
no_number n k r h same = by (eqb_tells n k) h
  where
    by : ((n == k) ≡ true) × (n ≡ k) ⊎ ((n == k) ≡ false) × (n ≢ k) → ((n == k) && true) ≡ false → ⊥
    by (inl t) h = let clash : true ≡ false = sym (ap (λ b. b && true) t.0) ∙ h in cc
    by (inr t) h = t.1 same

-- ---- the run of a number
pub got_first : (n : ℕ) (o : Option Run) (m : RunMap) (k : ℕ) → ((n == k) && is_some o) ≡ true → map.get (with_run n o m) k ≡ o
got_first n None m k h = absurd (let some = (has_number n k None h).1 in cc)
got_first n (Some r) m k h = ap (map.get (map.insert m n r)) (sym (has_number n k (Some r) h).0) ∙ put_here m n r

pub got_other : (n : ℕ) (o : Option Run) (m : RunMap) (k : ℕ) → ((n == k) && is_some o) ≡ false → map.get (with_run n o m) k ≡ map.get m k
got_other n None m k h = refl
got_other n (Some r) m k h = put_there m n r k (λ e. no_number n k r h (sym e))

-- ---- a run is put in its place
pub put_first : (n : ℕ) (o : Option Run) (m : RunMap) (k : ℕ) (r : Run) → ((n == k) && is_some o) ≡ true → map.insert m n r ≡ map.insert (with_run n o m) k r
put_first n None m k r h = absurd (let some = (has_number n k None h).1 in cc)
put_first n (Some s) m k r h = sym (put_twice m n (Some s) (Some r)) ∙ ap (λ i. map.insert (map.insert m n s) i r) (has_number n k (Some s) h).0

pub put_other : (n : ℕ) (o : Option Run) (m : RunMap) (k : ℕ) (p : Option Run) → ((n == k) && is_some o) ≡ false → with_run n o (put_run m k p) ≡ put_run (with_run n o m) k p
put_other n None m k p h = refl
put_other n (Some r) m k p h = swapped m k n p (Some r) (no_number n k r h)

-- ---- no other has so small a number
greater : (n k : ℕ) → (k ≤ n → ⊥) → n < k
greater n k h = by (nat_lt n k) refl
  where
    by : (b : Bool) → nat_lt n k ≡ b → n < k
    by true e = ltb-true n k e
    by false e = absurd (h (ltb-false n k e))

above : (n k : ℕ) (m : RunMap) (s : Run) → ((i : ℕ) → i ≤ n → map.get m i ≡ None) → map.get m k ≡ Some s → n < k
above n k m s least here = greater n k (λ p. let clash : None ≡ Some s = sym (least k p) ∙ here in cc)

pub least_put : (n : ℕ) (o : Option Run) (m : RunMap) (k : ℕ) (s r : Run) → map.get m k ≡ Some s → IsLeast n o m → IsLeast n o (map.insert m k r)
least_put n None m k s r here none = let clash : None ≡ Some s = sym (get-empty nat_cmp k) ∙ ap (λ a. map.get a k) (sym none) ∙ here in cc
least_put n (Some q) m k s r here least = let more = above n k m s least here in λ i few. put_there m k r i (λ e. omega (arith, e, more, few)) ∙ least i few

pub least_removed : (n : ℕ) (o : Option Run) (m : RunMap) (k : ℕ) → IsLeast n o m → IsLeast n o (map.remove m k)
least_removed n None m k none = none_removed nat_cmp_total nat_cmp-IsAntisymmetric m k (ap (λ a. map.get a k) none ∙ get-empty nat_cmp k) ∙ none
least_removed n (Some q) m k least = λ i few. get-remove nat_cmp_total m k i ∙ both_none (is_eq (nat_cmp i k)) (map.get m i) (least i few)

-- without the first one the others are left
pub first_left : (n : ℕ) (o : Option Run) (m : RunMap) (k : ℕ) → ((n == k) && is_some o) ≡ true → IsLeast n o m → m ≡ map.remove (with_run n o m) k
first_left n None m k h none = absurd (let some = (has_number n k None h).1 in cc)
first_left n (Some r) m k h least =
    sym (remove_put m n (Some r) ∙ none_removed nat_cmp_total nat_cmp-IsAntisymmetric m n (least n (omega arith))) ∙ ap (map.remove (map.insert m n r)) (has_number n k (Some r) h).0

-- ---- a run behind all others
pub first_of_none : (n : ℕ) (o : Option Run) (m : RunMap) → is_some o ≡ false → IsLeast n o m → (i : ℕ) → map.get m i ≡ None
first_of_none n None m h none = λ i. ap (λ a. map.get a i) none ∙ get-empty nat_cmp i
first_of_none n (Some r) m h none = cc

behind : (n : ℕ) (r : Run) (m : RunMap) (k : ℕ) → ((i : ℕ) → k ≤ i → map.get (map.insert m n r) i ≡ None) → n < k
behind n r m k last = greater n k (λ p. let clash : None ≡ Some r = sym (last n p) ∙ put_here m n r in cc)

pub least_pushed : (n : ℕ) (o : Option Run) (m : RunMap) (k : ℕ) (r : Run) → is_some o ≡ true → ((i : ℕ) → k ≤ i → map.get (with_run n o m) i ≡ None) → IsLeast n o m → IsLeast n o (map.insert m k r)
least_pushed n None m k r some last h = cc
least_pushed n (Some s) m k r some last least = let more = behind n s m k last in λ i few. put_there m k r i (λ e. omega (arith, e, more, few)) ∙ least i few

pub pushed : (n : ℕ) (o : Option Run) (m : RunMap) (k : ℕ) (r : Run) → ((i : ℕ) → k ≤ i → map.get (with_run n o m) i ≡ None) → with_run n o (map.insert m k r) ≡ map.insert (with_run n o m) k r
pushed n None m k r last = refl
pushed n (Some s) m k r last = let more = behind n s m k last in swapped m k n (Some r) (Some s) (λ e. omega (arith, e, more))

-- ---- the next one
pub next_first : (i n : ℕ) (o : Option Run) (m : RunMap) → (nat_lt i n && is_some o) ≡ true → IsLeast n o m → IsLeastPast i (with_run n o m) (Some n)
next_first i n o m more least = by (nat_lt i n) o refl more least
  where
    by : (b : Bool) (o : Option Run) → nat_lt i n ≡ b → (b && is_some o) ≡ true → IsLeast n o m → IsLeastPast i (with_run n o m) (Some n)
    by false o e h least = cc
    by true None e h least = cc
    by true (Some r) e h least = (ltb-true i n e, ap is_some (put_here m n r), λ j p q. put_there m n r j (λ e. omega (arith, e, q)) ∙ least j (omega (arith, q)))

pub next_other : (i n : ℕ) (p : Option Run) (m : RunMap) (o : Option ℕ) → (nat_lt i n && is_some p) ≡ false → IsLeastPast i m o → IsLeastPast i (with_run n p m) o
next_other i n None m o few h = h
next_other i n (Some r) m o few h = by o h
  where
    no_more : n ≤ i
    no_more = by (nat_lt i n) refl few
      where
        by : (b : Bool) → nat_lt i n ≡ b → (b && true) ≡ false → n ≤ i
        by true e f = cc
        by false e f = ltb-false i n e

    past : (j : ℕ) → i < j → map.get (map.insert m n r) j ≡ map.get m j
    past j p = put_there m n r j (λ e. omega (arith, e, p, no_more))

    by : (o : Option ℕ) → IsLeastPast i m o → IsLeastPast i (map.insert m n r) o
    by None h = λ j p. past j p ∙ h j p
    by (Some k) h = (h.0, subst IsSome (sym (past k h.0)) h.1, λ j p q. past j p ∙ h.2 j p q)

-- ---- how many there are
pub count : (n : ℕ) (o : Option Run) (m : RunMap) → IsLeast n o m → map.len (with_run n o m) ≡ map.len m + (if is_some o then 1 else 0)
count n None m none = omega arith
count n (Some r) m least = len-insert nat_cmp_total m n r ∙ ap (λ b. cond b (map.len m) (map.len m + 1)) (ap is_some (least n (omega arith)))
