-- The live runs by their numbers: the least one past a number, and what stays of them where one was put, taken out or started.
use Rattle.std.specs.Prelude.{T}
use Rattle.std.{specs.Cmp.nat_cmp_total, specs.Cmp.ranks, specs.FinMap.FinMap, specs.FinMap.find, specs.FinMap.get-empty, specs.FinMap.get-entries, specs.FinMap.nat_cmp-IsAntisymmetric, specs.FinMap.same_map, specs.FinMap.Entries.below_all, specs.FinMap.Entries.is_sorted, specs.Ordering.MatchOrdering, specs.Ordering.is_eq, specs.Ordering.is_lt, specs.Ordering.nat_cmp, specs.Cmp.Equal-is, specs.declared.cmp.Ordering.Ordering, specs.declared.cmp.Ordering.TheVariants.Less, specs.declared.cmp.Ordering.TheVariants.Equal, specs.declared.cmp.Ordering.TheVariants.Greater, proofs.lemmas.Bool.Decides.nat_tests, proofs.lemmas.Cmp.tied_itself}
use Rattle.std.specs.FinMap as map
use Rattle.std.proofs.Common.{◌≡◌, ℕ, ◌<◌, ◌≤◌, nat_lt, Bool, true, false, ◌&&◌, cond, List, [], ◌∷◌, Option, None, Some, is_some, refl, ap, sym, ◌∙◌, subst, if◌then◌else◌, arith}
use Rattle.beldi_step.{specs.HostStep.Core, specs.HostStep.put_run, specs.Next.first_past, specs.Next.next_run, specs.declared.run.Run.Run, proofs.PutRun.put_got}

abbrev Runs : Type 0
Runs = FinMap nat_cmp Run

-- ---- the least number past another
abbrev IsFirst : (ℕ → Option Run) → ℕ → Option ℕ → Type 0
IsFirst at i None = (j : ℕ) → i < j → at j ≡ None
IsFirst at i (Some n) = (i < n) × (is_some (at n) ≡ true) × ((j : ℕ) → i < j → j < n → at j ≡ None)

-- .. of live runs
abbrev pub IsLeast : Runs → ℕ → Option ℕ → Type 0
IsLeast m = IsFirst (map.get m)

first : (a b : Bool) → T (a && b) → T a
first true b p = tt
first false b p = p

second : (a b : Bool) → T (a && b) → T b
second true b p = p
second false b p = absurd p

less : (o : Ordering) → T (is_lt o) → o ≡ Less
less Less h = refl
less Equal h = absurd h
less Greater h = absurd h

below : (j k : ℕ) → T (is_lt (nat_cmp j k)) → j < k
below j k h = subst (λ r. MatchOrdering r (j < k) (j ≡ k) (k < j)) (less (nat_cmp j k) h) (ranks j k)

pub apart : (j k : ℕ) → (j ≡ k → ⊥) → is_eq (nat_cmp j k) ≡ false
apart j k h = (elim (is_eq (nat_cmp j k)) as (λ b. is_eq (nat_cmp j k) ≡ b → b ≡ false) [
  | true ↦ λ e. absurd (h (nat_cmp-IsAntisymmetric j k ((Equal-is (nat_cmp j k)).0 e)))
  | false ↦ λ e. refl
]) refl

skip : (j : ℕ) (e : ℕ × Run) (es : List (ℕ × Run)) → (j ≡ e.0 → ⊥) → find nat_cmp j (e ∷ es) ≡ find nat_cmp j es
skip j e es h = ap (λ b. cond b (Some e.1) (find nat_cmp j es)) (apart j e.0 h)

none_under : (j k : ℕ) (es : List (ℕ × Run)) → j ≤ k → T (below_all nat_cmp k es) → find nat_cmp j es ≡ None
none_under j k [] p h = refl
none_under j k (e ∷ es) p h =
    let above : k < e.0 = below k e.0 (first _ _ h) in
    skip j e es (λ s. omega arith) ∙ none_under j k es p (second _ _ h)

later : (i : ℕ) (e : ℕ × Run) (es : List (ℕ × Run)) (o : Option ℕ) → e.0 ≤ i → IsFirst (λ j. find nat_cmp j es) i o → IsFirst (λ j. find nat_cmp j (e ∷ es)) i o
later i e es None p h = λ j q. skip j e es (λ s. omega arith) ∙ h j q
later i e es (Some n) p h = (h.0, ap is_some (skip n e es (λ s. omega (arith, h.0))) ∙ h.1, λ j q r. skip j e es (λ s. omega arith) ∙ h.2 j q r)

least : (i : ℕ) (es : List (ℕ × Run)) → T (is_sorted nat_cmp es) → IsFirst (λ j. find nat_cmp j es) i (first_past i es)
least i [] s = λ j p. refl
least i (e ∷ es) s = (elim (nat_lt i e.0) as (λ b. nat_lt i e.0 ≡ b → IsFirst (λ j. find nat_cmp j (e ∷ es)) i (if b then Some e.0 else first_past i es)) [
  | true ↦ λ t. (past t, ap (λ o. is_some (cond (is_eq o) (Some e.1) (find nat_cmp e.0 es))) (tied_itself nat_cmp_total e.0), λ j p q. skip j e es (λ s. omega arith) ∙ none_under j e.0 es (omega arith) (first _ _ s))
  | false ↦ λ t. later i e es (first_past i es) (not_past t) (least i es (second _ _ s))
]) refl
  where
    past : nat_lt i e.0 ≡ true → i < e.0
    past t = grind (arith, nat_tests)

    not_past : nat_lt i e.0 ≡ false → e.0 ≤ i
    not_past t = grind (arith, nat_tests)

in_map : (m : Runs) (i : ℕ) (o : Option ℕ) → IsFirst (λ j. find nat_cmp j (map.entries m)) i o → IsLeast m i o
in_map m i None h = λ j p. get-entries m j ∙ h j p
in_map m i (Some n) h = (h.0, ap is_some (get-entries m n) ∙ h.1, λ j p q. get-entries m j ∙ h.2 j p q)

pub next_least : (c : Core) (i : ℕ) → IsLeast c.runs i (next_run c i)
next_least c i = in_map c.runs i (next_run c i) (least i (map.entries c.runs) (map.entries_sorted c.runs))

-- ---- no run
pub no_runs : (m : Runs) → ((j : ℕ) → map.get m j ≡ None) → m ≡ map.empty
no_runs m none = same_map nat_cmp_total nat_cmp-IsAntisymmetric m map.empty (λ j. none j ∙ sym (get-empty nat_cmp j))

-- ---- a run that is put where it was
as_it_was : (b : Bool) (x y : Option Run) → (b ≡ true → y ≡ x) → cond b x y ≡ y
as_it_was true x y h = sym (h refl)
as_it_was false x y h = refl

pub put_same : (m : Runs) (i : ℕ) (r : Run) → map.get m i ≡ Some r → put_run m i (Some r) ≡ m
put_same m i r live = same_map nat_cmp_total nat_cmp-IsAntisymmetric (put_run m i (Some r)) m (λ j. put_got m i (Some r) j
    ∙ as_it_was (is_eq (nat_cmp j i)) (Some r) (map.get m j) (λ e. ap (map.get m) (nat_cmp-IsAntisymmetric j i ((Equal-is (nat_cmp j i)).0 e)) ∙ live))

-- one that is put or started elsewhere
pub put_apart : (m : Runs) (i : ℕ) (o : Option Run) (j : ℕ) → (j ≡ i → ⊥) → map.get (put_run m i o) j ≡ map.get m j
put_apart m i o j other = put_got m i o j ∙ ap (λ b. cond b o (map.get m j)) (apart j i other)
