-- Live runs by number, and rows by key, among the entries of their maps.
use Rattle.beldi_plain_laws.proofs.Maps.{same_some}
use Rattle.std.specs.{FinMap.FinMap, FinMap.find as find_entry, FinMap.get-entries, FinMap.nat_cmp-IsAntisymmetric, Cmp.Equal-is, FinMap.IsAntisymmetric, List.list_any, Ordering.is_eq, Ordering.nat_cmp, declared.cmp.Ordering.Ordering}
use Rattle.std.specs.FinMap as map
use Rattle.std.proofs.lemmas.Cmp.{tied_itself}
use Rattle.std.proofs.Common.{Bool, List, None, Some, [], ap, arith, cond, false, inl, inr, lt-ltb, ltb-true, nat_lt, refl, subst, sym, true, ℕ, ◌<◌, ◌||◌, ◌∙◌, ◌∷◌, ◌≡◌, if◌then◌else◌}
use Rattle.beldi_value.{specs.Id.id_cmp, specs.Id.id_total, specs.declared.id.IntentId.IntentId}
use Rattle.beldi_histories.proofs.Cases.{by_cases}
use Rattle.beldi_step.specs.{HostStep.Core, HostStep.has_run, Next.first_past, Next.next_run, declared.run.Run.Run}
use Rattle.beldi_bound.specs.Ends.{IsIn}

-- what is found is an entry
module _ {K X : Type 0} {R : K → K → Ordering} (exact : IsAntisymmetric R) where
  found_in : (q : K) (x : X) (es : List (K × X)) → find_entry R q es ≡ Some x → IsIn (q, x) es
  found_in q x [] h = cc
  found_in q x (e ∷ es) h = (elim (is_eq (R q e.0)) as (λ b. is_eq (R q e.0) ≡ b → cond b (Some e.1) (find_entry R q es) ≡ Some x → IsIn (q, x) (e ∷ es)) [
    | true ↦ λ t here. let key : q ≡ e.0 = exact q e.0 ((Equal-is (R q e.0)).0 t) in let value : x ≡ e.1 = same_some here in inl (λ i. (key i, value i))
    | false ↦ λ t there. inr (found_in q x es there)
  ]) refl h
    where
      same_some : {x y : X} → Some y ≡ Some x → x ≡ y
      same_some h = cc

  pub entry_of : (m : FinMap R X) (q : K) (x : X) → map.get m q ≡ Some x → IsIn (q, x) (map.entries m)
  entry_of m q x h = found_in q x (map.entries m) (sym (get-entries m q) ∙ h)

-- ---- live runs
any_in : {X : Type 0} (p : X → Bool) (x : X) (xs : List X) → IsIn x xs → p x ≡ true → list_any p xs ≡ true
any_in p x [] h t = absurd h
any_in p x (y ∷ ys) (inl e) t = ap (λ b. b || list_any p ys) (sym (ap p e) ∙ t)
any_in p x (y ∷ ys) (inr h) t = by_cases (p y) (λ u. ap (λ b. b || list_any p ys) u) (λ u. ap (λ b. b || list_any p ys) u ∙ any_in p x ys h t)

pub run_there : (live : FinMap nat_cmp Run) (i : ℕ) (r : Run) (id : IntentId) → map.get live i ≡ Some r → r.id ≡ id → has_run live id ≡ true
run_there live i r id h same = any_in (λ (e : ℕ × Run). is_eq (id_cmp e.1.id id)) (i, r) (map.entries live) (entry_of nat_cmp-IsAntisymmetric live i r h) (subst (λ j. is_eq (id_cmp j id) ≡ true) (sym same) (ap is_eq (tied_itself id_total id)))

-- the least live run past a number is past it, and where there is none, none is
first_is_past : (past i : ℕ) (es : List (ℕ × Run)) → first_past past es ≡ Some i → past < i
first_is_past past i [] h = cc
first_is_past past i (e ∷ es) h = (elim (nat_lt past e.0) as (λ b. nat_lt past e.0 ≡ b → (if b then Some e.0 else first_past past es) ≡ Some i → past < i) [
  | true ↦ λ t here. let is : e.0 ≡ i = same_some here in let l = ltb-true past e.0 t in omega (arith, is, l)
  | false ↦ λ t there. first_is_past past i es there
]) refl h

none_is_past : (past i : ℕ) (r : Run) (es : List (ℕ × Run)) → first_past past es ≡ None → IsIn (i, r) es → past < i → ⊥
none_is_past past i r [] h there less = there
none_is_past past i r (e ∷ es) h there less = (elim (nat_lt past e.0) as (λ b. nat_lt past e.0 ≡ b → (if b then Some e.0 else first_past past es) ≡ None → ⊥) [
  | true ↦ λ t clash. cc
  | false ↦ λ t rest. elim there [
    | inl is ↦ let here : i ≡ e.0 = ap (λ (x : ℕ × Run). x.0) is in let clash : true ≡ false = sym (lt-ltb past i less) ∙ ap (nat_lt past) here ∙ t in cc
    | inr later ↦ none_is_past past i r es rest later less
  ]
]) refl h

pub next_is_past : (c : Core) (past i : ℕ) → next_run c past ≡ Some i → past < i
next_is_past c past i h = first_is_past past i (map.entries c.runs) h

pub none_past : (c : Core) (past i : ℕ) (r : Run) → next_run c past ≡ None → map.get c.runs i ≡ Some r → past < i → ⊥
none_past c past i r h live less = none_is_past past i r (map.entries c.runs) h (entry_of nat_cmp-IsAntisymmetric c.runs i r live) less
