-- What a query over the table answers.
use Rattle.std.proofs.Common.{◌≡◌, inl, inr, ◌∙◌, ap, sym, refl, subst, Bool, true, false, ℤ, List, [], ◌∷◌, ◌++◌, if◌then◌else◌, map}
use Rattle.std.specs.List.{AllByRecursion, flat_map, list_all}
use Rattle.std.specs.List.Sorted.{IsPermutation}
use Rattle.std.proofs.lemmas.List.Sorted.{All-permutation, IsPermutation-sym}
use Rattle.std.proofs.lemmas.List.Elements.{All-from_recursion, recursion_from_All}
use Rattle.sqlite.specs.declared.types.Value.{Value}
use Rattle.sqlite.specs.Order.{Row}
use Rattle.sqlite.specs.Tree.{Trees}
use Rattle.sqlite.specs.Term.{Term, Env, holds}
use Rattle.sqlite.specs.Query.{Query, IsAnswerAs, Output, output}
use Rattle.sqlite_value.specs.declared.keys.Key.{Key}
use Rattle.sqlite_rules.specs.Lists.{Has}
use Rattle.beldi_blobs.specs.Queries.{over_table}

-- ---- membership

all_has : {X : Type 0} (P : X → Type 0) (xs : List X) → ((x : X) → Has xs x → P x) → AllByRecursion P xs
all_has P [] h = tt
all_has P (x ∷ xs) h = (h x (inl refl), all_has P xs (λ y has. h y (inr has)))

pub of_all : {X : Type 0} (P : X → Type 0) (xs : List X) (x : X) → AllByRecursion P xs → Has xs x → P x
of_all P [] x all h = absurd h
of_all P (y ∷ xs) x all (inl e) = subst P (sym e) all.0
of_all P (y ∷ xs) x all (inr h) = of_all P xs x all.1 h

pub has_permuted : {X : Type 0} (xs ys : List X) (x : X) → IsPermutation xs ys → Has xs x → Has ys x
has_permuted xs ys x same h =
    of_all (Has ys) xs x (recursion_from_All (Has ys) xs (All-permutation (Has ys) ys xs (IsPermutation-sym xs ys same) (All-from_recursion (Has ys) ys (all_has (Has ys) ys (λ y has. has))))) h

pub record Maps {X Y : Type 0} (f : X → Y) (xs : List X) (y : Y) : Type 0 where
  pub of : X
  pub has : Has xs of
  pub is : y ≡ f of

pub in_map : {X Y : Type 0} (f : X → Y) (xs : List X) (y : Y) → Has (map f xs) y → Maps f xs y
in_map f [] y h = absurd h
in_map f (x ∷ xs) y (inl e) = record { of = x; has = inl refl; is = e }
in_map f (x ∷ xs) y (inr h) = let m = in_map f xs y h in record { of = m.of; has = inr m.has; is = m.is }

pub map_has : {X Y : Type 0} (f : X → Y) (xs : List X) (x : X) → Has xs x → Has (map f xs) (f x)
map_has f [] x h = absurd h
map_has f (y ∷ xs) x (inl e) = inl (ap f e)
map_has f (y ∷ xs) x (inr h) = inr (map_has f xs x h)

-- ---- the rows that pass a test

abbrev pub passes : Term → Row → Row → Bool
passes test params r = list_all (holds (params ∷ r ∷ [])) (test ∷ [])

abbrev pub match_of : Term → Row → Row → List Env
match_of test params r = if passes test params r then (params ∷ r ∷ []) ∷ [] else []

abbrev pub matching : Term → Row → List Row → List Env
matching test params rows = flat_map (match_of test params) rows

pub record Passes (test : Term) (params : Row) (rows : List Row) (env : Env) : Type 0 where
  pub row : Row
  pub has : Has rows row
  pub passed : passes test params row ≡ true
  pub is : env ≡ params ∷ row ∷ []

later : (test : Term) (params r : Row) (rows : List Row) (env : Env) → Passes test params rows env → Passes test params (r ∷ rows) env
later test params r rows env p = record { row = p.row; has = inr p.has; passed = p.passed; is = p.is }

pub in_matching : (test : Term) (params : Row) (rows : List Row) (env : Env) → Has (matching test params rows) env → Passes test params rows env
in_matching test params [] env h = absurd h
in_matching test params (r ∷ rows) env h =
    elim (passes test params r) as (λ b. passes test params r ≡ b → Has ((if b then (params ∷ r ∷ []) ∷ [] else []) ++ matching test params rows) env → Passes test params (r ∷ rows) env) [
      | true ↦ λ t has. elim has [
        | inl e ↦ record { row = r; has = inl refl; passed = t; is = e }
        | inr more ↦ later test params r rows env (in_matching test params rows env more)
      ]
      | false ↦ λ t has. later test params r rows env (in_matching test params rows env has)
    ] refl h

pub matching_has : (test : Term) (params : Row) (rows : List Row) (r : Row) → Has rows r → passes test params r ≡ true → Has (matching test params rows) (params ∷ r ∷ [])
matching_has test params [] r h p = absurd h
matching_has test params (x ∷ rows) r (inl e) p =
    subst (λ b. Has ((if b then (params ∷ x ∷ []) ∷ [] else []) ++ matching test params rows) (params ∷ r ∷ [])) (sym (ap (passes test params) (sym e) ∙ p)) (inl (ap (λ y. params ∷ y ∷ []) e))
matching_has test params (x ∷ rows) r (inr h) p =
    elim (passes test params x) as (λ b. Has ((if b then (params ∷ x ∷ []) ∷ [] else []) ++ matching test params rows) (params ∷ r ∷ [])) [
      | true ↦ inr (matching_has test params rows r h p)
      | false ↦ matching_has test params rows r h p
    ]

pub none_match : (test : Term) (params : Row) (rows : List Row) → AllByRecursion (λ r. passes test params r ≡ false) rows → matching test params rows ≡ []
none_match test params [] all = refl
none_match test params (r ∷ rows) all = ap (λ b. (if b then (params ∷ r ∷ []) ∷ [] else []) ++ matching test params rows) all.0 ∙ none_match test params rows all.1

pub one_matches : (test : Term) (params : Row) (front back : List Row) (x : Row) → passes test params x ≡ true → AllByRecursion (λ r. passes test params r ≡ false) (front ++ back)
    → matching test params (front ++ x ∷ back) ≡ (params ∷ x ∷ []) ∷ []
one_matches test params [] back x p all = ap (λ b. (if b then (params ∷ x ∷ []) ∷ [] else []) ++ matching test params back) p ∙ ap (λ xs. (params ∷ x ∷ []) ∷ xs) (none_match test params back all)
one_matches test params (r ∷ front) back x p all =
    ap (λ b. (if b then (params ∷ r ∷ []) ∷ [] else []) ++ matching test params (front ++ x ∷ back)) all.0 ∙ one_matches test params front back x p all.1

-- ---- an answer

module _ (test : Term) (project : List Term) (order : List (Term × Key)) (limit : ℤ) (params : Row) (db : Trees) (rows : List Row) (lost : Value)
    (a : IsAnswerAs lost (over_table test project order limit) db params rows) where
  abbrev query : Query
  query = over_table test project order limit

  pub kept_are : a.kept ≡ map (output query) (matching test params (db 0))
  kept_are = a.distinct ∙ ap (map (output query)) a.grouped

  -- each row that is shown comes from one that passes
  pub from_row : (o : Output) → Has a.ordered o → (r : Row) × Has (db 0) r × (passes test params r ≡ true) × (o ≡ output query (params ∷ r ∷ []))
  from_row o h =
      let m = in_map (output query) (matching test params (db 0)) o (subst (λ k. Has k o) kept_are (has_permuted a.ordered a.kept o (IsPermutation-sym a.kept a.ordered a.same) h)) in
      let p = in_matching test params (db 0) m.of m.has in
      (p.row, p.has, p.passed, m.is ∙ ap (output query) p.is)

  -- and each that passes is shown, but for the limit
  pub to_row : (r : Row) → Has (db 0) r → passes test params r ≡ true → Has a.ordered (output query (params ∷ r ∷ []))
  to_row r h p = has_permuted a.kept a.ordered _ a.same (subst (λ k. Has k (output query (params ∷ r ∷ []))) (sym kept_are) (map_has (output query) _ _ (matching_has test params (db 0) r h p)))
