-- What goes up among finitely many comes to an end; of finitely many one is greatest; an intent that has a live run has one with a number;
-- and where there are runs some run lives.
use Rattle.std.specs.FinMap.{FinMap, entries_sorted, get-empty, get-entries, same_map, Entries.below_all, Entries.find, Entries.is_sorted}
use Rattle.std.specs.FinMap as map
use Rattle.std.specs.{Cmp.Equal-is, Cmp.nat_cmp_total, Cmp.ranks, FinMap.nat_cmp-IsAntisymmetric, List.list_any, Ordering.MatchOrdering, Ordering.is_eq, Ordering.is_lt, Ordering.nat_cmp, declared.cmp.Ordering.Ordering, declared.cmp.Ordering.TheVariants.Less}
use Rattle.std.proofs.Common.{Bool, List, None, Some, T, [], ap, arith, cond, false, inl, inr, is_some, refl, subst, suc, sym, true, zero, ℕ, ◌&&◌, ◌<◌, ◌||◌, ◌∙◌, ◌∷◌, ◌≡◌, ◌≤◌, ◌⊎◌}
use Rattle.std.proofs.lemmas.{Bool.ltb-false, Bool.ltb-true, Cmp.tied_itself}
use Rattle.std.specs.Prelude.{nat_lt}
use Rattle.beldi_value.specs.{Id.id_cmp, Id.id_exact, declared.id.IntentId.IntentId}
use Rattle.beldi_step.specs.{HostStep.Core, HostStep.has_run, Next.first_past, Next.next_run, declared.run.Run.Run}
use Rattle.beldi_histories.proofs.Cases.{by_cases}
use Rattle.beldi_bound.specs.Ends.{IsIn}

-- ---- numbers up to one
abbrev pub numbers : ℕ → List ℕ
numbers zero = 0 ∷ []
numbers (suc n) = suc n ∷ numbers n

pub in_numbers : (n i : ℕ) → i ≤ n → IsIn i (numbers n)
in_numbers zero i le = inl (omega (arith, le))
in_numbers (suc n) i le = by_cases (nat_lt i (suc n)) (λ e. inr (in_numbers n i (let l = ltb-true i (suc n) e in omega (arith, l)))) (λ e. inl (let l = ltb-false i (suc n) e in omega (arith, l, le)))

-- ---- each goes on to a higher one, or to the goal: so there is the goal
module _ (P : ℕ → Type 0) (R : ℕ → ℕ → Type 0) where
  pub record Higher (xs : List ℕ) (y : ℕ) : Type 0 where
    pub to : ℕ
    pub among : IsIn to xs
    pub is : P to
    pub higher : R y to

  module _ (C : Type 0) (further : (a b c : ℕ) → R a b → R b c → R a c) (itself : (a : ℕ) → R a a → ⊥) where
    -- past the first of them
    past : (a : ℕ) (xs : List ℕ) → ((y : ℕ) → IsIn y (a ∷ xs) → P y → C ⊎ Higher (a ∷ xs) y) → (y : ℕ) → C ⊎ Higher (a ∷ xs) y → C ⊎ Higher xs y
    past a xs goes y (inl c) = inl c
    past a xs goes y (inr h) = elim h.among [
      | inr at ↦ inr (record { to = h.to; among = at; is = h.is; higher = h.higher })
      | inl e ↦ elim (goes h.to (inl e) h.is) [
        | inl c ↦ inl c
        | inr k ↦ elim k.among [
          | inr at ↦ inr (record { to = k.to; among = at; is = k.is; higher = further y h.to k.to h.higher k.higher })
          | inl f ↦ absurd (itself h.to (subst (R h.to) (f ∙ sym e) k.higher))
        ]
      ]
    ]

    pub chain : (xs : List ℕ) → ((y : ℕ) → IsIn y xs → P y → C ⊎ Higher xs y) → (x : ℕ) → C ⊎ Higher xs x → C
    chain xs goes x (inl c) = c
    chain [] goes x (inr h) = absurd h.among
    chain (a ∷ xs) goes x (inr h) = chain xs (λ y at is. past a xs goes y (goes y (inr at) is)) x (past a xs goes x (inr h))

-- ---- one is greatest
module _ (p : ℕ → Bool) (f : ℕ → ℕ) where
  pub record Greatest (xs : List ℕ) (least : ℕ) : Type 0 where
    pub one : ℕ
    pub is : p one ≡ true
    pub least_is : least ≤ f one
    pub each : (j : ℕ) → IsIn j xs → p j ≡ true → f j ≤ f one

  both : (s t : Bool) → (s && t) ≡ true → (s ≡ true) × (t ≡ true)
  both s t e = grind arith

  module _ (xs : List ℕ) (go : (b : ℕ) → p b ≡ true → Greatest xs (f b)) (x b : ℕ) (is : p b ≡ true) where
    higher : (p x && nat_lt (f b) (f x)) ≡ true → Greatest (x ∷ xs) (f b)
    higher e =
        let k = both (p x) (nat_lt (f b) (f x)) e in
        let l = ltb-true (f b) (f x) k.1 in
        let g = go x k.0 in
        let le = g.least_is in
        record { one = g.one; is = g.is; least_is = omega (arith, l, le); each = λ j at e. elim at [ inl s ↦ subst (λ y. f y ≤ f g.one) (sym s) le | inr at ↦ g.each j at e ] }

    lower : (p x && nat_lt (f b) (f x)) ≡ false → Greatest (x ∷ xs) (f b)
    lower e =
        let g = go b is in
        let le = g.least_is in
        record { one = g.one; is = g.is; least_is = le; each = λ j at i. elim at [ inl s ↦ subst (λ y. f y ≤ f g.one) (sym s) (not_more g.one le (sym (ap p s) ∙ i)) | inr at ↦ g.each j at i ] }
      where
        not_more : (y : ℕ) → f b ≤ f y → p x ≡ true → f x ≤ f y
        not_more y le px = let l = ltb-false (f b) (f x) (sym (ap (λ t. t && nat_lt (f b) (f x)) px) ∙ e) in omega (arith, l, le)

  pub greatest : (xs : List ℕ) (b : ℕ) → p b ≡ true → Greatest xs (f b)
  greatest [] b is = record { one = b; is = is; least_is = omega arith; each = λ j at e. absurd at }
  greatest (x ∷ xs) b is = by_cases (p x && nat_lt (f b) (f x)) (higher xs (greatest xs) x b is) (lower xs (greatest xs) x b is)

-- ---- a live run of an intent
first_true : (b c : Bool) → (b || c) ≡ true → (b ≡ true) ⊎ (c ≡ true)
first_true true c e = inl refl
first_true false c e = inr e

less : (o : Ordering) → is_lt o ≡ true → o ≡ Less
less o e = grind arith

below : (j k : ℕ) → is_lt (nat_cmp j k) ≡ true → j < k
below j k h = subst (λ r. MatchOrdering r (j < k) (j ≡ k) (k < j)) (less (nat_cmp j k) h) (ranks j k)

first : (a b : Bool) → T (a && b) → T a
first true b p = tt
first false b p = p

second : (a b : Bool) → T (a && b) → T b
second true b p = p
second false b p = absurd p

is_true : (b : Bool) → T b → b ≡ true
is_true true h = refl
is_true false h = absurd h

apart : (j k : ℕ) → (j ≡ k → ⊥) → is_eq (nat_cmp j k) ≡ false
apart j k h = by_cases (is_eq (nat_cmp j k)) (λ e. absurd (h (nat_cmp-IsAntisymmetric j k ((Equal-is (nat_cmp j k)).0 e)))) (λ e. e)

skip : (j : ℕ) (e : ℕ × Run) (es : List (ℕ × Run)) → (j ≡ e.0 → ⊥) → find nat_cmp j (e ∷ es) ≡ find nat_cmp j es
skip j e es h = ap (λ b. cond b (Some e.1) (find nat_cmp j es)) (apart j e.0 h)

none_under : (j k : ℕ) (es : List (ℕ × Run)) → j ≤ k → T (below_all nat_cmp k es) → find nat_cmp j es ≡ None
none_under j k [] p h = refl
none_under j k (e ∷ es) p h = let above : k < e.0 = below k e.0 (is_true _ (first _ _ h)) in skip j e es (λ s. omega arith) ∙ none_under j k es p (second _ _ h)

record RunOf (es : List (ℕ × Run)) (id : IntentId) : Type 0 where
  number : ℕ
  run : Run
  there : find nat_cmp number es ≡ Some run
  same : is_eq (id_cmp run.id id) ≡ true

later_in : (id : IntentId) (e : ℕ × Run) (es : List (ℕ × Run)) → T (is_sorted nat_cmp (e ∷ es)) → RunOf es id → RunOf (e ∷ es) id
later_in id e es s k = record { number = k.number; run = k.run; there = skip k.number e es other ∙ k.there; same = k.same }
  where
    other : k.number ≡ e.0 → ⊥
    other same = let clash : None ≡ Some k.run = sym (none_under k.number e.0 es (omega (arith, same)) (first _ _ s)) ∙ k.there in cc

run_in : (id : IntentId) (es : List (ℕ × Run)) → T (is_sorted nat_cmp es) → list_any (λ e. is_eq (id_cmp e.1.id id)) es ≡ true → RunOf es id
run_in id [] s h = cc
run_in id (e ∷ es) s h = elim (first_true (is_eq (id_cmp e.1.id id)) (list_any (λ e. is_eq (id_cmp e.1.id id)) es) h) [
  | inl here ↦ record { number = e.0; run = e.1; there = ap (λ b. cond b (Some e.1) (find nat_cmp e.0 es)) (ap is_eq (tied_itself nat_cmp_total e.0)); same = here }
  | inr later ↦ later_in id e es s (run_in id es (second _ _ s) later)
]

pub record LiveRun (runs : FinMap nat_cmp Run) (id : IntentId) : Type 0 where
  pub number : ℕ
  pub run : Run
  pub live : map.get runs number ≡ Some run
  pub same : run.id ≡ id

pub live_run : (runs : FinMap nat_cmp Run) (id : IntentId) → has_run runs id ≡ true → LiveRun runs id
live_run runs id has = let k = run_in id (map.entries runs) (entries_sorted runs) has in record { number = k.number; run = k.run; live = get-entries runs k.number ∙ k.there; same = id_exact k.run.id id ((Equal-is (id_cmp k.run.id id)).0 k.same) }

-- ---- some run
found_first : (e : ℕ × Run) (es : List (ℕ × Run)) → find nat_cmp e.0 (e ∷ es) ≡ Some e.1
found_first e es = ap (λ b. cond b (Some e.1) (find nat_cmp e.0 es)) (ap is_eq (tied_itself nat_cmp_total e.0))

some_entry : (es : List (ℕ × Run)) → (es ≡ [] → ⊥) → (i : ℕ) × (is_some (find nat_cmp i es) ≡ true)
some_entry [] never = absurd (never refl)
some_entry (e ∷ es) never = (e.0, ap is_some (found_first e es))

pub some_run : (runs : FinMap nat_cmp Run) → (runs ≡ map.empty → ⊥) → (i : ℕ) × (is_some (map.get runs i) ≡ true)
some_run runs never = let e = some_entry (map.entries runs) (λ none. never (same_map nat_cmp_total nat_cmp-IsAntisymmetric runs map.empty (λ q. get-entries runs q ∙ ap (find nat_cmp q) none ∙ sym (get-empty nat_cmp q)))) in (e.0, ap is_some (get-entries runs e.0) ∙ e.1)

-- where there is a next one
no_next : (runs : FinMap nat_cmp Run) → runs ≡ map.empty → (i n : ℕ) (es : List (ℕ × Run)) → map.entries runs ≡ es → first_past i es ≡ Some n → ⊥
no_next runs none i n [] same is = cc
no_next runs none i n (e ∷ es) same is = let clash : None ≡ Some e.1 = sym (get-empty nat_cmp e.0) ∙ ap (λ (z : FinMap nat_cmp Run). map.get z e.0) (sym none) ∙ get-entries runs e.0 ∙ ap (find nat_cmp e.0) same ∙ found_first e es in cc

pub some_lives : (c : Core) (i n : ℕ) → next_run c i ≡ Some n → c.runs ≡ map.empty → ⊥
some_lives c i n is none = no_next c.runs none i n (map.entries c.runs) refl is
