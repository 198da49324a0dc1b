-- That a function leads to another one by its cells exactly where there is a path.
use Rattle.beldi_check.specs.CallGraph.{through}
use Rattle.beldi_check.proofs.Names.{Bool, Func, IsPath, IsTrue, Link, List, None, ReachesByPaths, Some, [], arith, edge, edge_to, false, inl, inr, length, ltb-true, nat_lt, nat_tests, reaches, refl, slice_get, slice_get_within, subst, suc, true, zero, ℕ, ◌&&◌, ◌++◌, ◌<◌, ◌||◌, ◌∷◌, ◌≡◌, ◌⊎◌}

left : (a b : Bool) → IsTrue a → IsTrue (a || b)
left true b h = refl
left false b h = absurd (cc)

right : (a b : Bool) → IsTrue b → IsTrue (a || b)
right true b h = refl
right false b h = h

both : (a b : Bool) → IsTrue a → IsTrue b → IsTrue (a && b)
both true b h k = k
both false b h k = absurd (cc)

either : (a b : Bool) → IsTrue (a || b) → IsTrue a ⊎ IsTrue b
either true b h = inl refl
either false b h = inr h

first : (a b : Bool) → IsTrue (a && b) → IsTrue a
first true b h = refl
first false b h = absurd (cc)

second : (a b : Bool) → IsTrue (a && b) → IsTrue b
second true b h = h
second false b h = absurd (cc)

-- one path after another
joined : (e : ℕ → ℕ → Bool) (i n j : ℕ) (hs ks : List ℕ) → IsPath e i hs n → IsPath e n ks j → IsPath e i (hs ++ n ∷ ks) j
joined e i n j [] ks p q = (p, q)
joined e i n j (h ∷ hs) ks p q = (p.0, joined e h n j hs ks p.1 q)

pub path_of : (e : ℕ → ℕ → Bool) (n i j : ℕ) → IsTrue (through e n i j) → (path : List ℕ) × IsPath e i path j
unfolding through
path_of e zero i j h = ([], h)
path_of e (suc n) i j h =
    elim (either (through e n i j) (through e n i n && through e n n j) h) [
      | inl a ↦ path_of e n i j a
      | inr b ↦
          let p = path_of e n i n (first (through e n i n) (through e n n j) b) in
          let q = path_of e n n j (second (through e n i n) (through e n n j) b) in
          (p.0 ++ n ∷ q.0, joined e i n j p.0 q.0 p.1 q.1)
    ]

direct : (e : ℕ → ℕ → Bool) (n i j : ℕ) → IsTrue (e i j) → IsTrue (through e n i j)
unfolding through
direct e zero i j h = h
direct e (suc n) i j h = left (through e n i j) (through e n i n && through e n n j) (direct e n i j h)

is_or_below : (h n : ℕ) → h < suc n → (h ≡ n) ⊎ (h < n)
is_or_below h n k =
    elim (nat_lt h n) as (λ b. nat_lt h n ≡ b → (h ≡ n) ⊎ (h < n)) [
      | true ↦ λ t. inr (ltb-true h n t)
      | false ↦ λ t. inl (grind (arith, nat_tests, t))
    ] refl

-- a step before what leads on
before : (e : ℕ → ℕ → Bool) (n i h j : ℕ) → IsTrue (e i h) → h < n → IsTrue (through e n h j) → IsTrue (through e n i j)
unfolding through
before e zero i h j s k t = absurd (omega arith)
before e (suc n) i h j s k t =
    elim (is_or_below h n k) [
      | inl is ↦
          right (through e n i j) (through e n i n && through e n n j)
          (both (through e n i n) (through e n n j) (direct e n i n (subst (λ m. IsTrue (e i m)) is s))
          (elim (either (through e n h j) (through e n h n && through e n n j) t) [
            | inl a ↦ subst (λ m. IsTrue (through e n m j)) is a
            | inr b ↦ second (through e n h n) (through e n n j) b
          ]))
      | inr l ↦
          elim (either (through e n h j) (through e n h n && through e n n j) t) [
            | inl a ↦ left (through e n i j) (through e n i n && through e n n j) (before e n i h j s l a)
            | inr b ↦
                right (through e n i j) (through e n i n && through e n n j)
                (both (through e n i n) (through e n n j) (before e n i h n s l (first (through e n h n) (through e n n j) b)) (second (through e n h n) (through e n n j) b))
          ]
    ]

-- what a step leads to is a function
is_function : (k : Link) (fs : List Func) (i h : ℕ) → IsTrue (edge k fs i h) → h < length fs
is_function k fs i h s =
    elim (slice_get fs h) as (λ o. slice_get fs h ≡ o → IsTrue (edge_to k fs i o) → h < length fs) [
      | None ↦ λ is t. absurd (cc)
      | Some g ↦ λ is t. slice_get_within fs h g is
    ] refl s

pub reached : (k : Link) (fs : List Func) (path : List ℕ) (i j : ℕ) → IsPath (edge k fs) i path j → IsTrue (reaches k fs i j)
reached k fs [] i j p = direct (edge k fs) (length fs) i j p
reached k fs (h ∷ hs) i j p = before (edge k fs) (length fs) i h j p.0 (is_function k fs i h p.0) (reached k fs hs h j p.1)

pub reaches_by_paths : ReachesByPaths
reaches_by_paths k fs i j = (path_of (edge k fs) (length fs) i j, λ p. reached k fs p.0 i j p.1)
