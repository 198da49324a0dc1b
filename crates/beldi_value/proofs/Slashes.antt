-- An id's text cut at its slashes.
use Rattle.beldi_value.specs.declared.read_id.IdErr.TheVariants.{OutOfMemory}
use Rattle.beldi_value.proofs.Names.{BadId, IdErr, List, None, Option, RefusesId, Some, [], after, ap, append_assoc, arith, before, false, hops_at, id_from, if◌then◌else◌, length, lt-ltb, nat_lt, onto_first, option_and_then, option_map, parts_of, refl, rest_parts, step_at, steps_at, sym, ticket_at, true, with_hops, ℕ, ◌++◌, ◌+◌, ◌<◌, ◌==◌, ◌∙◌, ◌∷◌, ◌≡◌}

-- the first part stands before the first slash
pub parts_cut : (bs : List ℕ) → parts_of bs ≡ before 47 bs ∷ rest_parts (after 47 bs)
parts_cut [] = refl
parts_cut (b ∷ bs) = elim (b == 47) as (λ t. (if t then [] ∷ parts_of bs else onto_first b (parts_of bs)) ≡ (if t then [] else b ∷ before 47 bs) ∷ rest_parts (if t then Some bs else after 47 bs)) [
  | true ↦ refl
  | false ↦ ap (onto_first b) (parts_cut bs)
]

-- these steps, and then those that are read
abbrev pub onto : List ℕ → Option (List ℕ) → Option (List ℕ)
onto ns o = option_map (λ ms. ns ++ ms) o

pub cut_is : (bs front : List ℕ) (rest : Option (List ℕ)) → front ≡ before 47 bs → rest ≡ after 47 bs → parts_of bs ≡ front ∷ rest_parts rest
cut_is bs front rest f r = parts_cut bs ∙ ap (λ p. p ∷ rest_parts (after 47 bs)) (sym f) ∙ ap (λ o. front ∷ rest_parts o) (sym r)

some_part : (bs : List ℕ) → 0 < length (parts_of bs)
some_part bs = omega (arith, ap length (parts_cut bs))

refused : (ps : List (List ℕ)) → steps_at ps ≡ None → hops_at ps ≡ None
refused ps e = elim (nat_lt 63 (length ps)) as (λ t. (if t then None else steps_at ps) ≡ None) [ true ↦ refl | false ↦ e ]

-- 63 steps, and one part more
pub too_many : (n : ℕ) (ps : List (List ℕ)) (bs : List ℕ) → n + length (parts_of bs) ≡ length ps → n ≡ 63 → hops_at ps ≡ None
too_many n ps bs h full = ap (λ t. if t then None else steps_at ps) (lt-ltb 63 (length ps) (omega (arith, some_part bs)))

-- a part that is no step
pub no_step : (ns : List ℕ) (p : List ℕ) (qs ps : List (List ℕ)) → onto ns (steps_at (p ∷ qs)) ≡ steps_at ps → step_at p ≡ None → hops_at ps ≡ None
no_step ns p qs ps h e = refused ps (sym h ∙ ap (λ o. onto ns (option_and_then (λ n. option_map (λ ms. n ∷ ms) (steps_at qs)) o)) e)

push : (ns : List ℕ) (n : ℕ) (o : Option (List ℕ)) → onto (ns ++ n ∷ []) o ≡ onto ns (option_map (λ ms. n ∷ ms) o)
push ns n None = refl
push ns n (Some ms) = ap Some (append_assoc ns (n ∷ []) ms)

-- a part that is one
pub one_step : (ns : List ℕ) (n : ℕ) (p : List ℕ) (qs : List (List ℕ)) (whole : Option (List ℕ)) → onto ns (steps_at (p ∷ qs)) ≡ whole → step_at p ≡ Some n → onto (ns ++ n ∷ []) (steps_at qs) ≡ whole
one_step ns n p qs whole h e = push ns n (steps_at qs) ∙ sym (ap (λ o. onto ns (option_and_then (λ m. option_map (λ ms. m ∷ ms) (steps_at qs)) o)) e) ∙ h

-- the whole id, by its ticket and its hops
pub id_read : (p : List ℕ) (qs : List (List ℕ)) (t : ℕ) (hs : List ℕ) → ticket_at p ≡ Some t → hops_at qs ≡ Some hs → id_from (p ∷ qs) ≡ Some (record { ticket = t; hops = hs })
id_read p qs t hs e h = ap (λ o. option_and_then (with_hops (hops_at qs)) o) e ∙ ap (λ o. with_hops o t) h

pub no_ticket : (p : List ℕ) (qs : List (List ℕ)) → ticket_at p ≡ None → id_from (p ∷ qs) ≡ None
no_ticket p qs e = ap (λ o. option_and_then (with_hops (hops_at qs)) o) e

pub no_hops : (p : List ℕ) (qs : List (List ℕ)) (t : ℕ) (e : IdErr) → ticket_at p ≡ Some t → RefusesId (hops_at qs) e → RefusesId (id_from (p ∷ qs)) e
no_hops p qs t OutOfMemory e h = tt
no_hops p qs t BadId e h = ap (λ o. option_and_then (with_hops (hops_at qs)) o) e ∙ ap (λ o. with_hops o t) h
