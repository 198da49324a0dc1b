-- Ids: their order, and what is made of them.
use Rattle.std.specs.Prelude.{◌≡◌, ℕ, nat_lt, Bool, true, false, List, [], ◌∷◌, ◌++◌, length, refl, if◌then◌else◌}
use Rattle.std.specs.{Coded.Coded, Coded.code_by, Coded.coded×, Coded.coded_ℕ, Coded.coded_list, Cmp.IsTotalOrder, Cmp.nat_cmp_total, Cmp.on_total, Cmp.then_total, Ordering.nat_cmp, Ordering.ordering_then, Ordering.is_lt, declared.cmp.Ordering.Ordering, declared.cmp.Ordering.TheVariants.Less, declared.cmp.Ordering.TheVariants.Equal, declared.cmp.Ordering.TheVariants.Greater, Cmp.Lexicographic.slice_cmp, Cmp.Lexicographic.nat_list_cmp_total, FinMap.IsAntisymmetric, FinMap.nat_cmp-IsAntisymmetric, FinMap.slice_cmp-IsAntisymmetric}
use Rattle.beldi_value.specs.declared.{id.IntentId.IntentId, place.Owner.Owner, place.Owner.TheVariants.Intent, place.Owner.TheVariants.Tx}

-- by ticket, and then by hops in dictionary order, a proper prefix first
abbrev pub id_cmp : IntentId → IntentId → Ordering
id_cmp a b = ordering_then (nat_cmp a.ticket b.ticket) (slice_cmp nat_cmp a.hops b.hops)

-- a is older than b
abbrev pub is_older : IntentId → IntentId → Bool
is_older a b = is_lt (id_cmp a b)

-- the id of a root
abbrev pub root_of : ℕ → IntentId
root_of ticket = record { ticket = ticket; hops = [] }

-- the id of what an intent calls at a step
abbrev pub child_of : IntentId → ℕ → IntentId
child_of a step = record { ticket = a.ticket; hops = a.hops ++ step ∷ [] }

-- an id has at most 63 hops: what an intent with so many calls has none
abbrev pub has_callees : IntentId → Bool
has_callees a = nat_lt (length a.hops) 63

-- no call leads to it
abbrev pub has_no_hops : List ℕ → Bool
has_no_hops [] = true
has_no_hops (h ∷ hs) = false

-- where an intent of a function has its rows: a root at 0, a callee at its function
abbrev pub home_of : IntentId → ℕ → ℕ
home_of a func = if has_no_hops a.hops then 0 else func

-- an id as a pair
abbrev pub coded_id : Coded IntentId
coded_id = code_by (ℕ × List ℕ) (coded× coded_ℕ (coded_list coded_ℕ)) (λ a. (a.ticket, a.hops)) (λ p. record { ticket = p.0; hops = p.1 }) (λ _. refl)

-- an owner's age is its intent
abbrev pub age_of : Owner → IntentId
age_of (Intent id) = id
age_of (Tx tx) = tx.intent

-- the order is total
pub id_total : IsTotalOrder id_cmp
id_total = then_total (on_total (λ a. a.ticket) nat_cmp_total) (on_total (λ a. a.hops) nat_list_cmp_total)

-- both parts of an order that compares alike do
pub then_both : (o p : Ordering) → ordering_then o p ≡ Equal → (o ≡ Equal) × (p ≡ Equal)
then_both Less p h = cc
then_both Equal p h = (refl, h)
then_both Greater p h = cc

-- ids that compare alike are one
pub id_exact : IsAntisymmetric id_cmp
id_exact a b h =
    let e = then_both (nat_cmp a.ticket b.ticket) (slice_cmp nat_cmp a.hops b.hops) h in
    λ i. record { ticket = nat_cmp-IsAntisymmetric a.ticket b.ticket e.0 i; hops = slice_cmp-IsAntisymmetric nat_cmp-IsAntisymmetric a.hops b.hops e.1 i }
