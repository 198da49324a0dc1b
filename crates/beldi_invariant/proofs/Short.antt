-- The id of what is called is as short as ids are.
use Rattle.beldi_invariant.proofs.Names.{IntentId, [], arith, child_of, has_callees, length, length-append, ltb-true, true, ℕ, ◌∷◌, ◌≡◌, ◌≤◌}

-- who calls is short enough that its callee is
pub child_short : (id : IntentId) (n : ℕ) → has_callees id ≡ true → length (child_of id n).hops ≤ 63
child_short id n room = let few = ltb-true (length id.hops) 63 room in let more = length-append id.hops (n ∷ []) in omega (arith, few, more)
