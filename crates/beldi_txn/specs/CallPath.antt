-- The calls on the way from the owner of a transaction to a participant, and the intent that they lead to.
use Rattle.std.specs.Prelude.{ℕ, Bool, true, false, List, [], ◌∷◌, Option, Some, None, if◌then◌else◌}
use Rattle.beldi_value.specs.{declared.id.IntentId.IntentId, Id.child_of, Id.has_callees}
use Rattle.beldi_txn.specs.declared.call_path.Called.{Called}

-- an intent and its function
abbrev pub Member : Type 0
Member = IntentId × ℕ

-- what a member calls; one whose callees have no id stands for them
abbrev pub callee_id : IntentId → ℕ → IntentId
callee_id id step = if has_callees id then child_of id step else id

abbrev pub callee_of : Member → Called → Member
callee_of p c = (callee_id p.0 c.step, c.func)

-- where calls lead from a member
abbrev pub member_at : Member → List Called → Member
member_at p [] = p
member_at p (c ∷ cs) = member_at (callee_of p c) cs

-- the calls but the last one, and that one
abbrev pub front_of : Option (List Called × Called) → List Called
front_of None = []
front_of (Some s) = s.0

abbrev pub last_of : Option (List Called × Called) → Option Called
last_of None = None
last_of (Some s) = Some s.1

-- no call leads to the owner
abbrev pub is_owner : List Called → Bool
is_owner [] = true
is_owner (c ∷ cs) = false
