-- A callee has one place.
use Rattle.beldi_value.proofs.Callees.{child_same}
use Rattle.beldi_call.specs.Async.{CalleesHaveOnePlace}

pub one_place : CalleesHaveOnePlace
one_place p q h = let r = child_same p.intent q.intent p.step q.step h in λ i. record { intent = r.0 i; step = r.1 i }
