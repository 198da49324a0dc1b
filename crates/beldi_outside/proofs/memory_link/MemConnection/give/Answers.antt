use Rattle.std.proofs.Common.{subst, drop, ◌≡◌, ◌+◌, take}
use Rattle.beldi_outside.specs.Connection.{took}
use Rattle.beldi_outside.{proofs.Taking.give_more, proofs.Taking.at}
use Rattle.beldi_outside.proofs.memory_link.MemConnection.give.Goals as goal

-- src/memory_link.rt:47:5
pub returns-clause-gives : goal.returns-clause-gives
returns-clause-gives c = subst (λ s. at (take (c.self.inside.given + c.min-count.result) c.self.inside.bytes.items) (drop (c.self.inside.given + c.min-count.result) c.self.inside.bytes.items) c.self.inside.output.items c.self.inside.faults ≡ took c.min-count.result s) c.self.view_is (give_more c.self.inside.given c.min-count.result c.self.inside.faults c.self.inside.bytes.items c.self.inside.output.items)
