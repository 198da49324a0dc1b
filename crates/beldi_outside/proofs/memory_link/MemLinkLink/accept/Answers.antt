use Rattle.std.proofs.Common.{rules, map}
use Rattle.beldi_outside.proofs.memory_link.MemLinkLink.accept.Goals as goal

-- src/memory_link.rt:193:5
pub returns-in-Some-clause-exact : goal.returns-in-Some-clause-exact
returns-in-Some-clause-exact c = (search rules, (c.in-Some.bytes.items, map (λ v. v.items) c.pop_front.new.self.items, search rules, search rules))
