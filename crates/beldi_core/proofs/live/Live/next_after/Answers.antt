use Rattle.std.proofs.Common.{Some, subst, sym, ◌∙◌}
use Rattle.beldi_core.proofs.Names.{IsLeastPast, RunMap, map_of}
use Rattle.beldi_core.proofs.Lives.{next_first, next_other}
use Rattle.beldi_core.proofs.live.Live.next_after.Goals as goal

pub returns-then-begins_past : goal.returns-then-begins_past
returns-then-begins_past c =
    let f = c.self.inside.first in
    subst (λ (a : RunMap). IsLeastPast c.args.number a (Some f.number)) c.self.view_is (next_first c.args.number f.number f.run (map_of c.self.inside.rest) (sym c.begins_past.ensures ∙ c.if-begins_past.true) c.self.invariant)

pub returns : goal.returns
returns c =
    let f = c.self.inside.first in
    subst (λ (a : RunMap). IsLeastPast c.args.number a c.next_in.result) c.self.view_is
    (next_other c.args.number f.number f.run (map_of c.self.inside.rest) c.next_in.result (sym c.begins_past.ensures ∙ c.if-begins_past.false) c.next_in.ensures)
