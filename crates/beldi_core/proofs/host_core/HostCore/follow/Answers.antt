use Rattle.std.specs.Prelude.{IfOk}
use Rattle.beldi_core.proofs.Names.{Core, EventReply, None, core_in, rules, subst, ◌≡◌}
use Rattle.beldi_core.proofs.Names.map
use Rattle.beldi_core.specs.LiveRuns.{callee_for}
use Rattle.beldi_core.proofs.Callees.{callee_idle}
use Rattle.beldi_core.proofs.host_core.HostCore.follow.Goals as goal

pub returns-then-not-may_follow-clause-ok : goal.returns-then-not-may_follow-clause-ok
returns-then-not-may_follow-clause-ok c =
    let core = core_in c.args.self.now in
    let callee = callee_for c.args.callee (map.get c.args.self.now.runs.runs c.args.run) in
    subst (λ (q : Core × EventReply). IfOk c.after_turn.result (λ x. (core_in c.after_turn.new.self, x) ≡ q))
    (callee_idle core None callee c.args.id c.args.output c.args.output.wait (search rules)) c.after_turn.ensures.ok
