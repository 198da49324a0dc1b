use Rattle.std.proofs.Common.{rules, ◌≡◌}
use Rattle.beldi_step.specs.Run.{at_state, takes}
use Rattle.beldi_turn.proofs.RunTurns.{answered}
use Rattle.beldi_turn.proofs.turn.go_on.Goals as goal

pub returns-clause-goes : goal.returns-clause-goes
returns-clause-goes c =
    let taken : c.take.new.begun ≡ at_state c.in-Begins.begun (takes c.args.code.now c.in-Begins.begun.machine c.in-Begins.begun.tx c.args.answer) = search rules in
    answered c.args.code.now c.args.run.now c.in-Begins.begun c.take.new.begun c.go_to.new.begun c.args.answer c.go_to.result c.in-Begins.is taken c.go_to.ensures
