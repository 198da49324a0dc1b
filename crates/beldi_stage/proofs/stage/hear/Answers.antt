use Rattle.std.proofs.Common.{◌≡◌, IfOk, IfErr, ◌∙◌}
use Rattle.beldi_query.specs.Query.{query_reply_of}
use Rattle.beldi_step.specs.Run.{mark_of}
use Rattle.beldi_stage.proofs.Ended.{at_decision, at_visits}
use Rattle.beldi_stage.proofs.stage.hear.Goals as goal

pub returns-in-Decide-clause-ok : goal.returns-in-Decide-clause-ok
returns-in-Decide-clause-ok c =
    let g = c.args.begun.now in
    at_decision c.args.id.now c.args.func g.caller g.tx c.args.changes g.machine.steps g.machine.effect c.wants-effect-in-Decide.result.now g.stage c.in-Decide.field-0 (query_reply_of c.args.heard) (λ x. IfOk c.hear_decide.result (λ y. y ≡ x)) c.in-Decide.is c.wants-effect-in-Decide.ensures.effect
    (c.hear_decide.ensures.ok c.args.id.now c.args.func g.machine.steps c.in-Decide.field-0 (c.replace-stage.ensures.value ∙ c.in-Decide.is))

pub returns-in-Decide-clause-err : goal.returns-in-Decide-clause-err
returns-in-Decide-clause-err c =
    let g = c.args.begun.now in
    at_decision c.args.id.now c.args.func g.caller g.tx c.args.changes g.machine.steps g.machine.effect c.wants-effect-in-Decide.result.now g.stage c.in-Decide.field-0 (query_reply_of c.args.heard) (λ x. IfErr c.hear_decide.result (λ y. y ≡ mark_of x)) c.in-Decide.is c.wants-effect-in-Decide.ensures.effect
    (c.hear_decide.ensures.err c.args.id.now c.args.func g.machine.steps c.in-Decide.field-0 (c.replace-stage.ensures.value ∙ c.in-Decide.is))

pub returns-in-End-clause-ok : goal.returns-in-End-clause-ok
returns-in-End-clause-ok c =
    let g = c.args.begun.now in
    at_visits c.args.id.now c.args.func g.caller g.tx c.args.changes c.steps-step.result g.machine.steps g.machine.effect c.wants.result.now g.stage c.in-End.field-0 (query_reply_of c.args.heard) (λ x. IfOk c.hear_end.result (λ y. y ≡ x)) c.in-End.is c.steps-step.ensures.steps c.wants.ensures.effect
    (c.hear_end.ensures.ok c.in-End.field-0 c.in-End.is)

pub returns-in-End-clause-err : goal.returns-in-End-clause-err
returns-in-End-clause-err c =
    let g = c.args.begun.now in
    at_visits c.args.id.now c.args.func g.caller g.tx c.args.changes c.steps-step.result g.machine.steps g.machine.effect c.wants.result.now g.stage c.in-End.field-0 (query_reply_of c.args.heard) (λ x. IfErr c.hear_end.result (λ y. y ≡ mark_of x)) c.in-End.is c.steps-step.ensures.steps c.wants.ensures.effect
    (c.hear_end.ensures.err c.in-End.field-0)
