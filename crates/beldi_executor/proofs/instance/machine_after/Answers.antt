use Rattle.beldi_executor.proofs.Names.{Answer, IsAt, List, [], ap, arith, at_next, begun, common_steps, resumed, rules, subst, sym, take, take_all, true, wants_answer, ◌++◌, ◌+◌, ◌∙◌, ◌∷◌, ◌≡◌}
use Rattle.beldi_executor.proofs.ExecutorKept.{stands_early, stands_there}
use Rattle.beldi_executor.proofs.instance.machine_after.Goals as goal

pub loop-answer-init : goal.loop-answer-init
loop-answer-init c = c.in_ok-machine.ensures.begun ∙ ap (λ a. begun c.args.code.now c.args.func a c.args.inherited) c.in_ok-copy.ensures

pub returns-then-not-is_answered : goal.returns-then-not-is_answered
returns-then-not-is_answered c =
    stands_early c.args.code.now c.args.func c.args.args.now c.args.inherited c.loop-answer.machine c.args.answers.now c.loop-answer.answer-index c.loop-answer.invariant (search rules)

pub loop-answer-preserved : goal.loop-answer-preserved
loop-answer-preserved c =
    let i = c.loop-answer.answer-index in
    let before = take i c.args.answers.now in
    let answer = c.answer-item.result in
    let next : take (i + 1) c.args.answers.now ≡ before ++ answer ∷ [] = grind (arith, common_steps) in
    let takes : wants_answer c.loop-answer.machine.effect ≡ true = search rules in
    let taken : c.go_on.new.machine ≡ resumed c.args.code.now c.loop-answer.machine answer = search rules in
    taken
    ∙ subst (λ (l : List Answer). IsAt c.args.code.now c.args.func c.args.args.now c.args.inherited (resumed c.args.code.now c.loop-answer.machine answer) l) (sym next)
    (at_next c.args.code.now c.args.func c.args.args.now c.args.inherited c.loop-answer.machine before answer takes c.loop-answer.invariant)

pub returns : goal.returns
returns c =
    let at = subst (λ (l : List Answer). IsAt c.args.code.now c.args.func c.args.args.now c.args.inherited c.loop-answer.machine l) (take_all c.loop-answer.answer-index c.args.answers.now (omega arith)) c.loop-answer.invariant in
    stands_there c.args.code.now c.args.func c.args.args.now c.args.inherited c.loop-answer.machine c.args.answers.now at
