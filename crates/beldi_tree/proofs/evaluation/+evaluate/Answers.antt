use Rattle.beldi_tree.proofs.Evaluated.{evaluated_falls, evaluated_member_falls, first_fits, next_fits, more_fits, first_fault, next_fault, chain_begins}
use Rattle.beldi_tree.proofs.Names.{arith, rules, cow_value}
use Rattle.beldi_tree.proofs.evaluation.+evaluate.Goals as goal

pub list-evaluate-requires : goal.list-evaluate-requires
list-evaluate-requires t c =
    let f = evaluated_falls c.deref-expr-items.result.now c.exprs.inside.items.items c.args.exprs.now c.loop-expr.expr-index c.expr-item.result c.deref-expr-items.ensures.value c.exprs.view_is c.loop-expr-test.true c.expr-item.is in
    (omega arith, tt)

pub record-evaluate-requires : goal.record-evaluate-requires
record-evaluate-requires t c =
    let f = evaluated_member_falls c.deref-member-items.result.now c.members.inside.items.items c.args.members.now c.loop-member.member-index c.member-item.result c.deref-member-items.ensures.value c.members.view_is c.loop-member-test.true c.member-item.is in
    (omega arith, tt)

pub walk-evaluated-requires : goal.walk-evaluated-requires
walk-evaluated-requires t c =
    let f = first_fits c.args.variables.now c.chain.inside.first.value c.chain.inside.next.value c.chain.inside.more.items c.args.chain.now c.chain.view_is c.deref.result.now c.deref.ensures in
    (omega arith, tt)

pub walk-returns-in_err-first : goal.walk-returns-in_err-first
walk-returns-in_err-first t c =
    let f = first_fault c.args.variables.now c.chain.inside.first.value c.chain.inside.next.value c.chain.inside.more.items c.args.chain.now c.chain.view_is c.deref.result.now c.in_err-first.field-0.0 c.deref.ensures c.in_err-first.ensures in
    search rules

pub walk-advance-requires : goal.walk-advance-requires
walk-advance-requires t c =
    let f = next_fits c.args.variables.now c.chain.inside.first.value c.chain.inside.next.value c.chain.inside.more.items c.args.chain.now c.chain.view_is c.deref-2.result.now c.deref-2.ensures in
    (omega arith, tt)

pub walk-returns-in_err-value : goal.walk-returns-in_err-value
walk-returns-in_err-value t c =
    let f = next_fault c.args.variables.now c.chain.inside.first.value c.chain.inside.next.value c.chain.inside.more.items c.args.chain.now c.chain.view_is c.deref.result.now (cow_value c.in_ok-first.first) c.deref-2.result.now c.in_err-value.field-0.0 c.deref.ensures c.in_ok-first.ensures c.deref-2.ensures c.in_err-value.ensures in
    search rules

pub walk-loop-step-init : goal.walk-loop-step-init
walk-loop-step-init t c = chain_begins c.args.variables.now c.chain.inside.first.value c.chain.inside.next.value c.chain.inside.more.items c.args.chain.now c.chain.view_is c.deref.result.now (cow_value c.in_ok-first.first) (cow_value c.in_ok-value.value) c.deref-2.result.now c.deref-step-items.result.now c.deref.ensures c.in_ok-first.ensures c.deref-2.ensures c.in_ok-value.ensures c.deref-step-items.ensures.value

pub walk-advance-requires-in-loop-step : goal.walk-advance-requires-in-loop-step
walk-advance-requires-in-loop-step t c =
    let f = more_fits c.args.variables.now c.chain.inside.first.value c.chain.inside.next.value c.chain.inside.more.items c.args.chain.now c.chain.view_is c.deref-step-items.result.now c.loop-step.step-index c.step-item.result c.deref-step-items.ensures.value c.loop-step-test.true c.step-item.is in
    (omega arith, tt)
