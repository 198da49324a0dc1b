use Rattle.beldi_gateway.proofs.{Names.rules, Replies.answers_plan, Replies.replied_refused}
use Rattle.beldi_gateway.proofs.serve.answer.Goals as goal

pub returns-in-Ok-Err-clause-answers : goal.returns-in-Ok-Err-clause-answers
returns-in-Ok-Err-clause-answers g c =
    let d = g.D.Desk in
    replied_refused (d.funcs c.args.desk.now) d.keeps c.args.scan c.args.bytes.now c.in-Ok-Err.refusal c.args.desk.now (g.N.Link.seen c.args.link.now)
    c.requires.scanned c.requires.within c.requires.short (search rules)

pub returns-in-Ok-Ok-clause-answers : goal.returns-in-Ok-Ok-clause-answers
returns-in-Ok-Ok-clause-answers g c =
    let d = g.D.Desk in
    let n = g.N.Link in
    answers_plan (d.funcs c.args.desk.now) d.keeps c.args.scan c.args.bytes.now c.cut_at.result.0.now c.split_at.result.1.now c.in-Ok-Ok.plan c.args.desk.now c.answer_plan.new.desk
    (n.seen c.args.link.now) (n.seen c.answer_plan.new.link) c.answer_plan.result c.requires.scanned c.requires.within c.requires.short (search rules)
    (search rules) (search rules) c.answer_plan.ensures.fills
