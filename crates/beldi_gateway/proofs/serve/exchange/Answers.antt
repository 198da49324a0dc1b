use Rattle.beldi_gateway.proofs.Names.{Replied, [], rules, subst, ◌≡◌}
use Rattle.beldi_gateway.proofs.WholeResponse.{front, lost, whole}
use Rattle.beldi_gateway.proofs.serve.exchange.Goals as goal

pub returns-in-Err-answer-clause-exchanges : goal.returns-in-Err-answer-clause-exchanges
returns-in-Err-answer-clause-exchanges g c =
    let d = g.D.Desk in
    let n = g.N.Link in
    lost (d.funcs c.args.desk.now) d.keeps c.in-Ok.scan c.gather.new.bytes.items c.args.desk.now c.answer.new.desk (n.seen c.args.link.now) (n.seen c.gather.new.link) (n.seen c.answer.new.link)
    c.in-Ok.ensures.takes c.in-Err-answer.ensures.answers

pub returns-in-Ok-replied-clause-exchanges : goal.returns-in-Ok-replied-clause-exchanges
returns-in-Ok-replied-clause-exchanges g c =
    let d = g.D.Desk in
    let n = g.N.Link in
    let x = c.gather.new.bytes.items in
    let b = n.seen c.gather.new.link in
    let e = n.seen c.answer.new.link in
    let some : ¬ (x ≡ []) = search rules in
    let answered = subst (λ z. Replied (d.funcs c.args.desk.now) d.keeps c.in-Ok.scan z c.args.desk.now c.answer.new.desk b e c.in-Ok-answer.response) c.as_slice.ensures.value c.in-Ok-answer.ensures.answers in
    whole (d.funcs c.args.desk.now) d.keeps c.in-Ok.scan x c.args.desk.now c.answer.new.desk (n.seen c.args.link.now) b e (n.seen c.reply-replied.new.link)
    c.in-Ok-answer.response c.in-Ok-replied.status c.in-Ok.ensures.takes some answered c.in-Ok-replied.ensures.replies.0 c.in-Ok-replied.ensures.replies.1

pub returns-in-Err-replied-clause-exchanges : goal.returns-in-Err-replied-clause-exchanges
returns-in-Err-replied-clause-exchanges g c =
    let d = g.D.Desk in
    let n = g.N.Link in
    let x = c.gather.new.bytes.items in
    let b = n.seen c.gather.new.link in
    let e = n.seen c.answer.new.link in
    let answered = subst (λ z. Replied (d.funcs c.args.desk.now) d.keeps c.in-Ok.scan z c.args.desk.now c.answer.new.desk b e c.in-Ok-answer.response) c.as_slice.ensures.value c.in-Ok-answer.ensures.answers in
    let wrote = c.in-Err-replied.ensures.replies in
    front (d.funcs c.args.desk.now) d.keeps c.in-Ok.scan x wrote.0 c.args.desk.now c.answer.new.desk (n.seen c.args.link.now) b e (n.seen c.reply-replied.new.link)
    c.in-Ok-answer.response c.in-Ok.ensures.takes answered wrote.1 wrote.2
