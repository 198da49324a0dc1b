use Rattle.std.proofs.Common.{Err, Ok, [], subst, sym, ◌∷◌}
use Rattle.beldi_session.specs.Script.{TellReply}
use Rattle.beldi_gateway.specs.declared.{desk.CallReply.CallReply, response.Response.TheVariants.Call as Called}
use Rattle.beldi_serve.specs.Desk.{AnswersTo, Comes}
use Rattle.beldi_serve.proofs.Coming.{Looked, look_failed, look_short, look_told, reply_comes}
use Rattle.beldi_host.specs.declared.survey.OpenErr.{OpenErr}
use Rattle.beldi_serve.proofs.desk.look.Goals as goal

pub returns-in-Ok : goal.returns-in-Ok
returns-in-Ok g c =
    let e = c.in-Ok.ensures in
    let a = c.args.host.now in
    let b = c.reply.new.self in
    subst (λ (x : CallReply). Comes (AnswersTo (TellReply c.args.ticket ∷ []) (Called x)) a b) (sym c.reply_said.ensures)
    (look_told a b c.args.ticket c.in-Ok.seen (reply_comes a b c.args.ticket (Ok c.in-Ok.seen) e.code e.core e.reads (λ w is. cc)))

pub returns-in-Err-Failed : goal.returns-in-Err-Failed
returns-in-Err-Failed g c =
    let f = c.in-Err-Failed in
    let e = f.ensures in
    let a = c.args.host.now in
    let b = c.reply.new.self in
    look_failed a b c.args.ticket (subst (λ (w : OpenErr). Comes (Looked c.args.ticket (Err w)) a b) f.field-0-is (reply_comes a b c.args.ticket (Err f.field-0) e.code e.core e.reads (λ w is. e.issued)))

pub returns-in-Err-OutOfMemory : goal.returns-in-Err-OutOfMemory
returns-in-Err-OutOfMemory g c =
    let f = c.in-Err-OutOfMemory in
    let e = f.ensures in
    let a = c.args.host.now in
    let b = c.reply.new.self in
    look_short a b c.args.ticket (subst (λ (w : OpenErr). Comes (Looked c.args.ticket (Err w)) a b) f.field-0-is (reply_comes a b c.args.ticket (Err f.field-0) e.code e.core e.reads (λ w is. e.issued)))
