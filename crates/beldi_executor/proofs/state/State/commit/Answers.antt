use Rattle.beldi_plain.specs.Transaction.{enough}
use Rattle.beldi_executor.proofs.Names.{Comes, ap, no_end, subst, sym, true, wants_answer}
use Rattle.beldi_executor.proofs.Leads.{enough_first, ends_so}
use Rattle.beldi_executor.proofs.state.State.commit.Goals as goal

pub returns-in-Err : goal.returns-in-Err
returns-in-Err c = λ t p q x g begins here. c.in-Err.ensures t p q x enough enough_first g (ap wants_answer begins) here

pub returns : goal.returns
returns c = λ t p q x g begins here.
    let d = c.args.code.now in
    let w = c.in-Ok.ensures t p q x enough enough_first g (ap wants_answer begins) here in
    let y = w.goes.acts.instance in
    let is = ends_so d t p q _ enough c.go_on.new.self c.go_on.new.draft c.in-Ok.active y w.goes.acts.made true w in
    subst (λ o. Comes d t p q c.go_on.new.draft o (no_end true) c.finish.new.self c.finish.result) (sym is) (c.finish.ensures t p q y w.goes w.goes.acts.made)
