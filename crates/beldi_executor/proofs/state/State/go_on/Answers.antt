use Rattle.beldi_executor.proofs.{Names.WentOn, Names.option_copied, Names.subst, CallStacks.gave_seen}
use Rattle.beldi_executor.proofs.state.State.go_on.Goals as goal

pub returns-in-Err : goal.returns-in-Err
returns-in-Err c = λ t p q x start most g w here. c.in-Err.ensures t p q c.args.draft.now g w

pub returns : goal.returns
returns c = λ t p q x start most g w here.
    let gave = c.in-Ok.ensures t p q c.args.draft.now g w in
    subst (λ g. WentOn c.args.code.now t p q (option_copied c.args.stop) g start c.go.new.self c.go.new.draft c.go.result) (gave_seen c.args.code.now t p q c.args.self.now c.args.draft.now c.args.active c.args.answer c.give.new.self c.in-Ok.active gave x here) (c.go.ensures t p q start most gave.0)
