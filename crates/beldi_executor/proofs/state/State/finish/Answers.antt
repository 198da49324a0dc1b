use Rattle.beldi_executor.proofs.Names.{Comes, Err, OutOfMemory, ends, false, is_owner, no_end, over_at, rules, visible, subst, sym, true, ◌&&◌, ◌≡◌}
use Rattle.beldi_executor.proofs.ExecutorFalls.{over_wants, over_done, over_not}
use Rattle.beldi_executor.proofs.state.State.finish.Goals as goal

pub returns-then-not-is_over : goal.returns-then-not-is_over
returns-then-not-is_over c = λ t p q x g here.
    let is : (is_owner c.args.draft.now.tx c.args.active.id && ends c.args.commit c.args.active.machine.effect) ≡ false = search rules in
    over_not c.args.code.now t p q c.args.self.now c.args.draft.now c.args.active x c.args.commit g here is c.no_end.result c.no_end.ensures

pub returns-in_err-active : goal.returns-in_err-active
returns-in_err-active c = λ t p q x g here.
    let is : (is_owner c.args.draft.now.tx c.args.active.id && ends c.args.commit c.args.active.machine.effect) ≡ true = search rules in
    let lost : c.from_residual.result ≡ Err OutOfMemory = search rules in
    subst (Comes c.args.code.now t p q c.args.draft.now (over_at t c.args.commit (visible c.args.self.now c.args.draft.now.undo) c.args.active.id x c.args.active.machine.effect) (no_end c.args.commit) c.give.new.self) (sym lost)
    (c.in_err-active.ensures t p q c.args.draft.now g (over_wants c.args.code.now t p q c.args.self.now c.args.draft.now c.args.active x c.args.commit g here is))

pub returns : goal.returns
returns c = λ t p q x g here.
    let is : (is_owner c.args.draft.now.tx c.args.active.id && ends c.args.commit c.args.active.machine.effect) ≡ true = search rules in
    let w = over_wants c.args.code.now t p q c.args.self.now c.args.draft.now c.args.active x c.args.commit g here is in
    over_done c.args.code.now t p q c.args.self.now c.args.draft.now c.args.active x c.args.commit g here c.give.new.self c.in_ok-active.active is (c.in_ok-active.ensures t p q c.args.draft.now g w)
