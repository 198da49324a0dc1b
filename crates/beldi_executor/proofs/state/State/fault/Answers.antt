use Rattle.beldi_executor.proofs.Names.{Comes, None, ap, false, fault_by, no_end, option_copied, rules, visible, subst, sym, ◌∙◌, ◌≡◌}
use Rattle.beldi_executor.proofs.ExecutorFalls.{fault_so}
use Rattle.beldi_executor.proofs.state.State.fault.Goals as goal

pub returns-in-None : goal.returns-in-None
returns-in-None c = λ t p q x g here lives.
    let e = c.args.active.machine.effect in
    let s = visible c.args.self.now c.args.draft.now.undo in
    let none : option_copied c.args.holder ≡ None = search rules in
    subst (λ o. Comes c.args.code.now t p q c.args.draft.now o (no_end false) c.finish.new.self c.finish.result)
    (sym (ap (λ h. fault_by t s c.args.active.id x h e) none ∙ fault_so t s c.args.active.id x e))
    (c.finish.ensures t p q x g here)
