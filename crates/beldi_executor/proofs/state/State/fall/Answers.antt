use Rattle.beldi_executor.proofs.Names.{Comes, dies_at, ends_on, false, no_end, option_copied, rules, visible, subst, sym, true, ◌∙◌, ◌≡◌}
use Rattle.beldi_executor.proofs.{Leads.ends_so, ExecutorFalls.dies_wants, ExecutorFalls.not_dead, ExecutorFalls.is_dead}
use Rattle.beldi_executor.proofs.state.State.fall.Goals as goal

pub returns-then-not-dies : goal.returns-then-not-dies
returns-then-not-dies c = λ t p q x left most g here.
    let d = c.args.code.now in
    let hold = option_copied c.args.holder in
    let e = c.args.active.machine.effect in
    let lives : dies_at hold e ≡ false = search rules in
    subst (λ o. Comes d t p q c.args.draft.now o (no_end false) c.fault.new.self c.fault.result)
    (sym (not_dead (ends_on d left t false) t (visible c.args.self.now c.args.draft.now.undo) c.args.active.id x hold e lives))
    (c.fault.ensures t p q x g here lives)

pub returns-in-Err : goal.returns-in-Err
returns-in-Err c = λ t p q x left most g here. g.draft

pub returns-in-Err-go_on : goal.returns-in-Err-go_on
returns-in-Err-go_on c = λ t p q x left most g here.
    let hold = option_copied c.args.holder in
    let dies : dies_at hold c.args.active.machine.effect ≡ true = search rules in
    c.in-Err-go_on.ensures t p q x left most g (dies_wants hold c.args.active.machine.effect dies) here

pub returns : goal.returns
returns c = λ t p q x left most g here.
    let d = c.args.code.now in
    let hold = option_copied c.args.holder in
    let dies : dies_at hold c.args.active.machine.effect ≡ true = search rules in
    let w = c.in-Ok-go_on.ensures t p q x left most g (dies_wants hold c.args.active.machine.effect dies) here in
    let y = w.goes.acts.instance in
    let is = is_dead d t p q c.args.self.now c.args.draft.now c.args.active x hold c.in-Ok.cause left g here dies c.in-Ok.ensures
    ∙ ends_so d t p q _ left c.go_on.new.self c.go_on.new.draft c.in-Ok-go_on.active y w.goes.acts.made false w in
    subst (λ o. Comes d t p q c.go_on.new.draft o (no_end false) c.finish.new.self c.finish.result) (sym is) (c.finish.ensures t p q y w.goes w.goes.acts.made)
