use Rattle.std.proofs.Common.{None, refl, ap, subst, ◌≡◌, ◌∙◌}
use Rattle.beldi_step.specs.Run.{followed, goes_to}
use Rattle.beldi_step.specs.declared.run.{Begun.Begun, RunAt.TheVariants.Begins}
use Rattle.beldi_turn.proofs.RunTurns.{same_begun}
use Rattle.beldi_turn.proofs.turn.enter.Goals as goal

pub returns-in-Ok-clause-begun : goal.returns-in-Ok-clause-begun
returns-in-Ok-clause-begun c = λ g is at.
    let r = c.args.run.now in
    let same : c.in-Begins.begun ≡ g = same_begun r.at c.in-Begins.begun g c.in-Begins.is is in
    subst (λ (q : Begun). followed (record r { at = Begins c.go_to.new.begun }) c.plain-in-Ok.result ≡ goes_to c.args.code.now (record r { at = at }) (q.machine, q.tx) q.caller None) same
    (ap (followed (record r { at = Begins c.go_to.new.begun })) c.plain-in-Ok.ensures ∙ c.in-Ok.ensures (record r { at = at }) None refl)
