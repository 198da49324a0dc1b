use Rattle.beldi_row.specs.Key.{least_key}
use Rattle.beldi_step.specs.Next.{at_key}
use Rattle.beldi_schedule.specs.Settles.{MaySkip}
use Rattle.beldi_session.proofs.Names.{Working, Settle, [], ap, core_of, refl, sight, subst, sym, ◌∙◌, ◌∷◌}
use Rattle.beldi_session.proofs.{SessionCalls.does_on, Led.after_reset, Led.if_collected, SettleEvents.begun_collects, SettleEvents.collects_so, SettleEvents.went_back}
use Rattle.beldi_session.proofs.settling.advance.Goals as goal

pub returns-in-Reset-clause-does : goal.returns-in-Reset-clause-does
returns-in-Reset-clause-does g c = λ held faults.
    let t = g.T.Table in
    let out = c.args.out.now in
    let e = c.ic_reset.ensures in
    let begins = c.begun.ensures in
    let b = c.begun.result in
    does_on {gs = Settle c.args.budget (Working b) ∷ []}
    (went_back c.args.budget (sight c.args.host.now out held faults) (sight c.ic_reset.new.self out held faults) refl refl e.code (ap t.state e.table) refl c.args.at b c.in-Reset.at (sym c.next_of.ensures.next ∙ c.in-Reset.is) begins e.core)
    (c.collect-in-Reset.ensures.does b out held faults (begun_collects (core_of c.ic_reset.new.self) b c.in-Reset.at begins))

pub returns-in-Turn-clause-led : goal.returns-in-Turn-clause-led
returns-in-Turn-clause-led g c = c.give_turns.ensures.led c.args.at (sym c.next_of.ensures.next ∙ c.in-Turn.is)

pub returns-in-Collect-clause-led : goal.returns-in-Collect-clause-led
returns-in-Collect-clause-led g c =
    let t = g.T.Table in
    let old = c.args.host.now in
    let new = c.collect.new.host in
    let at = c.in-Collect.at in
    let is = sym c.next_of.ensures.next ∙ c.in-Collect.is in
    if_collected old.code c.args.budget c.args.at (core_of old) (core_of new) (t.state old.table) (t.state new.table) at (core_of old).cursor c.collect.result
    (λ m q h. subst (λ n. MaySkip (core_of old) m n at q) (sym is) (refl, h)) (λ q. collects_so (core_of old) c.args.at at q is) c.collect.ensures.collected

pub returns-in-Reset-clause-led : goal.returns-in-Reset-clause-led
returns-in-Reset-clause-led g c =
    let t = g.T.Table in
    let old = c.args.host.now in
    let back = c.ic_reset.new.self in
    let new = c.collect-in-Reset.new.host in
    let e = c.ic_reset.ensures in
    let begins = c.begun.ensures in
    let b = c.begun.result in
    let is = sym c.next_of.ensures.next ∙ c.in-Reset.is in
    if_collected old.code c.args.budget c.args.at (core_of old) (core_of new) (t.state old.table) (t.state new.table) b least_key c.collect-in-Reset.result
    (λ m q h. subst (λ n. MaySkip (core_of old) m n b q) (sym is) (begins, h)) (λ q. begun_collects (at_key q (core_of old)) b c.in-Reset.at begins)
    (after_reset old.code back.code c.args.budget b (core_of old) (core_of back) (core_of new) (t.state old.table) (t.state back.table) (t.state new.table) c.collect-in-Reset.result e.code e.core (ap t.state e.table) c.collect-in-Reset.ensures.collected)
