use Rattle.std.proofs.Common.{rules}
use Rattle.beldi_session.proofs.Names.{DoesTo, Event, Working, IfOk, Ok, Settle, [], ap, core_of, refl, sight, subst, sym, on_turn_reply, ◌+◌, ◌<◌, ◌∷◌}
use Rattle.beldi_session.specs.Settling.{WasAnswered, Led}
use Rattle.beldi_session.proofs.{Led.turn_led, Strides.strides_do, Strides.strides_led}
use Rattle.std.proofs.Common.{◌≤◌}
use Rattle.beldi_session.proofs.settling.give_turns.Goals as goal

pub returns-in-0-clause-led : goal.returns-in-0-clause-led
returns-in-0-clause-led g c = λ s is.
    let t = g.T.Table in
    let old = c.args.host.now in
    let new = c.give_turn.new.host in
    turn_led old.code c.args.budget s (core_of old) (core_of new) (t.state old.table) (t.state new.table) c.args.at c.args.run c.give_turn.result is
    (subst (λ h. IfOk c.give_turn.result (λ next. WasAnswered h.code (Event.Turn c.args.run) (λ k x. on_turn_reply c.args.budget c.args.at c.args.run x) (core_of h) (core_of new) (t.state h.table) (t.state new.table) next)) (c.stride.ensures.none c.in-0.is) c.give_turn.ensures.heard)

pub returns-in_default-clause-does : goal.returns-in_default-clause-does
returns-in_default-clause-does g c = λ s held faults is.
    let t = g.T.Table in
    let e = c.stride.ensures in
    let a = sight c.args.host.now c.args.out.now held faults in
    let b = sight c.stride.new.host c.args.out.now held faults in
    let some : 0 < c.stride.result = search rules in
    let fits : c.args.at.turns + c.stride.result ≤ c.args.budget = search rules in
    subst (λ z. DoesTo (Settle c.args.budget (Working s) ∷ []) (Settle c.args.budget z ∷ []) a b (Ok z)) (sym c.strode.ensures.next)
    (strides_do c.args.budget c.args.run c.stride.result s c.args.at some fits a b refl refl e.code (ap t.state e.table) refl is (e.strides some))

pub returns-in_default-clause-led : goal.returns-in_default-clause-led
returns-in_default-clause-led g c = λ s is.
    let t = g.T.Table in
    let e = c.stride.ensures in
    let old = c.args.host.now in
    let new = c.stride.new.host in
    let some : 0 < c.stride.result = search rules in
    let fits : c.args.at.turns + c.stride.result ≤ c.args.budget = search rules in
    subst (λ z. Led old.code c.args.budget (Working s) z (core_of old) (core_of new) (t.state old.table) (t.state new.table)) (sym c.strode.ensures.next)
    (strides_led c.args.budget c.args.run c.stride.result s c.args.at some fits old.code (core_of old) (core_of new) (t.state old.table) (t.state new.table) (ap t.state e.table) is (e.strides some))
