use Rattle.beldi_session.proofs.Names.{DoesTo, Working, None, Over, Settle, Standing, [], ap, core_of, first_at, go_on, sight, subst, sym, ◌∙◌, ◌∷◌}
use Rattle.beldi_session.proofs.{SessionCalls.does_nothing, SessionCalls.does_on, SessionCalls.does_so, SessionCalls.does_stop, Went.fine}
use Rattle.beldi_session.specs.Settling.{Led}
use Rattle.beldi_joined.specs.Joined.{behind}
use Rattle.beldi_session.proofs.Led.{if_sound, led_nowhere, led_on, promised, promised_after}
use Rattle.beldi_session.proofs.settling.settle.Goals as goal

pub loop-standing-init : goal.loop-standing-init
loop-standing-init g c = record {
  did = λ held faults.
      let a = sight c.args.host.now c.args.out.now held faults in
      let first = go_on c.args.budget first_at in
      subst (λ (z : Standing). DoesTo (Settle c.args.budget first ∷ []) (Settle c.args.budget z ∷ []) a a (fine {X = Unit {0}} tt)) (sym (c.go_on-standing.ensures.next ∙ ap (go_on c.args.budget) c.first_at.ensures)) (does_nothing a tt);
  turns = c.go_on-standing.ensures.turns;
  led = subst (λ z. Led c.args.host.now.code c.args.budget (go_on c.args.budget first_at) z (core_of c.args.host.now) (core_of c.args.host.now) (g.T.Table.state c.args.host.now.table) (g.T.Table.state c.args.host.now.table)) (sym (c.go_on-standing.ensures.next ∙ ap (go_on c.args.budget) c.first_at.ensures))
      (led_nowhere c.args.host.now.code c.args.budget (go_on c.args.budget first_at) (core_of c.args.host.now) (g.T.Table.state c.args.host.now.table));
}

pub loop-standing-preserved : goal.loop-standing-preserved
loop-standing-preserved g c = record {
  did = λ held faults. does_so tt (does_on {gs = Settle c.args.budget (Working c.in-Working.at) ∷ []} (rw c.in-Working.is at c.loop-standing.invariant.did held faults) (c.in-Ok.ensures.does held faults));
  turns = c.in-Ok.ensures.turns;
  led =
      let t = g.T.Table in
      let did = c.loop-standing.invariant.did None 0 in
      let here = c.loop-standing.host in
      led_on c.args.host.now.code c.args.budget (go_on c.args.budget first_at) (core_of c.args.host.now) (t.state c.args.host.now.table) c.in-Working.at c.in-Ok.next (core_of here) (core_of c.advance.new.host) (t.state here.table) (t.state c.advance.new.host.table)
      here.code did.code did.room (rw c.in-Working.is at c.loop-standing.invariant.led) c.in-Ok.ensures.led;
}

pub returns-in-Err-clause-does : goal.returns-in-Err-clause-does
returns-in-Err-clause-does g c = λ held faults. does_stop (does_on {gs = Settle c.args.budget (Working c.in-Working.at) ∷ []} (rw c.in-Working.is at c.loop-standing.invariant.did held faults) (c.in-Err.ensures.does held faults))

pub returns-in-Ok-tell_settled-clause-does : goal.returns-in-Ok-tell_settled-clause-does
returns-in-Ok-tell_settled-clause-does g c = λ held faults. does_so c.in-Over.settled (does_on {gs = Settle c.args.budget (Over c.in-Over.settled) ∷ []} (rw c.in-Over.is at c.loop-standing.invariant.did held faults) (c.in-Ok-tell_settled.ensures held faults))

pub returns-in-Ok-tell_settled-clause-promises : goal.returns-in-Ok-tell_settled-clause-promises
returns-in-Ok-tell_settled-clause-promises g c = λ right starts.
    let t = g.T.Table in
    let old = c.args.host.now in
    let here = c.loop-standing.host in
    promised c.settlings_are_as_promised.ensures old.code c.args.budget (core_of old) (core_of here) (t.state old.table) (t.state here.table) c.in-Over.settled c.keeps_rules.ensures.early
    (if_sound old.code (core_of old) c.keeps_rules.ensures.rules starts (t.state old.table).rows right) (rw c.in-Over.is at c.loop-standing.invariant.led)

pub returns-in-Ok-tell_settled-clause-joins : goal.returns-in-Ok-tell_settled-clause-joins
returns-in-Ok-tell_settled-clause-joins g c = λ base right starts.
    let t = g.T.Table in
    let old = c.args.host.now in
    let here = c.loop-standing.host in
    promised_after c.settlings_after_sessions_are_as_promised.ensures base old.code c.args.budget (core_of old) (core_of here) (t.state old.table) (t.state here.table) c.in-Over.settled c.keeps_rules.ensures.early
    (if_sound old.code (behind base (core_of old)) c.keeps_rules.ensures.rules starts (t.state old.table).rows right) (rw c.in-Over.is at c.loop-standing.invariant.led)

pub returns-in-Err-tell_settled-clause-does : goal.returns-in-Err-tell_settled-clause-does
returns-in-Err-tell_settled-clause-does g c = λ held faults. does_on {gs = Settle c.args.budget (Over c.in-Over.settled) ∷ []} (rw c.in-Over.is at c.loop-standing.invariant.did held faults) (does_stop (c.in-Err-tell_settled.ensures held faults))
