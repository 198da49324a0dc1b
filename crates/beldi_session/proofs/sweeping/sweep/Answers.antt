use Rattle.beldi_session.proofs.Names.{None, [], core_of, sight, subst, ◌∷◌, ◌≡◌}
use Rattle.std.proofs.Common.{◌+◌, arith}
use Rattle.beldi_session.specs.{Sweeps.GivesTurns, Sweeps.KeepsSweepPromises, declared.sweeping.Swept.TheVariants.All, declared.sweeping.Swept.TheVariants.Unswept}
use Rattle.beldi_session.specs.Script.{Sweep}
use Rattle.beldi_session.proofs.{SessionCalls.does_nothing, SessionCalls.does_on, SessionCalls.does_so, SessionCalls.does_stop, Sweeps.goes_on, Sweeps.is_over, SweepTurns.goes_further, SweepTurns.goes_nowhere, SweepTurns.goes_over, SweepTurns.if_so, SweepTurns.sweep_promised}
use Rattle.beldi_session.proofs.sweeping.sweep.Goals as goal

pub loop-turns-init : goal.loop-turns-init
loop-turns-init g c = record {
  did = λ held faults. does_nothing (sight c.args.host.now c.args.out.now held faults) tt;
  most = omega arith;
  goes = goes_nowhere c.args.host.now.code c.args.number (core_of c.args.host.now) (g.T.Table.state c.args.host.now.table);
}

pub returns-in-Ok-true-clause-does : goal.returns-in-Ok-true-clause-does
returns-in-Ok-true-clause-does g c = λ held faults.
    let l = c.loop-turns in
    does_on (goes_on c.args.number c.args.budget l.turns c.loop-turns-test.true (l.invariant.did held faults))
    (does_on (rw c.in-Ok-true.field-0-test at c.in-Ok-true.ensures.does c.args.budget l.out held faults) (c.end.ensures.does held faults))

pub returns-in-Err-clause-does : goal.returns-in-Err-clause-does
returns-in-Err-clause-does g c = λ held faults.
    let l = c.loop-turns in
    does_on (goes_on c.args.number c.args.budget l.turns c.loop-turns-test.true (l.invariant.did held faults)) (does_stop (c.in-Err.ensures.does c.args.budget l.out held faults))

pub loop-turns-preserved : goal.loop-turns-preserved
loop-turns-preserved g c = record {
  did = λ held faults.
      let l = c.loop-turns in
      does_so tt (does_on (goes_on c.args.number c.args.budget l.turns c.loop-turns-test.true (l.invariant.did held faults)) (rw c.in-Ok-false.field-0-test at c.in-Ok-false.ensures.does c.args.budget l.out held faults));
  most = (let less = c.loop-turns-test.true in omega (arith, less));
  goes =
      let t = g.T.Table in
      let old = c.args.host.now in
      let l = c.loop-turns in
      let did = l.invariant.did None 0 in
      goes_further old.code c.args.number (core_of old) (t.state old.table) l.turns (core_of l.host) (core_of c.sweep_on.new.host) (t.state l.host.table) (t.state c.sweep_on.new.host.table) l.host.code did.code (rw c.in-Ok-false.field-0-test at c.in-Ok-false.ensures.given) l.invariant.goes;
}

pub returns-clause-does : goal.returns-clause-does
returns-clause-does g c = λ held faults.
    let l = c.loop-turns in
    does_on (is_over c.args.number c.args.budget l.turns c.loop-turns-test.false (l.invariant.did held faults)) (c.end-2.ensures.does held faults)

pub returns-in-Ok-true-clause-promises : goal.returns-in-Ok-true-clause-promises
returns-in-Ok-true-clause-promises g c = λ right.
    let t = g.T.Table in
    let old = c.args.host.now in
    let l = c.loop-turns in
    let new = c.sweep_on.new.host in
    let did = l.invariant.did None 0 in
    if_so c.end.result (All (l.turns + 1)) (KeepsSweepPromises old.code c.args.number (core_of old) (core_of new) (t.state old.table) (t.state new.table)) c.end.ensures.so
    (sweep_promised old.code c.args.number (core_of old) (t.state old.table) c.sweeps_are_as_promised.ensures c.keeps_rules.ensures.eight right (core_of new) (t.state new.table) (All (l.turns + 1))
    (goes_over old.code c.args.number (core_of old) (t.state old.table) l.turns (core_of l.host) (core_of new) (t.state l.host.table) (t.state new.table) l.host.code did.code (rw c.in-Ok-true.field-0-test at c.in-Ok-true.ensures.given) l.invariant.goes))

pub returns-clause-promises : goal.returns-clause-promises
returns-clause-promises g c = λ right.
    let t = g.T.Table in
    let old = c.args.host.now in
    let l = c.loop-turns in
    let b = c.args.budget in
    let most = l.invariant.most in
    let over = c.loop-turns-test.false in
    let same : l.turns ≡ b = omega (arith, most, over) in
    if_so c.end-2.result (Unswept b) (KeepsSweepPromises old.code c.args.number (core_of old) (core_of l.host) (t.state old.table) (t.state l.host.table)) c.end-2.ensures.so
    (sweep_promised old.code c.args.number (core_of old) (t.state old.table) c.sweeps_are_as_promised.ensures c.keeps_rules.ensures.eight right (core_of l.host) (t.state l.host.table) (Unswept b)
    (subst (λ n. GivesTurns old.code c.args.number n (core_of old) (core_of l.host) (t.state old.table) (t.state l.host.table)) same l.invariant.goes))
