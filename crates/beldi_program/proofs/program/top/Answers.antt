use Rattle.beldi_program.proofs.Balances as balances
use Rattle.beldi_program.proofs.Ends as ends
use Rattle.beldi_program.proofs.Names.{Rose}
use Rattle.beldi_program.proofs.program.top.Goals as goal

pub returns-clause-session : goal.returns-clause-session
returns-clause-session g c =
    let k = g.K.Sink in
    let n = g.N.Link in
    ends.session_at (ends.is_proper k.held k.faults g.T.Table.state g.C.Clock.tells (n.seen c.args.link.now) (n.seen c.carry_out-ended.new.link) c.args.clock.now (Rose (n.refusals c.args.link.now) (n.refusals c.carry_out-ended.new.link))) c.carry_out-ended.ensures.ends c.status.result c.status.ensures

pub returns-clause-usage : goal.returns-clause-usage
returns-clause-usage g c =
    let k = g.K.Sink in
    let n = g.N.Link in
    ends.usage_at (ends.is_proper k.held k.faults g.T.Table.state g.C.Clock.tells (n.seen c.args.link.now) (n.seen c.carry_out-ended.new.link) c.args.clock.now (Rose (n.refusals c.args.link.now) (n.refusals c.carry_out-ended.new.link))) c.carry_out-ended.ensures.ends c.status.result c.status.ensures

pub returns-clause-source_fault : goal.returns-clause-source_fault
returns-clause-source_fault g c =
    let k = g.K.Sink in
    let n = g.N.Link in
    ends.source_fault_at (ends.is_proper k.held k.faults g.T.Table.state g.C.Clock.tells (n.seen c.args.link.now) (n.seen c.carry_out-ended.new.link) c.args.clock.now (Rose (n.refusals c.args.link.now) (n.refusals c.carry_out-ended.new.link))) c.carry_out-ended.ensures.ends c.status.result c.status.ensures

pub returns-clause-sink_fault : goal.returns-clause-sink_fault
returns-clause-sink_fault g c =
    let k = g.K.Sink in
    let n = g.N.Link in
    ends.sink_fault_at (ends.is_proper k.held k.faults g.T.Table.state g.C.Clock.tells (n.seen c.args.link.now) (n.seen c.carry_out-ended.new.link) c.args.clock.now (Rose (n.refusals c.args.link.now) (n.refusals c.carry_out-ended.new.link))) c.carry_out-ended.ensures.ends c.status.result c.status.ensures

pub returns-clause-open_fault : goal.returns-clause-open_fault
returns-clause-open_fault g c =
    let k = g.K.Sink in
    let n = g.N.Link in
    ends.open_fault_at (ends.is_proper k.held k.faults g.T.Table.state g.C.Clock.tells (n.seen c.args.link.now) (n.seen c.carry_out-ended.new.link) c.args.clock.now (Rose (n.refusals c.args.link.now) (n.refusals c.carry_out-ended.new.link))) c.carry_out-ended.ensures.ends c.status.result c.status.ensures

pub returns-clause-too_long : goal.returns-clause-too_long
returns-clause-too_long g c =
    let k = g.K.Sink in
    let n = g.N.Link in
    ends.too_long_at (ends.is_proper k.held k.faults g.T.Table.state g.C.Clock.tells (n.seen c.args.link.now) (n.seen c.carry_out-ended.new.link) c.args.clock.now (Rose (n.refusals c.args.link.now) (n.refusals c.carry_out-ended.new.link))) c.carry_out-ended.ensures.ends c.status.result c.status.ensures

pub returns-clause-refused : goal.returns-clause-refused
returns-clause-refused g c =
    let k = g.K.Sink in
    let n = g.N.Link in
    ends.refused_at (ends.is_proper k.held k.faults g.T.Table.state g.C.Clock.tells (n.seen c.args.link.now) (n.seen c.carry_out-ended.new.link) c.args.clock.now (Rose (n.refusals c.args.link.now) (n.refusals c.carry_out-ended.new.link))) c.carry_out-ended.ensures.ends c.status.result c.status.ensures

pub returns-clause-complete : goal.returns-clause-complete
returns-clause-complete g c =
    let k = g.K.Sink in
    let n = g.N.Link in
    ends.complete_at (ends.is_proper k.held k.faults g.T.Table.state g.C.Clock.tells (n.seen c.args.link.now) (n.seen c.carry_out-ended.new.link) c.args.clock.now (Rose (n.refusals c.args.link.now) (n.refusals c.carry_out-ended.new.link))) c.carry_out-ended.ensures.ends c.status.result c.status.ensures

pub returns-clause-unread : goal.returns-clause-unread
returns-clause-unread g c =
    let k = g.K.Sink in
    let n = g.N.Link in
    ends.unread_at (ends.is_proper k.held k.faults g.T.Table.state g.C.Clock.tells (n.seen c.args.link.now) (n.seen c.carry_out-ended.new.link) c.args.clock.now (Rose (n.refusals c.args.link.now) (n.refusals c.carry_out-ended.new.link))) c.carry_out-ended.ensures.ends c.status.result c.status.ensures

pub returns-clause-untouched : goal.returns-clause-untouched
returns-clause-untouched g c =
    let k = g.K.Sink in
    let n = g.N.Link in
    ends.untouched_at (ends.is_proper k.held k.faults g.T.Table.state g.C.Clock.tells (n.seen c.args.link.now) (n.seen c.carry_out-ended.new.link) c.args.clock.now (Rose (n.refusals c.args.link.now) (n.refusals c.carry_out-ended.new.link))) c.carry_out-ended.ensures.ends c.status.result c.status.ensures

pub returns-clause-tested : goal.returns-clause-tested
returns-clause-tested g c =
    let k = g.K.Sink in
    let n = g.N.Link in
    ends.tested_at (ends.is_proper k.held k.faults g.T.Table.state g.C.Clock.tells (n.seen c.args.link.now) (n.seen c.carry_out-ended.new.link) c.args.clock.now (Rose (n.refusals c.args.link.now) (n.refusals c.carry_out-ended.new.link))) c.carry_out-ended.ensures.ends c.status.result c.status.ensures

pub returns-clause-refusal : goal.returns-clause-refusal
returns-clause-refusal g c =
    let k = g.K.Sink in
    let n = g.N.Link in
    ends.link_refused_at (ends.is_proper k.held k.faults g.T.Table.state g.C.Clock.tells (n.seen c.args.link.now) (n.seen c.carry_out-ended.new.link) c.args.clock.now (Rose (n.refusals c.args.link.now) (n.refusals c.carry_out-ended.new.link))) c.carry_out-ended.ensures.ends c.status.result c.status.ensures

pub returns-clause-balanced : goal.returns-clause-balanced
returns-clause-balanced g c = balances.balanced_at c.args.words.now c.carry_out-ended.ensures.ends c.status.result c.status.ensures
