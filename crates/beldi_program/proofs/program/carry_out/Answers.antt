use Rattle.beldi_command.specs.CommandLine.{command_of}
use Rattle.beldi_program.proofs.Names.{Rose, Serving}
use Rattle.beldi_program.proofs.Ends.{short_words}
use Rattle.beldi_program.proofs.program.carry_out.Goals as goal

pub returns-in-Err-clause-ends : goal.returns-in-Err-clause-ends
returns-in-Err-clause-ends g c =
    let k = g.K.Sink in
    let n = g.N.Link in
    let seen = n.seen c.args.link.now in
    record { ends = short_words g.S.Source.left g.S.Source.faults k.held k.faults g.T.Table.state (Serving k.held k.faults g.T.Table.state g.C.Clock.tells seen seen c.args.clock.now (Rose (n.refusals c.args.link.now) (n.refusals c.args.link.now))) c.args.source.now c.args.sink.now c.args.table (command_of c.args.words.now) }
