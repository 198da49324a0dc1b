use Rattle.std.proofs.Common.{List, ap, rules, ℕ, ◌++◌, ◌∙◌}
use Rattle.beldi_program.proofs.{Names.generated, Ends.generated_by}
use Rattle.beldi_program.proofs.program.host_generated.Goals as goal

pub returns-in-Ok : goal.returns-in-Ok
returns-in-Ok g c =
    let k = g.K.Sink in
    let r = c.run_source-ended in
    generated_by k.held k.faults g.T.Table.state c.args.seed c.args.requests c.args.sink.now c.sum_up-told.new.sink c.args.table r.result.1 c.sum_up-told.result r.result.0
    c.as_bytes.result.now c.as_slice.result.now c.new-session.result r.new.sink
    (c.as_bytes.ensures ∙ c.in-Ok.ensures ∙ ap (λ (z : List ℕ). z ++ generated c.args.seed c.args.requests) c.new-source.ensures) (search rules) (search rules) r.ensures c.sum_up-told.ensures
