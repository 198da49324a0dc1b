use Rattle.beldi_core.proofs.{Names.Run, Names.ap, Names.sym, Names.◌∙◌, Counting.undone}
use Rattle.beldi_core.proofs.Names.map
use Rattle.beldi_core.proofs.runs.begin.Goals as goal

pub returns-in-Err-clause-kept : goal.returns-in-Err-clause-kept
returns-in-Err-clause-kept c = λ k h.
    undone c.args.counts.now c.add.new.self c.take.new.self c.get.result.now c.get-in-Err.result.now k (ap (λ (r : Run). map.get c.args.counts.now r.id) c.get.ensures ∙ h) c.in_ok-add.ensures.ok
    (c.get-in-Err.ensures ∙ c.in-Err.ensures.err.0 ∙ sym c.get.ensures) c.take.ensures
