use Rattle.beldi_session.proofs.Names.{ap, append-nil, ◌++◌, ◌∙◌}
use Rattle.beldi_session.proofs.output.flush.Goals as goal

pub returns-in-Ok-clause-text : goal.returns-in-Ok-clause-text
returns-in-Ok-clause-text g c =
    let w = c.as_bytes.result.now in
    (w, c.in-Ok.ensures.bytes, ap (λ z. w ++ z) c.clear.ensures ∙ append-nil w ∙ c.as_bytes.ensures)
