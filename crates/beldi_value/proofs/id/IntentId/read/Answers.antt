use Rattle.beldi_value.proofs.Names.{RefusesId, ap, id_from, option_copied, rest_parts, subst, sym, ◌∙◌}
use Rattle.beldi_value.proofs.Slashes.{cut_is, id_read, no_ticket, no_hops}
use Rattle.beldi_value.proofs.id.IntentId.read.Goals as goal

pub returns-in-Ok : goal.returns-in-Ok
returns-in-Ok c =
    let part = c.cut_at.result.0.now in
    let left = rest_parts (option_copied c.cut_at.result.1) in
    ap id_from (cut_is c.args.text.now part (option_copied c.cut_at.result.1) c.cut_at.ensures.front c.cut_at.ensures.rest)
    ∙ id_read part left c.in-Some.ticket c.in-Ok.hops (sym c.in-Some.ensures) c.in-Ok.ensures

pub returns-in-Err : goal.returns-in-Err
returns-in-Err c =
    let part = c.cut_at.result.0.now in
    let left = rest_parts (option_copied c.cut_at.result.1) in
    subst (λ ps. RefusesId (id_from ps) c.in-Err.why) (sym (cut_is c.args.text.now part (option_copied c.cut_at.result.1) c.cut_at.ensures.front c.cut_at.ensures.rest))
    (no_hops part left c.in-Some.ticket c.in-Err.why (sym c.in-Some.ensures) c.in-Err.ensures)

pub returns-in-None : goal.returns-in-None
returns-in-None c =
    let part = c.cut_at.result.0.now in
    let left = rest_parts (option_copied c.cut_at.result.1) in
    ap id_from (cut_is c.args.text.now part (option_copied c.cut_at.result.1) c.cut_at.ensures.front c.cut_at.ensures.rest)
    ∙ no_ticket part left (sym c.in-None.ensures)
