use Rattle.beldi_session.proofs.{Names.cause_text, Names.codes, Names.place_text, Refusals.three_parts}
use Rattle.beldi_session.proofs.refusal.write_refusal.Goals as goal

pub returns : goal.returns
returns c =
    let r = c.args.refusal.now in
    three_parts c.push_text.result c.args.out.now (place_text r.line) (cause_text r.cause) (codes "\n") c.write_place.new.out c.write_cause.new.out c.push_text.new.self c.push_text.ensures.ok c.in_ok-write_cause.ensures c.in_ok-write_place.ensures
