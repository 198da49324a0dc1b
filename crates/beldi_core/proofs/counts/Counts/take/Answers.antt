use Rattle.beldi_core.proofs.{Names.LoweredAt, Names.rules, Names.subst, Names.◌∙◌, CountMaps.is_last}
use Rattle.beldi_core.proofs.Names.map
use Rattle.beldi_core.proofs.counts.Counts.take.Goals as goal

pub returns-then-not-lower : goal.returns-then-not-lower
returns-then-not-lower c =
    let o = map.get c.args.self.now c.args.id.now in
    c.end.ensures ∙ is_last c.args.self.now c.lower.new.self c.args.id.now o (subst (LoweredAt c.args.self.now c.lower.new.self c.args.id.now o) (search rules) c.lower.ensures)
