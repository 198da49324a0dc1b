use Rattle.beldi_core.proofs.{Names.refl, Names.sym, RunMaps.kept_forward}
use Rattle.beldi_core.proofs.Names.map
use Rattle.beldi_core.proofs.runs.set_forward.Goals as goal

pub returns-then-is_some-clause-kept : goal.returns-then-is_some-clause-kept
returns-then-is_some-clause-kept c = λ g n k.
    let s = c.walk_to.new.run in
    kept_forward g c.args.live.now (map.insert c.args.live.now c.args.number s) n c.args.number c.get_mut.result.now s (sym c.get_mut.ensures.value) c.walk_to.ensures.id refl k
