use Rattle.std.proofs.Common.{IfSome, subst, sym}
use Rattle.beldi_region.specs.Region.{Released}
use Rattle.beldi_region.proofs.region_table.vacate.Goals as goal

pub returns-in-Ok : goal.returns-in-Ok
returns-in-Ok c = subst (λ o. IfSome o (λ e. Released c.args.region.now c.release.new.self c.args.id e)) (sym c.in-Ok.ensures.ok.was) c.in-Ok.ensures.ok

pub returns-in-Err : goal.returns-in-Err
returns-in-Err c = subst (λ o. IfSome o (λ e. Released c.args.region.now c.release.new.self c.args.id e)) (sym c.in-Err.ensures.none) tt
