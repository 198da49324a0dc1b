use Rattle.std.proofs.Common.{is_some, refl}
use Rattle.beldi_tree.specs.Names.{func_at}
use Rattle.beldi_lang.specs.Machine.{begun}
use Rattle.beldi_step.specs.Run.{inherited_tx}
use Rattle.beldi_step.specs.declared.run.{Begun.Begun, Stage.TheVariants.Close}
use Rattle.beldi_turn.proofs.RunTurns.{begun_in_tx}
use Rattle.beldi_turn.proofs.turn.begin_body.Goals as goal

pub returns-clause-begun : goal.returns-clause-begun
returns-clause-begun c =
    let r = c.args.run.now in
    let b = c.args.body in
    let g : Begun = record { machine = begun c.args.code.now r.func b.args (is_some b.tx); caller = b.parent; tx = inherited_tx b.tx; stage = Close } in
    begun_in_tx c.args.code.now r c.enter.new.run b c.func_at.result (func_at c.args.code.now r.func) g c.enter.result c.func_at.ensures c.if-is_none.ensures refl (c.enter.ensures.begun g c.in_ok-begin_with.ensures)
