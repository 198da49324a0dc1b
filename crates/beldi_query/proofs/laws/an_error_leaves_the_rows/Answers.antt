use Rattle.beldi_query.proofs.Lent.{unheeded_stand}
use Rattle.beldi_query.proofs.laws.an_error_leaves_the_rows.Goals as goal

pub returns : goal.returns
returns g c = λ w x now e old new h. unheeded_stand (g.W.Walk.asks w) now (g.W.Walk.next w) (g.W.Walk.output w) w x old new e h
