use Rattle.beldi_tree.proofs.Aparts.{found}
use Rattle.beldi_tree.proofs.find.func_place_by.Goals as goal

pub returns-then-eq : goal.returns-then-eq
returns-then-eq c =
    rw (← c.text.ensures) (found (λ f. f.name) _ _ _ c.index-funcs-place.result (c.requires c.if-apart.true) c.if-place-funcs.true c.if-eq.ensures)
