use Rattle.beldi_tree.proofs.Aparts.{found}
use Rattle.beldi_tree.proofs.find.table_place_by.Goals as goal

pub returns-then-eq : goal.returns-then-eq
returns-then-eq c =
    rw (← c.text.ensures) (found (λ t. t.name) _ _ _ c.index-tables-place.result (c.requires c.if-apart.true) c.if-place-tables.true c.if-eq.ensures)
