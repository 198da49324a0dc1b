use Rattle.std.specs.FinMap as map
use Rattle.std.proofs.Common.{Some, refl, sym, ◌∙◌, ap}
use Rattle.beldi_table.{specs.MapTable.rows_of, proofs.Changes.none_dropped, proofs.Changes.row_dropped, proofs.Changes.row_left}
use Rattle.beldi_table.proofs.map_table.MapTable.drop_row.Goals as goal

pub returns-in-None-clause-rows : goal.returns-in-None-clause-rows
returns-in-None-clause-rows c =
    let m = rows_of c.args.self.now in
    none_dropped c.args.act c.args.now c.args.key.now c.args.self.now.room m (map.get m c.args.key.now) c.missing-said.result c.requires refl (sym c.in-None.is ∙ c.is_removed-found.ensures) (c.missing-said.ensures c.args.now)

pub returns-in-Some-false-clause-rows : goal.returns-in-Some-false-clause-rows
returns-in-Some-false-clause-rows c =
    let m = rows_of c.args.self.now in
    row_left c.args.act c.args.now c.args.key.now c.args.self.now.room m (map.get m c.args.key.now) c.requires refl (ap (λ b. Some b) (sym c.in-Some-false.field-0-test) ∙ sym c.in-Some-false.is ∙ c.is_removed-found.ensures)

pub returns-in-Some-true-clause-rows : goal.returns-in-Some-true-clause-rows
returns-in-Some-true-clause-rows c =
    let m = rows_of c.args.self.now in
    row_dropped c.args.act c.args.now c.args.key.now c.args.self.now.room m (rows_of c.forget.new.self) (map.get m c.args.key.now) c.requires refl (ap (λ b. Some b) (sym c.in-Some-true.field-0-test) ∙ sym c.in-Some-true.is ∙ c.is_removed-found.ensures) c.forget.ensures.rows
