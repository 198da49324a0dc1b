use Rattle.std.proofs.Common.{◌≡◌, subst, sym, ◌∙◌, IfSome, refl}
use Rattle.beldi_row.specs.Act.{removes}
use Rattle.beldi_table.proofs.Changes.{removed, unremoved}
use Rattle.beldi_region.specs.{Region.find, RegionTable.rows_of, Ids.ids_of}
use Rattle.beldi_region.proofs.Held.{by_side, row_found}
use Rattle.beldi_region.proofs.region_table.RegionTable.drop_row.Goals as goal

pub returns-then-not-is_removed-clause-rows : goal.returns-then-not-is_removed-clause-rows
returns-then-not-is_removed-clause-rows c =
    let t = c.args.self.now in
    let x = by_side c.args.key.now (find t.region c.args.id) c.requires.found in
    let tells = subst (λ o. IfSome o (λ e. c.is_removed-is_removed.result ≡ removes c.args.act c.args.now e.row)) x.1 c.is_removed-is_removed.ensures in
    unremoved c.args.act c.args.now c.args.key.now t.room (rows_of t) (rows_of t) x.0.row c.requires.may (row_found t.region (ids_of t.index) c.args.id c.args.key.now x.0 t.held c.requires.found x.1) (sym c.if-not-is_removed.true ∙ tells) refl

pub returns-clause-rows : goal.returns-clause-rows
returns-clause-rows c =
    let t = c.args.self.now in
    let x = by_side c.args.key.now (find t.region c.args.id) c.requires.found in
    let tells = subst (λ o. IfSome o (λ e. c.is_removed-is_removed.result ≡ removes c.args.act c.args.now e.row)) x.1 c.is_removed-is_removed.ensures in
    removed c.args.act c.args.now c.args.key.now t.room (rows_of t) (rows_of c.forget.new.self) x.0.row c.requires.may (row_found t.region (ids_of t.index) c.args.id c.args.key.now x.0 t.held c.requires.found x.1) (sym c.if-not-is_removed.false ∙ tells) c.forget.ensures.rows
