use Rattle.std.specs.Option.{option_copied}
use Rattle.std.proofs.Common.{ap, subst, ◌∙◌, unwrap_or, arith}
use Rattle.beldi_row.specs.{Key.at_row, Key.row_of, Table.LeadsOn}
use Rattle.beldi_row.proofs.Keys.{key_twice}
use Rattle.beldi_region.{specs.RegionTable.rows_of, proofs.Along.along_more}
use Rattle.beldi_region.proofs.region_table.RegionTableTable.passes.Goals as goal

pub loop-passed-preserved : goal.loop-passed-preserved
loop-passed-preserved c =
    let m = rows_of c.args.self.now in
    let p = option_copied c.args.place in
    let kept = c.loop-passed.invariant in
    let first = row_of c.args.key.kind in
    let row = unwrap_or c.loop-passed.last first in
    record {
      few = omega arith;
      along = along_more m c.args.key p c.loop-passed.passed first row c.in-Some.next kept.along (subst (λ k. LeadsOn m k p c.in-Some.next) kept.at c.in-Some.ensures);
      at = c.at_row-key.ensures ∙ ap (λ k. at_row k c.in-Some.next) kept.at ∙ key_twice c.args.key row c.in-Some.next;
    }
