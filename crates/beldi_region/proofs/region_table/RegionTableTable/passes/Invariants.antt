use Rattle.std.specs.Option.{option_copied}
use Rattle.std.proofs.Common.{◌≡◌, ◌≤◌, ◌-◌, unwrap_or}
use Rattle.beldi_row.specs.{Key.at_row, Key.row_of, Table.Along}
use Rattle.beldi_region.specs.RegionTable.{rows_of}
use Rattle.beldi_region.proofs.region_table.RegionTableTable.passes.Given as goal

abbrev pub invariant-loop-passed : goal.invariant-loop-passed
invariant-loop-passed l =
    let first = row_of l.fn.key.kind in
    record {
      few : l.passed ≤ l.most;
      along : Along (rows_of l.self) l.fn.key (option_copied l.place) l.passed first (unwrap_or l.last first);
      at : l.key ≡ at_row l.fn.key (unwrap_or l.last first);
    }

abbrev pub decreases-loop-passed : goal.decreases-loop-passed
decreases-loop-passed l = l.most - l.passed
