use Rattle.std.proofs.Common.{◌≡◌, drop}
use Rattle.beldi_table.specs.FailingTable.{stands_in}
use Rattle.beldi_table.proofs.failing_table.is_in.Given as goal

abbrev pub invariant-loop-other : goal.invariant-loop-other
invariant-loop-other l = stands_in (drop l.other-index l.numbers) l.number ≡ stands_in l.numbers l.number
