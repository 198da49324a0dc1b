use Rattle.std.proofs.Common.{rules}
use Rattle.beldi_region.proofs.{Held.held_none, Listed.listed_none}
use Rattle.beldi_region.proofs.region_table.RegionTable.new.Goals as goal

pub invariant_of-result-clause-held : goal.invariant_of-result-clause-held
invariant_of-result-clause-held c = search (rules, held_none)

pub invariant_of-result-clause-listed : goal.invariant_of-result-clause-listed
invariant_of-result-clause-listed c = search (rules, listed_none)
