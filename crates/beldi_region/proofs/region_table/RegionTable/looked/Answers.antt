use Rattle.beldi_table.proofs.Changes.{looks}
use Rattle.beldi_region.specs.RegionTable.{rows_of}
use Rattle.beldi_region.proofs.region_table.RegionTable.looked.Goals as goal

pub returns : goal.returns
returns c = looks c.args.act.now c.args.now c.args.key.now c.args.self.now.room (rows_of c.args.self.now) c.requires
