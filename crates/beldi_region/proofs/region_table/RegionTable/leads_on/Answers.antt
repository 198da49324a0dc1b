use Rattle.std.specs.Option.{option_copied}
use Rattle.beldi_region.specs.Ids.{ids_of}
use Rattle.beldi_region.proofs.Held.{leads}
use Rattle.beldi_region.proofs.region_table.RegionTable.leads_on.Goals as goal

pub returns-in-Ok-get : goal.returns-in-Ok-get
returns-in-Ok-get c =
    let t = c.args.self.now in
    leads t.region (ids_of t.index) c.in-Ok.id c.args.key.now c.in-Ok-get.entry.now (option_copied c.args.place) c.follows.result t.held c.in-Ok.ensures.finds c.in-Ok-get.ensures.found c.follows.ensures
