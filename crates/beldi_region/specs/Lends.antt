-- What a region ends as, where the value of an id is lent.
use Rattle.std.specs.Prelude.{Result}
use Rattle.std.specs.Borrow.{Lends, LendsIfOk, Fml, RattleType, MutBor}
use Rattle.beldi_region.specs.Region.{ViewedRegion, with_value}
use Rattle.beldi_region.specs.declared.region.SlotId.{SlotId}
use Rattle.beldi_region.specs.declared.region.RegionErr.{RegionErr}
use Rattle.beldi_region.specs.contracts.region.Region.{the_row}

module _ (V : RattleType) (s : MutBor (ViewedRegion V.Denot)) (id : SlotId) where
  -- once the loan ends, the id has the value that was left
  abbrev pub lends_value : MutBor V.Denot → Fml
  lends_value r = Lends (the_row V) V s r (with_value s.now id)

  -- the same where it has a value, and else the region stays as it is
  abbrev pub lends_found : Result (MutBor V.Denot) RegionErr → Fml
  lends_found r = LendsIfOk (the_row V) V s r (with_value s.now id) s.now
