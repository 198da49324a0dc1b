use Rattle.beldi_kept.proofs.Owned.{owners_have_rows}
use Rattle.beldi_kept.proofs.safe.owners_have_their_rows.Goals as goal

pub returns : goal.returns
returns c = owners_have_rows
