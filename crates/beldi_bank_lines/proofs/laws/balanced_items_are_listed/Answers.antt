use Rattle.beldi_bank_lines.proofs.Totals.{are_listed}
use Rattle.beldi_bank_lines.proofs.laws.balanced_items_are_listed.Goals as goal

pub returns : goal.returns
returns c = are_listed
