use Rattle.beldi_links.proofs.Meets.{reads_begin}
use Rattle.beldi_links.proofs.laws.reads_begin.Goals as goal

pub returns : goal.returns
returns c = reads_begin
