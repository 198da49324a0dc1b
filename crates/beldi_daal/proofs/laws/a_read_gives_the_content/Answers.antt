use Rattle.beldi_daal.proofs.Logged.{reads_are_contents}
use Rattle.beldi_daal.proofs.laws.a_read_gives_the_content.Goals as goal

pub returns : goal.returns
returns c = reads_are_contents
