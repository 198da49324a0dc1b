use Rattle.beldi_syntax.proofs.Texts.{reads_the_grammar}
use Rattle.beldi_syntax.proofs.laws.reads_the_grammar.Goals as goal

pub returns : goal.returns
returns c = reads_the_grammar
