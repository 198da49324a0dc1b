use Rattle.std.proofs.Common.{rules, ◌∙◌, sym}
use Rattle.beldi_script.proofs.ScriptLines.{rest_shorter}
use Rattle.beldi_generator.proofs.WorkWords.{no_space, past_space}
use Rattle.beldi_generator.proofs.summary.last_word.Goals as goal

pub loop-rest-smaller : goal.loop-rest-smaller
loop-rest-smaller c = rest_shorter 32 _ _ (search rules)

pub loop-rest-preserved : goal.loop-rest-preserved
loop-rest-preserved c = sym (past_space c.loop-rest.word.now c.loop-rest.word.now c.in_default-Some.rest.now (search rules)) ∙ c.loop-rest.invariant

pub returns : goal.returns
returns c = sym (no_space c.loop-rest.word.now c.loop-rest.word.now (search rules)) ∙ c.loop-rest.invariant
