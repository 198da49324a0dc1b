use Rattle.beldi_lang.proofs.Names.{block_size, command_of, command_size, ◌*◌, ◌+◌}
use Rattle.beldi_lang.proofs.scope.Scope.+resume.Given as goal

-- twice the size of what is gone on with, and a step more for the call on the way to a block
abbrev pub decreases-resume : goal.decreases-resume
decreases-resume l = 2 * command_size (command_of l.stmt.now)

abbrev pub decreases-resume_block : goal.decreases-resume_block
decreases-resume_block l = 2 * block_size l.block.now

abbrev pub decreases-resume_choice : goal.decreases-resume_choice
decreases-resume_choice l = 2 * (block_size l.first.now + block_size l.second.now) + 1

abbrev pub decreases-resume_loop : goal.decreases-resume_loop
decreases-resume_loop l = 2 * block_size l.block.now + 1

abbrev pub decreases-resume_transaction : goal.decreases-resume_transaction
decreases-resume_transaction l = 2 * (block_size l.first.now + block_size l.second.now) + 1
