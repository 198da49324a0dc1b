use Rattle.beldi_session.proofs.Names.{length, lines_of, numbered, ◌≡◌}
use Rattle.beldi_session.specs.Source.{first_line}
use Rattle.beldi_session.proofs.source.find_line.Given as goal

abbrev pub invariant-loop-rest : goal.invariant-loop-rest
invariant-loop-rest l = first_line (numbered l.number (lines_of l.rest)) ≡ first_line (numbered l.first (lines_of l.script))

abbrev pub decreases-loop-rest : goal.decreases-loop-rest
decreases-loop-rest l = length l.rest
