use Rattle.beldi_program.proofs.PlainRuns.{plain_runs}
use Rattle.beldi_program.proofs.laws.sessions_are_plain_runs.Goals as goal

pub returns : goal.returns
returns c = plain_runs c.an_event_keeps_the_collectors_safe.ensures c.replies_are_outcomes_still.ensures c.outcomes_stay_still.ensures
