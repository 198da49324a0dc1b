use Rattle.beldi_host.proofs.host.Host.halt.Goals as goal

pub returns-clause-step : goal.returns-clause-step
returns-clause-step g c = (c.find_newest-read.result, c.halted.ensures, c.find_newest-read.ensures)
