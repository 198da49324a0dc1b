-- The host as the core that events speak of.
use Rattle.beldi_row.specs.declared.table.Table.{Ghosts}
use Rattle.beldi_step.specs.HostStep.{Core}
use Rattle.beldi_core.specs.PlannedEvent.{core_in}
use Rattle.beldi_host.specs.declared.host.Host.{Host}

abbrev pub core_of : {T : Type 0} {G : Ghosts T} → Host T G → Core
core_of h = core_in h.core
