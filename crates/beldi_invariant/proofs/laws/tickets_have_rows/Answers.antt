use Rattle.std.proofs.Common.{Ok}
use Rattle.beldi_invariant.proofs.Events.{after_event}
use Rattle.beldi_invariant.proofs.laws.tickets_have_rows.Goals as goal

pub returns : goal.returns
returns c = λ d room old new e k b m n x h s. (after_event d room old new e k b m n (Ok x) h s).there
