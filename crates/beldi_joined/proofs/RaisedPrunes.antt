-- Turns of a log collector of a host behind a longer book.
use Rattle.std.specs.Prelude.{ℕ, ◌≡◌, nat_lt, List, Option, Some, None, Result}
use Rattle.std.specs.declared.alloc.AllocError.{AllocError}
use Rattle.std.proofs.Common.{ap, subst, sym}
use Rattle.beldi_tree.specs.declared.deployment.Deployment.{Deployment}
use Rattle.beldi_book.specs.declared.entry.Entry.{Entry}
use Rattle.beldi_row.specs.Table.{Rows}
use Rattle.beldi_step.specs.{HostStep.Core, HostStep.counted, HostStep.most_events, Prunes.PrunesOnBy, Prunes.bar_of, Prunes.taken, declared.event.Pruned.Pruned}
use Rattle.beldi_joined.specs.{Joined.behind, JoinedLaws.PrunesOverLongerBook}
use Rattle.beldi_joined.proofs.RaisedTurns.{if_pushed}

taken_behind : (base : List Entry) (c : Core) → taken (behind base c) ≡ behind base (taken c)
taken_behind base c = if_pushed (behind base) (nat_lt c.taken most_events) (counted c) c

-- a collector reads neither the book nor the runs
by_bar : (d : Deployment) (base : List Entry) (old new k : ℕ) (c b : Core) (m n : Rows) (r : Result Pruned AllocError) (o : Option Pruned) → PrunesOnBy o d old new k c m b n r → PrunesOnBy o d old new k (behind base c) m (behind base b) n r
by_bar d base old new k c b m n r (Some y) s = (ap (behind base) s.0, s.1, s.2, s.3)
by_bar d base old new k c b m n r None s = (s.0, s.1, s.2, ap (behind base) s.3, s.4, s.5)

pub prunes_behind : PrunesOverLongerBook
prunes_behind d base old new k c b m n r s = subst (λ (z : Core). PrunesOnBy (bar_of c) d old new k z m (behind base b) n r) (sym (taken_behind base c)) (by_bar d base old new k (taken c) b m n r (bar_of c) s)
