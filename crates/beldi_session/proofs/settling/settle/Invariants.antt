use Rattle.beldi_session.proofs.Names.{DoesTo, HasTurns, List, Option, Settle, [], core_of, events_left, first_at, go_on, sight, ℕ, ◌∷◌}
use Rattle.beldi_session.specs.Settling.{Led}
use Rattle.beldi_session.proofs.Went.{fine}
use Rattle.beldi_session.proofs.settling.settle.Given as goal

abbrev pub invariant-loop-standing : goal.invariant-loop-standing
invariant-loop-standing g l = record {
  did : (held : Option (List ℕ)) (faults : ℕ) → DoesTo (Settle l.budget (go_on l.budget first_at) ∷ []) (Settle l.budget l.standing ∷ []) (sight l.fn.host l.fn.out held faults) (sight l.host l.out held faults) (fine {X = Unit {0}} tt);
  turns : HasTurns l.budget l.standing;
  led : Led l.fn.host.code l.budget (go_on l.budget first_at) l.standing (core_of l.fn.host) (core_of l.host) (g.T.Table.state l.fn.host.table) (g.T.Table.state l.host.table);
}

abbrev pub decreases-loop-standing : goal.decreases-loop-standing
decreases-loop-standing g l = events_left (core_of l.host) l.standing
