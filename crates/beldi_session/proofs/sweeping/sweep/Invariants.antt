use Rattle.beldi_session.proofs.Names.{DoesTo, List, Option, [], core_of, sight, sweep_at, ℕ, ◌-◌, ◌∷◌, ◌≤◌}
use Rattle.beldi_session.specs.Sweeps.{GivesTurns}
use Rattle.beldi_session.proofs.Went.{fine}
use Rattle.beldi_session.proofs.sweeping.sweep.Given as goal

abbrev pub invariant-loop-turns : goal.invariant-loop-turns
invariant-loop-turns g l = record {
  did : (held : Option (List ℕ)) (faults : ℕ) → DoesTo (sweep_at l.number l.budget 0 ∷ []) (sweep_at l.number l.budget l.turns ∷ []) (sight l.fn.host l.fn.out held faults) (sight l.host l.out held faults) (fine {X = Unit {0}} tt);
  most : l.turns ≤ l.budget;
  goes : GivesTurns l.fn.host.code l.number l.turns (core_of l.fn.host) (core_of l.host) (g.T.Table.state l.fn.host.table) (g.T.Table.state l.host.table);
}

abbrev pub decreases-loop-turns : goal.decreases-loop-turns
decreases-loop-turns g l = l.budget - l.turns
