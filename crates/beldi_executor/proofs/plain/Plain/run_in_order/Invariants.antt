use Rattle.beldi_executor.proofs.Names.{Some, run_from, take, ◌≡◌}
use Rattle.beldi_executor.proofs.plain.Plain.run_in_order.Given as goal

-- the entries so far were carried out
abbrev pub invariant-loop-at : goal.invariant-loop-at
invariant-loop-at l = (l.self.code ≡ l.initial.self.code) × (run_from l.initial.self.code l.initial.self.state (take l.at l.order.entries) ≡ Some l.self.state)
