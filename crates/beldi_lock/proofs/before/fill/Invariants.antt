use Rattle.beldi_lock.proofs.Names.{filled, length, ◌≡◌, ◌≤◌}
use Rattle.beldi_lock.proofs.before.fill.Given as goal

abbrev pub invariant-loop : goal.invariant-loop
invariant-loop l = (length l.steps.items ≡ l.counter) × (l.counter ≤ 63) × (filled 63 l.steps.items ≡ filled 63 l.fn.steps.items)
