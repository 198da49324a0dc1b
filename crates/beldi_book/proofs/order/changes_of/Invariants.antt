use Rattle.beldi_book.proofs.Names.{changes_of, drop, ◌++◌, ◌≡◌}
use Rattle.beldi_book.proofs.order.changes_of.Given as goal

abbrev pub invariant-loop-entry : goal.invariant-loop-entry
invariant-loop-entry l = l.changes.items ++ changes_of (drop l.entry-index l.entries) ≡ changes_of l.entries
