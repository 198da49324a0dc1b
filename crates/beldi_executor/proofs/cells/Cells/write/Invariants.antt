use Rattle.beldi_executor.proofs.Names.{cells_at, items_text, ◌++◌, ◌≡◌}
use Rattle.beldi_executor.proofs.Names.map
use Rattle.beldi_executor.proofs.cells.Cells.write.Given as goal

-- what is written and the lines of the values that are left are all
abbrev pub invariant-loop-key : goal.invariant-loop-key
invariant-loop-key l = l.out ++ items_text l.code (cells_at l.table l.key-iterator) ≡ l.initial.out ++ items_text l.code (cells_at l.table (map.entries l.self))
