use Rattle.beldi_executor.proofs.Names.{items_in, items_of, items_text, ◌++◌, ◌≡◌}
use Rattle.beldi_executor.proofs.Names.map
use Rattle.beldi_executor.proofs.tables.Tables.write.Given as goal

-- what is written and the lines of the tables that are left are all
abbrev pub invariant-loop-table : goal.invariant-loop-table
invariant-loop-table l = l.out ++ items_text l.code (items_in l.table-iterator) ≡ l.initial.out ++ items_text l.code (map.entries (items_of l.self))
