use Rattle.beldi_book.proofs.Names.{into_iter_items, into_iter_len, length, woven, ◌++◌, ◌≡◌}
use Rattle.beldi_book.proofs.order.woven.Given as goal

-- what was put, and what is left woven, make all
abbrev pub invariant-loop-reads : goal.invariant-loop-reads
invariant-loop-reads l = record {
  all : l.entries.items ++ woven (into_iter_items l.changes) (into_iter_items l.reads-iterator) ≡ woven l.fn.changes.items l.fn.places.items;
  changes : into_iter_len l.changes ≡ length (into_iter_items l.changes);
  places : into_iter_len l.reads-iterator ≡ length (into_iter_items l.reads-iterator);
}
