use Rattle.beldi_book.proofs.Names.{changes_of, drop, empty_places, length, put_all_in, ◌<◌, ◌≡◌}
use Rattle.beldi_book.proofs.order.in_order.Given as goal

abbrev pub invariant-loop-entry : goal.invariant-loop-entry
invariant-loop-entry l = record {
  all : put_all_in l.places.items (drop l.entry-index l.entries) ≡ put_all_in (empty_places (changes_of l.entries)) l.entries;
  some : 0 < length l.places.items;
}
