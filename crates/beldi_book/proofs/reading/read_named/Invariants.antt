use Rattle.beldi_book.proofs.{Names.◌≡◌, Starts.NoneCalled}
use Rattle.beldi_book.proofs.reading.read_named.Given as goal

abbrev pub invariant-loop-func : goal.invariant-loop-func
invariant-loop-func l = record {
  number : l.number ≡ l.func-index;
  none : NoneCalled l.code l.words l.number;
}
