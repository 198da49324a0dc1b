use Rattle.beldi_kept.proofs.Telling.{kept_are_legal}
use Rattle.beldi_kept.proofs.replies.books_are_legal_still.Goals as goal

pub returns : goal.returns
returns c = kept_are_legal
