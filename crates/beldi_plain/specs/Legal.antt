-- The legal book, and its run.
use Rattle.std.specs.Prelude.{◌≡◌, List, [], ◌∷◌, Option, Some, option_and_then}
use Rattle.beldi_tree.specs.declared.deployment.Deployment.{Deployment}
use Rattle.beldi_book.specs.{LinearOrder.linear, LinearOrder.VersionsBounded, declared.entry.Entry.Entry}
use Rattle.beldi_plain.specs.{Guard.IsGuarded, Plain.PlainState, Plain.nothing, PlainEntries.after}

-- the state at the end, where each entry is enabled in its turn
abbrev pub run_from : Deployment → PlainState → List Entry → Option PlainState
run_from d p [] = Some p
run_from d p (e ∷ es) = option_and_then (λ q. run_from d q es) (after d p e)

-- the state at the end of a book
abbrev pub run_of : Deployment → List Entry → Option PlainState
run_of d es = run_from d nothing (linear es)

-- no read had seen more changes than the book has before it; each entry of the linear order is enabled in its turn, from the
-- empty state, and `run` is the state at the end; and nobody else holds the lock of the item that an entry touches
pub record IsLegal (d : Deployment) (book : List Entry) : Type 0 where
  pub bounded : VersionsBounded 0 book
  pub run : PlainState
  pub legal : run_of d book ≡ Some run
  pub guarded : IsGuarded d nothing (linear book)
