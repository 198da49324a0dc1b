-- What a book says of its roots: which it starts, and the outcome that each has in its run.
use Rattle.std.specs.Prelude.{◌≡◌, ℕ, List, [], ◌∷◌, Option, Some, None}
use Rattle.beldi_value.specs.declared.{value.Value.Value, outcome.Outcome.Outcome}
use Rattle.beldi_tree.specs.declared.deployment.Deployment.{Deployment}
use Rattle.beldi_book.specs.declared.entry.Entry.{Entry, TheVariants.Start}
use Rattle.beldi_plain.specs.{Plain.PlainState, Plain.reply_of, Legal.run_of}

-- the roots that a book starts, in order: ticket, function and arguments
abbrev pub starts_of : List Entry → List (ℕ × (ℕ × Value))
starts_of [] = []
starts_of (Start t f a ∷ es) = (t, (f, a)) ∷ starts_of es
starts_of (e ∷ es) = starts_of es

-- the root of the ticket has this outcome in the run of the book
pub record HasReply (d : Deployment) (book : List Entry) (t : ℕ) (o : Outcome) : Type 0 where
  pub run : PlainState
  pub legal : run_of d book ≡ Some run
  pub reply : reply_of run t ≡ Some o

-- in the run of the book, the root of the ticket has no outcome
abbrev pub HasNoReply : Deployment → List Entry → ℕ → Type 0
HasNoReply d book t = (p : PlainState) → run_of d book ≡ Some p → reply_of p t ≡ None
