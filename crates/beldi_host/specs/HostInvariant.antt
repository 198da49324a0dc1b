-- What the calls of a host keep. Where the table does not tell its rows, nothing is said.
use Rattle.std.specs.Prelude.{◌≡◌, ℕ, false, ◌++◌, List, IsSome, IfSome, Option, Some, ◌<◌, Result, Ok}
use Rattle.std.specs.declared.alloc.AllocError.{AllocError}
use Rattle.std.specs.FinMap as map
use Rattle.beldi_tree.specs.declared.deployment.Deployment.{Deployment}
use Rattle.beldi_book.specs.declared.entry.Entry.{Entry}
use Rattle.beldi_plain.specs.{Plain.PlainState, Legal.IsLegal, Legal.run_of, Listing.listing_of}
use Rattle.beldi_row.specs.{declared.table.Table.Ghosts, Table.Rows, Table.TableState, Table.Tells}
use Rattle.beldi_step.specs.{declared.event.Event.Event, declared.event.EventReply.EventReply, declared.event.EventReply.TheVariants.Expired, declared.run.Run.Run, HostStep.Core, HostStep.most_events, HostStep.ended_run, HostStep.counted, StepLaws.run_of_event}
use Rattle.beldi_histories.specs.Stands.{Stands}
use Rattle.beldi_invariant.specs.OneAnswer.{OneAnswerPerStep, AnswersStay}
use Rattle.beldi_upkeep.specs.Upkeep.{Upkeep}
use Rattle.beldi_kept.specs.{Safe.IsSafe, StandsLess.OneAnswerLess, StandsLess.StandsLess}
use Rattle.beldi_host.specs.{declared.host.Host.Host, declared.survey.ReplyStatus.ReplyStatus, HostCore.core_of, ReplyStatus.IsStatusSo}

-- an event of a live run that is past its deadline leaves the table, and ends the run
abbrev pub EndsLate : Event → Core → Core → TableState → TableState → Result EventReply AllocError → Type 0
EndsLate e c b old new r = (i : ℕ) (run : Run) → c.taken < most_events → c.shut ≡ false → run_of_event e ≡ Some i → map.get c.runs i ≡ Some run → run.deadline < c.now
    → (r ≡ Ok Expired) × (b ≡ ended_run (counted c) i) × (new ≡ old)

-- the rows stand for the run of a book, if they are told
abbrev pub RowsStandFor : Deployment → List Entry → Option Rows → Type 0
RowsStandFor d book told = IfSome told (λ m. (p : PlainState) → run_of d book ≡ Some p → Stands d m p)

-- .. as far as rows tell it of which some may be gone
abbrev pub RowsStandLess : Deployment → List Entry → Option Rows → Type 0
RowsStandLess d book told = IfSome told (λ m. (p : PlainState) → run_of d book ≡ Some p → (latest : ℕ) × StandsLess d latest m p)

-- the table tells no rows, or it has none
abbrev pub HasNoRows : Option Rows → Type 0
HasNoRows told = IfSome told (λ m. m ≡ map.empty)

module _ {T : Type 0} {G : Ghosts T} where
  -- the rows of a host, where its table tells them
  abbrev pub rows_of : Host T G → Option Rows
  rows_of h = (G.state h.table).rows

  -- the invariant holds of the host and its rows, with what is kept beside it, and no log collector changed a row
  abbrev pub IsWhole : Host T G → Type 0
  IsWhole h = IfSome (rows_of h) (Upkeep h.code (core_of h))

  -- .. where rows of intents that are old may be gone, and the log collectors are about to remove no other
  abbrev pub HasInvariant : Host T G → Type 0
  HasInvariant h = IfSome (rows_of h) (IsSafe h.code (core_of h))

  -- the second host is so where the first one is
  abbrev pub KeepsInvariant : Host T G → Host T G → Type 0
  KeepsInvariant h k = (HasInvariant h → HasInvariant k) × (IsWhole h → IsWhole k)

  -- its rows are told
  abbrev pub HasRows : Host T G → Type 0
  HasRows h = IsSome (rows_of h)

  -- its book is legal
  abbrev pub HasLegalBook : Host T G → Type 0
  HasLegalBook h = IfSome (rows_of h) (λ m. IsLegal h.code (core_of h).book)

  -- its rows stand for the run of its book
  abbrev pub RowsStand : Host T G → Type 0
  RowsStand h = RowsStandFor h.code (core_of h).book (rows_of h)

  -- .. as far as they tell it where some are gone
  abbrev pub RowsLeftStand : Host T G → Type 0
  RowsLeftStand h = RowsStandLess h.code (core_of h).book (rows_of h)

  -- each step of an instance, also inside a transaction, has one answer, whichever run asks for it: the one that the rows hold
  abbrev pub HasOneAnswerPerStep : Host T G → Type 0
  HasOneAnswerPerStep h = IfSome (rows_of h) (λ m. (p : PlainState) → run_of h.code (core_of h).book ≡ Some p → OneAnswerPerStep h.code (core_of h) m p)

  -- .. where some rows are gone, each step of one whose rows are there
  abbrev pub FreshHaveOneAnswer : Host T G → Type 0
  FreshHaveOneAnswer h = IfSome (rows_of h) (λ m. (p : PlainState) → run_of h.code (core_of h).book ≡ Some p → (latest : ℕ) × OneAnswerLess h.code (core_of h) latest m p)

  -- the answers that the first one's rows hold are held by the second one's
  abbrev pub AnswersAreKept : Host T G → Host T G → Type 0
  AnswersAreKept h k = Tells (rows_of h) (rows_of k) AnswersStay

  -- the text was the old one, and has the listing of the run of its book after it
  abbrev pub ListsRun : Host T G → List ℕ → List ℕ → Type 0
  ListsRun h old new = IfSome (rows_of h) (λ m. (p : PlainState) → run_of h.code (core_of h).book ≡ Some p → new ≡ old ++ listing_of h.code p)

  -- what is said of the ticket's reply is so in the run of its book
  abbrev pub TellsRun : Host T G → ℕ → ReplyStatus → Type 0
  TellsRun h t x = IfSome (rows_of h) (λ m. IsStatusSo h.code (core_of h).book t x)
