-- That a session is a run without crashes, of exactly the requests that were bound. Nothing here knows how the host moves.
use Rattle.std.specs.Prelude.{◌≡◌, ◌&&◌, ℕ, max, Bool, true, false, List, [], ◌∷◌, ◌++◌, flat_map, map, is_some, Option, Some, None, option_to_list}
use Rattle.std.specs.FinMap as finite
use Rattle.beldi_value.specs.declared.{value.Value.Value, outcome.Outcome.Outcome}
use Rattle.beldi_tree.specs.declared.deployment.Deployment.{Deployment}
use Rattle.beldi_book.specs.{BookText.book_text, declared.entry.Entry.Entry}
use Rattle.beldi_plain.specs.{Plain.PlainState, Legal.IsLegal, Legal.run_of, Listing.listing_of, Replies.starts_of, Replies.HasReply}
use Rattle.beldi_row.specs.Table.{Rows}
use Rattle.beldi_kept.specs.Safe.{changes}
use Rattle.beldi_step.specs.EventContent.{bound_of, reply_entries, is_dropped, is_lost, reply_outcome}
use Rattle.beldi_histories.specs.Stands.{Stands}
use Rattle.beldi_kept.specs.StandsLess.{StandsLess}
use Rattle.beldi_host.specs.{ReplyStatus.IsStatusSo, declared.survey.ReplyStatus.TheVariants.Gone, declared.survey.ReplyStatus.TheVariants.Reply}
use Rattle.beldi_session.specs.HostResponse.{Report, ReplyIs, TablesAre, BookIs, Response, Answered, Reported, BrokeOff, PruneAnswered, IsTo, AtFirst, responses_text}
use Rattle.beldi_session.specs.Script.{Action}

-- ---- the moment after an action
-- the entries that a response tells
abbrev pub entries_in : Response → List Entry
entries_in (Answered share e x) = reply_entries e x
entries_in y = []

-- the answer of an act was lost, or memory ran out in an event
abbrev pub loses : Response → Bool
loses (Answered share e x) = is_lost e && is_dropped x
loses (BrokeOff o) = true
loses y = false

-- a log collector changed a row: it marked it, led past it, left it adrift, or removed it
abbrev pub changes_row : Response → Bool
changes_row (PruneAnswered share k x) = changes x
changes_row y = false

-- ---- moments at which collectors changed rows, none where none did
-- the later one
abbrev pub later : Option ℕ → Option ℕ → Option ℕ
later None r = r
later (Some a) None = Some a
later (Some a) (Some b) = Some (max a b)

-- the rows stand for a plain state: where no collector changed one, each tells of it; else as rows do of which some of old intents were changed
-- up to this moment
abbrev pub StandsBy : Deployment → Option ℕ → Rows → PlainState → Type 0
StandsBy d None rows p = Stands d rows p
StandsBy d (Some l) rows p = StandsLess d l rows p

-- .. for that of the run of the book
abbrev pub RowsStandFor : Deployment → Option ℕ → Rows → List Entry → Type 0
RowsStandFor d changed rows book = (p : PlainState) → run_of d book ≡ Some p → StandsBy d changed rows p

-- a response, with the book and the rows after it, and the latest moment at which a collector changed a row in this session
pub record Booked : Type 0 where
  pub response : Response
  pub book : List Entry
  pub rows : Rows
  pub changed : Option ℕ

-- the history of a session that is the first over its rows: its own book
abbrev pub alone : List Entry → List Entry
alone book = book

-- by the history that the session's book is the last part of, and the latest moment at which a collector changed a row before the session
module _ (d : Deployment) (history : List Entry → List Entry) (gone : Option ℕ) where
  -- a ticket is gone only where a collector changed a row
  abbrev pub IsReportSo : List Entry → Option ℕ → Report → Type 0
  IsReportSo book changed (ReplyIs t (Some x)) = IsStatusSo d (history book) t x × (x ≡ Gone → is_some (later gone changed) ≡ true)
  IsReportSo book changed (TablesAre (Some lines)) = (p : PlainState) → run_of d (history book) ≡ Some p → lines ≡ listing_of d p
  IsReportSo book changed (BookIs lines) = lines ≡ book_text d book
  IsReportSo book changed r = Unit {0}

  -- what a response says is so in the run of the history
  abbrev pub IsSo : List Entry → Option ℕ → Response → Type 0
  IsSo book changed (Answered share e x) = (t : ℕ) (o : Outcome) → reply_outcome x ≡ Some (t, o) → HasReply d (history book) t o
  IsSo book changed (Reported r) = IsReportSo book changed r
  IsSo book changed y = Unit {0}

  -- the book got at most one entry, the one that the response tells, unless the answer was lost; only where a collector changed a row, one
  -- was changed; the history is legal; what is said is so in its run; and the rows stand for that run
  pub record Moment (before : List Entry) (was : Option ℕ) (y : Booked) : Type 0 where
    pub entry : Option Entry
    pub grew : y.book ≡ before ++ option_to_list entry
    pub told : loses y.response ≡ false → option_to_list entry ≡ entries_in y.response
    pub still : changes_row y.response ≡ false → y.changed ≡ was
    pub legal : IsLegal d (history y.book)
    pub so : IsSo y.book y.changed y.response
    pub tables : RowsStandFor d (later gone y.changed) y.rows (history y.book)

  -- from a book on, each of these is a moment after the one before
  abbrev pub Moments : List Entry → Option ℕ → List Booked → Type 0
  Moments before was [] = Unit {0}
  Moments before was (y ∷ ys) = Moment before was y × Moments y.book y.changed ys

-- the book after the last of them, and when a collector changed a row last
abbrev pub last_book : List Entry → List Booked → List Entry
last_book before [] = before
last_book before (y ∷ ys) = last_book y.book ys

abbrev pub last_changed : Option ℕ → List Booked → Option ℕ
last_changed was [] = was
last_changed was (y ∷ ys) = last_changed y.changed ys

abbrev pub responses_in : List Booked → List Response
responses_in ys = map (λ (y : Booked). y.response) ys

-- ---- the book at the end
-- the requests that were bound
abbrev pub bound_by : Response → List (ℕ × (ℕ × Value))
bound_by (Answered share e x) = bound_of e x
bound_by y = []

abbrev pub bound_in : List Response → List (ℕ × (ℕ × Value))
bound_in ys = flat_map bound_by ys

-- the outcome of a root that a response tells, with the root's ticket
abbrev pub outcome_in : Response → Option (ℕ × Outcome)
outcome_in (Answered share e x) = reply_outcome x
outcome_in (Reported (ReplyIs t (Some (Reply o)))) = Some (t, o)
outcome_in y = None

-- every outcome that is told is the root's in the run of the book
abbrev pub TellOutcomes : Deployment → List Entry → List Response → Type 0
TellOutcomes d book [] = Unit {0}
TellOutcomes d book (y ∷ ys) = ((t : ℕ) (o : Outcome) → outcome_in y ≡ Some (t, o) → HasReply d book t o) × TellOutcomes d book ys

-- after each response the history is legal, what was said is so in its run, and the rows stand for it. At the end it is legal, so that
-- each step of an instance acts once and in its order, each transaction that committed is one entry, whole, and each that was aborted
-- one that leaves no item changed (`after` of `beldi_plain/specs/PlainEntries`); the history starts what it had started before the session, and
-- then exactly the requests that were answered bound, in order; every outcome that was told is its root's; and the rows stand for the
-- history's run.
pub record IsPlainRun (d : Deployment) (history : List Entry → List Entry) (gone : Option ℕ) (rows : Rows) (ys : List Booked) : Type 0 where
  pub moments : Moments d history gone [] None ys
  pub legal : IsLegal d (history (last_book [] ys))
  pub bound : starts_of (history (last_book [] ys)) ≡ starts_of (history []) ++ bound_in (responses_in ys)
  pub replies : TellOutcomes d (history (last_book [] ys)) (responses_in ys)
  pub tables : RowsStandFor d (later gone (last_changed None ys)) rows (history (last_book [] ys))

-- ---- a session from the rows m to the rows n, with the text that was written
-- each is a response to the first of the actions that are left before it, and `more` are left after them all
abbrev pub AreTo : List Response → List Action → List Action → Type 0
AreTo [] actions more = actions ≡ more
AreTo (y ∷ ys) actions more = (left : List Action) × AtFirst (λ a front. IsTo a y front) actions left × AreTo ys left more

-- the actions, but for `more`, got responses in order, one each, and a settling one for each of its events and one as it ended; after
-- each the book and the rows were such. The text is theirs, and a front of it was written. Over no rows this is a run without crashes.
pub record Session (d : Deployment) (actions more : List Action) (m n : Rows) (written rest : List ℕ) : Type 0 where
  pub responses : List Booked
  pub actions_are : AreTo (responses_in responses) actions more
  pub text : written ++ rest ≡ responses_text d (responses_in responses)
  pub plain : m ≡ finite.empty → IsPlainRun d alone None n responses
