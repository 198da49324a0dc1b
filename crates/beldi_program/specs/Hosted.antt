-- How the host moved in a session: by one step for each response, as `plan`, `on_reply`, `no_memory` and `refused` define it; a settling
-- goes as `next_of`, `on_turn_reply` and `on_ic_reply` do.
use Rattle.std.specs.Prelude.{◌≡◌, ◌≤◌, ℕ, List, [], ◌∷◌, Option, Some, None, if◌then◌else◌}
use Rattle.std.specs.FinMap as map
use Rattle.beldi_tree.specs.declared.deployment.Deployment.{Deployment}
use Rattle.beldi_plain.specs.{Plain.PlainState, Legal.run_of, Listing.listing_of}
use Rattle.beldi_row.specs.Table.{Rows}
use Rattle.beldi_book.specs.declared.entry.Entry.{Entry}
use Rattle.beldi_step.specs.{HostStep.Core, Tables.tables_text}
use Rattle.beldi_joined.specs.Joined.{joined}
use Rattle.beldi_host.specs.Survey.{opened_core}
use Rattle.beldi_schedule.specs.Settles.{State}
use Rattle.beldi_session.specs.{HostResponse.Response, Script.Action, Session.IsStep, Session.Follows}
use Rattle.beldi_program.specs.PlainRun.{Booked, IsPlainRun, alone, last_changed, later, changes_row}

-- the host over rows, once it was open, at this moment or the greatest one of the rows, with the table's count of failures then
abbrev pub opened_at : Rows → ℕ → ℕ → State
opened_at m now f = record { core = opened_core m now; rows = m; faults = f }

-- when a collector changed a row last, after a response that came at this moment
abbrev pub changed_by : ℕ → Option ℕ → Response → Option ℕ
changed_by now was y = if changes_row y then later was (Some now) else was

-- a step to a response: the book and the rows are those of the host after it
pub record StepTo (d : Deployment) (was : Option ℕ) (s u : State) (y : Booked) : Type 0 where
  pub step : IsStep d d.room s u y.response
  pub book : u.core.book ≡ y.book
  pub rows : u.rows ≡ y.rows
  pub changed : y.changed ≡ changed_by s.core.now was y.response

-- one step after another, to the first of the actions that are left
abbrev pub StepsTo : Deployment → Option ℕ → List Booked → List Action → List Action → State → State → Type 0
StepsTo d was [] actions more s t = (t ≡ s) × (actions ≡ more)
StepsTo d was (y ∷ ys) actions more s t = (u : State) × (left : List Action) × StepTo d was s u y × Follows actions s.core u.core y.response left × StepsTo d y.changed ys left more u t

-- one step after another, where no actions are given
abbrev pub LeadsTo : Deployment → Option ℕ → List Booked → State → State → Type 0
LeadsTo d was [] s t = t ≡ s
LeadsTo d was (y ∷ ys) s t = (u : State) × StepTo d was s u y × LeadsTo d y.changed ys u t

-- rows that sessions left, one after another from no rows on, the joined book of these sessions, and when a collector changed a row last. A session
-- may end after any of its responses, so the rows that a host had when it was stopped are such rows, and those that it had before its
-- answer was told.
pub data Left (d : Deployment) : List Entry → Option ℕ → Rows → Type 0 where
  no_session : Left d [] None map.empty
  one_more : (base : List Entry) (gone : Option ℕ) (m : Rows) → Left d base gone m → (now opened : ℕ) (ys : List Booked) (t : State) → LeadsTo d None ys (opened_at m now opened) t
      → Left d (joined base t.core.book) (later gone (last_changed None ys)) t.rows

-- from the rows m to the rows n, by these responses to the actions, but for `more`. The numbers f and g are the table's count of failures
-- before and after, and `opened` is the count once the host was open. Where it began over rows that sessions left, it is with these a run
-- without crashes, of their books and then its own; and the listing of the rows is that of this run.
pub record Hosted (d : Deployment) (actions more : List Action) (ys : List Booked) (m n : Rows) (f g : ℕ) : Type 0 where
  pub opened : ℕ
  pub sooner : f ≤ opened
  pub core : Core
  pub steps : StepsTo d None ys actions more (opened_at m 0 opened) (record { core = core; rows = n; faults = g })
  pub joins : (base : List Entry) (gone : Option ℕ) → Left d base gone m → IsPlainRun d (joined base) gone n ys
  pub listing : (base : List Entry) (gone : Option ℕ) → Left d base gone m → (p : PlainState) → run_of d (joined base core.book) ≡ Some p → tables_text d n ≡ listing_of d p

-- ---- the law of sessions: one over no rows is a run without crashes of its book, and one over rows that sessions left is one of their books
-- and then its own, which the listing of its rows lists
abbrev pub SessionsArePlainRuns : Type 0
SessionsArePlainRuns = (d : Deployment) (ys : List Booked) (m : Rows) (now opened : ℕ) (t : State) → LeadsTo d None ys (opened_at m now opened) t
    → (m ≡ map.empty → IsPlainRun d alone None t.rows ys)
    × ((base : List Entry) (gone : Option ℕ) → Left d base gone m → IsPlainRun d (joined base) gone t.rows ys × ((p : PlainState) → run_of d (joined base t.core.book) ≡ Some p → tables_text d t.rows ≡ listing_of d p))
