-- The events of a settling, where the table tells its rows, and what is promised of them.
use Rattle.std.specs.Prelude.{◌≡◌, ℕ, List, Ok}
use Rattle.beldi_tree.specs.declared.deployment.Deployment.{Deployment}
use Rattle.beldi_row.specs.{Key.RowKey, Table.Rows, Table.TableState, Table.Tells}
use Rattle.beldi_step.specs.{declared.event.Event.Event, declared.event.EventReply.EventReply, HostStep.Core, HostStep.Stepped, Next.at_key, Next.next_run}
use Rattle.beldi_host.specs.Survey.{PassesToldOpen}
use Rattle.beldi_schedule.specs.{Settle.on_ic_reply, Settles.Settles, Settles.State, declared.machine.At.At, declared.machine.Settled.Settled, declared.machine.Standing.Standing}
use Rattle.beldi_bound.specs.Ends.{Promises}
use Rattle.beldi_book.specs.declared.entry.Entry.{Entry}
use Rattle.beldi_joined.specs.Joined.{with_joined}

-- an event was answered, and this followed
pub record WasAnswered (d : Deployment) (e : Event) (follows : Core → EventReply → Standing) (c z : Core) (old new : TableState) (next : Standing) : Type 0 where
  pub answer : EventReply
  pub step : Stepped d e c z old new (Ok answer)
  pub follows_so : next ≡ follows z answer

abbrev pub state_with : Core → TableState → Rows → State
state_with c t m = record { core = c; rows = m; faults = t.faults }

-- the intent collector was set past rows that are of no open intent, and then given a turn
pub record Collected (d : Deployment) (budget : ℕ) (at : At) (c z : Core) (old new : TableState) (next : Standing) : Type 0 where
  pub cursor : RowKey
  pub passes : PassesToldOpen old.rows c.cursor cursor
  pub answered : WasAnswered d Event.Ic (λ k x. on_ic_reply budget (next_run k 0) at x) (at_key cursor c) z old new next

-- the events of a settling, one after another
abbrev pub Led : Deployment → ℕ → Standing → Standing → Core → Core → TableState → TableState → Type 0
Led d budget y z c b old new = Tells old.rows new.rows (λ m n. Settles d old.room budget y (state_with c old m) z (state_with b new n))

-- what is promised of it at its end
abbrev pub KeepsPromises : Deployment → ℕ → Core → Core → TableState → TableState → Settled → Type 0
KeepsPromises d budget c b old new x = Tells old.rows new.rows (λ m n. Promises d budget (state_with c old m) (state_with b new n) x)

-- .. of a host that comes after other sessions, by their book and its own
abbrev pub KeepsPromisesAfter : List Entry → Deployment → ℕ → Core → Core → TableState → TableState → Settled → Type 0
KeepsPromisesAfter base d budget c b old new x = Tells old.rows new.rows (λ m n. Promises d budget (with_joined base (state_with c old m)) (with_joined base (state_with b new n)) x)
