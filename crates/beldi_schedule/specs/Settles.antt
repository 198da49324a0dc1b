-- The events of a settling, one after another, over rows that are told; and where it passes over rows that are of no open intent.
use Rattle.std.specs.Prelude.{◌≡◌, ◌≤◌, ℕ, Ok}
use Rattle.beldi_tree.specs.declared.deployment.Deployment.{Deployment}
use Rattle.beldi_row.specs.{Key.RowKey, Key.least_key, Table.Rows}
use Rattle.beldi_step.specs.{declared.event.EventReply.EventReply, HostStep.Core, HostStep.EventOn, Next.PassesNoOpen, Next.at_key}
use Rattle.beldi_schedule.specs.{declared.machine.At.At, declared.machine.Next.Next, declared.machine.Next.TheVariants.Turn, declared.machine.Next.TheVariants.Collect, declared.machine.Next.TheVariants.Reset, declared.machine.Standing.Standing, declared.machine.Standing.TheVariants.Working, Settle.begun, Settle.core_for, Settle.event_of, Settle.on_reply_of, Settle.next_of}

-- the host without its table, the rows, and the table's count of failures
pub record State : Type 0 where
  pub core : Core
  pub rows : Rows
  pub faults : ℕ

-- the event that comes next was answered, and leads from s to t, and there
pub record Advances (d : Deployment) (room budget : ℕ) (a : At) (s t : State) (z : Standing) : Type 0 where
  pub answer : EventReply
  pub event : EventOn d room s.faults t.faults (event_of (next_of s.core a)) (core_for (next_of s.core a) s.core) s.rows t.core t.rows (Ok answer)
  pub later : s.faults ≤ t.faults
  pub next : z ≡ on_reply_of budget t.core (next_of s.core a) answer

-- the intent collector is given a turn next, so the settling stands there; and from where it looks, no open intent is up to a key
abbrev pub MaySkip : Core → Rows → Next → At → RowKey → Type 0
MaySkip c m (Turn a i) b q = ⊥
MaySkip c m (Collect a) b q = (b ≡ a) × PassesNoOpen m c.cursor q
MaySkip c m (Reset a) b q = (b ≡ begun a) × PassesNoOpen m least_key q

-- the intent collector was set to a key
abbrev pub set_to : RowKey → State → State
set_to q s = record s { core = at_key q s.core }

-- events lead from s, where the settling stands so, to t, where it stands so
pub data Settles (d : Deployment) (room budget : ℕ) : Standing → State → Standing → State → Type 0 where
  stands : (z : Standing) (s : State) → Settles d room budget z s z s
  goes : (a : At) (s : State) (z : Standing) (u : State) (y : Standing) (t : State) → Advances d room budget a s u z → Settles d room budget z u y t → Settles d room budget (Working a) s y t
  -- with no event, the intent collector passes over rows that are of no open intent
  skips : (a : At) (s : State) (b : At) (q : RowKey) (y : Standing) (t : State) → MaySkip s.core s.rows (next_of s.core a) b q → Settles d room budget (Working b) (set_to q s) y t → Settles d room budget (Working a) s y t
