-- Sessions one after another over the same rows: the book that they make together, and a host that comes after others.
use Rattle.std.specs.Prelude.{ℕ, ◌+◌, List, ◌++◌, map, IfSome, Result, Ok, Err}
use Rattle.std.specs.{FinMap.FinMap, Option.option_map, Ordering.nat_cmp, declared.alloc.AllocError.AllocError}
use Rattle.std.specs.FinMap as finite
use Rattle.beldi_book.specs.{declared.entry.Entry.Entry, declared.entry.Entry.TheVariants.Start, declared.entry.Entry.TheVariants.Read, declared.entry.Entry.TheVariants.Step, declared.entry.Entry.TheVariants.CommittedTx, declared.entry.Entry.TheVariants.AbortedTx, LinearOrder.count_changes}
use Rattle.beldi_step.specs.declared.{event.EventReply.EventReply, event.EventReply.TheVariants.Acted, run.Mark.Mark, run.Run.Run, run.RunAt.RunAt, run.RunAt.TheVariants.Looks, run.RunAt.TheVariants.Registers, run.RunAt.TheVariants.Begins, run.Stage.Stage, run.Stage.TheVariants.Keep, run.Stage.TheVariants.Decide}
use Rattle.beldi_step.specs.HostStep.{Core, first_core}
use Rattle.beldi_row.specs.declared.table.Table.{Ghosts}
use Rattle.beldi_schedule.specs.Settles.{State}
use Rattle.beldi_upkeep.specs.Upkeep.{Upkeep}
use Rattle.beldi_host.specs.{declared.host.Host.Host, HostCore.core_of, HostInvariant.rows_of}

-- ---- books
-- an entry behind so many changes: a read had seen these as well
abbrev pub raised_entry : ℕ → Entry → Entry
raised_entry n (Start t f a) = Start t f a
raised_entry n (Read id version) = Read id (n + version)
raised_entry n (Step id) = Step id
raised_entry n (CommittedTx id) = CommittedTx id
raised_entry n (AbortedTx id p holder) = AbortedTx id p holder

abbrev pub raised : ℕ → List Entry → List Entry
raised n book = map (raised_entry n) book

-- the book of earlier sessions, and behind it that of a session which began with an empty one
abbrev pub joined : List Entry → List Entry → List Entry
joined base book = base ++ raised (count_changes base) book

-- ---- runs: what a run has of how many changes had been made
-- the mark of a read that is kept
abbrev pub raised_mark : ℕ → Mark → Mark
raised_mark n (Mark.Read version) = Mark.Read (n + version)
raised_mark n m = m

-- a value that is to be kept, and a mark that is to be left
abbrev pub raised_stage : ℕ → Stage → Stage
raised_stage n (Keep v version) = Keep v (n + version)
raised_stage n (Decide m) = Decide (raised_mark n m)
raised_stage n s = s

abbrev pub raised_at : ℕ → RunAt → RunAt
raised_at n Looks = Looks
raised_at n (Registers b) = Registers b
raised_at n (Begins g) = Begins (record g { stage = raised_stage n g.stage })

abbrev pub raised_run : ℕ → Run → Run
raised_run n r = record r { at = raised_at n r.at }

abbrev pub raised_runs : ℕ → FinMap nat_cmp Run → FinMap nat_cmp Run
raised_runs n runs = finite.from_sorted (map (λ e. (e.0, raised_run n e.1)) (finite.entries runs))

-- ---- hosts
-- a core behind the book of earlier sessions
abbrev pub behind : List Entry → Core → Core
behind base c = record c { book = joined base c.book; runs = raised_runs (count_changes base) c.runs }

-- a host that was opened over rows whose newest ticket is this one, with the book of the sessions before it
abbrev pub reopened : ℕ → List Entry → ℕ → Core
reopened newest book now = record (first_core newest now) { book = book }

-- a host as it stands, with the book of the sessions before it and its own
abbrev pub with_joined : List Entry → State → State
with_joined base s = record s { core = record s.core { book = joined base s.core.book } }

-- the invariant holds of the host and its rows behind the book of the sessions before it, with what is kept beside it, and no log collector
-- changed a row
abbrev pub IsWholeAfter : {T : Type 0} {G : Ghosts T} → List Entry → Host T G → Type 0
IsWholeAfter base h = IfSome (rows_of h) (Upkeep h.code (behind base (core_of h)))

-- ---- answers: of how many changes had been made, an answer tells what the entry of a read has
abbrev pub raised_reply : ℕ → EventReply → EventReply
raised_reply n (Acted entry started over reply) = Acted (option_map (raised_entry n) entry) started over reply
raised_reply n x = x

abbrev pub raised_answer : ℕ → Result EventReply AllocError → Result EventReply AllocError
raised_answer n (Ok x) = Ok (raised_reply n x)
raised_answer n (Err w) = Err w
