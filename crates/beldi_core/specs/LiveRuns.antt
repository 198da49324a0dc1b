-- The live runs by number, what each asks, and what becomes of one that is told.
use Rattle.std.specs.Prelude.{◌≡◌, ℕ, ◌+◌, ◌-◌, ◌<◌, if◌then◌else◌, not, Bool, true, false, IsSome, Option, Some, None, Result, Ok, Err}
use Rattle.std.specs.{FinMap.FinMap, Ordering.nat_cmp}
use Rattle.std.specs.FinMap as map
use Rattle.beldi_tree.specs.declared.deployment.Deployment.{Deployment}
use Rattle.beldi_query.specs.{declared.query.Query.Query, Query.QueryReply}
use Rattle.beldi_step.specs.{RunStride.walked, declared.run.Mark.Mark, declared.run.Run.Run, declared.run.RunAt.RunAt, declared.run.Stage.Stage, declared.run.Wait.Wait, declared.run.TurnOutput.TurnOutput, Run.output_of, Run.callee_of, Run.run_asks, Run.run_told, HostStep.has_run, HostStep.put_run}
use Rattle.beldi_core.specs.{Counts.CountMap, Counts.AllCounted, Counts.less, declared.runs.Callee.Callee as Callees, declared.runs.Copies.Copies}

abbrev pub RunMap : Type 0
RunMap = FinMap nat_cmp Run

-- the live runs, and how many numbers were ever given
pub record Numbered : Type 0 where
  pub runs : RunMap
  pub given : ℕ

-- no number past this one has a run
abbrev pub AllGiven : ℕ → RunMap → Type 0
AllGiven given m = (i : ℕ) → given < i → map.get m i ≡ None

-- what is kept of the runs is so
pub record AllKept (given : ℕ) (m : RunMap) (n : CountMap) : Type 0 where
  pub none_first : map.get m 0 ≡ None
  pub given_all : AllGiven given m
  pub counted_all : AllCounted given m n

-- this is the least number of a run past that one; there is none where no run has a greater number
abbrev pub IsLeastPast : ℕ → RunMap → Option ℕ → Type 0
IsLeastPast i m None = (j : ℕ) → i < j → map.get m j ≡ None
IsLeastPast i m (Some n) = (i < n) × IsSome (map.get m n) × ((j : ℕ) → i < j → j < n → map.get m j ≡ None)

-- with a run of the next number
abbrev pub started : Numbered → Run → Numbered
started a r = record { runs = map.insert a.runs (a.given + 1) r; given = a.given + 1 }

-- without the last number
abbrev pub withdrawn : Numbered → Numbered
withdrawn a = record { runs = map.remove a.runs a.given; given = a.given - 1 }

-- ---- a turn
-- the run of what is called is made before the turn, but where its run stands at a call: it does so after a turn that may start one too
abbrev pub is_call : Stage → Bool
is_call (Stage.Call at) = true
is_call w = false

abbrev pub is_at_call : RunAt → Bool
is_at_call (RunAt.Begins g) = is_call g.stage
is_at_call at = false

abbrev pub made_before : Run → Callees
made_before r = if is_at_call r.at then Callees.Later else Callees.Made (callee_of r)

-- .. from the run as it stands afterwards
abbrev pub made_after : Option Run → Option Run
made_after None = None
made_after (Some s) = callee_of s

abbrev pub callee_for : Callees → Option Run → Option Run
callee_for (Callees.Made o) s = o
callee_for Callees.Later s = made_after s

abbrev pub copied : Run → Copies
copied r = record { id = r.id; callee = made_before r }

-- whether a run of it may be started, by what a turn says: not where it waits for a live one
abbrev pub may_follow : RunMap → Bool → Option Wait → Bool
may_follow m starts None = starts
may_follow m starts (Some (Wait.Result id)) = not (has_run m id)
may_follow m starts (Some w) = false

-- what a run asks, with its copies
abbrev pub asked_of : Run → Query × Copies
asked_of r = (run_asks r, copied r)

-- a run is gone after this
abbrev pub ends_run : Result TurnOutput (Option Mark) → Bool
ends_run (Ok x) = x.over
ends_run (Err m) = true

-- .. and is counted no more
abbrev pub uncounted : CountMap → Option Run → CountMap
uncounted n None = n
uncounted n (Some r) = less n r.id (map.get n r.id)

abbrev pub settled_counts : Bool → CountMap → Option Run → CountMap
settled_counts true n o = uncounted n o
settled_counts false n o = n

abbrev pub settled : Bool → RunMap → ℕ → RunMap
settled true m i = map.remove m i
settled false m i = m

-- the run of number i was told: it goes on, or is gone. Out of memory it is gone, and the mark of its act is told.
abbrev pub RunTold : Deployment → ℕ → RunMap → RunMap → ℕ → Option Run → QueryReply → Result TurnOutput (Option Mark) → Type 0
RunTold d changes a b i None t x = ⊥
RunTold d changes a b i (Some r) t (Ok x) = (b ≡ put_run a i (run_told d changes r t).next) × (x ≡ output_of (run_told d changes r t))
RunTold d changes a b i (Some r) t (Err m) = (b ≡ map.remove a i) × (m ≡ (run_told d changes r t).mark)

-- ---- a run that walks
-- the run of number i is set forward to the row of a number, where it is live
abbrev pub walked_in : RunMap → ℕ → ℕ → Option Run → RunMap
walked_in m i row None = m
walked_in m i row (Some r) = map.insert m i (walked row r)
