-- What the code tells of a statement: it has one answer at most, so none remains where it leaves.
use Rattle.std.specs.Prelude.{◌≡◌, ℕ, Bool, true, false, List, [], ◌∷◌, Option, Some, None, Result, Ok, Err}
use Rattle.beldi_value.specs.declared.outcome.Code.{Code}
use Rattle.beldi_tree.specs.{declared.fault.EvalErr.EvalErr, declared.fault.EvalErr.TheVariants.OutOfMemory, declared.fault.EvalErr.TheVariants.Fault, StatementCommand.Command, StatementCommand.commands_of}
use Rattle.beldi_lang.specs.BodyRuns.{Went, stops, leaves, Request, asks, done, may_count, one_more, Block, run_block}
use Rattle.beldi_lang.specs.declared.{scope.Scope.Scope, effect.Effect.Effect, state.State.State, state.Exit.TheVariants.Completes, state.Exit.TheVariants.Breaks, state.Exit.TheVariants.Ends, state.Part.Part, state.Frame.Frame, state.Frame.TheVariants.In, state.Went.Went as BodyWent, state.Went.TheVariants.Stops, state.Went.TheVariants.Leaves}

abbrev pub told : BodyWent → State → Went (List Frame)
told (Stops w) s = stops w.effect w.place s
told (Leaves x) s = leaves x s []

-- an effect or a turn is counted, where one more may count
abbrev pub Counts : State → Bool → State → Type 0
Counts old true new = (may_count old ≡ true) × (new ≡ one_more old)
Counts old false new = (may_count old ≡ false) × (new ≡ old)

-- an effect is wanted, and waited for at this place
abbrev pub stop : Effect → List Frame → BodyWent
stop e at = Stops (record { effect = e; place = at })

-- what a statement without blocks does first, where it waits at no place inside
abbrev pub wished : BodyWent → State → Request
wished (Stops w) s = asks w.effect s
wished (Leaves x) s = done x s

abbrev pub place_of : BodyWent → List Frame
place_of (Stops w) = w.place
place_of (Leaves x) = []

-- a statement's first step; at a fault the state is as it was
abbrev pub Requests : State → Result Request Code → State → Result BodyWent EvalErr → Type 0
Requests old r new (Ok w) = (r ≡ Ok (wished w new)) × (place_of w ≡ [])
Requests old r new (Err OutOfMemory) = Unit {0}
Requests old r new (Err (Fault c)) = (r ≡ Err c) × (new ≡ old)

-- what a block leads to after one of its statements, where this is not left at its end
abbrev pub left_at : Part → ℕ → Went (List Frame) → Option (Went (List Frame))
left_at p i (stops e at s) = Some (stops e (In p i ∷ at) s)
left_at p i (leaves Completes s rest) = None
left_at p i (leaves Breaks s rest) = Some (leaves Breaks s rest)
left_at p i (leaves (Ends o) s rest) = Some (leaves (Ends o) s rest)

-- what a loop leads to after one of its turns, where this is not left at its end
abbrev pub turn_left : Went (List Frame) → Option (Went (List Frame))
turn_left (stops e at s) = Some (stops e at s)
turn_left (leaves Completes s rest) = None
turn_left (leaves Breaks s rest) = Some (leaves Completes s rest)
turn_left (leaves (Ends o) s rest) = Some (leaves (Ends o) s rest)

-- what these statements of a block lead to in a scope
abbrev pub block_in : Scope → List Command → Block
block_in s cs = run_block s.code.now s.tables.now (commands_of cs)
