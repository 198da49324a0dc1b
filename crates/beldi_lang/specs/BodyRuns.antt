-- How the machine runs a body: from its first statement, or on from the place where it stopped, with the answer that it waited for.
-- Where it stops at an effect that lacks an answer it says the place, and the state that it has once the answer is there; else it
-- leaves, with the state and the answers that remain. What it stops at is what `Wants` says.
use Rattle.std.specs.Prelude.{ℕ, zero, suc, ◌+◌, ◌++◌, nat_lt, Bool, true, false, not, List, [], ◌∷◌, Option, Some, None, Result, Ok, Err, if◌then◌else◌}
use Rattle.std.specs.FinMap as map
use Rattle.beldi_value.specs.declared.{value.Value.Value, value.Value.TheVariants.Null, outcome.Outcome.Outcome, outcome.Code.Code}
use Rattle.beldi_tree.specs.StatementCommand.{Command, Commands, no_commands, command, set, read, write, condwrite, call, async, lock, unlock, transaction, abort, break, choose, repeat, return}
use Rattle.beldi_tree.specs.{declared.deployment.Deployment.Deployment, declared.deployment.Func.Func, declared.deployment.TableHead.TableHead, Term.Term, Bindings.no_variables, Evaluate.◌>>=◌, Evaluate.truth, Evaluate.term_value}
use Rattle.beldi_lang.specs.Wants.{table_number, func_number, most_effects, key_value, tables_of, body_of, first_variables, releases}
use Rattle.beldi_lang.specs.{declared.effect.Effect.Effect, declared.effect.Answer.Answer, declared.state.State.State, declared.state.Exit.Exit, declared.state.Exit.TheVariants.Completes, declared.state.Exit.TheVariants.Breaks, declared.state.Exit.TheVariants.Ends, declared.state.Part.Part, declared.state.Part.TheVariants.First, declared.state.Part.TheVariants.Second, declared.state.Part.TheVariants.Turn, declared.state.Part.TheVariants.Inside, declared.state.Frame.Frame, declared.state.Frame.TheVariants.In, declared.state.Frame.TheVariants.Ending, HeldLocks.is_held, HeldLocks.is_none_held, HeldLocks.without}

-- ---- what a statement leads to

-- it stops at an effect that lacks an answer, at this place, and has this state once the answer is there; or it leaves
pub data Went (P : Type 0) : Type 0 where
  stops : Effect → P → State → Went P
  leaves : Exit → State → List Answer → Went P

-- a statement goes on from its start, or from the place where it waited for this answer
pub data Start : Type 0 where
  Afresh : Start
  From : List Frame → Answer → Start

-- in a statement, the place is that in one of its blocks
abbrev pub inside_part : Part → Went (ℕ × List Frame) → Went (List Frame)
inside_part p (stops e at s) = stops e (In p at.0 ∷ at.1) s
inside_part p (leaves x s rest) = leaves x s rest

-- what the first statement of a block leads to
abbrev pub at_first : Went (List Frame) → Went (ℕ × List Frame)
at_first (stops e at s) = stops e (0, at) s
at_first (leaves x s rest) = leaves x s rest

-- what the statements after the first one of a block lead to
abbrev pub shifted : Went (ℕ × List Frame) → Went (ℕ × List Frame)
shifted (stops e at s) = stops e (suc at.0, at.1) s
shifted (leaves x s rest) = leaves x s rest

-- after a statement that was left at its end, the others follow
abbrev pub followed : (State → List Answer → Went (ℕ × List Frame)) → Went (List Frame) → Went (ℕ × List Frame)
followed f (stops e at s) = stops e (0, at) s
followed f (leaves Completes s rest) = shifted (f s rest)
followed f (leaves Breaks s rest) = leaves Breaks s rest
followed f (leaves (Ends o) s rest) = leaves (Ends o) s rest

abbrev pub fault : {P : Type 0} → Code → State → List Answer → Went P
fault c s rest = leaves (Ends (Outcome.Fault c)) s rest

-- ---- counting

abbrev pub may_count : State → Bool
may_count s = nat_lt s.used most_effects

abbrev pub one_more : State → State
one_more s = record s { used = s.used + 1 }

-- ---- statements without blocks

-- a statement is done, or asks for an effect and has this state once it is answered
pub data Request : Type 0 where
  done : Exit → State → Request
  asks : Effect → State → Request

-- a fault ends the body
abbrev pub or_fault : State → Result Request Code → Request
or_fault s (Ok q) = q
or_fault s (Err c) = done (Ends (Outcome.Fault c)) s

-- an effect that counts
abbrev pub counted : Effect → State → Result Request Code
counted e s = if may_count s then Ok (asks e (one_more s)) else Err Code.Steps

abbrev pub goes : State → Result Request Code
goes s = Ok (done Completes s)

abbrev pub set_to : List ℕ → Value → State → State
set_to n v s = record s { variables = map.insert s.variables n v }

-- the lock of a key that is held already is no effect
abbrev pub locks : ℕ → List ℕ → State → Result Request Code
locks t k s = if is_held t k s.held then goes s else counted (Effect.Lock t k) (record s { held = s.held ++ record { table = t; key = k } ∷ [] })

-- and so is the unlock of one that is not held
abbrev pub unlocks : ℕ → List ℕ → State → Result Request Code
unlocks t k s = if is_held t k s.held then counted (Effect.Unlock t k) (record s { held = without t k s.held }) else goes s

-- what a statement does first; its parts are evaluated left to right
abbrev pub requested : Deployment → List TableHead → Command → State → Result Request Code
requested d ts (set l n e) s = do
  v ← term_value s.variables e
  goes (set_to n v s)
requested d ts (read l n t k) s = do
  key ← key_value s.variables k
  counted (Effect.Read (table_number ts t) key) s
requested d ts (write l t k e) s = do
  key ← key_value s.variables k
  v ← term_value s.variables e
  counted (Effect.Write (table_number ts t) key v) s
requested d ts (condwrite l n t k r o e) s = do
  key ← key_value s.variables k
  w ← term_value s.variables o
  v ← term_value s.variables e
  counted (Effect.CondWrite (table_number ts t) key r w v) s
requested d ts (call l n f e) s = do
  v ← term_value s.variables e
  counted (Effect.Call (func_number d.funcs f) v) s
requested d ts (async l f e) s = do
  v ← term_value s.variables e
  counted (Effect.Async (func_number d.funcs f) v) s
requested d ts (lock l t k) s = do
  key ← key_value s.variables k
  locks (table_number ts t) key s
requested d ts (unlock l t k) s = do
  key ← key_value s.variables k
  unlocks (table_number ts t) key s
requested d ts (abort l) s = if s.inside then counted Effect.Abort s else Err Code.NoTx
requested d ts (break l) s = Ok (done Breaks s)
requested d ts (return l e) s = do
  v ← term_value s.variables e
  Ok (done (Ends (Outcome.Value v)) s)
requested d ts (transaction l b c) s = goes s
requested d ts (choose l e b c) s = goes s
requested d ts (repeat l n b) s = goes s

-- the name that a statement sets to its answer
abbrev pub name_of : Command → Option (List ℕ)
name_of (read l n t k) = Some n
name_of (condwrite l n t k r o e) = Some n
name_of (call l n f e) = Some n
name_of c = None

abbrev pub set_if : Option (List ℕ) → Value → State → State
set_if (Some n) v s = set_to n v s
set_if None v s = s

-- a statement after its effect had this answer; a fault and an abort end the body
abbrev pub answered : Option (List ℕ) → Answer → State → List Answer → Went (List Frame)
answered n Answer.Done s rest = leaves Completes s rest
answered n (Answer.Value v) s rest = leaves Completes (set_if n v s) rest
answered n (Answer.Fault c) s rest = fault c s rest
answered n (Answer.Aborted c) s rest = leaves (Ends (Outcome.Aborted c)) s rest

abbrev pub asked : Option (List ℕ) → Request → List Answer → Went (List Frame)
asked n (done x s) rest = leaves x s rest
asked n (asks e s) [] = stops e [] s
asked n (asks e s) (a ∷ rest) = answered n a s rest

-- a statement without blocks
abbrev pub simple : Option (List ℕ) → (State → Result Request Code) → Start → State → List Answer → Went (List Frame)
simple n q Afresh s rest = asked n (or_fault s (q s)) rest
simple n q (From at a) s rest = answered n a s rest

-- ---- statements with blocks

-- a block from the statement of this number on, which is begun so
abbrev pub Block : Type 0
Block = ℕ → Start → State → List Answer → Went (ℕ × List Frame)

abbrev pub head : Start → Option Frame
head Afresh = None
head (From [] a) = None
head (From (f ∷ at) a) = Some f

abbrev pub inner : Start → Start
inner Afresh = Afresh
inner (From [] a) = From [] a
inner (From (f ∷ at) a) = From at a

-- a block from its first statement on
abbrev pub whole_block : Block → State → List Answer → Went (ℕ × List Frame)
whole_block f s rest = f 0 Afresh s rest

-- a choice: a truth decides
abbrev pub by_test : Block → Block → Result Bool Code → State → List Answer → Went (List Frame)
by_test f g (Ok true) s rest = inside_part First (whole_block f s rest)
by_test f g (Ok false) s rest = inside_part Second (whole_block g s rest)
by_test f g (Err c) s rest = fault c s rest

abbrev pub choice : Block → Block → Term → Option Frame → Start → State → List Answer → Went (List Frame)
choice f g e (Some (In First i)) st s rest = inside_part First (f i st s rest)
choice f g e (Some (In Second i)) st s rest = inside_part Second (g i st s rest)
choice f g e o st s rest = by_test f g (term_value s.variables e >>= truth) s rest

-- a loop after one of its turns: a break ends it
abbrev pub looped : (State → List Answer → Went (List Frame)) → Went (List Frame) → Went (List Frame)
looped more (stops e at s) = stops e at s
looped more (leaves Completes s rest) = more s rest
looped more (leaves Breaks s rest) = leaves Completes s rest
looped more (leaves (Ends o) s rest) = leaves (Ends o) s rest

-- so many turns, each of which counts one
abbrev pub turns : Block → ℕ → State → List Answer → Went (List Frame)
turns f zero s rest = leaves Completes s rest
turns f (suc n) s rest = if may_count s then looped (turns f n) (inside_part (Turn n) (whole_block f (one_more s) rest)) else fault Code.Steps s rest

abbrev pub loop : Block → ℕ → Option Frame → Start → State → List Answer → Went (List Frame)
loop f n (Some (In (Turn m) i)) st s rest = looped (turns f m) (inside_part (Turn m) (f i st s rest))
loop f n o st s rest = turns f n s rest

-- a transaction commits where its block is left without a fault or an abort
abbrev pub commits : Exit → Bool
commits (Ends (Outcome.Fault c)) = false
commits (Ends (Outcome.Aborted c)) = false
commits x = true

abbrev pub outside : State → State
outside s = record s { saved = no_variables; inside = false }

-- all variables are as at the begin
abbrev pub restored : State → State
restored s = record s { variables = s.saved; saved = no_variables; inside = false }

-- after the end of a transaction: where it was aborted the second block runs
abbrev pub ended : Block → Exit → State → List Answer → Went (List Frame)
ended g Completes s rest = leaves Completes (outside s) rest
ended g Breaks s rest = leaves Breaks (outside s) rest
ended g (Ends (Outcome.Value v)) s rest = leaves (Ends (Outcome.Value v)) (outside s) rest
ended g (Ends (Outcome.Fault c)) s rest = leaves (Ends (Outcome.Fault c)) (outside s) rest
ended g (Ends (Outcome.Aborted c)) s rest = inside_part Second (whole_block g (restored s) rest)

-- a transaction whose block was left wants its end
abbrev pub closed : Block → Went (List Frame) → Went (List Frame)
closed g (stops e at s) = stops e at s
closed g (leaves x s []) = stops (Effect.End (commits x)) (Ending x ∷ []) s
closed g (leaves x s (a ∷ rest)) = ended g x s rest

abbrev pub begun_inside : State → State
begun_inside s = record s { saved = s.variables; inside = true }

-- a transaction after its begin
abbrev pub opened : Block → Block → State → List Answer → Went (List Frame)
opened f g s rest = closed g (inside_part Inside (whole_block f (begun_inside s) rest))

abbrev pub begins : Block → Block → State → List Answer → Went (List Frame)
begins f g s [] = stops Effect.Begin [] s
begins f g s (a ∷ rest) = opened f g s rest

-- inside another transaction the first block runs as a plain block
abbrev pub enters : Block → Block → State → List Answer → Went (List Frame)
enters f g s rest =
    if s.inside then inside_part First (whole_block f s rest) else
    if not (is_none_held s.held) then fault Code.LocksHeld s rest else
    if may_count s then begins f g (one_more s) rest else fault Code.Steps s rest

abbrev pub transact : Block → Block → Option Frame → Start → State → List Answer → Went (List Frame)
transact f g (Some (In First i)) st s rest = inside_part First (f i st s rest)
transact f g (Some (In Second i)) st s rest = inside_part Second (g i st s rest)
transact f g (Some (In Inside i)) st s rest = closed g (inside_part Inside (f i st s rest))
transact f g (Some (In (Turn n) i)) st s rest = enters f g s rest
transact f g (Some (Ending x)) st s rest = ended g x s rest
transact f g None Afresh s rest = enters f g s rest
transact f g None (From at a) s rest = opened f g s rest

-- ---- all statements

abbrev mutual
  pub run : Deployment → List TableHead → Command → Start → State → List Answer → Went (List Frame)
  run d ts (transaction l b c) st s rest = transact (run_block d ts b) (run_block d ts c) (head st) (inner st) s rest
  run d ts (choose l e b c) st s rest = choice (run_block d ts b) (run_block d ts c) e (head st) (inner st) s rest
  run d ts (repeat l n b) st s rest = loop (run_block d ts b) n (head st) (inner st) s rest
  run d ts c st s rest = simple (name_of c) (requested d ts c) st s rest

  -- a block, from the statement of this number on
  pub run_block : Deployment → List TableHead → Commands → ℕ → Start → State → List Answer → Went (ℕ × List Frame)
  run_block d ts no_commands n st s rest = leaves Completes s rest
  run_block d ts (command c cs) zero st s rest = followed (run_block d ts cs 0 Afresh) (run d ts c st s rest)
  run_block d ts (command c cs) (suc n) st s rest = shifted (run_block d ts cs n st s rest)

-- ---- bodies

-- an inherited body is inside a transaction from its start
abbrev pub first_state : Option Func → Value → Bool → State
first_state o args inherited = record { variables = first_variables o args; saved = no_variables; used = 0; held = []; inside = inherited }

abbrev pub body : Block → Option Frame → Start → State → List Answer → Went (List Frame)
body f (Some (In p i)) st s rest = inside_part First (f i st s rest)
body f (Some (Ending x)) st s rest = inside_part First (whole_block f s rest)
body f None st s rest = inside_part First (whole_block f s rest)

-- the statements of a function
abbrev pub run_body : Deployment → Option Func → Start → State → List Answer → Went (List Frame)
run_body d o st s rest = body (run_block d (tables_of o) (body_of o)) (head st) (inner st) s rest

-- a body that ends without a return returns null
abbrev pub outcome_of : Exit → Outcome
outcome_of Completes = Outcome.Value Null
outcome_of Breaks = Outcome.Value Null
outcome_of (Ends o) = o

abbrev pub effect_of : {P : Type 0} → Went P → Effect
effect_of (stops e at s) = e
effect_of (leaves x s rest) = releases (outcome_of x) s.held rest
