-- The rules that a deployment keeps, and the first place where it breaks one.
use Rattle.std.specs.Prelude.{◌≡◌, ℕ, ◌+◌, nat_lt, Bool, true, false, not, ◌&&◌, ◌||◌, List, [], ◌∷◌, ◌++◌, slice_get, Option, Some, None, option_map, option_and_then, if◌then◌else◌}
use Rattle.std.specs.{Option.option_or, List.list_any}
use Rattle.beldi_tree.specs.StatementCommand.{Command, read, write, condwrite, call, async, lock, unlock, transaction, break, return}
use Rattle.beldi_tree.specs.{declared.deployment.Deployment.Deployment, declared.deployment.Func.Func, declared.deployment.TableHead.TableHead, Bindings.is_name, Names.func_place}
use Rattle.beldi_check.specs.declared.why.Why.TheVariants.{UnknownFunction, UnknownTable, Duplicate, TooMany, BreakOutside, NestedTx, LeavesTx, CallCycle, AsyncInTx, LockInTx}
use Rattle.beldi_check.specs.{Site.Spot, Site.sites_of, Site.line_at, CallGraph.reaches, CallGraph.blocks, declared.calls.Link.TheVariants.Call, declared.calls.Link.TheVariants.Start, declared.rules.Rule.Rule, declared.why.Why.Why, declared.why.CheckErr.CheckErr, declared.why.CheckErr.TheVariants.OutOfMemory, declared.why.CheckErr.TheVariants.Refused}

-- a line, and the rule that it breaks
abbrev pub Offence : Type 0
Offence = ℕ × Why

-- a refusal names the first offence; out of memory may come in its place
abbrev pub Refuses : Option Offence → CheckErr → Type 0
Refuses o OutOfMemory = Unit {0}
Refuses o (Refused l w) = o ≡ Some (l, w)

-- ---- names

abbrev pub has_function : List Func → List ℕ → Bool
has_function fs n = list_any (λ f. is_name f.name n) fs

abbrev pub has_table : List TableHead → List ℕ → Bool
has_table ts n = list_any (λ t. is_name t.name n) ts

-- the first table whose name one before it has
abbrev pub double_table : List TableHead → List TableHead → Option Offence
double_table before [] = None
double_table before (t ∷ ts) = if has_table before t.name then Some (t.line, Duplicate t.name) else double_table (before ++ t ∷ []) ts

-- the first function or table whose name is taken
abbrev pub double_name : List Func → List Func → Option Offence
double_name before [] = None
double_name before (f ∷ fs) = if has_function before f.name then Some (f.line, Duplicate f.name) else option_or (double_table [] f.tables) (double_name (before ++ f ∷ []) fs)

-- ---- numbers

-- the first function that 64 stand before, or the first table of a function that 64 stand before
abbrev pub past_most : ℕ → List Func → Option Offence
past_most n [] = None
past_most n (f ∷ fs) = if nat_lt n 64 then option_or (option_map (λ t. (t.line, TooMany)) (slice_get f.tables 64)) (past_most (n + 1) fs) else Some (f.line, TooMany)

-- ---- statements

abbrev pub some_if : Bool → List ℕ → Option (List ℕ)
some_if b n = if b then Some n else None

-- the function that a statement names
abbrev pub func_in : Command → Option (List ℕ)
func_in (call l n f e) = Some f
func_in (async l f e) = Some f
func_in c = None

-- the table that it names
abbrev pub table_in : Command → Option (List ℕ)
table_in (read l n t k) = Some t
table_in (write l t k e) = Some t
table_in (condwrite l n t k r o e) = Some t
table_in (lock l t k) = Some t
table_in (unlock l t k) = Some t
table_in c = None

abbrev pub is_break : Command → Bool
is_break (break l) = true
is_break c = false

abbrev pub is_return : Command → Bool
is_return (return l e) = true
is_return c = false

abbrev pub is_transaction : Command → Bool
is_transaction (transaction l b c) = true
is_transaction d = false

abbrev pub is_async : Command → Bool
is_async (async l f e) = true
is_async c = false

abbrev pub is_lock : Command → Bool
is_lock (lock l t k) = true
is_lock (unlock l t k) = true
is_lock c = false

-- where a statement of this function breaks the rule, the name that the refusal gives;
-- `within` says whether a transaction's first block reaches the function by calls
abbrev pub named : Rule → List Func → Func → Bool → Spot → Option (List ℕ)
named Rule.UnknownFunction fs f within s = option_and_then (λ n. some_if (not (has_function fs n)) n) (func_in s.1)
named Rule.UnknownTable fs f within s = option_and_then (λ n. some_if (not (has_table f.tables n)) n) (table_in s.1)
named Rule.BreakOutside fs f within s = some_if (is_break s.1 && not s.0.in_repeat) f.name
named Rule.NestedTx fs f within s = some_if (is_transaction s.1 && s.0.in_transaction) f.name
named Rule.LeavesTx fs f within s = some_if ((is_return s.1 && s.0.in_transaction) || (is_break s.1 && s.0.leaves)) f.name
named Rule.AsyncInTx fs f within s = some_if (is_async s.1 && (s.0.in_transaction || within)) f.name
named Rule.LockInTx fs f within s = some_if (is_lock s.1 && (s.0.in_transaction || within)) f.name

abbrev pub why_of : Rule → List ℕ → Why
why_of Rule.UnknownFunction n = UnknownFunction n
why_of Rule.UnknownTable n = UnknownTable n
why_of Rule.BreakOutside n = BreakOutside n
why_of Rule.NestedTx n = NestedTx n
why_of Rule.LeavesTx n = LeavesTx n
why_of Rule.AsyncInTx n = AsyncInTx n
why_of Rule.LockInTx n = LockInTx n

abbrev pub offence_at : Rule → List Func → Func → Bool → Spot → Option Offence
offence_at r fs f within s = option_map (λ n. (line_at s.1, why_of r n)) (named r fs f within s)

-- the first of these statements that breaks the rule
abbrev pub first_site : Rule → List Func → Func → Bool → List Spot → Option Offence
first_site r fs f within [] = None
first_site r fs f within (s ∷ ss) = option_or (offence_at r fs f within s) (first_site r fs f within ss)

-- the first statement of the functions from number n on that breaks the rule
abbrev pub first_from : Rule → List Func → ℕ → List Func → Option Offence
first_from r fs n [] = None
first_from r fs n (f ∷ gs) = option_or (first_site r fs f (reaches Call fs (blocks fs) n) (sites_of f.body)) (first_from r fs (n + 1) gs)

abbrev pub first_statement : Rule → List Func → Option Offence
first_statement r fs = first_from r fs 0 fs

-- ---- cycles

-- the first function, from number n on, that reaches itself by `call` and `async`
abbrev pub first_cycle : List Func → ℕ → List Func → Option Offence
first_cycle fs n [] = None
first_cycle fs n (f ∷ gs) = if reaches Start fs n n then Some (f.line, CallCycle f.name) else first_cycle fs (n + 1) gs

-- ---- all of them, in their order

abbrev pub first_broken : List Func → List Rule → Option Offence
first_broken fs [] = None
first_broken fs (r ∷ rs) = option_or (first_statement r fs) (first_broken fs rs)

-- the rules that stand before that of cycles, and those after it
abbrev pub rules_of_places : List Rule
rules_of_places = Rule.UnknownFunction ∷ Rule.UnknownTable ∷ Rule.BreakOutside ∷ Rule.NestedTx ∷ Rule.LeavesTx ∷ []

abbrev pub rules_of_transactions : List Rule
rules_of_transactions = Rule.AsyncInTx ∷ Rule.LockInTx ∷ []

abbrev pub first_offence : List Func → Option Offence
first_offence fs =
    option_or (double_name [] fs)
    (option_or (past_most 0 fs)
    (option_or (first_broken fs rules_of_places)
    (option_or (first_cycle fs 0 fs)
    (first_broken fs rules_of_transactions))))

-- every rule holds
abbrev pub IsChecked : Deployment → Type 0
IsChecked d = first_offence d.funcs ≡ None

-- the number of the function of this name, from 1 in the order of the text
abbrev pub number_of : List Func → List ℕ → Option ℕ
number_of fs n = option_map (λ i. i + 1) (func_place fs n)
