-- What a source says: where and why it is refused, or a deployment and the lines of a script.
use Rattle.std.specs.Prelude.{◌≡◌, ℕ, ◌+◌, ◌-◌, ◌^◌, min, List, [], ◌∷◌, drop, Option, Some, None, Result, Ok, Err, if◌then◌else◌}
use Rattle.beldi_tree.specs.declared.deployment.Deployment.{Deployment}
use Rattle.beldi_check.specs.Rules.{Offence, first_offence}
use Rattle.std.specs.List.{list_all}
use Rattle.beldi_script.specs.{LineCut.lines_of, ScriptLine.line_at, ScriptWords.is_space, declared.line.Line.Line, declared.line.ScriptErr.ScriptErr}
use Rattle.beldi_syntax.specs.{Deployments.parsed_at, declared.reading.Parsed.Parsed, declared.refusal.SyntaxErr.SyntaxErr, declared.refusal.What.What}
use Rattle.beldi_session.specs.declared.{source.Accepted.Accepted, refusal.Cause.Cause, refusal.Refusal.Refusal, refusal.SourceErr.SourceErr, refusal.SourceErr.TheVariants.OutOfMemory, refusal.SourceErr.TheVariants.Refused}

abbrev pub refusal_at : Cause → ℕ → Refusal
refusal_at c n = record { line = n; cause = c }

-- ---- the deployment
abbrev pub refusal_by : Option Offence → Option Refusal
refusal_by None = None
refusal_by (Some o) = Some (refusal_at (Cause.Rule o.1) o.0)

-- the first rule that it breaks
abbrev pub refusal_in : Deployment → Option Refusal
refusal_in d = refusal_by (first_offence d.funcs)

abbrev pub accepted : {A : Type 0} → A → Option Refusal → Result A Refusal
accepted a None = Ok a
accepted a (Some r) = Err r

abbrev pub accepted_of : Parsed → Accepted
accepted_of p = record { code = p.code; rest = p.rest; line = p.line }

-- a text is never read as out of memory
abbrev pub source_by : Result Parsed SyntaxErr → Result Accepted Refusal
source_by (Ok p) = accepted (accepted_of p) (refusal_in p.code)
source_by (Err (SyntaxErr.Refused n w)) = Err (refusal_at (Cause.Syntax w) n)
source_by (Err SyntaxErr.OutOfMemory) = Err (refusal_at (Cause.Syntax What.Syntax) 1)

-- what a source says before its script: a deployment that was read and keeps every rule, or a refusal
abbrev pub source_at : List ℕ → Result Accepted Refusal
source_at bytes = source_by (parsed_at bytes)

-- ---- the script
-- a line, with its number in the source
abbrev pub Numbered : Type 0
Numbered = ℕ × List ℕ

-- the number of the line after, where one past the last number of 32 bits is told as that
abbrev pub next : ℕ → ℕ
next n = min (n + 1) (2 ^ 32 - 1)

-- lines that are numbered from n on
abbrev pub numbered : ℕ → List (List ℕ) → List Numbered
numbered n [] = []
numbered n (l ∷ ls) = (n, l) ∷ numbered (next n) ls

-- the lines of a source after its deployment
abbrev pub script_of : List ℕ → Accepted → List Numbered
script_of bytes p = numbered p.line (lines_of (drop p.rest bytes))

-- a line is never read as out of memory
abbrev pub cause_of : ScriptErr → Cause
cause_of ScriptErr.OutOfMemory = Cause.BadLine
cause_of ScriptErr.BadLine = Cause.BadLine
cause_of (ScriptErr.UnknownFunction n) = Cause.UnknownFunction n
cause_of ScriptErr.BadValue = Cause.BadValue

abbrev pub said_by : ℕ → Result Line ScriptErr → Result Line Refusal
said_by n (Ok l) = Ok l
said_by n (Err e) = Err (refusal_at (cause_of e) n)

-- what a line says, or its refusal
abbrev pub said_at : Deployment → Numbered → Result Line Refusal
said_at d l = said_by l.0 (line_at d l.1)

-- ---- a source that is to have no script
-- the refusal of the first line that has more than spaces and tabs
abbrev pub first_line : List Numbered → Option Refusal
first_line [] = None
first_line (l ∷ ls) = if list_all is_space l.1 then first_line ls else Some (refusal_at Cause.BadLine l.0)

-- ---- reading
-- read as this, and refused exactly where that is refused
abbrev pub ReadsAs : {A : Type 0} → Result A Refusal → Result A SourceErr → Type 0
ReadsAs r (Ok a) = r ≡ Ok a
ReadsAs r (Err OutOfMemory) = Unit {0}
ReadsAs r (Err (Refused x)) = r ≡ Err x
