-- The text of a refusal.
use Rattle.std.specs.Prelude.{ℕ, List, ◌++◌, codes}
use Rattle.std.specs.Fmt.{decimal}
use Rattle.beldi_check.specs.declared.why.Why.{Why}
use Rattle.beldi_syntax.specs.declared.refusal.What.{What}
use Rattle.beldi_session.specs.declared.refusal.{Cause.Cause, Refusal.Refusal}

abbrev pub syntax_text : What → List ℕ
syntax_text What.Utf8 = codes "utf8"
syntax_text What.Syntax = codes "syntax"
syntax_text What.Number = codes "number"
syntax_text What.TooDeep = codes "too-deep"
syntax_text What.TooLarge = codes "too-large"

abbrev pub rule_text : Why → List ℕ
rule_text (Why.UnknownFunction n) = codes "unknown-function " ++ n
rule_text (Why.UnknownTable n) = codes "unknown-table " ++ n
rule_text (Why.Duplicate n) = codes "duplicate " ++ n
rule_text Why.TooMany = codes "too-many"
rule_text (Why.BreakOutside n) = codes "break-outside " ++ n
rule_text (Why.NestedTx n) = codes "nested-tx " ++ n
rule_text (Why.LeavesTx n) = codes "leaves-tx " ++ n
rule_text (Why.CallCycle n) = codes "call-cycle " ++ n
rule_text (Why.AsyncInTx n) = codes "async-in-tx " ++ n
rule_text (Why.LockInTx n) = codes "lock-in-tx " ++ n

abbrev pub cause_text : Cause → List ℕ
cause_text (Cause.Syntax w) = syntax_text w
cause_text (Cause.Rule w) = rule_text w
cause_text Cause.BadLine = codes "line"
cause_text (Cause.UnknownFunction n) = codes "unknown-function " ++ n
cause_text Cause.BadValue = codes "value"

-- `refused line N: `
abbrev pub place_text : ℕ → List ℕ
place_text n = codes "refused line " ++ (decimal n ++ codes ": ")

-- `refused line N: WHAT`, as a line
abbrev pub refusal_text : Refusal → List ℕ
refusal_text r = place_text r.line ++ (cause_text r.cause ++ codes "\n")
