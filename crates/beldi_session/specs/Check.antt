-- What `check` says of a source.
use Rattle.std.specs.Prelude.{ℕ, ◌+◌, List, [], ◌∷◌, ◌++◌, length, Result, Ok, Err, codes}
use Rattle.std.specs.Fmt.{decimal}
use Rattle.beldi_tree.specs.declared.deployment.Deployment.{Deployment}
use Rattle.beldi_script.specs.declared.line.Line.{Line, TheVariants.Blank}
use Rattle.beldi_session.specs.{declared.refusal.Refusal.Refusal, declared.source.Accepted.Accepted, Source.Numbered, Source.said_at, Source.script_of, Source.source_at}

-- a line that is neither blank nor a comment counts
abbrev pub with_line : ℕ → Line → ℕ
with_line n Blank = n
with_line n l = n + 1

abbrev pub counted_on : ℕ → Result Line Refusal → (ℕ → Result ℕ Refusal) → Result ℕ Refusal
counted_on n (Ok said) go = go (with_line n said)
counted_on n (Err x) go = Err x

-- how many lines count, past n; or the first refusal
abbrev pub counted : Deployment → ℕ → List Numbered → Result ℕ Refusal
counted d n [] = Ok n
counted d n (l ∷ ls) = counted_on n (said_at d l) (λ m. counted d m ls)

-- `ok F functions L lines`, as a line
abbrev pub tested_text : ℕ → ℕ → List ℕ
tested_text functions lines = codes "ok " ++ (decimal functions ++ (codes " functions " ++ (decimal lines ++ codes " lines\n")))

abbrev pub tested : Deployment → Result ℕ Refusal → Result (List ℕ) Refusal
tested d (Ok n) = Ok (tested_text (length d.funcs) n)
tested d (Err x) = Err x

abbrev pub check_by : List ℕ → Result Accepted Refusal → Result (List ℕ) Refusal
check_by bytes (Ok p) = tested p.code (counted p.code 0 (script_of bytes p))
check_by bytes (Err x) = Err x

-- the text of a source without a fault, or its first refusal: of the deployment, or else of a line
abbrev pub check_at : List ℕ → Result (List ℕ) Refusal
check_at bytes = check_by bytes (source_at bytes)
