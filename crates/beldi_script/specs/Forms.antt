-- The forms in which lines are written: numbers in decimal, with no zero in front; one space before each word but the first.
use Rattle.std.specs.Prelude.{◌≡◌, ◌⊎◌, ℕ, ◌<◌, ◌≤◌, ◌^◌, IsTrue, List, [], ◌++◌, Ok, decimal, codes}
use Rattle.beldi_value.specs.ValueText.{id_text}
use Rattle.beldi_tree.specs.{declared.deployment.Deployment.Deployment}
use Rattle.beldi_script.specs.declared.line.Line.TheVariants.{Blank, Ticket, Request, Turn, Lost, Crash, Restart, Ic, Gc, Sweep, Settle, Tick, Halt, Reply, Rows, Tables, Book}
use Rattle.beldi_script.specs.{declared.line.Line.Line, ScriptLine.func_named, ScriptLine.line_at, ScriptLine.value_at, ScriptText.IsBudget, ScriptText.IsId, ScriptText.IsTimes, ScriptWords.is_blank, ScriptWords.is_word}

-- how often, at the end of a line: where nothing is said, once
abbrev pub SaysTimes : ℕ → List ℕ → Type 0
SaysTimes times rest = ((times ≡ 1) × (rest ≡ [])) ⊎ (IsTimes times × (rest ≡ codes " " ++ decimal times))

-- a word that is the name of the function of this number
pub record Names (code : Deployment) (func : ℕ) (name : List ℕ) : Type 0 where
  pub word : IsTrue (is_word name)
  pub func_is : func_named code.funcs name ≡ Ok func

-- the texts of a line
abbrev pub HasForm : Deployment → Line → List ℕ → Type 0
HasForm code Blank text = IsTrue (is_blank text)
HasForm code Ticket text = text ≡ codes "ticket"
HasForm code (Request ticket func args) text =
    (name : List ℕ) × (json : List ℕ) × (ticket < 2 ^ 32) × Names code func name × (value_at json ≡ Ok args) × (text ≡ codes "request " ++ (decimal ticket ++ (codes " " ++ (name ++ (codes " " ++ json)))))
HasForm code (Turn run times) text = (rest : List ℕ) × (run < 2 ^ 32) × SaysTimes times rest × (text ≡ codes "turn " ++ (decimal run ++ rest))
HasForm code (Lost run) text = (run < 2 ^ 32) × (text ≡ codes "lost " ++ decimal run)
HasForm code (Crash run) text = (run < 2 ^ 32) × (text ≡ codes "crash " ++ decimal run)
HasForm code (Restart id func) text = (name : List ℕ) × IsId id × Names code func name × (text ≡ codes "restart " ++ (id_text id ++ (codes " " ++ name)))
HasForm code (Ic times) text = (rest : List ℕ) × SaysTimes times rest × (text ≡ codes "ic" ++ rest)
HasForm code (Gc k times) text = (rest : List ℕ) × (k ≤ 7) × SaysTimes times rest × (text ≡ codes "gc " ++ (decimal k ++ rest))
HasForm code (Sweep k budget) text = (k ≤ 7) × IsBudget budget × (text ≡ codes "sweep " ++ (decimal k ++ (codes " " ++ decimal budget)))
HasForm code (Settle budget) text = IsBudget budget × (text ≡ codes "settle " ++ decimal budget)
HasForm code (Tick by) text = (by ≤ 4294967297) × (text ≡ codes "tick " ++ decimal by)
HasForm code Halt text = text ≡ codes "halt"
HasForm code (Reply ticket) text = (ticket < 2 ^ 32) × (text ≡ codes "reply " ++ decimal ticket)
HasForm code Rows text = text ≡ codes "rows"
HasForm code Tables text = text ≡ codes "tables"
HasForm code Book text = text ≡ codes "book"

-- a text is read as a line just where it has one of the line's forms
pub record IsJustForm (code : Deployment) (line : Line) (text : List ℕ) : Type 0 where
  pub formed : line_at code text ≡ Ok line → HasForm code line text
  pub read : HasForm code line text → line_at code text ≡ Ok line

abbrev pub LinesHaveForms : Type 0
LinesHaveForms = (code : Deployment) (line : Line) (text : List ℕ) → IsJustForm code line text
