-- The text of a line, and which lines are read again.
use Rattle.std.specs.Prelude.{◌≡◌, ℕ, ◌<◌, ◌≤◌, ◌^◌, IsTrue, List, [], ◌++◌, length, Some, Ok, decimal, codes}
use Rattle.std.specs.List.{AllByRecursion}
use Rattle.beldi_value.specs.{Datum.Datum, Formed.IsFormed, Json.text_of, Limits.is_within, ValueText.id_text, Value.datum_of, declared.id.IntentId.IntentId}
use Rattle.beldi_tree.specs.{declared.deployment.Deployment.Deployment, declared.deployment.Func.Func, Names.func_text, Names.func_at}
use Rattle.beldi_script.specs.declared.line.Line.TheVariants.{Blank, Ticket, Request, Turn, Lost, Crash, Restart, Ic, Gc, Sweep, Settle, Tick, Halt, Reply, Rows, Tables, Book}
use Rattle.beldi_script.specs.{declared.line.Line.Line, ScriptLine.line_at, ScriptWords.is_word}

-- a line as it is written: a blank one is empty, and how often is always said
abbrev pub line_text : Deployment → Line → List ℕ
line_text code Blank = []
line_text code Ticket = codes "ticket"
line_text code (Request ticket func args) = codes "request " ++ (decimal ticket ++ (codes " " ++ (func_text code func ++ (codes " " ++ text_of (datum_of args)))))
line_text code (Turn run times) = codes "turn " ++ (decimal run ++ (codes " " ++ decimal times))
line_text code (Lost run) = codes "lost " ++ decimal run
line_text code (Crash run) = codes "crash " ++ decimal run
line_text code (Restart id func) = codes "restart " ++ (id_text id ++ (codes " " ++ func_text code func))
line_text code (Ic times) = codes "ic " ++ decimal times
line_text code (Gc k times) = codes "gc " ++ (decimal k ++ (codes " " ++ decimal times))
line_text code (Sweep k budget) = codes "sweep " ++ (decimal k ++ (codes " " ++ decimal budget))
line_text code (Settle budget) = codes "settle " ++ decimal budget
line_text code (Tick by) = codes "tick " ++ decimal by
line_text code Halt = codes "halt"
line_text code (Reply ticket) = codes "reply " ++ decimal ticket
line_text code Rows = codes "rows"
line_text code Tables = codes "tables"
line_text code Book = codes "book"

-- the names of the functions are words, and differ
pub record AreNamed (code : Deployment) : Type 0 where
  pub words : (n : ℕ) (f : Func) → func_at code n ≡ Some f → IsTrue (is_word f.name)
  pub differ : (m n : ℕ) (f g : Func) → func_at code m ≡ Some f → func_at code n ≡ Some g → f.name ≡ g.name → m ≡ n

-- a number of a function that the deployment has
abbrev pub IsFunc : Deployment → ℕ → Type 0
IsFunc code n = (n < 2 ^ 16) × ((f : Func) × (func_at code n ≡ Some f))

-- an id's ticket is not 0, and it and the steps have 32 bits
pub record IsId (id : IntentId) : Type 0 where
  pub some : 0 < id.ticket
  pub small : id.ticket < 2 ^ 32
  pub steps : AllByRecursion (λ h. h < 2 ^ 32) id.hops
  pub few : length id.hops ≤ 63

-- a value that the types of values can hold, within the limits
abbrev pub IsValue : Datum → Type 0
IsValue d = IsFormed d × IsTrue (is_within d)

abbrev pub IsTimes : ℕ → Type 0
IsTimes n = (0 < n) × (n ≤ 1000)

abbrev pub IsBudget : ℕ → Type 0
IsBudget n = (0 < n) × (n ≤ 4000000000)

-- what a line says is within the limits of its form
abbrev pub IsProper : Deployment → Line → Type 0
IsProper code Blank = Unit {0}
IsProper code Ticket = Unit {0}
IsProper code (Request ticket func args) = (ticket < 2 ^ 32) × IsFunc code func × IsValue (datum_of args)
IsProper code (Turn run times) = (run < 2 ^ 32) × IsTimes times
IsProper code (Lost run) = run < 2 ^ 32
IsProper code (Crash run) = run < 2 ^ 32
IsProper code (Restart id func) = IsId id × IsFunc code func
IsProper code (Ic times) = IsTimes times
IsProper code (Gc k times) = (k ≤ 7) × IsTimes times
IsProper code (Sweep k budget) = (k ≤ 7) × IsBudget budget
IsProper code (Settle budget) = IsBudget budget
IsProper code (Tick by) = by ≤ 4294967297
IsProper code Halt = Unit {0}
IsProper code (Reply ticket) = ticket < 2 ^ 32
IsProper code Rows = Unit {0}
IsProper code Tables = Unit {0}
IsProper code Book = Unit {0}

-- a line that was written is read as it was
abbrev pub LineIsReadAgain : Type 0
LineIsReadAgain = (code : Deployment) (line : Line) → AreNamed code → IsProper code line → line_at code (line_text code line) ≡ Ok line
