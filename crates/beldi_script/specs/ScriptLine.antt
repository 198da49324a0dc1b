-- What a line of a script says, or why it is refused: it has none of the forms, no function has the name that stands there,
-- or the JSON is no value. The first cause in this order counts.
use Rattle.std.specs.Prelude.{◌≡◌, ℕ, List, Option, Some, None, Result, Ok, Err, ok_or, codes, if◌then◌else◌}
use Rattle.beldi_value.specs.{declared.value.Value.Value, declared.read.ValueErr.ValueErr, ByteCut.before, ByteCut.after, Datum.Datum, IdAt.id_at, Injective.value_of, ValueReading.read_of}
use Rattle.beldi_tree.specs.{declared.deployment.Deployment.Deployment, declared.deployment.Func.Func, Bindings.is_name}
use Rattle.beldi_check.specs.Rules.{number_of}
use Rattle.beldi_script.specs.{declared.line.Line.Line, declared.line.Line.TheVariants.Blank, declared.line.Line.TheVariants.Request, declared.line.Line.TheVariants.Restart, declared.line.ScriptErr.ScriptErr, declared.line.ScriptErr.TheVariants.OutOfMemory, declared.line.ScriptErr.TheVariants.BadLine, declared.line.ScriptErr.TheVariants.UnknownFunction, declared.line.ScriptErr.TheVariants.BadValue, ScriptWords.is_blank, ScriptWords.name_at, ScriptWords.small_at, ScriptWords.alone, ScriptWords.counted}

-- `?`
infixl 10 ◌>>=◌
abbrev pub ◌>>=◌ : {A B : Type 0} → Result A ScriptErr → (A → Result B ScriptErr) → Result B ScriptErr
Ok a >>= f = f a
Err e >>= f = Err e

-- the line has the form, or is a bad line
abbrev pub formed : {A : Type 0} → Option A → Result A ScriptErr
formed o = ok_or o BadLine

-- the number of a function, if there is one of this name
abbrev pub number_or : List ℕ → Option ℕ → Result ℕ ScriptErr
number_or name None = Err (UnknownFunction name)
number_or name (Some n) = Ok n

-- the number of the function of this name
abbrev pub func_named : List Func → List ℕ → Result ℕ ScriptErr
func_named fs name = number_or name (number_of fs name)

abbrev pub value_or : Result Datum ValueErr → Result Value ScriptErr
value_or (Ok d) = Ok (value_of d)
value_or (Err e) = Err BadValue

-- the value that this is in JSON
abbrev pub value_at : List ℕ → Result Value ScriptErr
value_at json = value_or (read_of json)

-- `T F JSON`: a ticket, a function's name, and all the rest of the line
abbrev pub request_at : Deployment → List ℕ → Result Line ScriptErr
request_at code words = do
  more ← formed (after 32 words)
  json ← formed (after 32 more)
  ticket ← formed (small_at (before 32 words))
  name ← formed (name_at (before 32 more))
  func ← func_named code.funcs name
  args ← value_at json
  Ok (Request ticket func args)

-- `ID F`: an intent's id and a function's name
abbrev pub restart_at : Deployment → List ℕ → Result Line ScriptErr
restart_at code words = do
  last ← formed (after 32 words)
  name ← formed (name_at last)
  id ← formed (id_at (before 32 words))
  func ← func_named code.funcs name
  Ok (Restart id func)

-- a line of a word and more
abbrev pub called : Deployment → List ℕ → List ℕ → Result Line ScriptErr
called code word words =
    if is_name word (codes "request") then request_at code words else
    if is_name word (codes "restart") then restart_at code words else
    formed (counted word words)

-- by the first word and those after it
abbrev pub said : Deployment → List ℕ → Option (List ℕ) → Result Line ScriptErr
said code word None = formed (alone word)
said code word (Some words) = called code word words

-- what a line says, or why it says nothing
abbrev pub line_at : Deployment → List ℕ → Result Line ScriptErr
line_at code line = if is_blank line then Ok Blank else said code (before 32 line) (after 32 line)

-- this is answered, unless out of memory
abbrev pub Refuses : {A : Type 0} → Result A ScriptErr → ScriptErr → Type 0
Refuses r OutOfMemory = Unit {0}
Refuses r BadLine = r ≡ Err BadLine
Refuses r (UnknownFunction name) = r ≡ Err (UnknownFunction name)
Refuses r BadValue = r ≡ Err BadValue

abbrev pub Reads : {A : Type 0} → Result A ScriptErr → Result A ScriptErr → Type 0
Reads r (Ok a) = r ≡ Ok a
Reads r (Err e) = Refuses r e
