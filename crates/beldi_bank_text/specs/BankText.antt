-- What the source of generated work says: the bank, and transfers.
use Rattle.std.specs.Prelude.{◌≡◌, ℕ, ◌<◌, ◌^◌, true, List, [], ◌∷◌, ◌++◌, length, Ok}
use Rattle.std.specs.List.{AllByRecursion}
use Rattle.beldi_step.specs.declared.event.Event.{Event}
use Rattle.beldi_syntax.specs.Deployments.{parsed_at}
use Rattle.beldi_generator.specs.Generated.{bank, generated}
use Rattle.beldi_bank.specs.Bank.{bank_code, IsTransfer}
use Rattle.beldi_session.specs.{Script.Action, Script.Carry, Script.ListBook, Script.ListTables, Script.Settle, Script.actions_in, Script.is_whole, Source.script_of, Source.source_at, declared.source.Accepted.Accepted}

-- with a script below it
abbrev pub TextIsTheBank : Type 0
TextIsTheBank = (script : List ℕ) → parsed_at (bank ++ script) ≡ Ok (record { code = bank_code; rest = length bank; line = 6 })

-- ---- a source that is generated
-- the bank, which keeps every rule, and a script from its sixth line on
abbrev pub bank_source : Accepted
bank_source = record { code = bank_code; rest = length bank; line = 6 }

abbrev pub GeneratedIsTheBank : Type 0
GeneratedIsTheBank = (seed requests : ℕ) → source_at (generated seed requests) ≡ Ok bank_source

-- ---- what generated work carries out: events, of which each request is for a transfer, and settlings; the bank's function is the first
abbrev pub IsWork : Action → Type 0
IsWork (Carry (Event.Request ticket func args)) = (func ≡ 1) × IsTransfer args
IsWork (Carry event) = Unit {0}
IsWork (Settle budget standing) = Unit {0}
IsWork action = ⊥

abbrev pub AreWork : List Action → Type 0
AreWork actions = AllByRecursion IsWork actions

-- work, and then the last listings
abbrev pub IsWorkThenListings : List Action → Type 0
IsWorkThenListings actions = (front : List Action) × (actions ≡ front ++ ListTables ∷ ListBook ∷ []) × AreWork front

-- a script of which no line is refused is such work, and then the last listings
abbrev pub GeneratedIsWork : Type 0
GeneratedIsWork = (seed requests : ℕ) → requests < 2 ^ 31 → is_whole bank_code (script_of (generated seed requests) bank_source) ≡ true
    → IsWorkThenListings (actions_in bank_code (script_of (generated seed requests) bank_source))
