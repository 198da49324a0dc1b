-- A sweep of a log collector, over rows alone: turn after turn, until one ends the round. Nobody else acts meanwhile, and the moment stands.
use Rattle.std.specs.Prelude.{◌≡◌, ℕ, zero, suc, Bool, true, false}
use Rattle.beldi_row.specs.Table.{Rows}
use Rattle.beldi_prune.specs.{PruneLaws.rows_turned, PruneLaws.told, PruneLaws.turned, Prune.prune_output}
use Rattle.beldi_prune.specs.declared.collector.{LogCollector.LogCollector, GcOutput.GcOutput, GcOutput.TheVariants.Round}

pub record Sweep : Type 0 where
  pub collector : LogCollector
  pub rows : Rows

abbrev pub after_turn : ℕ → ℕ → ℕ → Sweep → Sweep
after_turn newest life now s = record { collector = turned newest life now s.collector s.rows; rows = rows_turned life now s.collector s.rows }

-- whether the next turn ends the round
abbrev pub is_round : GcOutput → Bool
is_round Round = true
is_round s = false

abbrev pub is_last_turn : ℕ → ℕ → Sweep → Bool
is_last_turn life now s = is_round (prune_output s.collector (told life now s.collector s.rows))

-- so many turns lead there, and none of them ends the round
abbrev pub GoesTo : ℕ → ℕ → ℕ → ℕ → Sweep → Sweep → Type 0
GoesTo newest life now zero s t = t ≡ s
GoesTo newest life now (suc n) s t = (is_last_turn life now s ≡ false) × GoesTo newest life now n (after_turn newest life now s) t

-- .. and the one after these does
pub record EndsAt (newest life now turns : ℕ) (s t : Sweep) : Type 0 where
  pub before : Sweep
  pub path : GoesTo newest life now turns s before
  pub last : is_last_turn life now before ≡ true
  pub done : t ≡ after_turn newest life now before
