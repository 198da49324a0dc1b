-- What is read of a chain, from row to row.
use Rattle.std.specs.Prelude.{◌≡◌, ℕ, Option, Some, None}
use Rattle.beldi_row.specs.{declared.row.Row.Row, declared.row.Row.TheVariants.Cell}
use Rattle.beldi_chain.specs.Chain.{Chain, above, next_of, tail}
use Rattle.beldi_host.specs.declared.last_row.{Held.Held, RowStep.RowStep, RowStep.TheVariants.Next, RowStep.TheVariants.Last}

-- what a row holds, if it is a cell
abbrev pub held_at : Option Row → Option Held
held_at (Some (Cell c)) = Some (record { owner = c.owner; value = c.value })
held_at r = None

abbrev pub row_step_of : Option Row → Option ℕ → RowStep
row_step_of r None = Last (held_at r)
row_step_of r (Some n) = Next n

-- what the row of a number tells: the row after it, or what it holds as the last one
abbrev pub row_step : ℕ → Option Row → RowStep
row_step n r = row_step_of r (above n (next_of r))

-- what the last row of a chain holds
abbrev pub IsLast : Chain → Option Held → Type 0
IsLast f h = h ≡ held_at (tail f)
