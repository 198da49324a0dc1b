use Rattle.beldi_value.proofs.Names.{take, ◌≡◌}
use Rattle.arrayvec.specs.ArrayVec.{array_vec_len}
use Rattle.beldi_value.proofs.id_buf.fill.Given as goal

abbrev pub invariant-loop-step : goal.invariant-loop-step
invariant-loop-step l = (array_vec_len l.room ≡ l.step-index) × (l.room.items ≡ take l.step-index l.steps)
