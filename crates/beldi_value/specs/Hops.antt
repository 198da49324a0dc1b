-- Hops, wherever they lie.
use Rattle.std.specs.Prelude.{ℕ, List, [], Option, Some, None}
use Rattle.std.specs.Rc.{rc_slice_items}
use Rattle.std.specs.declared.rc.RcSlice.{RcSlice}

-- the steps
abbrev pub steps_in : {A : Type 0} → Option (RcSlice ℕ A) → List ℕ
steps_in None = []
steps_in (Some it) = rc_slice_items it
