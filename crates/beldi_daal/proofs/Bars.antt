-- What bars an operation that waits for another owner is that owner.
use Rattle.std.proofs.Common.{◌≡◌, Option, None, Some, refl}
use Rattle.beldi_value.specs.declared.place.Owner.{Owner}
use Rattle.beldi_daal.specs.{declared.walk.WriteOutput.TheVariants.Held, Logged.held_by}

pub free : (o : Option Owner) → held_by o ≡ None → o ≡ None
free None h = refl
free (Some o) h = cc

pub taken : (o : Option Owner) (w : Owner) → held_by o ≡ Some (Held w) → o ≡ Some w
taken None w h = cc
taken (Some o) w h = cc
