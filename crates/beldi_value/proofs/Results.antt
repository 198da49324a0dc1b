-- A fact that holds whatever was answered, and one that follows from what holds of an answer.
use Rattle.beldi_value.proofs.Names.{Err, Ok, OnOk, Result}

pub always : {A E : Type 0} (r : Result A E) (P : Type 0) → P → OnOk r P
always (Ok x) P p = p
always (Err e) P p = tt

pub so : {A E : Type 0} (r : Result A E) (P Q : Type 0) → (P → Q) → OnOk r P → OnOk r Q
so (Ok x) P Q f p = f p
so (Err e) P Q f p = tt
