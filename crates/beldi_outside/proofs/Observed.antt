-- What is told, over several calls.
use Rattle.std.proofs.Common.{Option, None, Some, IfSome}
use Rattle.beldi_outside.specs.Outside.{Observed}

-- nothing happened
pub told_same : {A : Type 0} (P : A → A → Type 0) (o : Option A) → ((x : A) → P x x) → Observed o o P
told_same P None f = tt
told_same P (Some x) f = f x

-- one thing and then another
pub told_then : {A : Type 0} {P Q R : A → A → Type 0} (a b c : Option A) → ((x y z : A) → P x y → Q y z → R x z) → Observed a b P → Observed b c Q → Observed a c R
told_then None b c f p q = tt
told_then (Some x) None c f p q = absurd p
told_then (Some x) (Some y) None f p q = absurd q
told_then (Some x) (Some y) (Some z) f p q = f x y z p q

-- the same in other words
pub told_map : {A : Type 0} {P Q : A → A → Type 0} (a b : Option A) → ((x y : A) → P x y → Q x y) → Observed a b P → Observed a b Q
told_map None b f p = tt
told_map (Some x) None f p = absurd p
told_map (Some x) (Some y) f p = f x y p

-- what is so of every value is so of one that is told
pub for_some : {A : Type 0} {P : A → Type 0} (o : Option A) → ((x : A) → P x) → IfSome o P
for_some None f = tt
for_some (Some x) f = f x
