-- Who frees a lock holds it, and who returns holds none.
use Rattle.std.specs.Prelude.{◌≡◌, ℕ, false, true, List, Some}
use Rattle.beldi_value.specs.declared.outcome.Outcome.{Outcome}
use Rattle.beldi_tree.specs.declared.deployment.Deployment.{Deployment}
use Rattle.beldi_lang.specs.declared.effect.Effect.{Effect}
use Rattle.beldi_plain.specs.{Holds.holds, Item.Item, Plain.Instance, Plain.effect_of, Plain.item_of}

-- an instance that stands at an Unlock holds the lock of its item, whatever it was answered
abbrev pub FreesWhatItHolds : Type 0
FreesWhatItHolds = (d : Deployment) (q : Instance) (t : ℕ) (k : List ℕ) → effect_of d q ≡ Effect.Unlock t k → holds d (item_of q t k) (Some q) ≡ true

-- one that stands at its Return holds no lock, whatever it was answered
abbrev pub ReturnsHoldNone : Type 0
ReturnsHoldNone = (d : Deployment) (q : Instance) (o : Outcome) → effect_of d q ≡ Effect.Return o → (x : Item) → holds d x (Some q) ≡ false
