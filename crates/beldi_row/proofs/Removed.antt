-- Acts that may remove a row, and all others.
use Rattle.std.proofs.Common.{◌≡◌, ℕ, true, false, None, Some, refl, ap}
use Rattle.beldi_row.specs.{declared.row.Row.Row, declared.act.Act.Act, Act.act, Act.on, Act.off, Act.drops, Act.prunes, Act.removes, Act.removed_reply, Act.stays, Act.stays_unless}

-- an act of no log collector removes none
pub spares : (a : Act) → prunes a ≡ false → drops a ≡ false
spares Act.MarkCell h = refl
spares (Act.SkipCell f t) h = refl
spares Act.DangleCell h = refl
spares a h = h

pub not_removed : (a : Act) (now : ℕ) (r : Row) → drops a ≡ false → removes a now r ≡ false
not_removed (Act.DropIntent l) now r h = cc
not_removed Act.DropRow now r h = cc
not_removed (Act.DropCell l) now r h = cc
not_removed a now r h = refl

-- an act that removes no row leaves the one that it finds, as it says
pub act_stays : (a : Act) (now : ℕ) (r : Row) → drops a ≡ false → act a now (Some r) ≡ stays (on a now r)
act_stays a now r h = ap (λ b. stays_unless b (on a now r)) (not_removed a now r h)

-- one that may remove rows changes none, and says whether it removes this one
pub act_drops : (a : Act) (now : ℕ) (r : Row) → drops a ≡ true → act a now (Some r) ≡ stays_unless (removes a now r) (r, removed_reply (removes a now r))
act_drops (Act.DropIntent l) now r h = refl
act_drops Act.DropRow now r h = refl
act_drops (Act.DropCell l) now r h = refl
act_drops a now r h = cc

-- .. and makes none
pub drops_none : (a : Act) (now : ℕ) → drops a ≡ true → (off a now).0 ≡ None
drops_none (Act.DropIntent l) now h = refl
drops_none Act.DropRow now h = refl
drops_none (Act.DropCell l) now h = refl
drops_none a now h = cc
