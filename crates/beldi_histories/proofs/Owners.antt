-- Who may own an item that an operation of an intent, or its read, gets past.
use Rattle.beldi_row.proofs.Logs.{id_same}
use Rattle.beldi_daal.specs.Logged.{held_by}
use Rattle.beldi_histories.proofs.Names.{CellOp, Free, Intent, IntentId, IsOther, None, Option, Owner, Some, Tx, ap, barred, false, false_from_ne_true, id_cmp, id_eq, id_self, id_total, if◌then◌else◌, inl, inr, is_eq, is_owner, other_owner, owner_eq, owns, refl, sym, tied_itself, true, unless_owned, ◌∙◌, ◌≡◌, ◌⊎◌}

-- nobody owns it, or the intent does
abbrev pub IsFreeFor : IntentId → Option Owner → Type 0
IsFreeFor id was = (was ≡ None) ⊎ (was ≡ Some (Intent id))

owner_same : (id : IntentId) (w : Owner) → owner_eq w (Intent id) ≡ true → Some w ≡ Some (Intent id)
owner_same id (Intent j) h = ap (λ z. Some (Intent z)) (id_same j id h)
owner_same id (Tx t) h = cc

-- where no other owner is in the way
pub unowned : (id : IntentId) (was : Option Owner) → other_owner (Intent id) was ≡ None → IsFreeFor id was
unowned id None h = inl refl
unowned id (Some w) h = inr (elim (owner_eq w (Intent id)) as (λ b. owner_eq w (Intent id) ≡ b → (if b then None else Some w) ≡ None → Some w ≡ Some (Intent id)) [
  | true ↦ λ e g. owner_same id w e
  | false ↦ λ e g. cc
] refl h)

unheld_none : (o : Option Owner) → held_by o ≡ None → o ≡ None
unheld_none None h = refl
unheld_none (Some o) h = cc

-- where the intent owns it
pub owned : (id : IntentId) (was : Option Owner) → unless_owned (owns (Intent id) was) ≡ None → was ≡ Some (Intent id)
owned id None h = cc
owned id (Some w) h = elim (owner_eq w (Intent id)) as (λ b. owner_eq w (Intent id) ≡ b → unless_owned b ≡ None → Some w ≡ Some (Intent id)) [
  | true ↦ λ e g. owner_same id w e
  | false ↦ λ e g. cc
] refl h

pub unbarred : (op : CellOp) (id : IntentId) (was : Option Owner) → barred op (Intent id) was ≡ None → IsFreeFor id was
unbarred (Free v) id was h = inr (owned id was h)
unbarred op id was h = unowned id was (unheld_none (other_owner (Intent id) was) h)

-- then no other intent does
pub nobody_else : (id : IntentId) (was : Option Owner) → IsFreeFor id was → (j : IntentId) → is_owner was (Intent j) ≡ true → j ≡ id
nobody_else id was (inl is) j h = let clash = sym (ap (λ o. is_owner o (Intent j)) is) ∙ h in cc
nobody_else id was (inr is) j h = sym (id_same id j (sym (ap (λ o. is_owner o (Intent j)) is) ∙ h))

-- nor any other owner
pub not_hers : (id : IntentId) (was : Option Owner) → IsFreeFor id was → (who : Owner) → IsOther id who → is_owner was who ≡ false
not_hers id was (inl is) who other = ap (λ o. is_owner o who) is
not_hers id was (inr is) (Tx t) other = ap (λ o. is_owner o (Tx t)) is
not_hers id was (inr is) (Intent j) other = ap (λ o. is_owner o (Intent j)) is ∙ false_from_ne_true (id_eq id j) (λ e.
    let clash = sym (ap is_eq (tied_itself id_total id)) ∙ ap (λ z. is_eq (id_cmp z id)) (id_same id j e) ∙ other in cc)

pub her_own : (id : IntentId) → is_owner (Some (Intent id)) (Intent id) ≡ true
her_own id = id_self id
