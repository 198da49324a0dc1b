-- What an operation on an item does to its cell: as the walk of an intent does it.
use Rattle.beldi_plain.specs.Operation.{lock}
use Rattle.beldi_histories.proofs.Names.{Bool, CellOp, IntentId, IsOther, None, Operation, Option, Owner, Some, Value, answer_after, barred, cell_of, false, free, held_by, if◌then◌else◌, inr, is_owner, note_after, noted, or_old, owner_after, passes, refl, sets, sym, true, value_after, write, ◌∙◌, ◌≡◌}
use Rattle.beldi_histories.proofs.Owners.{unbarred, not_hers, her_own}
use Rattle.beldi_histories.proofs.Names.operation

-- a value that is set, or stays
pub kept_or : (b : Bool) (v w : Value) → or_old (if b then Some v else None) w ≡ (if b then v else w)
kept_or true v w = refl
kept_or false v w = refl

-- what an operation on cells leaves is what the plain operation leaves
pub record Does (o : Operation) (op : CellOp) : Type 0 where
  pub value : (w : Value) → or_old (sets o w) w ≡ value_after op w
  pub note : (w : Value) → noted o (answer_after o w) ≡ Some (note_after op w)
  pub own : (id : IntentId) (was : Option Owner) → barred op (Owner.Intent id) was ≡ None → is_owner (owner_after op (Owner.Intent id) was) (Owner.Intent id) ≡ held_by o (is_owner was (Owner.Intent id))
  pub others : (id : IntentId) (was : Option Owner) → barred op (Owner.Intent id) was ≡ None → (who : Owner) → IsOther id who → is_owner (owner_after op (Owner.Intent id) was) who ≡ is_owner was who

pub does_so : (o : Operation) → Does o (cell_of o)
does_so (write v) = record { value = λ w. refl; note = λ w. refl; own = λ id was free. refl; others = λ id was free who other. refl }
does_so (operation.cond r u v) = record { value = λ w. kept_or (passes w r u) v w; note = λ w. refl; own = λ id was free. refl; others = λ id was free who other. refl }
does_so lock = record {
  value = λ w. refl;
  note = λ w. refl;
  own = λ id was free. her_own id;
  others = λ id was free who other. not_hers id (Some (Owner.Intent id)) (inr refl) who other ∙ sym (not_hers id was (unbarred CellOp.Lock id was free) who other);
}
does_so free = record { value = λ w. refl; note = λ w. refl; own = λ id was free. refl; others = λ id was free who other. sym (not_hers id was (unbarred (CellOp.Free None) id was free) who other) }
