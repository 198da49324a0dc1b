-- What an operation does to one cell, and tells of it.
use Rattle.std.proofs.Common.{◌≡◌, ℕ, Bool, true, false, if◌then◌else◌, eqb-true, length, Option, None, Some, refl, ap, ◌∙◌}
use Rattle.beldi_value.specs.{declared.id.IntentId.IntentId, declared.place.Owner.Owner, Id.age_of, Id.is_older, declared.place.Place.Place, declared.place.TxId.TxId, Passes.passes}
use Rattle.beldi_row.specs.Act.{ActReply, act, did, held, died, noted, next, no_row, not_owner, packed, tested, other_owner, owns, noted_or, next_or, held_or, owned_or, at_tail, unless_held, if_owned, if_room, is_full, entered}
use Rattle.beldi_row.specs.{declared.notes.Note.Note, declared.notes.Note.TheVariants.Died, declared.row.Cell.Cell, declared.row.Row.Row, Log.most_entries, Log.note_at}
use Rattle.beldi_query.specs.Query.{replied}
use Rattle.beldi_daal.specs.{Cell.op_act, Cell.done_note, Cell.write_goes, Logged.note_after, Logged.value_after, Logged.owner_after, Logged.waited, Logged.died_of, Logged.dies, Logged.held_by, Logged.unless_owned, Logged.barred}
use Rattle.beldi_daal.specs.{declared.cell.CellOp.CellOp, declared.cell.CellOp.TheVariants.Write, declared.cell.CellOp.TheVariants.Cond, declared.cell.CellOp.TheVariants.Lock, declared.cell.CellOp.TheVariants.Free, declared.cell.WriteAt.WriteAt, declared.cell.WriteGoes.WriteGoes, declared.walk.WriteOutput.TheVariants.Held, declared.walk.WriteOutput.TheVariants.NotOwner}

-- it was done, and this told: the entry is made
abbrev pub done_to_cell : Place → Owner → CellOp → Cell → Cell
done_to_cell p who op c = entered p (note_after op c.value) (value_after op c.value) (owner_after op who c.owner) c

-- a death is noted
abbrev pub died_on_cell : Place → IntentId → Cell → Cell
died_on_cell p a c = entered p (Died a) c.value c.owner c

-- the walk is done where this is told
abbrev pub IsDone : CellOp → Cell → ActReply → Type 0
IsDone op c t = (at : WriteAt) → write_goes (done_note op) at (replied t) ≡ WriteGoes.Done (note_after op c.value) true

-- a cell without a note of the place, which none follows
pub record AtEnd (p : Place) (c : Cell) : Type 0 where
  pub none : note_at c.log p ≡ None
  pub ends : c.next ≡ None

-- what is so of the cell and what is told, in each case, is so after the act
pub record Cases (p : Place) (who : Owner) (op : CellOp) (c : Cell) (P : Cell × ActReply → Type 0) : Type 0 where
  pub has_note : (w : Note) → note_at c.log p ≡ Some w → P (c, noted w)
  pub has_next : (k : ℕ) → note_at c.log p ≡ None → c.next ≡ Some k → P (c, next k)
  pub has_no_room : AtEnd p c → length c.log ≡ most_entries → P (c, packed c.value c.owner)
  pub is_held : (o : Owner) → AtEnd p c → barred op who c.owner ≡ Some (Held o) → P (c, held o)
  pub is_not_owned : AtEnd p c → barred op who c.owner ≡ Some NotOwner → P (c, not_owner)
  pub is_done : (t : ActReply) → IsDone op c t → AtEnd p c → is_full c ≡ false → dies who op c.owner ≡ None → barred op who c.owner ≡ None → P (done_to_cell p who op c, t)
  pub is_dead : (a : IntentId) → AtEnd p c → is_full c ≡ false → dies who op c.owner ≡ Some a → P (died_on_cell p a c, died a)

module _ (p : Place) (who : Owner) (op : CellOp) (c : Cell) (P : Cell × ActReply → Type 0) (cases : Cases p who op c P) where
  by_next : (n : Option ℕ) (z : Cell × ActReply) → c.next ≡ n → note_at c.log p ≡ None → (AtEnd p c → P z) → P (next_or c n z)
  by_next None z is none h = h (record { none = none; ends = is })
  by_next (Some k) z is none h = cases.has_next k none is

  by_note : (n : Option Note) (z : Cell × ActReply) → note_at c.log p ≡ n → (AtEnd p c → P z) → P (noted_or c n (next_or c c.next z))
  by_note None z is h = by_next c.next z refl is h
  by_note (Some w) z is h = cases.has_note w is

  module _ (end : AtEnd p c) where
    by_room : (b : Bool) (z : Cell × ActReply) → is_full c ≡ b → (is_full c ≡ false → P z) → P (if b then (c, packed c.value c.owner) else z)
    by_room true z is h = cases.has_no_room end (eqb-true (length c.log) most_entries is)
    by_room false z is h = h is

    -- another owner bars it ..
    by_other : (o : Option Owner) (z : Cell × ActReply) → barred op who c.owner ≡ held_by o → (barred op who c.owner ≡ None → P z) → P (held_or c o z)
    by_other None z bar h = h bar
    by_other (Some o) z bar h = cases.is_held o end bar

    -- .. or that who asks is not the owner
    by_own : (b : Bool) (z : Cell × ActReply) → barred op who c.owner ≡ unless_owned b → (barred op who c.owner ≡ None → P z) → P (if b then z else (c, not_owner))
    by_own true z bar h = h bar
    by_own false z bar h = cases.is_not_owned end bar

    done : (t : ActReply) → IsDone op c t → dies who op c.owner ≡ None → barred op who c.owner ≡ None → P (if_room c (done_to_cell p who op c, t))
    done t goes alive free = by_room (is_full c) (done_to_cell p who op c, t) refl (λ room. cases.is_done t goes end room alive free)

    dead : (a : IntentId) → dies who op c.owner ≡ Some a → P (if_room c (died_on_cell p a c, died a))
    dead a is = by_room (is_full c) (died_on_cell p a c, died a) refl (λ room. cases.is_dead a end room is)

  unheld : (t : ActReply) → IsDone op c t → dies who op c.owner ≡ None → barred op who c.owner ≡ held_by (other_owner who c.owner) → P (at_tail p c (unless_held who c (if_room c (done_to_cell p who op c, t))))
  unheld t goes alive bar = let z : Cell × ActReply = if_room c (done_to_cell p who op c, t) in
      by_note (note_at c.log p) (unless_held who c z) refl (λ end. by_other end (other_owner who c.owner) z bar (done end t goes alive))

  owned : (t : ActReply) → IsDone op c t → dies who op c.owner ≡ None → barred op who c.owner ≡ unless_owned (owns who c.owner) → P (at_tail p c (if_owned who c (if_room c (done_to_cell p who op c, t))))
  owned t goes alive bar = let z : Cell × ActReply = if_room c (done_to_cell p who op c, t) in
      by_note (note_at c.log p) (if_owned who c z) refl (λ end. by_own end (owns who c.owner) z bar (done end t goes alive))

-- a lock, by who asks and by the other owner
module _ (p : Place) (c : Cell) (P : Cell × ActReply → Type 0) (end : AtEnd p c) where
  abbrev locks : Owner → Option Owner → Cell × ActReply
  locks who o = owned_or p who c o (if_room c (done_to_cell p who Lock c, did))

  by_intent : (a : IntentId) → Cases p (Owner.Intent a) Lock c P → (o : Option Owner) → other_owner (Owner.Intent a) c.owner ≡ o → P (locks (Owner.Intent a) o)
  by_intent a cases None is = done p (Owner.Intent a) Lock c P cases end did (λ at. refl) refl (ap held_by is)
  by_intent a cases (Some o) is = cases.is_held o end (ap held_by is)

  by_age : (t : TxId) → Cases p (Owner.Tx t) Lock c P → (o : Owner) (b : Bool) → is_older t.intent (age_of o) ≡ b → other_owner (Owner.Tx t) c.owner ≡ Some o
      → P (if b then (c, held o) else if_room c (died_on_cell p (age_of o) c, died (age_of o)))
  by_age t cases o true older is = cases.is_held o end (ap (λ x. held_by (waited (Owner.Tx t) x)) is ∙ ap (λ x. held_by (if x then Some o else None)) older)
  by_age t cases o false older is = dead p (Owner.Tx t) Lock c P cases end (age_of o) (ap (died_of (Owner.Tx t)) is ∙ ap (λ x. if x then None else Some (age_of o)) older)

  by_tx : (t : TxId) → Cases p (Owner.Tx t) Lock c P → (o : Option Owner) → other_owner (Owner.Tx t) c.owner ≡ o → P (locks (Owner.Tx t) o)
  by_tx t cases None is = done p (Owner.Tx t) Lock c P cases end did (λ at. refl) (ap (died_of (Owner.Tx t)) is) (ap (λ x. held_by (waited (Owner.Tx t) x)) is)
  by_tx t cases (Some o) is = by_age t cases o (is_older t.intent (age_of o)) refl is

  by_who : (who : Owner) → Cases p who Lock c P → P (locks who (other_owner who c.owner))
  by_who (Owner.Intent a) cases = by_intent a cases (other_owner (Owner.Intent a) c.owner) refl
  by_who (Owner.Tx t) cases = by_tx t cases (other_owner (Owner.Tx t) c.owner) refl

-- none but a lock dies
alive : (who : Owner) (op : CellOp) (o : Option Owner) → (op ≡ Lock → ⊥) → dies who op o ≡ None
alive (Owner.Intent a) op o h = refl
alive (Owner.Tx t) Lock o h = absurd (h refl)
alive (Owner.Tx t) (Write v) o h = refl
alive (Owner.Tx t) (Cond r u v) o h = refl
alive (Owner.Tx t) (Free v) o h = refl

-- each operation on a cell
pub on_cell : (p : Place) (who : Owner) (now : ℕ) (op : CellOp) (c : Cell) (Q : Option Row × ActReply → Type 0)
    → Cases p who op c (λ z. Q (Some (Row.Cell z.0), z.1)) → Q (act (op_act p who op) now (Some (Row.Cell c)))
on_cell p who now (Write v) c Q cases = unheld p who (Write v) c (λ z. Q (Some (Row.Cell z.0), z.1)) cases did (λ at. refl) (alive who (Write v) c.owner (λ e. cc)) refl
on_cell p who now (Cond r o v) c Q cases = unheld p who (Cond r o v) c (λ z. Q (Some (Row.Cell z.0), z.1)) cases (tested (passes c.value r o)) (λ at. refl) (alive who (Cond r o v) c.owner (λ e. cc)) refl
on_cell p who now Lock c Q cases = let locks : Cell × ActReply = owned_or p who c (other_owner who c.owner) (if_room c (done_to_cell p who Lock c, did)) in
    by_note p who Lock c (λ z. Q (Some (Row.Cell z.0), z.1)) cases (note_at c.log p) locks refl (λ end. by_who p c (λ z. Q (Some (Row.Cell z.0), z.1)) end who cases)
on_cell p who now (Free v) c Q cases = owned p who (Free v) c (λ z. Q (Some (Row.Cell z.0), z.1)) cases did (λ at. refl) (alive who (Free v) c.owner (λ e. cc)) refl

-- .. and where no row is
pub on_none : (p : Place) (who : Owner) (now : ℕ) (op : CellOp) (Q : Option Row × ActReply → Type 0) → Q (None, no_row) → Q (act (op_act p who op) now None)
on_none p who now (Write v) Q h = h
on_none p who now (Cond r o v) Q h = h
on_none p who now Lock Q h = h
on_none p who now (Free v) Q h = h
