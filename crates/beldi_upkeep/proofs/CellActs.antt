-- Who owns an item after a turn of a walk on it.
use Rattle.beldi_daal.specs.{Logged.DidAs, Logged.Logs, Logged.dies, Logged.done_to, Logged.note_after, declared.walk.WriteOutput.WriteOutput}
use Rattle.beldi_histories.specs.Acts.{ContentReply}
use Rattle.beldi_row.proofs.Logs.{place_same}
use Rattle.beldi_upkeep.proofs.RowNotes.{noted_in}
use Rattle.beldi_invariant.proofs.Names.{Bool, ByTx, CellOp, Content, IntentId, None, Note, Option, Owner, Place, Some, TxId, age_of, arith, false, held, died, inl, inr, lock_on, lock_or, note_at, noted, noted_or, refl, same_some, subst, sym, with_note, other_owner, true, if◌then◌else◌, ◌∙◌, ◌≡◌, ◌⊎◌, [], ◌∷◌, ◌++◌, is_some, place_eq}

-- it owns the item then
abbrev pub OwnedIn : Owner → Content → Type 0
OwnedIn o c = c.owner ≡ Some o

module _ (o : Owner) (p : Place) (c d : Content) where
  -- only who locks an item becomes its owner
  abbrev NewIn : Owner → CellOp → Type 0
  NewIn who op = (op ≡ CellOp.Lock) × (who ≡ o)

  done_owner : (who : Owner) (op : CellOp) → OwnedIn o (done_to p who op c) → OwnedIn o c ⊎ NewIn who op
  done_owner who (CellOp.Write v) h = inl h
  done_owner who (CellOp.Cond r u v) h = inl h
  done_owner who CellOp.Lock h = inr (refl, same_some h)
  done_owner who (CellOp.Free v) h = cc

  -- what was done makes this one the owner at most; a death, nobody
  module _ (who : Owner) (op : CellOp) (P : Type 0) (kept : OwnedIn o c → P) (done : OwnedIn o (done_to p who op c) → note_at c.notes p ≡ None → P) where
    by_death : (a : Option IntentId) → DidAs p who op a c d → note_at c.notes p ≡ None → OwnedIn o d → P
    by_death None did none h = done (subst (OwnedIn o) did.1 h) none
    by_death (Some a) did none h = kept (subst (OwnedIn o) did h)

    by_output : (s : WriteOutput) → Logs p who op s c d → OwnedIn o d → P
    by_output (WriteOutput.Done n true) l h = by_death (dies who op c.owner) l.1.1 l.1.0 h
    by_output (WriteOutput.Done n false) l h = kept (subst (OwnedIn o) l.1 h)
    by_output WriteOutput.NotOwner l h = kept (subst (OwnedIn o) l.2 h)
    by_output (WriteOutput.Held w) l h = kept (subst (OwnedIn o) l.2 h)
    by_output WriteOutput.Going l h = kept (subst (OwnedIn o) l h)
    by_output WriteOutput.Worn l h = kept (subst (OwnedIn o) l.1 h)

  pub op_owner : (who : Owner) (op : CellOp) (s : WriteOutput) → Logs p who op s c d → OwnedIn o d → OwnedIn o c ⊎ NewIn who op
  op_owner who op s l h = by_output who op (OwnedIn o c ⊎ NewIn who op) inl (λ is none. done_owner who op is) s l h

  -- one whose place has its note makes nobody the owner
  pub owner_noted : (who : Owner) (op : CellOp) (s : WriteOutput) (w : Note) → note_at c.notes p ≡ Some w → Logs p who op s c d → OwnedIn o d → OwnedIn o c
  owner_noted who op s w told l h = by_output who op (OwnedIn o c) (λ was. was) (λ is none. let clash = sym told ∙ none in cc) s l h

-- a place that has its note then had it, or is that of the walk
module _ (p : Place) (c d : Content) (who : Owner) (op : CellOp) where
  abbrev pub NotedOr : Place → Type 0
  NotedOr q = (is_some (note_at c.notes q) ≡ true) ⊎ (q ≡ p)

  one_more : (w : Note) (q : Place) → is_some (note_at (c.notes ++ (p, w) ∷ []) q) ≡ true → NotedOr q
  one_more w q has = elim (noted_in c.notes ((p, w) ∷ []) q has) [
    | inl was ↦ inl was
    | inr new ↦ inr (by_test (place_eq p q) refl new)
  ]
    where
      by_test : (b : Bool) → place_eq p q ≡ b → is_some (if b then Some w else None) ≡ true → q ≡ p
      by_test true same new = sym (place_same p q same)
      by_test false same new = cc

  by_done : (a : Option IntentId) → DidAs p who op a c d → (q : Place) → is_some (note_at d.notes q) ≡ true → NotedOr q
  by_done None did q has = one_more (note_after op c.value) q (subst (λ (z : Content). is_some (note_at z.notes q) ≡ true) did.1 has)
  by_done (Some a) did q has = one_more (Note.Died a) q (subst (λ (z : Content). is_some (note_at z.notes q) ≡ true) did has)

  as_before : d ≡ c → (q : Place) → is_some (note_at d.notes q) ≡ true → NotedOr q
  as_before same q has = inl (subst (λ (z : Content). is_some (note_at z.notes q) ≡ true) same has)

  pub op_noted : (s : WriteOutput) → Logs p who op s c d → (q : Place) → is_some (note_at d.notes q) ≡ true → NotedOr q
  op_noted (WriteOutput.Done n true) l = by_done (dies who op c.owner) l.1.1
  op_noted (WriteOutput.Done n false) l = as_before l.1
  op_noted WriteOutput.NotOwner l = as_before l.2
  op_noted (WriteOutput.Held w) l = as_before l.2
  op_noted WriteOutput.Going l = as_before l
  op_noted WriteOutput.Worn l = as_before l.1

-- a note that was told was there
pub told_note : (p : Place) (t : TxId) (c x : Content) (w : Note) → lock_on p t c ≡ (x, noted w) → note_at c.notes p ≡ Some w
told_note p t c x w h = by_note (note_at c.notes p) h
  where
    by_age : (o : Owner) (b : Bool) → ◌≡◌ {A = Content × ContentReply} (if b then (c, held o) else (with_note c p (Note.Died (age_of o)), died (age_of o))) (x, noted w) → ⊥
    by_age o b g = grind arith

    by_owner : (o : Option Owner) → lock_or p t c o ≡ (x, noted w) → ⊥
    by_owner o g = grind arith

    by_note : (n : Option Note) → noted_or c n (lock_or p t c (other_owner (ByTx t) c.owner)) ≡ (x, noted w) → n ≡ Some w
    by_note n g = grind arith
