-- What was told of an act says what was there before it, and what is there now.
use Rattle.beldi_histories.specs.Acts.{noted}
use Rattle.beldi_histories.proofs.Names.{Bool, Content, None, Note, Option, Owner, Place, Rel, Some, ContentReply, Value, [], ap, did, held, held_or, if◌then◌else◌, note_at, noted_or, other_owner, passes, refl, sym, test_on, tested, write_on, ◌++◌, ◌∙◌, ◌∷◌, ◌≡◌}

-- the place had no note, and what follows was told
pub past_note : (c x : Content) (n : Option Note) (r : Content × ContentReply) (t : ContentReply) → noted_or c n r ≡ (x, t) → ((m : Note) → noted m ≡ t → ⊥) → (n ≡ None) × (r ≡ (x, t))
past_note c x None r t h other = (refl, h)
past_note c x (Some n) r t h other = absurd (other n (ap (λ z. z.1) h))

-- nobody else owned the item
past_owner : (c x : Content) (o : Option Owner) (r : Content × ContentReply) (t : ContentReply) → held_or c o r ≡ (x, t) → ((w : Owner) → held w ≡ t → ⊥) → (o ≡ None) × (r ≡ (x, t))
past_owner c x None r t h other = (refl, h)
past_owner c x (Some o) r t h other = absurd (other o (ap (λ z. z.1) h))

pub write_parts : (p : Place) (w : Owner) (v : Value) (c x : Content) → write_on p w v c ≡ (x, did) → (note_at c.notes p ≡ None) × (x ≡ record { value = v; owner = c.owner; notes = c.notes ++ (p, Note.Wrote) ∷ [] })
write_parts p w v c x h =
    let r : Content × ContentReply = (record { value = v; owner = c.owner; notes = c.notes ++ (p, Note.Wrote) ∷ [] }, did) in
    let k = past_note c x (note_at c.notes p) (held_or c (other_owner w c.owner) r) did h (λ m e. cc) in
    (k.0, sym (ap (λ z. z.0) (past_owner c x (other_owner w c.owner) r did k.1 (λ m e. cc)).1))

pub test_parts : (p : Place) (w : Owner) (u : Rel) (y v : Value) (c x : Content) (b : Bool) → test_on p w u y v c ≡ (x, tested b)
    → (note_at c.notes p ≡ None) × (x ≡ record { value = (if passes c.value u y then v else c.value); owner = c.owner; notes = c.notes ++ (p, Note.Cond b) ∷ [] }) × (passes c.value u y ≡ b)
test_parts p w u y v c x b h =
    let r : Content × ContentReply = (record { value = (if passes c.value u y then v else c.value); owner = c.owner; notes = c.notes ++ (p, Note.Cond (passes c.value u y)) ∷ [] }, tested (passes c.value u y)) in
    let k = past_note c x (note_at c.notes p) (held_or c (other_owner w c.owner) r) (tested b) h (λ m e. cc) in
    let g = (past_owner c x (other_owner w c.owner) r (tested b) k.1 (λ m e. cc)).1 in
    let e = ap (λ z. z.1) g in
    let same : passes c.value u y ≡ b = cc in
    (k.0, sym (ap (λ z. z.0) g) ∙ ap (λ z. record { value = (if passes c.value u y then v else c.value); owner = c.owner; notes = c.notes ++ (p, Note.Cond z) ∷ [] }) same, same)
