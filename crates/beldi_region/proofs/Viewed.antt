-- What the calls of a region do, where one slot changes.
use Rattle.std.proofs.Common.{◌≡◌, ◌≢◌, ℕ, ◌+◌, ◌<◌, Bool, true, false, List, length, get_or, Option, Some, None, is_some, IsSomeAnd, count_by, nat_eq, refl, sym, subst, ap, ap₂, if◌then◌else◌, ◌∙◌, inl, inr, arith}
use Rattle.std.proofs.lemmas.Bool.{cases_eq, cases_lt, ne_eqb, eq-eqb}
use Rattle.std.proofs.lemmas.List.{get_or_past, get_or-set_same, get_or-set_other}
use Rattle.std.proofs.lemmas.Bool.Decides.{eqb_tells}
use Rattle.beldi_region.specs.Region.{ViewedSlot, ViewedRegion, slot_at, value_of, find, is_usable, spaces, with_value, lasts, Frame, PutAt, Taken, Released, Changed}
use Rattle.beldi_region.specs.declared.region.SlotId.{SlotId}
use Rattle.beldi_region.proofs.Counts.{weight, one_moves}

either : {A : Type 0} (b : Bool) (x y z : A) → x ≡ z → y ≡ z → (if b then x else y) ≡ z
either true x y z e f = e
either false x y z e f = f

pub same_id : (a b : SlotId) → a.slot ≡ b.slot → a.generation ≡ b.generation → a ≡ b
same_id a b e f = ap₂ (λ s g. record { slot = s; generation = g }) e f

some_is : {A : Type 0} (o : Option A) → is_some o ≡ true → (a : A) × (o ≡ Some a)
some_is None h = absurd (cc)
some_is (Some a) h = (a, refl)

module _ {V : Type 0} where
  -- a slot has this now, and the others have what they had
  pub record OneSlot (old new : ViewedRegion V) (slot : ℕ) (was is : Option (ViewedSlot V)) : Type 0 where
    pub before : slot_at old slot ≡ was
    pub after : slot_at new slot ≡ is
    pub others : (other : ℕ) → other ≢ slot → slot_at new other ≡ slot_at old other
    pub room : new.room ≡ old.room

  -- a slot has a later generation
  abbrev pub Later : ℕ → Option (ViewedSlot V) → Type 0
  Later g o = IsSomeAnd o (λ s. g < s.generation)

  -- of a slot, generations but this one have what they had, and what is stale stays so
  record Moves (was is : Option (ViewedSlot V)) (generation : ℕ) : Type 0 where
    values : (g : ℕ) → g ≢ generation → value_of is g ≡ value_of was g
    stale : (g : ℕ) → Later g was → Later g is

  other_value : (s : ViewedSlot V) (g : ℕ) → g ≢ s.generation → value_of (Some s) g ≡ None
  other_value s g n = rw (ne_eqb s.generation g (λ e. n (sym e))) refl

  pub freed : (g : ℕ) (s : ViewedSlot V) → s.value ≡ None → value_of (Some s) g ≡ None
  freed g s e = either (nat_eq s.generation g) s.value None None e refl

  own_value : (s : ViewedSlot V) → value_of (Some s) s.generation ≡ s.value
  own_value s = rw (eq-eqb s.generation s.generation refl) refl

  beside : (old new : ViewedRegion V) (id : SlotId) (was is : Option (ViewedSlot V)) → OneSlot old new id.slot was is → Moves was is id.generation → Frame old new id
  beside old new id was is one m =
      record {
        others = λ other n. elim (cases_eq other.slot id.slot) [
          | inl e ↦
              let here = ap (λ o. value_of o other.generation) one.after ∙ m.values other.generation (λ f. n (same_id other id e f)) ∙ ap (λ o. value_of o other.generation) (sym one.before) in
              subst (λ k. value_of (slot_at new k) other.generation ≡ value_of (slot_at old k) other.generation) (sym e) here
          | inr d ↦ ap (λ o. value_of o other.generation) (one.others other.slot d)
        ];
        stale = λ other s. elim (cases_eq other.slot id.slot) [
          | inl e ↦
              let here = subst (Later other.generation) (ap (slot_at old) e ∙ one.before) s in
              subst (Later other.generation) (sym one.after ∙ ap (slot_at new) (sym e)) (m.stale other.generation here)
          | inr d ↦ subst (Later other.generation) (sym (one.others other.slot d)) s
        ];
        room = one.room;
      }

  -- a test passes as often as before, but for this slot
  pub moves : (p : Option (ViewedSlot V) → Bool) → p None ≡ false → (old new : ViewedRegion V) (slot : ℕ) (was is : Option (ViewedSlot V)) → OneSlot old new slot was is → count_by p new.slots + weight (p was) ≡ count_by p old.slots + weight (p is)
  moves p empty old new slot was is one =
      subst (λ o. count_by p new.slots + weight (p o) ≡ count_by p old.slots + weight (p is)) one.before (subst (λ o. count_by p new.slots + weight (p (slot_at old slot)) ≡ count_by p old.slots + weight (p o)) one.after (one_moves p empty old.slots new.slots slot one.others))

  -- an id that has a value: its slot has that value and this generation
  pub viewed_found : (r : ViewedRegion V) (id : SlotId) → is_some (find r id) ≡ true → (v : V) × (slot_at r id.slot ≡ Some (record { generation = id.generation; value = Some v })) × (find r id ≡ Some v)
  viewed_found r id found =
      let has = by_slot (slot_at r id.slot) found in
      (has.0, has.1, ap (λ o. value_of o id.generation) has.1 ∙ own_value _)
    where
      by_slot : (o : Option (ViewedSlot V)) → is_some (value_of o id.generation) ≡ true → (v : V) × (o ≡ Some (record { generation = id.generation; value = Some v }))
      by_slot None h = absurd (cc)
      by_slot (Some s) h =
          elim (eqb_tells s.generation id.generation) [
            | inl same ↦ (let has = some_is s.value (rw same.0 at h) in (has.0, ap₂ (λ g o. Some (record { generation = g; value = o })) same.1 has.1))
            | inr other ↦ absurd (let none = rw other.0 at h in cc)
          ]

  -- a value is put into a slot without one, which takes a space
  pub puts : (old new : ViewedRegion V) (id : SlotId) (v : V) (was : Option (ViewedSlot V)) → OneSlot old new id.slot was (Some (record { generation = id.generation; value = Some v })) → ((g : ℕ) → value_of was g ≡ None) → ((g : ℕ) → Later g was → g < id.generation) → spaces new + 1 ≡ spaces old → PutAt old new id v
  puts old new id v was one empty later less =
      let is : ViewedSlot V = record { generation = id.generation; value = Some v } in
      record {
        was_new = ap (λ o. value_of o id.generation) one.before ∙ empty id.generation;
        found = ap (λ o. value_of o id.generation) one.after ∙ own_value is;
        frame = beside old new id was (Some is) one (record { values = λ g n. other_value is g n ∙ sym (empty g); stale = later });
        spaces = less;
      }

  pub takes : (old new : ViewedRegion V) (id : SlotId) (v : V) → OneSlot old new id.slot (Some (record { generation = id.generation; value = Some v })) (Some (record { generation = id.generation + 1; value = None })) → Taken old new id v
  takes old new id v one =
      let was : ViewedSlot V = record { generation = id.generation; value = Some v } in
      let is : ViewedSlot V = record { generation = id.generation + 1; value = None } in
      let written = moves is_some refl old new id.slot (Some was) (Some is) one in
      let usable = moves is_usable refl old new id.slot (Some was) (Some is) one in
      record {
        was = ap (λ o. value_of o id.generation) one.before ∙ own_value was;
        gone = ap (λ o. value_of o id.generation) one.after ∙ freed id.generation is refl;
        stale = subst (Later id.generation) (sym one.after) (omega arith);
        frame = beside old new id (Some was) (Some is) one (record { values = λ g n. freed g is refl ∙ sym (other_value was g n); stale = λ g s. omega (arith, s) });
        spaces = omega (arith, written, usable, one.room);
      }

  -- .. and the slot may be used again
  pub releases : (old new : ViewedRegion V) (id : SlotId) (v : V) → lasts id.generation ≡ true → OneSlot old new id.slot (Some (record { generation = id.generation; value = Some v })) (Some (record { generation = id.generation; value = None })) → Released old new id v
  releases old new id v last one =
      let was : ViewedSlot V = record { generation = id.generation; value = Some v } in
      let is : ViewedSlot V = record { generation = id.generation; value = None } in
      let written = moves is_some refl old new id.slot (Some was) (Some is) one in
      let usable = moves is_usable refl old new id.slot (Some was) (Some is) one in
      let free = ap weight last in
      record {
        was = ap (λ o. value_of o id.generation) one.before ∙ own_value was;
        gone = ap (λ o. value_of o id.generation) one.after ∙ freed id.generation is refl;
        frame = beside old new id (Some was) (Some is) one (record { values = λ g n. freed g is refl ∙ sym (other_value was g n); stale = λ g s. s });
        spaces = omega (arith, written, usable, free, one.room);
      }

  slot_within : (xs : List (Option (ViewedSlot V))) (k : ℕ) (s : ViewedSlot V) → get_or xs k None ≡ Some s → k < length xs
  slot_within xs k s h = elim (cases_lt k (length xs)) [
    | inl l ↦ l
    | inr g ↦ absurd (let none = get_or_past xs k None g in cc)
  ]

  pub changes : (r : ViewedRegion V) (id : SlotId) (v : V) → is_some (find r id) ≡ true → Changed r (with_value r id v) id v
  changes r id v taken =
      let has = viewed_found r id taken in
      let was : ViewedSlot V = record { generation = id.generation; value = Some has.0 } in
      let is : ViewedSlot V = record { generation = id.generation; value = Some v } in
      let one : OneSlot r (with_value r id v) id.slot (Some was) (Some is) = record {
        before = has.1;
        after = get_or-set_same r.slots id.slot (Some is) None (slot_within r.slots id.slot was has.1);
        others = λ other n. get_or-set_other r.slots id.slot other (Some is) None n;
        room = refl;
      } in
      let written = moves is_some refl r (with_value r id v) id.slot (Some was) (Some is) one in
      let usable = moves is_usable refl r (with_value r id v) id.slot (Some was) (Some is) one in
      record {
        found = ap (λ o. value_of o id.generation) one.after ∙ own_value is;
        frame = beside r (with_value r id v) id (Some was) (Some is) one (record { values = λ g n. other_value is g n ∙ sym (other_value was g n); stale = λ g s. s });
        spaces = omega (arith, written, usable);
      }
