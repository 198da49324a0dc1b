-- How a region lies in its slab, where one slot changes.
use Rattle.std.proofs.Common.{◌≡◌, ◌≢◌, ℕ, zero, suc, ◌+◌, ◌<◌, Bool, true, false, List, map, get_or, Option, Some, None, is_some, count_by, if◌then◌else◌, refl, sym, subst, ap, ap₂, ◌∙◌, inl, inr, arith, true≢false}
use Rattle.std.proofs.Math.ListN.{get_or-map}
use Rattle.std.proofs.lemmas.Bool.{cases_eq}
use Rattle.std.proofs.lemmas.List.{map-set}
use Rattle.slab.specs.Slab.{Slab, get, slab_len, Updates, with_value}
use Rattle.slab.proofs.SlabLemmas.{Updates-with_value}
use Rattle.beldi_region.specs.declared.region.Slot.{Slot}
use Rattle.beldi_region.specs.declared.region.SlotId.{SlotId}
use Rattle.beldi_region.specs.Region.{ViewedRegion, ViewedSlot, slot_at, find, is_usable, is_free_at, lasts, with_value as lent_at, PutAt, Taken, Released}
use Rattle.beldi_region.specs.Slots.{viewed, viewed_of, IsFreeList, IsSound}
use Rattle.beldi_region.proofs.Counts.{weight, viewed_count}
use Rattle.beldi_region.proofs.Viewed.{OneSlot, moves, freed, puts, releases, takes, viewed_found}

module _ {V : Type 0} where
  free_is : (o : Option V) (g : ℕ) → is_free_at o g ≡ true → (o ≡ None) × (lasts g ≡ true)
  free_is None g h = (refl, h)
  free_is (Some v) g h = absurd (cc)

  not_free : (o : Option V) (g : ℕ) → is_some o ≡ true → is_free_at o g ≡ false
  not_free None g h = absurd (cc)
  not_free (Some v) g h = refl

  -- a region over a slab, as it is seen
  abbrev pub viewed_in : Slab (Slot V) → ℕ → ViewedRegion V
  viewed_in slab room = record { slots = map viewed_of slab.slots; room = room }

  viewed_at : (slab : Slab (Slot V)) (room key : ℕ) → slot_at (viewed_in slab room) key ≡ viewed_of (get slab key)
  viewed_at slab room key = get_or-map viewed_of slab.slots key None

  -- one slot changes in the slab, and so in what is seen
  pub as_viewed : (room : ℕ) (old new : Slab (Slot V)) (key : ℕ) (was is : Option (Slot V)) → get old key ≡ was → Updates old new key is → OneSlot (viewed_in old room) (viewed_in new room) key (viewed_of was) (viewed_of is)
  as_viewed room old new key was is before u =
      record {
        before = viewed_at old room key ∙ ap viewed_of before;
        after = viewed_at new room key ∙ ap viewed_of u.changed;
        others = λ other n. viewed_at new room other ∙ ap viewed_of (u.others other n) ∙ sym (viewed_at old room other);
        room = refl;
      }

  -- the slot of an id that has a value
  pub slot_found : (slab : Slab (Slot V)) (room : ℕ) (id : SlotId) (s : Slot V) → get slab id.slot ≡ Some s → is_some (find (viewed_in slab room) id) ≡ true → (v : V) × (s.generation ≡ id.generation) × (s.value ≡ Some v) × (find (viewed_in slab room) id ≡ Some v)
  slot_found slab room id s at found =
      let has = viewed_found (viewed_in slab room) id found in
      let same : viewed s ≡ record { generation = id.generation; value = Some has.0 } = let both = sym (ap viewed_of at) ∙ sym (viewed_at slab room id.slot) ∙ has.1 in cc in
      (has.0, ap (λ (t : ViewedSlot V). t.generation) same, ap (λ (t : ViewedSlot V). t.value) same, has.2)

  -- its value is lent, and this one is left
  pub lent : (slab : Slab (Slot V)) (room : ℕ) (id : SlotId) (s : Slot V) (w : V) → s.generation ≡ id.generation → viewed_in (with_value slab id.slot (record { generation = s.generation; value = Some w; next = s.next })) room ≡ lent_at (viewed_in slab room) id w
  lent slab room id s w same = rw (map-set, same) refl

  -- its value is taken out
  pub takes_from : (old : Slab (Slot V)) (room : ℕ) (id : SlotId) (next : Option ℕ) (s : Slot V) (v : V) → get old id.slot ≡ Some s → s.generation ≡ id.generation → s.value ≡ Some v → Taken (viewed_in old room) (viewed_in (with_value old id.slot (record { generation = s.generation + 1; value = None; next = next })) room) id v
  takes_from old room id next s v at same taken =
      let is : Slot V = record { generation = s.generation + 1; value = None; next = next } in
      let one = as_viewed room old (with_value old id.slot is) id.slot (Some s) (Some is) at (Updates-with_value old id.slot is (ap is_some at)) in
      takes _ _ id v (record {
        before = one.before ∙ ap₂ (λ g o. Some (record { generation = g; value = o })) same taken;
        after = one.after ∙ ap (λ g. Some (record { generation = g + 1; value = None })) same;
        others = one.others;
        room = refl;
      })

  -- .. and the slot keeps its generation
  pub releases_from : (old : Slab (Slot V)) (room : ℕ) (id : SlotId) (next : Option ℕ) (s : Slot V) (v : V) → get old id.slot ≡ Some s → s.generation ≡ id.generation → s.value ≡ Some v → lasts s.generation ≡ true → Released (viewed_in old room) (viewed_in (with_value old id.slot (record { generation = s.generation; value = None; next = next })) room) id v
  releases_from old room id next s v at same taken last =
      let is : Slot V = record { generation = s.generation; value = None; next = next } in
      let one = as_viewed room old (with_value old id.slot is) id.slot (Some s) (Some is) at (Updates-with_value old id.slot is (ap is_some at)) in
      releases _ _ id v (subst (λ g. lasts g ≡ true) same last) (record {
        before = one.before ∙ ap₂ (λ g o. Some (record { generation = g; value = o })) same taken;
        after = one.after ∙ ap (λ g. Some (record { generation = g; value = None })) same;
        others = one.others;
        room = refl;
      })

  -- a slot starts one list at most
  one_length : (slots : List (Option (Slot V))) (m n : ℕ) (first : Option ℕ) → IsFreeList slots m first → IsFreeList slots n first → m ≡ n
  one_length slots zero zero first p q = refl
  one_length slots zero (suc n) first p q = absurd (let some = q.2 in cc)
  one_length slots (suc m) zero first p q = absurd (let some = p.2 in cc)
  one_length slots (suc m) (suc n) first p q =
      let a = p.2 in
      let b = q.2 in
      let key : q.0 ≡ p.0 = cc in
      let c = p.3 in
      let d = q.3 in
      let slot : q.1 ≡ p.1 = cc in
      ap suc (one_length slots m n p.1.next p.5 (subst (λ s. IsFreeList slots n s.next) slot q.5))

  -- a list that a slot is not on stays, whatever becomes of the slot
  list_kept : (old new : Slab (Slot V)) (key : ℕ) (is : Option (Slot V)) → Updates old new key is → (n : ℕ) (first : Option ℕ) → ((m : ℕ) → m < n → IsFreeList old.slots (suc m) (Some key) → ⊥) → IsFreeList old.slots n first → IsFreeList new.slots n first
  list_kept old new key is u zero first off p = p
  list_kept old new key is u (suc n) first off p =
      let other : p.0 ≢ key = λ same. off n (omega arith) (subst (IsFreeList old.slots (suc n)) (p.2 ∙ ap Some same) p) in
      (p.0, p.1, p.2, u.others p.0 other ∙ p.3, p.4, list_kept old new key is u n p.1.next (λ m below. off m (omega arith)) p.5)

  -- the first slot of a list may be used again, and the list goes on behind it
  first_free : (slots : List (Option (Slot V))) (n key : ℕ) (s : Slot V) → get_or slots key None ≡ Some s → IsFreeList slots n (Some key) → (m : ℕ) × (n ≡ suc m) × (is_usable (Some (viewed s)) ≡ true) × IsFreeList slots m s.next
  first_free slots zero key s at p = absurd (cc)
  first_free slots (suc m) key s at p =
      let a = p.2 in
      let b = p.3 in
      let same : p.0 ≡ key = cc in
      let slot : p.1 ≡ s = cc in
      (m, refl, subst (λ t. is_usable (Some (viewed t)) ≡ true) slot p.4, subst (λ t. IsFreeList slots m t.next) slot p.5)

  -- a slot that may not be used again is on no list
  off_list : (slots : List (Option (Slot V))) (key : ℕ) (was : Option (Slot V)) → get_or slots key None ≡ was → is_usable (viewed_of was) ≡ false → (m : ℕ) → IsFreeList slots (suc m) (Some key) → ⊥
  off_list slots key was at off m p =
      let a = p.2 in
      let same : p.0 ≡ key = cc in
      let slot : was ≡ Some p.1 = sym at ∙ ap (λ k. get_or slots k None) (sym same) ∙ p.3 in
      true≢false (sym p.4 ∙ ap (λ o. is_usable (viewed_of o)) (sym slot) ∙ off)

  pub none_free : (slots : List (Option (Slot V))) (n : ℕ) → IsFreeList slots n None → n ≡ 0
  none_free slots zero p = refl
  none_free slots (suc n) p = absurd (let some = p.2 in cc)

  -- a slot changes, and the list of free slots is this one now
  sound_then : (old new : Slab (Slot V)) (room key : ℕ) (first after : Option ℕ) (is : Slot V) → IsSound old room first → Updates old new key (Some is) → new.capacity ≡ old.capacity → (is_some is.value ≡ true → lasts is.generation ≡ true) → IsFreeList new.slots (count_by is_usable (map viewed_of new.slots)) after → IsSound new room after
  sound_then old new room key first after is h u capacity here free =
      record {
        fits = omega (arith, capacity, h.fits);
        small = omega (arith, capacity, h.small);
        lasting = λ k s at taken. elim (cases_eq k key) [
          | inl same ↦
              let slot : is ≡ s = let a = u.changed in let b = ap (get new) (sym same) ∙ at in cc in
              subst (λ t. lasts t.generation ≡ true) slot (here (subst (λ t. is_some t.value ≡ true) (sym slot) taken))
          | inr other ↦ h.lasting k s (sym (u.others k other) ∙ at) taken
        ];
        free = free;
      }

  usable_moves : (old new : Slab (Slot V)) (key : ℕ) (was is : Option (Slot V)) → get old key ≡ was → Updates old new key is → count_by is_usable (map viewed_of new.slots) + weight (is_usable (viewed_of was)) ≡ count_by is_usable (map viewed_of old.slots) + weight (is_usable (viewed_of is))
  usable_moves old new key was is at u = moves is_usable refl (viewed_in old 0) (viewed_in new 0) key (viewed_of was) (viewed_of is) (as_viewed 0 old new key was is at u)

  -- a slot changes that may not be used again, neither before nor after
  pub sound_beside : (old new : Slab (Slot V)) (room key : ℕ) (first : Option ℕ) (was : Option (Slot V)) (is : Slot V) → IsSound old room first → get old key ≡ was → Updates old new key (Some is) → new.capacity ≡ old.capacity → (is_some is.value ≡ true → lasts is.generation ≡ true) → is_usable (viewed_of was) ≡ false → is_usable (Some (viewed is)) ≡ false → IsSound new room first
  sound_beside old new room key first was is h at u capacity here before after =
      let count : count_by is_usable (map viewed_of old.slots) ≡ count_by is_usable (map viewed_of new.slots) = omega (arith, usable_moves old new key was (Some is) at u, ap weight before, ap weight after) in
      sound_then old new room key first first is h u capacity here (list_kept old new key (Some is) u _ first (λ m _. off_list old.slots key was at before m) (subst (λ n. IsFreeList old.slots n first) count h.free))

  -- the value of a slot is lent
  pub sound_lent : (old : Slab (Slot V)) (room key : ℕ) (first : Option ℕ) (s : Slot V) (v w : V) → IsSound old room first → get old key ≡ Some s → s.value ≡ Some v → IsSound (with_value old key (record { generation = s.generation; value = Some w; next = s.next })) room first
  sound_lent old room key first s v w h at taken =
      sound_beside old _ room key first (Some s) _ h at (Updates-with_value old key _ (ap is_some at)) refl (λ _. h.lasting key s at (ap is_some taken)) (not_free s.value s.generation (ap is_some taken)) refl

  -- the first free slot is used again
  pub sound_again : (old : Slab (Slot V)) (room key : ℕ) (s is : Slot V) → IsSound old room (Some key) → get old key ≡ Some s → is.generation ≡ s.generation → is_some is.value ≡ true → IsSound (with_value old key is) room s.next
  sound_again old room key s is h at same taken =
      let new = with_value old key is in
      let u = Updates-with_value old key is (ap is_some at) in
      let free = first_free old.slots _ key s at h.free in
      let whole = subst (λ n. IsFreeList old.slots n (Some key)) free.1 h.free in
      let list = list_kept old new key (Some is) u free.0 s.next (λ j below again. omega (arith, below, one_length old.slots (suc j) (suc free.0) (Some key) again whole)) free.3 in
      let count : free.0 ≡ count_by is_usable (map viewed_of new.slots) = omega (arith, usable_moves old new key (Some s) (Some is) at u, ap weight free.2, ap weight (not_free is.value is.generation taken), free.1) in
      sound_then old new room key (Some key) s.next is h u refl (λ _. ap lasts same ∙ (free_is s.value s.generation free.2).1) (subst (λ n. IsFreeList new.slots n s.next) count list)

  -- a slot is emptied, and is the first free one where it may be used again
  pub sound_taken : (old : Slab (Slot V)) (room key : ℕ) (first after : Option ℕ) (s is : Slot V) → IsSound old room first → get old key ≡ Some s → is_some s.value ≡ true → is.value ≡ None → is.next ≡ first → after ≡ (if lasts is.generation then Some key else first) → IsSound (with_value old key is) room after
  sound_taken old room key first after s is h at taken gone next free = by_lasting (lasts is.generation) refl
    where
      new : Slab (Slot V)
      new = with_value old key is

      u : Updates old new key (Some is)
      u = Updates-with_value old key is (ap is_some at)

      was : is_usable (Some (viewed s)) ≡ false
      was = not_free s.value s.generation taken

      here : is_some is.value ≡ true → lasts is.generation ≡ true
      here t = absurd (cc)

      by_lasting : (b : Bool) → lasts is.generation ≡ b → IsSound new room after
      by_lasting false high =
          let begins : first ≡ after = sym (free ∙ ap (λ b. if b then Some key else first) high) in
          subst (IsSound new room) begins (sound_beside old new room key first (Some s) is h at u refl here was (ap (λ o. is_free_at o is.generation) gone ∙ high))
      by_lasting true low =
          let begins : after ≡ Some key = free ∙ ap (λ b. if b then Some key else first) low in
          let usable : is_usable (Some (viewed is)) ≡ true = ap (λ o. is_free_at o is.generation) gone ∙ low in
          let count : suc (count_by is_usable (map viewed_of old.slots)) ≡ count_by is_usable (map viewed_of new.slots) = omega (arith, usable_moves old new key (Some s) (Some is) at u, ap weight was, ap weight usable) in
          let list = list_kept old new key (Some is) u _ first (λ m _. off_list old.slots key (Some s) at was m) h.free in
          sound_then old new room key first after is h u refl here (subst (λ n. IsFreeList new.slots n after) count (key, is, begins, u.changed, usable, subst (IsFreeList new.slots _) (sym next) list))

  -- .. and a value is put into it
  pub puts_again : (old : Slab (Slot V)) (room key : ℕ) (s is : Slot V) (v : V) → IsSound old room (Some key) → get old key ≡ Some s → is.generation ≡ s.generation → is.value ≡ Some v → PutAt (viewed_in old room) (viewed_in (with_value old key is) room) (record { slot = key; generation = s.generation }) v
  puts_again old room key s is v h at same taken =
      let new = with_value old key is in
      let u = Updates-with_value old key is (ap is_some at) in
      let one = as_viewed room old new key (Some s) (Some is) at u in
      let usable = (first_free old.slots _ key s at h.free).2 in
      let written = moves is_some refl _ _ key (Some (viewed s)) (Some (viewed is)) one in
      puts (viewed_in old room) (viewed_in new room) (record { slot = key; generation = s.generation }) v (Some (viewed s)) (record {
        before = one.before;
        after = one.after ∙ ap₂ (λ g o. Some (record { generation = g; value = o })) same taken;
        others = one.others;
        room = refl;
      }) (λ g. freed g (viewed s) (free_is s.value s.generation usable).0) (λ g later. later) (omega (arith, written, usable_moves old new key (Some s) (Some is) at u, ap weight usable, ap weight (not_free is.value is.generation (ap is_some taken))))

  -- a value is put into a slot that was not used yet
  pub puts_first : (old new : Slab (Slot V)) (room key : ℕ) (is : Slot V) (v : V) → get old key ≡ None → Updates old new key (Some is) → is ≡ record { generation = 0; value = Some v; next = None } → slab_len old < room → PutAt (viewed_in old room) (viewed_in new room) (record { slot = key; generation = 0 }) v
  puts_first old new room key is v at u first some =
      let one = as_viewed room old new key None (Some is) at u in
      let written = moves is_some refl _ _ key None (Some (viewed is)) one in
      let after = ap (λ t. is_usable (Some (viewed t))) first in
      puts (viewed_in old room) (viewed_in new room) (record { slot = key; generation = 0 }) v None (record {
        before = one.before;
        after = one.after ∙ ap (λ t. Some (viewed t)) first;
        others = one.others;
        room = refl;
      }) (λ g. refl) (λ g later. absurd later) (omega (arith, written, usable_moves old new key None (Some is) at u, ap weight after, viewed_count old.slots, some))
