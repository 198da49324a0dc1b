-- A list in blocks stays what it is as a block is split for one more, and as one that has one less is joined with another.
use Rattle.std.proofs.lemmas.Bool.{and_parts, and_cases, ltb-true, ltb-false, leb-true, leb-false, eqb-true, eqb-false, ne_eqb}
use Rattle.std.proofs.lemmas.List.{length-set, length-take-le, length-drop}
use Rattle.std.proofs.lemmas.List.Edits.{length-insert, length-remove}
use Rattle.std.proofs.Common.{◌≡◌, ℕ, zero, suc, ◌+◌, ◌-◌, ◌*◌, ◌<◌, ◌≤◌, Bool, true, false, cond, ◌&&◌, nat_lt, nat_le, ◌==◌, inl, inr, List, [], ◌∷◌, ◌++◌, length, take, drop, insert, refl, sym, subst, ap, ◌∙◌, slice_set, remove, arith}
use Rattle.beldi_region.specs.{Blocks.block_room, Blocks.half_room, Blocks.flat, Blocks.before, Blocks.block_at, Blocks.AreTight, Blocks.is_small, Blocks.place_in, Blocks.IsIn, Blocks.IsAt, Blocks.IsSpot, Blocks.split_spot, Blocks.ViewedBlocks, Blocks.with_block, Blocks.opened, Blocks.split_at, Blocks.joined, Blocks.closed, Blocks.roomy, Blocks.closed_up, declared.region.SlotId.SlotId, declared.blocks.Spot.Spot}
use Rattle.beldi_region.proofs.Flat.{before_next, within, flat_insert, flat_remove, cut, cut_length, cut_before, cut_lower, cut_upper, flat_cut, flat_both, flat_less, both, both_length, few, tight_set, tight_cut, tight_kept, tight_less, tight_next, tight_last, set_here, set_next, set_last, remove_set, less_length}

one_on : (n : ℕ) → suc n ≡ n + 1
one_on n = omega arith

-- the blocks as they are cut and joined
split_is : (bs : List (List SlotId)) (spares n : ℕ) → record { lists = cut bs n half_room; spares = spares - 1 } ≡ split_at (record { lists = bs; spares = spares }) n
split_is bs spares n = ap (λ m. record { lists = insert (slice_set bs n (take half_room (block_at bs n))) m (drop half_room (block_at bs n)); spares = spares - 1 }) (one_on n)

joined_is : (bs : List (List SlotId)) (spares n : ℕ) → record { lists = both bs n; spares = spares + 1 } ≡ joined (record { lists = bs; spares = spares }) n
joined_is bs spares n = ap (λ m. record { lists = slice_set (remove bs m) n (block_at bs n ++ block_at bs m); spares = spares + 1 }) (one_on n)

-- ---- one more
-- there is a spare block, where not all places are taken
pub spare_left : (bs : List (List SlotId)) (spares : ℕ) → AreTight half_room bs → length (flat bs) < 32 * (length bs + spares - 2) → 0 < spares
spare_left bs spares t room = let most = few half_room bs t in omega (arith, most, room)

-- the same list with the same place, in a block that has room for one more
pub record Roomy (s t : ViewedBlocks) (p q : Spot) : Type 0 where
  pub same : flat t.lists ≡ flat s.lists
  pub place : place_in t.lists q ≡ place_in s.lists p
  pub here : IsIn t.lists q
  pub room : length (block_at t.lists q.block) < block_room
  pub count : length t.lists + t.spares ≡ length s.lists + s.spares
  pub tight : (c : List SlotId) → length (block_at t.lists q.block) + 1 ≡ length c → AreTight half_room (slice_set t.lists q.block c)

first_block : (spares : ℕ) (p : Spot) → p.block ≡ 0 → p.at ≡ 0 → 0 < spares → Roomy (record { lists = []; spares = spares }) (opened (record { lists = []; spares = spares })) p p
first_block spares p e f some =
    let none : (n : ℕ) → block_at ([] ∷ []) n ≡ [] = empty in
    let size : length (block_at ([] ∷ []) p.block) ≡ 0 = ap length (none p.block) in
    record {
      same = refl;
      place = ap (λ n. n + p.at) (start p.block e);
      here = record { block = omega (arith, e); at = omega (arith, f) };
      room = omega (arith, size);
      count = omega (arith, some);
      tight = λ c long. subst (λ n. AreTight half_room (slice_set ([] ∷ []) n c)) (sym e) (omega (arith, size, long), (omega (arith, size, long), tt));
    }
  where
    start : (n : ℕ) → n ≡ 0 → before {A = SlotId} ([] ∷ []) n ≡ 0
    start zero e = refl
    start (suc n) e = absurd (omega (arith, e))

    empty : (n : ℕ) → block_at {A = SlotId} ([] ∷ []) n ≡ []
    empty zero = refl
    empty (suc n) = refl

module _ (bs : List (List SlotId)) (spares : ℕ) (p : Spot) (t : AreTight half_room bs) (l : p.block < length bs) (fits : p.at ≤ length (block_at bs p.block)) (some : 0 < spares) where
  full_block : length (block_at bs p.block) ≡ block_room → Roomy (record { lists = bs; spares = spares }) (split_at (record { lists = bs; spares = spares }) p.block) p (split_spot p)
  full_block full = subst (λ s. Roomy (record { lists = bs; spares = spares }) s p (split_spot p)) (split_is bs spares p.block) (by_half (nat_le p.at half_room) refl)
    where
      xs : List (List SlotId)
      xs = cut bs p.block half_room

      long : length xs ≡ length bs + 1
      long = cut_length bs p.block half_room l

      lower : length (block_at xs p.block) ≡ half_room
      lower = ap length (cut_lower bs p.block half_room l) ∙ length-take-le half_room (block_at bs p.block) (omega (arith, full))

      upper : length (block_at xs (p.block + 1)) ≡ half_room
      upper = let rest = length-drop half_room (block_at bs p.block) in ap (λ m. length (block_at xs m)) (sym (one_on p.block)) ∙ ap length (cut_upper bs p.block half_room l) ∙ omega (arith, rest, full)

      after : ViewedBlocks
      after = record { lists = xs; spares = spares - 1 }

      tight : AreTight half_room xs
      tight = tight_cut half_room bs p.block (omega arith) t l full

      by_half : (b : Bool) → nat_le p.at half_room ≡ b → Roomy (record { lists = bs; spares = spares }) after p (cond b p (record { block = p.block + 1; at = p.at - half_room }))
      by_half true e =
          let less = leb-true p.at half_room e in
          record {
            same = flat_cut bs p.block half_room l;
            place = ap (λ n. n + p.at) (cut_before bs p.block half_room l);
            here = record { block = omega (arith, long, l); at = omega (arith, lower, less) };
            room = omega (arith, lower);
            count = omega (arith, long, some);
            tight = λ c more. tight_set half_room xs p.block c tight (omega (arith, more));
          }
      by_half false e =
          let more = leb-false p.at half_room e in
          let next = ap (before xs) (sym (one_on p.block)) ∙ before_next xs p.block (omega (arith, long, l)) in
          let start = cut_before bs p.block half_room l in
          record {
            same = flat_cut bs p.block half_room l;
            place = omega (arith, next, start, lower, more);
            here = record { block = omega (arith, long, l); at = omega (arith, upper, more, full, fits) };
            room = omega (arith, upper);
            count = omega (arith, long, some);
            tight = λ c one. tight_set half_room xs (p.block + 1) c tight (omega (arith, one));
          }

  open_block : length (block_at bs p.block) < block_room → Roomy (record { lists = bs; spares = spares }) (record { lists = bs; spares = spares }) p p
  open_block room =
      record {
        same = refl;
        place = refl;
        here = record { block = l; at = fits };
        room = room;
        count = refl;
        tight = λ c one. tight_set half_room bs p.block c t (omega (arith, one));
      }

-- what makes room, by whether the block is full, and by whether there is none
abbrev by_full : ViewedBlocks → Spot → Bool → ViewedBlocks × Spot
by_full s p full = cond full (split_at s p.block, split_spot p) (s, p)

abbrev by_none : ViewedBlocks → Spot → Bool → ViewedBlocks × Spot
by_none s p none = cond none (opened s, p) (by_full s p (length (block_at s.lists p.block) == block_room))

pub makes_room : (bs : List (List SlotId)) (spares : ℕ) (p : Spot) → AreTight half_room bs → IsSpot bs p → 0 < spares → (0 < length bs → length (block_at bs p.block) ≤ block_room)
    → Roomy (record { lists = bs; spares = spares }) (roomy (record { lists = bs; spares = spares }) p).0 p (roomy (record { lists = bs; spares = spares }) p).1
makes_room [] spares p t at some fits = first_block spares p at.0 at.1 some
makes_room (b ∷ bs) spares p t at some fits = subst (λ none. Roomy (record { lists = b ∷ bs; spares = spares }) (by_none (record { lists = b ∷ bs; spares = spares }) p none).0 p (by_none (record { lists = b ∷ bs; spares = spares }) p none).1) (sym (ne_eqb (length (b ∷ bs)) 0 (λ e. omega (arith, e)))) (full_or (length (block_at (b ∷ bs) p.block) == block_room) refl)
  where
    below : (n : ℕ) → n ≤ block_room → (n ≡ block_room → ⊥) → n < block_room
    below n h other = omega (arith, h, other)

    full_or : (full : Bool) → (length (block_at (b ∷ bs) p.block) == block_room) ≡ full → Roomy (record { lists = b ∷ bs; spares = spares }) (by_full (record { lists = b ∷ bs; spares = spares }) p full).0 p (by_full (record { lists = b ∷ bs; spares = spares }) p full).1
    full_or true e = full_block (b ∷ bs) spares p t at.block at.at some (eqb-true (length (block_at (b ∷ bs) p.block)) block_room e)
    full_or false e = open_block (b ∷ bs) spares p t at.block at.at some (below (length (block_at (b ∷ bs) p.block)) (fits (omega arith)) (eqb-false (length (block_at (b ∷ bs) p.block)) block_room e))

-- a place in the list stands before its end
pub spot_within : (bs : List (List SlotId)) (p : Spot) → IsSpot bs p → place_in bs p ≤ length (flat bs)
spot_within [] p h = let at = h.1 in omega (arith, at)
spot_within (b ∷ bs) p h = let all = within (b ∷ bs) p.block h.block in let at = h.at in omega (arith, all, at)

-- what an insert leaves
pub record Inserted (s u : ViewedBlocks) (p : Spot) (x : SlotId) : Type 0 where
  pub same : flat u.lists ≡ insert (flat s.lists) (place_in s.lists p) x
  pub count : length u.lists + u.spares ≡ length s.lists + s.spares
  pub tight : AreTight half_room u.lists
  pub more : length (flat u.lists) ≡ length (flat s.lists) + 1

pub room_made : (s t : ViewedBlocks) (p q : Spot) → AreTight half_room s.lists → IsSpot s.lists p → 0 < s.spares → (0 < length s.lists → length (block_at s.lists p.block) ≤ block_room) → t ≡ (roomy s p).0 → q ≡ (roomy s p).1 → Roomy s t p q
room_made s t p q tight at spare fits e f = subst (λ v. Roomy s v p q) (sym e) (subst (λ o. Roomy s (roomy s p).0 p o) (sym f) (makes_room s.lists s.spares p tight at spare fits))

pub inserts : (s t u : ViewedBlocks) (p q : Spot) (x : SlotId) → IsSpot s.lists p → Roomy s t p q → u ≡ with_block t q.block (insert (block_at t.lists q.block) q.at x) → Inserted s u p x
inserts s t u p q x at r e =
    let same : flat u.lists ≡ insert (flat s.lists) (place_in s.lists p) x = ap (λ w. flat w.lists) e ∙ flat_insert t.lists q.block q.at x r.here.block r.here.at ∙ (λ i. insert (r.same i) (r.place i) x) in
    let long = length-set t.lists q.block (insert (block_at t.lists q.block) q.at x) in
    let size = length-insert (block_at t.lists q.block) q.at x r.here.at in
    let all = r.count in
    record {
      same = same;
      count = ap (λ w. length w.lists + w.spares) e ∙ omega (arith, long, all);
      tight = subst (λ w. AreTight half_room w.lists) (sym e) (r.tight (insert (block_at t.lists q.block) q.at x) (sym size));
      more = ap length same ∙ length-insert (flat s.lists) (place_in s.lists p) x (spot_within s.lists p at);
    }

-- ---- one less
pub small : (bs : List (List SlotId)) (n : ℕ) → is_small bs n ≡ true → (n + 1 < length bs) × (length (block_at bs n) + length (block_at bs (n + 1)) ≤ half_room)
small bs n h =
    let parts = and_parts (nat_lt 1 (length bs - n)) (nat_le (length (block_at bs n) + length (block_at bs (n + 1))) half_room) h in
    let next = ltb-true 1 (length bs - n) parts.0 in
    (omega (arith, next), leb-true (length (block_at bs n) + length (block_at bs (n + 1))) half_room parts.1)

large : (bs : List (List SlotId)) (n : ℕ) → is_small bs n ≡ false → n + 1 < length bs → half_room < length (block_at bs n) + length (block_at bs (n + 1))
large bs n h l = elim (and_cases (nat_lt 1 (length bs - n)) (nat_le (length (block_at bs n) + length (block_at bs (n + 1))) half_room) h) [
  | inl e ↦ absurd (let end = ltb-false 1 (length bs - n) e in omega (arith, end, l))
  | inr e ↦ leb-false (length (block_at bs n) + length (block_at bs (n + 1))) half_room e
]

-- the same list in blocks that are not too small
pub record Tidy (s t : ViewedBlocks) : Type 0 where
  pub same : flat t.lists ≡ flat s.lists
  pub count : length t.lists + t.spares ≡ length s.lists + s.spares
  pub tight : AreTight half_room t.lists

module _ (bs : List (List SlotId)) (spares n : ℕ) (c : List SlotId) (t : AreTight half_room bs) (l : n < length bs) (one : length c + 1 ≡ length (block_at bs n)) where
  abbrev pub set : List (List SlotId)
  set = slice_set bs n c

  abbrev pub now : ViewedBlocks
  now = record { lists = set; spares = spares }

  long : length set ≡ length bs
  long = length-set bs n c

  here : length (block_at set n) ≡ length c
  here = ap length (set_here bs n c l)

  next : length (block_at set (suc n)) ≡ length (block_at bs (suc n))
  next = ap length (set_next bs n c)

  gone : length (block_at set n) ≡ 0 → Tidy now (closed now n)
  gone none =
      let less = less_length set n (omega (arith, long, l)) in
      record {
        same = flat_less set n none;
        count = omega (arith, less);
        tight = subst (AreTight half_room) (sym (remove_set bs n c)) (tight_less half_room bs n t (omega (arith, none, here, one)));
      }

  with_next : is_small set n ≡ true → Tidy now (joined now n)
  with_next h =
      let both_small = small set n h in
      let less = both_length set n (omega (arith, both_small.0)) in
      subst (Tidy now) (joined_is set spares n) (record {
        same = flat_both set n (omega (arith, both_small.0));
        count = omega (arith, less);
        tight = tight_next half_room bs n c t (omega (arith, both_small.0, long)) one;
      })

  enough_next : is_small set n ≡ false → suc n < length bs → half_room < length c + length (block_at bs (suc n))
  enough_next big h = let enough = large set n big (omega (arith, h, long)) in let its = ap (λ m. length (block_at set m)) (sym (one_on n)) ∙ next in omega (arith, enough, here, its)

  with_last : is_small set n ≡ false → nat_lt 0 n ≡ true → is_small set (n - 1) ≡ true → Tidy now (joined now (n - 1))
  with_last big later h =
      let some = ltb-true 0 n later in
      let back : suc (n - 1) ≡ n = omega (arith, some) in
      let both_small = small set (n - 1) h in
      let less = both_length set (n - 1) (omega (arith, both_small.0)) in
      subst (Tidy now) (joined_is set spares (n - 1)) (record {
        same = flat_both set (n - 1) (omega (arith, both_small.0));
        count = omega (arith, less);
        tight = subst (λ m. AreTight half_room (both (slice_set bs m c) (n - 1))) back
            (tight_last half_room bs (n - 1) c t (omega (arith, l, some))
            (subst (λ m. suc m < length bs → half_room < length c + length (block_at bs (suc m))) (sym back) (enough_next big)));
      })

  as_it_is : (length (block_at set n) ≡ 0 → ⊥) → is_small set n ≡ false → (0 < n → is_small set (n - 1) ≡ false) → Tidy now now
  as_it_is some big bigger =
      record {
        same = refl;
        count = refl;
        tight = tight_kept half_room bs n c t l (positive (length c) (λ e. some (here ∙ e))) (λ e. let has = positive (length c) (λ z. some (here ∙ z)) in omega (arith, has))
            (λ k e. beside k e (large set k (subst (λ m. is_small set m ≡ false) (before_it k e) (bigger (omega (arith, e)))) (omega (arith, e, long, l))))
            (enough_next big);
      }
    where
      positive : (m : ℕ) → (m ≡ 0 → ⊥) → 0 < m
      positive m not_none = omega (arith, not_none)

      before_it : (k : ℕ) → suc k ≡ n → n - 1 ≡ k
      before_it k e = omega (arith, e)

      beside : (k : ℕ) → suc k ≡ n → half_room < length (block_at set k) + length (block_at set (k + 1)) → half_room < length (block_at bs k) + length c
      beside k e enough =
          let mine : length (block_at set (k + 1)) ≡ length c = ap (λ m. length (block_at set m)) (sym (one_on k) ∙ e) ∙ here in
          let its : length (block_at set k) ≡ length (block_at bs k) = ap length (ap (λ m. block_at (slice_set bs m c) k) (sym e) ∙ set_last bs k c) in
          omega (arith, enough, mine, its)

  pub closes_up : Tidy now (closed_up now n)
  closes_up = by_size (length (block_at set n) == 0) refl
    where
      by_last : (b : Bool) → (nat_lt 0 n && is_small set (n - 1)) ≡ b → (length (block_at set n) ≡ 0 → ⊥) → is_small set n ≡ false → Tidy now (cond b (joined now (n - 1)) now)
      by_last true h some big = let parts = and_parts (nat_lt 0 n) (is_small set (n - 1)) h in with_last big parts.0 parts.1
      by_last false h some big = as_it_is some big (λ later. elim (and_cases (nat_lt 0 n) (is_small set (n - 1)) h) [
        | inl e ↦ absurd (let first = ltb-false 0 n e in omega (arith, first, later))
        | inr e ↦ e
      ])

      by_next : (b : Bool) → is_small set n ≡ b → (length (block_at set n) ≡ 0 → ⊥) → Tidy now (cond b (joined now n) (cond (nat_lt 0 n && is_small set (n - 1)) (joined now (n - 1)) now))
      by_next true h some = with_next h
      by_next false h some = by_last (nat_lt 0 n && is_small set (n - 1)) refl some h

      by_size : (b : Bool) → (length (block_at set n) == 0) ≡ b → Tidy now (cond b (closed now n) (cond (is_small set n) (joined now n) (cond (nat_lt 0 n && is_small set (n - 1)) (joined now (n - 1)) now)))
      by_size true h = gone (eqb-true (length (block_at set n)) 0 h)
      by_size false h = by_next (is_small set n) refl (eqb-false (length (block_at set n)) 0 h)

-- what a removal leaves
pub record Removed (s u : ViewedBlocks) (p : Spot) : Type 0 where
  pub same : flat u.lists ≡ remove (flat s.lists) (place_in s.lists p)
  pub count : length u.lists + u.spares ≡ length s.lists + s.spares
  pub tight : AreTight half_room u.lists
  pub less : length (flat u.lists) + 1 ≡ length (flat s.lists)

pub removes : (s t u : ViewedBlocks) (p : Spot) → AreTight half_room s.lists → IsAt s.lists p → t ≡ with_block s p.block (remove (block_at s.lists p.block) p.at) → u ≡ closed_up t p.block → Removed s u p
removes s t u p tight at e f =
    let rest = remove (block_at s.lists p.block) p.at in
    let one = length-remove (block_at s.lists p.block) p.at at.at in
    let is : u ≡ closed_up (with_block s p.block rest) p.block = f ∙ ap (λ w. closed_up w p.block) e in
    let tidy = closes_up s.lists s.spares p.block rest tight at.block one in
    let same : flat u.lists ≡ remove (flat s.lists) (place_in s.lists p) = ap (λ w. flat w.lists) is ∙ tidy.same ∙ flat_remove s.lists p.block p.at at.block at.at in
    let long = length-set s.lists p.block rest in
    let all = tidy.count in
    let end = within s.lists p.block at.block in
    record {
      same = same;
      count = ap (λ w. length w.lists + w.spares) is ∙ omega (arith, all, long);
      tight = subst (λ w. AreTight half_room w.lists) (sym is) tidy.tight;
      less = ap (λ xs. length xs + 1) same ∙ length-remove (flat s.lists) (place_in s.lists p) (omega (arith, end, at.at));
    }
