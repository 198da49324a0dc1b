-- Places in a list in blocks: where a search ends, and what stands there.
use Rattle.std.specs.{Ordering.is_lt}
use Rattle.std.proofs.lemmas.Bool.{cases_lt, leb-true, leb-false}
use Rattle.std.proofs.lemmas.Option.{slice_get_past, slice_get_within, get_or_from_slice_get}
use Rattle.std.proofs.Common.{◌≡◌, ℕ, zero, suc, ◌+◌, ◌-◌, ◌<◌, ◌≤◌, Bool, true, false, cond, nat_le, inl, inr, List, [], ◌∷◌, length, Option, Some, None, option_map, IfSome, refl, sym, subst, ap, ◌∙◌, slice_index_or, slice_get, arith}
use Rattle.beldi_row.specs.Key.{RowKey}
use Rattle.beldi_region.specs.{Region.ViewedRegion, Region.find, Blocks.flat, Blocks.before, Blocks.block_at, Blocks.AreTight, Blocks.place_in, Blocks.IsAt, Blocks.IsSpot, Blocks.slot_at, Blocks.then_at, Blocks.next_or, Blocks.next_in, SlotOrder.side, SlotOrder.begins_past, SlotOrder.IsPast, SlotOrder.IsBlockPast, declared.region.SlotId.SlotId, declared.blocks.Spot.Spot, declared.order.Entry.Entry}
use Rattle.beldi_region.proofs.Flat.{before_next, before_all, within, item_at, item_or, tight_some}

module _ {A : Type 0} where
  pub before_none : (bs : List (List A)) → before bs 0 ≡ 0
  before_none [] = refl
  before_none (b ∷ bs) = refl

  pub first_spot : (bs : List (List A)) → IsSpot bs (record { block = 0; at = 0 })
  first_spot [] = (refl, refl)
  first_spot (b ∷ bs) = record { block = omega arith; at = omega arith }

  pub spot_in : (bs : List (List A)) (p : Spot) → p.block < length bs → p.at ≤ length (block_at bs p.block) → IsSpot bs p
  spot_in [] p l h = absurd (omega (arith, l))
  spot_in (b ∷ bs) p l h = record { block = l; at = h }

  no_block : (bs : List (List A)) (n : ℕ) → length bs ≤ n → block_at bs n ≡ []
  no_block [] n h = refl
  no_block (b ∷ bs) zero h = absurd (omega (arith, h))
  no_block (b ∷ bs) (suc n) h = no_block bs n (omega (arith, h))

  -- an item stands behind a place only in a block
  pub at_slot : (bs : List (List A)) (p : Spot) (x : A) → slot_at bs p ≡ Some x → IsAt bs p
  at_slot bs p x h = elim (cases_lt p.block (length bs)) [
    | inl l ↦ record { block = l; at = slice_get_within (block_at bs p.block) p.at x h }
    | inr g ↦ absurd (let out = slice_get_within (block_at bs p.block) p.at x h in let none = ap length (no_block bs p.block g) in omega (arith, out, none))
  ]

  pub at_within : (bs : List (List A)) (p : Spot) → IsAt bs p → place_in bs p < length (flat bs)
  at_within bs p h = let all = within bs p.block h.block in omega (arith, all, h.at)

  pub slot_is : (bs : List (List A)) (p : Spot) (x d : A) → slot_at bs p ≡ Some x → slice_index_or (flat bs) (place_in bs p) d ≡ x
  slot_is bs p x d h =
      let here = at_slot bs p x h in
      item_or bs p.block p.at d here.block here.at ∙ get_or_from_slice_get (block_at bs p.block) p.at x d h

  -- the place behind the last item
  pub at_end : (bs : List (List A)) (n : ℕ) → suc n ≡ length bs → before bs n + length (block_at bs n) ≡ length (flat bs)
  at_end bs n e = sym (before_next bs n (omega (arith, e))) ∙ before_all bs (suc n) e

  -- ---- the next item
  pub record Leads (bs : List (List A)) (p : Spot) (o : Option (A × Spot)) : Type 0 where
    pub slot : option_map (λ (n : A × Spot). n.0) o ≡ slice_get (flat bs) (place_in bs p)
    pub spot : IfSome o (λ n. IsSpot bs n.1)
    pub place : IfSome o (λ n. place_in bs n.1 ≡ place_in bs p + 1)

  module _ (m : ℕ) (bs : List (List A)) (p : Spot) (t : AreTight m bs) where
    ends : (n : ℕ) → p.block + 1 ≡ suc n → suc n ≡ length bs → p.at ≡ length (block_at bs p.block) → Leads bs p None
    ends n e last full =
        let same : n ≡ p.block = omega (arith, e) in
        let all = subst (λ i. before bs i + length (block_at bs i) ≡ length (flat bs)) same (at_end bs n last) in
        record { slot = sym (slice_get_past (flat bs) (place_in bs p) (omega (arith, all, full))); spot = tt; place = tt }

    here : (x : A) → slot_at bs p ≡ Some x → Leads bs p (Some (x, record { block = p.block; at = p.at + 1 }))
    here x h =
        let is = at_slot bs p x h in
        record {
          slot = sym (item_at bs p.block p.at is.block is.at ∙ h);
          spot = spot_in bs (record { block = p.block; at = p.at + 1 }) is.block (omega (arith, is.at));
          place = omega arith;
        }

    -- the first item of the next block
    there : (n : ℕ) → n ≡ suc p.block → n < length bs → p.at ≡ length (block_at bs p.block) → (o : Option A) → slice_get (block_at bs n) 0 ≡ o → Leads bs p (then_at n 1 o)
    there n e l full None h = absurd (empty (block_at bs n) h (tight_some m bs n t l))
      where
        empty : (b : List A) → slice_get b 0 ≡ None → 0 < length b → ⊥
        empty [] h some = omega (arith, some)
        empty (x ∷ b) h some = cc
    there n e l full (Some x) h =
        let some = tight_some m bs n t l in
        let next = ap (before bs) e ∙ before_next bs p.block (omega (arith, e, l)) in
        let at : before bs n + 0 ≡ before bs p.block + p.at = omega (arith, next, full) in
        record {
          slot = sym (ap (slice_get (flat bs)) (sym at) ∙ item_at bs n 0 l some ∙ h);
          spot = spot_in bs (record { block = n; at = 1 }) l (omega (arith, some));
          place = omega (arith, next, full);
        }

  at_last : (xs : List A) (i : ℕ) → slice_get xs i ≡ None → i ≤ length xs → i ≡ length xs
  at_last [] i h l = omega (arith, l)
  at_last (x ∷ xs) zero h l = absurd (cc)
  at_last (x ∷ xs) (suc i) h l = let rest = at_last xs i h (omega (arith, l)) in omega (arith, rest)

  pub leads_on : (m : ℕ) (bs : List (List A)) (p : Spot) → AreTight m bs → IsSpot bs p → Leads bs p (next_in bs p)
  leads_on m [] p t s = none_there (nat_le (0 - p.block) 1)
    where
      none_there : (b : Bool) → Leads [] p (cond b None None)
      none_there true = record { slot = refl; spot = tt; place = tt }
      none_there false = record { slot = refl; spot = tt; place = tt }
  leads_on m (b ∷ bs) p t s = by_slot (slot_at (b ∷ bs) p) refl
    where
      by_rest : (last : Bool) → nat_le (length (b ∷ bs) - p.block) 1 ≡ last → p.at ≡ length (block_at (b ∷ bs) p.block) → Leads (b ∷ bs) p (cond last None (then_at (p.block + 1) 1 (slice_get (block_at (b ∷ bs) (p.block + 1)) 0)))
      by_rest true h full = let last = leb-true (length (b ∷ bs) - p.block) 1 h in let in_it = s.block in ends m (b ∷ bs) p t p.block (omega arith) (omega (arith, last, in_it)) full
      by_rest false h full = let more = leb-false (length (b ∷ bs) - p.block) 1 h in there m (b ∷ bs) p t (p.block + 1) (omega arith) (omega (arith, more)) full (slice_get (block_at (b ∷ bs) (p.block + 1)) 0) refl

      by_slot : (o : Option A) → slot_at (b ∷ bs) p ≡ o → Leads (b ∷ bs) p (next_or (b ∷ bs) p o)
      by_slot (Some x) h = here m (b ∷ bs) p t x h
      by_slot None h = by_rest (nat_le (length (b ∷ bs) - p.block) 1) refl (at_last (block_at (b ∷ bs) p.block) p.at h s.at)

  -- behind the last one there is none
  pub none_behind : (xs : List A) (i : ℕ) → slice_get xs i ≡ None → length xs ≤ i
  none_behind [] i h = omega arith
  none_behind (x ∷ xs) zero h = absurd (cc)
  none_behind (x ∷ xs) (suc i) h = let rest = none_behind xs i h in omega (arith, rest)

  -- before a place behind some items of a block stands one
  pub one_before : (bs : List (List A)) (p : Spot) → IsSpot bs p → 0 < p.at → slot_at bs (record { block = p.block; at = p.at - 1 }) ≡ None → ⊥
  one_before [] p h some none = let at = h.1 in omega (arith, at, some)
  one_before (b ∷ bs) p h some none = let out = none_behind (block_at (b ∷ bs) p.block) (p.at - 1) none in let at = h.at in omega (arith, out, at, some)

-- ---- where a search ends
module _ (r : ViewedRegion Entry) (k : RowKey) where
  begins : (b : List SlotId) (d : SlotId) → 0 < length b → begins_past r k b ≡ true → is_lt (side k (find r (slice_index_or b 0 d))) ≡ true
  begins [] d some h = absurd (omega (arith, some))
  begins (x ∷ b) d some h = h

  pub some_slot : (b : List SlotId) → begins_past r k b ≡ false → 0 < length b
  some_slot [] h = absurd (cc)
  some_slot (x ∷ b) h = omega arith

  pub first_slot : (b : List SlotId) (j : ℕ) (d : SlotId) → begins_past r k b ≡ false → j + 1 ≡ 1 → is_lt (side k (find r (slice_index_or b j d))) ≡ false
  first_slot [] j d h e = absurd (cc)
  first_slot (x ∷ b) zero d h e = h
  first_slot (x ∷ b) (suc j) d h e = absurd (omega (arith, e))

  pub past_none : (m : ℕ) (bs : List (List SlotId)) → AreTight m bs → IsBlockPast r bs k 0 → IsPast r (flat bs) k (before bs 0 + 0)
  past_none m bs t h =
      let none = before_none bs in
      record {
        fits = omega (arith, none);
        below = λ j d e. absurd (omega (arith, e, none));
        above = λ d l. first bs t h (before bs 0 + 0) d (omega (arith, none)) l;
      }
    where
      first : (cs : List (List SlotId)) → AreTight m cs → IsBlockPast r cs k 0 → (i : ℕ) (d : SlotId) → i ≡ 0 → i < length (flat cs) → is_lt (side k (find r (slice_index_or (flat cs) i d))) ≡ true
      first [] u g i d e l = absurd (omega (arith, l))
      first ([] ∷ cs) u g i d e l = absurd (let some = u.0 in omega (arith, some))
      first ((x ∷ b) ∷ cs) u g i d e l = subst (λ j. is_lt (side k (find r (slice_index_or (flat ((x ∷ b) ∷ cs)) j d))) ≡ true) (sym e) (g.above (omega arith))

  pub past_in : (m : ℕ) (bs : List (List SlotId)) (behind n at : ℕ) → AreTight m bs → behind ≡ suc n → IsBlockPast r bs k behind → IsPast r (block_at bs n) k at → 0 < at → IsPast r (flat bs) k (before bs n + at)
  past_in m bs behind n at t e h p some =
      let fits = h.fits in
      let l : n < length bs = omega (arith, fits, e) in
      let all = within bs n l in
      let most = p.fits in
      record {
        fits = omega (arith, all, most);
        below = λ j d f.
            let i : before bs n + (at - 1) ≡ j = omega (arith, f, some) in
            ap (λ x. is_lt (side k (find r x))) (ap (λ i. slice_index_or (flat bs) i d) (sym i) ∙ item_or bs n (at - 1) d l (omega (arith, most, some)))
            ∙ p.below (at - 1) d (omega (arith, some));
        above = λ d less. elim (cases_lt at (length (block_at bs n))) [
          | inl in_it ↦ ap (λ x. is_lt (side k (find r x))) (item_or bs n at d l in_it) ∙ p.above d in_it
          | inr over ↦
              let full : at ≡ length (block_at bs n) = omega (arith, over, most) in
              let more : suc n < length bs = not_last d less full l in
              let next = before_next bs n l in
              let i : before bs (suc n) + 0 ≡ before bs n + at = omega (arith, next, full) in
              let has = tight_some m bs (suc n) t more in
              ap (λ x. is_lt (side k (find r x))) (ap (λ i. slice_index_or (flat bs) i d) (sym i) ∙ item_or bs (suc n) 0 d more has)
              ∙ begins (block_at bs (suc n)) d has (subst (λ i. begins_past r k (block_at bs i) ≡ true) e (h.above (omega (arith, e, more))))
        ];
      }
    where
      not_last : (d : SlotId) → before bs n + at < length (flat bs) → at ≡ length (block_at bs n) → n < length bs → suc n < length bs
      not_last d less full l = elim (cases_lt (suc n) (length bs)) [
        | inl more ↦ more
        | inr end ↦ absurd (let all = at_end bs n (omega (arith, end, l)) in omega (arith, all, less, full))
      ]
