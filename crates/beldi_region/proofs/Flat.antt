-- Lists in blocks: where an item stands among all, and what stays of the list as blocks change.
use Rattle.std.proofs.lemmas.List.{append_assoc, take-append-drop, length-append, length-take-le, length-drop, get_or_append_left, get_or-append-add}
use Rattle.std.proofs.lemmas.List.Edits.{insert-append_left, insert-append_right, remove-append_left, remove-append_right}
use Rattle.std.proofs.Common.{◌≡◌, ℕ, zero, suc, ◌+◌, ◌-◌, ◌*◌, ◌<◌, ◌≤◌, List, [], ◌∷◌, ◌++◌, length, take, drop, refl, sym, ap, ◌∙◌, slice_index_or, slice_get, slice_set, insert, remove, arith}
use Rattle.beldi_region.specs.{Blocks.block_room, Blocks.half_room, Blocks.flat, Blocks.before, Blocks.block_at, Blocks.AreTight}

from_zero : (n : ℕ) → 0 + n ≡ n
from_zero n = omega arith

module _ {A : Type 0} where
  insert_behind : (b f : List A) (p i : ℕ) (x : A) → i ≡ length b + p → insert (b ++ f) i x ≡ b ++ insert f p x
  insert_behind b f p i x e =
      let at : i - length b ≡ p = omega (arith, e) in
      insert-append_right b f (length b) i x refl (omega (arith, e)) ∙ ap (λ j. b ++ insert f j x) at

  remove_behind : (b f : List A) (p i : ℕ) → i ≡ length b + p → remove (b ++ f) i ≡ b ++ remove f p
  remove_behind b f p i e =
      let at : i - length b ≡ p = omega (arith, e) in
      remove-append_right b f (length b) i refl (omega (arith, e)) ∙ ap (λ j. b ++ remove f j) at

  get_left : (b f : List A) (i : ℕ) → i < length b → slice_get (b ++ f) i ≡ slice_get b i
  get_left [] f i l = absurd (omega (arith, l))
  get_left (x ∷ b) f zero l = refl
  get_left (x ∷ b) f (suc i) l = get_left b f i (omega (arith, l))

  get_right : (b f : List A) (j i : ℕ) → j ≡ length b + i → slice_get (b ++ f) j ≡ slice_get f i
  get_right [] f j i e = ap (slice_get f) (omega (arith, e))
  get_right (x ∷ b) f zero i e = absurd (omega (arith, e))
  get_right (x ∷ b) f (suc j) i e = get_right b f j i (omega (arith, e))

  no_items : (b : List A) → length b ≡ 0 → b ≡ []
  no_items [] h = refl
  no_items (x ∷ b) h = absurd (omega (arith, h))

  -- ---- places
  pub before_next : (bs : List (List A)) (n : ℕ) → n < length bs → before bs (suc n) ≡ before bs n + length (block_at bs n)
  before_next [] n l = absurd (omega (arith, l))
  before_next (b ∷ []) zero l = omega arith
  before_next (b ∷ c ∷ bs) zero l = omega arith
  before_next (b ∷ bs) (suc n) l = let rest = before_next bs n (omega (arith, l)) in omega (arith, rest)

  pub before_all : (bs : List (List A)) (n : ℕ) → n ≡ length bs → before bs n ≡ length (flat bs)
  before_all [] n l = refl
  before_all (b ∷ bs) zero l = absurd (omega (arith, l))
  before_all (b ∷ bs) (suc n) l = let rest = before_all bs n (omega (arith, l)) in let both = length-append b (flat bs) in omega (arith, rest, both)

  pub within : (bs : List (List A)) (n : ℕ) → n < length bs → before bs n + length (block_at bs n) ≤ length (flat bs)
  within [] n l = absurd (omega (arith, l))
  within (b ∷ bs) zero l = let both = length-append b (flat bs) in omega (arith, both)
  within (b ∷ bs) (suc n) l = let rest = within bs n (omega (arith, l)) in let both = length-append b (flat bs) in omega (arith, rest, both)

  pub before_set : (bs : List (List A)) (n : ℕ) (c : List A) → before (slice_set bs n c) n ≡ before bs n
  before_set [] n c = refl
  before_set (b ∷ bs) zero c = refl
  before_set (b ∷ bs) (suc n) c = ap (λ m. length b + m) (before_set bs n c)

  pub item_at : (bs : List (List A)) (n at : ℕ) → n < length bs → at < length (block_at bs n) → slice_get (flat bs) (before bs n + at) ≡ slice_get (block_at bs n) at
  item_at [] n at l h = absurd (omega (arith, l))
  item_at (b ∷ bs) zero at l h = ap (slice_get (b ++ flat bs)) (from_zero at) ∙ get_left b (flat bs) at h
  item_at (b ∷ bs) (suc n) at l h = get_right b (flat bs) (length b + before bs n + at) (before bs n + at) (omega arith) ∙ item_at bs n at (omega (arith, l)) h

  pub item_or : (bs : List (List A)) (n at : ℕ) (d : A) → n < length bs → at < length (block_at bs n) → slice_index_or (flat bs) (before bs n + at) d ≡ slice_index_or (block_at bs n) at d
  item_or [] n at d l h = absurd (omega (arith, l))
  item_or (b ∷ bs) zero at d l h = ap (λ j. slice_index_or (b ++ flat bs) j d) (from_zero at) ∙ get_or_append_left b (flat bs) d at h
  item_or (b ∷ bs) (suc n) at d l h =
      let i : length b + before bs n + at ≡ length b + (before bs n + at) = omega arith in
      ap (λ j. slice_index_or (b ++ flat bs) j d) i ∙ get_or-append-add b (flat bs) (before bs n + at) d ∙ item_or bs n at d (omega (arith, l)) h

  -- ---- what the changes of blocks leave of the list
  pub flat_insert : (bs : List (List A)) (n at : ℕ) (x : A) → n < length bs → at ≤ length (block_at bs n) → flat (slice_set bs n (insert (block_at bs n) at x)) ≡ insert (flat bs) (before bs n + at) x
  flat_insert [] n at x l h = absurd (omega (arith, l))
  flat_insert (b ∷ bs) zero at x l h = sym (ap (λ j. insert (b ++ flat bs) j x) (from_zero at) ∙ insert-append_left b (flat bs) at x h)
  flat_insert (b ∷ bs) (suc n) at x l h = ap (λ c. b ++ c) (flat_insert bs n at x (omega (arith, l)) h) ∙ sym (insert_behind b (flat bs) (before bs n + at) (length b + before bs n + at) x (omega arith))

  pub flat_remove : (bs : List (List A)) (n at : ℕ) → n < length bs → at < length (block_at bs n) → flat (slice_set bs n (remove (block_at bs n) at)) ≡ remove (flat bs) (before bs n + at)
  flat_remove [] n at l h = absurd (omega (arith, l))
  flat_remove (b ∷ bs) zero at l h = sym (ap (remove (b ++ flat bs)) (from_zero at) ∙ remove-append_left b (flat bs) at h)
  flat_remove (b ∷ bs) (suc n) at l h = ap (λ c. b ++ c) (flat_remove bs n at (omega (arith, l)) h) ∙ sym (remove_behind b (flat bs) (before bs n + at) (length b + before bs n + at) (omega arith))

  -- a block split in two
  abbrev pub cut : List (List A) → ℕ → ℕ → List (List A)
  cut bs n h = insert (slice_set bs n (take h (block_at bs n))) (suc n) (drop h (block_at bs n))

  pub flat_cut : (bs : List (List A)) (n h : ℕ) → n < length bs → flat (cut bs n h) ≡ flat bs
  flat_cut [] n h l = absurd (omega (arith, l))
  flat_cut (b ∷ bs) zero h l = sym (append_assoc (take h b) (drop h b) (flat bs)) ∙ ap (λ c. c ++ flat bs) (take-append-drop h b)
  flat_cut (b ∷ bs) (suc n) h l = ap (λ c. b ++ c) (flat_cut bs n h (omega (arith, l)))

  -- two blocks in one
  abbrev pub both : List (List A) → ℕ → List (List A)
  both bs n = slice_set (remove bs (suc n)) n (block_at bs n ++ block_at bs (suc n))

  pub flat_both : (bs : List (List A)) (n : ℕ) → suc n < length bs → flat (both bs n) ≡ flat bs
  flat_both [] n l = absurd (omega (arith, l))
  flat_both (b ∷ []) n l = absurd (omega (arith, l))
  flat_both (b ∷ c ∷ bs) zero l = append_assoc b c (flat bs)
  flat_both (b ∷ c ∷ bs) (suc n) l = ap (λ d. b ++ d) (flat_both (c ∷ bs) n (omega (arith, l)))

  pub flat_less : (bs : List (List A)) (n : ℕ) → length (block_at bs n) ≡ 0 → flat (remove bs n) ≡ flat bs
  flat_less [] zero h = refl
  flat_less [] (suc n) h = refl
  flat_less (b ∷ bs) zero h = sym (ap (λ c. c ++ flat bs) (no_items b h))
  flat_less (b ∷ bs) (suc n) h = ap (λ c. b ++ c) (flat_less bs n h)

  -- ---- the parts of a block that is split
  pub cut_length : (bs : List (List A)) (n h : ℕ) → n < length bs → length (cut bs n h) ≡ length bs + 1
  cut_length [] n h l = absurd (omega (arith, l))
  cut_length (b ∷ bs) zero h l = omega arith
  cut_length (b ∷ bs) (suc n) h l = let rest = cut_length bs n h (omega (arith, l)) in omega (arith, rest)

  pub cut_before : (bs : List (List A)) (n h : ℕ) → n < length bs → before (cut bs n h) n ≡ before bs n
  cut_before [] n h l = absurd (omega (arith, l))
  cut_before (b ∷ bs) zero h l = refl
  cut_before (b ∷ bs) (suc n) h l = ap (λ m. length b + m) (cut_before bs n h (omega (arith, l)))

  pub cut_lower : (bs : List (List A)) (n h : ℕ) → n < length bs → block_at (cut bs n h) n ≡ take h (block_at bs n)
  cut_lower [] n h l = absurd (omega (arith, l))
  cut_lower (b ∷ bs) zero h l = refl
  cut_lower (b ∷ bs) (suc n) h l = cut_lower bs n h (omega (arith, l))

  pub cut_upper : (bs : List (List A)) (n h : ℕ) → n < length bs → block_at (cut bs n h) (suc n) ≡ drop h (block_at bs n)
  cut_upper [] n h l = absurd (omega (arith, l))
  cut_upper (b ∷ bs) zero h l = refl
  cut_upper (b ∷ bs) (suc n) h l = cut_upper bs n h (omega (arith, l))

  pub both_length : (bs : List (List A)) (n : ℕ) → suc n < length bs → length (both bs n) + 1 ≡ length bs
  both_length [] n l = absurd (omega (arith, l))
  both_length (b ∷ []) n l = absurd (omega (arith, l))
  both_length (b ∷ c ∷ bs) zero l = omega arith
  both_length (b ∷ c ∷ bs) (suc n) l = let rest = both_length (c ∷ bs) n (omega (arith, l)) in omega (arith, rest)

  -- ---- blocks that are not too small
  pub tight_more : (m n : ℕ) (bs : List (List A)) → m ≤ n → AreTight m bs → AreTight n bs
  tight_more m n [] more t = tt
  tight_more m n (b ∷ bs) more t = let big = t.1.0 in (t.0, (omega (arith, big, more), t.1.1))

  pub tight_some : (m : ℕ) (bs : List (List A)) (n : ℕ) → AreTight m bs → n < length bs → 0 < length (block_at bs n)
  tight_some m [] n t l = absurd (omega (arith, l))
  tight_some m (b ∷ bs) zero t l = t.0
  tight_some m (b ∷ bs) (suc n) t l = tight_some (length b) bs n t.1.1 (omega (arith, l))

  -- each item but the last few counts for two blocks
  pub few : (m : ℕ) (bs : List (List A)) → AreTight m bs → 65 * length bs ≤ m + 2 * length (flat bs)
  few m [] t = omega arith
  few m (b ∷ bs) t = let rest = few (length b) bs t.1.1 in let big = t.1.0 in let all = length-append b (flat bs) in omega (arith, rest, big, all)

  -- a block has at least as many items as before
  pub tight_set : (m : ℕ) (bs : List (List A)) (n : ℕ) (c : List A) → AreTight m bs → length (block_at bs n) ≤ length c → AreTight m (slice_set bs n c)
  tight_set m [] n c t more = tt
  tight_set m (b ∷ bs) zero c t more = let some = t.0 in let big = t.1.0 in (omega (arith, some, more), (omega (arith, big, more), tight_more (length b) (length c) bs more t.1.1))
  tight_set m (b ∷ bs) (suc n) c t more = (t.0, (t.1.0, tight_set (length b) bs n c t.1.1 more))

  -- a block is split that is full
  pub tight_cut : (m : ℕ) (bs : List (List A)) (n : ℕ) → 0 < m → AreTight m bs → n < length bs → length (block_at bs n) ≡ block_room → AreTight m (cut bs n half_room)
  tight_cut m [] n some t l full = absurd (omega (arith, l))
  tight_cut m (b ∷ bs) zero some t l full =
      let lower = length-take-le half_room b (omega (arith, full)) in
      let upper = length-drop half_room b in
      (omega (arith, lower), (omega (arith, lower, some), (omega (arith, upper, full), (omega (arith, lower, upper, full), tight_rest bs t.1.1 upper))))
    where
      -- the next block has more than was needed beside a full one only where it has some; half a block is enough for that
      tight_rest : (cs : List (List A)) → AreTight (length b) cs → length (drop half_room b) ≡ length b - half_room → AreTight (length (drop half_room b)) cs
      tight_rest [] u e = tt
      tight_rest (c ∷ cs) u e = let has = u.0 in (u.0, (omega (arith, e, full, has), u.1.1))
  tight_cut m (b ∷ bs) (suc n) some t l full = (t.0, (t.1.0, tight_cut (length b) bs n t.0 t.1.1 (omega (arith, l)) full))

  -- a block with one item less, which has more than half of what a block has room for with each beside it
  pub tight_kept : (m : ℕ) (bs : List (List A)) (n : ℕ) (c : List A) → AreTight m bs → n < length bs → 0 < length c → (n ≡ 0 → half_room < m + length c) → ((k : ℕ) → suc k ≡ n → half_room < length (block_at bs k) + length c)
      → (suc n < length bs → half_room < length c + length (block_at bs (suc n))) → AreTight m (slice_set bs n c)
  tight_kept m [] n c t l some first last next = absurd (omega (arith, l))
  tight_kept m (b ∷ []) zero c t l some first last next = (some, (first refl, tt))
  tight_kept m (b ∷ d ∷ bs) zero c t l some first last next = (some, (first refl, (t.1.1.0, (next (omega arith), t.1.1.1.1))))
  tight_kept m (b ∷ bs) (suc n) c t l some first last next =
      (t.0, (t.1.0, tight_kept (length b) bs n c t.1.1 (omega (arith, l)) some (λ e. last 0 (omega (arith, e))) (λ k e. last (suc k) (omega (arith, e))) (λ h. next (omega (arith, h)))))

  -- a block without its only item is away
  pub tight_less : (m : ℕ) (bs : List (List A)) (n : ℕ) → AreTight m bs → length (block_at bs n) ≡ 1 → AreTight m (remove bs n)
  tight_less m [] zero t one = tt
  tight_less m [] (suc n) t one = tt
  tight_less m (b ∷ bs) zero t one = let big = t.1.0 in tight_more (length b) m bs (omega (arith, big, one)) t.1.1
  tight_less m (b ∷ bs) (suc n) t one = (t.0, (t.1.0, tight_less (length b) bs n t.1.1 one))

  -- a block with one item less has those of the next one too
  pub tight_next : (m : ℕ) (bs : List (List A)) (n : ℕ) (c : List A) → AreTight m bs → suc n < length bs → length c + 1 ≡ length (block_at bs n) → AreTight m (both (slice_set bs n c) n)
  tight_next m [] n c t l one = absurd (omega (arith, l))
  tight_next m (b ∷ []) n c t l one = absurd (omega (arith, l))
  tight_next m (b ∷ d ∷ bs) zero c t l one =
      let big = t.1.0 in
      let some = t.1.1.0 in
      let all = length-append c d in
      (omega (arith, all, some), (omega (arith, all, some, big, one), tight_more (length d) (length (c ++ d)) bs (omega (arith, all)) t.1.1.1.1))
  tight_next m (b ∷ d ∷ bs) (suc n) c t l one = (t.0, (t.1.0, tight_next (length b) (d ∷ bs) n c t.1.1 (omega (arith, l)) one))

  -- the one before it has its items too
  pub tight_last : (m : ℕ) (bs : List (List A)) (n : ℕ) (c : List A) → AreTight m bs → suc n < length bs → (suc (suc n) < length bs → half_room < length c + length (block_at bs (suc (suc n)))) → AreTight m (both (slice_set bs (suc n) c) n)
  tight_last m [] n c t l next = absurd (omega (arith, l))
  tight_last m (b ∷ []) n c t l next = absurd (omega (arith, l))
  tight_last m (b ∷ d ∷ []) zero c t l next =
      let big = t.1.0 in
      let some = t.0 in
      let all = length-append b c in
      (omega (arith, all, some), (omega (arith, all, big), tt))
  tight_last m (b ∷ d ∷ e ∷ bs) zero c t l next =
      let big = t.1.0 in
      let some = t.0 in
      let all = length-append b c in
      let more = next (omega arith) in
      (omega (arith, all, some), (omega (arith, all, big), (t.1.1.1.1.0, (omega (arith, all, more), t.1.1.1.1.1.1))))
  tight_last m (b ∷ d ∷ bs) (suc n) c t l next = (t.0, (t.1.0, tight_last (length b) (d ∷ bs) n c t.1.1 (omega (arith, l)) (λ h. next (omega (arith, h)))))

  -- ---- a block that was set
  pub set_here : (bs : List (List A)) (n : ℕ) (c : List A) → n < length bs → block_at (slice_set bs n c) n ≡ c
  set_here [] n c l = absurd (omega (arith, l))
  set_here (b ∷ bs) zero c l = refl
  set_here (b ∷ bs) (suc n) c l = set_here bs n c (omega (arith, l))

  pub set_next : (bs : List (List A)) (n : ℕ) (c : List A) → block_at (slice_set bs n c) (suc n) ≡ block_at bs (suc n)
  set_next [] n c = refl
  set_next (b ∷ []) zero c = refl
  set_next (b ∷ d ∷ bs) zero c = refl
  set_next (b ∷ bs) (suc n) c = set_next bs n c

  pub set_last : (bs : List (List A)) (n : ℕ) (c : List A) → block_at (slice_set bs (suc n) c) n ≡ block_at bs n
  set_last [] n c = refl
  set_last (b ∷ bs) zero c = refl
  set_last (b ∷ bs) (suc n) c = set_last bs n c

  pub remove_set : (bs : List (List A)) (n : ℕ) (c : List A) → remove (slice_set bs n c) n ≡ remove bs n
  remove_set [] n c = refl
  remove_set (b ∷ bs) zero c = refl
  remove_set (b ∷ bs) (suc n) c = ap (λ ds. b ∷ ds) (remove_set bs n c)

  pub less_length : (bs : List (List A)) (n : ℕ) → n < length bs → length (remove bs n) + 1 ≡ length bs
  less_length [] n l = absurd (omega (arith, l))
  less_length (b ∷ bs) zero l = omega arith
  less_length (b ∷ bs) (suc n) l = let rest = less_length bs n (omega (arith, l)) in omega (arith, rest)
