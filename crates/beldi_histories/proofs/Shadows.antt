-- Rows of shadows, those of one at a time, and what they show; and who got the items that have one.
use Rattle.beldi_histories.proofs.Names.{AllGot, Answer, Bool, ChangedAlone, Deployment, Got, Instance, IntentId, Item, Histories, LockedOut, None, Option, PlainState, Row, RowKey, Rows, SameShadows, ShadowShows, Shadows, Some, TxId, Value, and_right, ap, arith, content_in, effect_of, false, false_from_ne_true, got_before, got_by, inl, inr, is_aborted, is_eq, is_item, is_on, is_some, is_tx, is_writing, item_cmp, item_total, key_cmp, key_same, advanced, no_tail, not, refl, shadow_chain, shadow_key, shadow_of, shadow_row, subst, sym, tail, tail_value, tied_itself, touched, true, tx_begun, tx_now, value_at, writes_on, writing_at, ◌&&◌, ◌||◌, ◌∙◌, ◌≡◌, ◌⊎◌}
use Rattle.beldi_histories.proofs.{Acts.by_item, Acts.other_aside, Acts.shadow_same, Answers.true_false, Frame.moved_one, FrameAt.recorded_set, Cases.by_cases}
use Rattle.beldi_histories.proofs.Names.map

-- ---- one shadow
pub more_writes : (b c : Bool) (o : Option Row) (v : Value) → (b ≡ true → c ≡ true) → ShadowShows b o v → ShadowShows c o v
more_writes b c None v f h = tt
more_writes b c (Some r) v f (inl e) = inl (f e)
more_writes b c (Some r) v f (inr e) = inr e

pub of_row : (b : Bool) (o : Option Row) (v : Value) → (b ≡ true) ⊎ ((content_in o).value ≡ v) → ShadowShows b o v
of_row b None v h = tt
of_row b (Some r) v h = h

-- where no write is ahead, a shadow that is there has the value
pub there_value : (o : Option Row) (v : Value) → ShadowShows false o v → is_some o ≡ true → (content_in o).value ≡ v
there_value None v h is = cc
there_value (Some r) v (inl e) is = cc
there_value (Some r) v (inr e) is = e

-- a shadow that is there keeps its value
pub shown_again : (b : Bool) (m n : Rows) (t : TxId) (x : Item) (v : Value) → ShadowShows b (shadow_row m t x) v → is_some (shadow_row m t x) ≡ true → (shadow_of n t x).value ≡ (shadow_of m t x).value → (b ≡ true) ⊎ ((content_in (shadow_row n t x)).value ≡ v)
shown_again b m n t x v shows there same = by_row (shadow_row m t x) shows there (tail_value (shadow_chain m t x))
  where
    by_row : (o : Option Row) → ShadowShows b o v → is_some o ≡ true → (shadow_of m t x).value ≡ (content_in o).value → (b ≡ true) ⊎ ((content_in (shadow_row n t x)).value ≡ v)
    by_row None shows there held = cc
    by_row (Some r) (inl e) there held = inl e
    by_row (Some r) (inr e) there held = inr (sym (tail_value (shadow_chain n t x)) ∙ same ∙ held ∙ e)

-- where locks are taken more may be written
pub writing_more : (d : Deployment) (lock_ahead after : IntentId → Bool) (x : Item) (i : IntentId) (o : Option Instance) → (lock_ahead i ≡ true → after i ≡ true) → writing_at d lock_ahead x i o ≡ true → writing_at d after x i o ≡ true
writing_more d lock_ahead after x i None f e = e
writing_more d lock_ahead after x i (Some k) f e = by_lock (lock_ahead i) (after i) (writes_on x k.func (effect_of d k)) f e
  where
    by_lock : (l r w : Bool) → (l ≡ true → r ≡ true) → (l && w) ≡ true → (r && w) ≡ true
    by_lock l r w g e = grind arith

-- ---- the rows of a shadow change
module _ (m n : Rows) (t : TxId) (x : Item) (alone : ChangedAlone (shadow_key t x) m n) where
  key_there : (u : TxId) (y : Item) → ((u ≡ t) × (y ≡ x) → ⊥) → shadow_chain n u y ≡ shadow_chain m u y
  key_there u y apart = other_aside m n t x alone u y (false_from_ne_true (is_eq (key_cmp (shadow_key u y) (shadow_key t x))) (λ e. apart (shadow_same u t y x (key_same (shadow_key u y) (shadow_key t x) e))))

  -- they are no rows of another transaction
  pub others_rows : (u : TxId) (y : Item) → (u ≡ t → ⊥) → shadow_chain n u y ≡ shadow_chain m u y
  others_rows u y apart = key_there u y (λ same. apart same.0)

  pub row_set : (P : Item → Option Row → Type 0) → P x (shadow_row n t x) → ((y : Item) → is_eq (item_cmp x y) ≡ false → P y (shadow_row m t y)) → (y : Item) → P y (shadow_row n t y)
  row_set P here other y = by_item x y (λ y. P y (shadow_row n t y)) here
      (λ apart. subst (λ z. P y (tail z)) (sym (key_there t y (λ same. true_false (sym (ap is_eq (tied_itself item_total x)) ∙ ap (λ z. is_eq (item_cmp x z)) (sym same.1) ∙ apart)))) (other y apart))

  pub there_before : (u : TxId) (y : Item) → is_some (shadow_row n u y) ≡ true → ((u ≡ t) × (y ≡ x)) ⊎ (is_some (shadow_row m u y) ≡ true)
  there_before u y there = by_cases (is_eq (key_cmp (shadow_key u y) (shadow_key t x))) (λ e. inl (shadow_same u t y x (key_same (shadow_key u y) (shadow_key t x) e)))
      (λ e. inr (sym (ap (λ z. is_some (tail z)) (other_aside m n t x alone u y e)) ∙ there))

-- ---- what it got stays so
still_got : (had on l dead : Bool) → (l ≡ true → dead ≡ false) → (had || (l && on)) ≡ true → ((had || (on && not dead)) || false) ≡ true
still_got had on l dead f h = grind arith

got_moved : (d : Deployment) (t : TxId) (x : Item) (id : IntentId) (k : Instance) (a : Answer) (l : Bool) → (l ≡ true → is_aborted a ≡ false) → got_by d t x id l (Some k) ≡ true → got_by d t x id false (Some (advanced d id k a)) ≡ true
got_moved d t x id k a l f h = ap (λ b. b || false) ((moved_one d id k a).got t x) ∙ still_got (got_before d t x id k) (is_on t x k.func (tx_now d id k) (effect_of d k)) l (is_aborted a) f h

-- .. where no item was asked for
untouched_got : (had on l dead ahead : Bool) → on ≡ false → (had || (l && on)) ≡ true → ((had || (on && not dead)) || ahead) ≡ true
untouched_got had on l dead ahead off h = grind arith

pub got_passed : (d : Deployment) (t : TxId) (x : Item) (id : IntentId) (k : Instance) (a : Answer) (l : Bool) → touched (effect_of d k) ≡ None → got_by d t x id l (Some k) ≡ true → got_by d t x id l (Some (advanced d id k a)) ≡ true
got_passed d t x id k a l off h =
    let r = advanced d id k a in
    ap (λ b. b || (l && is_on t x r.func (tx_now d id r) (effect_of d r))) ((moved_one d id k a).got t x)
    ∙ untouched_got (got_before d t x id k) (is_on t x k.func (tx_now d id k) (effect_of d k)) l (is_aborted a) (l && is_on t x r.func (tx_now d id r) (effect_of d r)) (ap (λ o. is_tx t (tx_now d id k) && is_item x k.func o) off ∙ and_right (is_tx t (tx_now d id k)) false refl) h

more_ahead : (had on l r : Bool) → (l ≡ true → r ≡ true) → (had || (l && on)) ≡ true → (had || (r && on)) ≡ true
more_ahead had on l r f h = grind arith

got_if : (d : Deployment) (t : TxId) (x : Item) (id : IntentId) (o : Option Instance) (l r : Bool) → (l ≡ true → r ≡ true) → got_by d t x id l o ≡ true → got_by d t x id r o ≡ true
got_if d t x id None l r f h = h
got_if d t x id (Some k) l r f h = more_ahead (got_before d t x id k) (is_on t x k.func (tx_now d id k) (effect_of d k)) l r f h

-- ---- all that are there
-- by who got its item
pub got_still : (d : Deployment) (m n : Rows) (histories after : Histories) (lock_ahead unlocked : IntentId → Bool) → AllGot d m histories lock_ahead → ((t : TxId) (x : Item) → is_some (shadow_row n t x) ≡ true → is_some (shadow_row m t x) ≡ true)
    → ((t : TxId) (x : Item) (j : IntentId) → got_by d t x j (lock_ahead j) (map.get histories j) ≡ true → got_by d t x j (unlocked j) (map.get after j) ≡ true) → AllGot d n after unlocked
got_still d m n histories after lock_ahead unlocked h rows keeps t x there = let g = h t x (rows t x there) in record { member = g.member; got = keeps t x g.member g.got }

-- an instance was answered, whose lock was ahead or not
pub got_answered : (d : Deployment) (m : Rows) (histories : Histories) (lock_ahead : IntentId → Bool) → AllGot d m histories lock_ahead → (after : IntentId → Bool) (id : IntentId) (k : Instance) (a : Answer) → LockedOut lock_ahead after id → map.get histories id ≡ Some k → (lock_ahead id ≡ true → is_aborted a ≡ false) → AllGot d m (map.insert histories id (advanced d id k a)) after
got_answered d m histories lock_ahead h after id k a out is lives = got_still d m m histories (map.insert histories id (advanced d id k a)) lock_ahead after h (λ t x there. there) (λ t x. recorded_set histories id (advanced d id k a) (λ j w. got_by d t x j (lock_ahead j) (map.get histories j) ≡ true → got_by d t x j (after j) w ≡ true)
    (λ e. ap (λ l. got_by d t x id l (Some (advanced d id k a))) out.out ∙ got_moved d t x id k a (lock_ahead id) lives (sym (ap (got_by d t x id (lock_ahead id)) is) ∙ e))
    (λ j other e. ap (λ l. got_by d t x j l (map.get histories j)) (out.others j other) ∙ e))

pub got_set : (d : Deployment) (m : Rows) (histories : Histories) (lock_ahead : IntentId → Bool) → AllGot d m histories lock_ahead → (s : TxId) (y : Item) (n : Rows) → ChangedAlone (shadow_key s y) m n → Got d histories lock_ahead s y → AllGot d n histories lock_ahead
got_set d m histories lock_ahead h s y n alone own t x there = elim (there_before m n s y alone t x there) [
  | inl same ↦ subst (λ z. Got d histories lock_ahead z x) (sym same.0) (subst (λ z. Got d histories lock_ahead s z) (sym same.1) own)
  | inr e ↦ h t x e
]

-- rows that are no shadows, and locks that are taken
pub shadows_rows : (d : Deployment) (m n : Rows) (p : PlainState) (histories : Histories) (lock_ahead after : IntentId → Bool) → ((j : IntentId) → lock_ahead j ≡ true → after j ≡ true) → SameShadows m n → Shadows d m p histories lock_ahead → Shadows d n p histories after
shadows_rows d m n p histories lock_ahead after f same h = record {
  shows = λ id q made b. let g = h.shows id q made b in record {
    tx = g.tx;
    shadows = λ x. more_writes (is_writing d lock_ahead x g.tx.going) (is_writing d after x g.tx.going) (shadow_row n (tx_begun id q) x) (value_at g.tx.going.state x)
        (writing_more d lock_ahead after x g.tx.going.active (map.get g.tx.going.state.made g.tx.going.active) (f g.tx.going.active)) (subst (λ z. ShadowShows (is_writing d lock_ahead x g.tx.going) (tail z) (value_at g.tx.going.state x)) (sym (same (tx_begun id q) x)) (g.shadows x));
  };
  got = got_still d m n histories histories lock_ahead after h.got (λ t x there. sym (ap (λ z. is_some (tail z)) (same t x)) ∙ there) (λ t x j e. got_if d t x j (map.get histories j) (lock_ahead j) (after j) (f j) e);
}

-- at the start there is none, and no transaction
pub none_show : (d : Deployment) (m : Rows) (p : PlainState) (histories : Histories) (lock_ahead : IntentId → Bool) → ((k : RowKey) → map.get m k ≡ None) → ((id : IntentId) → map.get p.made id ≡ None) → Shadows d m p histories lock_ahead
none_show d m p histories lock_ahead rows none = record { shows = λ id q made b. let clash = sym (none id) ∙ made in cc; got = λ t x there. let clash = sym (ap is_some (no_tail (shadow_chain m t x) (rows (shadow_key t x)))) ∙ there in cc }
