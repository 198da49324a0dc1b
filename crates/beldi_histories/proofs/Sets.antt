-- An instance is made, or ends: it expects of items, shadows, locksets and reads what was expected of them, and its own rows or those of a call change.
use Rattle.beldi_histories.proofs.Names.{Bool, CallMatches, Content, Deployment, Instance, IntentId, IntentMatches, Item, ItemMatches, Kind, Histories, LocksetMatches, LogMatches, Matches, Option, Owner, Place, Row, RowKey, RowMatches, Rows, ShadowMatches, Some, TxId, TxsMatch, ap, content_of, ended_by, false, got_by, has_ended, has_no_hops, holds, is_eq, is_mark, is_some, key_cmp, lockset_ahead, expected_call, expected_lockset, expected_note, expected_shadow, expected_value, refl, set_row, shadow_of, subst, sym, true, tx_end, ℕ, ◌||◌, ◌∙◌, ◌≡◌}
use Rattle.beldi_histories.proofs.FrameAt.{recorded_set, item_alike, txs_alike, lockset_by, or_no, mark_alike, ahead_alike}
use Rattle.beldi_histories.proofs.{Acts.is_cell, Acts.log_set, Instances.EndMore, Instances.intent_stays}
use Rattle.beldi_histories.proofs.Names.map

-- what is at an id expects what was expected there, and has no lock ahead
pub record ExpectsStill (d : Deployment) (histories : Histories) (id : IntentId) (o : Option Instance) (s : Instance) : Type 0 where
  pub values : (f n : ℕ) → expected_value d f n (Some s) ≡ expected_value d f n o
  pub notes : (x : Item) (n : ℕ) → expected_note d x id false n (Some s) ≡ expected_note d x id false n o
  pub shadows : (t : TxId) (x : Item) (n : ℕ) → expected_shadow d t x id n (Some s) ≡ expected_shadow d t x id n o
  pub locksets : (b : ℕ) (x : Item) → expected_lockset d b x id (Some s) ≡ expected_lockset d b x id o
  pub got : (t : TxId) (x : Item) → got_by d t x id false (Some s) ≡ got_by d t x id false o
  pub held : (x : Item) → holds d x (Some s) ≡ holds d x o
  pub ends : (b : ℕ) → ended_by d b (Some s) ≡ ended_by d b o
  pub marks : (n : ℕ) → is_mark d histories n (Some s) ≡ false → is_mark d histories n o ≡ false
  pub behind : (b : ℕ) (x : Item) → lockset_ahead d histories b x id o ≡ false

-- rows that are no cells and no lockset row
abbrev pub is_log : Kind → Bool
is_log (Kind.Intent id) = true
is_log (Kind.Invoke a) = true
is_log k = false

pub no_cell : (k : Kind) → is_log k ≡ true → is_cell k ≡ false
no_cell (Kind.Data t k n) h = cc
no_cell (Kind.Shadow s t k n) h = cc
no_cell k h = refl

module _ (d : Deployment) (histories : Histories) (lock_ahead : IntentId → Bool) (id : IntentId) (s : Instance) (unlocked : lock_ahead id ≡ false) (owes : ExpectsStill d histories id (map.get histories id) s) where
  abbrev after : Histories
  after = map.insert histories id s

  as_before : {X : Type 0} (F : IntentId → Option Instance → X) → F id (Some s) ≡ F id (map.get histories id) → (j : IntentId) → F j (map.get after j) ≡ F j (map.get histories j)
  as_before F same j = recorded_set histories id s (λ j o. F j o ≡ F j (map.get histories j)) same (λ j other. refl) j

  ends_same : (t : TxId) → tx_end d after t ≡ tx_end d histories t
  ends_same t = as_before (λ j o. ended_by d t.begin o) (owes.ends t.begin) t.intent

  pub ended_more : EndMore (has_ended d histories) (has_ended d after)
  ended_more t e = ap is_some (ends_same t) ∙ e

  unmarked : (b : Place) → is_mark d after b.step (map.get after b.intent) ≡ false → is_mark d histories b.step (map.get histories b.intent) ≡ false
  unmarked b h = recorded_set histories id s (λ j o. is_mark d histories b.step o ≡ false → is_mark d histories b.step (map.get histories j) ≡ false) (owes.marks b.step) (λ j other g. g) b.intent (sym (mark_alike d histories after ends_same b.step (map.get after b.intent)) ∙ h)

  notes_same : (x : Item) (b : Place) → expected_note d x b.intent (lock_ahead b.intent) b.step (map.get after b.intent) ≡ expected_note d x b.intent (lock_ahead b.intent) b.step (map.get histories b.intent)
  notes_same x b = as_before (λ j o. expected_note d x j (lock_ahead j) b.step o) (subst (λ c. expected_note d x id c b.step (Some s) ≡ expected_note d x id c b.step (map.get histories id)) (sym unlocked) (owes.notes x b.step)) b.intent

  got_same : (t : TxId) (x : Item) (j : IntentId) → got_by d t x j (lock_ahead j) (map.get after j) ≡ got_by d t x j (lock_ahead j) (map.get histories j)
  got_same t x = as_before (λ j o. got_by d t x j (lock_ahead j) o) (subst (λ c. got_by d t x id c (Some s) ≡ got_by d t x id c (map.get histories id)) (sym unlocked) (owes.got t x))

  item_same : (x : Item) (c : Content) → ItemMatches d histories lock_ahead x c → ItemMatches d after lock_ahead x c
  item_same x = item_alike d histories after lock_ahead lock_ahead x (as_before (λ j o. holds d x o) (owes.held x)) unmarked (notes_same x)

  shadow_same : (t : TxId) (x : Item) (c : Content) → ShadowMatches d histories t x c → ShadowMatches d after t x c
  shadow_same t x c h b = h b ∙ sym (as_before (λ j o. expected_shadow d t x j b.step o) (owes.shadows t x b.step) b.intent)

  txs_same : (x : Item) (c : Option Owner) → TxsMatch d histories lock_ahead x c → TxsMatch d after lock_ahead x c
  txs_same x = txs_alike d histories after lock_ahead lock_ahead x (λ t. got_same t x) (λ t e. sym (ends_same t) ∙ e)

  lockset_same : (b : ℕ) (x : Item) (j : IntentId) (row : Option Row) → LocksetMatches row (expected_lockset d b x j (map.get histories j)) (lockset_ahead d histories b x j (map.get histories j)) → LocksetMatches row (expected_lockset d b x j (map.get after j)) (lockset_ahead d after b x j (map.get after j))
  lockset_same b x j row = lockset_by d histories after lock_ahead lock_ahead x b j row (λ at k. expected j ∙ k) (λ at k. ap (λ u. u || lockset_ahead d after b x j (map.get after j)) (expected j)
      ∙ recorded_set histories id s (λ i o. (expected_lockset d b x i (map.get histories i) || lockset_ahead d histories b x i (map.get histories i)) ≡ true → (expected_lockset d b x i (map.get histories i) || lockset_ahead d after b x i o) ≡ true)
      (λ k. ap (λ u. u || lockset_ahead d after b x id (Some s)) (sym (or_no (expected_lockset d b x id (map.get histories id))) ∙ ap (λ u. expected_lockset d b x id (map.get histories id) || u) (sym (owes.behind b x)) ∙ k))
      (λ i other k. ap (λ u. expected_lockset d b x i (map.get histories i) || u) (ahead_alike d histories after ends_same b x i (map.get histories i)) ∙ k) j k)
    where
      expected : (i : IntentId) → expected_lockset d b x i (map.get after i) ≡ expected_lockset d b x i (map.get histories i)
      expected i = as_before (λ i o. expected_lockset d b x i o) (owes.locksets b x) i

  -- a row matches still, where its own do and calls are expected as before
  pub row_same : (home : ℕ) (kind : Kind) (row : Option Row) → (kind ≡ Kind.Intent id → IntentMatches (has_ended d histories) (has_no_hops id.hops) home row (map.get histories id) → IntentMatches (has_ended d histories) (has_no_hops id.hops) home row (Some s))
      → ((b : Place) → kind ≡ Kind.Invoke b → expected_call after home b ≡ expected_call histories home b) → RowMatches d histories home kind row → RowMatches d after home kind row
  row_same home (Kind.Intent j) row own calls g = intent_stays (has_ended d histories) (has_ended d after) ended_more (has_no_hops j.hops) home row (map.get after j)
      (recorded_set histories id s (λ i o. i ≡ j → IntentMatches (has_ended d histories) (has_no_hops i.hops) home row (map.get histories i) → IntentMatches (has_ended d histories) (has_no_hops i.hops) home row o)
      (λ e k. own (ap Kind.Intent (sym e)) k) (λ i other e k. k) j refl g)
  row_same home (Kind.ReadLog b) row own calls g = subst (LogMatches row) (sym (as_before (λ j o. expected_value d home b.step o) (owes.values home b.step) b.intent)) g
  row_same home (Kind.Invoke b) row own calls g = subst (CallMatches row) (sym (calls b refl)) g
  row_same home (Kind.Lockset j b t k) row own calls g = lockset_same b (record { func = home; table = t; key = k }) j row g
  row_same home kind row own calls g = g

  -- it was set, with one row of an intent or of a call
  pub instance_set : (m : Rows) (k : RowKey) (v : Option Row) → is_log k.kind ≡ true → RowMatches d after k.home k.kind v
      → ((l : RowKey) → is_eq (key_cmp l k) ≡ false → l.kind ≡ Kind.Intent id → IntentMatches (has_ended d histories) (has_no_hops id.hops) l.home (map.get m l) (map.get histories id) → IntentMatches (has_ended d histories) (has_no_hops id.hops) l.home (map.get m l) (Some s))
      → ((l : RowKey) (b : Place) → is_eq (key_cmp l k) ≡ false → l.kind ≡ Kind.Invoke b → expected_call after l.home b ≡ expected_call histories l.home b) → Matches d m histories lock_ahead → Matches d (set_row m k v) after lock_ahead
  instance_set m k v kind here own calls h = log_set d after lock_ahead m k v (no_cell k.kind kind) here (λ l other. row_same l.home l.kind (map.get m l) (own l other) (λ b e. calls l b other e) (h.keys l)) h.chains h.asides
      (λ x. item_same x (content_of m x) (h.items x)) (λ t x. shadow_same t x (shadow_of m t x) (h.shadows t x)) (λ x. txs_same x (content_of m x).owner (h.txs x))

-- only a row of an intent or of a call was set, to one that matches as well
pub row_put : (d : Deployment) (histories : Histories) (lock_ahead : IntentId → Bool) (m : Rows) (k : RowKey) (v : Option Row) → is_log k.kind ≡ true → RowMatches d histories k.home k.kind v → Matches d m histories lock_ahead → Matches d (set_row m k v) histories lock_ahead
row_put d histories lock_ahead m k v kind here h = log_set d histories lock_ahead m k v (no_cell k.kind kind) here (λ l other. h.keys l) h.chains h.asides h.items h.shadows h.txs
