-- What a turn outside transactions keeps, over rows whose shadows are as before.
use Rattle.beldi_invariant.proofs.Names.{Act, Answer, IsOutsideAll, Core, Deployment, Frame, IsConsistent, Instance, IntentId, IsOutside, Item, Items, Matches, None, Option, Invariant, Row, RowKey, Rows, SameShadows, Some, Tx, [], act, answered, arith, aside_apart, local_steps, content_of, false, goes_one, goes_set, got_new, got_next, grows_self, id_cmp, is_eq, is_shadow, is_some, kind_off, listed, advanced, outside_no_end, outside_parts, refl, rows_go, same_shadow, set_new, set_next, set_row, shadow_key, true, tx_begun, tx_now, value_at, value_of, with_instance, ℕ, ◌≡◌}
use Rattle.beldi_invariant.proofs.{Frames.NoFinish, Frames.frame_still, Frames.items_stay, Frames.nobody_new, Moves.Stays, Outside.outside_more, Others.kept_by, Others.kept_moving, Shown.legal_well_formed, Shown.settled, Shown.shown}
use Rattle.beldi_invariant.proofs.Names.map

-- rows as they were
pub as_it_was : {d : Deployment} {c : Core} {m : Rows} (h : Invariant d c m) → Stays h m
as_it_was {d} {c} {m} h = kept_by d c m m h h.plain h.histories h.lock_ahead (shown h) (grows_self h.histories) (frame_still d m h.plain h.plain h.histories h.histories (items_stay d m h.plain h.plain h.histories refl) (nobody_new d h.histories))

-- a row of another kind was set
pub set_shadows : (m : Rows) (k : RowKey) (v : Option Row) → is_shadow k.kind ≡ false → SameShadows m (set_row m k v)
set_shadows m k v kind t x = aside_apart m k v t x (kind_off is_shadow same_shadow (shadow_key t x) k refl kind)

module _ {d : Deployment} {c : Core} {m : Rows} (h : Invariant d c m) (n : Rows) (same : SameShadows m n) where
  -- nothing more is known
  pub goes_still : IsConsistent d n h.plain h.histories h.lock_ahead
  goes_still = record { extends = h.extends; shadows = rows_go d m n h.plain h.histories h.lock_ahead h.lock_ahead (λ j l. l) same h.shadows }

  -- an instance outside was answered, and stays outside or begins: over items that are the same where another transaction has got them
  pub goes_answered : (id : IntentId) (k : Instance) (a : Answer) → map.get h.histories id ≡ Some k → h.lock_ahead id ≡ false → tx_now d id k ≡ None → (items : Items)
      → ((j : IntentId) (z : Instance) → is_eq (id_cmp j id) ≡ false → (x : Item) → (content_of m x).owner ≡ Some (Tx (tx_begun j z)) → value_of items x ≡ value_at h.plain x)
      → IsConsistent d n (record { items = items; made = map.insert h.plain.made id (answered k a) }) (map.insert h.histories id (advanced d id k a)) h.lock_ahead
  goes_answered id k a is unlocked outside items agree =
      let parts = outside_parts d id k k.answers outside in
      let set = set_next d m h.plain h.histories h.lock_ahead h.shadows h.extends h.well_formed h.rows (legal_well_formed h) id k is a (outside_more d id k k.answers parts.0 parts.1 a) (outside_no_end d k true parts.0) in
      goes_set d m h.plain h.histories h.lock_ahead h.shadows h.extends id (answered k a) set n same h.well_formed h.rows (legal_well_formed h) items agree (got_next d m h.histories h.lock_ahead h.shadows.got n same id k is unlocked a)

  -- a new one is made
  pub goes_made : (id : IntentId) (s : Instance) → map.get h.histories id ≡ None → s.answers ≡ [] → IsOutside d s s.answers → IsOutsideAll d h.plain id → IsConsistent d n (with_instance h.plain id s) (map.insert h.histories id (local_steps d id s)) h.lock_ahead
  goes_made id s new bare out apart =
      let set = set_new d m h.plain h.histories h.lock_ahead h.shadows h.extends h.well_formed h.rows (legal_well_formed h) id new s bare out apart in
      goes_one d m h.plain h.histories h.lock_ahead h.shadows h.extends id s set n same (got_new d m h.histories h.lock_ahead h.shadows.got n same id new (local_steps d id s))

  -- .. so the plain state and the histories may stay
  pub stays_by : Matches d n h.histories h.lock_ahead → ((x : Item) → listed n x ≡ value_at h.plain x) → Frame d m n h.plain h.plain h.histories h.histories → NoFinish d m n h.histories → Stays h n
  stays_by rows values frame none = kept_moving h n h.plain h.histories h.lock_ahead goes_still h.ahead_at_ends h.well_formed rows values (settled h) (grows_self h.histories) frame none
