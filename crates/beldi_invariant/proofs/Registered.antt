-- A row of an intent or of a call was set: rows match what the histories have, after the row of a callee was put or a call was marked as registered, and a turn that does no more keeps all.
use Rattle.beldi_invariant.proofs.Names.{Body, Bool, CallMatches, CalleeMatches, Core, Deployment, FinishMatches, Frame, HasNoRow, IntentId, IntentMatches, InvokeRow, IsBodyOf, Kind, Histories, Matches, None, NoteRegistered, Option, OutcomeMatches, Place, PlainState, Invariant, Row, RowKey, Rows, SameShadows, Some, TxId, act, after_act, ap, arith, callee_put, cond, false, func_called, got, has_ended, has_finish, has_no_hops, invoke_key, is_row_log, is_shadow, is_some, is_waited, issued_at, key_self, option_map, expected_call, refl, register_to, row_put, set_others, set_row, subst, sym, true, unchanged, ℕ, ◌∙◌, ◌≡◌}
use Rattle.beldi_invariant.proofs.Frames.{NobodyJoins, NoFinish, is_entry, is_intent, frame_still, frame_row, items_stay, no_finish, no_new_finish, nobody_new}
use Rattle.beldi_invariant.proofs.{Keeping.set_shadows, Keeping.stays_by, Moves.Stays, Shown.log_values}
use Rattle.beldi_invariant.proofs.Names.map

-- ---- a row of an intent or of a call was set, and nothing else
log_kind : (k : Kind) → is_row_log k ≡ true → (is_shadow k ≡ false) × (is_entry k ≡ true)
log_kind k kind = grind arith

-- a row that is set keeps what others found there: that it is there, its finish, and the function that was called
pub record StaysRow (r v : Option Row) : Type 0 where
  pub there : is_some r ≡ true → is_some v ≡ true
  pub finish : has_finish r ≡ true → has_finish v ≡ true
  pub calls : (g : ℕ) → option_map func_called r ≡ Some g → option_map func_called v ≡ Some g

pub stays_same : (r : Option Row) → StaysRow r r
stays_same r = record { there = λ e. e; finish = λ e. e; calls = λ g e. e }

-- .. as a new one does
pub stays_new : (r v : Option Row) → r ≡ None → StaysRow r v
stays_new r v none = record {
  there = λ e. let clash = sym (ap is_some none) ∙ e in cc;
  finish = λ e. let clash = sym (ap has_finish none) ∙ e in cc;
  calls = λ g e. let clash = sym (ap (option_map func_called) none) ∙ e in cc;
}

-- .. a call that is marked, or has its result
pub stays_call : (r : Option Row) (x y : InvokeRow) → r ≡ Some (Row.Invoke x) → y.func ≡ x.func → StaysRow r (Some (Row.Invoke y))
stays_call r x y is func = record { there = λ e. refl; finish = λ e. let clash = sym (ap has_finish is) ∙ e in cc; calls = λ g e. ap Some func ∙ sym (ap (option_map func_called) is) ∙ e }

pub stays_marked : (now : ℕ) (r : Option Row) → StaysRow r (act NoteRegistered now r).0
stays_marked now None = stays_same None
stays_marked now (Some (Row.Invoke x)) = by_mark x x.registered
  where
    by_mark : (x : InvokeRow) (b : Bool) → StaysRow (Some (Row.Invoke x)) (Some (Row.Invoke (register_to x b).0))
    by_mark x b = grind arith
stays_marked now (Some w) = stays_same (Some w)

module _ (d : Deployment) (m : Rows) (k : RowKey) (v : Option Row) (kind : is_row_log k.kind ≡ true) where
  pub log_shadows : SameShadows m (set_row m k v)
  log_shadows = set_shadows m k v (log_kind k.kind kind).0

  -- the items are as before, and nobody joins a transaction that has ended
  pub log_frame : StaysRow (map.get m k) v → (p q : PlainState) (histories next : Histories) → q.items ≡ p.items → NobodyJoins d histories next → Frame d m (set_row m k v) p q histories next
  log_frame stays p q histories next items joins = by_row v stays
    where
      absent : (o : Option Row) → (is_some o ≡ true → false ≡ true) → None ≡ o
      absent o e = grind arith

      by_row : (v : Option Row) → StaysRow (map.get m k) v → Frame d m (set_row m k v) p q histories next
      by_row None s = subst (λ n. Frame d m n p q histories next) (sym (unchanged m k None (absent (map.get m k) s.there))) (frame_still d m p q histories next (items_stay d m p q next items) joins)
      by_row (Some w) s = frame_row d m p q histories next (items_stay d m p q next items) joins k (Some w) (log_kind k.kind kind).1 refl s.finish s.calls

  -- nothing else moves
  pub log_stays : (c : Core) (h : Invariant d c m) → StaysRow (map.get m k) v → NoFinish d m (set_row m k v) h.histories → Matches d (set_row m k v) h.histories h.lock_ahead → Stays h (set_row m k v)
  log_stays c h stays none rows = stays_by h (set_row m k v) log_shadows rows (log_values h k v kind) (log_frame stays h.plain h.plain h.histories h.histories refl (nobody_new d h.histories)) none

-- nobody gets a finish: the row is none of an intent, or had one before
pub no_intent : (d : Deployment) (m : Rows) (k : RowKey) (v : Option Row) (next : Histories) → is_intent k.kind ≡ false → NoFinish d m (set_row m k v) next
no_intent d m k v next off = no_finish m (set_row m k v) k (set_others m k v) d next off

pub no_more : (d : Deployment) (m : Rows) (k : RowKey) (v : Option Row) (next : Histories) → (has_finish v ≡ true → has_finish (map.get m k) ≡ true) → NoFinish d m (set_row m k v) next
no_more d m k v next before = no_new_finish m (set_row m k v) k (set_others m k v) d next (λ e. before (ap has_finish (sym (got m k k v ∙ ap (λ b. cond b v (map.get m k)) (key_self k))) ∙ e))

unfinished : (ended : TxId → Bool) (t : Option TxId) → FinishMatches ended t None None
unfinished ended t = grind arith

-- ---- a callee was registered: its row, which was not there, has its body
pub callee_registered : (d : Deployment) (m : Rows) (histories : Histories) (lock_ahead : IntentId → Bool) (id : IntentId) (b : Body) (now : ℕ) → has_no_hops id.hops ≡ false → IsBodyOf b (map.get histories id) → Matches d m histories lock_ahead
    → let key : RowKey = record { home = b.func; kind = Kind.Intent id } in map.get m key ≡ None → Matches d (set_row m key (Some (Row.Intent (issued_at now (Some b))))) histories lock_ahead
callee_registered d m histories lock_ahead id b now hops body h none = callee_put d histories lock_ahead m id b.func (issued_at now (Some b)) hops (record { finishes = unfinished (has_ended d histories) b.tx; body = (body, refl, by_wait (is_waited b.parent) refl) }) h
  where
    absent : HasNoRow b.func (map.get histories id)
    absent = subst (λ r. CalleeMatches (has_ended d histories) b.func r (map.get histories id)) none (subst (λ t. IntentMatches (has_ended d histories) t b.func (map.get m (record { home = b.func; kind = Kind.Intent id })) (map.get histories id)) hops (h.keys (record { home = b.func; kind = Kind.Intent id })))

    by_wait : (t : Bool) → is_waited b.parent ≡ t → OutcomeMatches t None body.instance.outcome
    by_wait t e = grind arith

-- ---- a call was marked as registered: no row expects that
module _ (d : Deployment) (m : Rows) (histories : Histories) (lock_ahead : IntentId → Bool) (home : ℕ) (a : Place) (now : ℕ) (h : Matches d m histories lock_ahead) where
  abbrev mark_key : RowKey
  mark_key = invoke_key home a

  put : (r : InvokeRow) → CallMatches (Some (Row.Invoke r)) (expected_call histories home a) → Matches d (set_row m mark_key (Some (Row.Invoke r))) histories lock_ahead
  put r there = row_put d histories lock_ahead m mark_key (Some (Row.Invoke r)) refl there h

  stays : (w : Option Row) → map.get m mark_key ≡ w → Matches d (set_row m mark_key w) histories lock_ahead
  stays w at = subst (λ n. Matches d n histories lock_ahead) (sym (unchanged m mark_key w (sym at))) h

  by_mark : (x : InvokeRow) (b : Bool) → x.registered ≡ b → map.get m mark_key ≡ Some (Row.Invoke x) → CallMatches (Some (Row.Invoke x)) (expected_call histories home a) → Matches d (set_row m mark_key (Some (Row.Invoke (register_to x b).0))) histories lock_ahead
  by_mark x true is at there = stays (Some (Row.Invoke x)) at
  by_mark x false is at there = put (record x { registered = true }) there

  by_row : (w : Option Row) → map.get m mark_key ≡ w → CallMatches w (expected_call histories home a) → Matches d (set_row m mark_key (act NoteRegistered now (map.get m mark_key)).0) histories lock_ahead
  by_row None at there = subst (λ z. Matches d (set_row m mark_key (act NoteRegistered now z).0) histories lock_ahead) (sym at) (stays None at)
  by_row (Some (Row.Invoke x)) at there = subst (λ z. Matches d (set_row m mark_key (act NoteRegistered now z).0) histories lock_ahead) (sym at) (by_mark x x.registered refl at there)
  by_row (Some w) at there = absurd there

  pub marked_registered : Matches d (after_act NoteRegistered now (invoke_key home a) m) histories lock_ahead
  marked_registered = by_row (map.get m (invoke_key home a)) refl (h.keys (invoke_key home a))
