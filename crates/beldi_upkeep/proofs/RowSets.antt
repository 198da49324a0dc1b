-- What an act on the row of an intent, or of a call, leaves.
use Rattle.beldi_value.proofs.Callees.{no_root}
use Rattle.beldi_row.specs.declared.act.Act.TheVariants.{Bind, CallBack, Issue, NoteRegistered, OpenInvoke, Register}
use Rattle.beldi_invariant.proofs.Names.{Body, Bool, ByTx, Core, IntentId, IntentRow, InvokeRow, Item, None, Option, Outcome, Row, RowKey, Rows, Some, TxId, Value, act, after_act, ap, bind_to, call_back_to, call_in, child_of, cond, content_of, false, got, has_finish, intent_key, invoke_key, is_eq, is_some, is_waited, issued_at, key_cmp, key_in, key_self, opened, place_of, refl, register_to, root_key, root_of, same_some, set_others, set_row, subst, sym, true, unchanged, ℕ, ◌∙◌, ◌≡◌}
use Rattle.beldi_invariant.proofs.Names.map
use Rattle.beldi_invokelog.specs.InvokeLog.{call_at, registered_in}
use Rattle.beldi_upkeep.specs.Callees.{AllFinished, HasBody, Seats, owner_key}
use Rattle.beldi_upkeep.proofs.{Leaving.IsPassedBy, Leaving.Leaves, Leaving.leaves_still, SeatRows.call_on, SeatRows.call_seats, SeatRows.finished_off, SeatRows.finished_set, SeatRows.intent_on, SeatRows.intent_seats}
use Rattle.beldi_value.specs.Id.{has_no_hops}

-- what is there after a row was set
pub set_here : (m : Rows) (k : RowKey) (v : Option Row) → map.get (set_row m k v) k ≡ v
set_here m k v = got m k k v ∙ ap (λ b. cond b v (map.get m k)) (key_self k)

invoke_of : {x y : InvokeRow} → Some (Row.Invoke x) ≡ Some (Row.Invoke y) → x ≡ y
invoke_of h = cc

intent_of : {x y : IntentRow} → Some (Row.Intent x) ≡ Some (Row.Intent y) → x ≡ y
intent_of h = cc

module _ (c : Core) (m : Rows) (h : Seats m) where
  -- a row that stays as it is
  pub unmoved : (k : RowKey) (v : Option Row) → v ≡ map.get m k → Leaves c m (set_row m k v)
  unmoved k v same = leaves_still c m h (set_row m k v) (unchanged m k v same)

  set_stays : (k : RowKey) (r : Row) (l : RowKey) → is_some (map.get m l) ≡ true → is_some (map.get (set_row m k (Some r)) l) ≡ true
  set_stays k r l there = ap is_some (got m k l (Some r)) ∙ by_test (is_eq (key_cmp l k))
    where
      by_test : (b : Bool) → is_some (cond b (Some r) (map.get m l)) ≡ true
      by_test true = refl
      by_test false = there

  -- ---- the row of a call
  module _ (f : ℕ) (i : IntentId) (p : ℕ) (y : InvokeRow) where
    abbrev call : RowKey
    call = invoke_key f (place_of i p)

    call_now : (x : InvokeRow) → map.get (set_row m call (Some (Row.Invoke y))) call ≡ Some (Row.Invoke x) → y ≡ x
    call_now x at = invoke_of (sym (set_here m call (Some (Row.Invoke y))) ∙ at)

    pub call_put : is_some (map.get m (intent_key i f)) ≡ true
        → ((home : ℕ) (r : IntentRow) (b : Body) → y.registered ≡ false → HasBody m home (child_of i p) r b → is_waited b.parent ≡ false → r.outcome ≡ None)
        → (y.registered ≡ true → is_some (map.get m (key_in y.func (child_of i p))) ≡ true)
        → (registered_in (call_at m call) ≡ true → y.registered ≡ true) → Leaves c m (set_row m call (Some (Row.Invoke y)))
    call_put seat is_open enrolls marks = record {
      seats = call_seats m n f i p same stay seated h (λ x home r b at none body idle. is_open home r b (ap (λ (z : InvokeRow). z.registered) (call_now x at) ∙ none) body idle)
          (λ x at is. subst (λ (z : InvokeRow). is_some (map.get m (key_in z.func (child_of i p))) ≡ true) (call_now x at) (enrolls (ap (λ (z : InvokeRow). z.registered) (call_now x at) ∙ is)));
      on = call_on m n f i p same stay (λ was. ap (λ r. registered_in (call_in r)) (set_here m call (Some (Row.Invoke y))) ∙ marks was);
      finished = λ t passed all. finished_off m n (invoke_key f (place_of i p)) same refl t all;
    }
      where
        n : Rows
        n = set_row m (invoke_key f (place_of i p)) (Some (Row.Invoke y))

        same : (l : RowKey) → is_eq (key_cmp l (invoke_key f (place_of i p))) ≡ false → map.get (set_row m (invoke_key f (place_of i p)) (Some (Row.Invoke y))) l ≡ map.get m l
        same l off = set_others m (invoke_key f (place_of i p)) (Some (Row.Invoke y)) l off

        stay : (l : RowKey) → is_some (map.get m l) ≡ true → is_some (map.get (set_row m (invoke_key f (place_of i p)) (Some (Row.Invoke y))) l) ≡ true
        stay = set_stays (invoke_key f (place_of i p)) (Row.Invoke y)

        seated : (j : IntentId) → Some i ≡ Some j → is_some (map.get (set_row m (invoke_key f (place_of i p)) (Some (Row.Invoke y))) (intent_key j f)) ≡ true
        seated j is = subst (λ z. is_some (map.get (set_row m (invoke_key f (place_of i p)) (Some (Row.Invoke y))) (intent_key z f)) ≡ true) (same_some is) (stay (intent_key i f) seat)

  module _ (now : ℕ) (f : ℕ) (i : IntentId) (p : ℕ) where
    abbrev key : RowKey
    key = invoke_key f (place_of i p)

    -- a call is opened, whose callee, if it has a row, has not ended
    pub opens : (func : ℕ) → is_some (map.get m (intent_key i f)) ≡ true → (map.get m key ≡ None → (home : ℕ) (r : IntentRow) (b : Body) → HasBody m home (child_of i p) r b → ⊥) → Leaves c m (after_act (OpenInvoke func) now key m)
    opens func seat none = by_row (map.get m key) refl
      where
        by_row : (o : Option Row) → map.get m key ≡ o → Leaves c m (set_row m key (act (OpenInvoke func) now o).0)
        by_row (Some w) at = unmoved key (Some w) (sym at)
        by_row None at = call_put f i p (opened func) seat (λ home r b is body idle. absurd (none at home r b body)) (λ is. cc) (λ was. let clash = sym was ∙ ap (λ r. registered_in (call_in r)) at in cc)

    seat_there : (x : InvokeRow) → map.get m key ≡ Some (Row.Invoke x) → is_some (map.get m (intent_key i f)) ≡ true
    seat_there x at = h.has_seat key i refl (ap is_some at)

    -- a call has its result
    pub returns : (o : Outcome) → Leaves c m (after_act (CallBack o) now key m)
    returns o = by_row (map.get m key) refl
      where
        by_result : (x : InvokeRow) (u : Option Outcome) → map.get m key ≡ Some (Row.Invoke x) → Leaves c m (set_row m key (Some (Row.Invoke (call_back_to o x u).0)))
        by_result x (Some u) at = unmoved key (Some (Row.Invoke x)) (sym at)
        by_result x None at = call_put f i p (record x { result = Some o }) (seat_there x at) (λ home r b is body idle. h.registered f i p x home r b at is body idle) (λ is. h.enrolled f i p x at is)
            (λ was. ap (λ r. registered_in (call_in r)) (sym at) ∙ was)

        by_row : (w : Option Row) → map.get m key ≡ w → Leaves c m (set_row m key (act (CallBack o) now w).0)
        by_row None at = unmoved key None (sym at)
        by_row (Some (Row.Invoke x)) at = by_result x x.result at
        by_row (Some w) at = unmoved key (Some w) (sym at)

    -- a call is marked, whose callee has its row
    pub marks : ((x : InvokeRow) → map.get m key ≡ Some (Row.Invoke x) → is_some (map.get m (key_in x.func (child_of i p))) ≡ true) → Leaves c m (after_act NoteRegistered now key m)
    marks there = by_row (map.get m key) refl
      where
        by_mark : (x : InvokeRow) (b : Bool) → map.get m key ≡ Some (Row.Invoke x) → Leaves c m (set_row m key (Some (Row.Invoke (register_to x b).0)))
        by_mark x true at = unmoved key (Some (Row.Invoke x)) (sym at)
        by_mark x false at = call_put f i p (record x { registered = true }) (seat_there x at) (λ home r b is. cc) (λ is. there x at) (λ was. refl)

        by_row : (w : Option Row) → map.get m key ≡ w → Leaves c m (set_row m key (act NoteRegistered now w).0)
        by_row None at = unmoved key None (sym at)
        by_row (Some (Row.Invoke x)) at = by_mark x x.registered at
        by_row (Some w) at = unmoved key (Some w) (sym at)

  -- ---- the row of an intent
  module _ (home : ℕ) (id : IntentId) (s : IntentRow) where
    abbrev own : RowKey
    own = key_in home id

    abbrev row : Row
    row = Row.Intent s

    body_now : (r : IntentRow) (b : Body) → HasBody (set_row m own (Some row)) home id r b → (s ≡ r) × (s.body ≡ Some b)
    body_now r b body = let same = intent_of (sym (set_here m own (Some row)) ∙ body.there) in (same, ap (λ (z : IntentRow). z.body) same ∙ body.body)

    pub intent_put : intent_key id home ≡ key_in home id
        -- it ends an owner of transactions only where all have their finish, and nothing is owned
        → (is_some s.finish ≡ true → has_finish (map.get m own) ≡ false → (t : TxId) → owner_key t ≡ own → AllFinished m t × ((x : Item) → (content_of m x).owner ≡ Some (ByTx t) → ⊥))
        -- where it took part in one, it has its finish, or the owner has none, and is not past it
        → ((t : TxId) (b : Body) → s.body ≡ Some b → b.tx ≡ Some t → is_some s.finish ≡ false → (has_finish (map.get m (owner_key t)) ≡ true → ⊥) × (IsPassedBy c t → ⊥))
        -- and its outcome only where its call says that it is registered
        → ((f : ℕ) (i : IntentId) (p : ℕ) (x : InvokeRow) (b : Body) → map.get m (invoke_key f (place_of i p)) ≡ Some (Row.Invoke x) → x.registered ≡ false → child_of i p ≡ id → s.body ≡ Some b → is_waited b.parent ≡ false → s.outcome ≡ None)
        → Leaves c m (set_row m own (Some row))
    intent_put seat ends part outcome = record {
      seats = intent_seats m n home id same stay seated h
          (λ t one over before. ends (ap has_finish (sym here) ∙ over) before t one)
          (λ t r b over body in_it. let k = body_now r b body in subst (λ (z : IntentRow). is_some z.finish ≡ true) k.0 (by_finish t b k.1 in_it (λ none. owner_before t none over) (is_some s.finish) refl))
          (λ f i p x r b at is_open child body idle. let k = body_now r b body in ap (λ (z : IntentRow). z.outcome) (sym k.0) ∙ outcome f i p x b at is_open child k.1 idle);
      on = intent_on m n home id same stay;
      finished = λ t passed all. finished_set m n home id same stay t (λ r b body in_it. let k = body_now r b body in subst (λ (z : IntentRow). is_some z.finish ≡ true) k.0 (by_passed t b k.1 in_it passed (is_some s.finish) refl)) all;
    }
      where
        n : Rows
        n = set_row m (key_in home id) (Some (Row.Intent s))

        here : map.get (set_row m (key_in home id) (Some (Row.Intent s))) (key_in home id) ≡ Some (Row.Intent s)
        here = set_here m (key_in home id) (Some (Row.Intent s))

        same : (l : RowKey) → is_eq (key_cmp l (key_in home id)) ≡ false → map.get (set_row m (key_in home id) (Some (Row.Intent s))) l ≡ map.get m l
        same l off = set_others m (key_in home id) (Some (Row.Intent s)) l off

        stay : (l : RowKey) → is_some (map.get m l) ≡ true → is_some (map.get (set_row m (key_in home id) (Some (Row.Intent s))) l) ≡ true
        stay = set_stays (key_in home id) (Row.Intent s)

        seated : (j : IntentId) → Some id ≡ Some j → is_some (map.get (set_row m (key_in home id) (Some (Row.Intent s))) (intent_key j home)) ≡ true
        seated j is = subst (λ z. is_some (map.get (set_row m (key_in home id) (Some (Row.Intent s))) (intent_key z home)) ≡ true) (same_some is) (ap (λ k. is_some (map.get (set_row m (key_in home id) (Some (Row.Intent s))) k)) seat ∙ ap is_some here)

        -- an owner that is finished was so before, where this row has no finish
        owner_before : (t : TxId) → is_some s.finish ≡ false → has_finish (map.get (set_row m (key_in home id) (Some (Row.Intent s))) (owner_key t)) ≡ true → has_finish (map.get m (owner_key t)) ≡ true
        owner_before t none over = by_test (is_eq (key_cmp (owner_key t) (key_in home id))) (sym (ap has_finish (got m (key_in home id) (owner_key t) (Some (Row.Intent s)))) ∙ over)
          where
            by_test : (b : Bool) → has_finish (cond b (Some (Row.Intent s)) (map.get m (owner_key t))) ≡ true → has_finish (map.get m (owner_key t)) ≡ true
            by_test true e = let clash = sym none ∙ e in cc
            by_test false e = e

        by_finish : (t : TxId) (b : Body) → s.body ≡ Some b → b.tx ≡ Some t → (is_some s.finish ≡ false → has_finish (map.get m (owner_key t)) ≡ true) → (f : Bool) → is_some s.finish ≡ f → f ≡ true
        by_finish t b is in_it over true e = refl
        by_finish t b is in_it over false e = absurd ((part t b is in_it e).0 (over e))

        by_passed : (t : TxId) (b : Body) → s.body ≡ Some b → b.tx ≡ Some t → IsPassedBy c t → (f : Bool) → is_some s.finish ≡ f → f ≡ true
        by_passed t b is in_it passed true e = refl
        by_passed t b is in_it passed false e = absurd ((part t b is in_it e).1 passed)

  -- ---- roots
  module _ (now t : ℕ) where
    abbrev root : RowKey
    root = root_key t

    pub issues : Leaves c m (after_act Issue now root m)
    issues = by_row (map.get m root) refl
      where
        by_row : (o : Option Row) → map.get m root ≡ o → Leaves c m (set_row m root (act Issue now o).0)
        by_row (Some w) at = unmoved root (Some w) (sym at)
        by_row None at = intent_put 0 (root_of t) (issued_at now None) refl (λ over before s one. cc) (λ s b is. cc) (λ f i p x b at is_open child is. cc)

    pub binds : (func : ℕ) (a : Value) → Leaves c m (after_act (Bind func a) now root m)
    binds func a = by_row (map.get m root) refl
      where
        by_body : (i : IntentRow) (b : Option Body) → i.body ≡ b → map.get m root ≡ Some (Row.Intent i) → Leaves c m (set_row m root (Some (Row.Intent (bind_to func a i b).0)))
        by_body i (Some b) is at = unmoved root (Some (Row.Intent i)) (sym at)
        by_body i None is at = intent_put 0 (root_of t) (record i { body = Some (record { func = func; args = a; tx = None; parent = None }) }) refl
            (λ over before s one. let clash = sym over ∙ sym (ap has_finish at) ∙ before in cc)
            (λ s b is in_it. let clash = ap (λ (z : Body). z.tx) (same_some is) ∙ in_it in cc)
            (λ f j p x b at is_open child is. let clash = sym (no_root j p) ∙ ap (λ (z : IntentId). has_no_hops z.hops) child in cc)

        by_row : (o : Option Row) → map.get m root ≡ o → Leaves c m (set_row m root (act (Bind func a) now o).0)
        by_row None at = unmoved root None (sym at)
        by_row (Some (Row.Intent i)) at = by_body i i.body refl at
        by_row (Some w) at = unmoved root (Some w) (sym at)

  -- ---- who is called gets its row
  module _ (now : ℕ) (id : IntentId) (b : Body) (seat : intent_key id b.func ≡ key_in b.func id) where
    abbrev callee : RowKey
    callee = key_in b.func id

    pub registers : (map.get m callee ≡ None → (t : TxId) → b.tx ≡ Some t → (has_finish (map.get m (owner_key t)) ≡ true → ⊥) × (IsPassedBy c t → ⊥)) → Leaves c m (after_act (Register b) now callee m)
    registers is_open = by_row (map.get m callee) refl
      where
        by_row : (o : Option Row) → map.get m callee ≡ o → Leaves c m (set_row m callee (act (Register b) now o).0)
        by_row (Some w) at = unmoved callee (Some w) (sym at)
        by_row None at = intent_put b.func id (issued_at now (Some b)) seat (λ over before t one. cc) (λ t e is in_it none. is_open at t (ap (λ (z : Body). z.tx) (same_some is) ∙ in_it)) (λ f i p x e at is_open child is idle. refl)
