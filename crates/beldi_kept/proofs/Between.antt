-- the next call of an intent that is not gone, and the next lock that it asked for, are the same over less rows.
use Rattle.std.specs.declared.cmp.Ordering.TheVariants.{Less as Before}
use Rattle.std.specs.Ordering.{nat_cmp, ordering_then, ordering_reverse}
use Rattle.std.proofs.Common.{◌≡◌, ℕ, ◌==◌, ◌&&◌, Bool, true, false, List, [], Option, Some, None, if◌then◌else◌, eq-eqb, refl, ap, sym, ◌∙◌, subst}
use Rattle.beldi_value.specs.{Id.id_cmp, Id.id_exact, declared.id.IntentId.IntentId}
use Rattle.beldi_row.specs.{Key.RowKey, Key.key_cmp, KeyOrder.key_total, Log.id_eq, Table.IsNext, Table.Rows, declared.key.Kind.Kind, declared.row.Row.Row}
use Rattle.beldi_row.proofs.Logs.{id_self}
use Rattle.beldi_query.specs.Query.{query_reply}
use Rattle.beldi_lock.specs.{Lock.lockset_key, Lockset.IsFirstFrom, Lockset.item_after, Lockset.item_of, Lockset.lockset_after, Lockset.lockset_asks, Lockset.lockset_found}
use Rattle.beldi_lock.proofs.Firsts.{by_parts, items, level, parts, rest}
use Rattle.beldi_txn.specs.{declared.call_path.Called.Called, Invokes.call_after, Invokes.call_key, Invokes.call_of, Invokes.func_called, Invokes.invokes_after, Invokes.invokes_asks, Invokes.invokes_found}
use Rattle.beldi_txn.proofs.{InvokedInside.by_steps, InvokedInside.is_call, InvokedInside.steps, LocksetRows.is_item}
use Rattle.beldi_upkeep.specs.Callees.{belongs_to}
use Rattle.beldi_kept.specs.Less.{IsGone, Less, is_item as of_item}
use Rattle.beldi_kept.proofs.NextAlike.{next_alike}

-- what is past a key is not below it
not_below : (k q : RowKey) → key_cmp k q ≡ Before → key_cmp q k ≡ Before → ⊥
not_below k q past less = let clash = sym less ∙ key_total.antisymm q k ∙ ap ordering_reverse past in cc

if_true : {A : Type 0} (b : Bool) (x : A) → b ≡ true → (if b then Some x else None) ≡ None → ⊥
if_true true x is none = cc
if_true false x is none = cc

-- ---- locks
module _ (home : ℕ) (id : IntentId) (begin : ℕ) where
  abbrev lk : ℕ → List ℕ → RowKey
  lk t k = lockset_key home id begin t k

  lock_here : (i : IntentId) (b room : ℕ) → i ≡ id → b ≡ begin → room ≡ home → ((id_eq i id && (b == begin)) && (room == home)) ≡ true
  lock_here i b room same at one = ap (λ z. (z && (b == begin)) && (room == home)) (ap (λ z. id_eq z id) same ∙ id_self id) ∙ ap (λ z. z && (room == home)) (eq-eqb b begin at) ∙ eq-eqb room home one

  locks_between : (t u : ℕ) (k l : List ℕ) (q : RowKey) → (key_cmp q (lk t k) ≡ Before → ⊥) → key_cmp q (lk u l) ≡ Before → item_of home id begin q q.kind ≡ None → ⊥
  locks_between t u k l q low up off = by_kind q.home q.kind low up off
    where
      by_kind : (room : ℕ) (kind : Kind) → let q : RowKey = record { home = room; kind = kind } in (key_cmp q (lk t k) ≡ Before → ⊥) → key_cmp q (lk u l) ≡ Before → item_of home id begin q kind ≡ None → ⊥
      by_kind room (Kind.Lockset i b v n) low up off =
          parts (nat_cmp room home) (ordering_then (id_cmp i id) (rest b begin v u n l)) (sym (by_parts room home i id b begin v u n l) ∙ up) ⊥
          (λ a. low (by_parts room home i id b begin v t n k ∙ ap (λ o. ordering_then o (ordering_then (id_cmp i id) (rest b begin v t n k))) a))
          (λ a z. parts (id_cmp i id) (rest b begin v u n l) z ⊥
          (λ c. low (by_parts room home i id b begin v t n k ∙ ap (λ o. ordering_then o (ordering_then (id_cmp i id) (rest b begin v t n k))) a ∙ ap (λ o. ordering_then o (rest b begin v t n k)) c))
          (λ c y. parts (nat_cmp b begin) (items v u n l) y ⊥
          (λ e. low (by_parts room home i id b begin v t n k ∙ ap (λ o. ordering_then o (ordering_then (id_cmp i id) (rest b begin v t n k))) a ∙ ap (λ o. ordering_then o (rest b begin v t n k)) c ∙ ap (λ o. ordering_then o (items v t n k)) e))
          (λ e x. if_true ((id_eq i id && (b == begin)) && (room == home)) (v, n) (lock_here i b room (id_exact i id c) (level b begin e) (level room home a)) off)))
      by_kind room (Kind.Intent i) low up off = low up
      by_kind room (Kind.ReadLog p) low up off = low up
      by_kind room (Kind.Invoke p) low up off = low up
      by_kind room (Kind.Data v n r) low up off = low up
      by_kind room (Kind.Shadow x v n r) low up off = low up

  module _ (gone : IntentId → Bool) (m kept : Rows) (less : Less gone m kept) (first : (e : Option (RowKey × Row)) → IsNext kept (lockset_after home id begin None) e → IsFirstFrom kept (lk 0 []) e) (alive : gone id ≡ false) where
    -- what is read off a row of this intent is read off one that is not gone
    lock_alive : (e : RowKey × Row) (x : ℕ × List ℕ) → item_after home id begin (Some e) ≡ Some x → IsGone gone (belongs_to e.0.kind) → ⊥
    lock_alive e x is off = let clash = sym (subst (λ (z : RowKey). IsGone gone (belongs_to z.kind)) (is_item home id begin e.0.home e.0.kind x is) off) ∙ alive in cc

    lock_items : (q : RowKey) (s : Row) → of_item q.kind ≡ true → item_after home id begin (Some (q, s)) ≡ None
    lock_items q s item = at_kind q.kind refl item
      where
        at_kind : (kind : Kind) → q.kind ≡ kind → of_item kind ≡ true → item_of home id begin q kind ≡ None
        at_kind (Kind.Data v n r) e item = refl
        at_kind kind e item = cc

    pub same_lock : (after : Option (ℕ × List ℕ)) → lockset_found home id begin (query_reply (lockset_asks home id begin after) 0 m) ≡ lockset_found home id begin (query_reply (lockset_asks home id begin after) 0 kept)
    same_lock (Some at) = next_alike gone m kept less (lk at.0 at.1) (item_after home id begin) refl lock_alive lock_items
        (λ e x is q s next up off. locks_between at.0 x.0 at.1 x.1 q (not_below (lk at.0 at.1) q next.0) (ap (key_cmp q) (sym (is_item home id begin e.0.home e.0.kind x is)) ∙ up) off)
    same_lock None = next_alike gone m kept less (lockset_after home id begin None) (item_after home id begin) refl lock_alive lock_items
        (λ e x is q s next up off. locks_between 0 x.0 [] x.1 q (first (Some (q, s)) next).0 (ap (key_cmp q) (sym (is_item home id begin e.0.home e.0.kind x is)) ∙ up) off)

-- ---- calls
module _ (home : ℕ) (id : IntentId) where
  abbrev ck : ℕ → RowKey
  ck n = call_key home id n

  call_here : (i : IntentId) (room : ℕ) → i ≡ id → room ≡ home → (id_eq i id && (room == home)) ≡ true
  call_here i room same one = ap (λ z. z && (room == home)) (ap (λ z. id_eq z id) same ∙ id_self id) ∙ eq-eqb room home one

  calls_between : (a n : ℕ) (q : RowKey) (s : Row) → (key_cmp q (ck a) ≡ Before → ⊥) → key_cmp q (ck n) ≡ Before → call_of home id q q.kind s ≡ None → ⊥
  calls_between a n q s low up off = by_kind q.home q.kind low up off
    where
      by_kind : (room : ℕ) (kind : Kind) → let q : RowKey = record { home = room; kind = kind } in (key_cmp q (ck a) ≡ Before → ⊥) → key_cmp q (ck n) ≡ Before → call_of home id q kind s ≡ None → ⊥
      by_kind room (Kind.Invoke p) low up off =
          parts (nat_cmp room home) (ordering_then (id_cmp p.intent id) (steps p.step n)) (sym (by_steps room home p.intent id p.step n) ∙ up) ⊥
          (λ x. low (by_steps room home p.intent id p.step a ∙ ap (λ o. ordering_then o (ordering_then (id_cmp p.intent id) (steps p.step a))) x))
          (λ x z. parts (id_cmp p.intent id) (steps p.step n) z ⊥
          (λ c. low (by_steps room home p.intent id p.step a ∙ ap (λ o. ordering_then o (ordering_then (id_cmp p.intent id) (steps p.step a))) x ∙ ap (λ o. ordering_then o (steps p.step a)) c))
          (λ c y. if_true (id_eq p.intent id && (room == home)) (record { step = p.step; func = func_called s }) (call_here p.intent room (id_exact p.intent id c) (level room home x)) off))
      by_kind room (Kind.Intent i) low up off = low up
      by_kind room (Kind.ReadLog p) low up off = low up
      by_kind room (Kind.Data v n r) low up off = low up
      by_kind room (Kind.Shadow x v n r) low up off = low up
      by_kind room (Kind.Lockset i b v n) low up off = low up

  module _ (gone : IntentId → Bool) (m kept : Rows) (less : Less gone m kept) (first : (e : Option (RowKey × Row)) → IsNext kept (invokes_after home id None) e → IsFirstFrom kept (ck 0) e) (alive : gone id ≡ false) where
    call_alive : (e : RowKey × Row) (x : Called) → call_after home id (Some e) ≡ Some x → IsGone gone (belongs_to e.0.kind) → ⊥
    call_alive e x is off = let clash = sym (subst (λ (z : RowKey). IsGone gone (belongs_to z.kind)) (is_call home id e.0.home e.0.kind e.1 x is).0 off) ∙ alive in cc

    call_items : (q : RowKey) (s : Row) → of_item q.kind ≡ true → call_after home id (Some (q, s)) ≡ None
    call_items q s item = at_kind q.kind refl item
      where
        at_kind : (kind : Kind) → q.kind ≡ kind → of_item kind ≡ true → call_of home id q kind s ≡ None
        at_kind (Kind.Data v n r) e item = refl
        at_kind kind e item = cc

    pub same_call : (after : Option ℕ) → invokes_found home id (query_reply (invokes_asks home id after) 0 m) ≡ invokes_found home id (query_reply (invokes_asks home id after) 0 kept)
    same_call (Some a) = next_alike gone m kept less (ck a) (call_after home id) refl call_alive call_items
        (λ e x is q s next up off. calls_between a x.step q s (not_below (ck a) q next.0) (ap (key_cmp q) (sym (is_call home id e.0.home e.0.kind e.1 x is).0) ∙ up) off)
    same_call None = next_alike gone m kept less (invokes_after home id None) (call_after home id) refl call_alive call_items
        (λ e x is q s next up off. calls_between 0 x.step q s (first (Some (q, s)) next).0 (ap (key_cmp q) (sym (is_call home id e.0.home e.0.kind e.1 x is).0) ∙ up) off)
