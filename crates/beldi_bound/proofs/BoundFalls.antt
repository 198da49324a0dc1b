-- What is left of a run falls as rows come, and some is left wherever a run stands.
use Rattle.std.specs.FinMap as map
use Rattle.std.proofs.Common.{◌≡◌, List, [], ◌∷◌, ℕ, ◌≤◌, Bool, true, Option, Some, None, is_some, le_refl, sym, subst, arith}
use Rattle.beldi_value.specs.declared.{id.IntentId.IntentId, place.TxId.TxId}
use Rattle.beldi_lang.specs.declared.effect.Effect.{Effect}
use Rattle.beldi_row.specs.{Key.RowKey, Table.Rows}
use Rattle.beldi_daal.specs.{Cell.cell_key, Cell.shadow_key, declared.cell.WriteAt.TheVariants.Try}
use Rattle.beldi_lock.specs.declared.lock.LockAt.{LockAt}
use Rattle.beldi_txn.specs.{End.visited_by, CallPath.Member, declared.end.EndAt.EndAt, declared.end.EndState.EndState, declared.tx.TxAt.TxAt, declared.call_path.Called.Called}
use Rattle.beldi_call.specs.declared.{async_call.AsyncAt.AsyncAt, call.CallAt.CallAt}
use Rattle.beldi_step.specs.{Run.own_tx, Run.tx_at, Run.tx_of, declared.run.OpenTx.OpenTx, declared.run.RunTx.RunTx, declared.run.Stage.Stage}
use Rattle.beldi_bound.specs.{Cost.aside_length, Cost.item_length, Left.aside_there, Left.decided_visit, Left.end_left, Left.item_left, Left.item_there, Left.left_at, Left.past_lock, Left.stage_left, Left.tx_left, Visits.at_left, Visits.freed_length, Visits.freed_there, Visits.given_length, Visits.last_left, Visits.visit_left}
use Rattle.beldi_bound.proofs.{Lengths.aside_some, Lengths.item_some, Puts.put_falls, Puts.put_some}

past_falls : (c s : ℕ) (a b : Bool) (e : Effect) → (a ≡ true → b ≡ true) → past_lock c s b e ≤ past_lock c s a e
past_falls c s a b (Effect.Read t k) h = omega arith
past_falls c s a b (Effect.Write t k v) h = put_falls s a b (Try 0) h
past_falls c s a b (Effect.CondWrite t k r o v) h = omega arith
past_falls c s a b e h = omega arith

tx_falls : (c s : ℕ) (t u a b : Bool) (e : Effect) (x : TxAt) → (t ≡ true → u ≡ true) → (a ≡ true → b ≡ true) → tx_left c s u b e x ≤ tx_left c s t a e x
tx_falls c s t u a b e TxAt.Log h k = let p = put_falls c t u (Try 0) h in let q = past_falls c s a b e k in omega (arith, p, q)
tx_falls c s t u a b e (TxAt.Lock (LockAt.Lockset l)) h k = let p = put_falls c t u (Try 0) h in let q = past_falls c s a b e k in omega (arith, p, q)
tx_falls c s t u a b e (TxAt.Lock (LockAt.Item w)) h k = let p = put_falls c t u w h in let q = past_falls c s a b e k in omega (arith, p, q)
tx_falls c s t u a b e TxAt.Seek h k = omega arith
tx_falls c s t u a b e (TxAt.Shadow r) h k = omega arith
tx_falls c s t u a b e (TxAt.Item r) h k = le_refl (item_left c s e r)
tx_falls c s t u a b e (TxAt.Keep v) h k = omega arith
tx_falls c s t u a b e (TxAt.Head v) h k = omega arith
tx_falls c s t u a b e (TxAt.Write w) h k = put_falls s a b w k

-- some is left at each stage of an operation
tx_some : (c s : ℕ) (t a : Bool) (e : Effect) (x : TxAt) → 1 ≤ c → 1 ≤ s → 1 ≤ tx_left c s t a e x
tx_some c s t a e TxAt.Log one two = omega arith
tx_some c s t a e (TxAt.Lock (LockAt.Lockset l)) one two = omega arith
tx_some c s t a e (TxAt.Lock (LockAt.Item w)) one two = let p = put_some c t w one in omega (arith, p)
tx_some c s t a e TxAt.Seek one two = omega arith
tx_some c s t a e (TxAt.Shadow r) one two = omega arith
tx_some c s t a (Effect.Read i x) (TxAt.Item r) one two = omega arith
tx_some c s t a e (TxAt.Item r) one two = omega arith
tx_some c s t a e (TxAt.Keep v) one two = omega arith
tx_some c s t a e (TxAt.Head v) one two = omega (arith, two)
tx_some c s t a e (TxAt.Write w) one two = put_some s a w two

module _ (c s : ℕ) (t u a b : Bool) (v w : EndState → ℕ) (there : t ≡ true → u ≡ true) (aside : a ≡ true → b ≡ true) (visit : (x : EndState) → w x ≤ v x) (e : Effect) where
  stage_falls : (g : Stage) → stage_left c s u b w e g ≤ stage_left c s t a v e g
  stage_falls (Stage.Write x) = put_falls c t u x there
  stage_falls (Stage.Tx x) = tx_falls c s t u a b e x there aside
  stage_falls (Stage.Decide m) = let d = visit decided_visit in omega (arith, d)
  stage_falls (Stage.End x) = visit x
  stage_falls (Stage.Call CallAt.Open) = omega arith
  stage_falls (Stage.Call CallAt.Look) = omega arith
  stage_falls (Stage.Async AsyncAt.Open) = omega arith
  stage_falls (Stage.Async AsyncAt.Register) = omega arith
  stage_falls (Stage.Async AsyncAt.Note) = omega arith
  stage_falls g = omega arith

at_falls : (c s : ℕ) (a b : Bool) (n : ℕ) (x : EndAt) → (a ≡ true → b ≡ true) → at_left c s b n x ≤ at_left c s a n x
at_falls c s a b n (EndAt.Shadow r) h = let p = put_falls c a b (Try 0) h in omega (arith, p)
at_falls c s a b n (EndAt.Free w) h = let p = put_falls c a b w h in omega (arith, p)
at_falls c s a b n x h = omega arith

at_some : (c s : ℕ) (a : Bool) (cs : List Called) (x : EndAt) → 1 ≤ at_left c s a (last_left cs) x
at_some c s a [] x = by_last 1 x (omega arith)
  where
    by_last : (n : ℕ) (x : EndAt) → 1 ≤ n → 1 ≤ at_left c s a n x
    by_last n EndAt.Stamp h = omega arith
    by_last n x h = omega arith
at_some c s a (d ∷ ds) x = by_last 2 x (omega arith)
  where
    by_last : (n : ℕ) (x : EndAt) → 1 ≤ n → 1 ≤ at_left c s a n x
    by_last n EndAt.Stamp h = omega arith
    by_last n x h = omega arith

module _ (e m n : Rows) (stays : (k : RowKey) → is_some (map.get m k) ≡ true → is_some (map.get n k) ≡ true) where
  freed_stays : (p : Member) (i : Option (ℕ × List ℕ)) → freed_there m p i ≡ true → freed_there n p i ≡ true
  freed_stays p None h = h
  freed_stays p (Some i) h = stays (cell_key p.1 i.0 i.1) h

  item_stays : (func : ℕ) (f : Effect) → item_there m func f ≡ true → item_there n func f ≡ true
  item_stays func (Effect.Read t k) h = stays (cell_key func t k) h
  item_stays func (Effect.Write t k v) h = stays (cell_key func t k) h
  item_stays func (Effect.CondWrite t k r o v) h = stays (cell_key func t k) h
  item_stays func (Effect.Lock t k) h = stays (cell_key func t k) h
  item_stays func (Effect.Unlock t k) h = stays (cell_key func t k) h
  item_stays func f h = h

  aside_stays : (func : ℕ) (id : IntentId) (o : Option RunTx) (f : Effect) → aside_there m func id o f ≡ true → aside_there n func id o f ≡ true
  aside_stays func id None f h = h
  aside_stays func id (Some o) (Effect.Read t k) h = stays (shadow_key func (tx_of id func o) t k) h
  aside_stays func id (Some o) (Effect.Write t k v) h = stays (shadow_key func (tx_of id func o) t k) h
  aside_stays func id (Some o) (Effect.CondWrite t k r u v) h = stays (shadow_key func (tx_of id func o) t k) h
  aside_stays func id (Some o) f h = h

  visit_falls : (t : TxId) (end : ℕ) (v : EndState) → visit_left e n t end v ≤ visit_left e m t end v
  visit_falls t end v = let p = visited_by t v.path in let h = at_falls (freed_length e p v.item) (given_length e t p v.item) (freed_there m p v.item) (freed_there n p v.item) (last_left v.path) v.at (freed_stays p v.item) in omega (arith, h)

  end_falls : (func : ℕ) (id : IntentId) (o : Option RunTx) (step : ℕ) (v : EndState) → end_left e n func id o step v ≤ end_left e m func id o step v
  end_falls func id (Some (RunTx.Own o)) step v = visit_falls (own_tx id func o) step v
  end_falls func id (Some (RunTx.Inherited x)) step v = omega arith
  end_falls func id None step v = omega arith

  pub left_falls : (func : ℕ) (id : IntentId) (o : Option RunTx) (step : ℕ) (f : Effect) (s : Stage) → left_at e n func id o step f s ≤ left_at e m func id o step f s
  left_falls func id o step f s = stage_falls (item_length e func f) (aside_length e func (tx_at id func o) f) (item_there m func f) (item_there n func f) (aside_there m func id o f) (aside_there n func id o f) (end_left e m func id o step) (end_left e n func id o step) (item_stays func f) (aside_stays func id o f) (end_falls func id o step) f s

-- ---- some is left, at an end where the run stands in its own transaction
abbrev pub IsEnd : Option RunTx → Stage → Type 0
IsEnd o (Stage.End v) = (x : OpenTx) × (o ≡ Some (RunTx.Own x))
IsEnd o s = Unit {0}

visit_some : (e m : Rows) (t : TxId) (end : ℕ) (v : EndState) → 1 ≤ visit_left e m t end v
visit_some e m t end v = let p = visited_by t v.path in let h = at_some (freed_length e p v.item) (given_length e t p v.item) (freed_there m p v.item) v.path v.at in omega (arith, h)

pub left_some : (e m : Rows) (func : ℕ) (id : IntentId) (o : Option RunTx) (step : ℕ) (f : Effect) (s : Stage) → IsEnd o s → 1 ≤ left_at e m func id o step f s
left_some e m func id o step f (Stage.Write x) h = put_some (item_length e func f) (item_there m func f) x (item_some e func f)
left_some e m func id o step f (Stage.Tx x) h = let t = tx_at id func o in tx_some (item_length e func f) (aside_length e func t f) (item_there m func f) (aside_there m func id o f) f x (item_some e func f) (aside_some e func t f)
left_some e m func id o step f (Stage.Decide x) h = omega arith
left_some e m func id o step f (Stage.End v) h = subst (λ z. 1 ≤ end_left e m func id z step v) (sym h.1) (visit_some e m (own_tx id func h.0) step v)
left_some e m func id o step f (Stage.Call CallAt.Open) h = omega arith
left_some e m func id o step f (Stage.Call CallAt.Look) h = omega arith
left_some e m func id o step f (Stage.Async AsyncAt.Open) h = omega arith
left_some e m func id o step f (Stage.Async AsyncAt.Register) h = omega arith
left_some e m func id o step f (Stage.Async AsyncAt.Note) h = omega arith
left_some e m func id o step f s h = omega arith
