-- No item of a run is kept as null.
use Rattle.beldi_plain_laws.proofs.Names.{Aborts, Commits, Deployment, Effect, Entry, FinMap, Going, OnCallStack, Instance, IntentId, Item, KeepsNoNull, Leads, List, Move, None, Null, NullIsAbsent, OnItem, Option, Place, PlainState, Read, Some, Start, Step, AbortedTx, CommittedTx, TxId, Value, [], after, effect_of, ended, fell, get-empty, get-insert, get-remove, item_cmp, item_exact, item_in, item_total, linear, after_move, nothing, op_of, opened, operated, or_null, plain, set_if, set_item, sets, step_by, subst, sym, tx_begun, value_at, with_instance, ◌∙◌, ◌∷◌, ◌≡◌}
use Rattle.beldi_plain_laws.proofs.Moved.{items_after, items_by, MoveIs, answers, calls, returns, move_is, mover}
use Rattle.beldi_plain_laws.proofs.{CallStack.line_opened, CallStack.line_moved, CallStack.returned, EntryLaws.did, EntryLaws.answer_keeps, EntryLaws.run_keeps, Maps.changed}
use Rattle.beldi_plain_laws.proofs.Names.map

set_kept : (f : FinMap item_cmp Value) (y : Item) (v : Value) → ((x : Item) → map.get f x ≡ Some Null → ⊥) → (x : Item) → map.get (set_item f y v) x ≡ Some Null → ⊥
set_kept f y Null h = changed item_exact f (map.remove f y) y None (get-remove item_total f y) (λ x o. o ≡ Some Null → ⊥) (λ e. cc) h
set_kept f y v h = changed item_exact f (map.insert f y v) y (Some v) (get-insert item_total f y v) (λ x o. o ≡ Some Null → ⊥) (λ e. cc) h

set_if_kept : (f : FinMap item_cmp Value) (y : Item) (o : Option Value) → ((x : Item) → map.get f x ≡ Some Null → ⊥) → (x : Item) → map.get (set_if f y o) x ≡ Some Null → ⊥
set_if_kept f y None h = h
set_if_kept f y (Some v) h = set_kept f y v h

operation_kept : (p : PlainState) (id : IntentId) (q : Instance) (o : Option OnItem) → KeepsNoNull p → KeepsNoNull (operated p id q o)
operation_kept p id q None h = h
operation_kept p id q (Some o) h = set_if_kept p.items (item_in q.func o) (sets o.does (value_at p (item_in q.func o))) h

by_kept : (p : PlainState) (id : IntentId) (q : Instance) (e : Effect) → KeepsNoNull p → KeepsNoNull (step_by p id q e)
by_kept p id q (Effect.Read t k) h = h
by_kept p id q (Effect.Call f a) h = h
by_kept p id q (Effect.Async f a) h = h
by_kept p id q (Effect.Return o) h = answer_keeps KeepsNoNull (with_instance p id (ended q o)) h (λ j r a is. h) q.parent o
by_kept p id q e h = operation_kept p id q (op_of e) h

move_kept : (d : Deployment) (t : TxId) (m : Move) (s r : Going) → OnCallStack d t s → after_move d t m s ≡ Some r → KeepsNoNull s.state → KeepsNoNull r.state
move_kept d t m s r line step h = let q = mover d t m s r step in by_kind q.0 q.1 (move_is d t m s q.0 r q.1 step)
  where
    by_op : (q : Instance) (o : Option OnItem) (x : Item) → map.get (items_after s.state.items q.func o) x ≡ Some Null → ⊥
    by_op q None = h
    by_op q (Some o) = set_if_kept s.state.items (item_in q.func o) (sets o.does (or_null (map.get s.state.items (item_in q.func o)))) h

    by_move : (q : Instance) (n : Move) (x : Item) → map.get (items_by s.state.items q (effect_of d q) n) x ≡ Some Null → ⊥
    by_move q plain = by_op q (op_of (effect_of d q))
    by_move q (fell o) = h

    by_kind : (q : Instance) → map.get s.state.made s.active ≡ Some q → MoveIs d t m s r q → KeepsNoNull r.state
    by_kind q made (answers a) = subst (λ (z : Going). KeepsNoNull z.state) (sym a.is) (by_move q m)
    by_kind q made (calls c) = subst (λ (z : Going). KeepsNoNull z.state) (sym c.is) h
    by_kind q made (returns e) = subst (λ (z : Going). KeepsNoNull z.state) (sym (returned d t m s r q made line e).is) h

led_kept : (d : Deployment) (t : TxId) (s : Going) (moves : List Move) (l : Going) → OnCallStack d t s → Leads d t s moves l → KeepsNoNull s.state → KeepsNoNull l.state
led_kept d t s [] l line leads h = subst (λ (z : Going). KeepsNoNull z.state) leads h
led_kept d t s (m ∷ ms) l line leads h = led_kept d t leads.0 ms l (line_moved d t m s leads.0 line leads.1) leads.2 (move_kept d t m s leads.0 line leads.1 h)

commit_kept : (d : Deployment) (p : PlainState) (id : IntentId) (r : PlainState) → Commits d p id r → KeepsNoNull p → KeepsNoNull r
commit_kept d p id r c h = subst KeepsNoNull (sym c.is) (led_kept d (tx_begun id c.instance) (opened p id c.instance) c.moves c.last (line_opened d p id c.instance c.runs.open_still) c.runs.leads h)

abort_kept : (d : Deployment) (p : PlainState) (id : IntentId) (place : Place) (holder : Option IntentId) (r : PlainState) → Aborts d p id place holder r → KeepsNoNull p → KeepsNoNull r
abort_kept d p id place holder r c h = subst KeepsNoNull (sym c.is) h

after_kept : (d : Deployment) (p : PlainState) (e : Entry) (q : PlainState) → KeepsNoNull p → after d p e ≡ Some q → KeepsNoNull q
after_kept d p (Start t f a) q h is = subst KeepsNoNull (did d p (Start t f a) q is).leads h
after_kept d p (Read id version) q h is = let s = did d p (Read id version) q is in subst KeepsNoNull s.leads (by_kept p id s.instance (effect_of d s.instance) h)
after_kept d p (Step id) q h is = let s = did d p (Step id) q is in subst KeepsNoNull s.leads (by_kept p id s.instance (effect_of d s.instance) h)
after_kept d p (CommittedTx id) q h is = commit_kept d p id q (did d p (CommittedTx id) q is) h
after_kept d p (AbortedTx id place holder) q h is = abort_kept d p id place holder q (did d p (AbortedTx id place holder) q is) h

none_null : KeepsNoNull nothing
none_null x e = let g = sym (get-empty item_cmp x) ∙ e in cc

pub no_null : NullIsAbsent
no_null d es p is = run_keeps d KeepsNoNull (after_kept d) nothing (linear es) p none_null is
