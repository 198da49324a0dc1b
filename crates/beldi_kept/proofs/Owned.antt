-- The owner of an item has its intent's row in the table, and no event gives a row of an item an owner whose intent has none.
use Rattle.std.specs.FinMap as map
use Rattle.std.specs.Prelude.{Result}
use Rattle.std.specs.Ordering.{is_eq}
use Rattle.std.specs.declared.alloc.AllocError.{AllocError}
use Rattle.std.proofs.Common.{◌≡◌, ◌⊎◌, inl, inr, ℕ, Bool, true, false, cond, [], ◌∷◌, Option, Some, None, is_some, if◌then◌else◌, refl, ap, sym, ◌∙◌, subst, arith}
use Rattle.beldi_value.specs.{declared.place.Owner.Owner, declared.place.Owner.TheVariants.Intent, declared.place.Owner.TheVariants.Tx, declared.place.Place.Place}
use Rattle.beldi_tree.specs.declared.deployment.Deployment.{Deployment}
use Rattle.beldi_plain.specs.Item.{Item}
use Rattle.beldi_row.specs.{Act.ActReply, Act.act, Act.at_tail, Act.held_or, Act.is_full, Act.next as reply_next, Act.next_or, Act.not_full, Act.not_owner, Act.noted_or, Act.off, Act.on, Act.other_owner, Act.owned_or, Act.owns, Act.removes, Act.stays_unless, Act.waits_for, Key.RowKey, Key.at_row, Key.key_cmp, Log.note_at, Table.Rows, declared.act.Act.Act, declared.notes.Note.Note, declared.row.Cell.Cell, declared.row.Row.Row}
use Rattle.beldi_row.proofs.{Gets.got, Gets.key_same}
use Rattle.beldi_chain.specs.{Chain.Chain, Chain.chain, Chain.content, Chain.next_of, Content.Content, Content.content_in}
use Rattle.beldi_links.specs.Links.{IsLinked, LeadsTo, Linked, LinkedFrom}
use Rattle.beldi_links.proofs.Ways.{content_is, none_next, one_cell}
use Rattle.beldi_splice.specs.Splice.{LeadsPast}
use Rattle.beldi_splice.proofs.Pruned.{is_of}
use Rattle.beldi_query.specs.{declared.query.Query.Query, Query.rows_after}
use Rattle.beldi_txn.specs.Closed.{ClosedArePassed}
use Rattle.beldi_step.specs.{HostStep.Core, HostStep.EventOn, Run.run_asks, declared.event.Event.Event, declared.event.EventReply.EventReply}
use Rattle.beldi_histories.specs.{Contents.content_of, Contents.head_key, Stands.key_in}
use Rattle.beldi_upkeep.specs.Callees.{HasIntentRow, owner_key}
use Rattle.beldi_upkeep.proofs.Shapes.{shape}
use Rattle.beldi_kept.specs.{KeptRows.HasKept, Safe.OwnersComeWithRows, Safe.OwnersHaveTheirRows, Safe.owner_at}
use Rattle.beldi_kept.proofs.Alive.{alive_key, holder_alive, lock_alive, same_owner, same_row}
use Rattle.beldi_kept.proofs.Collecting.{events_keep_safe}

-- ---- items
module _ (d : Deployment) (c : Core) (m : Rows) (h : HasKept d c m) where
  owner_there : (o : Owner) (x : Item) → (content_of h.kept x).owner ≡ Some o → HasIntentRow m o
  owner_there (Tx t) x owned = ap is_some (same_row d c m h (owner_key t) refl (alive_key d c m h t.intent (holder_alive d c m h t x owned))) ∙ h.upkeep.seats.owner_has_row (Tx t) x owned
  owner_there (Intent j) x owned =
      let there = h.upkeep.seats.owner_has_row (Intent j) x owned in
      (there.0, ap is_some (same_row d c m h (key_in there.0 j) refl (alive_key d c m h j (lock_alive d c m h j x owned))) ∙ there.1)

  item_owner : (o : Owner) (x : Item) → (content_of m x).owner ≡ Some o → HasIntentRow m o
  item_owner o x owned = owner_there o x (sym (same_owner d c m h x) ∙ owned)

pub owners_have_rows : OwnersHaveTheirRows
owners_have_rows d c m h = item_owner d c m h.has

-- ---- rows without a next: the last one, and one that is to follow it, have the owner of the item
module _ (f : Chain) (l : Linked f) (n : ℕ) (w : Cell) (at : f n ≡ Some (Row.Cell w)) (ends : w.next ≡ None) where
  as_last : w.owner ≡ l.tail.owner → w.owner ≡ (content f).owner
  as_last same = same ∙ sym (ap (λ (z : Content). z.owner) (content_is f l.path.0 l.last l.tail l.path.1 l.there l.ends l.few))

  by_way : LeadsTo f n l.last → w.owner ≡ l.tail.owner
  by_way ([], path) = ap (λ (z : Cell). z.owner) (one_cell w l.tail (sym at ∙ ap f path ∙ l.there))
  by_way (k ∷ ks, (v, is, next, less, path)) = absurd (none_next v k (ap (λ (z : Cell). z.next) (one_cell v w (sym is ∙ at)) ∙ ends) next)

  last_owner : w.owner ≡ (content f).owner
  last_owner = as_last (elim (l.rest n w at) [
    | inl after ↦ (l.spare w (ap f (sym after) ∙ at)).owner
    | inr ways ↦ by_way ways.1
  ])

open_owner : (f : Chain) → IsLinked f → (n : ℕ) (w : Cell) → f n ≡ Some (Row.Cell w) → w.next ≡ None → w.owner ≡ (content f).owner
open_owner f linked n w at ends = by_first (f 0) linked
  where
    by_first : (r : Option Row) → LinkedFrom r f → w.owner ≡ (content f).owner
    by_first None none = let clash = sym (none n) ∙ at in cc
    by_first (Some r) l = last_owner f l n w at ends

-- ---- an act that leaves a row with a next leaves its owner
abbrev owner_in : Option Row → Option Owner
owner_in r = (content_in r).owner

abbrev Leaves : Option Row → Option Row → Type 0
Leaves r s = (j : ℕ) → next_of s ≡ Some j → owner_in s ≡ owner_in r

-- what is done at a last row does not give it a next
tail_leaves : (p : Place) (c : Cell) (r : Cell × ActReply) → r.0.next ≡ c.next → (j : ℕ) → (at_tail p c r).0.next ≡ Some j → (at_tail p c r).0.owner ≡ c.owner
tail_leaves p c r same = by_note (note_at c.log p) c.next same
  where
    by_note : (o : Option Note) (k : Option ℕ) → r.0.next ≡ k → (j : ℕ) → (noted_or c o (next_or c k r)).0.next ≡ Some j → (noted_or c o (next_or c k r)).0.owner ≡ c.owner
    by_note (Some n) k none j next = refl
    by_note None (Some i) none j next = refl
    by_note None None none j next = let clash = sym none ∙ next in cc

-- .. nor does what bars it
if_next : (c : Cell) (b : Bool) (t : ActReply) (r : Cell × ActReply) → r.0.next ≡ c.next → (if b then (c, t) else r).0.next ≡ c.next
if_next c true t r same = refl
if_next c false t r same = same

held_next : (c : Cell) (o : Option Owner) (r : Cell × ActReply) → r.0.next ≡ c.next → (held_or c o r).0.next ≡ c.next
held_next c None r same = same
held_next c (Some o) r same = refl

owned_next : (p : Place) (w : Owner) (c : Cell) (o : Option Owner) (r : Cell × ActReply) → r.0.next ≡ c.next → (owned_or p w c o r).0.next ≡ c.next
owned_next p w c None r same = same
owned_next p w c (Some o) r same = if_next c (waits_for w o) _ _ (if_next c (is_full c) _ _ refl)

freed_next : (c : Cell) (b : Bool) (r : Cell × ActReply) → r.0.next ≡ c.next → (if b then r else (c, not_owner)).0.next ≡ c.next
freed_next c true r same = same
freed_next c false r same = refl

-- .. and a link leaves the owner
link_owner : (n : ℕ) (c : Cell) (k : Option ℕ) (b : Bool) → (next_or c k (if b then (record c { next = Some n }, reply_next n) else (c, not_full))).0.owner ≡ c.owner
link_owner n c k b = grind arith

on_leaves : (a : Act) (now : ℕ) (r : Row) → Leaves (Some r) (Some (on a now r).0)
on_leaves (Act.WriteCell p w v) now (Row.Cell c) = tail_leaves p c _ (held_next c (other_owner w c.owner) _ (if_next c (is_full c) _ _ refl))
on_leaves (Act.CondCell p w k o v) now (Row.Cell c) = tail_leaves p c _ (held_next c (other_owner w c.owner) _ (if_next c (is_full c) _ _ refl))
on_leaves (Act.LockCell p w s) now (Row.Cell c) = tail_leaves p c _ (owned_next p w c (other_owner w c.owner) _ (if_next c (is_full c) _ _ refl))
on_leaves (Act.FreeCell p w v) now (Row.Cell c) = tail_leaves p c _ (freed_next c (owns w c.owner) _ (if_next c (is_full c) _ _ refl))
on_leaves (Act.LinkCell n) now (Row.Cell c) = λ j next. link_owner n c c.next (is_full c)
on_leaves a now r = grind arith

act_leaves : (a : Act) (now : ℕ) (r : Option Row) → Leaves r (act a now r).0
act_leaves a now None = none a
  where
    none : (a : Act) → Leaves None (off a now).0
    none a = grind arith
act_leaves a now (Some r) = by_removal (removes a now r)
  where
    by_removal : (b : Bool) → Leaves (Some r) (stays_unless b (on a now r)).0
    by_removal true = λ j next. cc
    by_removal false = on_leaves a now r

-- ---- so an event does
module _ (m : Rows) (k : RowKey) where
  abbrev LeavesAt : Rows → Type 0
  LeavesAt n = Leaves (map.get m k) (map.get n k)

  by_query : (q : Query) (now : ℕ) → LeavesAt (rows_after q now m)
  by_query (Query.After l) now = λ j next. refl
  by_query (Query.Act l a) now = subst (Leaves (map.get m k)) (sym (got m l k (act a now (map.get m l)).0)) (by_test (is_eq (key_cmp k l)) refl)
    where
      by_test : (b : Bool) → is_eq (key_cmp k l) ≡ b → Leaves (map.get m k) (cond b (act a now (map.get m l)).0 (map.get m k))
      by_test true e = subst (λ z. Leaves (map.get m z) (act a now (map.get m l)).0) (sym (key_same k l e)) (act_leaves a now (map.get m l))
      by_test false e = λ j next. refl

event_leaves : (d : Deployment) (room old new : ℕ) (e : Event) (c b : Core) (m n : Rows) (x : Result EventReply AllocError) → EventOn d room old new e c m b n x → (k : RowKey) → LeavesAt m k n
event_leaves d room old new e c b m n x s k = elim (shape d room old new e c b m n x s) [
  | inl still ↦ subst (LeavesAt m k) (sym still.rows) (λ j next. refl)
  | inr (inl root) ↦ subst (LeavesAt m k) (sym root.rows) (by_query m k root.query c.now)
  | inr (inr turn) ↦ subst (LeavesAt m k) (sym turn.rows) (by_query m k (run_asks turn.run) c.now)
]

pub owners_come : ClosedArePassed → OwnersComeWithRows
owners_come may_pass d room old new e c b m n x h s o y i owned = by_row (map.get n k) refl owned
  where
    k : RowKey
    k = at_row (head_key y) i

    g : HasKept d b n
    g = (events_keep_safe may_pass d room old new e c b m n x h s).0.has

    -- a row that leads nowhere is of a kept one that none follows
    none_follows : (j : ℕ) (p q : Option ℕ) → LeadsPast g.gone (chain g.kept (head_key y)) j p q → p ≡ None → q ≡ None
    none_follows j None None l none = refl
    none_follows j None (Some z) l none = absurd l
    none_follows j (Some z) q l none = cc

    kept_owner : (w : Cell) → map.get n (at_row (head_key y) i) ≡ Some (Row.Cell w) → w.next ≡ None → w.owner ≡ (content_of g.kept y).owner
    kept_owner w at ends =
        let was = is_of g.gone (chain n (head_key y)) (chain g.kept (head_key y)) (g.less.cells y) i w at in
        was.less.owner ∙ open_owner (chain g.kept (head_key y)) (g.upkeep.invariant.rows.chains y) i was.kept was.there (none_follows i w.next was.kept.next was.less.next ends)

    by_cell : (w : Cell) → map.get n (at_row (head_key y) i) ≡ Some (Row.Cell w) → w.owner ≡ Some o → (next : Option ℕ) → w.next ≡ next → (owner_at m y i ≡ Some o) ⊎ HasIntentRow n o
    by_cell w at is None ends = inr (owner_there d b n g o y (sym (kept_owner w at ends) ∙ is))
    by_cell w at is (Some j) next = inl (sym (event_leaves d room old new e c b m n x s (at_row (head_key y) i) j (ap next_of at ∙ next)) ∙ owned)

    by_row : (r : Option Row) → map.get n (at_row (head_key y) i) ≡ r → owner_in r ≡ Some o → (owner_at m y i ≡ Some o) ⊎ HasIntentRow n o
    by_row None at is = cc
    by_row (Some (Row.Cell w)) at is = by_cell w at is w.next refl
    by_row (Some r) at is = cc
