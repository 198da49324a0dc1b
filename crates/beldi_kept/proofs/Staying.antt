-- What an event leaves of the rows that walks are led to.
use Rattle.std.specs.FinMap as map
use Rattle.std.proofs.Common.{◌≡◌, ℕ, ◌≤◌, false, cond, List, Option, Some, None, is_some, if◌then◌else◌, refl, ap, sym, ◌∙◌, subst}
use Rattle.beldi_value.specs.declared.{id.IntentId.IntentId, place.Place.Place, place.TxId.TxId}
use Rattle.beldi_tree.specs.declared.deployment.Deployment.{Deployment}
use Rattle.beldi_lang.specs.declared.effect.Effect.{Effect}
use Rattle.beldi_plain.specs.Item.{Item}
use Rattle.beldi_row.specs.{Act.act, Act.at_tail, Act.prunes, Act.is_full, Act.next, Act.next_or, Act.not_full, Act.noted_or, Act.ActReply, Key.RowKey, Key.at_row, Log.note_at, Table.Rows, Table.set_row, declared.act.Act.Act, declared.notes.Note.Note, declared.row.Cell.Cell, declared.row.Row.Row}
use Rattle.beldi_row.proofs.{Gets.got, Gets.key_self, Unchanged.unchanged}
use Rattle.beldi_query.specs.{declared.query.Query.Query, Query.may_remove, Query.rows_after}
use Rattle.beldi_step.proofs.Spares.{run_spares}
use Rattle.beldi_chain.specs.Chain.{chain}
use Rattle.beldi_links.specs.Links.{At, Linked}
use Rattle.beldi_splice.specs.{Splice.IsSafeFrom, Splice.LeadsPast, Splice.LessRow, Splice.MayFollow}
use Rattle.beldi_splice.proofs.{Alike.unfollowed_alike, Both.there_linked}
use Rattle.beldi_daal.specs.{Logged.at_of, declared.cell.WriteAt.WriteAt}
use Rattle.beldi_lock.specs.declared.lock.LockAt.{LockAt}
use Rattle.beldi_txn.specs.{declared.tx.TxAt.TxAt, declared.end.EndAt.EndAt, declared.end.EndState.EndState, declared.call_path.Called.Called, End.visited_by, Tx.item_of}
use Rattle.beldi_step.specs.HostStep.{Core}
use Rattle.beldi_step.specs.Run.{OnCell, cell_op, own_tx, run_asks}
use Rattle.beldi_step.specs.declared.run.{Run.Run, RunAt.TheVariants.Begins, RunAt.TheVariants.Looks, RunAt.TheVariants.Registers, RunTx.RunTx, RunTx.TheVariants.Own, RunTx.TheVariants.Inherited, Stage.Stage}
use Rattle.beldi_step.specs.declared.run.RunAt as standing
use Rattle.beldi_histories.specs.Contents.{IsLinkedItem, head_key}
use Rattle.beldi_histories.proofs.Acts.{by_item, item_apart}
use Rattle.beldi_kept.specs.{KeptAhead.StaysAhead, KeptAhead.StaysAtStage, KeptAhead.StaysFor, KeptAhead.StaysForEnd, KeptAhead.StaysForPut, KeptAhead.StaysForRead, KeptAhead.StaysForTx, KeptAhead.StaysForVisit, KeptRows.HasKept}
use Rattle.beldi_kept.proofs.{ItemTurns.then_linked, Items.keeps_item, Items.other_there, Less.GoesOn, Less.by_kind, Less.off_item}

-- ---- what stays of all items
pub record StaysOn (life deadline : ℕ) (m n : Rows) : Type 0 where
  pub safe : (x : Item) (r : ℕ) → IsSafeFrom life deadline (chain m (head_key x)) r → IsSafeFrom life deadline (chain n (head_key x)) r
  pub follows : (x : Item) (r : ℕ) → MayFollow life deadline (chain m (head_key x)) r → MayFollow life deadline (chain n (head_key x)) r

module _ (life deadline : ℕ) (m n : Rows) where
  pub same_chains : ((x : Item) → chain n (head_key x) ≡ chain m (head_key x)) → StaysOn life deadline m n
  same_chains same = record { safe = λ x r. subst (λ z. IsSafeFrom life deadline z r) (sym (same x)); follows = λ x r. subst (λ z. MayFollow life deadline z r) (sym (same x)) }

  pub same_rows : n ≡ m → StaysOn life deadline m n
  same_rows same = same_chains (λ x. ap (λ z. chain z (head_key x)) same)

  -- ---- so does what a run's walk is led to
  module _ (on : StaysOn life deadline m n) where
    for_walk : (x : Item) (a : At) → StaysFor life deadline (chain m (head_key x)) a → StaysFor life deadline (chain n (head_key x)) a
    for_walk x (At.Try r) h = on.safe x r h
    for_walk x At.Make h = h
    for_walk x (At.Append k v o) h = λ r is. (on.safe x r (h r is).0, on.follows x r (h r is).1)
    for_walk x (At.Link k) h = λ r is. (on.safe x r (h r is).0, on.follows x r (h r is).1)

    for_read : (func r : ℕ) (e : Effect) → StaysForRead life deadline m func r e → StaysForRead life deadline n func r e
    for_read func r (Effect.Read t k) h = on.safe (record { func = func; table = t; key = k }) r h
    for_read func r e h = tt

    for_put : (func : ℕ) (w : WriteAt) (q : Option OnCell) → StaysForPut life deadline m func w q → StaysForPut life deadline n func w q
    for_put func w (Some q) h = for_walk (record { func = func; table = q.table; key = q.key }) (at_of w) h
    for_put func w None h = tt

    for_tx : (func : ℕ) (a : TxAt) (q : Option (ℕ × List ℕ)) → StaysForTx life deadline m func a q → StaysForTx life deadline n func a q
    for_tx func (TxAt.Lock (LockAt.Item w)) (Some q) h = for_walk (record { func = func; table = q.0; key = q.1 }) (at_of w) h
    for_tx func (TxAt.Item r) (Some q) h = on.safe (record { func = func; table = q.0; key = q.1 }) r h
    for_tx func (TxAt.Lock (LockAt.Item w)) None h = tt
    for_tx func (TxAt.Lock (LockAt.Lockset b)) q h = tt
    for_tx func (TxAt.Item r) None h = tt
    for_tx func a q h = tt

    pub for_visit : (x : TxId) (path : List Called) (a : EndAt) (q : Option (ℕ × List ℕ)) → StaysForVisit life deadline m x path a q → StaysForVisit life deadline n x path a q
    for_visit x path (EndAt.Free w) (Some q) h = for_walk (record { func = (visited_by x path).1; table = q.0; key = q.1 }) (at_of w) h
    for_visit x path (EndAt.Free w) None h = tt
    for_visit x path a q h = tt

    for_end : (id : IntentId) (func : ℕ) (v : EndState) (o : Option RunTx) → StaysForEnd life deadline m id func v o → StaysForEnd life deadline n id func v o
    for_end id func v (Some (Own o)) h = for_visit (own_tx id func o) v.path v.at v.item h
    for_end id func v (Some (Inherited x)) h = tt
    for_end id func v None h = tt

    pub for_stage : (id : IntentId) (func : ℕ) (s : Stage) (e : Effect) (o : Option RunTx) → StaysAtStage life deadline m id func s e o → StaysAtStage life deadline n id func s e o
    for_stage id func (Stage.Walk r) e o h = for_read func r e h
    for_stage id func (Stage.Write w) e o h = for_put func w (cell_op e) h
    for_stage id func (Stage.Tx a) e o h = for_tx func a (item_of e) h
    for_stage id func (Stage.End v) e o h = for_end id func v o h
    for_stage id func s e o h = tt

pub for_run : (life : ℕ) (m n : Rows) (r : Run) → StaysOn life r.deadline m n → (at : standing.RunAt) → StaysAhead life m r at → StaysAhead life n r at
for_run life m n r on (Begins g) h = for_stage life r.deadline m n on r.id r.func g.stage g.machine.effect g.tx h
for_run life m n r on Looks h = tt
for_run life m n r on (Registers b) h = tt

-- ---- an act on a cell that others follow leaves it
frozen_tail : (p : Place) (c : Cell) (n : ℕ) (z : Cell × ActReply) → c.next ≡ Some n → (at_tail p c z).0 ≡ c
frozen_tail p c n z is = by_note (note_at c.log p)
  where
    by_note : (o : Option Note) → (noted_or c o (next_or c c.next z)).0 ≡ c
    by_note (Some w) = refl
    by_note None = ap (λ o. (next_or c o z).0) is

pub frozen_act : (a : Act) (now : ℕ) (c : Cell) (n : ℕ) → prunes a ≡ false → c.next ≡ Some n → (act a now (Some (Row.Cell c))).0 ≡ Some (Row.Cell c)
frozen_act (Act.WriteCell p w v) now c n keeps is = ap (λ z. Some (Row.Cell z)) (frozen_tail p c n _ is)
frozen_act (Act.CondCell p w k o v) now c n keeps is = ap (λ z. Some (Row.Cell z)) (frozen_tail p c n _ is)
frozen_act (Act.LockCell p w s) now c n keeps is = ap (λ z. Some (Row.Cell z)) (frozen_tail p c n _ is)
frozen_act (Act.FreeCell p w v) now c n keeps is = ap (λ z. Some (Row.Cell z)) (frozen_tail p c n _ is)
frozen_act (Act.LinkCell l) now c n keeps is = ap (λ o. Some (Row.Cell (next_or c o (if is_full c then (record c { next = Some l }, next l) else (c, not_full))).0)) is
frozen_act (Act.DropIntent l) now c n keeps is = cc
frozen_act Act.DropRow now c n keeps is = cc
frozen_act Act.MarkCell now c n keeps is = cc
frozen_act (Act.SkipCell f t) now c n keeps is = cc
frozen_act Act.DangleCell now c n keeps is = cc
frozen_act (Act.DropCell l) now c n keeps is = cc
frozen_act a now c n keeps is = refl

-- ---- the turn of a run
module _ (d : Deployment) (c : Core) (m : Rows) (h : HasKept d c m) (i : ℕ) (r : Run) (live : map.get c.runs i ≡ Some r) (in_time : c.now ≤ r.deadline) (after : Rows) (goes : GoesOn h.gone m h.kept (rows_after (run_asks r) c.now m) after) where
  module _ (y : Item) (row : ℕ) (a : Act) (asked : run_asks r ≡ Query.Act (at_row (head_key y) row) a) (keeps : prunes a ≡ false) (deadline : ℕ) where
    abbrev key : RowKey
    key = at_row (head_key y) row

    abbrev n : Rows
    n = rows_after (Query.Act key a) c.now m

    abbrev On : Type 0
    On = StaysOn d.life deadline m n

    left : (act a c.now (map.get m key)).0 ≡ map.get m key → On
    left is = same_rows d.life deadline m n (unchanged m key (act a c.now (map.get m key)).0 is)

    free_links : (k : Cell) → map.get h.kept key ≡ Some (Row.Cell k) → Linked (chain h.kept (head_key y))
    free_links k is = there_linked (chain h.kept (head_key y)) (h.upkeep.invariant.rows.chains y) row (Row.Cell k) is

    agrees : map.get m key ≡ map.get h.kept key → ((k : Cell) → map.get h.kept key ≡ Some (Row.Cell k) → k.next ≡ None) → On
    agrees same free =
        let linked = subst (λ q. IsLinkedItem (rows_after q c.now h.kept) y) asked (then_linked d c h.kept h.upkeep i r live in_time y) in
        let k = keeps_item h.gone m h.kept h.less h.upkeep.invariant.rows.chains y row a keeps c.now same linked free in
        record {
          safe = λ x q. by_item y x (λ z. IsSafeFrom d.life deadline (chain m (head_key z)) q → IsSafeFrom d.life deadline (chain n (head_key z)) q) (k.safe d.life deadline q)
              (λ apart. subst (λ z. IsSafeFrom d.life deadline z q) (sym (other_there h.gone m h.kept h.less h.upkeep.invariant.rows.chains y row a keeps c.now same linked free x apart)));
          follows = λ x q. by_item y x (λ z. MayFollow d.life deadline (chain m (head_key z)) q → MayFollow d.life deadline (chain n (head_key z)) q) (k.follows d.life deadline q)
              (λ apart. subst (λ z. MayFollow d.life deadline z q) (sym (other_there h.gone m h.kept h.less h.upkeep.invariant.rows.chains y row a keeps c.now same linked free x apart)));
        }

    by_next : (u k : Cell) → map.get m key ≡ Some (Row.Cell u) → map.get h.kept key ≡ Some (Row.Cell k) → (p q : Option ℕ) → u.next ≡ p → k.next ≡ q → LeadsPast h.gone (chain h.kept (head_key y)) row p q → On
    by_next u k is kept p None to ends past = agrees (unfollowed_alike h.gone (chain m (head_key y)) (chain h.kept (head_key y)) (free_links k kept) (h.less.cells y) row k kept ends) (λ j at. one_next k j (sym kept ∙ at) ends)
      where
        one_next : (k j : Cell) → ◌≡◌ {A = Option Row} (Some (Row.Cell k)) (Some (Row.Cell j)) → k.next ≡ None → j.next ≡ None
        one_next k j e none = let same : k ≡ j = cc in ap (λ (z : Cell). z.next) (sym same) ∙ none
    by_next u k is kept (Some z) (Some e) to ends past = left (ap (λ o. (act a c.now o).0) is ∙ frozen_act a c.now u z keeps to ∙ sym is)
    by_next u k is kept None (Some e) to ends past = absurd past

    by_less : (o p : Option Row) → map.get m key ≡ o → map.get h.kept key ≡ p → LessRow h.gone (chain h.kept (head_key y)) row o p → On
    by_less None None is kept less = agrees (is ∙ sym kept) (λ k at. let clash = sym kept ∙ at in cc)
    by_less None (Some p) is kept less = left (sym (now_is (act a c.now (map.get m key)).0) ∙ ap (λ q. map.get (rows_after q c.now m) key) (sym asked) ∙ goes.none key is (ap is_some kept) ∙ sym is)
      where
        now_is : (v : Option Row) → map.get (set_row m key v) key ≡ v
        now_is v = got m key key v ∙ ap (λ b. cond b v (map.get m key)) (key_self key)
    by_less (Some (Row.Cell u)) (Some (Row.Cell k)) is kept less = by_next u k is kept u.next k.next refl refl less.next
    by_less (Some (Row.Cell u)) p is kept less = absurd less
    by_less (Some o) p is kept less = absurd less

    item_stays : On
    item_stays = by_less (map.get m key) (map.get h.kept key) refl refl (h.less.cells y row)

  pub turn_stays : (deadline : ℕ) → StaysOn d.life deadline m (rows_after (run_asks r) c.now m)
  turn_stays deadline = by_query (run_asks r) refl (run_spares r)
    where
      by_query : (q : Query) → run_asks r ≡ q → may_remove q ≡ false → StaysOn d.life deadline m (rows_after q c.now m)
      by_query (Query.After k) asked keeps = same_rows d.life deadline m m refl
      by_query (Query.Act k a) asked keeps = by_kind k
          (λ other. same_chains d.life deadline m (set_row m k (act a c.now (map.get m k)).0) (λ x. item_apart m k (act a c.now (map.get m k)).0 x (off_item k other x)))
          (λ y row is. subst (λ z. StaysOn d.life deadline m (rows_after (Query.Act z a) c.now m)) is (item_stays y row a (asked ∙ ap (λ z. Query.Act z a) (sym is)) keeps deadline))
