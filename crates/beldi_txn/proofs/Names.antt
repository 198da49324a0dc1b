-- Names that the lemmas of this crate import, gathered.
pub use Rattle.std.specs.Prelude.{option_to_list, slice_get}
pub use Rattle.std.{proofs.lemmas.Cmp.tied_itself, specs.Cmp.nat_cmp_total, specs.Cmp.Lexicographic.slice_cmp, specs.Option.option_map, specs.Ordering.is_eq, specs.Ordering.nat_cmp, specs.Ordering.ordering_reverse, specs.Ordering.ordering_then, specs.declared.cmp.Ordering.Ordering, specs.declared.cmp.Ordering.TheVariants.Equal, specs.declared.cmp.Ordering.TheVariants.Greater, specs.declared.cmp.Ordering.TheVariants.Less}
pub use Rattle.std.specs.FinMap as map
pub use Rattle.std.proofs.Common.{Bool, IfOk, List, None, Option, Some, [], ap, arith, cond, drop, eq-eqb, eqb-true, false, if◌then◌else◌, inl, inr, is_none, is_some, length, ltb-false, ltb-true, refl, rules, subst, suc, sym, true, zero, ℕ, ◌&&◌, ◌++◌, ◌-◌, ◌<◌, ◌==◌, ◌∙◌, ◌∷◌, ◌≡◌, ◌≤◌, ◌⊎◌}
pub use Rattle.beldi_value.specs.Id.{child_of, has_callees, has_no_hops, home_of, id_cmp, id_exact, id_total}
pub use Rattle.beldi_value.{proofs.Callees.no_root, specs.declared.id.IntentId.IntentId, specs.declared.place.Owner.Owner, specs.declared.place.Place.Place, specs.declared.place.TxId.TxId, specs.declared.rel.Rel.Rel, specs.declared.value.Value.Value}
pub use Rattle.beldi_lang.specs.declared.effect.Effect.{Effect, TheVariants.CondWrite, TheVariants.Read, TheVariants.Write}
pub use Rattle.beldi_row.{proofs.Gets.got, proofs.Gets.key_same, proofs.Gets.key_self, proofs.Least.next_row_least, proofs.Logs.id_same, proofs.Logs.id_self, proofs.Unchanged.left as left_row, proofs.Unchanged.looked, specs.Act.act, specs.Act.other_owner, specs.Act.owns, specs.Act.stamp_with, specs.Key.RowKey, specs.Key.at_row, specs.Key.key_cmp, specs.Key.kind_at, specs.Key.rank_of, specs.Key.row_of, specs.KeyOrder.key_exact, specs.KeyOrder.key_total, specs.Log.blank, specs.Log.id_eq, specs.Log.note_at, specs.Table.IsNext, specs.Table.Rows, specs.Table.entry_of, specs.Table.next_row, specs.Table.set_row, specs.declared.act.Act.Act, specs.declared.act.Act.TheVariants.Look, specs.declared.act.Act.TheVariants.MakeCell, specs.declared.act.Act.TheVariants.PutLockset, specs.declared.act.Act.TheVariants.PutRead, specs.declared.act.Act.TheVariants.Stamp as StampAct, specs.declared.key.Kind.Kind, specs.declared.row.Cell.Cell, specs.declared.row.Row.Row, specs.declared.notes.Note.Note}
pub use Rattle.beldi_query.{proofs.Promises.at_each, proofs.Promises.rows_there, proofs.Promises.promised, proofs.Promises.turned, specs.Query.rows_after, specs.Query.replied, specs.Query.query_reply, specs.Query.query_reply_of, specs.Walk.Promises, specs.declared.query.Query.Query}
pub use Rattle.beldi_daal.specs.Logged.{DidAs, LoggedTurn, Logs, at_of, dies, owner_after, unless_owned, waited}
pub use Rattle.beldi_chain.{proofs.Heads.alone_by, proofs.Heads.aside_head, proofs.Heads.item_head, proofs.Heads.kind_rank, proofs.Heads.chain_off, proofs.Heads.chain_other, proofs.OneRow.content_is_head, proofs.OneRow.no_content, proofs.OneRow.no_tail, proofs.OneRow.tail_is_head, proofs.OneRow.tail_value, specs.Chain.Chain, specs.Chain.ChangedAlone, specs.Chain.IsHead, specs.Chain.above, specs.Chain.chain, specs.Chain.content, specs.Chain.is_row_of, specs.Chain.next_of, specs.Chain.tail, specs.Content.Content, specs.Content.content_in}
pub use Rattle.beldi_links.{proofs.Grows.item_grows, proofs.Grows.no_item as of_no_item, proofs.Grows.others_grow, proofs.Grows.others_keep, proofs.Grows.readers_keep, proofs.Grows.same_grow, proofs.LinkKeeps.first_linked, proofs.LinkKeeps.row_set, proofs.Meets.last_is_last, proofs.Meets.next_is_read, proofs.Meets.reads_begin, proofs.Meets.walks_begin, proofs.Ways.tail_is, specs.Links.AllGrow, specs.Links.FitsAt, specs.Links.IsLinked, specs.Links.Linked, specs.Links.LinkedFrom, specs.Links.ReadsAt, specs.Links.RowsGrow, specs.Links.SeesAt, specs.Links.SetTo, specs.Links.StandsAt}
pub use Rattle.beldi_daal.{proofs.Bars.taken, proofs.Logged.by_op, proofs.Spares.write_spares, specs.Cell.cell_goes, specs.Cell.cell_key, specs.Cell.read_goes, specs.Cell.shadow_key, specs.Cell.write_asks, specs.Cell.write_goes, specs.WriteWalk.walk_at as logged_at, specs.WriteWalk.walk_so as logged_so, specs.declared.cell.CellOp.CellOp, specs.declared.cell.WriteAt.WriteAt, specs.declared.cell.WriteAt.TheVariants.Try, specs.declared.cell.WriteGoes.WriteGoes, specs.declared.walk.Item.TheVariants.Plain, specs.declared.walk.Item.TheVariants.Shadow, specs.declared.walk.WriteOutput.WriteOutput, specs.declared.walk.WriteWalk.WriteWalk, specs.declared.cell.ReadGoes.ReadGoes}
pub use Rattle.beldi_lock.specs.Lockset.{AreFit, AreHops, IsFirstFrom, IsFit, id_before, item_after, item_of, lockset_after, most}
pub use Rattle.beldi_lock.{proofs.Last.split_front, specs.Last.split_last, specs.Lock.item_goes as lock_item, specs.Lock.lockset_key, specs.declared.lock.LockAt.LockAt, specs.declared.lock.LockAt.TheVariants.Item as AtItem, specs.declared.lock.LockAt.TheVariants.Lockset}
pub use Rattle.beldi_lock.proofs.Firsts.{assoc, below, between, by_parts, first_from, irreflexive, is_less, items, no_item, parts, precedes, rest}
pub use Rattle.beldi_readlog.specs.ReadLog.{given, given_in, log_key}
pub use Rattle.beldi_intent.specs.Intent.{intent_key}
pub use Rattle.beldi_txn.specs.End.{back_from, call_goes, calls_after, calls_goes, counts, decide_goes, end_goes, first_visit, free_first, free_place, freed_goes, last_goes, end_after, next_goes, output_of, value_goes, visited_by, walk_asks, walk_goes, walk_next, walk_output}
pub use Rattle.beldi_txn.specs.Invokes.{CallsFollow, FindsCall, IsAfter, IsNextCall, call_after, call_key, call_of, func_called, invokes_after, invokes_asks, invokes_found}
pub use Rattle.beldi_txn.specs.Tx.{asks_of, item_asks, item_goes, item_leads, lock_leads, locked_goes, op_of, shadow_read, tx_goes, write_leads}
pub use Rattle.beldi_txn.specs.TxTurn.{AsideMoves, Finds, Fits, HasLock, IsSo, ItemMoves, LockMoves, OperationsAreSo, OperationsBegin, Sees, ShadowMoves, Stands, TxTurn, head_asked, shadow_value}
pub use Rattle.beldi_txn.specs.Visited.{AllFreed, AllReleased, AreClosed, AreLinked, AreMarked, AreReleased, AtEnd, DecidedAt, EndTurn, EndsAreVisits, Frees, FreesStandFurther, Gives, HasItem, HasCallPath, IsCall, IsDecided, IsFrom, IsMember, IsPassed, IsPast, IsReleased, IsCallPath, IsWithin, Leaves, LeftAt, Levels, RowsStay, SeesFreeing, SeesRows, Stamps, StartsWithin, Visited, VisitsBegin, VisitsStand, WasAsked, aside_row, called_at, decision_row, given_value, is_closed, is_own, item_in, item_row, lock_row, owner_of, row_closed}
pub use Rattle.beldi_txn.specs.CallPath.{Member, callee_id, callee_of, front_of, is_owner, last_of, member_at}
pub use Rattle.beldi_txn.specs.{TxWalk.gone, declared.end.EndAt.EndAt, declared.end.EndAt.TheVariants.Callees, declared.end.EndAt.TheVariants.Decide, declared.end.EndAt.TheVariants.Free, declared.end.EndAt.TheVariants.Next, declared.end.EndAt.TheVariants.Stamp, declared.end.EndGoes.EndGoes, declared.end.EndState.EndState, declared.end_walk.EndWalk.EndWalk, declared.tx.TxAt.TxAt, declared.tx.TxGoes.TxGoes, declared.tx_walk.TxWalk.TxWalk, declared.call_path.Called.Called, declared.end.EndOutput.EndOutput}
