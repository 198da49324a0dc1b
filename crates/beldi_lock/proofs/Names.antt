-- Names that the lemmas of this crate import, gathered.
pub use Rattle.std.{proofs.lemmas.Cmp.tied_itself, proofs.lemmas.List.append-nil, proofs.lemmas.Option.none-some, specs.Cmp.nat_cmp_total, specs.Cmp.ranks, specs.Cmp.Lexicographic.slice_cmp, specs.Ordering.MatchOrdering, specs.Ordering.nat_cmp, specs.Ordering.ordering_reverse, specs.Ordering.ordering_then, specs.declared.cmp.Ordering.Ordering, specs.declared.cmp.Ordering.TheVariants.Equal, specs.declared.cmp.Ordering.TheVariants.Greater, specs.declared.cmp.Ordering.TheVariants.Less}
pub use Rattle.std.specs.FinMap as map
pub use Rattle.std.proofs.Common.{Err, List, None, Ok, Option, Some, [], ap, arith, cond, false, if◌then◌else◌, inl, inr, length, refl, replicate, rules, subst, suc, sym, true, zero, ℕ, ◌++◌, ◌-◌, ◌<◌, ◌^◌, ◌∙◌, ◌∷◌, ◌≡◌, ◌≤◌, ◌⊎◌}
pub use Rattle.beldi_value.specs.{Id.age_of, Id.id_cmp, Id.id_exact, Id.id_total, Id.is_older, Id.root_of, declared.id.IntentId.IntentId, declared.place.Owner.Owner, declared.place.Place.Place, declared.place.TxId.TxId}
pub use Rattle.beldi_row.specs.Act.{ActReply, act, did, entered, if_room, next_or, noted_or, other_owner, owned_or}
pub use Rattle.beldi_row.{proofs.Gets.got, proofs.Gets.key_self, proofs.Least.next_row_least, proofs.Logs.note_here, proofs.Tells.tells_map, specs.Key.RowKey, specs.Key.key_cmp, specs.KeyOrder.key_exact, specs.KeyOrder.key_total, specs.Log.note_at, specs.Table.IsNext, specs.Table.Rows, specs.Table.after_act, specs.Table.next_row, specs.declared.act.Act.TheVariants.LockCell, specs.declared.act.Act.TheVariants.PutLockset, specs.declared.key.Kind.Kind, specs.declared.notes.Note.Note, specs.declared.row.Cell.Cell, specs.declared.row.Row.Row, specs.declared.table.TableErr.TheVariants.OutOfMemory}
pub use Rattle.beldi_query.{proofs.Promises.promised, proofs.Queries.unasked, proofs.Queries.went, specs.Query.CameOn, specs.Query.QueryReply, specs.Query.rows_after, specs.Query.replied, specs.Query.query_reply, specs.declared.query.Query.TheVariants.After}
pub use Rattle.beldi_daal.specs.Logged.{DidAs, LoggedTurn, Logs, at_of, barred, died_at, died_of, dies, waited}
pub use Rattle.beldi_chain.{proofs.OneRow.no_content, specs.Chain.Chain, specs.Chain.chain, specs.Chain.content, specs.Content.Content}
pub use Rattle.beldi_links.specs.Links.{At, FitsAt, IsLinked, Linked, SeesAt, StandsAt}
pub use Rattle.beldi_daal.{proofs.Bars.free, proofs.Bars.taken, proofs.Logged.by_op, proofs.WalkTurns.linked_by, proofs.WalkTurns.none_at_all, proofs.WalkTurns.note_of_chain, specs.Cell.write_goes, specs.WriteWalk.walk_at, specs.WriteWalk.walk_so, specs.declared.cell.CellOp.TheVariants.Lock, specs.declared.cell.WriteAt.WriteAt, specs.declared.cell.WriteAt.TheVariants.Try, specs.declared.cell.WriteGoes.WriteGoes, specs.declared.walk.Item.TheVariants.Plain, specs.declared.walk.WriteWalk.WriteWalk}
pub use Rattle.beldi_lock.specs.Lock.{asks_at, item_goes, lock_asks, lock_at, lock_goes, lock_next, lock_output, lock_so, lockset_key, note_goes, put_goes}
pub use Rattle.beldi_lock.specs.Locked.{Dies, HasNote, LeavesAt, LockTurn, Locks, LocksAreByTheRow, LocksStand, PutTurn, SeesItem, lock_key, put_row}
pub use Rattle.beldi_lock.specs.Lockset.{AreFit, AreHops, FindsFirst, FindsNext, IsFirstFrom, IsFit, LocksetsBegin, LocksetsFollow, before_last, before_split, begin_before, filled, id_before, item_lent, lockset_after, lockset_asks, lockset_found, most}
pub use Rattle.beldi_lock.specs.{Last.onto_front, Last.split_last, declared.lock.LockAt.LockAt, declared.lock.LockAt.TheVariants.Item, declared.lock.LockAt.TheVariants.Lockset, declared.lock_walk.LockOutput.LockOutput, declared.lock_walk.LockOutput.TheVariants.Going, declared.lock_walk.LockWalk.LockWalk}
