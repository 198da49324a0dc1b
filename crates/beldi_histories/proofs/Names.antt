-- Names that the lemmas of this crate import, gathered.
pub use Rattle.std.specs.Prelude.{nat_lt, slice_get}
pub use Rattle.std.{proofs.Math.Seq.take-append_seam, proofs.lemmas.Cmp.eq_by_cmp_equiv, proofs.lemmas.Cmp.tied_itself, proofs.lemmas.List.append_cancel_left, proofs.lemmas.List.length-take-le, proofs.lemmas.List.take-append-le, proofs.lemmas.Option.slice_get_past, proofs.lemmas.Option.slice_get_within, proofs.lemmas.Slice.Eq.slice_eq-Decides, specs.Cmp.unsigned_Decides, specs.Cmp.Lexicographic.slice_cmp, specs.FinMap.FinMap, specs.FinMap.get-empty, specs.FinMap.get-insert, specs.Option.is_none, specs.Option.option_map, specs.Ordering.is_eq, specs.Ordering.nat_cmp, specs.Ordering.ordering_then, specs.declared.cmp.Ordering.Ordering, specs.declared.cmp.Ordering.TheVariants.Equal, specs.declared.cmp.Ordering.TheVariants.Greater, specs.declared.cmp.Ordering.TheVariants.Less}
pub use lib.Dec.{eqb-suc-suc, eqb-suc-zero, eqb-zero-suc}
pub use Rattle.std.specs.FinMap as map
pub use Rattle.std.proofs.Common.{Bool, Err, List, None, Ok, Option, Result, Some, [], ap, append-nil, append_assoc, arith, cond, eq-eqb, eqb-true, false, if◌then◌else◌, inl, inr, is_some, length, length-append, not, refl, subst, suc, sym, take, true, zero, ℕ, ◌&&◌, ◌++◌, ◌+◌, ◌<◌, ◌==◌, ◌||◌, ◌∙◌, ◌∷◌, ◌≡◌, ◌≤◌, ◌⊎◌}
pub use Rattle.std.proofs.lemmas.Bool.{and_from, and_parts, and_right, false_from_ne_true, or_from, or_left, or_parts, or_right}
pub use Rattle.beldi_value.specs.Id.{age_of, child_of, has_callees, has_no_hops, id_cmp, id_exact, id_total, is_older, root_of}
pub use Rattle.beldi_value.{proofs.Ages.either, proofs.Callees.child_same, proofs.Callees.no_root, specs.Passes.passes, specs.declared.id.IntentId.IntentId, specs.declared.outcome.Cause.Cause, specs.declared.outcome.Code.Code, specs.declared.outcome.Outcome.Outcome, specs.declared.place.Caller.Caller, specs.declared.place.Owner.Owner, specs.declared.place.Owner.TheVariants.Intent, specs.declared.place.Owner.TheVariants.Tx, specs.declared.place.Place.Place, specs.declared.place.TxId.TxId, specs.declared.rel.Rel.Rel, specs.declared.value.Value.Value, specs.declared.value.Value.TheVariants.Null}
pub use Rattle.beldi_tree.specs.StatementCommand.{Command, Commands, abort, async, break, call, choose, command, commands_of, condwrite, lock, no_commands, read, repeat, return, set, transaction, unlock}
pub use Rattle.beldi_tree.specs.{Bindings.Bindings, Bindings.is_name, Bindings.or_null, Evaluate.and_then, Evaluate.term_value, Evaluate.truth, Names.func_at, Term.null, Term.text, declared.deployment.Deployment.Deployment, declared.deployment.TableHead.TableHead}
pub use Rattle.beldi_lang.specs.Wants.{Does, Leads, Local, answered as answer_to, asks, body, breaks, closed, counted, does, effect_to, ends, fault, first_local, followed, func_number, goes, inside_of, is_inside, key_value, locks, looped, most_effects, or_fault, releases, run_block, set_to, table_number, tables_of, takes, transact, turns, unlocks, wants}
pub use Rattle.beldi_lang.specs.{Callee.answer_of, HeldLocks.is_held, HeldLocks.is_lock, HeldLocks.is_none_held, HeldLocks.without, declared.effect.Answer.Answer, declared.effect.Answer.TheVariants.Done, declared.effect.Effect.Effect, declared.effect.Effect.TheVariants.Async, declared.effect.Effect.TheVariants.Call, declared.state.HeldLock.HeldLock}
pub use Rattle.beldi_book.specs.declared.entry.Entry.{Entry}
pub use Rattle.beldi_plain.specs.Moves.{AllPlain, AtEnd, Commits, FallsSo, Leads as LeadsTo, Move, Runs, TouchedIn, fell, is_there, plain, stands_there, touched_at, touched_item}
pub use Rattle.beldi_plain.specs.Operation.{OnItem, Operation, answer_after, free, item_in, op_of, or_old, set_if, sets, touched, write}
pub use Rattle.beldi_plain.specs.Transaction.{Going, aborted, dies_at, gives, is_aborted, is_holder, new_member, opened, tx_begun, with_member}
pub use Rattle.beldi_plain.specs.Plain.{Instance, PlainState, answered, answered_if, callee_of, calls_at, effect_before, effect_of, ended, new_instance, value_at, with_instance}
pub use Rattle.beldi_plain.specs.{Holds.held_along, Holds.held_by, Holds.held_if, Holds.holds, Item.Item, Item.item_cmp, Item.item_total}
pub use Rattle.beldi_plain.specs.Operation as operation
pub use Rattle.beldi_plain.specs.Plain as plainly
pub use Rattle.beldi_plain_laws.specs.TransactionMoves.{OnCallStack, IsBelow, IsIn, CallStack, WrittenIn, next, top, written_at, written_on}
pub use Rattle.beldi_plain_laws.specs.WellFormedState.{CalledBy, IsAnswer, IsCalled, IsDeath, answer_given, call_of, enclosing_by}
pub use Rattle.beldi_plain_laws.specs.Txs.{Txs, along, effect_after, end_of, is_at, or_own, tx_after, tx_at, tx_by, tx_now, txs_after, txs_by}
pub use Rattle.beldi_plain_laws.{proofs.LeadsAlike.leads_alike as moves_alike, proofs.LeadsAlike.kept, proofs.LeadsAlike.others, proofs.LeadsAlike.set_alike, proofs.Ends.along_append, proofs.Ends.ended_stays, proofs.Ends.ends_kept, proofs.Ends.fits, proofs.Ends.fits_at, proofs.EntryLaws.moves_grow, proofs.Foreign.no_callees, proofs.Foreign.no_later, proofs.Foreign.none_after, proofs.Foreign.none_below, proofs.PlainOperations.IsOther, proofs.PlainOperations.held_pushed, proofs.PlainOperations.id_same, proofs.PlainOperations.item_same, proofs.PlainOperations.plain_set, proofs.Transactions.transactions_are_moves, proofs.Rises.places_come_once, proofs.Sound.after_well_formed, proofs.Sound.going_so, proofs.Sound.operation_answers, proofs.Sound.well_formed_with, proofs.Touched.written_touched, proofs.Went.along_pushed, proofs.Went.txs_pushed, proofs.Went.went_pushed, proofs.WholeTransaction.going_begun, specs.Grown.Grown, specs.Grown.GrownAt}
pub use Rattle.beldi_plain_laws.specs.TransactionMoves as inside
pub use Rattle.beldi_plain_laws.specs.WellFormedState as plain
pub use Rattle.beldi_plain_laws.proofs.Called.{IsAlone, both_set, callee_answered, callee_ended, callee_new, callee_over, callee_sent, caller_answered, caller_ended, effect_now, effect_past, get_after, last_hop, longer_cases, next_step, not_own, not_root, pairs_set, tx_here_now}
pub use Rattle.beldi_plain_laws.proofs.GoingOn.{AllSound, GoingWellFormed, IsSound as Older, answered_plainly, going_moved, is_plainly, line_tx, not_owner, plainly_edge}
pub use Rattle.beldi_plain_laws.proofs.CallStack.{all_in, callee_in, in_line, last_of, line_alike, line_moved, line_opened, long, longer, not_longer, returned}
pub use Rattle.beldi_plain_laws.proofs.Maps.{elsewhere, elsewhere as stays, equal, here, made_set, none_by, same_some, still_made}
pub use Rattle.beldi_plain_laws.proofs.Moved.{Answers, Calls, Items, MoveIs, Returns, answer_by, answer_inside, answers, answers_so, calls, calls_so, gone_on, items_after, items_by, move_is, mover, returns, returns_so}
pub use Rattle.beldi_plain_laws.proofs.WellFormed.{WellFormedWith, Waited, begun_pushed, is_edge, outside_of, well_formed_in, waited_by}
pub use Rattle.beldi_row.{proofs.Gets.got, proofs.Gets.got as row_got, proofs.Gets.key_same, proofs.Gets.key_self, proofs.Logs.id_self, proofs.Logs.note_pushed, proofs.Logs.place_same, proofs.Logs.place_self, proofs.TableRows.get_set, specs.Act.other_owner, specs.Act.owns, specs.Key.RowKey, specs.Key.at_row, specs.Key.key_cmp, specs.Key.kind_at, specs.Log.id_eq, specs.Log.note_at, specs.Log.owner_eq, specs.Log.place_eq, specs.Table.Rows, specs.Table.set_row, specs.declared.key.Kind.Kind, specs.declared.notes.Note.Note, specs.declared.row.Body.Body, specs.declared.row.IntentRow.IntentRow, specs.declared.row.InvokeRow.InvokeRow, specs.declared.row.Row.Row}
pub use Rattle.beldi_chain.specs.{Chain.ChangedAlone, Chain.IsHead, Chain.chain, Chain.content, Chain.is_row_of, Chain.tail, Content.Content, Content.content_in}
pub use Rattle.beldi_chain.proofs.{Heads.chain_off, Heads.chain_other, OneRow.no_content, OneRow.no_tail, OneRow.tail_value}
pub use Rattle.beldi_links.{specs.Links.IsLinked, proofs.LinkKeeps.none_linked}
pub use Rattle.beldi_daal.specs.{Logged.barred, Logged.done_to, Logged.note_after, Logged.owner_after, Logged.unless_owned, Logged.value_after, declared.cell.CellOp.CellOp, declared.cell.CellOp.TheVariants.Free, declared.cell.CellOp.TheVariants.Lock}
pub use Rattle.beldi_readlog.specs.ReadLog.{log_key}
pub use Rattle.beldi_invokelog.specs.InvokeLog.{call_in, invoke_key, result_in}
pub use Rattle.beldi_intent.specs.Intent.{root_key}
pub use Rattle.beldi_step.specs.{Run.is_waited, Run.place_of, Tables.decision_key, Tables.is_committed, Tables.value_in}
pub use Rattle.beldi_histories.specs.Acts.{ContentReply, did, died, held, held_or, lock_answer, lock_on, lock_or, noted_or, put_lockset, test_on, tested, with_note, write_on}
pub use Rattle.beldi_histories.specs.Frame.{AnswersOne, LockedOut, ExpectsAlso, ExpectsSame, lock_in, put, row_added}
pub use Rattle.beldi_histories.specs.InsideLaws.{AbortsAreEntries, CallsGo, CommitsAreEntries, DeathsGo, FellAt, FirstRowsGo, IsConsistent, HoldersInsideAreMade, IsAbort, IsCommit, IsSound, KeepsValue, OpensAreOpen, ReadsGo, ReleasesList, ReturnsGo, RowsGo, TestsGo, WritesGo, item_of, last_answer}
pub use Rattle.beldi_histories.specs.Histories.{Got, Histories, Prefix, ahead_by, ahead_note, and_local, local_answer, answered_note, asks_lock, local_steps, at_step, begins_at, commit_in, decision_by, ended_at, ended_by, got_before, got_by, is_decided, is_item, is_mark, is_on, is_tx, last_step, lock_note, lockset_of, advanced, advanced as answered_on, advanced as goes_on, note_by, note_or, local_step, local_step_if, expected_call, expected_lockset, expected_note, expected_read, expected_shadow, expected_value, read_at, row_at, run_on, run_local, shadow_at, shadow_by, tx_end, tx_eq, value_or, write_op}
pub use Rattle.beldi_histories.specs.Matches.{ItemMatches, IsAheadAt, LocksAreAheadAtEnds, IsAheadIf, LocksetMatches, Matches, RowMatches, ShadowMatches, TxsMatch, has_ended, is_open, lockset_ahead}
pub use Rattle.beldi_histories.specs.RowMatching.{BodyMatches, CallMatches, CalleeBodyMatches, CalleeMatches, EndsRow, FinishMatches, IntentMatches, IsBodyOf, IsCalleeRow, IsRootRow, LogMatches, OutcomeMatches, RootMatches, tx_in}
pub use Rattle.beldi_histories.specs.Shadows.{AllGot, AllShow, ShadowShows, Shadows, Shows, is_writing, writes_on, writing_at}
pub use Rattle.beldi_histories.specs.{Behind.IsPending, Extends.Extends, Extends.IsKept, Extends.OpenTx, Extends.PlainOwner, Extends.begins, Extends.is_begin, Contents.IsAside, Contents.IsLinkedItem, Contents.SameShadows, Contents.content_of, Contents.head_key, Contents.is_owner, Contents.lockset_key, Contents.shadow_chain, Contents.shadow_key, Contents.shadow_of, Contents.shadow_row, Listed.listed, Listed.listed_under, OutsideOperations.DoneRows, OutsideOperations.cell_of, Expected.called_by, Expected.note_of, Expected.noted, Expected.noted as noted_by, Expected.result_of, Expected.value_for, WellFormedHistories.Closed, WellFormedHistories.WellFormedHistories, WellFormedHistories.WellFormedHistory, Stands.body_of}
pub use Rattle.beldi_histories.specs.InsideLaws as laws
