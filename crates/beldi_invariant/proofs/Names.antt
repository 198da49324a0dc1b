-- Names of the crates below and of this crate's definitions, gathered for its lemmas.
pub use Rattle.std.specs.FinMap.{entries_sorted, get-entries, get-remove, len-empty, len-insert, len-remove, nat_cmp-IsAntisymmetric, same_map}
pub use Rattle.std.specs.Prelude.{IfOk, nat_le, option_and_then, option_to_list, ◌-◌, ◌^◌}
pub use Rattle.std.{proofs.Math.Bool.and-false, proofs.Math.Nat.eq-or-lt_of_le, proofs.lemmas.Bool.lt-ltb, proofs.lemmas.Bool.ltb-true, proofs.lemmas.Bool.Decides.nat_tests, proofs.lemmas.List.take-append-drop, proofs.lemmas.List.take_more, specs.Cmp.Equal-is, specs.Cmp.nat_cmp_total, specs.FinMap.Entries.below_all, specs.FinMap.Entries.find, specs.FinMap.Entries.is_sorted, specs.FinMap.Entries.same_entries, specs.Ordering.is_lt, specs.declared.alloc.AllocError.AllocError}
pub use borrow.Author.Tests.{le-leb, leb-false, leb-true, lt-leb, ltb-false}
pub use Rattle.std.specs.FinMap as map
pub use Rattle.std.proofs.Common.{IsTrue, T, add-one, drop, flat_map, get_or}
pub use Rattle.beldi_value.specs.{Same.same_value, declared.place.Owner.TheVariants.Tx as ByTx}
pub use Rattle.beldi_tree.specs.declared.deployment.Func.{Func}
pub use Rattle.beldi_lang.specs.declared.effect.Effect.TheVariants.{Abort, Begin, CondWrite, End, Read, Return, Unlock, Write}
pub use Rattle.beldi_lang.{proofs.Bounds.no_bound, proofs.Resumes.at_begin, proofs.Resumes.at_effect, proofs.Resumes.at_next, proofs.Resumes.few_answers, specs.Bounds.is_bound, specs.Machine.IsAt, specs.Machine.begun as machine_begun, specs.Wants.wants_answer, specs.declared.machine.Machine.Machine}
pub use Rattle.beldi_book.specs.LinearOrder.{VersionsBounded, suffix, changes_of, count_changes, prefix, linear, version_of}
pub use Rattle.beldi_book.{proofs.Orders.changes_more, proofs.Orders.front_back, proofs.Orders.linear_changes, specs.BookText.item_text, specs.declared.entry.Entry.Entry, specs.declared.entry.Entry.TheVariants.Start, specs.declared.entry.Entry.TheVariants.Step, specs.declared.entry.Entry.TheVariants.AbortedTx}
pub use Rattle.beldi_plain.specs.Plain.{AllShort, answer_caller, kind_of, nothing, operate, outcome_of, reply_of, start, step_by, waits_at, with_callee}
pub use Rattle.beldi_plain.specs.{Replies.HasReply, Replies.starts_of, PlainEntries.after, Guard.IsFree, Guard.IsGuarded, Guard.Touches, Guard.item_touched, Guard.touched_by, Item.item_exact, Legal.run_from, Legal.run_of, Listing.listing_of}
pub use Rattle.beldi_plain_laws.{proofs.Ends.at_of, proofs.Foreign.entries_touch, proofs.Growth.change_last, proofs.Growth.kept_late, proofs.LateReads.not_moved, proofs.LockHeld.from_begin, proofs.LockHeld.operation_step, proofs.Maps.changed, proofs.Maps.here as inserted, proofs.Nulls.no_null, proofs.EntryPlaces.front_all, proofs.Sound.answers_waiter, proofs.Sound.legal_is_well_formed, proofs.Touched.transactions_touch_their_items, proofs.Went.pushed_cases, specs.Grown.Grows, specs.PlainLaws.BelongsEarlier, specs.PlainLaws.IsKeptLate, specs.PlainLaws.IsLast, specs.PlainLaws.IsStateAt, specs.PlainLaws.KeepsNoNull, specs.PlainLaws.with_answer, specs.Txs.none_begun}
pub use Rattle.beldi_plain_laws.specs.WellFormedState as plain
pub use Rattle.beldi_plain_laws.proofs.EntryLaws.{after_grows, enabled_step, free_at_operation, grown_answer, grown_end, grows_at, grows_new, grows_self, grows_through, opened_grows, run_grows, runs_on}
pub use Rattle.beldi_plain_laws.proofs.Maps as maps
pub use Rattle.beldi_row.specs.Act.{ActReply, act, bind_to, call_back_to, prunes, end_with, finish_at, given_or, off, on, other, outcome_reply, register_to}
pub use Rattle.beldi_row.specs.declared.act.Act.TheVariants.{Bind, CallBack, Issue, Look, MakeCell, NoteRegistered, OpenInvoke, PutLockset, PutRead, Register}
pub use Rattle.beldi_row.{proofs.Logs.note_here, proofs.Unchanged.looked, proofs.Unchanged.unchanged, specs.Key.at_row, specs.Key.kind_at, specs.Key.least_key, specs.Key.row_of as number_of, specs.KeyOrder.key_exact, specs.KeyOrder.key_total, specs.Log.blank, specs.Table.Rose, specs.Table.TableState, specs.Table.after_act, specs.declared.act.Act.Act, specs.declared.act.Act.Act as RowAct, specs.declared.notes.Note.TheVariants.Cond, specs.declared.notes.Note.TheVariants.Died, specs.declared.notes.Note.TheVariants.Got, specs.declared.notes.Note.TheVariants.Wrote, specs.declared.table.TableErr.TableErr, specs.declared.table.TableErr.TheVariants.Failed, specs.declared.table.TableErr.TheVariants.Full, specs.declared.table.TableErr.TheVariants.OutOfMemory}
pub use Rattle.beldi_query.specs.Query.{CameOn, QueryReply, lends, may_remove, query_adds, rows_after, replied, query_reply}
pub use Rattle.beldi_query.{proofs.Lent.refused_stand, proofs.Lent.rows_stand, proofs.Promises.at_each, proofs.Promises.rows_there, specs.declared.query.Query.Query, specs.declared.query.Query.TheVariants.After}
pub use Rattle.beldi_daal.specs.Cell.{cell_key, done_note, in_the_way, op_act, read_goes, write_asks, write_goes}
pub use Rattle.beldi_daal.specs.Logged.{DidAs, DidOnce, LoggedTurn, Logs, ReadTurn, at_of as cell_at, died_at, died_of, dies, held_by, waited}
pub use Rattle.beldi_chain.specs.{Chain.Chain, Chain.ChangedAlone, Chain.IsHead, Chain.chain, Chain.content, Chain.is_row_of, Chain.tail}
pub use Rattle.beldi_chain.{proofs.Grows.notes_stay, proofs.Heads.chain_off, proofs.OneRow.no_content}
pub use Rattle.beldi_links.specs.Links.{AllGrow, IsLinked, ReadsAt, RowsGrow, SeesAt}
pub use Rattle.beldi_links.proofs.{Grows.others_grow, Grows.others_keep, Grows.readers_keep, Grows.same_grow, Meets.reads_begin, Meets.walks_begin}
pub use Rattle.beldi_daal.{proofs.Logged.by_op, proofs.Logged.by_read, proofs.Spares.write_spares, specs.ReadWalk.read_so, specs.WriteWalk.walk_so, specs.declared.cell.CellOp.TheVariants.Free as FreeOp, specs.declared.cell.ReadGoes.ReadGoes, specs.declared.cell.WriteAt.WriteAt, specs.declared.cell.WriteGoes.WriteGoes, specs.declared.read_walk.ReadWalk.ReadWalk, specs.declared.walk.Item.TheVariants.Plain, specs.declared.walk.WriteWalk.WriteWalk}
pub use Rattle.beldi_lock.{proofs.Firsts.IsApart, proofs.Firsts.first_apart, specs.Lock.item_goes, specs.Lock.note_goes, specs.Lock.put_goes, specs.Lockset.AreHops, specs.Lockset.most, specs.declared.lock.LockAt.LockAt, specs.declared.lock.LockAt.TheVariants.Item as AtItem, specs.declared.lock.LockAt.TheVariants.Lockset}
pub use Rattle.beldi_readlog.specs.ReadLog.{given, given_in, given_of, kept_of}
pub use Rattle.beldi_invokelog.{proofs.InvokedCalls.calls_stay, specs.InvokeLog.CallGoesOn, specs.InvokeLog.GoesOn, specs.InvokeLog.back_asks, specs.InvokeLog.back_of, specs.InvokeLog.opened, specs.InvokeLog.registered_asks, specs.declared.invoke_log.Back.TheVariants.Absent, specs.declared.invoke_log.Back.TheVariants.AlreadySet, specs.declared.invoke_log.Back.TheVariants.Set}
pub use Rattle.beldi_invokelog.specs.declared.invoke_log.Back as back
pub use Rattle.beldi_intent.specs.Intent.{bind_asks, binding_of, body_in, body_told, end_asks, intent_key, is_added, is_did, is_ended, issued_at, look_asks, open_body, register_asks}
pub use Rattle.beldi_intent.specs.declared.intent.Binding.{Binding}
pub use Rattle.beldi_txn.specs.End.{at_calls, back_from, call_goes, calls_goes, counts, decided_by, end_goes, end_place, first_end, first_visit, free_place, freed_goes, last_goes, next_goes, value_goes, visit_asks, visited_by}
pub use Rattle.beldi_txn.specs.Tx.{asks_of, given_goes, head_made, item_asks, item_leads, item_of, keep_goes, lock_leads, locked_goes, seek_goes, shadow_read, write_leads}
pub use Rattle.beldi_txn.specs.Visited.{AllFreed, AllReleased, AreClosed, AreMarked, AreLinked, AreReleased, AtEnd, DecidedAt, GetsFinish, IsCall, IsDecided, IsMember, IsReleased, IsCallPath, IsWithin, RowsStay, Visited, called_at, given_value, is_closed, is_own, lock_row, owner_of, row_closed}
pub use Rattle.beldi_txn.{proofs.InvokedInside.IsNarrow, proofs.InvokedInside.first_narrow, proofs.Levels.member_more, proofs.Levels.path_more, proofs.TxTurn.asked, proofs.Visited.FindsFirstCall, proofs.Visited.FindsFirstLock, proofs.Visited.Leads, proofs.Visited.turns, proofs.Visited.visits_stand, specs.Invokes.call_key, specs.Invokes.func_called, specs.TxTurn.Fits, specs.TxTurn.HasLock, specs.TxTurn.Sees, specs.TxTurn.shadow_value, specs.CallPath.Member, specs.CallPath.member_at, specs.declared.end.EndAt.EndAt, specs.declared.end.EndAt.TheVariants.Callees, specs.declared.end.EndAt.TheVariants.Decide, specs.declared.end.EndAt.TheVariants.Free, specs.declared.end.EndAt.TheVariants.Next, specs.declared.end.EndAt.TheVariants.Shadow, specs.declared.end.EndAt.TheVariants.Stamp, specs.declared.end.EndGoes.EndGoes, specs.declared.end.EndState.EndState, specs.declared.end_walk.EndWalk.EndWalk, specs.declared.tx.TxAt.TxAt, specs.declared.call_path.Called.Called}
pub use Rattle.beldi_txn.specs.Tx as txn
pub use Rattle.beldi_call.specs.{Async.async_asks, Async.async_output, Async.note_output, Async.open_output, Call.call_asks, Call.call_output, Call.look_output, declared.async_call.AsyncAt.AsyncAt, declared.call.CallAt.CallAt}
pub use Rattle.beldi_collect.specs.Collect.{collect_asks, collect_output}
pub use Rattle.beldi_step.specs.HostStep.{Core, EventBy, EventOn, Followed, HaltCame, HaltOn, Plan, StepBy, after_turn, asks, bound_next, collect_next, collected, counted, crash_plan, ended_run, entry_of, first_core, halt_next, halted, has_run, on_reply, if_lent, is_crowded, last_moment, launched, made, marked, may_start, most_events, most_runs, new_run, no_memory, no_run, passed, newest_of, plan, plan_of, put_run, reads_all, refused, refused_by, request_next, run_next, run_plan, started, ticket_next, turn_next, turned_core, unbound, unheard_next, with_run, without_run}
pub use Rattle.beldi_step.specs.Run.{Turned, answer_noted, answers_it, ask_output, asks_at, async_answer, async_here_asks, async_here_output, local_steps as local_steps_of, at_stage, back_output, back_to_asks, begin_in, begin_of, body_registered, call_answer, call_here_output, callee_at, callee_body, callee_by, callee_of as run_called, cell_op, close_output, decide_by_output, decided_output, done_output, end_by_asks, end_by_output, end_mark, first_stage, goes, goes_from, goes_to, if_answers, is_inherited, keep_output, last_stage, mark_if, note_done, note_of_op, open_after, over, own_tx, put_asks, put_output, reply_if, run_asks, run_told, output_of, stage_asks, stage_output, step_mark, takes, takes_if, notify_asks, told_at, turned_by, tx_at as run_tx, tx_here_asks, tx_here_output, tx_of, tx_output, visit_output, walk_output, with_cause, inherited_tx, write_output}
pub use Rattle.beldi_step.specs.declared.event.Event.TheVariants.{Crash, Halt, Ic, Lost, Request, Restart, Tick, Ticket, Turn}
pub use Rattle.beldi_step.{specs.EventContent.bound_of, specs.EventContent.reply_entries, specs.EventContent.is_dropped, specs.EventContent.is_lost, specs.EventContent.reply_outcome, proofs.PutRun.put_got, proofs.PutRun.remove_put, specs.Noted.noted_answer, specs.Tables.line_at, specs.Tables.row_line, specs.Tables.shown_under, specs.Tables.tables_text, specs.Tables.value_line, specs.declared.event.Event.Event, specs.declared.event.EventReply.EventReply, specs.declared.run.Begun.Begun, specs.declared.run.Mark.Mark, specs.declared.run.OpenTx.OpenTx, specs.declared.run.Run.Run, specs.declared.run.RunAt.TheVariants.Begins, specs.declared.run.RunAt.TheVariants.Looks, specs.declared.run.RunAt.TheVariants.Registers, specs.declared.run.RunTx.RunTx, specs.declared.run.RunTx.TheVariants.Inherited, specs.declared.run.RunTx.TheVariants.Own, specs.declared.run.StageOutput.StageOutput, specs.declared.run.StageOutput.TheVariants.Answers, specs.declared.run.StageOutput.TheVariants.Ends, specs.declared.run.StageOutput.TheVariants.On, specs.declared.run.StageOutput.TheVariants.Opens, specs.declared.run.StageOutput.TheVariants.Waits, specs.declared.run.Stage.Stage, specs.declared.run.TurnOutput.TurnOutput, specs.declared.run.Wait.Wait}
pub use Rattle.beldi_step.specs.Run as step
pub use Rattle.beldi_step.specs.declared.run.RunAt as standing
pub use Rattle.beldi_histories.specs.Stands.{HasNotEnded, IsGivingBack, IsMade, IsUndecided, Stands, answer_aside, decides, has_place, held_answer, held_inside, held_note, held_outside, key_in, note_of_lock}
pub use Rattle.beldi_histories.{proofs.LocksAhead.ahead_front, proofs.LocksAhead.ahead_set, proofs.LocksAhead.none_out, proofs.LocksAhead.unlocked_absent, proofs.LocksAhead.unlocked_elsewhere, proofs.LocksAhead.unlocked_outside, proofs.Answers.get_next, proofs.Answers.take_front, proofs.Answers.true_false, proofs.LocalSteps.origin_stays, proofs.Begins.aborts_inside, proofs.Begins.going_now, proofs.Begun.called_begun, proofs.Begun.got_begun, proofs.Begun.listed_open, proofs.Begun.undecided, proofs.CallRows.call_opened, proofs.CallRows.given_back, proofs.CallRows.made_expects, proofs.Deaths.death_is_older, proofs.Decided.aborts_are_entries, proofs.Decided.commits_are_entries, proofs.Decided.decision_row, proofs.Decided.release_lists, proofs.Decides.decided, proofs.Flows.stands, proofs.Frame.local_steps_same, proofs.Frame.begins, proofs.Frame.moved_one, proofs.FrameAt.recorded_set, proofs.FrameAt.or_none, proofs.RunsStay.goes_then, proofs.RunsStay.once_goes, proofs.RunsStay.run_on_prefix, proofs.Instances.IsRowOf, proofs.Instances.no_own_callee, proofs.Instances.row_of, proofs.Intents.callee_put, proofs.Intents.intent_ended, proofs.Intents.root_bound, proofs.CallStacks.front_is, proofs.CallStacks.in_tx, proofs.CallStacks.opens_are_open, proofs.CallStacks.owner_is, proofs.CallStacks.plain_owner, proofs.CallStacks.plain_owner_of, proofs.LockRows.is_its, proofs.LockRows.tx_same, proofs.LockRows.tx_self, proofs.NoTx.IsOutside, proofs.NoTx.begins_parts, proofs.NoTx.outside_parts, proofs.NoTx.outside_so, proofs.Nothing.ahead_nothing, proofs.Nothing.nothing_matches, proofs.Nothing.well_formed_nothing, proofs.ItemOperations.does_so, proofs.Outside.call_answered, proofs.Outside.free_after, proofs.Outside.no_tx, proofs.Outside.operation_done, proofs.Outside.read_added, proofs.OwnTx.own, proofs.OwnTx.own as own_is, proofs.Owners.IsFreeFor, proofs.Owners.her_own, proofs.Owners.nobody_else, proofs.Owners.unbarred, proofs.Owners.unowned, proofs.Participants.IsOpenOwner, proofs.Participants.decided_over, proofs.Participants.ends_alone, proofs.Participants.now_open, proofs.Participants.open_owner, proofs.Phases.abort_ends, proofs.Phases.at, proofs.Phases.begin_is, proofs.Phases.end_is, proofs.Phases.inside_holds_none, proofs.Phases.inside_is, proofs.ReadLists.asked_for, proofs.ReadLists.asked_own, proofs.ReadLists.begun_lists, proofs.ReadLists.gathered, proofs.ReadLists.member_tx, proofs.ReadLists.no_begin, proofs.Sets.is_log as is_row_log, proofs.Sets.row_put, proofs.Shadows.none_show, proofs.Unaborted.returned_cause, specs.Acts.noted, specs.InsideLaws.IsOpen, specs.InsideLaws.decided as with_decision, specs.Histories.local_steps as with_once, specs.Histories.lock_note as lock_expected, specs.Behind.IsBehind, specs.RowMatching.HasNoRow}
pub use Rattle.beldi_histories.proofs.Names.{Answer, Async, Extends, Body, BodyMatches, Bool, Call, CallMatches, CalledBy, CalleeBodyMatches, CalleeMatches, Caller, Cause, CellOp, Content, Deployment, Done, DoneRows, Effect, Err, FellAt, FinMap, FinishMatches, IsConsistent, Grown, GrownAt, HoldersInsideAreMade, Instance, Intent, IntentId, IntentMatches, IntentRow, InvokeRow, IsAbort, IsAnswer, IsBelow, IsBodyOf, IsCalled, IsCalleeRow, IsCommit, IsDeath, IsPending, IsRootRow, IsSound, Item, ItemMatches, Items, Kind, Histories, CallStack, List, Lock, LocksAreAheadAtEnds, IsAheadIf, LockedOut, LocksetMatches, LogMatches, Matches, None, Note, Null, Ok, OnItem, Operation, Option, Ordering, Outcome, OutcomeMatches, Owner, Place, PlainState, Prefix, Rel, Result, RootMatches, Row, RowKey, RowMatches, Rows, WellFormedHistories, WellFormedHistory, ShadowMatches, Some, TouchedIn, Tx, TxId, Txs, TxsMatch, Value, Waited, [], age_of, ahead_by, ahead_note, along, along_append, along_pushed, and_local, and_parts, answer_after, local_answer, answer_given, answer_of, answered, answered_if, answered_note, ap, append-nil, append_assoc, arith, asks_lock, local_steps, at_step, barred, begins_at, body_of, call_in, call_of, called_by, callee_of, calls_at, cell_of, child_of, child_same, commit_in, cond, content_of, decision_by, decision_key, did, died, done_to, effect_after, effect_before, effect_of, elsewhere, end_of, ended, ended_at, ended_by, ended_stays, eq-eqb, eq_by_cmp_equiv, eqb-true, false, fits, fits_at, func_at, get-empty, get-insert, get_after, get_set, got, got_before, got_by, has_callees, has_ended, has_no_hops, head_key, held, held_or, here, holds, id_cmp, id_exact, id_same, id_total, if◌then◌else◌, in_line, inl, inr, invoke_key, is_aborted, is_at, is_begin, is_committed, is_decided, is_eq, is_item, is_mark, is_none, is_older, is_on, is_open, is_owner, is_some, is_tx, is_waited, item_cmp, item_in, item_same, item_total, key_cmp, key_same, key_self, last_answer, last_hop, last_step, length, length-append, length-take-le, line_opened, listed, listed_under, lock_answer, lock_in, lock_on, lock_or, lockset_ahead, lockset_key, lockset_of, log_key, made_set, advanced, nat_cmp, nat_lt, new_instance, next, next_step, none_by, not, note_after, note_at, note_by, note_of, note_or, note_pushed, noted_or, local_step, local_step_if, op_of, operation_answers, option_map, or_null, or_old, or_own, or_parts, other_owner, expected_call, expected_lockset, expected_note, expected_read, expected_shadow, expected_value, owner_eq, owns, passes, transactions_are_moves, place_eq, place_of, place_same, plain_set, put_lockset, read_at, refl, result_in, result_of, root_key, root_of, row_added, row_at, row_got, run_on, run_local, same_some, set_if, set_row, sets, shadow_by, shadow_key, shadow_of, slice_get, slice_get_within, subst, suc, sym, take, take-append-le, take-append_seam, test_on, tested, tied_itself, top, touched, true, tx_after, tx_at, tx_begun, tx_by, tx_end, tx_eq, tx_in, tx_now, txs_after, txs_by, txs_pushed, value_at, value_for, value_in, value_or, wants, with_instance, with_note, enclosing_by, write_on, write_op, writes_on, zero, ℕ, ◌&&◌, ◌++◌, ◌+◌, ◌<◌, ◌==◌, ◌||◌, ◌∙◌, ◌∷◌, ◌≡◌, ◌≤◌, ◌⊎◌}
pub use Rattle.beldi_histories.proofs.Acting.{calls_go, deaths_go, first_rows_go, reads_go, returns_go, rows_go, tests_go, writes_go}
pub use Rattle.beldi_histories.proofs.Acts.{aside_apart, aside_head, aside_key, by_item, chains_alone, content_apart, is_data, is_shadow, item_aside, item_head, keys_alone, kind_off, kinds_apart, lock_did, other_aside, other_item, other_key, other_shadows, same_data, same_shadow, shadow_same}
pub use Rattle.beldi_histories.proofs.AtPending.{lock_is_there, no_decision, no_note, no_row, no_row as no_log, no_shadow_note, note_is_ahead}
pub use Rattle.beldi_histories.proofs.Behind.{LockTold, behind_asks, behind_decided, behind_locks, behind_looks, behind_looks_dead, behind_tests, behind_writes, death_in, decision_there, lockset_there, stepped, there as was_answered, told}
pub use Rattle.beldi_histories.proofs.Callers.{CallerOf, all_called, begun_before, called_below, called_in, caller_in, root_or_called}
pub use Rattle.beldi_histories.proofs.InsideActs.{dies_inside, lockset_put, read_inside, released, shadow_made, test_inside, write_inside}
pub use Rattle.beldi_histories.proofs.HistoryLists.{did_lists, died_lists, lists_same, log_lists, own_value, shadow_lists}
pub use Rattle.beldi_histories.proofs.Outsides.{IsOutsideAll, MaySet, callee_apart, goes_one, goes_set, got_ended, got_new, got_next, recorded_none_after, outside_no_end, root_apart, set_after_callee, set_agrees, set_new, set_next, set_over, value_of}
pub use Rattle.beldi_histories.proofs.RowMaps.{is_intent_key, keys_set, no_root, no_root as no_root_key, set_here, set_others}
pub use Rattle.beldi_histories.proofs.WellFormed.{death_answer, last, not_waited, well_formed_answered, well_formed_bound, well_formed_called, well_formed_decided, well_formed_died, well_formed_ended, well_formed_read, well_formed_returned, well_formed_sent, well_formed_tested, well_formed_wrote, stands as stands_at_call, tx_here}
pub use Rattle.beldi_histories.specs.Contents.{IsAside, IsLinkedItem, SameShadows, shadow_chain, shadow_row}
pub use Rattle.beldi_invariant.specs.FoundInside.{Found, Frame, InItem, InOperation, IsFreePlace, IsOf, IsWriting, OfBegin, OwnedAreUnmarked, OwnersCallNobody, OwnersHaveNotEnded, ParticipantsAreReleased, ParticipantsHaveRows, Released, SeesBoth, SeesPut, StillOwns, TookPart, end_walk, has_asked, has_finish}
pub use Rattle.beldi_invariant.specs.InvariantLaws.{BookGrew, ChangesOneRow, DropsHaveCause, HeldAnswersStay, InstancesGoOn, KeepsInvariant, KeepsRoom, OneRowChanged, OutcomesStay, RepliesAreOutcomes, InvariantImpliesOneAnswer, InvariantImpliesLegal, StartsAreBound, WritesWhatIsTold, bound_by, is_gone}
pub use Rattle.beldi_invariant.specs.Invariant.{AtStage, Inside, Keeps, Knows, KnowsAt, KnowsBody, Invariant, RunAt, RunsMatch, StandsAt, WasThere, is_opened, is_past, is_sent, open_of}
pub use Rattle.beldi_invariant.specs.OneAnswer.{AnswersOf, AnswersStay, OneAnswerPerStep, WasGiven}
