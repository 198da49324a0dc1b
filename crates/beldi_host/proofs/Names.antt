-- Names that the lemmas of this crate import, gathered.
pub use Rattle.std.specs.Prelude.{IfOk, IfSome, IsErrOf, IsSome, OnOk, T, flat_map, max, nat_le, nat_lt, not}
pub use Rattle.std.{proofs.lemmas.Bool.ltb-true, proofs.lemmas.Bool.Decides.nat_tests, proofs.lemmas.Cmp.tied_itself, proofs.lemmas.List.nil_from_length, proofs.lemmas.Map.Keys.ge_from_not_lt, proofs.lemmas.Map.Keys.le_from_is_le, specs.Cmp.nat_cmp_is, specs.Cmp.nat_cmp_total, specs.FinMap.get-entries, specs.FinMap.len-empty, specs.FinMap.len-entries, specs.FinMap.Entries.below_all, specs.FinMap.Entries.find, specs.FinMap.Entries.is_sorted, specs.Ordering.is_eq, specs.Ordering.is_le, specs.Ordering.is_lt, specs.Ordering.nat_cmp, specs.Ordering.ordering_reverse, specs.Ordering.ordering_then, specs.declared.alloc.AllocError.AllocError, specs.declared.cmp.Ordering.Ordering, specs.declared.cmp.Ordering.TheVariants.Equal, specs.declared.cmp.Ordering.TheVariants.Greater, specs.declared.cmp.Ordering.TheVariants.Less}
pub use borrow.Author.Tests.{ltb-false}
pub use Rattle.std.specs.FinMap as map
pub use Rattle.std.proofs.Common.{Bool, Err, List, None, Ok, Option, Result, Some, [], ap, append-nil, append_assoc, arith, cond, false, if◌then◌else◌, inl, inr, is_some, refl, rules, subst, suc, sym, true, zero, ℕ, ◌&&◌, ◌++◌, ◌+◌, ◌-◌, ◌<◌, ◌==◌, ◌^◌, ◌||◌, ◌∙◌, ◌∷◌, ◌≡◌, ◌≤◌, ◌⊎◌}
pub use Rattle.beldi_value.specs.{Id.root_of, declared.id.IntentId.IntentId, declared.outcome.Outcome.Outcome, declared.place.Owner.Owner, declared.value.Value.Value}
pub use Rattle.beldi_tree.specs.declared.deployment.Deployment.{Deployment}
pub use Rattle.beldi_book.specs.LinearOrder.{count_changes}
pub use Rattle.beldi_plain.specs.{Legal.IsLegal, Legal.run_of, Listing.listing_of, Plain.PlainState, Plain.outcome_of, Plain.reply_of, Replies.HasNoReply}
pub use Rattle.beldi_row.specs.Key.{RowKey, key_cmp, key_ticket, kind_cmp, least_key, rank_of, ticket_of}
pub use Rattle.beldi_row.specs.Table.{Acted, ActedOn, IsNotFull, Rose, Rows, TableState, Tells, first_above, next_row}
pub use Rattle.beldi_row.{proofs.Gets.key_same, proofs.Tells.tells_map, proofs.Unchanged.looked, specs.Act.act, specs.Act.act_reply_of, specs.KeyOrder.key_exact, specs.KeyOrder.key_total, specs.declared.act.Act.TheVariants.Look, specs.declared.act.ActReplyRef.ActReplyRef, specs.declared.key.Kind.Kind, specs.declared.key.Kind.TheVariants.Data, specs.declared.key.Kind.TheVariants.Intent, specs.declared.key.Kind.TheVariants.Invoke, specs.declared.key.Kind.TheVariants.Lockset, specs.declared.key.Kind.TheVariants.ReadLog, specs.declared.key.Kind.TheVariants.Shadow, specs.declared.row.Body.Body, specs.declared.row.Row.Row, specs.declared.row.Row.TheVariants.Cell, specs.declared.table.TableErr.TableErr}
pub use Rattle.beldi_query.{proofs.Queries.acted, proofs.Queries.same_rows, proofs.Queries.went, specs.Query.QueryReply, specs.declared.query.Query.TheVariants.Act, specs.declared.query.Query.TheVariants.After}
pub use Rattle.beldi_intent.specs.{Intent.bind_asks, Intent.binding_of, Intent.is_added, Intent.issue_asks, Intent.root_key, declared.intent.Binding.Binding}
pub use Rattle.beldi_collect.specs.{Collect.collect_output, declared.cursor.Found.Found}
pub use Rattle.beldi_step.specs.HostStep.{Core, EventOn, Followed, HaltCame, HaltOn, Plan, StepBy, Stepped, after_turn, asks, immediate, collect_next, counted, crash_plan, ended_run, first_core, halt_next, has_run, on_reply, in_time, is_crowded, is_halt, last_moment, may_start, most_events, new_run, newest_of, greatest, open_plan, plan, plan_of, reads_all, refused, request_next, run_next, run_plan, started, ticket_next, turned_core, unheard_next, with_run}
pub use Rattle.beldi_step.specs.Tables.{is_committed, line_at, owned_value, row_line, shown_under, tables_text, value_in, value_line}
pub use Rattle.beldi_step.specs.declared.event.Event.TheVariants.{Crash, Halt, Ic, Lost, Request, Restart, Tick, Ticket, Turn}
pub use Rattle.beldi_step.{proofs.PastDeadline.expires, proofs.AnyStep.over_rows, specs.Prunes.Prunes, specs.Prunes.PrunesOn, specs.declared.event.Pruned.Pruned, specs.Run.callee_of, specs.Run.run_asks, specs.Run.run_told, specs.Run.output_of, specs.declared.event.Event.Event, specs.declared.event.EventReply.EventReply, specs.declared.run.Run.Run, specs.declared.run.TurnOutput.TurnOutput, specs.declared.run.Wait.Wait}
pub use Rattle.beldi_histories.specs.{Matches.has_ended, RowMatching.BodyMatches, RowMatching.IntentMatches, Stands.Stands}
pub use Rattle.beldi_invariant.{proofs.Events.after_event, proofs.Moves.seen_by, proofs.Moves.with_runs, proofs.OneAnswer.answers_stay, proofs.OneAnswer.one_answer, proofs.Outside.outcome_recorded, proofs.Standing.invariant_stands, proofs.Standing.same_run, specs.InvariantLaws.is_gone, specs.OneAnswer.AnswersStay, specs.OneAnswer.OneAnswerPerStep, specs.Invariant.Invariant}
pub use Rattle.beldi_upkeep.{proofs.Together.begins_upkept, proofs.Together.keeps_upkeep, specs.Upkeep.Upkeep}
pub use Rattle.beldi_kept.{proofs.Begins.begins_early, proofs.Begins.begins_kept, proofs.Collecting.prunings_keep_safe, proofs.Collecting.prunings_keep_whole, proofs.Collecting.safe_at_cursor, proofs.Collecting.safe_at_first, proofs.LeftRows.kept_answers, proofs.LeftRows.kept_listing, proofs.LeftRows.kept_stand, proofs.Telling.kept_are_legal, specs.KeptRows.HasKept, specs.Safe.EventsKeepSafe, specs.Safe.IsSafe, specs.StandsLess.OneAnswerLess, specs.StandsLess.StandsLess}
pub use Rattle.beldi_core.{proofs.Plans.is_turn, proofs.Plans.no_memory, proofs.Plans.query_asked, proofs.Plans.reads, proofs.Plans.turn_asked, proofs.Plans.turn_now, proofs.Truths.first, proofs.Truths.less, proofs.Truths.second, proofs.Truths.test_true, specs.PlannedEvent.AskingRun, specs.PlannedEvent.core_in, specs.PlannedEvent.declined_reply, specs.PlannedEvent.event_of, specs.PlannedEvent.reply_in}
pub use Rattle.beldi_host.specs.Survey.{IsHighWater, IsNewest, NewestAt, Past, Reads, cell_listed, is_unknown, last_rank, latest, latest_of, line_after, next_mark_of, opened_core, rest, row_moment, next_line_of, next_listed_of, outcome_status, reply_status, row_status, listed_at, listed_of, told_row}
pub use Rattle.beldi_host.specs.{HostCore.core_of, HostInvariant.EndsLate, HostInvariant.HasNoRows, HostInvariant.RowsStandFor, HostInvariant.RowsStandLess, ReplyStatus.IsStatusSo, declared.survey.OpenErr.OpenErr, declared.survey.OpenErr.TheVariants.Failed, declared.survey.OpenErr.TheVariants.OutOfMemory, declared.survey.Owned.Owned, declared.survey.ReplyStatus.ReplyStatus, declared.survey.ReplyStatus.TheVariants.Gone, declared.survey.ReplyStatus.TheVariants.Unknown}
