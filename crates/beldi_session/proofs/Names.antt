-- Names that the lemmas of this crate import, gathered.
pub use Rattle.std.specs.Prelude.{IfOk, IsErrOf, OnErr, OnOk}
pub use Rattle.std.{proofs.lemmas.Grind.flat_map-append, proofs.lemmas.List.append-nil, proofs.lemmas.List.nil_from_length, specs.declared.alloc.AllocError.AllocError}
pub use Rattle.std.proofs.Common.{Bool, Err, List, None, Ok, Option, Result, Some, [], add-one, ap, append_assoc, arith, codes, drop, eqb-true, false, flat_map, if◌then◌else◌, inl, inr, length, refl, subst, suc, sym, true, zero, ℕ, ◌&&◌, ◌++◌, ◌+◌, ◌-◌, ◌<◌, ◌∙◌, ◌∷◌, ◌≡◌, ◌≤◌}
pub use Rattle.beldi_tree.specs.declared.deployment.Deployment.{Deployment}
pub use Rattle.beldi_book.specs.{BookText.book_text, declared.book.Book.Book}
pub use Rattle.beldi_row.{proofs.Tells.tells_map, specs.Table.IsCount, specs.Table.Rose, specs.Table.Rows, specs.Table.TableState, specs.Table.Tells, specs.Table.row_count}
pub use Rattle.beldi_step.{proofs.AnyStep.over_any_table, proofs.AnyStep.over_rows, specs.HostStep.Core, specs.HostStep.EventOn, specs.HostStep.Stepped, specs.HostStep.most_events, specs.Next.next_run, specs.Next.reset, specs.Prunes.Prunes, specs.Prunes.PrunesOn, specs.Tables.tables_text, specs.declared.event.Event.Event, specs.declared.event.Pruned.Pruned, specs.declared.event.EventReply.EventReply}
pub use Rattle.beldi_host.{proofs.Taken.was_taken, specs.HostCore.core_of, specs.Survey.Reads, specs.Survey.reply_status, specs.declared.survey.OpenErr.OpenErr, specs.declared.survey.ReplyStatus.ReplyStatus}
pub use Rattle.beldi_script.specs.{LineCut.lines_of, declared.line.Line.Line}
pub use Rattle.beldi_outside.{proofs.Observed.told_map, proofs.Observed.told_same, proofs.Observed.told_then, specs.Outside.Observed}
pub use Rattle.beldi_session.specs.HostResponse.{Answered, BookIs, BrokeOff, LineRefused, PruneAnswered, PruneBroke, ReplyAlone, ReplyIs, Report, Reported, Response, RowsAre, SettledIs, Share, SweptIs, TablesAre, WentBack, WentOn, Whole, report_text, response_text, responses_text, tables_head, unread_line}
pub use Rattle.beldi_session.specs.Script.{Action, Call, Carry, CountRows, ListBook, ListTables, Prune, Refuse, Settle, Sweep, TellReply, TellSwept, actions_in, actions_of, and_then, is_ok, is_whole, sweep_at, sweep_next, times, turn_of}
pub use Rattle.beldi_session.specs.Session.{Does, DoesTo, Flushes, Follows, IsReport, IsStep, Leaves, LeftBy, SettlingLeaves, Sight, Steps, Unchanged, Went, WentBy, by_done, by_text, left_by, sight, state_at}
pub use Rattle.beldi_schedule.specs.Settle.{HasTurns, WasTaken, away, begun, counts, ends_round, events_left, first_at, go_on, on_ic_reply, is_turned_away, is_waiting, next_of, parked, round_over, on_turn_reply, unless_away}
pub use Rattle.beldi_session.specs.Settled.{wait_text}
pub use Rattle.beldi_schedule.specs.{declared.machine.At.At, declared.machine.Next.Next, declared.machine.Next.TheVariants.Collect, declared.machine.Next.TheVariants.Reset, declared.machine.Next.TheVariants.Turn, declared.machine.Standing.Standing, declared.machine.Standing.TheVariants.Working, declared.machine.Standing.TheVariants.Over, Settles.State}
pub use Rattle.beldi_session.specs.{Answer.answer_text, Check.counted, Refusal.cause_text, Refusal.place_text, Source.Numbered, Source.next, Source.numbered, Source.said_at, declared.refusal.Refusal.Refusal, declared.session.Stop.Stop, declared.session.Stop.TheVariants.OutOfMemory, declared.session.Stop.TheVariants.SinkFault, declared.sweeping.Swept.TheVariants.Unswept}
