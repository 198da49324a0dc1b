-- Names that the lemmas of this crate import, gathered.
pub use Rattle.std.specs.Prelude.{IsErrOf, OnOk, is_none, ◌-◌, ◌^◌, option_to_list, ◌&&◌}
pub use Rattle.std.{proofs.lemmas.Bool.false≢true, proofs.lemmas.List.append-nil, proofs.lemmas.Option.same_Some, specs.Global.Vec, specs.declared.alloc.AllocError.AllocError}
pub use Rattle.std.specs.FinMap as map
pub use Rattle.std.proofs.Common.{Bool, Err, IfOk, List, None, Ok, Option, Result, Some, [], ap, append_assoc, arith, false, inl, inr, length, refl, subst, subst₂, suc, sym, true, zero, ℕ, ◌++◌, ◌+◌, ◌∙◌, ◌∷◌, ◌≡◌, ◌≤◌, ◌⊎◌}
pub use Rattle.beldi_value.specs.declared.{outcome.Outcome.Outcome, value.Value.Value}
pub use Rattle.beldi_tree.specs.declared.deployment.Deployment.{Deployment}
pub use Rattle.beldi_book.specs.declared.entry.Entry.{Entry}
pub use Rattle.beldi_plain.specs.{Legal.IsLegal, Replies.HasReply, Replies.starts_of}
pub use Rattle.beldi_row.specs.{Key.RowKey, Key.least_key, Table.Rows, Table.TableState}
pub use Rattle.beldi_step.specs.{HostStep.Core, HostStep.EventOn, Next.at_key, Next.reset, declared.event.Event.Event, declared.event.EventReply.EventReply}
pub use Rattle.beldi_invariant.{proofs.OneEvent.book_grew, proofs.Standing.invariant_stands, proofs.Starts.starts_bound, specs.InvariantLaws.BookGrew, specs.InvariantLaws.bound_by as bound_by_event}
pub use Rattle.beldi_host.{specs.ReplyStatus.IsStatusSo, specs.Survey.Opened, specs.Survey.Refused, specs.Survey.opened_core, specs.declared.survey.OpenErr.OpenErr, specs.declared.survey.ReplyStatus.ReplyStatus, specs.declared.survey.ReplyStatus.TheVariants.Gone, specs.declared.survey.ReplyStatus.TheVariants.Reply, specs.declared.survey.ReplyStatus.TheVariants.Unknown, specs.declared.survey.ReplyStatus.TheVariants.Waiting}
pub use Rattle.beldi_script.specs.{LineCut.lines_of, declared.line.Line.Line}
pub use Rattle.beldi_outside.specs.Connection.{Connections}
pub use Rattle.beldi_outside.specs.Outside.{IsPrefixOf, ReadAllOn, Rose, Observed, TookPrefix, WroteOn, max_source}
pub use Rattle.beldi_outside.{proofs.Observed.told_map, proofs.Observed.told_same, proofs.Observed.told_then, specs.Memory.SinkState, specs.Memory.new_sink, specs.declared.traits.Failed.Failed}
pub use Rattle.beldi_command.specs.declared.command.Command.{Command, TheVariants.Check, TheVariants.Gen, TheVariants.Run, TheVariants.Serve}
pub use Rattle.beldi_generator.specs.{Generated.generated, Summary.summary_text}
pub use Rattle.beldi_session.specs.HostResponse.{Answered, AtFirst, BookIs, BrokeOff, IsTo, IsToSettling, LineRefused, ReplyAlone, ReplyIs, Report, Reported, Response, RowsAre, SettledIs, TablesAre, WentBack, WentOn, is_turn, responses_text}
pub use Rattle.beldi_session.specs.Script.{Action, Call, Carry, CountRows, ListBook, ListTables, Refuse, Settle, TellReply, actions_in, is_ok, is_whole}
pub use Rattle.beldi_session.specs.Session.{Does, Follows, IsReport, IsStep, Leads, Leaves, SettlingLeaves, Sight, Steps, Unchanged, Went, WentBy, Writes, sight, state_at}
pub use Rattle.beldi_schedule.specs.{Settle.next_of, declared.machine.Next.Next, declared.machine.Next.TheVariants.Collect, declared.machine.Next.TheVariants.Reset, declared.machine.Next.TheVariants.Turn, declared.machine.Standing.TheVariants.Working, declared.machine.Standing.TheVariants.Over, Settles.State}
pub use Rattle.beldi_session.{proofs.Responses.told_tells, proofs.Went.fine, proofs.Went.unchanged, specs.Check.check_at, specs.Check.check_by, specs.Check.counted, specs.Check.counted_on, specs.Check.tested, specs.Check.with_line, specs.Refusal.refusal_text, specs.Source.Numbered, specs.Source.first_line, specs.Source.numbered, specs.Source.said_at, specs.Source.script_of, specs.Source.source_at, specs.declared.refusal.Refusal.Refusal, specs.declared.session.Stop.Stop, specs.declared.session.Stop.TheVariants.OutOfMemory, specs.declared.session.Stop.TheVariants.SinkFault, specs.declared.source.Accepted.Accepted}
pub use Rattle.beldi_program.specs.Headline.{AsRead, BareEnds, ByStatus, CheckEnds, CommandEnds, Cut, DoneBy, Ends, GeneratedEnds, HasEnded, LongOn, NothingDone, ReadEnds, ServeEnds, ServiceEnds, Serving, ServingEnds, SessionEnds, SourceAsRead, SourceCommandEnds, SourceEnds, SummedUp, TextEnds, Untouched, Whole, WordsAsRead, end_of, is_bare_source, is_whole_asked, is_whole_by, is_whole_source, kept, kept_faults, reads_source, status_of, usage}
pub use Rattle.beldi_program.specs.PlainRun.{AreTo, Booked, IsPlainRun, IsReportSo, IsSo, Moment, Moments, RowsStandFor, Session, TellOutcomes, bound_by, bound_in, entries_in, last_book, loses, outcome_in, responses_in}
pub use Rattle.beldi_program.specs.{Hosted.Hosted, Hosted.LeadsTo, Hosted.StepsTo, Hosted.opened_at, declared.program.Ended.Ended}
