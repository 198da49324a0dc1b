-- Names that the lemmas of this crate import, gathered.
pub use Rattle.std.specs.FinMap.{entries_sorted, len-insert, get-empty, get-entries, get-insert, get-remove, nat_cmp-IsAntisymmetric, same_map}
pub use Rattle.std.specs.Prelude.{IsSome, filter, nat_lt, ◌==◌}
pub use Rattle.std.{proofs.lemmas.Bool.le-ltb, proofs.lemmas.Bool.lt-ltb, proofs.lemmas.Bool.Decides.eqb_tells, proofs.lemmas.Bool.Decides.nat_tests, proofs.lemmas.Cmp.eq_by_cmp_equiv, proofs.lemmas.Cmp.tied_itself, proofs.lemmas.Map.Keys.ge_from_not_lt, specs.BTreeMap.is_at, specs.Cmp.Equal-is, specs.Cmp.nat_cmp_total, specs.Cmp.ranks, specs.FinMap.Entries.below_all, specs.FinMap.Entries.find, specs.FinMap.Entries.is_sorted, specs.List.list_any, specs.List.Sorted.IsStrictlySortedBy, specs.Map.keys_of, specs.Map.lookup, specs.Option.MatchOption, specs.Option.option_copied, specs.Option.option_copied_mut, specs.Option.option_map, specs.Ordering.MatchOrdering, specs.Ordering.eq_by_cmp, specs.Ordering.is_eq, specs.Ordering.is_lt, specs.Ordering.nat_cmp, specs.declared.alloc.AllocError.AllocError, specs.declared.cmp.Ordering.Ordering, specs.declared.cmp.Ordering.TheVariants.Equal, specs.declared.cmp.Ordering.TheVariants.Greater, specs.declared.cmp.Ordering.TheVariants.Less}
pub use borrow.Author.Tests.{ltb-false, ltb-true}
pub use denote.Bor.{Bor}
pub use Rattle.std.specs.FinMap as map
pub use Rattle.std.proofs.Common.{Bool, Err, List, None, Ok, Option, Result, Some, T, [], ap, arith, cond, false, if◌then◌else◌, inl, inr, is_none, is_some, refl, rules, subst, suc, sym, true, zero, ℕ, ◌&&◌, ◌+◌, ◌-◌, ◌<◌, ◌||◌, ◌∙◌, ◌∷◌, ◌≡◌, ◌≢◌, ◌≤◌, ◌⊎◌}
pub use Rattle.beldi_value.{proofs.Maps.get_made, proofs.Maps.set_made, proofs.Maps.unset_made, specs.Id.id_cmp, specs.Id.id_exact, specs.Id.id_total, specs.declared.id.IntentId.IntentId}
pub use Rattle.beldi_tree.specs.declared.deployment.Deployment.{Deployment}
pub use Rattle.beldi_book.specs.LinearOrder.{count_changes}
pub use Rattle.beldi_row.{proofs.TableRows.entries_rows, proofs.TableRows.get_rows, proofs.TableRows.len_rows, proofs.TableRows.none_removed, proofs.TableRows.one_gone, proofs.TableRows.one_set, specs.Key.row_of, specs.Table.TableState, specs.declared.table.TableErr.TableErr, specs.declared.table.TableErr.TheVariants.OutOfMemory}
pub use Rattle.beldi_query.{proofs.Queries.unasked, specs.Query.Came, specs.Query.QueryReply, specs.Query.query_reply_of, specs.declared.query.Query.Query}
pub use Rattle.beldi_step.specs.HostStep.{Core, Followed, Plan, StepBy, Stepped, after_turn, asks, immediate, crash_plan, ended_run, has_run, marked, no_run, plan, plan_of, put_run, reads_all, run_next, run_plan, unheard_next}
pub use Rattle.beldi_step.specs.Next.{first_past}
pub use Rattle.beldi_step.specs.RunStride.{past_first, unless_first, walked, walking}
pub use Rattle.beldi_step.specs.Run.{Turned, Turns, followed, going, run_asks, run_told, output_of}
pub use Rattle.beldi_step.{proofs.PutRun.put_got, proofs.PutRun.put_twice, proofs.PutRun.remove_put, specs.declared.event.Event.Event, specs.declared.event.Event.TheVariants.Lost, specs.declared.event.Event.TheVariants.Turn, specs.declared.event.EventReply.EventReply, specs.declared.run.Mark.Mark, specs.declared.run.Run.Run, specs.declared.run.TurnOutput.TurnOutput, specs.declared.run.Walking.Walking}
pub use Rattle.beldi_core.specs.Counts.{AllCounted, CountMap, LoweredAt, LoweredTo, RaisedAt, count_at, counted, is_of, kept_as, less, more, more_if, number_of}
pub use Rattle.beldi_core.specs.PlannedEvent.{Asked, Copied, IsWalk, NoMemory, PlannedOf, TellsTurn, WalkTold, base, core_in, declined_reply, entered, event_of, mark_told, reply_in, turn_in}
pub use Rattle.beldi_core.specs.Live.{IsFirst, IsLeast, begins_with, map_of, with_first, with_run}
pub use Rattle.beldi_core.specs.LiveRuns.{AllGiven, AllKept, IsLeastPast, Numbered, RunMap, RunTold, ends_run, settled, settled_counts, uncounted, walked_in, withdrawn}
pub use Rattle.beldi_core.specs.declared.{events.Pending.Pending, events.Planned.Planned, runs.Copies.Copies}
