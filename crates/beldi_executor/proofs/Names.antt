-- Names that the lemmas of this crate import, gathered.
pub use Rattle.std.specs.FinMap.{FinMap, IsAntisymmetric, entries-from_sorted, entries_sorted, get, get-empty, get-entries, get-from_sorted, get-insert, get-remove, insert, remove, same_map}
pub use Rattle.std.specs.Prelude.{IfOk, MatchOption, OnErr, OnOk, if◌then◌else◌, is_none, not, option_and_then, option_copied, option_map, option_to_list, reverse, slice_get, ◌&&◌, ◌-◌, ◌==◌, ◌⊎◌}
pub use Rattle.std.{proofs.lemmas.Bool.ltb-false, proofs.lemmas.Bool.ltb-true, proofs.lemmas.Cmp.eq_by_cmp_equiv, proofs.lemmas.Cmp.tied_itself, proofs.lemmas.Grind.common_steps, proofs.lemmas.List.append-nil, proofs.lemmas.List.reverse-append, proofs.lemmas.List.take-append-drop, proofs.lemmas.List.take_all, proofs.lemmas.List.take_at, specs.Cmp.IsTotalOrder, specs.Cmp.nat_cmp_total, specs.FinMap.Entries.below_all, specs.FinMap.Entries.find, specs.FinMap.Entries.is_sorted, specs.Option.option_copied_mut, specs.Ordering.eq_by_cmp, specs.Ordering.is_eq, specs.Ordering.is_lt, specs.Ordering.nat_cmp, specs.Ordering.ordering_then, specs.declared.alloc.AllocError.AllocError, specs.declared.cmp.Ordering.Ordering, specs.declared.cmp.Ordering.TheVariants.Equal, specs.declared.cmp.Ordering.TheVariants.Greater, specs.declared.cmp.Ordering.TheVariants.Less}
pub use Rattle.std.specs.FinMap as map
pub use Rattle.std.proofs.Common.{Bool, Err, IfSome, List, None, Ok, Option, Result, Some, T, [], add-one, ap, append_assoc, arith, cond, drop, false, inl, inr, is_some, length, length-append, refl, rules, subst, suc, sym, take, true, zero, ℕ, ◌*◌, ◌++◌, ◌+◌, ◌<◌, ◌^◌, ◌∙◌, ◌∷◌, ◌≡◌, ◌≤◌}
pub use Rattle.beldi_value.{proofs.Maps.entries_made, proofs.Maps.get_made, proofs.Maps.set_made, proofs.Maps.unset_made, specs.Id.child_of, specs.Id.has_callees, specs.Id.id_cmp, specs.Id.id_exact, specs.Id.id_total, specs.declared.id.IntentId.IntentId, specs.declared.outcome.Cause.Cause, specs.declared.outcome.Outcome.Outcome, specs.declared.place.Caller.Caller, specs.declared.place.Place.Place, specs.declared.place.TxId.TxId, specs.declared.value.Value.Value}
pub use Rattle.beldi_tree.specs.{Bindings.or_null, declared.deployment.Deployment.Deployment}
pub use Rattle.beldi_lang.{proofs.Resumes.at_begin, proofs.Resumes.at_effect, proofs.Resumes.at_next, proofs.Resumes.returns_stay, specs.Callee.answer_of, specs.Machine.IsAt, specs.Machine.begun, specs.Machine.resumed, specs.Wants.wants, specs.Wants.wants_answer, specs.declared.effect.Answer.Answer, specs.declared.effect.Effect.Effect, specs.declared.effect.Effect.TheVariants.Return, specs.declared.machine.Machine.Machine}
pub use Rattle.beldi_book.specs.{LinearOrder.linear, declared.entry.Entry.Entry, declared.entry.Entry.TheVariants.AbortedTx, declared.entry.Entry.TheVariants.CommittedTx}
pub use Rattle.beldi_plain.specs.Operation.{OnItem, answer_after, item_in, op_of, set_if, set_item, sets, touched}
pub use Rattle.beldi_plain.specs.Transaction.{Going, at_instance, dies_at, ends_by, ends_on, fallen, falls_by, fault_by, gives, is_holder, is_owner, moves_by, new_member, opened, commit_from, returns_to, stands_at, abort_from, abort_on, tx_begun, with_answers, with_member}
pub use Rattle.beldi_plain.specs.Plain.{AllShort, Instance, PlainState, answer_caller, answered, answered_if, callee_of, calls_at, can_step, effect_of, ended, give, if_built, if_open, is_waiting, item_of, kind_of, new_instance, operated, step_by, unless, value_at, waits_at, with_callee, with_instance}
pub use Rattle.beldi_plain.specs.{Item.Item, Item.item_cmp, Item.item_exact, Item.item_total, Legal.run_from, Listing.items_text, declared.kind.Kind.Kind, declared.kind.Kind.TheVariants.Change, declared.kind.Kind.TheVariants.Inside, declared.kind.Kind.TheVariants.Read, declared.kind.Kind.TheVariants.Unbuilt}
pub use Rattle.beldi_executor.specs.Answers.{Began, Did, DidStep, IsFree, IsReady, Ran, StandsFree, bar_holder, bar_made, bar_no, bar_of, bar_open, bar_commit, bar_step, bar_abort, bar_waiting}
pub use Rattle.beldi_executor.specs.ByTable.{Cells, Tables, at_key, cells_at, item_at, items_in, items_of, key_cmp, key_exact, key_total, or_none, put_cell, table_cmp, table_exact, table_total, unset_cell}
pub use Rattle.beldi_executor.specs.Executor.{Acted, ActedAt, AllStand, Executor, Follows, IsActed, IsKept, IsNumber, Made, Passes, StandsAfter, StandsFor, StandsForOne, answer_by, answer_if, answer_on, at_one, cut_to, instance_by, items_by, items_if, next_by, next_of, next_told, waiter}
pub use Rattle.beldi_executor.specs.TransactionInPlace.{Acts, AreKept, Begins, Comes, Gave, GoesOn, IsCallee, IsDraft, Led, Left, CallStack, Longer, Moved, CommittedSo, Popped, StandsAtBegin, AbortedSo, Turned, Went, WentOn, after, all_gone, can_move, ends, going, is_stop, most, no_end, over_at, visible, abort_of}
pub use Rattle.beldi_executor.specs.Undo.{AllHaveRoom, HasRoom, IsUndone, Items, MadeIn, all_back, all_swept, back, item_was, keeps, kept_in, put_in, puts, swept, swept_if, was}
pub use Rattle.beldi_executor.specs.declared.{draft.Actor.Actor, draft.Draft.Draft, next.Next.Next, next.Next.TheVariants.Tells, plain.Bar.Bar, plain.Bar.TheVariants.NoEnd, plain.Bar.TheVariants.NoPlace, plain.Bar.TheVariants.NotOlder, plain.Bar.TheVariants.OtherEffect, plain.PlainErr.PlainErr, plain.PlainErr.TheVariants.NotEnabled, plain.PlainErr.TheVariants.OutOfMemory, tables.TableId.TableId, undo.Was.Was}
