-- Names of the crates below and of this crate's definitions, gathered for its lemmas.
pub use Rattle.std.specs.Prelude.{filter, if◌then◌else◌, is_some, min, not, option_and_then, slice_get}
pub use Rattle.std.{proofs.Math.Nat.eq-or-lt_of_le, proofs.Math.Nat.mul-le-mul_right, proofs.Math.Nat.one-le-pow, proofs.Math.Nat.pow-succ', proofs.lemmas.Bool.and_parts, proofs.lemmas.Bool.false_from_ne_true, proofs.lemmas.Bool.ltb-true, proofs.lemmas.Bool.Decides.nat_tests, proofs.lemmas.Cmp.tied_itself, proofs.lemmas.List.take-append-le, proofs.lemmas.List.take_all, proofs.lemmas.Option.slice_get_past, specs.Cmp.Equal-is, specs.FinMap.FinMap, specs.FinMap.IsAntisymmetric, specs.FinMap.get-empty, specs.FinMap.get-insert, specs.FinMap.get-remove, specs.FinMap.same_map, specs.Option.option_map, specs.Ordering.is_eq, specs.declared.cmp.Ordering.Ordering}
pub use Rattle.std.specs.FinMap as map
pub use Rattle.std.proofs.Common.{Bool, IsTrue, List, None, Option, Some, [], ap, append-nil, append_assoc, ap₂, arith, cond, eqb-true, false, inl, inr, length, length-append, refl, subst, suc, sym, take, true, zero, ℕ, ◌&&◌, ◌*◌, ◌++◌, ◌+◌, ◌-◌, ◌<◌, ◌==◌, ◌^◌, ◌∙◌, ◌∷◌, ◌≡◌, ◌≤◌, ◌⊎◌}
pub use Rattle.beldi_value.specs.Id.{child_of, has_callees, has_no_hops, id_cmp, id_exact, id_total, is_older, root_of}
pub use Rattle.beldi_value.{proofs.Callees.child_same, proofs.Callees.no_root, specs.declared.id.IntentId.IntentId, specs.declared.outcome.Outcome.Outcome, specs.declared.place.Caller.Caller, specs.declared.place.Owner.Owner, specs.declared.place.Owner.TheVariants.Intent, specs.declared.place.Place.Place, specs.declared.place.TxId.TxId, specs.declared.value.Value.Value, specs.declared.value.Value.TheVariants.Null}
pub use Rattle.beldi_tree.specs.{Bindings.or_null, declared.deployment.Deployment.Deployment}
pub use Rattle.beldi_lang.{proofs.Resumes.few_answers, specs.Callee.answer_of, specs.Wants.wants, specs.Wants.wants_answer, specs.declared.effect.Answer.Answer, specs.declared.effect.Answer.TheVariants.Done, specs.declared.effect.Effect.Effect, specs.declared.effect.Effect.TheVariants.Async, specs.declared.effect.Effect.TheVariants.Call}
pub use Rattle.beldi_book.specs.LinearOrder.{VersionsBounded, VersionBy, suffix, by_change, changes_of, count_changes, prefix, if_change, linear, put_by, put_read, put_reads, version_of, until_change}
pub use Rattle.beldi_book.{proofs.Orders.changes_more, proofs.Orders.changes_twice, proofs.Orders.front_back, proofs.Orders.linear_changes, proofs.Orders.put_keeps, proofs.Orders.puts_keep, specs.declared.entry.Entry.Entry, specs.declared.entry.Entry.TheVariants.Read, specs.declared.entry.Entry.TheVariants.Start, specs.declared.entry.Entry.TheVariants.Step, specs.declared.entry.Entry.TheVariants.AbortedTx, specs.declared.entry.Entry.TheVariants.CommittedTx}
pub use Rattle.beldi_plain.specs.Guard.{IsFree, IsGuarded, TouchedInCommit, TouchedInAbort, Touches, actor, item_touched, touched_by}
pub use Rattle.beldi_plain.specs.Moves.{Aborts, AllPlain, AtEnd, Commits, FallsSo, Leads, Move, NotBefore, Runs, TouchedBy, TouchedIn, fell, is_there, move_by, after_move, plain, stands_there, touched_at, touched_item}
pub use Rattle.beldi_plain.specs.Operation.{OnItem, Operation, answer_after, cond as test, free, item_in, lock, op_of, or_old, set_if, set_item, sets, write}
pub use Rattle.beldi_plain.specs.Transaction.{Going, aborted, at_instance, dies_at, ends_by, ends_on, fallen, falls_by, fault_by, gives, is_holder, is_owner, is_same, moves_by, new_member, opened, over_by, commit_from, returns_to, stands_at, abort_from, abort_on, tx_begun, with_answers, with_member}
pub use Rattle.beldi_plain.specs.Plain.{Instance, PlainState, answer_caller, answer_to, answered, callee_of, calls_at, can_step, effect_before, effect_of, ended, give, if_open, if_read, is_waiting, item_of, kind_of, new_instance, nothing, operated, start, step_by, unless, value_at, waits_at, with_callee, with_instance}
pub use Rattle.beldi_plain.specs.{PlainEntries.after, Holds.held_along, Holds.held_by, Holds.held_if, Holds.holds, Item.Item, Item.item_cmp, Item.item_exact, Item.item_total, Legal.run_from, declared.kind.Kind.Kind}
pub use Rattle.beldi_plain.specs.Operation as operation
pub use Rattle.beldi_plain_laws.specs.TransactionMoves.{Alike, LeadsAlike, EntriesTouchWhatTheyChange, OnCallStack, IsBelow, IsIn, IsMember, CallStack, MovesReadTheirItems, OthersLeaveTransactions, TransactionsAreMoves, TransactionsTouchTheirItems, PlacesComeOnce, WrittenBy, WrittenIn, next, top, written_at, written_on}
pub use Rattle.beldi_plain_laws.specs.PlainLaws.{BelongsEarlier, EndsWith, IsKeptLate, IsLast, KeepsNoNull, LinearIsInOrder, NullIsAbsent, belongs, reads_after, with_answer}
pub use Rattle.beldi_plain_laws.specs.WellFormedState.{CalledBy, InsideIsOver, IsAnswer, IsCalled, IsCommitted, LegalIsWellFormed, WellFormed, WellFormedAt, WentSo, answer_given, call_of, forgets, forgets_begun, is_forgotten, enclosing_by}
pub use Rattle.beldi_plain_laws.specs.Txs.{Txs, along, effect_after, end_of, is_at, none_begun, or_own, tx_after, tx_at, tx_by, tx_now, txs_after, txs_by}
pub use Rattle.beldi_plain_laws.specs.{Grown.Grown, Grown.GrownAt, Grown.Grows, GuardLaws.LateReadsLeaveGuards, GuardLaws.LegalIsGuarded, GuardLaws.StandsAtOperation}
