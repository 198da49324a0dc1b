-- Names that the lemmas of this crate import, gathered.
pub use Rattle.std.specs.Option.{option_map}
pub use Rattle.std.specs.FinMap as map
pub use Rattle.std.proofs.Common.{Bool, Err, None, Ok, Option, Some, ap, false, if◌then◌else◌, refl, subst, sym, true, ℕ, ◌&&◌, ◌==◌, ◌∙◌, ◌≡◌}
pub use Rattle.beldi_value.specs.{Same.same_value, declared.outcome.Outcome.Outcome, declared.value.Value.Value}
pub use Rattle.beldi_row.specs.Act.{act, bind_to, prunes, end_with, finish_at, other, outcome_reply, stamp_with}
pub use Rattle.beldi_row.{proofs.Unchanged.looked, proofs.Unchanged.unchanged, specs.Key.RowKey, specs.Table.Rows, specs.Table.set_row, specs.declared.act.Act.TheVariants.Bind, specs.declared.act.Act.TheVariants.DropIntent, specs.declared.act.Act.TheVariants.DropRow, specs.declared.act.Act.TheVariants.End, specs.declared.act.Act.TheVariants.Issue, specs.declared.act.Act.TheVariants.Look, specs.declared.act.Act.TheVariants.Register, specs.declared.act.Act.TheVariants.Stamp, specs.declared.row.Body.Body, specs.declared.row.IntentRow.IntentRow, specs.declared.row.Row.Row}
pub use Rattle.beldi_query.{proofs.Promises.at_each, proofs.Promises.promised, proofs.Queries.acted, specs.Query.replied, specs.declared.query.Query.TheVariants.Act}
pub use Rattle.beldi_intent.specs.Intent.{BodiesAreSetOnce, BoundBy, BoundOn, CalleesArePutOnce, EndedBy, EndedOn, FinishesAreSetOnce, GoesOn, IntentGoesOn, IntentsAreTold, IntentsStay, IssuedOn, OutcomesAreSetOnce, RegisteredOn, RootsArePutOnce, StampedBy, StampedOn, bind_asks, binding_of, bound_before, bound_by, end_asks, intent_in, intent_key, intent_of, is_added, issue_asks, look_asks, put_of, read_as, register_asks, root_key, stamp_asks}
