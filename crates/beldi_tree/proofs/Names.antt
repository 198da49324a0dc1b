-- Names that the lemmas of this crate import, gathered.
pub use Rattle.std.specs.FinMap.{FinMap, get, get-insert, insert, nat_cmp-IsAntisymmetric, same_map, slice_cmp-IsAntisymmetric}
pub use Rattle.std.{proofs.Math.Seq.map-set_same, proofs.lemmas.Bool.not-false, proofs.lemmas.List.set-get_or, proofs.lemmas.List.set-set, proofs.lemmas.Map.Keys.sorted_head, proofs.lemmas.Map.Keys.sorted_tail, proofs.lemmas.Map.Lookups.CmpEqualImpliesEq, proofs.lemmas.Option.get_or_from_slice_get, proofs.lemmas.Option.slice_get-get_or, proofs.lemmas.Option.slice_get_within, specs.BTreeMap.is_at, specs.Cmp.IsTotalOrder, specs.Cmp.Lexicographic.nat_list_cmp_total, specs.Cmp.Lexicographic.same_text, specs.Cmp.Lexicographic.slice_cmp, specs.List.AllByRecursion, specs.List.position, specs.List.Sorted.IsStrictlySortedBy, specs.Map.keys_of, specs.Map.lookup, specs.Option.option_eq, specs.Option.option_or, specs.Ordering.is_eq, specs.Ordering.nat_cmp, specs.declared.cmp.Ordering.Ordering, specs.declared.cmp.Ordering.TheVariants.Equal, specs.declared.cmp.Ordering.TheVariants.Greater, specs.declared.cmp.Ordering.TheVariants.Less}
pub use Prim.Native.Nat
pub use Rattle.std.specs.FinMap as map
pub use Rattle.std.proofs.Common.{Bool, Err, List, None, Ok, Option, Result, Some, [], ap, ap₂, arith, below_more, cond, drop, eqb-true, false, get_or, get_or-set_same, length, not, refl, rules, set, take, slice_get, subst, suc, sym, true, ℕ, ◌*◌, ◌++◌, ◌+◌, ◌<◌, ◌==◌, ◌∙◌, ◌∷◌, ◌≡◌, ◌≤◌}
pub use Rattle.beldi_value.{proofs.Maps.get_made, proofs.Maps.set_made, specs.Datum.Datum, specs.Json.text_of, specs.Value.datum_of, specs.declared.outcome.Code.Code, specs.declared.value.Value.Value, specs.declared.value.Value.TheVariants.Text}
pub use Rattle.beldi_tree.specs.Evaluate.{IsFault, and_then, both, compared, either, element_of, field_of, fields_value, items_value, length_of, limited, negated, on_three, on_two, operate, opposite, pushed, term_value, value_at, with_field, ◌>>=◌}
pub use Rattle.beldi_tree.specs.{DistinctNames.AreApart, Bindings.Bindings, Bindings.is_name, StatementCommand.Command, Expr.applied, Expr.chained, Expr.items_view, Expr.members_view, Expr.term_of, TreeFalls.first_falls, CowValue.cow_value, Statement.command_of, Statement.statements_view, OperatorSteps.ended, OperatorSteps.stepped, Term.Term, Term.items_of, Term.members_of, Term.members_size, Term.term_size, Term.terms_size, declared.deployment.Expr.Expr, declared.deployment.Func.Func, declared.deployment.Step.Step, declared.deployment.TableHead.TableHead, declared.fault.EvalErr.EvalErr, declared.fault.EvalErr.TheVariants.Fault, declared.fault.EvalErr.TheVariants.OutOfMemory}
