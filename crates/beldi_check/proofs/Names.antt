-- Names that the lemmas of this crate import, gathered.
pub use Rattle.std.{proofs.Math.Seq.drop-cons, proofs.lemmas.Bool.lt-ltb, proofs.lemmas.Bool.ltb-true, proofs.lemmas.Bool.Decides.nat_tests, proofs.lemmas.List.append-nil, proofs.lemmas.List.append_assoc, proofs.lemmas.Option.slice_get_past, proofs.lemmas.Option.slice_get_within, specs.List.list_any, specs.Option.option_or}
pub use Rattle.std.proofs.Common.{Bool, IsTrue, List, None, Option, Some, [], add-one, ap, arith, drop, false, get_or, if◌then◌else◌, inl, inr, length, map, nat_lt, option_map, refl, slice_get, subst, suc, sym, take, true, zero, ℕ, ◌&&◌, ◌++◌, ◌+◌, ◌<◌, ◌||◌, ◌∙◌, ◌∷◌, ◌≡◌, ◌≤◌, ◌⊎◌}
pub use Rattle.beldi_tree.specs.{Bindings.is_name, StatementCommand.block_size, StatementCommand.command_size, StatementCommand.commands_of, TreeFalls.evaluated_falls, Statement.command_of, Statement.statements_view, declared.deployment.Func.Func, declared.deployment.TableHead.TableHead}
pub use Rattle.beldi_check.specs.CallGraph.{IsGrid, IsPath, IsRow, Link, ReachesByPaths, at, blocks, cell, edge, edge_to, leads, over, reaches, row_at}
pub use Rattle.beldi_check.specs.Rules.{Offence, double_name, double_table, first_broken, first_cycle, first_from, first_offence, first_site, first_statement, has_function, has_table, named, past_most, rules_of_places, rules_of_transactions, why_of}
pub use Rattle.beldi_check.specs.{Keeps.AcceptsExactly, Keeps.KeepsRules, Site.Spot, Site.line_at, Site.site_of, Site.sites, Site.sites_of, declared.calls.Link.TheVariants.Call, declared.calls.Link.TheVariants.Start, declared.rules.Rule.Rule, declared.why.Why.TheVariants.CallCycle, declared.why.Why.TheVariants.Duplicate, declared.why.Why.TheVariants.TooMany}
