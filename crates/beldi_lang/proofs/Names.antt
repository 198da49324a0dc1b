-- Names that the lemmas of this crate import, gathered.
pub use Rattle.std.specs.Prelude.{IfOk, OnOk, filter, nat_lt, not, option_map}
pub use borrow.Author.Tests.{ltb-true}
pub use Rattle.std.proofs.Common.{Bool, Err, IsTrue, List, None, Ok, Option, Result, Some, [], add-one, ap, arith, drop, false, get_or, if◌then◌else◌, length, length-append, refl, rules, subst, suc, sym, true, zero, ℕ, ◌*◌, ◌++◌, ◌+◌, ◌-◌, ◌<◌, ◌∙◌, ◌∷◌, ◌≡◌, ◌≤◌}
pub use Rattle.std.proofs.lemmas.{Fn.filter_same, List.append-nil}
pub use Rattle.beldi_value.specs.declared.{outcome.Code.Code, outcome.Outcome.Outcome, value.Value.Value}
pub use Rattle.beldi_tree.specs.StatementCommand.{Command, Commands, abort, async, block_size, break, call, choose, command, command_size, commands_of, condwrite, lock, no_commands, read, repeat, return, set, transaction, unlock, write}
pub use Rattle.beldi_tree.specs.{Bindings.Bindings, Bindings.no_variables, Evaluate.and_then, Evaluate.key_at, Evaluate.term_value, Evaluate.truth, Evaluate.value_at, TreeFalls.statement_falls, Names.func_at, Statement.command_at, Statement.command_of, Statement.statements_view, Term.Term, declared.block.Block.Block as Body, declared.deployment.Deployment.Deployment, declared.deployment.Expr.Expr, declared.deployment.Form.Form, declared.deployment.Func.Func, declared.deployment.Stmt.Stmt, declared.deployment.TableHead.TableHead}
pub use Rattle.beldi_lang.specs.Machine.{IsAt, begun, gone_on, led, next_step, released, resumed, standing}
pub use Rattle.beldi_lang.specs.BodyRuns.{Afresh, Block, From, Request, Start, Went, asked, begins, begun_inside, by_test, choice, done, ended, enters, first_state, head, inner, leaves, loop, may_count, name_of, one_more, outcome_of, requested, restored, run, run_block, run_body, shifted, simple, stops, turns, inside_part}
pub use Rattle.beldi_lang.specs.Wants.{Does, Leads, Local, answered, asks, body, body_of, breaks, closed, closes, counted, does, effect_of, effect_to, ends, fault, first_local, followed, func_number, goes, inside_of, is_inside, key_value, locks, looped, most_effects, or_fault, releases, set_to, table_number, tables_of, takes, transact, unlocks, wants, wants_answer}
pub use Rattle.beldi_lang.specs.{Bounds.InheritedWantNoBound, Bounds.is_bound, HeldLocks.is_held, HeldLocks.is_lock, HeldLocks.is_none_held, HeldLocks.without, AnswersLeft.Requests, AnswersLeft.left_at, AnswersLeft.told, AnswersLeft.turn_left, declared.effect.Answer.Answer, declared.effect.Effect.Effect, declared.effect.Effect.TheVariants.CondWrite, declared.effect.Effect.TheVariants.Write, declared.machine.Machine.Machine, declared.state.Exit.Exit, declared.state.Exit.TheVariants.Breaks, declared.state.Exit.TheVariants.Ends, declared.state.Exit.TheVariants.Completes, declared.state.Frame.Frame, declared.state.Frame.TheVariants.Ending, declared.state.Frame.TheVariants.In, declared.state.HeldLock.HeldLock, declared.state.Part.Part, declared.state.Part.TheVariants.First, declared.state.Part.TheVariants.Inside, declared.state.Part.TheVariants.Second, declared.state.Part.TheVariants.Turn, declared.state.State.State, declared.state.Went.Went as BodyWent, declared.state.Went.TheVariants.Leaves, declared.state.Went.TheVariants.Stops}
pub use Rattle.beldi_lang.specs.BodyRuns as machine
