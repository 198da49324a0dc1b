-- Names that the lemmas of this crate import, gathered.
pub use Rattle.serde_json.specs.View.{view}
pub use Rattle.std.specs.Prelude.{IfOk, SomeIff, min, nat_le, option_map, pos, ◌==◌, ◌↔◌}
pub use Rattle.std.{proofs.Math.Dec.leb-zero, proofs.lemmas.Bool.eq-eqb, proofs.lemmas.Bool.le-leb, proofs.lemmas.Bool.leb-false, proofs.lemmas.Bool.leb-true, proofs.lemmas.Bool.lt-leb, proofs.lemmas.List.Folds.length-prefix_len, proofs.lemmas.List.Sums.prefix_len-le-length, proofs.lemmas.Str.IsUtf8-from_is_utf8, proofs.lemmas.Str.is_utf8-from_IsUtf8, specs.Char.is_ascii_alphabetic, specs.Char.is_ascii_digit, specs.List.list_all, specs.List.list_any, specs.List.prefix_len, specs.List.take_while, specs.Str.IsUtf8, specs.Str.is_utf8, specs.Str.Lossy.utf8_valid_len, specs.declared.alloc.AllocError.AllocError}
pub use Rattle.std.proofs.Common.{Bool, Err, List, None, Ok, Option, Result, Some, [], add-one, ap, append_assoc, arith, codes, cond, drop, eqb-true, false, if◌then◌else◌, inl, inr, length, length-drop, map, not, refl, subst, suc, sym, take, true, zero, ℕ, ◌&&◌, ◌*◌, ◌++◌, ◌+◌, ◌-◌, ◌<◌, ◌^◌, ◌||◌, ◌∙◌, ◌∷◌, ◌≡◌, ◌≤◌, ◌⊎◌}
pub use Rattle.beldi_value.{proofs.JsonText.json_read, proofs.JsonText.no_json, specs.declared.rel.Rel.Rel, specs.declared.rel.Rel.TheVariants.Eq, specs.declared.rel.Rel.TheVariants.Ge, specs.declared.rel.Rel.TheVariants.Gt, specs.declared.rel.Rel.TheVariants.Le, specs.declared.rel.Rel.TheVariants.Lt, specs.declared.rel.Rel.TheVariants.Ne}
pub use Rattle.beldi_tree.specs.StatementCommand.{Command, abort, async, break, call as run, choose, commands_of, condwrite, lock, read, repeat, return, set, transaction, unlock, write}
pub use Rattle.beldi_tree.specs.Term.{Term, and, binary, boolean, compare, element, field, fields, int, items_of, len, list, members_of, name as name_term, negate, negate as negate_term, not as not_term, null, or, push as push_term, text as text_term, text_of as json_of, with}
pub use Rattle.beldi_tree.specs.{Expr.term_of, Statement.command_of, declared.deployment.Deployment.Deployment, declared.deployment.Expr.Expr, declared.deployment.Func.Func, declared.deployment.Op.TheVariants.Add, declared.deployment.Op.TheVariants.Div, declared.deployment.Op.TheVariants.Join, declared.deployment.Op.TheVariants.Mul, declared.deployment.Op.TheVariants.Rem, declared.deployment.Op.TheVariants.Sub, declared.deployment.Stmt.Stmt, declared.deployment.TableHead.TableHead}
pub use Rattle.beldi_syntax.specs.Deployments.{ReadsText, body, code_at, code_of, deployment as read_deployment, function_of, functions, head, is_space, life, line_end, line_past, next_function, next_table, parsed, parsed_at, parts_at, room as read_room, script_at, table_of, tables, the_end as read_end, unless, utf8_fault, with_script}
pub use Rattle.beldi_syntax.specs.Expressions.{argument, atom as read_atom, begins_expr, bracketed, call, chain, conjunction, element_of, field_of, join, join as join_step, join_of, listed, literal, member, member as read_member, more, negation, next_item, next_suffix, no_expr, part, post, post as read_post, prefixed, product, push_of, side, suffix, sum as read_sum, unary as read_unary, with_of}
pub use Rattle.beldi_syntax.specs.Grammar.{Act, Begins, Breaks, Cause, END, INT, IsCode, IsToken, Marked, NAME, Of, OneOf, Place, REL, Rule, Symbol, TEXT, Wrong, Yields, and_tail, at, atom, block, by, cell, conj, deployment, else_tail, expr, exprs, function, in_range, is_long, is_outside, lexemes_in, limit, marked, means, members, more_exprs, more_functions, more_members, more_stmts, more_tables, neg, nothing, or_tail, phrase, place, post_tail, prod, prod_tail, rel, rel_tail, room, rules, shape, stmt, sum, sum_tail, the_end, token, unary, unbroken, word}
pub use Rattle.beldi_syntax.specs.Lexer.{begun as begun_by, closes, ends, escapes, is_bad, is_blank, is_of, is_pair, is_reserved, is_script, is_single, lexemes, line_after, piece_len, put, sign_len, sign_or_word, string_at, text_len, text_or_bad, text_token_of, to_script, token_of, utf8_of, word_of}
pub use Rattle.beldi_syntax.specs.Phrase.{Read, Reads, ReadsAs, after, after_first, bad, count_of, end_token, give, go_on, got, is_end as is_at_end, is_name as is_a_name, is_number as is_a_number, is_past_numbers, is_sign, is_text as is_a_text, line_of, name, name_of, name_token, next_is, number, number_of, number_token, past_token, refuse, repeated, same, text, text_of, text_token, times, ◌>>=◌}
pub use Rattle.beldi_syntax.specs.Statements.{async_of, braced, call_of, cell as read_cell, condition, condwrite_of, if_of, lock_of, next_stmt, no_block, on_item, otherwise, plain, read_of, relation, relation_or, repeat_of, return_of, set_of, stmt as read_stmt, stmt_of, stmts, transaction_of, unlock_of, write_of}
pub use Rattle.beldi_syntax.specs.SourceText.{BlankRest, Holds, IsDeployment, ReadsGrammar, Refuses, RefusesFirst, next_line, no_script, not_blank, not_utf8, others, own, too_long, wrong_token}
pub use Rattle.beldi_syntax.specs.{Operators.joined, Operators.operator_at, Operators.product_at, Operators.relation_at, Operators.sum_at, Operators.turns, declared.lexer.Kind.TheVariants.Comment, declared.lexer.Kind.TheVariants.Digit, declared.lexer.Kind.TheVariants.Word, declared.operators.Level.Level, declared.operators.Level.TheVariants.Conjunction, declared.operators.Level.TheVariants.Disjunction, declared.operators.Level.TheVariants.Product, declared.operators.Level.TheVariants.Relation, declared.operators.Level.TheVariants.Sum, declared.operators.Operator.Operator, declared.operators.Operator.TheVariants.And, declared.operators.Operator.TheVariants.Binary, declared.operators.Operator.TheVariants.Compare, declared.operators.Operator.TheVariants.Or, declared.reading.Parsed.Parsed, declared.refusal.SyntaxErr.SyntaxErr, declared.refusal.SyntaxErr.TheVariants.OutOfMemory, declared.refusal.SyntaxErr.TheVariants.Refused, declared.refusal.What.What, declared.refusal.What.TheVariants.Number as OfNumber, declared.refusal.What.TheVariants.Syntax, declared.refusal.What.TheVariants.TooDeep, declared.refusal.What.TheVariants.TooLarge, declared.refusal.What.TheVariants.Utf8, declared.token.Lexeme.Lexeme, declared.token.Token.Token, declared.token.Token.TheVariants.Bad, declared.token.Token.TheVariants.End, declared.token.Token.TheVariants.Name, declared.token.Token.TheVariants.Number, declared.token.Token.TheVariants.Sign, declared.token.Token.TheVariants.Text}
