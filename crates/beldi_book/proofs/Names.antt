-- Names that the lemmas of this crate import, gathered.
pub use Rattle.json.{proofs.Printed.Strings.escape_byte_plain, specs.Print.escape, specs.Print.quoted}
pub use Rattle.serde_json.specs.Written.{comma_if, items_text, members_text, number_text}
pub use Rattle.std.specs.Prelude.{MatchOption, codes, decimal, is_some, min, nat_lt, option_and_then, option_copied, option_map, option_to_list}
pub use Rattle.std.{proofs.Math.Seq.take-append_seam, proofs.lemmas.Bool.and_parts, proofs.lemmas.Bool.cases_eq, proofs.lemmas.Bool.cases_lt, proofs.lemmas.Bool.Decides.nat_tests, proofs.lemmas.Fmt.digits_decimal, proofs.lemmas.List.drop_all, proofs.lemmas.Option.same_Some, specs.Char.is_ascii_digit, specs.Cmp.Lexicographic.other_text, specs.Cmp.Lexicographic.same_text, specs.List.AllByRecursion, specs.Str.all_ascii_digits, specs.Vec.Iter.into_iter_items, specs.Vec.Iter.into_iter_len}
pub use borrow.Author.Tests.{eqb-true}
pub use lib.Signed.{mag}
pub use mir.Val.{bool_byte}
pub use Rattle.std.proofs.Common.{Bool, Bor, Err, IfOk, List, None, Ok, Option, Result, Some, [], ap, append-nil, append_assoc, ap₂, arith, drop, false, get_or, if◌then◌else◌, inl, inr, is_none, length, length-append, map, negsuc, pos, refl, slice_set, subst, suc, sym, take, take-append-drop, true, zero, ℕ, ℤ, ◌&&◌, ◌++◌, ◌+◌, ◌-◌, ◌<◌, ◌==◌, ◌^◌, ◌∙◌, ◌∷◌, ◌≡◌, ◌≤◌}
pub use Rattle.beldi_value.specs.Datum.{Datum, Datums, Fields, boolean, field, fields, int, item, list, no_fields, no_items, null, text}
pub use Rattle.beldi_value.specs.IdAt.{hops_at, id_at, id_from, parts_of, step_at, steps_at, ticket_at, with_hops}
pub use Rattle.beldi_value.{proofs.IdTexts.alone, proofs.IdTexts.reads, proofs.Ints.numeral_back, proofs.Ints.numeral_of, proofs.Ints.numeral_within, proofs.Ints.own, proofs.ReadAgain.read_again, specs.ByteCut.after, specs.ByteCut.before, specs.Formed.AreFormed, specs.Formed.HaveForm, specs.Formed.IsFormed, specs.Injective.same_values, specs.Json.json_fields, specs.Json.json_items, specs.Json.number_of, specs.Json.text_of, specs.Number.numeral_at, specs.ValueReading.read_of, specs.ValueText.hops_text, specs.ValueText.id_text, specs.ValueText.place_text, specs.Value.datum_of, specs.declared.id.IntentId.IntentId, specs.declared.place.Place.Place, specs.declared.value.Value.Value}
pub use Rattle.beldi_tree.specs.{Bindings.is_name, Names.func_at, Names.func_text, Names.name_or, declared.deployment.Deployment.Deployment, declared.deployment.Func.Func}
pub use Rattle.beldi_book.specs.EntryLine.{Follows, HasBadLine, IsArgs, IsCall, IsCallOf, IsCalled, IsEntryOf, IsHolder, IsId, IsLineOf, IsNumbered, IsProper, IsStart, IsTextOf, IsValue, Names}
pub use Rattle.beldi_book.specs.LinearOrder.{suffix, by_change, changes_of, count_changes, prefix, if_change, linear, put_by, put_read, put_reads, version_of, until_change}
pub use Rattle.beldi_book.specs.{BookLaws.AreNamed, BookLaws.BookIsReadAgain, BookLaws.IsWithin, BookLaws.IsWord, BookLaws.NothingElseIsRead, BookLaws.digit_first, ReadPlaces.empty_places, ReadPlaces.put_all_in, ReadPlaces.put_by_version, ReadPlaces.put_to, ReadPlaces.woven, BookText.book_text, BookText.entry_text, BookText.holder_text, EntryWords.holder_at, EntryWords.other_at, EntryWords.place_at, EntryWords.read_at, EntryWords.small_at, EntryWords.abort_at, declared.book.BookErr.TheVariants.BadEntry, declared.book.BookErr.TheVariants.OutOfMemory, declared.entry.Entry.Entry, declared.entry.Entry.TheVariants.Read, declared.entry.Entry.TheVariants.Start, declared.entry.Entry.TheVariants.Step, declared.entry.Entry.TheVariants.AbortedTx, declared.entry.Entry.TheVariants.CommittedTx}
