-- Names that the lemmas of this crate import, gathered.
pub use Rattle.json.{proofs.Printed.Decimals.IsNumber-signed_decimal, proofs.Printed.Tokens.tokens-print, proofs.Printed.Trees.ArePrintable-json_tokens, proofs.Printed.Trees.value-json_tokens, proofs.Printed.Utf8.IsUtf8-are_ascii, proofs.Printed.Utf8.IsUtf8-boolean, proofs.Printed.Utf8.IsUtf8-quoted, specs.Lex.tokens, specs.Print.IsNumber, specs.Print.escape, specs.Print.quoted, specs.Token.Token}
pub use Rattle.serde_json.specs.Written.{comma_if, items_outline, items_text, members_outline, members_text, number_text, outline}
pub use Rattle.serde_json.{proofs.Numbers.number_of-decimal, proofs.Numbers.number_of-negative, proofs.Texts.print-outline, proofs.Views.Entry, specs.Data.Data, specs.Data.members_depth, specs.View.items_view as json_items_view, specs.View.members_view, specs.View.view}
pub use Rattle.std.specs.FinMap.{empty, entries, entries-insert, find, from_entries, get, get-from_entries, get-insert, get-remove, insert, len-empty, len-entries, remove, same_map}
pub use Rattle.std.specs.Prelude.{String, decimal, nat_le, nat_lt, ok_or, option_and_then, option_map, slice_get, slice_set}
pub use Rattle.std.{proofs.lemmas.Bool.and_parts, proofs.lemmas.Bool.Decides.nat_tests, proofs.lemmas.Cmp.eq_by_cmp_equiv, proofs.lemmas.Cmp.nat_list_cmp_total, proofs.lemmas.Cmp.tied_itself, proofs.lemmas.Grind.common_steps, proofs.lemmas.List.get_or_default, proofs.lemmas.List.nil_from_length, proofs.lemmas.List.take_all, proofs.lemmas.Map.Keys.sorted_head, proofs.lemmas.Map.Keys.sorted_tail, proofs.lemmas.Map.Lookups.CmpEqualImpliesEq, proofs.lemmas.Map.Lookups.exact_bytes, proofs.lemmas.Option.cond_some, proofs.lemmas.Option.same_Some, proofs.lemmas.Slice.between_to_end, proofs.lemmas.Str.IsUtf8-append, proofs.lemmas.Str.IsUtf8-from_ascii, proofs.lemmas.Str.IsUtf8-from_is_utf8, proofs.lemmas.Str.IsUtf8-nil, proofs.lemmas.Str.is_utf8-from_IsUtf8, proofs.lemmas.Str.Parse.IsNumeralModel, proofs.lemmas.Str.Parse.digit_at, proofs.lemmas.Str.Parse.numerals_by_fold, specs.BTreeMap.is_at, specs.Bool.one_answer, specs.Char.is_ascii_digit, specs.Cmp.IsTotalOrder, specs.Cmp.Lexicographic.slice_cmp, specs.FinMap.Entries.by_order, specs.FinMap.Entries.put, specs.Fmt.signed_decimal, specs.List.AllByRecursion, specs.List.position, specs.List.position_or_len, specs.List.Sorted.IsStrictlySortedBy, specs.Map.keys_of, specs.Map.lookup, specs.Ordering.is_eq, specs.Ordering.is_lt, specs.Ordering.match_ordering, specs.Ordering.nat_cmp, specs.Ordering.ordering_reverse, specs.Str.all_ascii_digits, specs.Str.is_utf8, specs.String.string_cmp, specs.declared.alloc.Global.Global, specs.declared.cmp.Ordering.Ordering, specs.declared.cmp.Ordering.TheVariants.Equal, specs.declared.cmp.Ordering.TheVariants.Greater, specs.declared.cmp.Ordering.TheVariants.Less}
pub use borrow.Author.Tests.{eqb-true, leb-true, ltb-true}
pub use lib.Signed.{mag}
pub use Prim.Native.Nat
pub use Rattle.json.specs.Json as syntax
pub use Rattle.json.specs.Tree as tree
pub use Rattle.serde_json.specs.Data as json
pub use Rattle.serde_json.specs.Read as serde
pub use Rattle.std.proofs.Common.{Bool, Err, IfOk, IsTrue, IsUtf8, List, None, Ok, OnOk, Option, Result, Some, [], add-one, ap, append-nil, append_assoc, ap₂, arith, cond, drop, drop-cons, false, get_or, if◌then◌else◌, length, length-append, length-drop, lt-ltb, map, max, negsuc, not, option_copied, pos, refl, rules, string_bytes, subst, suc, sym, take, true, vec_capacity, vec_len, ℕ, ℤ, ◌%◌, ◌&&◌, ◌*◌, ◌++◌, ◌+◌, ◌-◌, ◌/◌, ◌<◌, ◌==◌, ◌^◌, ◌∙◌, ◌∷◌, ◌≡◌, ◌≤◌}
pub use Rattle.std.proofs.lemmas.Fmt.{IsAscii-signed, decimal-digits_value, decimal_digit, decimal_nonempty, decimal_step, digits_decimal, digits_value-decimal, first_decimal, length-decimal-le, length_signed_le}
pub use Rattle.beldi_value.specs.Datum.{Datum, Datums, Fields, IsAbove, IsRecord, boolean, field, fields, fields_of, int, item, items_of, list, no_fields, no_items, null, text}
pub use Rattle.beldi_value.specs.IdAt.{RefusesId, hops_at, id_at, id_from, onto_first, parts_of, rest_parts, step_at, steps_at, ticket_at, with_hops}
pub use Rattle.beldi_value.specs.Json.{int_of, json_fields, json_items, json_of, number_of, of_items, of_json, of_members, text_of}
pub use Rattle.beldi_value.specs.Limits.{depth_of, fields_depth, is_within, items_depth, most_bytes, most_depth, text_size}
pub use Rattle.beldi_value.specs.Number.{int_at, is_numeral, is_plain, negated, number_at, numeral_at, read_on}
pub use Rattle.beldi_value.specs.ValueReading.{IsReadAgain, ReadsValue, if_shallow, if_small, json_at, read_of, ◌>>=◌}
pub use Rattle.beldi_value.specs.{Convert.Refuses, ByteCut.after, ByteCut.before, Formed.AreFormed, Formed.HaveForm, Formed.IsFormed, Id.child_of, Id.has_no_hops, Id.id_cmp, Id.id_exact, Id.id_total, Id.is_older, Injective.pairs_back, Injective.pairs_of, Injective.same_fields, Injective.same_items, Injective.value_back, Injective.value_of, RecordParts.IsPlace, RecordParts.field_at, RecordParts.set_field, Same.same_value, Same.value_decides, ValueText.hops_text, ValueText.id_text, Value.datum_of, Value.fields_view, Value.items_view, declared.convert.ConvertErr.ConvertErr, declared.convert.ConvertErr.TheVariants.OutOfMemory, declared.id.IntentId.IntentId, declared.read.ValueErr.ValueErr, declared.read.ValueErr.TheVariants.NotInt, declared.read.ValueErr.TheVariants.NotJson, declared.read.ValueErr.TheVariants.TooDeep, declared.read.ValueErr.TheVariants.TooLarge, declared.read_id.IdErr.IdErr, declared.read_id.IdErr.TheVariants.BadId, declared.value.Value.Value}
