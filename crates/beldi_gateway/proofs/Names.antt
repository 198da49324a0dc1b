-- Names that the lemmas of this crate import, gathered.
pub use Rattle.httparse.specs.Spans.{IsHeaderWithin, header_bytes, span_bytes}
pub use Rattle.matchit.specs.{Router.RouteOf, Seek.first}
pub use Rattle.std.{proofs.Math.Seq.drop-append_seam, proofs.lemmas.Bool.le-leb, proofs.lemmas.Bool.leb-false, proofs.lemmas.Str.IsUtf8-from_is_utf8, proofs.lemmas.Str.is_utf8-from_IsUtf8, specs.Str.is_utf8}
pub use Rattle.std.proofs.Common.{All, Bool, Err, IfOk, IsUtf8, List, None, Ok, Option, Result, Some, [], ap, append_assoc, arith, bytes_eq, codes, drop, false, if◌then◌else◌, inl, inr, length, map, nat_le, option_map, refl, rules, subst, sym, take, true, ℕ, ◌++◌, ◌+◌, ◌-◌, ◌<◌, ◌∙◌, ◌∷◌, ◌≡◌, ◌≤◌, ◌⊎◌}
pub use Rattle.std.proofs.lemmas.List.{append-nil, drop-append-le, length-append, length-drop, take-append-drop, take-append-le, take_all}
pub use Rattle.beldi_value.specs.Datum.{Datum}
pub use Rattle.beldi_outside.specs.Connection.{Connection, Connections, LinkRead, LinkWrote, ReadOpen, WriteOpen, failed_once, took, wrote}
pub use Rattle.beldi_outside.{proofs.Taking.take_more, proofs.Observed.told_map, proofs.Observed.told_same, proofs.Observed.told_then, specs.Outside.IsPrefixOf, specs.Outside.Observed, specs.declared.traits.Failed.Failed}
pub use Rattle.beldi_gateway.specs.Exchange.{Exchanges, FewLines, HeadComes, HeadEnds, PlanAt, PlanLines, PlanOver, PlansHead, Question, after_head, args_at, call_question, framing_in, question_of, reply_question, size_of, sized, ticket_at, want_found, with_body, with_size}
pub use Rattle.beldi_gateway.specs.HttpResponse.{allow_text, body_of, length_text, phrase_of, response_bytes, status_of, status_text}
pub use Rattle.beldi_gateway.specs.Route.{Routes, endpoint_at, found_in, function_part, method_of, path_of, ticket_part}
pub use Rattle.beldi_gateway.specs.Serve.{Answered, AnswersTo, Broken, Decided, Filled, FillsPlan, Keeps, Replied, Whole}
pub use Rattle.beldi_gateway.specs.Taking.{EndsAt, Gathers, HasEnded, HeadGathers, Lost, Moved, Moves, Went, WentOn}
pub use Rattle.beldi_gateway.specs.{Framing.framed_by, Framing.plain, Scan.passed, Scan.scan_on, Scan.start, declared.framing.Framing.Framing, declared.framing.Length.Length, declared.framing.Length.TheVariants.Absent, declared.framing.Length.TheVariants.Bad, declared.framing.Length.TheVariants.Given, declared.plan.Plan.Plan, declared.plan.Want.Want, declared.response.Refusal.Refusal, declared.response.Response.Response, declared.response.Response.TheVariants.Refused, declared.route.Endpoint.Endpoint, declared.route.Endpoint.TheVariants.Call, declared.route.Endpoint.TheVariants.Reply, declared.route.Endpoint.TheVariants.Tickets, declared.scan.Scan.Scan}
