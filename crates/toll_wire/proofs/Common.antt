-- Words that several proofs here use.
pub use Rattle.matchit.specs.Params.{after_token, part_of, walk, wild_from, wild_stop}
pub use Rattle.matchit.specs.Router.{InsertsRead, RouteOf, nearest, route_from}
pub use Rattle.matchit.specs.Rows.{RowsOf, comes_before}
unfoldable pub use Rattle.matchit.specs.Seek.{param_step, seek}
pub use Rattle.matchit.specs.Seek.{cuts, first, has_slash, longest_from, or_else, own, segment, step, with_suffix}
pub use Rattle.serde.specs.Event.{Log, Logs, map_begins, map_ends, seq_begins}
unfoldable pub use Rattle.serde_json.proofs.OnLiterals.{serde_json_on_literals}
pub use Rattle.serde_json.specs.Events.{SendsItems, SendsMembers, SendsValue, items_len, members_len}
pub use Rattle.serde_json.specs.View.{items_of}
pub use Rattle.std.proofs.Math.Seq.{drop-append_seam, drop-cons, take-append_seam}
pub use Rattle.std.proofs.lemmas.Bool.{and_from, and_parts, and_right}
pub use Rattle.std.proofs.lemmas.Bool.Decides.{Decides-eqb, nat_tests}
pub use Rattle.std.proofs.lemmas.Fmt.{decimal-digits_value, decimal_injective, decimal_nonempty, digits_decimal, digits_value-decimal, first_decimal, length-decimal-le}
pub use Rattle.std.proofs.lemmas.List.{append_cancel_left, append_cancel_right, drop-drop, drop_all, get_or-append-add, get_or-drop, take-append-drop, take_all, take_more}
pub use Rattle.std.proofs.lemmas.Result.{IfOk-weaker, on_ok_weaker}
pub use Rattle.std.proofs.lemmas.Slice.Eq.{ends_is, starts_is}
pub use Rattle.std.proofs.lemmas.Str.{IsCharBoundary-before_ascii, IsUtf8-drop, IsUtf8-from_ascii, IsUtf8-past_char, IsUtf8-take, encode_ascii}
unfoldable pub use Rattle.std.specs.Fmt.{digits}
pub use Rattle.std.specs.Global.{Vec}
pub use Rattle.std.specs.List.{AllByRecursion, list_all, position_or_len, starts_with}
pub use Rattle.std.specs.Option.{IfSome, is_none, option_and_then, option_copied, option_map_or}
pub use Rattle.std.specs.Result.{MatchResult, OkIff, result_ok}
pub use Rattle.std.specs.Str.{IsAscii, IsCharBoundary, IsUtf8}
pub use Rattle.toll_answers.specs.OwnerReply.{ReplyForbidden, ReplyRefused, ReplyTrace, OwnerReply}
pub use Rattle.toll_answers.specs.PlantAnswers.{IsCheckedOr, IsPlantAnswer, IsQuestionAnswer, IsRecallShown, IsTraceShown, IsVerdictOr, Judged, PlantAnswer, Shows, recorded_command, lot_checks}
unfoldable pub use Rattle.toll_answers.specs.Replies.{IsReply, after_reply}
pub use Rattle.toll_answers.specs.Replies.{IsOwnerAnswer, IsTraceReply, IsValidOwnerRequest, after_answer, has_owner_key}
pub use Rattle.toll_answers.specs.Texts.{recall_text}
pub use Rattle.toll_answers.specs.declared.plant_cmd.PlantCmd.{PlantCmd}
pub use Rattle.toll_base.specs.Bytes.{Bytes, same_bytes}
pub use Rattle.toll_base.specs.Values.{IsBatchNo, house_name, is_digit, is_letter, is_measure, is_name, is_name_byte, is_text_of, number_of}
pub use Rattle.toll_base.specs.declared.refusal.Refusal.TheVariants.{OrderExists, UnknownLot}
pub use Rattle.toll_base.specs.declared.request.Request.{Request}
pub use Rattle.toll_base.specs.declared.rows.Placing.{Placing}
pub use Rattle.toll_desk.specs.OfficeSteps.{IsPlantStep, PlantCalls, owner_steps, plant_steps}
pub use Rattle.toll_desk.specs.Outcome.{finished}
pub use Rattle.toll_desk.specs.Representing.{Represents}
pub use Rattle.toll_desk.specs.Steps.{AfterCalls, Calls, IsKeepStep, IsStepFrom, StoreEffect, calls_of, state_at}
pub use Rattle.toll_desk.specs.Translations.{is_granted, may_change, meaning_of_plant_reply, writes}
pub use Rattle.toll_history.proofs.RunLemmas.{run_back, run_more}
pub use Rattle.toll_history.specs.Command.{CancelOrder, Command, PlaceOrder, Reject, Release, by}
pub use Rattle.toll_history.specs.History.{History, acts, part}
pub use Rattle.toll_history.specs.Runs.{IsRun}
pub use Rattle.toll_history.specs.Verdict.{Accepted, IsLawful, IsValidAction, Refused, Repeated, Verdict, verdict_of_checks, grow, grown, verdict}
pub use Rattle.toll_keep.specs.CallEffects.{CallEffect, IsReading}
pub use Rattle.toll_keep.specs.Content.{Content}
pub use Rattle.toll_keep.specs.Meaning.{Meaning}
pub use Rattle.toll_keep.specs.declared.keep_fault.KeepFault.{KeepFault}
pub use Rattle.toll_keep.specs.declared.keep_fault.KeepFault.TheVariants.{Closed, Damaged, Disk, Memory}
unfoldable pub use Rattle.toll_protocol.specs.HttpMessages.{reply_text}
pub use Rattle.toll_protocol.specs.Parsing.{ParseResult, refused, request}
pub use Rattle.toll_protocol.specs.declared.http_messages.failure.Failure.{Failure}
pub use Rattle.toll_protocol.specs.declared.http_messages.failure.Failure.TheVariants.{Forbidden, MethodNotAllowed, NoRoute, NotImplemented}
pub use Rattle.toll_protocol.specs.declared.http_messages.verb.Verb.{Verb}
pub use Rattle.toll_protocol.specs.declared.http_messages.verb.Verb.TheVariants.{Get, Post}
pub use Rattle.toll_wire.specs.Bodies.{IsOrderBody, IsBodyOf, order_in}
pub use Rattle.toll_wire.specs.OfficeRuns.{AreServed, AreSteps, IsEventServed, IsOpenAnswer, IsRunOf, IsStep, MayMake, NoFaults, PlantMeaning, ReplyText, meaning_of_answer}
pub use Rattle.toll_wire.specs.Parts.{AreAlone, Did, HasPart, IsClaimed, IsPart, IsPrivate, OwnEvent, RepliesAsAlone, Sent, WithDone, done_for}
pub use Rattle.toll_wire.specs.Places.{AreValues, AreValuesReadFrom, IsNumberRead, IsPath, PathLeadsTo, count_parts, parts_of, path_of, texts_of}
pub use Rattle.toll_wire.specs.ReplyTexts.{fault_or_memory, text_if_reply, text_of_failure, text_of_reply, text_of_reply_meaning}
pub use Rattle.toll_wire.specs.Routers.{In, IsOffice, OfficeRows, holes, tokens}
pub use Rattle.toll_wire.specs.Routes.{IsAskable, Route, address_of, path_text_of, request_from, routes, spelled}
pub use Rattle.toll_wire.specs.Routing.{IsAsking, IsPlacing, IsRequestAt, IsRequestOf, MakesRequest, ValuesFit, kind_for, other_of, placing_request}
pub use Rattle.toll_wire.specs.Sayings.{Asks, By, ClaimedRequest, Fails, IsSaidBy, IsTold, MayBeReply, Nobody, Saying, Says, after_saying, claimed_in, claims, saying_of}
pub use Rattle.toll_wire.specs.Steps.{IfPlacedBefore, IfSayingUnchanging, IsAnswered, IsFaultMet, IsGranted, IsReplyWhere, IsSayingStep, SayingCalls, saying_steps}
pub use Rattle.toll_wire.specs.declared.event.Answer.{Answer}
pub use Rattle.toll_wire.specs.declared.event.Answer.TheVariants.{Plant}
pub use Rattle.toll_wire.specs.declared.event.Event.{Event}
pub use Rattle.toll_wire.specs.declared.outgoing.Out.TheVariants.{Text, Unavailable}
pub use Rattle.toll_wire.specs.declared.routes.route.Endpoint.{Endpoint}
pub use Rattle.toll_wire.specs.declared.routes.route.RequestKind.{RequestKind}
pub use Rattle.toll_wire.specs.declared.routes.values.Values.{Values}
pub use mathlib.Core.Bool.{false≢true}
