-- The texts of replies (RFC 9112, section 6; RFC 9110, section 15).
use Rattle.std.specs.Prelude.{ℕ, [], Option, Some, None, Result, Ok, Err, codes}
use Rattle.serde_json.specs.Written.{compact_text}
use Rattle.toll_answers.specs.OwnerReply.{OwnerReply, ReplyForbidden, ReplyOrders, ReplyOrder, ReplyBatch, ReplyStock, ReplyLot, ReplyTrace, ReplyRefused}
use Rattle.toll_wire.specs.Common.{Bytes, KeepFault, Memory, meaning_of_reply, Failure, Forbidden, Data}
use Rattle.toll_base.specs.declared.refusal.Refusal.{Refusal}
use Rattle.toll_base.specs.declared.refusal.Refusal.TheVariants.{UnknownOrder, UnknownBatch, UnknownLot}
use Rattle.toll_desk.specs.declared.request.Reply.{Reply}
use Rattle.toll_protocol.specs.HttpMessages.{reply_text}
use Rattle.toll_protocol.specs.Failures.{status_of_failure, word_of_failure, allowed_after}
use Rattle.toll_wire.specs.ReplyBodies.{batch_data, error_data, lot_data, order_data, orders_data, refusal_data, stock_data, trace_data}

-- ---- if a check fails

abbrev pub failure_body : Option Bytes → Bytes
failure_body None = []
failure_body (Some word) = compact_text (error_data word)

abbrev pub text_of_failure : Failure → Bytes
text_of_failure failure = reply_text (status_of_failure failure) (allowed_after failure) (failure_body (word_of_failure failure))

-- ---- if the desk replies

abbrev pub refusal_status : Refusal → ℕ
refusal_status UnknownOrder = 404
refusal_status UnknownBatch = 404
refusal_status UnknownLot = 404
refusal_status _ = 409

-- a reply of what was asked for, with this body
abbrev pub granted : Data → Bytes
granted body = reply_text 200 None (compact_text body)

-- the text of a reply to an owner
abbrev pub text_of_reply_meaning : OwnerReply → Bytes
text_of_reply_meaning ReplyForbidden = text_of_failure Forbidden
text_of_reply_meaning (ReplyOrders rows) = granted (orders_data rows)
text_of_reply_meaning (ReplyOrder row) = granted (order_data row)
text_of_reply_meaning (ReplyBatch batch lines) = granted (batch_data batch lines)
text_of_reply_meaning (ReplyStock lines) = granted (stock_data lines)
text_of_reply_meaning (ReplyLot row measure results sublots) = granted (lot_data row measure results sublots)
text_of_reply_meaning (ReplyTrace trace) = granted (trace_data trace)
text_of_reply_meaning (ReplyRefused refusal) = reply_text (refusal_status refusal) None (compact_text (refusal_data refusal))

-- a fault has no text
abbrev pub text_if_reply : Result OwnerReply KeepFault → Option Bytes
text_if_reply (Ok reported) = Some (text_of_reply_meaning reported)
text_if_reply (Err fault) = None

abbrev pub text_of_reply : Reply → Option Bytes
text_of_reply reply = text_if_reply (meaning_of_reply reply)

-- ---- if there was no memory, or the keep failed

-- the fault of a reply without a text: that of the keep, or that there was no memory for the text
abbrev pub fault_or_memory : {X : Type 0} → Result X KeepFault → KeepFault
fault_or_memory (Ok reported) = Memory
fault_or_memory (Err fault) = fault

abbrev pub unavailable_text : Bytes
unavailable_text = reply_text 503 None (compact_text (error_data (codes "Unavailable")))
