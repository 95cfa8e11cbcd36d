-- What replies mean, and which requests and commands may change rows.
use Rattle.std.specs.Prelude.{Bool, true, false, ◌&&◌, Result, Ok, Err}
use Rattle.toll_desk.specs.Common.{Accepted, Repeated, Refused, PlantAnswer, Judged, Shows, Request, OwnerReply, ReplyForbidden, ReplyOrders, ReplyOrder, ReplyBatch, ReplyStock, ReplyLot, ReplyTrace, ReplyRefused, KeepFault}
use Rattle.toll_base.specs.declared.request.Request.TheVariants as request
use Rattle.toll_desk.specs.declared.plant_cmd.PlantReply.{PlantReply}
use Rattle.toll_desk.specs.declared.plant_cmd.PlantReply.TheVariants as plant
use Rattle.toll_desk.specs.declared.request.Reply.{Reply}
use Rattle.toll_desk.specs.declared.request.Reply.TheVariants as reply

-- the reply to the owner, or the fault
abbrev pub meaning_of_reply : Reply → Result OwnerReply KeepFault
meaning_of_reply reply.Forbidden = Ok ReplyForbidden
meaning_of_reply (reply.Orders rows) = Ok (ReplyOrders rows.items)
meaning_of_reply (reply.Order row) = Ok (ReplyOrder row)
meaning_of_reply (reply.Batch view) = Ok (ReplyBatch view.row view.lines.items)
meaning_of_reply (reply.Stock lines) = Ok (ReplyStock lines.items)
meaning_of_reply (reply.Lot view) = Ok (ReplyLot view.row view.measure view.results.items view.sublots.items)
meaning_of_reply (reply.Trace steps) = Ok (ReplyTrace steps.items)
meaning_of_reply (reply.Refused why) = Ok (ReplyRefused why)
meaning_of_reply (reply.Fault fault) = Err fault

-- a request that writes, and was not refused, may change rows; no other does
abbrev pub writes : Request → Bool
writes (request.Place placing) = true
writes (request.Cancel order) = true
writes (request.Release lot) = true
writes (request.Reject lot) = true
writes _ = false

abbrev pub is_granted : Result OwnerReply KeepFault → Bool
is_granted (Ok ReplyForbidden) = false
is_granted (Ok (ReplyRefused why)) = false
is_granted (Ok reported) = true
is_granted (Err fault) = false

abbrev pub may_change : Request → Result OwnerReply KeepFault → Bool
may_change q outcome = writes q && is_granted outcome

-- the answer to the plant, or the fault
abbrev pub meaning_of_plant_reply : PlantReply → Result PlantAnswer KeepFault
meaning_of_plant_reply plant.Accepted = Ok (Judged Accepted)
meaning_of_plant_reply plant.Repeated = Ok (Judged Repeated)
meaning_of_plant_reply (plant.Refused why) = Ok (Judged (Refused why))
meaning_of_plant_reply (plant.Text text) = Ok (Shows text.items)
meaning_of_plant_reply (plant.Fault fault) = Err fault

-- a command that was accepted may change rows; no other, and no question, does
abbrev pub is_answer_accepted : Result PlantAnswer KeepFault → Bool
is_answer_accepted (Ok (Judged Accepted)) = true
is_answer_accepted _ = false
