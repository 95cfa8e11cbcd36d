-- Replies to owners' requests.
use Rattle.std.specs.Prelude.{List}
use Rattle.toll_answers.specs.Common.{Bytes, Refusal, OrderRow, BatchRow, LotRow, ResultRow, SublotRow, Step, RequirementLine}
use Rattle.toll_answers.specs.declared.views.stock.StockLine.{StockLine}

-- a reply to an owner
pub data OwnerReply : Type 0 where
  ReplyForbidden : OwnerReply
  ReplyOrders : (orders : List OrderRow) → OwnerReply
  ReplyOrder : (order : OrderRow) → OwnerReply
  ReplyBatch : (batch : BatchRow) (lines : List RequirementLine) → OwnerReply
  ReplyStock : (lines : List StockLine) → OwnerReply
  ReplyLot : (row : LotRow) (measure : Bytes) (results : List ResultRow) (sublots : List SublotRow) → OwnerReply
  ReplyTrace : (trace : List Step) → OwnerReply
  ReplyRefused : (why : Refusal) → OwnerReply
