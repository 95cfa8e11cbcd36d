-- The replies to an owner over a list of commands.
use Rattle.std.specs.Prelude.{◌≡◌, ◌↔◌, ℕ, Bool, not, ◌&&◌, if◌then◌else◌, Option, Some, None, is_some, List, MatchBool}
use Rattle.toll_answers.specs.Common.{Bytes, same_bytes, bytes_cmp, RequirementKey, requirement_cmp, result_cmp, pair_cmp, Action, PlaceOrder, CancelOrder, Release, Reject, by, History, acts, owner_key, part, measure_of, order_of, batch_of, facts_given, lot_row, Verdict, Refused, IsValidAction, verdict_of_checks, verdict, grow, known_batch_checks, UnknownOrder, UnknownLot, LotId, OrderRow, BatchRow, LotRow, ResultRow, SublotRow, Step, IsTrace, AreRowsGiven, line_of, line_key, RequirementLine, house_name, lot_id}
use Rattle.toll_answers.specs.Edges.{IsOwnJoined}
use Rattle.toll_answers.specs.declared.views.stock.StockLine.{StockLine}
use Rattle.toll_base.specs.Words.{is_some_where}
use Rattle.toll_trace.specs.declared.way.Way.TheVariants.{Back, Forward}
use Rattle.toll_base.specs.declared.request.Request.{Request}
use Rattle.toll_base.specs.declared.request.Request.TheVariants as request
use Rattle.toll_answers.specs.OwnerReply.{OwnerReply, ReplyForbidden, ReplyOrders, ReplyOrder, ReplyBatch, ReplyStock, ReplyLot, ReplyTrace, ReplyRefused}
use Rattle.toll_answers.specs.Views.{stock_line, results_of_lot, sublots_of_lot, has_consumed}

-- ---- admission

-- the owner was added with this key; HOUSE never was
abbrev pub has_owner_key : Bytes → Bytes → History → Bool
has_owner_key o key H = not (same_bytes o house_name) && is_some_where (same_bytes key) (owner_key (acts o H))

-- ---- replies from given rows, in the order of their keys

pub record IsOrdersReply (given : Bytes → Option OrderRow) (r : OwnerReply) : Type 0 where
  pub orders : List OrderRow
  pub are_given : AreRowsGiven bytes_cmp (λ row. row.order) given orders
  pub reported : r ≡ ReplyOrders orders

pub record IsStockReply (given : Bytes → Option StockLine) (r : OwnerReply) : Type 0 where
  pub lines : List StockLine
  pub are_given : AreRowsGiven bytes_cmp (λ line. line.row.lot) given lines
  pub reported : r ≡ ReplyStock lines

-- the batch with the requirements of its order's recipe
pub record IsBatchReply (given : RequirementKey → Option RequirementLine) (batch : BatchRow) (r : OwnerReply) : Type 0 where
  pub lines : List RequirementLine
  pub are_given : AreRowsGiven requirement_cmp line_key given lines
  pub reported : r ≡ ReplyBatch batch lines

-- the lot with its results and its sublots
pub record IsLotReply (results_given : Bytes × Bytes × ℕ → Option ResultRow) (sublots_given : Bytes × Bytes → Option SublotRow) (measure : Bytes) (row : LotRow) (r : OwnerReply) : Type 0 where
  pub results : List ResultRow
  pub sublots : List SublotRow
  pub are_results : AreRowsGiven result_cmp (λ row. (row.lot, row.test, row.number)) results_given results
  pub are_sublots : AreRowsGiven pair_cmp (λ row. (row.lot, row.sublot)) sublots_given sublots
  pub reported : r ≡ ReplyLot row measure results sublots

-- the trace from the lot, where `E` joins lots
pub record IsTraceReply (E : LotId → LotId → Type 0) (a : LotId) (r : OwnerReply) : Type 0 where
  pub trace : List Step
  pub traced : IsTrace E a trace
  pub reported : r ≡ ReplyTrace trace

-- ---- replies about what is there

abbrev pub IsOrderOr : Option OrderRow → OwnerReply → Type 0
IsOrderOr None r = r ≡ ReplyRefused UnknownOrder
IsOrderOr (Some row) r = r ≡ ReplyOrder row

abbrev pub IsLotOr : History → Bytes → Option LotRow → OwnerReply → Type 0
IsLotOr H o None r = r ≡ ReplyRefused UnknownLot
IsLotOr H o (Some row) r = IsLotReply (results_of_lot (acts o H) row.lot) (sublots_of_lot H o row.lot) (measure_of (acts o H) row.material) row r

abbrev pub IsBatchOr : History → Bytes → Option OrderRow → Option BatchRow → Verdict → OwnerReply → Type 0
IsBatchOr H o (Some order) (Some batch) verdict r = IsBatchReply (line_of H o batch.order batch.number order.recipe) batch r
IsBatchOr H o _ _ (Refused why) r = r ≡ ReplyRefused why
IsBatchOr H o _ _ _ r = ⊥

abbrev pub IsTraceOr : (LotId → LotId → Type 0) → LotId → (known : Bool) → OwnerReply → Type 0
IsTraceOr E a known r = MatchBool known (IsTraceReply E a r) (r ≡ ReplyRefused UnknownLot)

-- the reply to a request that writes: the refusal, or what it left
abbrev pub IsWritingReply : Verdict → Type 0 → OwnerReply → Type 0
IsWritingReply (Refused why) left r = r ≡ ReplyRefused why
IsWritingReply _ left r = left

-- an order after a command about it, and a lot
abbrev pub IsOrderAfter : History → Bytes → Action → Bytes → OwnerReply → Type 0
IsOrderAfter H o action order r = IsWritingReply (verdict H (by o action)) (IsOrderOr (order_of (acts o (grow H (by o action))) order) r) r

abbrev pub IsLotAfter : History → Bytes → Action → Bytes → OwnerReply → Type 0
IsLotAfter H o action lot r = IsWritingReply (verdict H (by o action)) (IsLotOr (grow H (by o action)) o (lot_row (grow H (by o action)) o lot) r) r

-- the answer to a request of an owner that was admitted
abbrev pub IsOwnerAnswer : Bytes → History → Request → OwnerReply → Type 0
IsOwnerAnswer o H request.Orders r = IsOrdersReply (order_of (acts o H)) r
IsOwnerAnswer o H (request.Order order) r = IsOrderOr (order_of (acts o H) order) r
IsOwnerAnswer o H (request.Place placing) r = IsOrderAfter H o (PlaceOrder placing) placing.order r
IsOwnerAnswer o H (request.Cancel order) r = IsOrderAfter H o (CancelOrder order) order r
IsOwnerAnswer o H (request.Batch order number) r = IsBatchOr H o (order_of (acts o H) order) (batch_of (acts o H) (order, number)) (verdict_of_checks (known_batch_checks (facts_given H o) order number)) r
IsOwnerAnswer o H request.Stock r = IsStockReply (stock_line H o) r
IsOwnerAnswer o H (request.Lot lot) r = IsLotOr H o (lot_row H o lot) r
IsOwnerAnswer o H (request.Release lot) r = IsLotAfter H o (Release lot) lot r
IsOwnerAnswer o H (request.Reject lot) r = IsLotAfter H o (Reject lot) lot r
IsOwnerAnswer o H (request.Back lot) r = IsTraceOr (IsOwnJoined (acts o H) Back) (lot_id o lot) (is_some (lot_row H o lot)) r
IsOwnerAnswer o H (request.Forward lot) r = IsTraceOr (IsOwnJoined (acts o H) Forward) (lot_id o lot) (is_some (lot_row H o lot)) r
IsOwnerAnswer o H (request.HouseForward lot) r = IsTraceOr (IsOwnJoined (acts o H) Forward) (lot_id house_name lot) (has_consumed (acts o H) (lot_id house_name lot)) r

-- the reply to a request as this owner with this key
unfoldable pub IsReply : Bytes → Bytes → History → Request → OwnerReply → Type 0
IsReply o key H q r = MatchBool (has_owner_key o key H) (IsOwnerAnswer o H q r) (r ≡ ReplyForbidden)

-- ---- what a request makes of the history

abbrev pub after_answer : Bytes → History → Request → History
after_answer o H (request.Place placing) = grow H (by o (PlaceOrder placing))
after_answer o H (request.Cancel order) = grow H (by o (CancelOrder order))
after_answer o H (request.Release lot) = grow H (by o (Release lot))
after_answer o H (request.Reject lot) = grow H (by o (Reject lot))
after_answer o H _ = H

unfoldable pub after_reply : Bytes → Bytes → History → Request → History
after_reply o key H q = if has_owner_key o key H then after_answer o H q else H

-- ---- values within their bounds

-- the count of batches that is asked for
abbrev pub IsValidOwnerRequest : Request → Type 0
IsValidOwnerRequest (request.Place placing) = IsValidAction (PlaceOrder placing)
IsValidOwnerRequest _ = Unit {0}

-- the owner's own part of the history says the same of the reply as all of it
abbrev pub IsOwnReply : (o key : Bytes) → History → Request → OwnerReply → Type 0
IsOwnReply o key H q r = IsReply o key (part o H) q r ↔ IsReply o key H q r

-- what the request makes of the owner's own part is the owner's part of what it makes of all of it
abbrev pub IsOwnGrowth : (o key : Bytes) → History → Request → Type 0
IsOwnGrowth o key H q = after_reply o key (part o H) q ≡ part o (after_reply o key H q)
