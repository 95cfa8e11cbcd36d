-- Over a list of commands an owner has one reply to a request.
use Rattle.std.proofs.Common.{◌≡◌, ℕ, Bool, true, false, Option, Some, None, List, MatchBool, sym, ap, ◌∙◌}
use Rattle.toll_answers.proofs.Common.{IsTotalOrder, nat_list_cmp_total, Ordering, Bytes, bytes_cmp, RequirementKey, requirement_cmp, result_cmp, pair_cmp, Release, Reject, by, History, Verdict, Accepted, Repeated, Refused, grow, LotId, OrderRow, LotRow, BatchRow, pair_cmp_total, result_cmp_total, requirement_cmp_total, trace_unique, AreRowsGiven, line_key, RequirementLine, StockLine}
use Rattle.toll_base.specs.declared.rows.ResultRow.{ResultRow}
use Rattle.toll_base.specs.declared.rows.SublotRow.{SublotRow}
use Rattle.toll_answers.proofs.SameRows.{same_rows}
use Rattle.toll_base.specs.declared.request.Request.{Request}
use Rattle.toll_base.specs.declared.request.Request.TheVariants as request
use Rattle.toll_answers.specs.OwnerReply.{OwnerReply, ReplyOrders, ReplyBatch, ReplyStock, ReplyLot, ReplyTrace}
use Rattle.toll_answers.specs.Replies.{has_owner_key, IsOrdersReply, IsStockReply, IsBatchReply, IsLotReply, IsTraceReply, IsOrderOr, IsLotOr, IsBatchOr, IsTraceOr, IsWritingReply, IsOwnerAnswer, IsReply}

-- At most one reply has this property.
abbrev pub IsOne : {X : Type 0} → (X → Type 0) → Type 0
IsOne {X} P = (r r' : X) → P r → P r' → r ≡ r'

pub one_value : {X : Type 0} (x : X) → IsOne (λ r. r ≡ x)
one_value x r r' is is' = is ∙ sym is'

pub one_list_of_rows : {K R : Type 0} (cmp : K → K → Ordering) → IsTotalOrder cmp → (key : R → K) (given : K → Option R) (xs ys : List R) → AreRowsGiven cmp key given xs → AreRowsGiven cmp key given ys → xs ≡ ys
one_list_of_rows cmp total key given xs ys are_xs are_ys = same_rows cmp total key xs ys are_xs.ordered are_ys.ordered (λ k. are_xs.at k ∙ sym (are_ys.at k))

one_orders : (given : Bytes → Option OrderRow) → IsOne (IsOrdersReply given)
one_orders given r r' a b = a.reported ∙ ap ReplyOrders (one_list_of_rows bytes_cmp nat_list_cmp_total (λ row. row.order) given a.orders b.orders a.are_given b.are_given) ∙ sym b.reported

one_stock : (given : Bytes → Option StockLine) → IsOne (IsStockReply given)
one_stock given r r' a b = a.reported ∙ ap ReplyStock (one_list_of_rows bytes_cmp nat_list_cmp_total (λ line. line.row.lot) given a.lines b.lines a.are_given b.are_given) ∙ sym b.reported

one_batch_reply : (given : RequirementKey → Option RequirementLine) (batch : BatchRow) → IsOne (IsBatchReply given batch)
one_batch_reply given batch r r' a b =
    a.reported ∙ ap (ReplyBatch batch) (one_list_of_rows requirement_cmp requirement_cmp_total line_key given a.lines b.lines a.are_given b.are_given) ∙ sym b.reported

one_lot_reply : (results : Bytes × Bytes × ℕ → Option ResultRow) (sublots : Bytes × Bytes → Option SublotRow) (measure : Bytes) (row : LotRow) → IsOne (IsLotReply results sublots measure row)
one_lot_reply results sublots measure row r r' a b =
    let same_results = one_list_of_rows result_cmp result_cmp_total (λ row. (row.lot, row.test, row.number)) results a.results b.results a.are_results b.are_results in
    let same_sublots = one_list_of_rows pair_cmp pair_cmp_total (λ row. (row.lot, row.sublot)) sublots a.sublots b.sublots a.are_sublots b.are_sublots in
    a.reported ∙ (λ i. ReplyLot row measure (same_results i) (same_sublots i)) ∙ sym b.reported

one_trace : (E : LotId → LotId → Type 0) (lot : LotId) → IsOne (IsTraceReply E lot)
one_trace E lot r r' a b = a.reported ∙ ap ReplyTrace (trace_unique E lot a.trace b.trace a.traced b.traced) ∙ sym b.reported

one_by_test : (b : Bool) (P Q : OwnerReply → Type 0) → IsOne P → IsOne Q → IsOne (λ r. MatchBool b (P r) (Q r))
one_by_test true P Q one_p one_q = one_p
one_by_test false P Q one_p one_q = one_q

one_trace_or : (E : LotId → LotId → Type 0) (lot : LotId) (known : Bool) → IsOne (IsTraceOr E lot known)
one_trace_or E lot true = one_trace E lot
one_trace_or E lot false = one_value _

one_order_or : (row : Option OrderRow) → IsOne (IsOrderOr row)
one_order_or None = one_value _
one_order_or (Some row) = one_value _

module _ (o : Bytes) (H : History) where
  one_lot_or : (row : Option LotRow) → IsOne (IsLotOr H o row)
  one_lot_or None = one_value _
  one_lot_or (Some row) = one_lot_reply _ _ _ row

  pub one_batch_or : (order : Option OrderRow) (batch : Option BatchRow) (v : Verdict) → IsOne (IsBatchOr H o order batch v)
  one_batch_or (Some order) (Some batch) v = one_batch_reply _ batch
  one_batch_or None batch (Refused why) = one_value _
  one_batch_or None batch Accepted = λ r r' a b. absurd a
  one_batch_or None batch Repeated = λ r r' a b. absurd a
  one_batch_or (Some order) None (Refused why) = one_value _
  one_batch_or (Some order) None Accepted = λ r r' a b. absurd a
  one_batch_or (Some order) None Repeated = λ r r' a b. absurd a

one_written : (v : Verdict) (left : OwnerReply → Type 0) → IsOne left → IsOne (λ r. IsWritingReply v (left r) r)
one_written (Refused why) left one = one_value _
one_written Accepted left one = one
one_written Repeated left one = one

module _ (o : Bytes) (H : History) where
  one_answer : (q : Request) → IsOne (IsOwnerAnswer o H q)
  one_answer request.Orders = one_orders _
  one_answer (request.Order order) = one_order_or _
  one_answer (request.Place placing) = one_written _ _ (one_order_or _)
  one_answer (request.Cancel order) = one_written _ _ (one_order_or _)
  one_answer (request.Batch order number) = one_batch_or o H _ _ _
  one_answer request.Stock = one_stock _
  one_answer (request.Lot lot) = one_lot_or o H _
  one_answer (request.Release lot) = one_written _ _ (one_lot_or o (grow H (by o (Release lot))) _)
  one_answer (request.Reject lot) = one_written _ _ (one_lot_or o (grow H (by o (Reject lot))) _)
  one_answer (request.Back lot) = one_trace_or _ _ _
  one_answer (request.Forward lot) = one_trace_or _ _ _
  one_answer (request.HouseForward lot) = one_trace_or _ _ _

  pub one_reply : (key : Bytes) (q : Request) → IsOne (IsReply o key H q)
  unfolding IsReply
  one_reply key q = one_by_test (has_owner_key o key H) (IsOwnerAnswer o H q) _ (one_answer q) (one_value _)
