-- An owner's replies come from the owner's part of a history.
use Rattle.std.proofs.Common.{◌≡◌, ℕ, Bool, true, false, not, ◌&&◌, ◌||◌, cond, Option, Some, None, is_some, ◌∷◌, MatchBool, ◌↔◌, refl, sym, ap, ◌∙◌, IfSome}
use Rattle.toll_answers.proofs.Common.{list_any, Bytes, same_bytes, Action, PlaceOrder, CancelOrder, Release, Reject, Command, by, History, part, acts, owner_known, owner_key, adds_owner, measure_of, order_of, batch_of, requirement_of, Verdict, Accepted, Repeated, Refused, Checks, verdict_of_checks, checks, verdict, grow, grown, IsLawful, IsValidAction, order_checks, cancel_checks, release_checks, reject_checks, known_batch_checks, OrderRow, LotRow, BatchRow, same_bytes-refl, Back, Forward, IsOwnJoined, line_of, stock_line, results_of_lot, sublots_of_lot, has_consumed, option_map, option_map_or, option_and_then, lot_id}
use Rattle.toll_answers.specs.PlantAnswers.{IsValidCommand, after_plant, recorded_command}
use Rattle.toll_answers.specs.declared.plant_cmd.PlantCmd.{PlantCmd}
use Rattle.toll_base.specs.Values.{house_name}
use Rattle.toll_base.specs.Words.{where_so, is_some_where}
use Rattle.toll_history.specs.OwnerFacts.{OwnerFacts, facts_given, lot_row}
use Rattle.toll_base.specs.declared.refusal.Refusal.TheVariants.{UnknownOwner}
use Rattle.toll_history.proofs.Own.{acts-part, part-own}
use Rattle.toll_history.proofs.OwnFacts.{lot_row-part, sublot_row-part, tables-part}
use Rattle.toll_base.specs.declared.request.Request.{Request}
use Rattle.toll_base.specs.declared.request.Request.TheVariants as request
use Rattle.toll_base.specs.declared.rows.Placing.{Placing}
use Rattle.toll_answers.specs.OwnerReply.{OwnerReply, ReplyForbidden}
use Rattle.toll_answers.specs.Replies.{has_owner_key, IsOrdersReply, IsStockReply, IsBatchReply, IsLotReply, IsOrderOr, IsLotOr, IsBatchOr, IsTraceOr, IsWritingReply, IsOrderAfter, IsLotAfter, IsOwnerAnswer, IsReply, after_answer, after_reply}
use Rattle.toll_history.proofs.OwnAmounts.{on_hand-part, actual_amount-part}

-- a lawful history stays so
lawful-grown : (H : History) (c : Command) (v : Verdict) → verdict H c ≡ v → IsLawful H → IsValidAction c.action → IsLawful (grown v H c)
lawful-grown H c Accepted is lawful valid = (lawful, valid, is)
lawful-grown H c Repeated is lawful valid = lawful
lawful-grown H c (Refused why) is lawful valid = lawful

pub lawful-grow : (H : History) (c : Command) → IsLawful H → IsValidAction c.action → IsLawful (grow H c)
lawful-grow H c lawful valid = lawful-grown H c (verdict H c) refl lawful valid

pub lawful-after_plant : (H : History) (q : PlantCmd) → IsLawful H → IsValidCommand q → IsLawful (after_plant H q)
lawful-after_plant H q lawful valid = by_done (recorded_command q) valid
  where
    by_done : (done : Option Command) → IfSome done (λ (c : Command). IsValidAction c.action) → IsLawful (option_map_or (grow H) done H)
    by_done (Some c) valid = lawful-grow H c lawful valid
    by_done None valid = lawful

module _ (o : Bytes) (not_house : same_bytes o house_name ≡ false) where
  -- ---- over any history

  pub has_owner_key-part : (key : Bytes) (H : History) → has_owner_key o key (part o H) ≡ has_owner_key o key H
  has_owner_key-part key H i = not (same_bytes o house_name) && is_some_where (same_bytes key) (owner_key (acts-part o H i))

  owner_known-part : (H : History) → owner_known (part o H) o ≡ owner_known H o
  owner_known-part H i = same_bytes o house_name || list_any adds_owner (acts-part o H i)

  -- ---- growing

  -- the part of what a history grows to by the owner's command
  part-grown : (H : History) (action : Action) (v : Verdict) → part o (grown v H (by o action)) ≡ grown v (part o H) (by o action)
  part-grown H action Accepted = part-own o (by o action) H (same_bytes-refl o)
  part-grown H action Repeated = refl
  part-grown H action (Refused why) = refl

  module _ (H : History) (lawful : IsLawful H) where
    -- ---- verdicts on the owner's writing requests

    -- the verdict by checks over the owner's tables alone
    abbrev judged_by : (known : Bool) → Checks → Verdict
    judged_by known own = verdict_of_checks ((not known, Some UnknownOwner) ∷ own)

    -- such a verdict over the part
    verdict-part : (c : OwnerFacts → Checks) → judged_by (owner_known (part o H) o) (c (facts_given (part o H) o)) ≡ judged_by (owner_known H o) (c (facts_given H o))
    verdict-part c i = judged_by (owner_known-part H i) (c (tables-part o H lawful not_house i))

    place-part : (placing : Placing) → verdict (part o H) (by o (PlaceOrder placing)) ≡ verdict H (by o (PlaceOrder placing))
    unfolding checks
    place-part placing = verdict-part (λ t. order_checks t placing)

    cancel-part : (order : Bytes) → verdict (part o H) (by o (CancelOrder order)) ≡ verdict H (by o (CancelOrder order))
    unfolding checks
    cancel-part order = verdict-part (λ t. cancel_checks t order)

    release-part : (lot : Bytes) → verdict (part o H) (by o (Release lot)) ≡ verdict H (by o (Release lot))
    unfolding checks
    release-part lot = verdict-part (λ t. release_checks t lot)

    reject-part : (lot : Bytes) → verdict (part o H) (by o (Reject lot)) ≡ verdict H (by o (Reject lot))
    unfolding checks
    reject-part lot = verdict-part (λ t. reject_checks t lot)

    -- the owner's part grows as the whole does
    grow-part : (action : Action) → verdict (part o H) (by o action) ≡ verdict H (by o action) → grow (part o H) (by o action) ≡ part o (grow H (by o action))
    grow-part action same = ap (λ v. grown v (part o H) (by o action)) same ∙ sym (part-grown H action (verdict H (by o action)))

    -- ---- the reply

    measure_of-part : (m : Bytes) → measure_of (acts o (part o H)) m ≡ measure_of (acts o H) m
    measure_of-part m i = measure_of (acts-part o H i) m

    stock_line-part : (l : Bytes) → stock_line (part o H) o l ≡ stock_line H o l
    stock_line-part l i = option_map (λ row. record { row = row; measure = measure_of-part row.material i; amount = on_hand-part o H lawful not_house l i }) (lot_row-part o H lawful l i)

    line_of-part : (order : Bytes) (number : ℕ) (recipe : Bytes) → line_of (part o H) o order number recipe ≡ line_of H o order number recipe
    line_of-part order number recipe i k = option_and_then (λ row. where_so (same_bytes row.recipe recipe) (record { row = row; actual = actual_amount-part o H lawful order number row i })) (requirement_of (acts-part o H i) k)

    sublots_of_lot-part : (l : Bytes) → sublots_of_lot (part o H) o l ≡ sublots_of_lot H o l
    sublots_of_lot-part l i k = cond (same_bytes k.0 l) (sublot_row-part o H lawful not_house k i) None

    lot_or-part : (row : Option LotRow) (r : OwnerReply) → IsLotOr (part o H) o row r ≡ IsLotOr H o row r
    lot_or-part None r = refl
    lot_or-part (Some row) r = λ i. IsLotReply (results_of_lot (acts-part o H i) row.lot) (sublots_of_lot-part row.lot i) (measure_of-part row.material i) row r

    batch_or-part : (order : Option OrderRow) (batch : Option BatchRow) (v : Verdict) (r : OwnerReply) → IsBatchOr (part o H) o order batch v r ≡ IsBatchOr H o order batch v r
    batch_or-part (Some order) (Some batch) v r = λ i. IsBatchReply (line_of-part batch.order batch.number order.recipe i) batch r
    batch_or-part None batch Accepted r = refl
    batch_or-part None batch Repeated r = refl
    batch_or-part None batch (Refused why) r = refl
    batch_or-part (Some order) None Accepted r = refl
    batch_or-part (Some order) None Repeated r = refl
    batch_or-part (Some order) None (Refused why) r = refl

    written_by : (v v' : Verdict) (left left' : Type 0) (r : OwnerReply) → v ≡ v' → left ≡ left' → IsWritingReply v left r ≡ IsWritingReply v' left' r
    written_by v v' left left' r verdicts lefts i = IsWritingReply (verdicts i) (lefts i) r

    order_after-part : (action : Action) (order : Bytes) (r : OwnerReply) → verdict (part o H) (by o action) ≡ verdict H (by o action) → IsOrderAfter (part o H) o action order r ≡ IsOrderAfter H o action order r
    order_after-part action order r same =
        written_by _ _ _ _ r same
        (ap (λ L. IsOrderOr (order_of (acts o L) order) r) (grow-part action same) ∙ ap (λ own. IsOrderOr (order_of own order) r) (acts-part o (grow H (by o action))))

  -- a lot after a command of the owner
  lot_after-part : (H : History) (lawful : IsLawful H) (action : Action) (lot : Bytes) (r : OwnerReply) → IsValidAction action → verdict (part o H) (by o action) ≡ verdict H (by o action) → IsLotAfter (part o H) o action lot r ≡ IsLotAfter H o action lot r
  lot_after-part H lawful action lot r valid same =
      let grown_lawful = lawful-grow H (by o action) lawful valid in
      let after = grow H (by o action) in
      written_by H lawful _ _ _ _ r same
      (ap (λ L. IsLotOr L o (lot_row L o lot) r) (grow-part H lawful action same)
      ∙ ap (λ row. IsLotOr (part o after) o row r) (lot_row-part o after grown_lawful lot)
      ∙ lot_or-part after grown_lawful (lot_row after o lot) r)

  module _ (H : History) (lawful : IsLawful H) where
    answer-part : (q : Request) (r : OwnerReply) → IsOwnerAnswer o (part o H) q r ≡ IsOwnerAnswer o H q r
    answer-part request.Orders r = λ i. IsOrdersReply (order_of (acts-part o H i)) r
    answer-part (request.Order order) r = λ i. IsOrderOr (order_of (acts-part o H i) order) r
    answer-part (request.Place placing) r = order_after-part H lawful (PlaceOrder placing) placing.order r (place-part H lawful placing)
    answer-part (request.Cancel order) r = order_after-part H lawful (CancelOrder order) order r (cancel-part H lawful order)
    answer-part (request.Batch order number) r =
        (λ i. IsBatchOr (part o H) o (order_of (acts-part o H i) order) (batch_of (acts-part o H i) (order, number)) (verdict_of_checks (known_batch_checks (tables-part o H lawful not_house i) order number)) r)
        ∙ batch_or-part H lawful (order_of (acts o H) order) (batch_of (acts o H) (order, number)) (verdict_of_checks (known_batch_checks (facts_given H o) order number)) r
    answer-part request.Stock r = λ i. IsStockReply (λ l. stock_line-part H lawful l i) r
    answer-part (request.Lot lot) r = ap (λ row. IsLotOr (part o H) o row r) (lot_row-part o H lawful lot) ∙ lot_or-part H lawful (lot_row H o lot) r
    answer-part (request.Release lot) r = lot_after-part H lawful (Release lot) lot r tt (release-part H lawful lot)
    answer-part (request.Reject lot) r = lot_after-part H lawful (Reject lot) lot r tt (reject-part H lawful lot)
    answer-part (request.Back lot) r = λ i. IsTraceOr (IsOwnJoined (acts-part o H i) Back) (lot_id o lot) (is_some (lot_row-part o H lawful lot i)) r
    answer-part (request.Forward lot) r = λ i. IsTraceOr (IsOwnJoined (acts-part o H i) Forward) (lot_id o lot) (is_some (lot_row-part o H lawful lot i)) r
    answer-part (request.HouseForward lot) r = λ i. IsTraceOr (IsOwnJoined (acts-part o H i) Forward) (lot_id house_name lot) (has_consumed (acts-part o H i) (lot_id house_name lot)) r

    -- an owner's reply is the reply over the owner's part
    pub reply-part : (key : Bytes) (q : Request) (r : OwnerReply) → IsReply o key (part o H) q r ≡ IsReply o key H q r
    unfolding IsReply
    reply-part key q r i = MatchBool (has_owner_key-part key H i) (answer-part q r i) (r ≡ ReplyForbidden)

    after_answer-part : (q : Request) → after_answer o (part o H) q ≡ part o (after_answer o H q)
    after_answer-part (request.Place placing) = grow-part H lawful (PlaceOrder placing) (place-part H lawful placing)
    after_answer-part (request.Cancel order) = grow-part H lawful (CancelOrder order) (cancel-part H lawful order)
    after_answer-part (request.Release lot) = grow-part H lawful (Release lot) (release-part H lawful lot)
    after_answer-part (request.Reject lot) = grow-part H lawful (Reject lot) (reject-part H lawful lot)
    after_answer-part _ = refl

    part_by : (b : Bool) (grown H : History) → part o (cond b grown H) ≡ cond b (part o grown) (part o H)
    part_by true grown H = refl
    part_by false grown H = refl

    -- and what a request makes of the history, cut to the owner, is what it makes of the part
    pub after_reply-part : (key : Bytes) (q : Request) → after_reply o key (part o H) q ≡ part o (after_reply o key H q)
    unfolding after_reply
    after_reply-part key q =
        (λ i. cond (has_owner_key-part key H i) (after_answer-part q i) (part o H)) ∙ sym (part_by (has_owner_key o key H) (after_answer o H q) H)

    pub reply-both_ways : (key : Bytes) (q : Request) (r : OwnerReply) → IsReply o key (part o H) q r ↔ IsReply o key H q r
    reply-both_ways key q r = ((λ over_part. coe 0 1 (i. reply-part key q r i) over_part), (λ over_all. coe 1 0 (i. reply-part key q r i) over_all))
