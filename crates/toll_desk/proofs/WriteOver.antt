-- The replies to an owner about decisions over its rows.
use Rattle.std.proofs.Common.{◌≡◌, ℕ, Bool, true, false, not, ◌||◌, cond, Option, Some, None, is_some, is_none, List, [], ◌∷◌, refl, sym, ap, subst, ◌∙◌}
use Rattle.toll_desk.proofs.Common.{list_any, option_map, false≢true, Bytes, same_bytes, result_cmp, pair_cmp, lot_id, AreRowsGiven, or_else, where_so, is_some_where, Action, PlaceOrder, CancelOrder, Release, Reject, by, History, acts, owner_known, Slice, order_at, result_of, disposition_of, Made, lot_made, order_of, cancels, added_row, order_placed, measure_of, IsRowsOf, lot_row, sublot_row, Verdict, Accepted, Repeated, Refused, verdict, grown, grow, is_quarantined, checks, IsLawful, changes_of, after_changes, verdict_of, Decision, Disposition, Refusal, UnknownOrder, LotRow, OrderRow, acts-own, accepted_passes, same_bytes-refl, IsLotViewOf, LotView, Request, OwnerReply, ReplyOrder, ReplyLot, ReplyRefused, IsOrderOr, IsLotOr, IsWritingReply, IsOwnerAnswer, after_answer}
use Rattle.toll_base.specs.declared.lot.Disposition.TheVariants.{Released, Rejected}
use Rattle.toll_base.specs.declared.rows.Placing.{Placing}
use Rattle.toll_base.specs.declared.rows.ResultRow.{ResultRow}
use Rattle.toll_base.specs.declared.rows.SublotRow.{SublotRow}
use Rattle.toll_base.specs.Rows.{lot_row_of, placed_row, sublot_row_of}
use Rattle.toll_history.specs.OwnerFacts.{lot_row_made}
use Rattle.toll_history.proofs.Options.{none_of}
use Rattle.toll_history.proofs.Uncancelled.{uncancelled}
use Rattle.toll_history.proofs.Unmoved.{unmoved}
use Rattle.toll_stock.proofs.LotLaw.{released_now, rejected_now}
use Rattle.toll_desk.specs.Plans.{IsDisposed, Disposes, IsPlanOver, IsOwnDecision}
use Rattle.toll_desk.proofs.ReadOver.{given_orders}
use Rattle.toll_base.specs.declared.request.Request.TheVariants as request

-- ---- what is decided

-- If the decision is right, and the reply is right over the history after it, they are a plan.
module _ (H : History) (s : Slice) (q : Request) (a : Action) (Left : History → OwnerReply → Type 0) (answers : (reported : OwnerReply) → IsWritingReply (verdict H (by s.owner a)) (Left (grow H (by s.owner a)) reported) reported → IsOwnerAnswer s.owner H q reported) (grows : after_answer s.owner H q ≡ grow H (by s.owner a))
    (known : owner_known H s.owner ≡ true) (there : IsRowsOf H s) (d : Decision) (own : IsOwnDecision H s a d) where
  pub decided_over : (v : Verdict) (reported : OwnerReply) → verdict_of d ≡ v → IsWritingReply v (Left (grown v H (by s.owner a)) reported) reported → IsPlanOver H s q reported (changes_of d)
  decided_over v reported is so =
      let right = own.right known there in record {
        answer = answers reported (subst (λ w. IsWritingReply w (Left (grown w H (by s.owner a)) reported) reported) (sym is ∙ right.verdict_is) so);
        rows = λ t r. subst (λ G. IsRowsOf G (after_changes (changes_of d) t)) (sym grows) (right.rows_are t r);
        rules = own.rules;
        own = own.own;
      }

-- ---- orders

-- an order that is accepted is as it was placed
first_placed : (b cancelled : Bool) (row : OrderRow) (rest : Option OrderRow) → b ≡ true → cancelled ≡ row.cancelled →
    option_map {T = OrderRow} (λ r. record r { cancelled = cancelled }) (or_else (where_so b row) rest) ≡ Some row
first_placed true cancelled row rest is never = ap (λ c. Some (record row { cancelled = c })) never
first_placed false cancelled row rest is never = absurd (false≢true is)

pub placed_order : (H : History) (o : Bytes) (placing : Placing) → IsLawful H → verdict H (by o (PlaceOrder placing)) ≡ Accepted →
    order_of (acts o (by o (PlaceOrder placing) ∷ H)) placing.order ≡ Some (placed_row placing)
placed_order H o placing lawful accepted =
    let order = placing.order in
    let absent : is_some (order_of (acts o H) order) ≡ false = accepted_passes H o (PlaceOrder placing) accepted 1 in
    let never = uncancelled H o lawful order (ap is_none (none_of _ absent)) in
    ap (λ own. order_of own order) (acts-own o (by o (PlaceOrder placing)) H (same_bytes-refl o))
    ∙ first_placed (same_bytes order order) (list_any (cancels order) (acts o H)) (placed_row placing) _ (same_bytes-refl order) never

-- an order that is cancelled is as it stood, and cancelled
now_cancelled : (b c : Bool) (row : OrderRow) (x : Option OrderRow) → b ≡ true → option_map {T = OrderRow} (λ r. record r { cancelled = c }) x ≡ Some row →
    option_map {T = OrderRow} (λ r. record r { cancelled = b }) x ≡ Some (record row { cancelled = true })
now_cancelled b c row None so is = (cc)
now_cancelled b c row (Some r) so is =
    let e : record r { cancelled = c } ≡ row = (cc) in
    (λ i. Some (record r { cancelled = so i })) ∙ ap (λ (x : OrderRow). Some (record x { cancelled = true })) e

pub cancelled_order : (H : History) (o order : Bytes) (row : OrderRow) → order_of (acts o H) order ≡ Some row →
    order_of (acts o (by o (CancelOrder order) ∷ H)) order ≡ Some (record row { cancelled = true })
cancelled_order H o order row is =
    ap (λ own. order_of own order) (acts-own o (by o (CancelOrder order)) H (same_bytes-refl o))
    ∙ now_cancelled (list_any (cancels order) (CancelOrder order ∷ acts o H)) (list_any (cancels order) (acts o H)) row (added_row order_placed (λ r. same_bytes order r.order) (acts o H))
    (ap (λ b. b || list_any (cancels order) (acts o H)) (same_bytes-refl order)) is

-- an order that is not known is not cancelled
pub unknown_cancelling : (H : History) (o order : Bytes) → owner_known H o ≡ true → order_of (acts o H) order ≡ None → verdict H (by o (CancelOrder order)) ≡ Refused UnknownOrder
unfolding checks
unknown_cancelling H o order known none = rw (known, none) refl

-- ---- lots

-- what is shown of a lot that got a disposition
pub disposition_replied : (H G : History) (o : Bytes) (d : Disposition) (known : Option LotRow) (view : LotView) → measure_of (acts o G) ≡ measure_of (acts o H) → result_of (acts o G) ≡ result_of (acts o H) → sublot_row G o ≡ sublot_row H o →
    IsLotViewOf H o known (Some view) → IsLotOr G o (option_map {T = LotRow} (λ row. record row { disposition = d }) known) (ReplyLot (record view.row { disposition = d }) view.measure view.results.items view.sublots.items)
disposition_replied H G o d None view measure results sublots is = absurd is
disposition_replied H G o d (Some row) view measure results sublots is = record {
  results = view.results.items;
  sublots = view.sublots.items;
  are_results = subst (λ (given : Bytes × Bytes × ℕ → Option ResultRow). AreRowsGiven result_cmp (λ r. (r.lot, r.test, r.number)) (λ k. cond (same_bytes k.0 row.lot) (given k) None) view.results.items) (sym results) is.results;
  are_sublots = subst (λ (given : Bytes × Bytes → Option SublotRow). AreRowsGiven pair_cmp (λ r. (r.lot, r.sublot)) (λ k. cond (same_bytes k.0 row.lot) (given k) None) view.sublots.items) (sym sublots) is.sublots;
  reported = λ i. ReplyLot (record (is.row i) { disposition = d }) ((is.measure ∙ ap (λ of. of row.material) (sym measure)) i) view.results.items view.sublots.items;
}

module _ (H : History) (o lot : Bytes) where
  abbrev lot_row_with : Made → Disposition → Option LotRow
  lot_row_with m e = Some (lot_row_of lot m.material m.origin e)

  write_given : (own : List Action) (a : Action) (d : Disposition) (x : Option Made) → ((m : Made) → x ≡ Some m → disposition_of (a ∷ own) m.material lot ≡ d) →
      option_map (lot_row_made (a ∷ own) lot) x
      ≡ option_map {T = LotRow} (λ row. record row { disposition = d }) (option_map (lot_row_made own lot) x)
  write_given own a d None now = refl
  write_given own a d (Some m) now = ap (λ e. lot_row_with m e) (now m refl)

  quarantined_at : (x : Option Made) (m : Made) → x ≡ Some m → is_some_where (λ row. not (is_quarantined row.disposition)) (option_map (lot_row_made (acts o H) lot) x) ≡ false →
      is_quarantined (disposition_of (acts o H) m.material lot) ≡ true
  quarantined_at x m is passes = not_not (is_quarantined (disposition_of (acts o H) m.material lot)) (ap (λ y. is_some_where (λ (row : LotRow). not (is_quarantined row.disposition)) (option_map (lot_row_made (acts o H) lot) y)) (sym is) ∙ passes)
    where
      not_not : (b : Bool) → not b ≡ false → b ≡ true
      not_not true e = refl
      not_not false e = absurd (false≢true (sym e))

  pub lot_released : verdict H (by o (Release lot)) ≡ Accepted → IsDisposed H (by o (Release lot) ∷ H) o lot Released
  lot_released accepted =
      let mine = acts-own o (by o (Release lot)) H (same_bytes-refl o) in
      let still = unmoved H o (Release lot) refl in record {
        row = (λ i. option_map (lot_row_made (mine i) lot) (still.made i (lot_id o lot)))
            ∙ write_given (acts o H) (Release lot) Released (lot_made H (lot_id o lot)) (λ m is. released_now (acts o H) m.material lot (quarantined_at (lot_made H (lot_id o lot)) m is (accepted_passes H o (Release lot) accepted 1)));
        measure = ap measure_of mine;
        results = ap result_of mine;
        sublots = λ i k. where_so (still.known i (lot_id o k.0) k.1) (sublot_row_of k.0 k.1 (still.stock i (lot_id o k.0) k.1));
      }

  pub lot_rejected : IsDisposed H (by o (Reject lot) ∷ H) o lot Rejected
  lot_rejected =
      let mine = acts-own o (by o (Reject lot)) H (same_bytes-refl o) in
      let still = unmoved H o (Reject lot) refl in record {
        row = (λ i. option_map (lot_row_made (mine i) lot) (still.made i (lot_id o lot)))
            ∙ write_given (acts o H) (Reject lot) Rejected (lot_made H (lot_id o lot)) (λ m is. rejected_now (acts o H) m.material lot);
        measure = ap measure_of mine;
        results = ap result_of mine;
        sublots = λ i k. where_so (still.known i (lot_id o k.0) k.1) (sublot_row_of k.0 k.1 (still.stock i (lot_id o k.0) k.1));
      }

  -- a release and a rejection give their dispositions
  pub releasing : Disposes H o lot Released (request.Release lot) (Release lot)
  releasing = record { answers = λ reported so. so; grows = refl; known = λ accepted. accepted_passes H o (Release lot) accepted 0; disposed = lot_released }

  pub rejecting : Disposes H o lot Rejected (request.Reject lot) (Reject lot)
  rejecting = record { answers = λ reported so. so; grows = refl; known = λ accepted. accepted_passes H o (Reject lot) accepted 0; disposed = λ accepted. lot_rejected }

-- ---- plans

module _ (H : History) (s : Slice) (lawful : IsLawful H) (known : owner_known H s.owner ≡ true) (there : IsRowsOf H s) where
  accepted_by : (a : Action) (d : Decision) → IsOwnDecision H s a d → verdict_of d ≡ Accepted → verdict H (by s.owner a) ≡ Accepted
  accepted_by a d own is = sym (own.right known there).verdict_is ∙ is

  -- an order to be placed
  module _ (placing : Placing) (d : Decision) (own : IsOwnDecision H s (PlaceOrder placing) d) where
    order_by : (v : Verdict) (reported : OwnerReply) → verdict_of d ≡ v → IsWritingReply v (IsOrderOr (order_of (acts s.owner (grown v H (by s.owner (PlaceOrder placing)))) placing.order) reported) reported → IsPlanOver H s (request.Place placing) reported (changes_of d)
    order_by = decided_over H s (request.Place placing) (PlaceOrder placing) (λ G reported. IsOrderOr (order_of (acts s.owner G) placing.order) reported) (λ reported so. so) refl known there d own

    pub place_accepted : verdict_of d ≡ Accepted → IsPlanOver H s (request.Place placing) (ReplyOrder (placed_row placing)) (changes_of d)
    place_accepted is = order_by Accepted (ReplyOrder (placed_row placing)) is (subst (λ known. IsOrderOr known (ReplyOrder (placed_row placing))) (sym (placed_order H s.owner placing lawful (accepted_by _ d own is))) refl)

    pub place_repeated : (reported : OwnerReply) → verdict_of d ≡ Repeated → IsOrderOr (order_of (acts s.owner H) placing.order) reported → IsPlanOver H s (request.Place placing) reported (changes_of d)
    place_repeated reported is so = order_by Repeated reported is so

    pub place_refused : (why : Refusal) → verdict_of d ≡ Refused why → IsPlanOver H s (request.Place placing) (ReplyRefused why) (changes_of d)
    place_refused why is = order_by (Refused why) (ReplyRefused why) is refl

  -- an order to be cancelled
  module _ (order : Bytes) where
    pub cancel_unknown : order_at s order ≡ None → IsPlanOver H s (request.Cancel order) (ReplyRefused UnknownOrder) []
    cancel_unknown none =
        let refused = unknown_cancelling H s.owner order known (sym (given_orders H s there order) ∙ none) in record {
          answer = subst (λ v. IsWritingReply v (IsOrderOr (order_of (acts s.owner (grown v H (by s.owner (CancelOrder order)))) order) (ReplyRefused UnknownOrder)) (ReplyRefused UnknownOrder)) (sym refused) refl;
          rows = λ t r. subst (λ v. IsRowsOf (grown v H (by s.owner (CancelOrder order))) t) (sym refused) r;
          rules = tt;
          own = tt;
        }

    module _ (d : Decision) (own : IsOwnDecision H s (CancelOrder order) d) (row : OrderRow) (is_there : order_at s order ≡ Some row) where
      cancel_by : (v : Verdict) (reported : OwnerReply) → verdict_of d ≡ v → IsWritingReply v (IsOrderOr (order_of (acts s.owner (grown v H (by s.owner (CancelOrder order)))) order) reported) reported → IsPlanOver H s (request.Cancel order) reported (changes_of d)
      cancel_by = decided_over H s (request.Cancel order) (CancelOrder order) (λ G reported. IsOrderOr (order_of (acts s.owner G) order) reported) (λ reported so. so) refl known there d own

      write_stands : order_of (acts s.owner H) order ≡ Some row
      write_stands = sym (given_orders H s there order) ∙ is_there

      pub cancel_accepted : verdict_of d ≡ Accepted → IsPlanOver H s (request.Cancel order) (ReplyOrder (record row { cancelled = true })) (changes_of d)
      cancel_accepted is = cancel_by Accepted _ is (subst (λ known. IsOrderOr known (ReplyOrder (record row { cancelled = true }))) (sym (cancelled_order H s.owner order row write_stands)) refl)

      pub cancel_repeated : verdict_of d ≡ Repeated → IsPlanOver H s (request.Cancel order) (ReplyOrder row) (changes_of d)
      cancel_repeated is = cancel_by Repeated (ReplyOrder row) is (subst (λ known. IsOrderOr known (ReplyOrder row)) (sym write_stands) refl)

      pub cancel_refused : (why : Refusal) → verdict_of d ≡ Refused why → IsPlanOver H s (request.Cancel order) (ReplyRefused why) (changes_of d)
      cancel_refused why is = cancel_by (Refused why) (ReplyRefused why) is refl

  -- a lot that gets a disposition
  module _ (lot : Bytes) (disposition : Disposition) (q : Request) (a : Action) (disposes : Disposes H s.owner lot disposition q a) (d : Decision) (own : IsOwnDecision H s a d) where
    dispose_by : (v : Verdict) (reported : OwnerReply) → verdict_of d ≡ v → IsWritingReply v (IsLotOr (grown v H (by s.owner a)) s.owner (lot_row (grown v H (by s.owner a)) s.owner lot) reported) reported → IsPlanOver H s q reported (changes_of d)
    dispose_by = decided_over H s q a (λ G reported. IsLotOr G s.owner (lot_row G s.owner lot) reported) disposes.answers disposes.grows known there d own

    pub dispose_accepted : (view : LotView) → verdict_of d ≡ Accepted → IsLotViewOf H s.owner (lot_row H s.owner lot) (Some view) → IsPlanOver H s q (ReplyLot (record view.row { disposition = disposition }) view.measure view.results.items view.sublots.items) (changes_of d)
    dispose_accepted view is shown =
        let so = disposes.disposed (accepted_by a d own is) in
        dispose_by Accepted _ is (subst (λ known. IsLotOr (by s.owner a ∷ H) s.owner known (ReplyLot (record view.row { disposition = disposition }) view.measure view.results.items view.sublots.items)) (sym so.row)
        (disposition_replied H (by s.owner a ∷ H) s.owner disposition (lot_row H s.owner lot) view so.measure so.results so.sublots shown))

    -- a lot that is not known gets none
    pub dispose_absent : verdict_of d ≡ Accepted → IsLotViewOf H s.owner (lot_row H s.owner lot) None → ⊥
    dispose_absent is shown = no_view (lot_row H s.owner lot) (disposes.known (accepted_by a d own is)) shown
      where
        no_view : (x : Option LotRow) → is_none x ≡ false → IsLotViewOf H s.owner x None → ⊥
        no_view None there shown = false≢true (sym there)
        no_view (Some row) there shown = shown

    pub dispose_repeated : (reported : OwnerReply) → verdict_of d ≡ Repeated → IsLotOr H s.owner (lot_row H s.owner lot) reported → IsPlanOver H s q reported (changes_of d)
    dispose_repeated reported is so = dispose_by Repeated reported is so

    pub dispose_refused : (why : Refusal) → verdict_of d ≡ Refused why → IsPlanOver H s q (ReplyRefused why) (changes_of d)
    dispose_refused why is = dispose_by (Refused why) (ReplyRefused why) is refl
