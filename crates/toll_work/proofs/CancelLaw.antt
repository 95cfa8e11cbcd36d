-- What the cancelling of an order owes.
use Rattle.std.proofs.Common.{◌≡◌, Bool, true, false, cond, Option, Some, None, is_some, is_none, [], ◌∷◌, ◌||◌, map, refl, sym, ap, ◌∙◌}
use Rattle.toll_work.proofs.Common.{list_any, option_map, or_left, nat_list_cmp_total, Bytes, same_bytes, bytes_cmp, CancelOrder, by, History, acts, Slice, order_at, with_row, KeepsRules, order_of, cancels, OwnerFacts, facts_of, facts_given, IsDecided, Decides, DecisionKeepsRules, cancel_checks, Put, Decision, OrderRow, Order, none_applies, accepted_passes, verdict_is, Grows, RowsFit, put_rows, decides, keeps_rules, tables-own, tables-others, row_at-put_row, length-known, any-known, same_bytes-exact, same_bytes-symm, cancelled_row, cancelled_rows}
use Rattle.toll_work.proofs.FoundRow.{row_at-key, so_of_known, known_changed}
use Rattle.toll_work.proofs.OrderLaw.{order_as_placed}

-- tables with the order cancelled
abbrev with_cancelled : (order : Bytes) → OrderRow → OwnerFacts → OwnerFacts
with_cancelled order known t = record t { order = λ k. cond (same_bytes k order) (Some (cancelled_row known)) (t.order k) }

module _ (s : Slice) (order : Bytes) (known : OrderRow) (found : order_at s order ≡ Some known) where
  own_name : order ≡ known.order
  own_name = same_bytes-exact order known.order (row_at-key bytes_cmp (λ row. row.order) s.orders order known found)

  found_own : order_at s known.order ≡ Some known
  found_own = ap (order_at s) (sym own_name) ∙ found

  cancel_in_slice : facts_of (with_row s (Order (cancelled_row known))) ≡ with_cancelled order known (facts_of s)
  cancel_in_slice i = record (facts_of s) {
    order = λ k. (row_at-put_row bytes_cmp nat_list_cmp_total (λ row. row.order) s.orders (cancelled_row known) k ∙ ap (λ name. cond (same_bytes k name) (Some (cancelled_row known)) (order_at s k)) (sym own_name)) i;
    orders = length-known bytes_cmp nat_list_cmp_total (λ row. row.order) s.orders (cancelled_row known) (ap is_some found_own) i;
    recipe_used = λ recipe. any-known bytes_cmp (λ row. row.order) (λ row. same_bytes row.recipe recipe) s.orders (cancelled_row known) known found_own refl i;
  }

-- an order that is cancelled now, or unchanged
cancelled_now : (b was : Bool) (row : Option OrderRow) →
    option_map {T = OrderRow} (λ r. record r { cancelled = b || was }) row
    ≡ cond b (option_map cancelled_row (option_map {T = OrderRow} (λ r. record r { cancelled = was }) row)) (option_map {T = OrderRow} (λ r. record r { cancelled = was }) row)
cancelled_now true was None = refl
cancelled_now true was (Some row) = refl
cancelled_now false was row = refl

cancelled_in_history : (H : History) (o order : Bytes) (known : OrderRow) → order_of (acts o H) order ≡ Some known → facts_given (by o (CancelOrder order) ∷ H) o ≡ with_cancelled order known (facts_given H o)
cancelled_in_history H o order known found =
    tables-own H o (CancelOrder order) refl
    ∙ (λ i. record (with_cancelled order known (facts_given H o)) { order = λ k. cancelled_at k i })
  where
    cancelled_at : (k : Bytes) → order_of (CancelOrder order ∷ acts o H) k ≡ cond (same_bytes k order) (Some (cancelled_row known)) (order_of (acts o H) k)
    cancelled_at k =
        ap (λ b. option_map {T = OrderRow} (λ r. record r { cancelled = b || list_any (cancels k) (acts o H) }) (order_as_placed (acts o H) k)) (same_bytes-symm order k)
        ∙ cancelled_now (same_bytes k order) (list_any (cancels k) (acts o H)) (order_as_placed (acts o H) k)
        ∙ known_changed cancelled_row (same_bytes k order) (order_of (acts o H) k) known (λ same. ap (order_of (acts o H)) (same_bytes-exact k order same) ∙ found)

cancel_grows : (order : Bytes) → Grows (CancelOrder order) (cancelled_rows order)
cancel_grows order H s lawful valid accepted there =
    so_of_known (order_at s order) (λ row. Order (cancelled_row row) ∷ []) (λ rows. facts_of (put_rows rows s) ≡ facts_given (by s.owner (CancelOrder order) ∷ H) s.owner)
    (ap (λ (t : OwnerFacts). is_none (t.order order)) there ∙ accepted_passes H s.owner (CancelOrder order) accepted 0)
    (λ known found.
    cancel_in_slice s order known found
    ∙ ap (with_cancelled order known) there
    ∙ sym (cancelled_in_history H s.owner order known (sym (ap (λ (t : OwnerFacts). t.order order) there) ∙ found)))

module _ (own : Slice) (order : Bytes) (d : Decision) (decided : IsDecided (cancel_checks (facts_of own) order) (map (Put own.owner) (cancelled_rows order (facts_of own))) d) where
  pub cancel_decided : Decides (by own.owner (CancelOrder order)) own d
  cancel_decided =
      decides (CancelOrder order) (cancelled_rows order) (cancel_grows order) (λ H o p lawful valid accepted other. tables-others H o (CancelOrder order) refl p other)
      own d _ decided (λ H lawful valid known there. verdict_is H own.owner (CancelOrder order) (facts_of own) _ known there refl)

  pub cancel_keeps : KeepsRules own → DecisionKeepsRules own d
  cancel_keeps keeps =
      keeps_rules own (cancelled_rows order (facts_of own)) d _ decided keeps
      (λ accepted. so_of_known (order_at own order) (λ row. Order (cancelled_row row) ∷ []) (λ rows. RowsFit rows own)
      (none_applies (cancel_checks (facts_of own) order) accepted 0)
      (λ known found. (or_left _ _ (ap is_some (found_own own order known found)), tt)))
