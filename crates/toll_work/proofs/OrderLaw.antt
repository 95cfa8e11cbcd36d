-- What the placing of an order owes.
use Rattle.std.proofs.Common.{◌≡◌, suc, Bool, true, false, ◌||◌, cond, Option, Some, None, is_some, is_none, List, [], ◌∷◌, length, refl, sym, ap, ◌∙◌}
use Rattle.toll_work.proofs.Common.{list_any, option_map, or_right, nat_list_cmp_total, Bytes, same_bytes, bytes_cmp, first_some, or_else, where_so, Action, PlaceOrder, by, History, acts, Slice, order_at, with_row, KeepsRules, order_placed, placed_row, order_of, cancels, OwnerFacts, facts_of, facts_given, IsDecided, Decides, DecisionKeepsRules, Accepted, order_checks, verdict, IsLawful, Put, Decision, Placing, OrderRow, Order, none_applies, accepted_passes, adding_decided, adding_keeps, below_limit, tables-own, row_at-put_row, none_of, length-new, any-new, same_bytes-exact, MOST_ORDERS}
use Rattle.toll_history.proofs.Uncancelled.{uncancelled}

-- tables with one more order
abbrev with_order : OrderRow → OwnerFacts → OwnerFacts
with_order row t = record t {
  order = λ k. cond (same_bytes k row.order) (Some row) (t.order k);
  orders = suc t.orders;
  recipe_used = λ recipe. same_bytes row.recipe recipe || t.recipe_used recipe;
}

order_in_slice : (s : Slice) (row : OrderRow) → is_some (order_at s row.order) ≡ false → facts_of (with_row s (Order row)) ≡ with_order row (facts_of s)
order_in_slice s row absent i = record (facts_of s) {
  order = λ k. row_at-put_row bytes_cmp nat_list_cmp_total (λ x. x.order) s.orders row k i;
  orders = length-new bytes_cmp nat_list_cmp_total (λ x. x.order) s.orders row absent i;
  recipe_used = λ recipe. any-new bytes_cmp (λ x. x.order) (λ x. same_bytes x.recipe recipe) s.orders row absent i;
}

-- ---- the order that is placed

-- the order as it was placed
abbrev pub order_as_placed : List Action → Bytes → Option OrderRow
order_as_placed own order = first_some (λ a. elim (order_placed a) [ Some row ↦ where_so (same_bytes order row.order) row | None ↦ None ]) own

-- An order that was never cancelled is unchanged since it was placed.
placed_first : (b cancelled : Bool) (row : OrderRow) (rest : Option OrderRow) → row.cancelled ≡ false → (b ≡ true → cancelled ≡ false) →
    option_map {T = OrderRow} (λ r. record r { cancelled = cancelled }) (or_else (where_so b row) rest) ≡ cond b (Some row) (option_map {T = OrderRow} (λ r. record r { cancelled = cancelled }) rest)
placed_first true cancelled row rest is never = ap (λ c. Some (record row { cancelled = c })) (never refl ∙ sym is)
placed_first false cancelled row rest is never = refl

order_in_history : (H : History) (o : Bytes) (placing : Placing) → IsLawful H → is_some (order_of (acts o H) placing.order) ≡ false → facts_given (by o (PlaceOrder placing) ∷ H) o ≡ with_order (placed_row placing) (facts_given H o)
order_in_history H o placing lawful absent =
    tables-own H o (PlaceOrder placing) refl
    ∙ (λ i. record (with_order (placed_row placing) (facts_given H o)) {
      order = λ k. placed_first (same_bytes k placing.order) (list_any (cancels k) (acts o H)) (placed_row placing) (order_as_placed (acts o H) k) refl
          (λ same. uncancelled H o lawful k (ap (λ x. is_none (order_of (acts o H) x)) (same_bytes-exact k placing.order same) ∙ ap is_none (none_of _ absent))) i;
    })

module _ (own : Slice) (placing : Placing) (d : Decision) (decided : IsDecided (order_checks (facts_of own) placing) (Put own.owner (Order (placed_row placing)) ∷ []) d) where
  order_is_new : (H : History) (o : Bytes) → verdict H (by o (PlaceOrder placing)) ≡ Accepted → is_some (order_of (acts o H) placing.order) ≡ false
  order_is_new H o accepted = accepted_passes H o (PlaceOrder placing) accepted 1

  pub order_decided : Decides (by own.owner (PlaceOrder placing)) own d
  order_decided =
      adding_decided (PlaceOrder placing) (Order (placed_row placing)) refl (with_order (placed_row placing)) (λ t. is_some (t.order placing.order)) (λ s. order_in_slice s (placed_row placing)) (λ H o lawful accepted. order_in_history H o placing lawful (order_is_new H o accepted)) order_is_new
      own d _ decided (λ H. refl)

  pub order_keeps : KeepsRules own → DecisionKeepsRules own d
  order_keeps = adding_keeps own (Order (placed_row placing)) d _ decided (λ accepted. or_right _ _ (below_limit MOST_ORDERS (length own.orders) (none_applies (order_checks (facts_of own) placing) accepted 3)))
