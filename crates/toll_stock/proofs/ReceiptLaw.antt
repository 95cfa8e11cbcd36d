-- What a receipt owes.
use Rattle.std.proofs.Common.{◌≡◌, ℕ, ◌+◌, not, ◌&&◌, is_some, List, [], ◌∷◌, ◌++◌, refl, sym, ap, ◌∙◌}
use Rattle.toll_stock.proofs.Common.{lot_row_of, or_parts, sublot_bounds, Bytes, same_bytes, Record, by, History, Slice, lot_at, KeepsRules, where_so, is_some_where, OwnerFacts, facts_of, facts_given, IsDecided, Decides, DecisionKeepsRules, Accepted, Checks, verdict_of_checks, key_checks, receive_checks, verdict, IsLawful, IsValidAction, Put, Decision, Quarantined, Receipts, LotRow, MoveRow, Receive, SublotRow, Row, Lot, Sublot, Move, none_applies, Grows, LeavesOthers, known_passes, accepted_passes, move_fits, with_move, with_lot, with_sublot, put_came, recorded_came_in, tables-untaken, sublot_room, came_fit, bounded_owes, same_bytes-exact, same_bytes-refl, gained}

module _ (key material lot sublot : Bytes) (amount day : ℕ) where
  abbrev receipt : MoveRow
  receipt = record { key = key; what = Receive material lot sublot; amount = amount; day = day }

  abbrev receipt_lot : LotRow
  receipt_lot = lot_row_of lot material Receipts Quarantined

  abbrev receipt_holding : OwnerFacts → SublotRow
  receipt_holding = gained lot sublot amount

  abbrev receipt_rows : OwnerFacts → List Row
  receipt_rows t = Move receipt ∷ Lot receipt_lot ∷ Sublot (receipt_holding t) ∷ []

  receipt_grows : Grows (Record receipt) receipt_rows
  receipt_grows H s lawful valid accepted there =
      put_came s receipt receipt_lot (receipt_holding (facts_of s))
      (ap (λ (t : OwnerFacts). is_some (t.movement key)) there ∙ accepted_passes H s.owner (Record receipt) accepted 2)
      (λ old found. same_bytes-exact old.material material
      (known_passes (λ (row : LotRow). same_bytes row.material material) (lot_at s lot) (ap (λ (t : OwnerFacts). is_some_where (λ row. not (same_bytes row.material material)) (t.lot lot)) there ∙ move_fits H s.owner receipt accepted 2) old found))
      ∙ (λ i. with_sublot (receipt_holding (there i)) (with_lot receipt_lot (with_move receipt (there i))))
      ∙ sym (recorded_came_in H s.owner receipt lawful valid accepted lot material Receipts sublot
      (λ l. ap (λ b. where_so (b && same_bytes l lot) (record { material = material; origin = Receipts })) (same_bytes-refl s.owner))
      refl refl
      (λ k. ap (λ b. (b && same_bytes k.0 lot) && same_bytes k.1 sublot) (same_bytes-refl s.owner))
      (λ k. refl))

  receipt_leaves : LeavesOthers (Record receipt)
  receipt_leaves H o p lawful valid accepted other = tables-untaken H o receipt lawful valid accepted p other (λ k. refl)

  abbrev all_receipt_checks : OwnerFacts → Checks
  all_receipt_checks t = key_checks t receipt ++ receive_checks t material lot

  -- Over a lawful history there is room for what is accepted.
  receipt_has_room : (H : History) (o : Bytes) → IsLawful H → IsValidAction (Record receipt) → verdict H (by o (Record receipt)) ≡ Accepted → verdict_of_checks (sublot_bounds (facts_given H o) lot sublot amount) ≡ Accepted
  receipt_has_room H o lawful valid accepted =
      sublot_room H o receipt lawful valid accepted (or_parts _ _ (move_fits H o receipt accepted 4)).0 lot sublot
      (λ i. (same_bytes-refl o i && same_bytes-refl lot i) && same_bytes-refl sublot i) refl

  module _ (own : Slice) (d : Decision) (decided : IsDecided (all_receipt_checks (facts_of own) ++ sublot_bounds (facts_of own) lot sublot amount) (Put own.owner (Move receipt) ∷ Put own.owner (Lot receipt_lot) ∷ Put own.owner (Sublot (receipt_holding (facts_of own))) ∷ []) d) where
    pub receipt_owes : Decides (by own.owner (Record receipt)) own d × (KeepsRules own → DecisionKeepsRules own d)
    receipt_owes =
        bounded_owes (Record receipt) (λ t. sublot_bounds t lot sublot amount) receipt_has_room receipt_rows receipt_grows receipt_leaves all_receipt_checks (λ H o t house. refl) own d decided
        (λ keeps accepted.
        let pass = none_applies (all_receipt_checks (facts_of own) ++ sublot_bounds (facts_of own) lot sublot amount) accepted in
        let full = or_parts _ _ (pass 7) in
        came_fit own receipt receipt_lot (receipt_holding (facts_of own)) refl full.0 refl full.1 (pass 3) (pass 8) (pass 9))
