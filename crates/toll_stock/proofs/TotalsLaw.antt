-- The totals of a lot, over a history whose rows the slice has.
use Rattle.std.proofs.Common.{◌≡◌, Some, None, is_some, sym, ap, ◌∙◌}
use Rattle.toll_stock.proofs.Common.{Bytes, where_so, History, lot_id, lot_made, Slice, lot_at, OwnerFacts, IsRowsOf, LotRow, on_hand, shipped, totals_given, Totals}
use Rattle.toll_stock.proofs.Mapped.{some_mapped}

module _ (H : History) (s : Slice) (there : IsRowsOf H s) (lot : Bytes) where
  -- The slice has exactly the lots that were made.
  is_known : is_some (lot_made H (lot_id s.owner lot)) ≡ is_some (lot_at s lot)
  is_known = sym (ap (λ (t : OwnerFacts). is_some (t.lot lot)) there ∙ some_mapped _ (lot_made H (lot_id s.owner lot)))

  abbrev totals : Totals
  totals = record { on_hand = on_hand H (lot_id s.owner lot); shipped = shipped H (lot_id s.owner lot) }

  pub none_given : lot_at s lot ≡ None → None ≡ totals_given H (lot_id s.owner lot)
  none_given none = sym (ap (λ b. where_so b totals) (is_known ∙ ap is_some none))

  pub totals_are_given : (row : LotRow) → lot_at s lot ≡ Some row → Some totals ≡ totals_given H (lot_id s.owner lot)
  totals_are_given row found = sym (ap (λ b. where_so b totals) (is_known ∙ ap is_some found))
