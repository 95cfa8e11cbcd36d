-- The amounts in the sublots of a slice, over a history whose rows it has.
use Rattle.std.proofs.Common.{◌≡◌, ◌<◌, ◌^◌, Bool, true, false, cond, nat_le, refl, sym, ap, ◌∙◌, arith}
use Rattle.toll_stock.proofs.Common.{sublot_row_of, leb-true, option_map, Bytes, same_bytes, pair_cmp, IsInKeyOrder, KeepsRules, where_so, none_or, History, lot_id, sublot_known, stock, Slice, sublot_at, OwnerFacts, IsRowsOf, SublotRow, pair_cmp_total, on_hand_in, MOST_STOCK, all_weaker}
use Rattle.toll_stock.proofs.ShippedLots.{amount_small}
use Rattle.toll_stock.proofs.Sums.{each_found, total_bounded}

map_where : {X Y : Type 0} (f : X → Y) (b : Bool) (x : X) → option_map f (where_so b x) ≡ where_so b (f x)
map_where f true x = refl
map_where f false x = refl

-- The amount in a sublot is its stock, if the sublot is known.
pub stock_at : (H : History) (s : Slice) → IsRowsOf H s → (lot sublot : Bytes) → option_map (λ (row : SublotRow). row.amount) (sublot_at s (lot, sublot)) ≡ where_so (sublot_known H (lot_id s.owner lot) sublot) (stock H (lot_id s.owner lot) sublot)
stock_at H s there lot sublot =
    ap (λ (t : OwnerFacts). option_map (λ (row : SublotRow). row.amount) (t.sublot (lot, sublot))) there
    ∙ map_where (λ (row : SublotRow). row.amount) (sublot_known H (lot_id s.owner lot) sublot) (sublot_row_of lot sublot (stock H (lot_id s.owner lot) sublot))

-- The amount in the sublots of a lot fits 64 bits.
pub on_hand_small : (s : Slice) → KeepsRules s → IsInKeyOrder pair_cmp (λ row. (row.lot, row.sublot)) s.sublots → (lot : Bytes) → on_hand_in s lot < 2 ^ 64
on_hand_small s keeps ordered lot =
    let sum = total_bounded (λ row. cond (same_bytes row.lot lot) row.amount 0) MOST_STOCK s.sublots
    (all_weaker _ _ (λ row found. amount_small (same_bytes row.lot lot) row.amount MOST_STOCK
    (leb-true row.amount MOST_STOCK (ap (none_or (λ (r : SublotRow). nat_le r.amount MOST_STOCK)) (sym found) ∙ keeps.amounts (row.lot, row.sublot))))
    s.sublots (each_found pair_cmp pair_cmp_total (λ row. (row.lot, row.sublot)) s.sublots ordered)) in
    let rows = keeps.sublots in
    omega arith
