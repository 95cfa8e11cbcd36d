-- An action that records and voids nothing leaves the movements, the lots and the stock as they are.
use Rattle.std.proofs.Common.{◌≡◌, false, refl, sym}
use Rattle.toll_history.proofs.Common.{false≢true, Bytes, Action, Record, Void, by, History, stock, sublot_known, lot_made, count_lots, count_sublots, material_used, records_or_voids, IsUnmoved}

pub unmoved : (H : History) (o : Bytes) (a : Action) → records_or_voids a ≡ false → IsUnmoved H (by o a)
unfolding stock sublot_known lot_made count_lots count_sublots material_used
unmoved H o (Record row) none = absurd (false≢true (sym none))
unmoved H o (Void key) none = absurd (false≢true (sym none))
unmoved H o a none = record { movements = refl; standing = refl; stock = refl; known = refl; made = refl; lots = refl; sublots = refl; used = refl }
