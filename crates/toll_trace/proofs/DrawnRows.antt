-- The edges that movements of a list draw, as a list.
use Rattle.std.proofs.Common.{ℕ, Some, None, List, refl, ap, ◌∙◌, arith, Contains, if◌then◌else◌}
use Rattle.toll_trace.proofs.Common.{filter_map, flat_map, Bytes, LotId, Edge, Role, Consumed, Produced, MoveRow, LotUse, IsActual, IsDrawn, Batch, use_as, edges_from}
use Rattle.toll_trace.proofs.Members.{Contains-filter_map, Contains-from_filter_map}
use Rattle.toll_trace.proofs.Drawn.{used_is, same_role-refl, edge_drawn, edge_listed}

abbrev used : Role → List MoveRow → List (Batch × LotUse)
used role rows = filter_map (λ (row : MoveRow). use_as role row.what) rows

abbrev pub drawn : List MoveRow → List Edge
drawn rows = flat_map (edges_from (used Produced rows)) (used Consumed rows)

used_listed : (role : Role) (rows : List MoveRow) (row : MoveRow) (order : Bytes) (number segment : ℕ) (lot : LotId) → Contains rows row → IsActual order number segment role lot row → Contains (used role rows) ((order, number), record { segment = segment; lot = lot })
used_listed role rows row order number segment lot i is =
    Contains-filter_map (λ (row : MoveRow). use_as role row.what) rows row _ i
    (ap (use_as role) is.is ∙ ap (λ b. if b then Some ((order, number), record { segment = segment; lot = lot }) else None) (same_role-refl role))

used_recorded : (role : Role) (rows : List MoveRow) (u : Batch × LotUse) → Contains (used role rows) u → (row : MoveRow) × Contains rows row × IsActual u.0.0 u.0.1 u.1.segment role u.1.lot row
used_recorded role rows u i =
    let row = Contains-from_filter_map (λ (row : MoveRow). use_as role row.what) rows u i in
    (row.0, row.1, used_is role row.0 row.0.what u refl row.2)

pub listed_drawn : (rows : List MoveRow) (e : Edge) → Contains (drawn rows) e → IsDrawn (Contains rows) e
listed_drawn rows e i = edge_drawn (Contains rows) (used Consumed rows) (used Produced rows) (used_recorded Consumed rows) (used_recorded Produced rows) e i

pub drawn_listed : (rows : List MoveRow) (e : Edge) → IsDrawn (Contains rows) e → Contains (drawn rows) e
drawn_listed rows e is = edge_listed (Contains rows) (used Consumed rows) (used Produced rows)
    (λ row order number segment lot i is. (segment, used_listed Consumed rows row order number segment lot i is, omega arith))
    (λ row order number segment lot i is. (segment, used_listed Produced rows row order number segment lot i is, omega arith))
    e is
