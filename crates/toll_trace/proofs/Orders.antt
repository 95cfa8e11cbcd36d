-- The orders of lots, edges and steps are total, and only equal values compare equal.
use Rattle.std.proofs.Common.{ℕ, List, ap}
use Rattle.toll_trace.proofs.Common.{IsTotalOrder, nat_cmp_total, nat_list_cmp_total, then_total, on_total, CmpEqualImpliesEq, exact_bytes, exact_pairs, bytes_cmp, LotId, lot_cmp, edge_cmp, Step}
use Rattle.toll_trace.specs.Order.{step_cmp}

pub lots_total : IsTotalOrder lot_cmp
lots_total = then_total (on_total (λ (l : LotId). l.owner) nat_list_cmp_total) (on_total (λ (l : LotId). l.lot) nat_list_cmp_total)

pub lots_exact : CmpEqualImpliesEq lot_cmp
lots_exact a b h = ap (λ (p : List ℕ × List ℕ). record { owner = p.0; lot = p.1 }) (exact_pairs bytes_cmp bytes_cmp exact_bytes exact_bytes (a.owner, a.lot) (b.owner, b.lot) h)

pub edges_exact : CmpEqualImpliesEq edge_cmp
edges_exact e f h = ap (λ (p : LotId × LotId). record { from = p.0; to = p.1 }) (exact_pairs lot_cmp lot_cmp lots_exact lots_exact (e.from, e.to) (f.from, f.to) h)

pub steps_total : IsTotalOrder step_cmp
steps_total = then_total (on_total (λ (s : Step). s.steps) nat_cmp_total) (on_total (λ (s : Step). s.lot) lots_total)
