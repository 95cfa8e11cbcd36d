-- The two ends of an edge, and the edge between two lots.
use Rattle.std.proofs.Common.{◌≡◌, refl}
use Rattle.toll_trace.proofs.Common.{LotId, Edge, Way, Back, Forward, edge_of, step_ends}

pub ends_of : (way : Way) (a b : LotId) → step_ends way (edge_of way a b) ≡ (a, b)
ends_of Back a b = refl
ends_of Forward a b = refl

pub edge_of_ends : (way : Way) (e : Edge) → edge_of way (step_ends way e).0 (step_ends way e).1 ≡ e
edge_of_ends Back e = refl
edge_of_ends Forward e = refl
