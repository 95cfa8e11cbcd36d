-- Chains of lots, each joined to the next by an edge.
use Rattle.std.specs.Prelude.{◌≡◌, ℕ, zero, suc, List, Contains}
use Rattle.toll_trace.specs.Common.{LotId, Edge}
use Rattle.toll_trace.specs.declared.way.Way.{Way}
use Rattle.toll_trace.specs.declared.way.Way.TheVariants.{Back, Forward}

-- the edge along which a step in this direction leads from `a` to `b`
abbrev pub edge_of : Way → LotId → LotId → Edge
edge_of Back a b = record { from = b; to = a }
edge_of Forward a b = record { from = a; to = b }

-- the lot that a step in this direction along the edge leaves, and the lot that it reaches
abbrev pub step_ends : Way → Edge → LotId × LotId
step_ends Back e = (e.to, e.from)
step_ends Forward e = (e.from, e.to)

-- One of the edges, reversed for `Back`, leads from `a` to `b`.
abbrev pub IsJoined : List Edge → Way → LotId → LotId → Type 0
IsJoined edges way a b = Contains edges (edge_of way a b)

-- A chain of n edges leads from `a` to `b`. `E x y` says that an edge leads from x to y.
abbrev pub IsChain : (LotId → LotId → Type 0) → LotId → ℕ → LotId → Type 0
IsChain E a zero b = a ≡ b
IsChain E a (suc n) b = (m : LotId) × IsChain E a n m × E m b
