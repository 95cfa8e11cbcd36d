-- Lots: which are one, and the orders of lots and edges.
use Rattle.std.specs.Prelude.{Bool, ◌&&◌}
use Rattle.std.specs.Ordering.{ordering_then}
use Rattle.std.specs.declared.cmp.Ordering.{Ordering}
use Rattle.toll_base.specs.Bytes.{Bytes, bytes_cmp, same_bytes}
use Rattle.toll_base.specs.declared.lot.LotId.{LotId}
use Rattle.toll_base.specs.declared.lot.Edge.{Edge}

-- a lot of this owner
abbrev pub lot_id : Bytes → Bytes → LotId
lot_id o l = record { owner = o; lot = l }

abbrev pub same_lot : LotId → LotId → Bool
same_lot a b = same_bytes a.owner b.owner && same_bytes a.lot b.lot

-- lots by their owner, then by their name
abbrev pub lot_cmp : LotId → LotId → Ordering
lot_cmp a b = ordering_then (bytes_cmp a.owner b.owner) (bytes_cmp a.lot b.lot)

-- edges by the lot that they lead from, then by the one that they lead to
abbrev pub edge_cmp : Edge → Edge → Ordering
edge_cmp e f = ordering_then (lot_cmp e.from f.from) (lot_cmp e.to f.to)
