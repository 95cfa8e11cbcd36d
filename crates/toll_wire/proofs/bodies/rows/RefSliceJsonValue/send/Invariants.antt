-- Whatever ends the rows that are left ends all of them.
use Rattle.std.proofs.Common.{drop, map}
use Rattle.toll_wire.proofs.Common.{Log, SendsItems, items_of}
use Rattle.toll_wire.proofs.bodies.rows.RefSliceJsonValue.send.Given as goal

abbrev pub invariant-loop-row : goal.invariant-loop-row
invariant-loop-row g l =
    (end : Log) → SendsItems (items_of (map g.R.JsonValue.as_data (drop l.row-index l.row-items))) (g.S.Serializer.written l.out) end
    → SendsItems (items_of (map g.R.JsonValue.as_data l.row-items)) (g.S.Serializer.written l.initial.out) end
