use Rattle.std.proofs.Common.{◌≡◌, [], drop, map, Some, sym, subst}
use Rattle.toll_wire.proofs.Common.{on_ok_weaker, drop_all, Logs, seq_begins, SendsItems, items_of}
use Rattle.toll_wire.proofs.Sending.{items_length}
use Rattle.toll_wire.proofs.bodies.rows.RefSliceJsonValue.send.Goals as goal

pub returns : goal.returns
returns g c =
    let rows = c.args.self.now.now in
    let as_data = g.R.JsonValue.as_data in
    let first = g.S.Serializer.written c.begin_seq.new.self in
    let end = g.S.Serializer.written c.end_seq.new.self in
    let begun = subst (λ n. Logs (g.S.Serializer.written c.args.out.now) first (seq_begins (Some n))) (sym (items_length as_data rows)) c.in_ok-begin_seq.ensures in
    let none : drop c.loop-row.row-index rows ≡ [] = drop_all c.loop-row.row-index rows c.loop-row-test.false in
    on_ok_weaker c.end_seq.result (λ ended. (
      first,
      begun,
      c.loop-row.invariant end (subst (λ left. SendsItems (items_of (map as_data left)) (g.S.Serializer.written c.loop-row.out) end) (sym none) ended),
    )) c.end_seq.ensures
