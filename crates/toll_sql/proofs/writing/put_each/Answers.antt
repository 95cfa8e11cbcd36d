use Rattle.std.proofs.Common.{arith, subst}
use Rattle.std.proofs.lemmas.Grind.{common_steps}
use Rattle.toll_sql.proofs.Common.{keeps_then, state, HasCleanDisk}
use Rattle.toll_keep.proofs.Changed.{next_left}
use Rattle.toll_sql.proofs.Going.{GoesOn, one_put_more}
use Rattle.toll_sql.proofs.writing.put_each.Goals as goal

pub loop-change-preserved : goal.loop-change-preserved
loop-change-preserved g c =
    let first = state g.S.Store c.args.tx.now.conn.now in
    let now = state g.S.Store c.loop-change.tx.conn.now in
    let next = state g.S.Store c.put_change.new.tx.conn.now in
    record {
      same_reference = grind (arith, common_steps);
      puts = λ clean ready.
          let before : HasCleanDisk now = omega (arith, clean, c.in_ok-put_change.ensures.writes.survives.clean) in
          let so = subst (λ rest. GoesOn c.args.changes.now rest first now) (next_left c.args.changes.now c.loop-change.change-index c.change-item.result c.loop-change-test.true c.change-item.is) (c.loop-change.invariant.puts before ready) in
          one_put_more c.args.changes.now _ c.change-item.result first now next so (c.in_ok-put_change.ensures.writes.makes clean so.ready so.ready.inside);
      inside = λ clean was.
          let before : HasCleanDisk now = omega (arith, clean, c.in_ok-put_change.ensures.writes.survives.clean) in
          c.in_ok-put_change.ensures.writes.inside clean (c.loop-change.invariant.inside before was);
      kept = λ clean.
          let before : HasCleanDisk now = omega (arith, clean, c.in_ok-put_change.ensures.writes.survives.clean) in
          keeps_then first now next (c.loop-change.invariant.kept before) (c.in_ok-put_change.ensures.writes.kept clean);
      survives = grind (arith, common_steps);
    }
