use Rattle.std.proofs.Common.{take}
use Rattle.toll_trace.proofs.Numbering.{lot_found_at, not_listed, numbers_more, numbers_but}
use Rattle.toll_trace.proofs.Walks.{with_item}
use Rattle.toll_trace.proofs.numbers.add_numbers.Goals as goal
use Rattle.toll_trace.proofs.numbers.add_numbers.Goals.{in-Ok+in_ok-push-in-Ok, in-Err}

pub loop-lot-preserved-then-is_in_gap : goal.loop-lot-preserved-then-is_in_gap
loop-lot-preserved-then-is_in_gap c =
    let those = take c.loop-lot.lot-index c.args.those.now in
    let grown = with_item c.args.those.now c.loop-lot.lot-index c.lot-item.result c.loop-lot-test.true c.lot-item.is in
    rw grown (numbers_but c.args.lots.now those c.lot-item.result c.loop-lot.numbers.items c.loop-lot.invariant (c.is_in_gap.ensures c.if-is_in_gap.true))

pub loop-lot-preserved : goal.loop-lot-preserved
loop-lot-preserved c =
    let those = take c.loop-lot.lot-index c.args.those.now in
    let lot = c.lot-item.result in
    let grown = with_item c.args.those.now c.loop-lot.lot-index lot c.loop-lot-test.true c.lot-item.is in
    elim c.match-binary_search.branch [
      | in-Ok+in_ok-push-in-Ok w ↦
          let at = lot_found_at c.args.lots.now w.in-Ok.number lot w.in-Ok.ensures.bound w.in-Ok.ensures.ok in
          rw (grown, w.numbers-is, w.in_ok-push-in-Ok.ensures.items)
          (numbers_more c.args.lots.now those lot c.loop-lot.numbers.items c.loop-lot.invariant c.requires.sorted w.in-Ok.number at)
      | in-Err w ↦
          let unlisted = not_listed c.args.lots.now c.requires.sorted w.in-Err.place lot w.in-Err.ensures.position in
          rw (grown, w.numbers-is) (numbers_but c.args.lots.now those lot c.loop-lot.numbers.items c.loop-lot.invariant unlisted)
    ]
