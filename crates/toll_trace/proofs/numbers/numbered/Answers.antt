use Rattle.std.proofs.Common.{subst, take}
use Rattle.toll_trace.proofs.Common.{take_all, HaveNumbers}
use Rattle.toll_trace.proofs.Numbering.{lot_numbered_more}
use Rattle.toll_trace.proofs.Walks.{item_of, with_item}
use Rattle.toll_trace.proofs.numbers.numbered.Goals as goal

pub number_in-requires-clause-listed : goal.number_in-requires-clause-listed
number_in-requires-clause-listed c = c.requires.listed c.loop-place-item.result (item_of _ _ _ c.loop-place-test.true c.loop-place-item.is)

pub loop-place-preserved : goal.loop-place-preserved
loop-place-preserved c =
    rw (with_item c.args.uses.now c.loop-place.place-index c.loop-place-item.result c.loop-place-test.true c.loop-place-item.is, c.in_ok-push.ensures.items)
    (lot_numbered_more c.args.lots.now (take c.loop-place.place-index c.args.uses.now) c.loop-place-item.result.0 c.loop-place-item.result.1 c.loop-place.all.items c.loop-place.invariant c.requires.sorted c.number_in.result c.number_in.ensures)

pub returns : goal.returns
returns c = subst (λ uses. HaveNumbers c.args.lots.now uses c.loop-place.all.items) (take_all c.loop-place.place-index c.args.uses.now c.loop-place-test.false) c.loop-place.invariant
