use Rattle.std.proofs.Common.{cond, sym, ap, ◌+◌, ◌∙◌, arith}
use Rattle.toll_work.proofs.Common.{MoveRow, meets_requirement}
use Rattle.toll_work.proofs.Sums.{total-more}
use Rattle.toll_work.proofs.views.amount_for.Goals as goal

pub loop-actual-preserved : goal.loop-actual-preserved
loop-actual-preserved c =
    let amount = λ (move : MoveRow). cond (meets_requirement c.args.row.now move.what) move.amount 0 in
    record {
      is =
          (λ i. c.loop-actual.invariant.is i + (c.amount_of-sum.ensures.amount ∙ ap amount c.actual-item.is) i)
          ∙ sym (total-more amount c.args.actuals.now c.loop-actual.actual-index c.actual-item.result (omega arith));
      most = omega arith;
    }
