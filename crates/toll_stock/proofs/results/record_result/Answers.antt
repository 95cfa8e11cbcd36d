use Rattle.toll_stock.proofs.Common.{puts_rows, facts_of, owed, result_rows}
use Rattle.toll_stock.proofs.ResultLaw.{result_decided, result_keeps}
use Rattle.toll_stock.proofs.results.record_result.Goals as goal

pub returns : goal.returns
returns c =
    let o = owed c.plan_result.ensures.plan (λ d. result_decided _ _ _ _ _ d) (λ d decided. result_keeps _ _ _ _ _ d decided c.plan_result.ensures.kept) (puts_rows c.args.slice.now.owner (result_rows c.args.lot c.args.test c.args.value c.args.day (facts_of c.args.slice.now))) in
    record { decides = o.decides; rules = o.rules; own = o.own }
