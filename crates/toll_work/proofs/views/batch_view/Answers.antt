use Rattle.std.proofs.lemmas.Result.{IfOk-weaker}
use Rattle.toll_work.proofs.ViewLaw.{view_over}
use Rattle.toll_work.proofs.views.batch_view.Goals as goal

pub returns-clause-over_histories : goal.returns-clause-over_histories
returns-clause-over_histories c =
    let view = c.view_in_slice.ensures in
    IfOk-weaker _ _ _ (λ reported. view_over c.args.slice.now c.args.order.now c.args.number reported view.moves view.requirements) view.view
