use Rattle.std.proofs.lemmas.Result.{IfOk-weaker}
use Rattle.toll_answers.proofs.LotLaw.{view_given}
use Rattle.toll_answers.proofs.views.lot.lot_view.Goals as goal

pub returns-clause-over : goal.returns-clause-over
returns-clause-over c =
    let view = c.view_in_slice.ensures in
    λ H lawful there. IfOk-weaker _ _ _ (view_given H c.args.slice.now there view.results view.sublots c.args.lot.now) view.view
