use Rattle.std.proofs.Common.{◌∙◌, refl, ap}
use Rattle.std.specs.List.{insert}
use Rattle.toll_base.proofs.Fronts.{drop_edit}
use Rattle.toll_base.proofs.double_ended.DoubleEnded.insert.Goals as goal

pub returns-in_ok-insert-clause-ok : goal.returns-in_ok-insert-clause-ok
returns-in_ok-insert-clause-ok g c =
    rw c.in_ok-insert.ensures.items (drop_edit (λ i items. insert items i c.args.item) (λ i y ys. refl) c.self.inside.front c.args.at c.self.inside.room.items c.self.invariant
    ∙ ap (λ items. insert items c.args.at c.args.item) c.self.view_is)
