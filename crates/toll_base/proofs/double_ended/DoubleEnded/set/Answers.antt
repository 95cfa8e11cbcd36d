use Rattle.std.proofs.Common.{◌∙◌, refl, ap, set}
use Rattle.toll_base.proofs.Fronts.{drop_edit}
use Rattle.toll_base.proofs.double_ended.DoubleEnded.set.Goals as goal

pub returns : goal.returns
returns g c =
    drop_edit (λ i items. set items i c.args.item) (λ i y ys. refl) c.self.inside.front c.args.at c.self.inside.room.items c.self.invariant
    ∙ ap (λ items. set items c.args.at c.args.item) c.self.view_is
