use Rattle.std.proofs.Common.{◌-◌, arith}
use Rattle.toll_base.proofs.Fronts.{inserted_before}
use Rattle.toll_base.proofs.double_ended.insert_in_front.Goals as goal

pub returns-clause-items : goal.returns-clause-items
returns-clause-items g c =
    rw c.copy_within.ensures.after (inserted_before c.args.front (c.args.front - 1) c.args.at _ c.args.room.now c.args.item (omega (arith, c.requires.room)) (omega arith) c.requires.place)
