use Rattle.std.proofs.Common.{subst, sym}
use Rattle.toll_wire.proofs.Common.{AreAlone}
use Rattle.toll_history.specs.History.{part}
use Rattle.toll_wire.proofs.Determined.{one_alone}
use Rattle.toll_wire.proofs.laws.runs_with_the_same_part_give_the_same_replies.Goals as goal

pub returns : goal.returns
returns g c = λ j k one other run run' o not_house starts own replies others is is'.
    one_alone (part o one.start) own replies others ((run.private o).1 not_house own replies is)
    (subst (λ F. AreAlone F own others) (sym starts) ((run'.private o).1 not_house own others is'))
