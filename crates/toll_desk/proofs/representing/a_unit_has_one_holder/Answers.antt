use Rattle.toll_desk.proofs.OneHolder.{one_holds}
use Rattle.toll_desk.proofs.representing.a_unit_has_one_holder.Goals as goal

pub returns : goal.returns
returns c = λ H unit a b lawful ha hb. one_holds H lawful unit a b ha hb
