use Rattle.toll_desk.proofs.UnitHolders.{same_holder}
use Rattle.toll_desk.proofs.representing.units_have_the_same_holders.Goals as goal

pub returns : goal.returns
returns c = same_holder
