use Rattle.toll_desk.proofs.Knowing.{represented_knows}
use Rattle.toll_desk.proofs.representing.owners_are_known_alike.Goals as goal

pub returns : goal.returns
returns c = represented_knows
