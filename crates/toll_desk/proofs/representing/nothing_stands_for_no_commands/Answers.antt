use Rattle.toll_desk.proofs.Beginning.{empty_represents}
use Rattle.toll_desk.proofs.representing.nothing_stands_for_no_commands.Goals as goal

pub returns : goal.returns
returns c = empty_represents
