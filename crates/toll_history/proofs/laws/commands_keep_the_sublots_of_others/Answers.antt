use Rattle.toll_history.proofs.OtherSublots.{sublot_row_kept}
use Rattle.toll_history.proofs.laws.commands_keep_the_sublots_of_others.Goals as goal

pub returns : goal.returns
returns c = λ H c o lawful accepted other k stays. sublot_row_kept H c.owner o other c.action lawful accepted k stays
