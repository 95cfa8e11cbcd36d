use Rattle.toll_history.proofs.StandsOnce.{total_voided}
use Rattle.toll_history.proofs.laws.a_void_takes_back_its_movement.Goals as goal

pub returns : goal.returns
returns c = total_voided
