use Rattle.toll_history.proofs.CameIn.{came_in}
use Rattle.toll_history.proofs.laws.material_comes_into_quarantined_lots.Goals as goal

pub returns : goal.returns
returns c = came_in
