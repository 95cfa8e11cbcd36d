use Rattle.toll_history.proofs.Passed.{move_fits}
use Rattle.toll_history.proofs.CameIn.{gives_cleared}
use Rattle.toll_history.proofs.laws.material_is_given_from_cleared_lots.Goals as goal

pub returns : goal.returns
returns c = λ H o row id lawful accepted gives. gives_cleared H o row.what row.amount lawful (move_fits H o row accepted) id gives
