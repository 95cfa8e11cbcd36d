use Rattle.toll_history.proofs.Moving.{unbrought}
use Rattle.toll_history.proofs.Lots.{sublot_lot}
use Rattle.toll_history.proofs.laws.known_sublots_are_of_known_lots.Goals as goal

pub returns-clause-unknown : goal.returns-clause-unknown
returns-clause-unknown c = unbrought

pub returns-clause-known : goal.returns-clause-known
returns-clause-known c = sublot_lot
