use Rattle.toll_plant.proofs.KeyLemmas.{imported_once}
use Rattle.toll_plant.proofs.laws.a_key_is_imported_once.Goals as goal

pub returns : goal.returns
returns c old new imports o key = imported_once o key old new imports
