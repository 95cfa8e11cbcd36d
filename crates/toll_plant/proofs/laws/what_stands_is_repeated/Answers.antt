use Rattle.toll_plant.specs.Imports.{commands_in}
use Rattle.toll_plant.proofs.StandingLemmas.{all_repeated}
use Rattle.toll_plant.proofs.laws.what_stands_is_repeated.Goals as goal

pub returns : goal.returns
returns c old records lawful standing new outcomes = all_repeated old new lawful (commands_in records) outcomes standing
