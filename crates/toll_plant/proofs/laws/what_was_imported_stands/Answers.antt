use Rattle.toll_plant.specs.Imports.{commands_in}
use Rattle.toll_plant.proofs.ActualLemmas.{all_deeds}
use Rattle.toll_plant.proofs.StandingLemmas.{all_stand}
use Rattle.toll_plant.proofs.laws.what_was_imported_stands.Goals as goal

pub returns : goal.returns
returns c old new records lawful outcomes run kept = all_stand old new lawful (commands_in records) (all_deeds records) outcomes kept run
