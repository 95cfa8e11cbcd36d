use Rattle.std.proofs.Common.{refl}
use Rattle.toll_plant.specs.Usages.{call, indented}
use Rattle.toll_programs.proofs.laws.the_usage_has_every_command.Goals as goal

pub returns : goal.returns
unfolding call indented
returns c = refl
