use Rattle.std.proofs.Common.{map}
use Rattle.toll_answers.proofs.Recalls.{traces_from_house}
use Rattle.toll_answers.proofs.genealogy.recall.recalls_within_an_owner_are_the_owners.Goals as goal

pub returns : goal.returns
returns c = λ H o lot lawful at_house lines recalled. traces_from_house H lawful o lot at_house (map (λ line. line.step) lines) recalled.traced
