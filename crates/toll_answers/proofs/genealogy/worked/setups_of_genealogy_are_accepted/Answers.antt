use Rattle.toll_answers.proofs.WorkedEdges.{circle_accepted, house_material_accepted}
use Rattle.toll_answers.proofs.genealogy.worked.setups_of_genealogy_are_accepted.Goals as goal

pub returns-clause-circle : goal.returns-clause-circle
returns-clause-circle c = circle_accepted

pub returns-clause-house_material : goal.returns-clause-house_material
returns-clause-house_material c = house_material_accepted
