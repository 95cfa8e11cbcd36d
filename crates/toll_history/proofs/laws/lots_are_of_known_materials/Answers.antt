use Rattle.toll_history.proofs.LotMaterials.{source_material, lot_material}
use Rattle.toll_history.proofs.laws.lots_are_of_known_materials.Goals as goal

pub returns-clause-required : goal.returns-clause-required
returns-clause-required c = source_material

pub returns-clause-made : goal.returns-clause-made
returns-clause-made c = λ H id made lawful is. lot_material H lawful id made is
