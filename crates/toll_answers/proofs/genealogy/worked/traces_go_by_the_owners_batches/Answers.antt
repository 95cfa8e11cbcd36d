use Rattle.std.proofs.Common.{[], ◌∷◌, refl, codes}
use Rattle.toll_answers.proofs.Common.{IsStrictlySortedBy, house_name, acts, acme, Back, Forward, of_acme, of_house, house_material}
use Rattle.toll_answers.proofs.DrawnHere.{trace_by_list}
use Rattle.toll_answers.proofs.WorkedEdges.{into_product, product_drawn, in_house, house_drawn}
use Rattle.toll_answers.proofs.genealogy.worked.traces_go_by_the_owners_batches.Goals as goal

pub returns-clause-owners : goal.returns-clause-owners
unfolding IsStrictlySortedBy
returns-clause-owners c = trace_by_list (acts acme house_material) into_product product_drawn Back (of_acme (codes "P1")) (of_house (codes "H-2") ∷ []) refl (tt, tt) refl

pub returns-clause-house : goal.returns-clause-house
unfolding IsStrictlySortedBy
returns-clause-house c = trace_by_list (acts house_name house_material) in_house house_drawn Forward (of_house (codes "H-1")) (of_house (codes "H-2") ∷ []) refl (tt, tt) refl
