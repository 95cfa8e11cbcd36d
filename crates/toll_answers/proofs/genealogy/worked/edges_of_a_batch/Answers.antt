use Rattle.std.proofs.Common.{[], ◌∷◌, refl}
use Rattle.toll_answers.proofs.Common.{IsStrictlySortedBy, acts, acme, one_product}
use Rattle.toll_answers.proofs.DrawnHere.{edges_are_drawn}
use Rattle.toll_answers.proofs.WorkedEdges.{from_a, house_edge, to_listed, from_listed}
use Rattle.toll_answers.proofs.genealogy.worked.edges_of_a_batch.Goals as goal

pub returns : goal.returns
unfolding IsStrictlySortedBy
returns c = edges_are_drawn (acts acme one_product) (from_a ∷ house_edge ∷ []) to_listed from_listed ((refl, tt), (tt, tt))
