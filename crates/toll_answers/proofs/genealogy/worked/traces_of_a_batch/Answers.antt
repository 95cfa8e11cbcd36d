use Rattle.std.proofs.Common.{[], ◌∷◌, refl, codes}
use Rattle.toll_answers.proofs.Common.{IsStrictlySortedBy, acts, acme, one_product, Back, Forward, of_acme, of_house}
use Rattle.toll_answers.proofs.DrawnHere.{trace_of_a_level}
use Rattle.toll_answers.proofs.WorkedEdges.{from_a, house_edge, to_listed, from_listed}
use Rattle.toll_answers.proofs.genealogy.worked.traces_of_a_batch.Goals as goal

pub returns-clause-back : goal.returns-clause-back
unfolding IsStrictlySortedBy
returns-clause-back c = trace_of_a_level (acts acme one_product) (from_a ∷ house_edge ∷ []) to_listed from_listed Back (of_acme (codes "P1")) (of_acme (codes "A") ∷ of_house (codes "H-1") ∷ []) refl ((refl, tt), (tt, tt)) refl

pub returns-clause-forward : goal.returns-clause-forward
unfolding IsStrictlySortedBy
returns-clause-forward c = trace_of_a_level (acts acme one_product) (from_a ∷ house_edge ∷ []) to_listed from_listed Forward (of_house (codes "H-1")) (of_acme (codes "P1") ∷ []) refl (tt, tt) refl
