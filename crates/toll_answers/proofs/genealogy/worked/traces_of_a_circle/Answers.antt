use Rattle.std.proofs.Common.{[], ◌∷◌, refl, codes}
use Rattle.toll_answers.proofs.Common.{IsStrictlySortedBy, acts, acme, Back, Forward, of_acme, circle}
use Rattle.toll_answers.proofs.DrawnHere.{trace_by_list}
use Rattle.toll_answers.proofs.WorkedEdges.{of_circle, circle_drawn}
use Rattle.toll_answers.proofs.genealogy.worked.traces_of_a_circle.Goals as goal

pub returns-clause-back : goal.returns-clause-back
unfolding IsStrictlySortedBy
returns-clause-back c = trace_by_list (acts acme circle) of_circle circle_drawn Back (of_acme (codes "P1")) (of_acme (codes "Q1") ∷ []) refl (tt, tt) refl

pub returns-clause-forward : goal.returns-clause-forward
unfolding IsStrictlySortedBy
returns-clause-forward c = trace_by_list (acts acme circle) of_circle circle_drawn Forward (of_acme (codes "P1")) (of_acme (codes "Q1") ∷ []) refl (tt, tt) refl
