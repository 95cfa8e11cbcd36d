use Rattle.toll_answers.proofs.SliceEdges.{slice_edges_are_own}
use Rattle.toll_answers.proofs.genealogy.traces.edges_of_a_slice_are_the_owners.Goals as goal

pub returns : goal.returns
returns c = λ H s edges lawful rows are. slice_edges_are_own H s rows lawful edges are
