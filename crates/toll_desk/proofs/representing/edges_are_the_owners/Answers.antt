use Rattle.toll_desk.proofs.StandingEdges.{edges_are_own}
use Rattle.toll_desk.proofs.representing.edges_are_the_owners.Goals as goal

pub returns : goal.returns
returns c = λ H content o edges lawful stands are. edges_are_own H content lawful stands o edges are
