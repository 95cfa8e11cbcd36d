use Rattle.toll_desk.proofs.StandingEdges.{edges_are_plants}
use Rattle.toll_desk.proofs.representing.all_edges_are_the_plants.Goals as goal

pub returns : goal.returns
returns c = λ H content edges lawful stands are. edges_are_plants H content lawful stands edges are
