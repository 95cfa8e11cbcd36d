use Rattle.toll_answers.proofs.KnownLots.{lots_owned, lots_known}
use Rattle.toll_answers.proofs.genealogy.traces.lots_of_edges_are_known.Goals as goal

pub returns-clause-owners : goal.returns-clause-owners
returns-clause-owners c = λ H o e lawful is. lots_owned H lawful o e is

pub returns-clause-known : goal.returns-clause-known
returns-clause-known c = λ H o e lawful is. lots_known H lawful o e is
