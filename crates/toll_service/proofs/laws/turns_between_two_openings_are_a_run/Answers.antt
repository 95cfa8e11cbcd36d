use Rattle.toll_service.proofs.SessionLemmas.{sitting}
use Rattle.toll_service.proofs.laws.turns_between_two_openings_are_a_run.Goals as goal

pub returns : goal.returns
returns g c = λ session tally log old new turns first reported one.
    sitting g.K.Keep.meaning g.O.KeepOpener.is_opened g.O.KeepOpener.is_found g.O.KeepOpener.has_damaged session tally log g.met.K.Keep.settled old new turns first reported one.0 one.1
