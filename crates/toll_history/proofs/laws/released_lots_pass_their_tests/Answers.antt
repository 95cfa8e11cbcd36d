use Rattle.toll_history.proofs.OpenTests.{released_tested, released_passes}
use Rattle.toll_history.proofs.laws.released_lots_pass_their_tests.Goals as goal

pub returns-clause-none : goal.returns-clause-none
returns-clause-none c = released_tested

pub returns-clause-each : goal.returns-clause-each
returns-clause-each c = released_passes
