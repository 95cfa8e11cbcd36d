use Rattle.sqlite.specs.Held.{state}
use Rattle.toll_sql.proofs.LookLemmas.{narrowed_in}
use Rattle.toll_sql.proofs.ghosts.a_keep_over_sqlite_holds_rows_for_some_owners.Goals as goal

pub returns-clause-narrows : goal.returns-clause-narrows
returns-clause-narrows g c = λ os k content held live. narrowed_in os (state g.S.Store k.conn) content (held live)
