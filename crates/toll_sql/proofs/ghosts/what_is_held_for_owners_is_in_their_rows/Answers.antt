use Rattle.toll_sql.specs.Laws.{held_of_own_content, held_of_own_rows, joined, narrowed}
use Rattle.toll_sql.proofs.ghosts.what_is_held_for_owners_is_in_their_rows.Goals as goal

pub returns : goal.returns
returns c = record { rows = held_of_own_rows; content = held_of_own_content; narrowed = narrowed; joined = joined; named = λ db c held. held.each.owned }
