use Rattle.toll_base.specs.Values.{house_name}
use Rattle.toll_history.proofs.OwnFacts.{tables-other, tables_but_amounts-other}
use Rattle.toll_history.proofs.isolation.commands_keep_the_tables_of_others.Goals as goal

pub returns-clause-owners : goal.returns-clause-owners
returns-clause-owners c = λ H command o lawful other not_house. tables-other o H command lawful other not_house

pub returns-clause-house : goal.returns-clause-house
returns-clause-house c = λ H command lawful other. tables_but_amounts-other house_name H command lawful other
