use Rattle.toll_base.specs.Values.{house_name}
use Rattle.toll_history.proofs.OwnFacts.{tables-part, tables_but_amounts-part}
use Rattle.toll_history.proofs.isolation.tables_come_from_the_owners_part.Goals as goal

pub returns-clause-owners : goal.returns-clause-owners
returns-clause-owners c = λ H o lawful not_house. tables-part o H lawful not_house

pub returns-clause-house : goal.returns-clause-house
returns-clause-house c = λ H lawful. tables_but_amounts-part house_name H lawful
