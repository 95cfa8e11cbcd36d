use Rattle.sqlite.proofs.Callers.{memory_is_clean}
use Rattle.toll_sql.proofs.adopting.new_office.Goals as goal

pub returns-in-Ok-create_tables-clause-made : goal.returns-in-Ok-create_tables-clause-made
returns-in-Ok-create_tables-clause-made c = let made = c.in-Ok-create_tables.ensures.creates.made (memory_is_clean c.create_tables.new.conn) in (made.1, made.2)
