use Rattle.toll_sql.proofs.StoredRows.{materials_stored, tests_stored, recipes_stored, requirements_stored, orders_stored, batches_stored, lots_stored, sublots_stored, moves_stored, results_stored, voids_stored}
use Rattle.toll_sql.proofs.slice_reading.read_kind.Goals as goal

pub returns-in-Materials-clause-reads : goal.returns-in-Materials-clause-reads
returns-in-Materials-clause-reads g c _ = c.read_table.ensures.reads c.in-Materials.is materials_stored

pub returns-in-Tests-clause-reads : goal.returns-in-Tests-clause-reads
returns-in-Tests-clause-reads g c _ = c.read_table-in-Tests.ensures.reads c.in-Tests.is tests_stored

pub returns-in-Recipes-clause-reads : goal.returns-in-Recipes-clause-reads
returns-in-Recipes-clause-reads g c _ = c.read_table-in-Recipes.ensures.reads c.in-Recipes.is recipes_stored

pub returns-in-Requirements-clause-reads : goal.returns-in-Requirements-clause-reads
returns-in-Requirements-clause-reads g c _ = c.read_table-in-Requirements.ensures.reads c.in-Requirements.is requirements_stored

pub returns-in-Orders-clause-reads : goal.returns-in-Orders-clause-reads
returns-in-Orders-clause-reads g c _ = c.read_table-in-Orders.ensures.reads c.in-Orders.is orders_stored

pub returns-in-Batches-clause-reads : goal.returns-in-Batches-clause-reads
returns-in-Batches-clause-reads g c _ = c.read_table-in-Batches.ensures.reads c.in-Batches.is batches_stored

pub returns-in-Lots-clause-reads : goal.returns-in-Lots-clause-reads
returns-in-Lots-clause-reads g c _ = c.read_table-in-Lots.ensures.reads c.in-Lots.is lots_stored

pub returns-in-Sublots-clause-reads : goal.returns-in-Sublots-clause-reads
returns-in-Sublots-clause-reads g c _ = c.read_table-in-Sublots.ensures.reads c.in-Sublots.is sublots_stored

pub returns-in-Moves-clause-reads : goal.returns-in-Moves-clause-reads
returns-in-Moves-clause-reads g c _ = c.read_table-in-Moves.ensures.reads c.in-Moves.is moves_stored

pub returns-in-Results-clause-reads : goal.returns-in-Results-clause-reads
returns-in-Results-clause-reads g c _ = c.read_table-in-Results.ensures.reads c.in-Results.is results_stored

pub returns-in-Voids-clause-reads : goal.returns-in-Voids-clause-reads
returns-in-Voids-clause-reads g c _ = c.read_table-in-Voids.ensures.reads c.in-Voids.is voids_stored
