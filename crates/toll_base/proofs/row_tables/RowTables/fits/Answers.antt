use Rattle.toll_base.specs.SliceRules.{row_fits}
use Rattle.toll_base.proofs.RowKinds.{same_by_kind}
use Rattle.toll_base.proofs.row_tables.RowTables.fits.Goals as goal

pub returns-in-Material : goal.returns-in-Material
returns-in-Material c = same_by_kind row_fits c.self.view_is c.in-Material.is c.has_room.ensures

pub returns-in-Test : goal.returns-in-Test
returns-in-Test c = same_by_kind row_fits c.self.view_is c.in-Test.is c.has_room-in-Test.ensures

pub returns-in-Recipe : goal.returns-in-Recipe
returns-in-Recipe c = same_by_kind row_fits c.self.view_is c.in-Recipe.is c.has_room-in-Recipe.ensures

pub returns-in-Requirement : goal.returns-in-Requirement
returns-in-Requirement c = same_by_kind row_fits c.self.view_is c.in-Requirement.is c.has_room-in-Requirement.ensures

pub returns-in-Order : goal.returns-in-Order
returns-in-Order c = same_by_kind row_fits c.self.view_is c.in-Order.is c.has_room-in-Order.ensures

pub returns-in-Result : goal.returns-in-Result
returns-in-Result c = same_by_kind row_fits c.self.view_is c.in-Result.is c.has_room-in-Result.ensures
