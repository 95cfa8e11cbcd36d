-- What is seen of the rows of a slice.
use Rattle.toll_base.specs.Slice.{Slice}
use Rattle.toll_base.specs.declared.row_tables.RowTables.TheInside.{Inside}

abbrev pub slice_view : Inside → Slice
slice_view s = record {
  owner = s.owner;
  materials = s.materials;
  tests = s.tests;
  recipes = s.recipes;
  requirements = s.requirements;
  orders = s.orders;
  batches = s.batches;
  lots = s.lots;
  sublots = s.sublots;
  moves = s.moves;
  results = s.results;
  voids = s.voids;
}
