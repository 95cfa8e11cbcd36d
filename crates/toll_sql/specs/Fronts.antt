-- A slice while its tables are read, one after another.
use Rattle.std.specs.Prelude.{◌≡◌, ℕ, List, [], take}
use Rattle.toll_sql.specs.Common.{Row, Slice}
use Rattle.toll_sql.specs.Bag.{Rises}
use Rattle.toll_sql.specs.Cells.{key_order}
use Rattle.toll_sql.specs.Kinds.{rows_for, AreValidIn}
use Rattle.toll_sql.specs.declared.table_kind.TableKind.{TableKind}
use Rattle.toll_sql.specs.declared.table_kind.TableKind.TheVariants.{Meta, Owners, Units, Materials, Tests, Recipes, Requirements, Orders, Batches, Lots, Sublots, Moves, Results, Voids}

-- the slice after the tables before this one and this many rows of this one were read
abbrev pub front_slice : TableKind → ℕ → Slice → Slice
front_slice Meta n s = s
front_slice Owners n s = s
front_slice Units n s = s
front_slice Materials n s = record s { materials = take n s.materials; tests = []; recipes = []; requirements = []; orders = []; batches = []; lots = []; sublots = []; moves = []; results = []; voids = [] }
front_slice Tests n s = record s { tests = take n s.tests; recipes = []; requirements = []; orders = []; batches = []; lots = []; sublots = []; moves = []; results = []; voids = [] }
front_slice Recipes n s = record s { recipes = take n s.recipes; requirements = []; orders = []; batches = []; lots = []; sublots = []; moves = []; results = []; voids = [] }
front_slice Requirements n s = record s { requirements = take n s.requirements; orders = []; batches = []; lots = []; sublots = []; moves = []; results = []; voids = [] }
front_slice Orders n s = record s { orders = take n s.orders; batches = []; lots = []; sublots = []; moves = []; results = []; voids = [] }
front_slice Batches n s = record s { batches = take n s.batches; lots = []; sublots = []; moves = []; results = []; voids = [] }
front_slice Lots n s = record s { lots = take n s.lots; sublots = []; moves = []; results = []; voids = [] }
front_slice Sublots n s = record s { sublots = take n s.sublots; moves = []; results = []; voids = [] }
front_slice Moves n s = record s { moves = take n s.moves; results = []; voids = [] }
front_slice Results n s = record s { results = take n s.results; voids = [] }
front_slice Voids n s = record s { voids = take n s.voids }

-- These are the rows of the slice that belong in the table, in the order of its key, and their values are valid.
pub record IsStoredAs (k : TableKind) (s : Slice) (rows : List Row) : Type 0 where
  pub are : rows ≡ rows_for k s
  pub rising : Rises (key_order k) (rows_for k s)
  pub valid : AreValidIn k s
