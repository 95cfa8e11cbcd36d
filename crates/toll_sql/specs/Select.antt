-- A plain query on one table.
use Rattle.std.specs.Prelude.{ℕ, pos, negsuc, false, List, [], map, None, IsPermutation, IsSorted}
use Rattle.toll_sql.specs.Common.{on, Row, Int}
use Rattle.sqlite.specs.Query.{Query, inner, end, key_cmp}
use Rattle.sqlite.specs.Term.{Term, lit}
use Rattle.sqlite_value.specs.declared.keys.Key.{Key}

abbrev pub plain_query : ℕ → List Term → List Term → List (Term × Key) → Query
plain_query t filter project order = record {
  from = inner t end;
  filter = filter;
  group = None;
  project = project;
  distinct = false;
  collations = [];
  order = order;
  limit = lit (Int (negsuc 0));
  offset = lit (Int (pos 0));
}

-- The rows are those shown of the hits, in an order of these keys.
pub record AreShown (show ord : Row → Row) (keys : List Key) (hits rows : List Row) : Type 0 where
  pub same : IsPermutation (map show hits) rows
  pub sorted : IsSorted (on ord (key_cmp 0 keys)) rows
