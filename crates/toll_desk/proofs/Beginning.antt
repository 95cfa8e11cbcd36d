-- No rows at all stand for the history in which nothing was done.
use Rattle.std.proofs.Common.{[], refl}
use Rattle.toll_desk.proofs.Common.{Bytes, empty_slice, row_at, acts, stock, sublot_known, lot_made, count_lots, count_sublots, material_used, IsRowsOf, empty_content}
use Rattle.std.specs.List.Sorted.{IsStrictlySortedBy}
use Rattle.toll_desk.specs.Representing.{Represents}

rows_of_nobody : (o : Bytes) → IsRowsOf [] (empty_slice o)
unfolding row_at acts stock sublot_known lot_made count_lots count_sublots material_used
rows_of_nobody o = refl

pub empty_represents : Represents empty_content []
unfolding row_at acts IsStrictlySortedBy
empty_represents = record {
  owners = record { ordered = tt; each = λ o. refl; all = refl };
  units = record { ordered = tt; each = λ o. refl; all = refl };
  own = λ o. refl;
  known = λ o h. rows_of_nobody o;
  unknown = λ o h. refl;
}
