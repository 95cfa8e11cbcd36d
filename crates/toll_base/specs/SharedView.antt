-- What is seen of a slice, whose rows copies may share.
use Rattle.toll_base.specs.Slice.{Slice}
use Rattle.toll_base.specs.declared.slice.Sharing.{Sharing}
use Rattle.toll_base.specs.declared.slice.Sharing.TheVariants.{Own, Shared}

abbrev pub rows_of : Sharing → Slice
rows_of (Own rows) = rows
rows_of (Shared rows) = rows.value
