use Rattle.std.proofs.Common.{sym, ap, ◌∙◌}
use Rattle.toll_base.specs.Slice.{Slice, empty_slice}
use Rattle.toll_sql.proofs.slice_reading.read_rows_of.Goals as goal

pub returns-clause-reads : goal.returns-clause-reads
returns-clause-reads g c clean s held = c.in_ok-read_tables.ensures.reads.reads clean s held (c.new-slice.ensures ∙ ap empty_slice (sym held.rows.named))

pub returns-clause-named : goal.returns-clause-named
returns-clause-named g c = c.in_ok-read_tables.ensures.named ∙ ap (λ (s : Slice). s.owner) c.new-slice.ensures
