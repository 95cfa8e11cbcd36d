use Rattle.std.proofs.Common.{ap, ◌∙◌}
use Rattle.toll_sql.proofs.Common.{Slice, on_ok_weaker}
use Rattle.toll_base.proofs.SliceFits.{owner-with_row}
use Rattle.toll_sql.proofs.reading.put_read.Goals as goal

pub returns-clause-named : goal.returns-clause-named
returns-clause-named c = on_ok_weaker c.put.result (λ made. ap (λ (s : Slice). s.owner) made ∙ owner-with_row c.args.slice.now c.args.row) c.put.ensures.ok
