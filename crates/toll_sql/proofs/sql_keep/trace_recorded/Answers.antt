use Rattle.toll_trace.specs.Recorded.{Draws}
use Rattle.toll_keep.proofs.Learning.{gives_drawn_trace}
use Rattle.toll_sql.proofs.sql_keep.trace_recorded.Goals as goal

pub returns : goal.returns
returns c = λ content owners same. gives_drawn_trace content owners (Draws c.args.recorded) _ c.in_ok-of_recorded.ensures same c.args.way c.args.from.now c.trace.result c.trace.ensures.led
