use Rattle.toll_keep.proofs.Common.{Draws, content_of}
use Rattle.toll_keep.proofs.Learning.{gives_drawn_trace}
use Rattle.toll_keep.proofs.mem_keep.MemKeep.owners_trace.Goals as goal

pub returns : goal.returns
returns c = gives_drawn_trace (content_of c.args.self.now) c.args.owners.now (Draws c.in_ok-recorded_by.field-0) c.in_ok-graph.graph c.in_ok-graph.ensures c.in_ok-recorded_by.ensures c.args.way c.args.from.now c.trace.result c.trace.ensures.led
