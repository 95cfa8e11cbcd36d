use Rattle.std.proofs.Common.{take}
use Rattle.toll_trace.proofs.Common.{AreAhead}
use Rattle.toll_trace.proofs.edge_index.entries_ahead.Given as goal

abbrev pub invariant-loop-place : goal.invariant-loop-place
invariant-loop-place l = AreAhead l.way (take l.place-index l.entering) l.leaving l.sources.items
