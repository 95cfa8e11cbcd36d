-- What was recorded of several slices.
use Rattle.toll_trace.specs.Common.{Edge}
use Rattle.toll_trace.specs.declared.recorded.Recorded.{Recorded}
use Rattle.toll_trace.specs.declared.way.Way.TheVariants.{Forward}
use Rattle.toll_trace.specs.Places.{PassesThrough}

-- The records draw the edge: one batch consumes the lot that it leads from, and produces the lot that it leads to in the same segment or a
-- higher one.
abbrev pub Draws : Recorded → Edge → Type 0
Draws recorded e = PassesThrough Forward recorded.consumptions.items recorded.productions.items e.from e.to
