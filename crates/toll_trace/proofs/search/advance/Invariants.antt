use Rattle.toll_trace.specs.Search.{is_found}
use Rattle.toll_trace.proofs.Parts.{AreLedSoFar}
use Rattle.toll_trace.proofs.search.advance.Given as goal

abbrev pub invariant-loop-part : goal.invariant-loop-part
invariant-loop-part l = AreLedSoFar (is_found l.fn.found.items) (is_found l.found.items) l.front l.fn.parts.items l.part-items l.part-index l.lots.items
