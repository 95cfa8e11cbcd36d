use Rattle.toll_keep.specs.Reads.{HaveRead}
use Rattle.toll_service.proofs.reading_ahead.read_each.Given as goal

-- The calls so far were answered.
abbrev pub invariant-loop-row : goal.invariant-loop-row
invariant-loop-row g l = (first : g.row.K.Denot) → HaveRead g.K.Keep.meaning first l.initial.keep → HaveRead g.K.Keep.meaning first l.keep
