-- The lines so far.
use Rattle.std.proofs.Common.{◌≡◌, take}
use Rattle.toll_answers.proofs.Common.{trace_text}
use Rattle.toll_answers.proofs.print.traces.trace_text.Given as goal

abbrev pub invariant-loop-step : goal.invariant-loop-step
invariant-loop-step l = l.text.items ≡ trace_text (take l.step-index l.steps)
