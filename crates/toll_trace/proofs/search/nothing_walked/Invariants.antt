use Rattle.std.proofs.Common.{◌≡◌, ℕ, ◌<◌, length, get_or}
use Rattle.toll_trace.proofs.search.nothing_walked.Given as goal

abbrev pub invariant-loop-end : goal.invariant-loop-end
invariant-loop-end l = record { length : length l.lows.items ≡ l.end; lows : (end : ℕ) → end < l.end → get_or l.lows.items end 0 ≡ end }
