use Rattle.std.proofs.Common.{◌≡◌, ◌++◌, take, not, filter}
use Rattle.toll_trace.proofs.Common.{is_marked}
use Rattle.toll_trace.proofs.search.add_new.Given as goal

abbrev pub invariant-loop-number : goal.invariant-loop-number
invariant-loop-number l = l.numbers.items ≡ l.fn.numbers.items ++ filter (λ number. not (is_marked l.marks number)) (take l.number-index l.leaving)
