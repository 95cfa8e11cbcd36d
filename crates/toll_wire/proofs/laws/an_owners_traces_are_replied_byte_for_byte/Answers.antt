use Rattle.toll_wire.proofs.PrintedLemmas.{own_trace_told}
use Rattle.toll_wire.proofs.laws.an_owners_traces_are_replied_byte_for_byte.Goals as goal

pub returns : goal.returns
returns c = λ H o key lot way has known reply reported. own_trace_told H o key lot has known way reply reported
