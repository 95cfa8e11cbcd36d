-- No shorter prefix ends the head.
use Rattle.toll_protocol.specs.Head.{IsSearched}
use Rattle.toll_protocol.proofs.http_messages.head.head_len.Given as goal

abbrev pub invariant-loop-n : goal.invariant-loop-n
invariant-loop-n l = IsSearched l.text l.n
