use Rattle.std.proofs.Common.{inr}
use Rattle.toll_server.proofs.ExpiryLemmas.{evicted_so}
use Rattle.toll_server.proofs.expiry.evict_oldest.Goals as goal

pub returns-in-Some-clause-evicts : goal.returns-in-Some-clause-evicts
returns-in-Some-clause-evicts g c = inr (evicted_so _ _ _ c.in-Some.first.deadline c.try_remove.result c.try_remove.ensures.value c.in-Some.ensures.found c.try_remove.ensures.updates c.try_remove.ensures.len)

pub returns-in-Some-clause-some : goal.returns-in-Some-clause-some
returns-in-Some-clause-some g c = λ _. evicted_so _ _ _ c.in-Some.first.deadline c.try_remove.result c.try_remove.ensures.value c.in-Some.ensures.found c.try_remove.ensures.updates c.try_remove.ensures.len
