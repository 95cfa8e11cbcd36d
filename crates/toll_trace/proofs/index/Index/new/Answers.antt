use Rattle.std.proofs.Common.{rules}
use Rattle.std.proofs.lemmas.List.Sorted.{answers_always}
use Rattle.toll_trace.proofs.index.Index.new.Goals as goal

pub invariant_of-result : goal.invariant_of-result
invariant_of-result g c = c.sort_unstable_by_key.ensures.sorted (λ pair. pair.0) (answers_always _ _ _ (λ f a r h called. search rules))
