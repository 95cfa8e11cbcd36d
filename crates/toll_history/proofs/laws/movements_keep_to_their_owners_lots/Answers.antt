use Rattle.std.proofs.lemmas.List.Elements.{All-from_recursion}
use Rattle.toll_history.proofs.Common.{movements, BringsOwn, TakesKnown}
use Rattle.toll_history.proofs.Owned.{all_bring_own, all_take_known}
use Rattle.toll_history.proofs.laws.movements_keep_to_their_owners_lots.Goals as goal

pub returns-clause-brings : goal.returns-clause-brings
returns-clause-brings c = λ H lawful. All-from_recursion (BringsOwn H) (movements H) (all_bring_own H lawful)

pub returns-clause-takes : goal.returns-clause-takes
returns-clause-takes c = λ H lawful. All-from_recursion (TakesKnown H) (movements H) (all_take_known H lawful)
