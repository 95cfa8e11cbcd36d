use Rattle.std.proofs.lemmas.List.Elements.{All-from_recursion}
use Rattle.toll_history.proofs.Common.{movements, Agrees}
use Rattle.toll_history.proofs.OneOrigin.{one_origin}
use Rattle.toll_history.proofs.laws.a_lot_has_one_origin.Goals as goal

pub returns : goal.returns
returns c = λ H lawful. All-from_recursion (Agrees H) (movements H) (one_origin H lawful)
