use Rattle.std.proofs.Common.{◌≡◌, Some}
use Rattle.toll_history.proofs.Common.{acts, movements, movement_of}
use Rattle.std.proofs.lemmas.List.Elements.{All-from_recursion}
use Rattle.toll_history.proofs.KeysOnce.{every_key_found, found_once}
use Rattle.toll_history.proofs.laws.keys_are_unique.Goals as goal

pub returns-clause-found : goal.returns-clause-found
returns-clause-found c = λ H lawful. All-from_recursion (λ m. movement_of (acts m.0 H) m.1.key ≡ Some m.1) (movements H) (every_key_found H lawful)

pub returns-clause-once : goal.returns-clause-once
returns-clause-once c = λ H o key lawful. found_once o key H lawful
