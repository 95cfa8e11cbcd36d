use Rattle.toll_history.proofs.KeysOnce.{void_of_actual}
use Rattle.toll_history.proofs.laws.voided_keys_are_of_actuals.Goals as goal

pub returns : goal.returns
returns c = λ H o key lawful voided. void_of_actual o key H lawful voided
