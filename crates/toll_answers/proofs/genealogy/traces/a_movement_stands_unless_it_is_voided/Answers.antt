use Rattle.toll_answers.proofs.Standing.{standing_done, done_standing}
use Rattle.toll_answers.proofs.genealogy.traces.a_movement_stands_unless_it_is_voided.Goals as goal

pub returns : goal.returns
returns c = λ H o row lawful. (λ done. done_standing H o row done, λ there. standing_done H lawful (o, row) there)
