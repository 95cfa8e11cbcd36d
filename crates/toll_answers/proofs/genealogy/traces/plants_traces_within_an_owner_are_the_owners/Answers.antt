use Rattle.toll_answers.proofs.Recalls.{plants_steps_are_own, own_steps_are_plants}
use Rattle.toll_answers.proofs.genealogy.traces.plants_traces_within_an_owner_are_the_owners.Goals as goal

pub returns : goal.returns
returns c = λ H o way a lawful mine plants own tp to s at.
    (plants_steps_are_own H lawful o way a mine plants own tp to s at, own_steps_are_plants H lawful o way a mine plants own tp to s at)
