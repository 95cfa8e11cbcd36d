use Rattle.toll_wire.proofs.laws.replies_are_those_that_the_owners_part_gives_alone.Goals as goal

pub returns : goal.returns
returns g c = λ k course run o not_house own replies is. (run.private o).1 not_house own replies is
