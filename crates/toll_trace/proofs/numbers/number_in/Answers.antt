use Rattle.toll_trace.proofs.numbers.number_in.Goals as goal

pub returns-in-None : goal.returns-in-None
returns-in-None c = absurd (c.number_of.ensures.none c.in-None.is c.requires.listed)
