use Rattle.toll_programs.proofs.ending.report_end.Goals as goal

pub returns-in-Memory : goal.returns-in-Memory
returns-in-Memory g c = rw c.in-Memory.is c.warn-in-Memory.ensures

pub returns-in-ReadFault : goal.returns-in-ReadFault
returns-in-ReadFault g c = rw c.in-ReadFault.is c.warn-in-ReadFault.ensures

pub returns-in-WriteFault : goal.returns-in-WriteFault
returns-in-WriteFault g c = rw c.in-WriteFault.is c.warn-in-WriteFault.ensures
