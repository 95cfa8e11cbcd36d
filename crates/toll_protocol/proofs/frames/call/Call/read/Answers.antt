use Rattle.toll_protocol.specs.PlantMessages.{call_text}
use Rattle.toll_protocol.proofs.MessageLemmas.{call_parts}
use Rattle.toll_protocol.proofs.frames.call.Call.read.Goals as goal

pub returns-in_default-clause-none : goal.returns-in_default-clause-none
returns-in_default-clause-none c = λ words file is. c.in_default.ensures.none (call_text words file) is.1

pub returns-in_default-file_of-clause-none : goal.returns-in_default-file_of-clause-none
returns-in_default-file_of-clause-none c = λ words file is.
    c.in_default-file_of.ensures.none file (call_parts _ _ _ _ words file c.in-Some.ensures.found c.in-Some-front_of.ensures.found is).1
