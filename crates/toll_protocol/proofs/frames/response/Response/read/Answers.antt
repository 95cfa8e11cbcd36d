use Rattle.toll_protocol.specs.PlantMessages.{response_text}
use Rattle.toll_protocol.proofs.frames.response.Response.read.Goals as goal

pub returns-in_default-clause-none : goal.returns-in_default-clause-none
returns-in_default-clause-none c = λ status output error is. c.in_default.ensures.none (response_text status output error) is
