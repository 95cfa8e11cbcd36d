use Rattle.toll_wire.proofs.Private.{run_private}
use Rattle.toll_wire.proofs.laws.runs_are_private.Goals as goal

pub returns : goal.returns
returns c = λ start events answers end run lawful. run_private start end events answers run lawful
