use Rattle.std.proofs.Common.{subst}
use Rattle.toll_trace.proofs.Recording.{nothing_drawn, AreDrawn}
use Rattle.toll_trace.proofs.recorded.Recorded.new.Goals as goal

pub returns : goal.returns
returns c = λ e drawn. nothing_drawn c.new-2.result.items e (subst (λ consumptions. AreDrawn consumptions c.new-2.result.items e) c.new.ensures.items drawn)
