use Rattle.std.proofs.Common.{inr, refl}
use Rattle.toll_service.proofs.words.do_words.Goals as goal

pub returns-in-Err-Memory : goal.returns-in-Err-Memory
returns-in-Err-Memory g c = inr (rw c.fault.ensures.printed at c.print.ensures, refl, refl)
