use Rattle.std.proofs.Common.{◌∙◌, [], sym, append-nil}
use Rattle.toll_protocol.specs.Frames.{frame}
use Rattle.toll_protocol.proofs.frames.encoding.content_of.Goals as goal

pub returns-in_default-clause-none : goal.returns-in_default-clause-none
returns-in_default-clause-none c = λ content is. c.in_default.ensures.none content [] (is.0 ∙ sym (append-nil (frame content)), is.1)
