use Rattle.std.proofs.Common.{◌∙◌, refl}
use Rattle.std.proofs.lemmas.Result.{IfOk-weaker}
use Rattle.toll_protocol.specs.HttpMessages.{reply_text}
use Rattle.toll_protocol.proofs.http_messages.messages.message.Goals as goal

pub returns : goal.returns
unfolding reply_text
returns c = IfOk-weaker c.format.result _ _ (λ s e. e ∙ rw (c.content_type-kind.ensures, c.allow_line-allow.ensures) refl) c.format.ensures.ok
