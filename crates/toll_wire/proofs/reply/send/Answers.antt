use Rattle.std.proofs.Common.{◌∙◌, ap}
use Rattle.toll_protocol.specs.HttpMessages.{reply_text}
use Rattle.toll_wire.proofs.reply.send.Goals as goal

pub returns-in-Ok-message : goal.returns-in-Ok-message
returns-in-Ok-message c bytes is =
    let same = rw c.in-Ok.is at is in
    ap (λ v. v.items) c.into_bytes.ensures.value ∙ (c.in-Ok-message.ensures ∙ ap (reply_text c.args.status c.args.allowed) (c.as_str.ensures.value ∙ same))
