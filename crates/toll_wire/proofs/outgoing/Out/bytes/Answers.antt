use Rattle.std.proofs.Common.{refl, ◌∙◌}
use Rattle.toll_wire.proofs.Common.{digits, serde_json_on_literals, reply_text}
use Rattle.toll_wire.proofs.outgoing.Out.bytes.Goals as goal

pub returns-in-Unavailable : goal.returns-in-Unavailable
unfolding serde_json_on_literals digits reply_text
returns-in-Unavailable c = c.as_bytes.ensures.value ∙ rw c.in-Unavailable.is refl
