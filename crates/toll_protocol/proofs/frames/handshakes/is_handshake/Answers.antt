use Rattle.toll_protocol.specs.PlantMessages.{handshake_text}
use Rattle.toll_protocol.proofs.frames.handshakes.is_handshake.Goals as goal

pub returns-in-None : goal.returns-in-None
returns-in-None c = (λ never. absurd (cc never), λ is. absurd (c.in-None.ensures.none (handshake_text c.args.version.now) is))
