use Rattle.toll_protocol.proofs.FrameLemmas.{one_held}
use Rattle.toll_protocol.proofs.frames.laws.a_frame_is_read_back.Goals as goal

pub returns-clause-only : goal.returns-clause-only
returns-clause-only c = λ most text content rest short p other behind q. one_held most text content other rest behind short p q
