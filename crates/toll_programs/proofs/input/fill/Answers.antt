use Rattle.std.proofs.Common.{arith, rules}
use Rattle.toll_protocol.proofs.Onward.{read_onward}
use Rattle.toll_protocol.proofs.StreamLemmas.{none_more_failed}
use Rattle.toll_programs.proofs.input.fill.Goals as goal

pub loop-filled-preserved : goal.loop-filled-preserved
loop-filled-preserved g c = record {
  within = search rules;
  given = read_onward _ _ _ c.loop-filled.buffer c.read_behind.new.buffer 0 c.loop-filled.filled c.in-Ok.n (omega arith) c.loop-filled.invariant.within c.read_behind.ensures.front c.loop-filled.invariant.given c.in-Ok.ensures.given;
  sound = none_more_failed _ _ _ c.loop-filled.invariant.sound c.in-Ok.ensures.failures;
}
