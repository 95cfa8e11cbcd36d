use Rattle.std.proofs.Common.{rules, arith}
use Rattle.toll_protocol.proofs.Onward.{wrote_onward}
use Rattle.toll_protocol.proofs.StreamLemmas.{none_failed_by_some, none_more_blocked}
use Rattle.toll_protocol.proofs.streams.response_writer.send_on.Goals as goal

pub loop-written-preserved : goal.loop-written-preserved
loop-written-preserved g c = record {
  within = search rules;
  begun = omega arith;
  out = wrote_onward _ _ _ c.args.bytes.now c.args.begun c.loop-written.written c.in-Ok.n c.loop-written.invariant.begun c.loop-written.invariant.out c.in-Ok.ensures.bytes;
  sound = none_failed_by_some _ _ _ c.in-Ok.n c.if-n-gt0.true c.loop-written.invariant.sound c.in-Ok.ensures.failures;
  unblocked = none_more_blocked _ _ _ c.loop-written.invariant.unblocked c.in-Ok.ensures.blocked;
}
