use Rattle.std.proofs.Common.{◌∙◌, arith}
use Rattle.toll_files.proofs.LogLemmas.{both_known, is_reached, known_if, one_more_passes}
use Rattle.toll_files.proofs.log_end.LogEnd.is_reached.Goals as goal

pub loop-i-preserved : goal.loop-i-preserved
loop-i-preserved g c =
    let len = c.fill_at.auto.buffer ∙ c.loop-i.invariant.0 in
    let passes = c.is_frame.ensures.0 c.if-not-is_frame.false in (
      len,
      both_known _ _ _ _ (λ bytes. one_more_passes _ _ bytes _ _ _ _ _ _ c.place_of.ensures len c.if-not-branch.false passes
          c.sum_at-sum-in-loop-i.ensures) c.loop-i.invariant.1 c.in_ok-fill_at.ensures.filled,
    )

pub returns-clause-reached : goal.returns-clause-reached
returns-clause-reached g c =
    known_if _ _ _ (λ bytes. is_reached c.args.head.now bytes c.args.self.now c.loop-i.sum c.loop-i.i c.eq.result (omega arith) c.eq.ensures) c.loop-i.invariant.1
