use Rattle.toll_keep.proofs.Calls.{kept_fault, kept_of}
use Rattle.toll_keep.specs.Meaning.{meaning_for}
use Rattle.toll_wire.proofs.Common.{text_of_failure, Fails}
use Rattle.toll_wire.proofs.HeldReplies.{held_nothing}
use Rattle.toll_wire.proofs.holding.refuse.Goals as goal

pub returns-in-Err-clause-alone : goal.returns-in-Err-clause-alone
returns-in-Err-clause-alone g c = λ os.
    held_nothing (meaning_for g.K.Keep.meaning g.K.Keep.part os) c.args.keep.now c.admit.new.keep c.args.owner.now c.args.key.now (Fails (text_of_failure c.args.failure)) _ (c.in-Err.ensures.alone os)

pub returns-in-Err-clause-others : goal.returns-in-Err-clause-others
returns-in-Err-clause-others g c = λ os.
    let m = meaning_for g.K.Keep.meaning g.K.Keep.part os in
    kept_fault m c.args.keep.now c.admit.new.keep c.in-Err.fault (kept_of m (c.in-Err.ensures.alone os))
