use Rattle.std.proofs.Common.{IfOk, subst}
use Rattle.toll_keep.specs.Content.{content_after}
use Rattle.toll_keep.proofs.StagedLemmas.{reads_alone}
use Rattle.toll_desk.specs.Reads.{AreBoth}
use Rattle.toll_desk.proofs.deciding.both_of.Goals as goal

pub returns-clause-reads : goal.returns-clause-reads
returns-clause-reads g c = reads_alone g.K.Keep.meaning c.args.keep.now c.both_over.new.keep c.new.result c.both_over.result c.new.ensures.slices c.both_over.ensures.reading

pub returns-clause-both : goal.returns-clause-both
returns-clause-both g c = λ honest content held.
    subst (λ changes. IfOk c.both_over.result (AreBoth (content_after changes content) c.args.owner.now)) c.new.ensures.changes (c.both_over.ensures.both honest content held (c.new.ensures.over content))
