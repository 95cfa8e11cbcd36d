use Rattle.toll_keep.proofs.StagedLemmas.{reads_through}
use Rattle.toll_keep.proofs.staged_changes.StagedChanges.slice.Goals as goal

pub returns-clause-reading : goal.returns-clause-reading
returns-clause-reading g c =
    reads_through g.K.Keep.meaning g.met.K.Keep.settled c.args.keep.now c.read_slice.new.keep c.args.self.now c.read_slice.result c.read_slice.ensures.reading c.read_slice.ensures.kept
