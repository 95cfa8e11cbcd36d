use Rattle.toll_files.proofs.FileLemmas.{compared}
use Rattle.toll_files.proofs.file_stamps.LeftFiles.compare.Goals as goal

pub returns-in-Ok-clause-compared : goal.returns-in-Ok-clause-compared
returns-in-Ok-clause-compared g c = compared _ _ _ _ _ c.in-Ok.ensures.looked c.change_to.ensures.same c.change_to.ensures.lost
