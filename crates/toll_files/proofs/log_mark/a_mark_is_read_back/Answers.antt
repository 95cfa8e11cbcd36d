use Rattle.toll_files.proofs.MarkLemmas.{same_mark}
use Rattle.toll_files.proofs.log_mark.a_mark_is_read_back.Goals as goal

pub returns : goal.returns
returns c a b fit fit_too same = same_mark a b fit fit_too same
