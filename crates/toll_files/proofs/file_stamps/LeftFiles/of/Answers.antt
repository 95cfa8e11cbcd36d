use Rattle.toll_files.proofs.FileLemmas.{noted_anew}
use Rattle.toll_files.proofs.file_stamps.LeftFiles.of.Goals as goal

pub returns-in_ok-log_end-in-Some-2-clause-noted : goal.returns-in_ok-log_end-in-Some-2-clause-noted
returns-in_ok-log_end-in-Some-2-clause-noted g c =
    noted_anew _ _ _ _ _ _ c.in-Some.is c.in-Some-2.is c.if-is_same.false c.is_same.ensures c.in_ok-stamps.ensures.known c.in_ok-log_end-in-Some-2.ensures
