use Rattle.std.proofs.Common.{ap, rules}
use Rattle.toll_files.proofs.FileLemmas.{added_to, noted_behind}
use Rattle.toll_files.proofs.file_stamps.LeftFiles.after_turn.Goals as goal

pub returns-then-is_continued-clause-noted : goal.returns-then-is_continued-clause-noted
returns-then-is_continued-clause-noted g c =
    added_to _ _ _ _ _ _ _ _ c.if-is_same.false c.is_same.ensures c.in_ok-log.ensures.known (ap g.F.Log.OpenedLog.content c.in_ok-log.ensures.log) (search rules)
    (c.is_continued.ensures.0 c.if-is_continued.true) c.in_ok-log_end.ensures

pub returns-clause-noted : goal.returns-clause-noted
returns-clause-noted g c = noted_behind _ _ _ _ _ _ _ c.if-is_same.false c.is_same.ensures c.in_ok-log.ensures.known c.of-2.ensures.noted
