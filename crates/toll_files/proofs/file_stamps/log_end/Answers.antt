use Rattle.toll_files.proofs.FileLemmas.{of_files}
use Rattle.toll_files.specs.LogEnds.{IsEarlierEnd, IsEndOf}
use Rattle.toll_files.proofs.file_stamps.log_end.Goals as goal

pub returns-in_ok-of-in-Some : goal.returns-in_ok-of-in-Some
returns-in_ok-of-in-Some g c =
    of_files _ (λ bytes end. IsEarlierEnd bytes c.args.before.now → IsEndOf bytes end) _ _ _ _ _ c.in-Some.is c.in_ok-of-in-Some.ensures.log c.in_ok-log.ensures.known c.end_of.ensures
