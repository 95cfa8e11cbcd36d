use Rattle.std.specs.Prelude.{IfSome}
use Rattle.sqlite_wal.specs.PageSize.{bytes_of}
use Rattle.toll_files.specs.LogEnds.{AreFrames, IsCommitOf, IsLastCommit}
use Rattle.toll_files.proofs.log_end.last_commit.Given as goal

abbrev pub invariant-loop-i : goal.invariant-loop-i
invariant-loop-i g l = IfSome (g.F.ReadAt.content l.log) (λ bytes.
    IfSome l.fn.known (IsCommitOf (bytes_of l.page_size) l.salts bytes)
    → AreFrames (bytes_of l.page_size) l.salts bytes l.i × IsLastCommit (bytes_of l.page_size) l.salts bytes l.i l.end)
