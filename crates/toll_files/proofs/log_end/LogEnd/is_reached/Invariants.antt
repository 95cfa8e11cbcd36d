use Rattle.std.specs.Prelude.{◌≡◌, ◌<◌, ◌+◌, ℕ, IfSome, length}
use Rattle.sqlite_wal.specs.PageSize.{bytes_of}
use Rattle.sqlite_wal.specs.Recovery.{Passes, header, sum_before}
use Rattle.toll_files.proofs.log_end.LogEnd.is_reached.Given as goal

abbrev pub invariant-loop-i : goal.invariant-loop-i
invariant-loop-i g l = (length l.frame ≡ 24 + bytes_of l.self.page_size) × IfSome (g.F.ReadAt.content l.log) (λ bytes.
    l.head ≡ header bytes → ((k : ℕ) → k < l.i → Passes (bytes_of l.self.page_size) bytes k) × (sum_before (bytes_of l.self.page_size) bytes l.i ≡ l.sum))
