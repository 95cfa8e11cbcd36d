use Rattle.std.proofs.Common.{ℕ, ◌+◌, ◌*◌, ap}
use Rattle.sqlite_wal.specs.Recovery.{frames_len}
use Rattle.toll_files.proofs.log_end.place_of.Goals as goal

pub returns : goal.returns
unfolding frames_len
returns c = ap (λ (n : ℕ). 32 + c.args.i * (24 + n)) c.bytes-frame_bytes.ensures.value
