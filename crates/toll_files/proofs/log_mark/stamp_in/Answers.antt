use Rattle.std.specs.Int.{w64, to_be_bytes}
use Rattle.toll_files.specs.MarkBytes.{time_bytes}
use Rattle.toll_files.proofs.MarkLemmas.{two_parts}
use Rattle.toll_files.proofs.log_mark.stamp_in.Goals as goal

pub returns : goal.returns
returns c =
    let b = c.args.bytes.now in
    two_parts b (to_be_bytes w64 c.u64_at.result) _ 8 8 40 c.u64_at.ensures
    (two_parts b (to_be_bytes w64 c.u64_at-2.result) _ 16 8 32 c.u64_at-2.ensures
    (two_parts b (time_bytes c.time_at.result) (time_bytes c.time_at-2.result) 24 16 16 c.time_at.ensures c.time_at-2.ensures))
