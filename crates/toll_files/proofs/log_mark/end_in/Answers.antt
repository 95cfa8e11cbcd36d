use Rattle.std.proofs.Common.{◌≡◌, ◌∙◌, ap}
use Rattle.std.specs.Int.{w32, to_be_bytes}
use Rattle.sqlite_wal.specs.Format.{part}
use Rattle.sqlite_wal.specs.PageSize.{bytes_of}
use Rattle.toll_files.proofs.MarkLemmas.{two_parts}
use Rattle.toll_files.proofs.log_mark.end_in.Goals as goal

pub returns : goal.returns
returns c =
    let b = c.args.bytes.now in
    let size : to_be_bytes w32 (bytes_of c.in_ok-new.field-0) ≡ part b 68 4 = ap (to_be_bytes w32) c.in_ok-new.ensures.value ∙ c.u32_at-2.ensures.bytes in
    two_parts b c.array_at.result _ 56 8 16 c.array_at.ensures
    (two_parts b (to_be_bytes w32 c.u32_at.result) _ 64 4 12 c.u32_at.ensures.bytes
    (two_parts b (to_be_bytes w32 (bytes_of c.in_ok-new.field-0)) _ 68 4 8 size
    (two_parts b (to_be_bytes w32 c.u32_at-3.result) (to_be_bytes w32 c.u32_at-4.result) 72 4 4 c.u32_at-3.ensures.bytes c.u32_at-4.ensures.bytes)))
