use Rattle.std.proofs.Common.{◌≡◌, ℕ, ◌+◌, ◌-◌, take, drop, ◌∙◌, ap, arith}
use Rattle.sqlite_wal.specs.Format.{part}
use Rattle.toll_files.proofs.log_mark.array_at.Goals as goal

pub returns : goal.returns
unfolding part
returns g c =
    let count : (c.args.at + g.row.N) - c.args.at ≡ g.row.N = omega arith in
    c.copy_from_slice.ensures.after ∙ ap (λ (n : ℕ). take n (drop c.args.at c.args.bytes.now)) count
