use Rattle.std.proofs.Common.{◌≡◌, ℕ, ◌+◌, ◌-◌, length, take, drop, ◌∙◌, ap, arith}
use Rattle.sqlite_wal.specs.Format.{part}
use Rattle.toll_service_tests.proofs.log_ends.KnownFileReadAt.fill_at.Goals as goal

pub returns-clause-filled : goal.returns-clause-filled
unfolding part
returns-clause-filled c =
    let len = c.copy_from_slice.auto.self in
    let count : (c.args.at + length c.args.buffer.now) - c.args.at ≡ length c.copy_from_slice.new.self = omega (arith, len) in
    (omega (arith, len), c.copy_from_slice.ensures.after ∙ ap (λ (n : ℕ). take n (drop c.args.at c.args.self.now.bytes.now)) count)
