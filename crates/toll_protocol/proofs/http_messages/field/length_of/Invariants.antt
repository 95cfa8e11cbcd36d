use Rattle.std.proofs.Common.{◌≡◌, ◌+◌, ℕ, drop, min, Some, None, if◌then◌else◌}
use Rattle.toll_protocol.proofs.Common.{length_of}
use Rattle.std.specs.Str.{all_ascii_digits}
use Rattle.std.specs.Str.Parse.{digits_value_after}
use Rattle.toll_protocol.specs.Limits.{body_limit}
use Rattle.toll_protocol.proofs.http_messages.field.length_of.Given as goal

abbrev pub invariant-loop-digit : goal.invariant-loop-digit
invariant-loop-digit l =
    (v : ℕ) × (l.len ≡ min v (body_limit + 1))
    × (length_of l.digits ≡ (if all_ascii_digits (drop l.digit-index l.digits) then Some (digits_value_after 10 v (drop l.digit-index l.digits)) else None))
