-- What was shipped of each lot, added up shipment by shipment.
use Rattle.std.proofs.Common.{◌≡◌, ℕ, ◌+◌, ◌≤◌, Bool, true, false, cond, Option, Some, refl, arith}
use Rattle.std.specs.Option.{unwrap_or}

-- An amount replaces another one, or leaves it.
pub amount_put : (b : Bool) (old : Option ℕ) (sum amount : ℕ) → (b ≡ true → sum ≡ unwrap_or old 0 + amount) → unwrap_or (cond b (Some sum) old) 0 ≡ unwrap_or old 0 + cond b amount 0
amount_put true old sum amount is = is refl
amount_put false old sum amount is = omega arith

pub amount_small : (b : Bool) (n most : ℕ) → n ≤ most → cond b n 0 ≤ most
amount_small true n most le = le
amount_small false n most le = omega arith
