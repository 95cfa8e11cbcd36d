-- Facts of conjunctions.
use Rattle.std.proofs.Common.{◌≡◌, Bool, true, false, ◌&&◌, refl}
use mathlib.Core.Bool.{false≢true}

-- both hold where their conjunction does
pub both : (a b : Bool) → (a && b) ≡ true → (a ≡ true) × (b ≡ true)
both true b h = (refl, h)
both false b h = absurd (false≢true h)

pub and_is : (a b : Bool) → a ≡ true → b ≡ true → (a && b) ≡ true
and_is true b ha hb = hb
and_is false b ha hb = ha

pub all_three : (a b c : Bool) → (a && b && c) ≡ true → (a ≡ true) × (b ≡ true) × (c ≡ true)
all_three true true c h = (refl, refl, h)
all_three true false c h = absurd (false≢true h)
all_three false b c h = absurd (false≢true h)
