-- Sums over lists.
use Rattle.std.proofs.Common.{◌≡◌, ℕ, zero, suc, ◌+◌, ◌<◌, ◌≤◌, Bool, List, [], ◌∷◌, length, filter, get_or, take, arith}
use Rattle.std.proofs.lemmas.List.Sums.{length-filter, count_by-le-length}
use Rattle.toll_base.specs.Words.{total}

-- the sum over one more element
pub total-more : {X : Type 0} (f : X → ℕ) (xs : List X) (i : ℕ) (d : X) → i < length xs → total f (take (i + 1) xs) ≡ total f (take i xs) + f (get_or xs i d)
total-more f [] i d lt = absurd (omega arith)
total-more f (x ∷ xs) zero d lt = omega arith
total-more f (x ∷ xs) (suc i) d lt =
    let next : suc i + 1 ≡ suc (i + 1) = omega arith in
    rw next (omega (arith, total-more f xs i d (omega arith)))

pub length-filter_le : {X : Type 0} (p : X → Bool) (xs : List X) (most : ℕ) → length xs ≤ most → length (filter p xs) ≤ most
length-filter_le p xs most le = omega (arith, length-filter p xs, count_by-le-length p xs)
