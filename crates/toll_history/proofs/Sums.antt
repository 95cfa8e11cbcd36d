-- Sums over lists, over what a filter keeps of them, and over what it leaves out.
use Rattle.std.proofs.Common.{◌≡◌, ℕ, ◌+◌, ◌≤◌, Bool, true, false, not, cond, List, [], ◌∷◌, filter, refl, ap, ◌∙◌, arith}
use Rattle.toll_base.specs.Words.{total}

-- Sums of equal terms are equal.
pub total-alike : {X : Type 0} (f g : X → ℕ) (xs : List X) → ((x : X) → f x ≡ g x) → total f xs ≡ total g xs
total-alike f g [] same = refl
total-alike f g (x ∷ xs) same = λ i. same x i + total-alike f g xs same i

-- the sum over what a filter keeps
pub total-kept : {X : Type 0} (q : X → Bool) (f : X → ℕ) (xs : List X) → total f (filter q xs) ≡ total (λ x. cond (q x) (f x) 0) xs
total-kept q f [] = refl
total-kept q f (x ∷ xs) =
    elim (q x) as (λ b. total f (cond b (x ∷ filter q xs) (filter q xs)) ≡ cond b (f x) 0 + total (λ y. cond (q y) (f y) 0) xs) [
      | true ↦ ap (λ n. f x + n) (total-kept q f xs)
      | false ↦ omega (arith, total-kept q f xs)
    ]

-- This sum is no more than that over all.
pub total-filter_le : {X : Type 0} (f : X → ℕ) (p : X → Bool) (xs : List X) → total f (filter p xs) ≤ total f xs
total-filter_le f p [] = omega arith
total-filter_le f p (x ∷ xs) =
    elim (p x) as (λ b. total f (cond b (x ∷ filter p xs) (filter p xs)) ≤ f x + total f xs) [
      | true ↦ omega (arith, total-filter_le f p xs)
      | false ↦ omega (arith, total-filter_le f p xs)
    ]

cond_not : (b : Bool) (n : ℕ) → cond (not b) n 0 ≡ cond b 0 n
cond_not true n = refl
cond_not false n = refl

-- the sum over what a filter leaves out
pub total-filtered : {X : Type 0} (q : X → Bool) (f : X → ℕ) (xs : List X) → total f (filter (λ x. not (q x)) xs) ≡ total (λ x. cond (q x) 0 (f x)) xs
total-filtered q f xs = total-kept (λ x. not (q x)) f xs ∙ total-alike _ _ xs (λ x. cond_not (q x) (f x))
