-- Words that several definitions use.
use Rattle.std.specs.Prelude.{ℕ, ◌+◌, Bool, true, false, if◌then◌else◌, Option, Some, None, List, [], ◌∷◌}

-- there is a value, and it passes the test
abbrev pub is_some_where : {X : Type 0} → (X → Bool) → Option X → Bool
is_some_where p None = false
is_some_where p (Some x) = p x

-- there is no value, or it passes the test
abbrev pub none_or : {X : Type 0} → (X → Bool) → Option X → Bool
none_or p None = true
none_or p (Some x) = p x

-- the first of two answers, if there is one, and else the second
abbrev pub or_else : {X : Type 0} → Option X → Option X → Option X
or_else None second = second
or_else (Some x) second = Some x

-- the first answer that f gives along a list
abbrev pub first_some : {X Y : Type 0} → (X → Option Y) → List X → Option Y
first_some f [] = None
first_some f (x ∷ xs) = or_else (f x) (first_some f xs)

-- the value, where the test holds
abbrev pub where_so : {X : Type 0} → Bool → X → Option X
where_so b x = if b then Some x else None

-- the sum of f over a list
abbrev pub total : {X : Type 0} → (X → ℕ) → List X → ℕ
total f [] = 0
total f (x ∷ xs) = f x + total f xs

-- how many of a list pass the test
abbrev pub count : {X : Type 0} → (X → Bool) → List X → ℕ
count p xs = total (λ x. if p x then 1 else 0) xs
