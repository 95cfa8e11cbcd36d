-- What an edit behind the front of a list does to the items behind it.
use Rattle.std.proofs.Common.{◌≡◌, ℕ, zero, suc, ◌+◌, ◌≤◌, List, [], ◌∷◌, ◌++◌, length, set, take, drop, refl, sym, ap, ◌∙◌, subst, arith}
use Rattle.std.specs.List.{insert}
use lib.Seq.{paste}

from_zero : (n : ℕ) → zero + n ≡ n
from_zero n = omega arith

from_suc : (m n : ℕ) → suc m + n ≡ suc (m + n)
from_suc m n = omega arith

module _ {T : Type 0} where
  -- an edit that goes down a list item by item leaves what stands in front of its place
  pub drop_edit : (edit : ℕ → List T → List T) → ((i : ℕ) (y : T) (ys : List T) → edit (suc i) (y ∷ ys) ≡ y ∷ edit i ys) → (front at : ℕ) (xs : List T) → front ≤ length xs → drop front (edit (front + at) xs) ≡ edit at (drop front xs)
  drop_edit edit down zero at xs le = ap (λ i. edit i xs) (from_zero at)
  drop_edit edit down (suc front) at [] le = absurd (omega arith)
  drop_edit edit down (suc front) at (y ∷ ys) le =
      ap (λ i. drop (suc front) (edit i (y ∷ ys))) (from_suc front at)
      ∙ ap (drop (suc front)) (down (front + at) y ys)
      ∙ drop_edit edit down front at ys (omega arith)

  -- items that moved one place down leave their last place to the new one
  moved_down : (x : T) (xs : List T) (at : ℕ) (new : T) → at ≤ length xs → set (take at xs ++ drop at (x ∷ xs)) at new ≡ insert xs at new
  moved_down x xs zero new le = refl
  moved_down x [] (suc at) new le = absurd (omega arith)
  moved_down x (y ∷ ys) (suc at) new le = ap (λ rest. y ∷ rest) (moved_down y ys at new (omega arith))

  pub inserted_in_front : (front at : ℕ) (xs : List T) (new : T) → suc front + at ≤ length xs → drop front (set (paste xs front (drop (suc front) xs) at) (front + at) new) ≡ insert (drop (suc front) xs) at new
  inserted_in_front front at [] new le = absurd (omega arith)
  inserted_in_front zero at (x ∷ xs) new le = rw (from_zero at) (moved_down x xs at new (omega arith))
  inserted_in_front (suc front) at (x ∷ xs) new le = rw (from_suc front at) (inserted_in_front front at xs new (omega arith))

  -- the same as the numbers are said where the items move
  pub inserted_before : (front before at moved : ℕ) (xs : List T) (new : T) → suc before ≡ front → moved ≡ at → front + at ≤ length xs → drop before (set (paste xs before (drop front xs) moved) (before + at) new) ≡ insert (drop front xs) at new
  inserted_before front before at moved xs new up same le =
      subst (λ f. drop before (set (paste xs before (drop f xs) moved) (before + at) new) ≡ insert (drop f xs) at new) up
      (subst (λ m. drop before (set (paste xs before (drop (suc before) xs) m) (before + at) new) ≡ insert (drop (suc before) xs) at new) (sym same)
      (inserted_in_front before at xs new (subst (λ f. f + at ≤ length xs) (sym up) le)))
