-- Texts that compare alike are one, and so are keys made of them.
use Rattle.std.proofs.Common.{◌≡◌, ℕ, true, ◌&&◌, ◌==◌, refl, ap, ◌∙◌, arith}
use Rattle.toll_base.proofs.Common.{false≢true, IsTotalOrder, eq_by_cmp_equiv, nat_list_cmp_total, is_eq, ordering_then, nat_cmp, Ordering, Less, Equal, Greater, nat_tests, tied_itself, then_total, on_total, nat_cmp_total, Bytes, same_bytes, bytes_cmp}
use Rattle.std.specs.FinMap.{slice_cmp-IsAntisymmetric, nat_cmp-IsAntisymmetric}
use Rattle.toll_base.specs.Keys.{pair_cmp, batch_cmp, result_cmp, RequirementKey, requirement_cmp}
use Rattle.toll_base.specs.Roles.{role_number, role_cmp}

pub equal_of : (r : Ordering) → is_eq r ≡ true → r ≡ Equal
equal_of Less h = absurd (false≢true h)
equal_of Equal h = refl
equal_of Greater h = absurd (false≢true h)

pub same_bytes-exact : (a b : Bytes) → same_bytes a b ≡ true → a ≡ b
same_bytes-exact a b h = slice_cmp-IsAntisymmetric nat_cmp-IsAntisymmetric a b (equal_of _ h)

pub same_bytes-refl : (a : Bytes) → same_bytes a a ≡ true
same_bytes-refl a = ap is_eq (tied_itself nat_list_cmp_total a)

-- an order by two parts ties where both do
pub is_eq-then : (a b : Ordering) → is_eq (ordering_then a b) ≡ (is_eq a && is_eq b)
is_eq-then Less b = refl
is_eq-then Equal b = refl
is_eq-then Greater b = refl

pub is_eq-nat_cmp : (m n : ℕ) → is_eq (nat_cmp m n) ≡ (m == n)
is_eq-nat_cmp m n = grind (arith, nat_tests)

pub nat_eq-exact : (a b : ℕ) → (a == b) ≡ true → a ≡ b
nat_eq-exact a b h = grind (arith, nat_tests)

-- ---- the orders of keys

pub pair_cmp_total : IsTotalOrder pair_cmp
pair_cmp_total = then_total (on_total (λ (k : Bytes × Bytes). k.0) nat_list_cmp_total) (on_total (λ (k : Bytes × Bytes). k.1) nat_list_cmp_total)

pub batch_cmp_total : IsTotalOrder batch_cmp
batch_cmp_total = then_total (on_total (λ (k : Bytes × ℕ). k.0) nat_list_cmp_total) (on_total (λ (k : Bytes × ℕ). k.1) nat_cmp_total)

pub result_cmp_total : IsTotalOrder result_cmp
result_cmp_total = then_total (then_total (on_total (λ (k : Bytes × Bytes × ℕ). k.0) nat_list_cmp_total) (on_total (λ (k : Bytes × Bytes × ℕ). k.1) nat_list_cmp_total)) (on_total (λ (k : Bytes × Bytes × ℕ). k.2) nat_cmp_total)

role_cmp_total : IsTotalOrder role_cmp
role_cmp_total = on_total role_number nat_cmp_total

pub requirement_cmp_total : IsTotalOrder requirement_cmp
requirement_cmp_total = then_total (then_total (then_total (then_total (on_total (λ (k : RequirementKey). k.0) nat_list_cmp_total) (on_total (λ (k : RequirementKey). k.1) nat_cmp_total)) (on_total (λ (k : RequirementKey). k.2) role_cmp_total)) (on_total (λ (k : RequirementKey). k.3) nat_list_cmp_total)) (on_total (λ (k : RequirementKey). k.4) nat_list_cmp_total)

-- a batch ties with one of the same order and number
pub same_batch : (k l : Bytes × ℕ) → is_eq (batch_cmp k l) ≡ (same_bytes k.0 l.0 && k.1 == l.1)
same_batch k l = is_eq-then (bytes_cmp k.0 l.0) (nat_cmp k.1 l.1) ∙ ap (λ b. same_bytes k.0 l.0 && b) (is_eq-nat_cmp k.1 l.1)

pub same_bytes-symm : (a b : Bytes) → same_bytes a b ≡ same_bytes b a
same_bytes-symm a b = (eq_by_cmp_equiv nat_list_cmp_total).symm a b
