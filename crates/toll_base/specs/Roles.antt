-- The order of roles.
use Rattle.std.specs.Prelude.{ℕ, Bool}
use Rattle.std.specs.Ordering.{nat_cmp, is_eq}
use Rattle.std.specs.declared.cmp.Ordering.{Ordering}
use Rattle.toll_base.specs.declared.role.Role.{Role}
use Rattle.toll_base.specs.declared.role.Role.TheVariants.{Consumed, Produced}

abbrev pub role_number : Role → ℕ
role_number Consumed = 0
role_number Produced = 1

-- consumed comes before produced
abbrev pub role_cmp : Role → Role → Ordering
role_cmp a b = nat_cmp (role_number a) (role_number b)

abbrev pub same_role : Role → Role → Bool
same_role a b = is_eq (role_cmp a b)
