-- The keys of rows, and how they are ordered: part by part, from the left.
use Rattle.std.specs.Prelude.{ℕ}
use Rattle.std.specs.Ordering.{ordering_then, nat_cmp}
use Rattle.std.specs.declared.cmp.Ordering.{Ordering}
use Rattle.toll_base.specs.Bytes.{Bytes, bytes_cmp}
use Rattle.toll_base.specs.Roles.{role_cmp}
use Rattle.toll_base.specs.declared.role.Role.{Role}

-- a material and a test of it; a lot and a sublot of it
abbrev pub pair_cmp : Bytes × Bytes → Bytes × Bytes → Ordering
pair_cmp a b = ordering_then (bytes_cmp a.0 b.0) (bytes_cmp a.1 b.1)

-- a batch: an order, and a number
abbrev pub batch_cmp : Bytes × ℕ → Bytes × ℕ → Ordering
batch_cmp a b = ordering_then (bytes_cmp a.0 b.0) (nat_cmp a.1 b.1)

-- a result: a lot, a test, and a number
abbrev pub result_cmp : Bytes × Bytes × ℕ → Bytes × Bytes × ℕ → Ordering
result_cmp a b = ordering_then (ordering_then (bytes_cmp a.0 b.0) (bytes_cmp a.1 b.1)) (nat_cmp a.2 b.2)

-- a requirement: a recipe, a segment, a role, a source and a material
abbrev pub RequirementKey : Type 0
RequirementKey = Bytes × ℕ × Role × Bytes × Bytes

abbrev pub requirement_cmp : RequirementKey → RequirementKey → Ordering
requirement_cmp a b = ordering_then (ordering_then (ordering_then (ordering_then (bytes_cmp a.0 b.0) (nat_cmp a.1 b.1)) (role_cmp a.2 b.2)) (bytes_cmp a.3 b.3)) (bytes_cmp a.4 b.4)
