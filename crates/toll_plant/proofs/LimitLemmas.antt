-- Limits, as the definitions make them.
use Rattle.std.proofs.Common.{◌≡◌, ℤ, ◌≤ℤ◌, Bool, true, false, refl, ap, Some}
use Rattle.std.specs.Prelude.{T}
use Rattle.std.specs.Int.Signed.{le_z, le_z_yes}
use Rattle.std.proofs.Math.Dec.{T_prop}
use Rattle.toll_base.specs.Bytes.{Bytes}
use Rattle.toll_base.specs.declared.limits.Limits.{Limits}
use Rattle.toll_answers.specs.declared.plant_cmd.PlantCmd.TheVariants as cmd
use Rattle.toll_plant.specs.Commands.{limits_if, limits_of, test_add}

one_order_proof : (a b : ℤ) (p q : a ≤ℤ b) → p ≡ q
one_order_proof a b p q = ap (λ (t : T (le_z a b)). let order : a ≤ℤ b = record { le = t } in order) (T_prop (le_z a b) p.le q.le)

limits_so : (limits : Limits) (b : Bool) (is : T b → limits.low ≤ℤ limits.high) → T b → limits_if limits.low limits.high b is ≡ Some limits
limits_so limits true is holds =
    ap (λ (p : limits.low ≤ℤ limits.high). let made : Limits = record { low = limits.low; high = limits.high; ordered = p } in Some made)
    (one_order_proof limits.low limits.high (is tt) limits.ordered)
limits_so limits false is holds = absurd holds

are_limits : (limits : Limits) → limits_of limits.low limits.high ≡ Some limits
are_limits limits = limits_so limits (le_z limits.low limits.high) le_z_yes limits.ordered.le

pub with_limits : (owner material test : Bytes) (limits : Limits) (low high : ℤ) → (limits.low ≡ low) × (limits.high ≡ high)
    → cmd.TestAdd owner material test limits ≡ test_add owner material test (limits_of low high)
with_limits owner material test limits low high same = rw (← same.0, ← same.1, are_limits limits) refl
