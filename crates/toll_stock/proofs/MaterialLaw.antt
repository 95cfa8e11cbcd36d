-- What the adding of a material owes.
use Rattle.std.proofs.Common.{[], ◌∷◌, length, refl}
use Rattle.toll_stock.proofs.Common.{or_right, AddMaterial, by, Slice, KeepsRules, facts_of, IsDecided, Decides, DecisionKeepsRules, material_checks, Put, Decision, Material, none_applies, accepted_passes, below_limit, tables-own, MOST_MATERIALS}
use Rattle.toll_base.specs.declared.rows.MaterialRow.{MaterialRow}
use Rattle.toll_history.proofs.Naming.{Kind, IsNamedRowAdded, naming_owes}

pub material_owes : (own : Slice) (row : MaterialRow) (d : Decision) → IsDecided (material_checks (facts_of own) row) (Put own.owner (Material row) ∷ []) d → Decides (by own.owner (AddMaterial row)) own d × (KeepsRules own → DecisionKeepsRules own d)
material_owes own row d decided =
    let materials : Kind MaterialRow = record { name = λ row. row.material; rows = λ s. s.materials; row = λ t. t.material; count = λ t. t.materials; with = λ rows count t. record t { material = rows; materials = count } } in
    let added : IsNamedRowAdded materials row (AddMaterial row) (Material row) refl = record { known = λ s. refl; counted = λ s. refl; in_slice = λ s. refl; in_history = λ H o. tables-own H o (AddMaterial row) refl; is_new = λ H o accepted. accepted_passes H o (AddMaterial row) accepted 0 } in
    naming_owes materials row (AddMaterial row) (Material row) refl added own _ d decided (λ H. refl) (λ accepted. or_right _ _ (below_limit MOST_MATERIALS (length own.materials) (none_applies (material_checks (facts_of own) row) accepted 1)))
