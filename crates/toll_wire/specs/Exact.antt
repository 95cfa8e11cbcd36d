-- The bodies of replies hold no fraction.
use Rattle.std.proofs.Common.{◌≡◌, ℤ, pos, negsuc, false, ◌||◌, List, [], ◌∷◌, refl, ap, ◌∙◌}
use Rattle.toll_wire.specs.Common.{Data, Bytes}
use Rattle.serde_json.specs.Written.{has_float}
use Rattle.toll_base.specs.declared.rows.BatchRow.{BatchRow}
use Rattle.toll_base.specs.declared.rows.LotRow.{LotRow}
use Rattle.toll_base.specs.declared.rows.ResultRow.{ResultRow}
use Rattle.toll_base.specs.declared.rows.SublotRow.{SublotRow}
use Rattle.toll_work.specs.declared.views.RequirementLine.{RequirementLine}
use Rattle.toll_wire.specs.ReplyBodies.{list_data, named_list_data, whole_data, batch_data, requirement_data, result_data, sublot_data, lot_from}

pub each_exact : {T : Type 0} (as_data : T → Data) → ((row : T) → has_float (as_data row) ≡ false) → (rows : List T) → has_float (list_data as_data rows) ≡ false
each_exact as_data exact [] = refl
each_exact as_data exact (row ∷ rows) = ap (λ b. b || has_float (list_data as_data rows)) (exact row) ∙ each_exact as_data exact rows

pub listed_exact : {T : Type 0} (name : Bytes) (as_data : T → Data) → ((row : T) → has_float (as_data row) ≡ false) → (rows : List T) → has_float (named_list_data name as_data rows) ≡ false
listed_exact name as_data exact rows = ap (λ b. b || false) (each_exact as_data exact rows)

pub batch_exact : (row : BatchRow) (lines : List RequirementLine) → has_float (batch_data row lines) ≡ false
batch_exact row lines = ap (λ b. b || false) (each_exact requirement_data (λ _. refl) lines)

pub whole_exact : (z : ℤ) → has_float (whole_data z) ≡ false
whole_exact (pos n) = refl
whole_exact (negsuc n) = refl

pub result_exact : (row : ResultRow) → has_float (result_data row) ≡ false
result_exact row = ap (λ b. b || false) (whole_exact row.value)

pub lot_exact : (origin : Bytes) (row : LotRow) (measure : Bytes) (results : List ResultRow) (sublots : List SublotRow) → has_float (lot_from origin row measure results sublots) ≡ false
lot_exact origin row measure results sublots =
    ap (λ b. b || (has_float (list_data sublot_data sublots) || false)) (each_exact result_data result_exact results)
    ∙ ap (λ b. b || false) (each_exact sublot_data (λ _. refl) sublots)
