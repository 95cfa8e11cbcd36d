use Rattle.std.proofs.Common.{◌≡◌, ◌∷◌, map, take}
use Rattle.toll_base.specs.Values.{house_name}
use Rattle.toll_desk.proofs.plant_tracing.names_of.Given as goal

abbrev pub invariant-loop-row : goal.invariant-loop-row
invariant-loop-row l = l.names.items ≡ house_name ∷ map (λ row. row.owner) (take l.row-index l.rows)
