use Rattle.toll_stock.proofs.Common.{same_bytes-refl, owed_by}
use Rattle.toll_stock.proofs.MaterialLaw.{material_owes}
use Rattle.toll_stock.proofs.materials.add_material.Goals as goal

pub returns : goal.returns
returns c =
    let o = owed_by c.plan_material.ensures.plan (material_owes _ _) c.plan_material.ensures.kept (same_bytes-refl c.args.slice.now.owner, tt) in
    record { decides = o.decides; rules = o.rules; own = o.own }
