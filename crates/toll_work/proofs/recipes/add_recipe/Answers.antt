use Rattle.toll_work.proofs.Common.{same_bytes-refl, owed_by}
use Rattle.toll_work.proofs.RecipeLaw.{recipe_owes}
use Rattle.toll_work.proofs.recipes.add_recipe.Goals as goal

pub returns : goal.returns
returns c =
    let o = owed_by c.plan_recipe.ensures.plan (recipe_owes _ _) c.plan_recipe.ensures.kept (same_bytes-refl c.args.slice.now.owner, tt) in
    record { decides = o.decides; rules = o.rules; own = o.own }
