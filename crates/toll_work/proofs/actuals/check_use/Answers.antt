use Rattle.std.proofs.Common.{◌≡◌, Err, rules, ap, ◌∙◌}
use Rattle.toll_work.proofs.Common.{facts_of, verdict_of_result, recipe_of_order, refused_first, running_checks, recipe_checks_of}
use Rattle.toll_work.proofs.actuals.check_use.Goals as goal

pub returns-in_err-recipe : goal.returns-in_err-recipe
returns-in_err-recipe c =
    let own = c.args.own.now in
    let used = c.args.used.now in
    let is : c.from_residual.result ≡ Err c.in_err-recipe.field-0.0 = search rules in
    ap verdict_of_result is ∙ refused_first (running_checks own used.order used.number) (recipe_checks_of own (recipe_of_order (facts_of own) used.order) used c.args.role) c.in_err-recipe.field-0.0 c.in_err-recipe.ensures.checks
