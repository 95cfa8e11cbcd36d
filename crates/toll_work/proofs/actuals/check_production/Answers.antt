use Rattle.std.proofs.Common.{◌≡◌, Err, rules, ap, ◌∙◌}
use Rattle.toll_work.proofs.Common.{verdict_of_result, Produced, refused_first, use_checks, target_checks}
use Rattle.toll_work.proofs.actuals.check_production.Goals as goal

pub returns-in_err-check_use : goal.returns-in_err-check_use
returns-in_err-check_use c =
    let is : c.from_residual.result ≡ Err c.in_err-check_use.field-0.0 = search rules in
    ap verdict_of_result is ∙ refused_first (use_checks c.args.own.now c.args.used.now Produced) (target_checks c.args.own.now c.args.used.now c.args.amount) c.in_err-check_use.field-0.0 c.in_err-check_use.ensures
