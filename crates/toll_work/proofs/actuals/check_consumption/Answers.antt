use Rattle.std.proofs.Common.{◌≡◌, Err, rules, ap, ◌∙◌}
use Rattle.toll_work.proofs.Common.{facts_of, verdict_of_result, Consumed, refused_first, accepted_first, use_checks, source_checks}
use Rattle.toll_work.proofs.actuals.check_consumption.Goals as goal

pub returns-in_err-check_use : goal.returns-in_err-check_use
returns-in_err-check_use c =
    let is : c.from_residual.result ≡ Err c.in_err-check_use.field-0.0 = search rules in
    ap verdict_of_result is ∙ refused_first (use_checks c.args.own.now c.args.used.now Consumed) (source_checks c.args.own.now (facts_of c.args.source.now) c.args.used.now c.args.amount) c.in_err-check_use.field-0.0 c.in_err-check_use.ensures

pub returns : goal.returns
returns c = c.check_source.ensures ∙ accepted_first (use_checks c.args.own.now c.args.used.now Consumed) (source_checks c.args.own.now (facts_of c.args.source.now) c.args.used.now c.args.amount) c.in_ok-check_use.ensures
