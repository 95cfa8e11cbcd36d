use Rattle.std.proofs.Common.{◌∷◌, Some, ap, ◌∙◌}
use Rattle.toll_base.specs.declared.refusal.Refusal.TheVariants.{SameSublot}
use Rattle.toll_stock.proofs.Common.{sublot_bounds, facts_of, verdict_of_checks, scrap_checks, split_checks, refused_first}
use Rattle.toll_stock.proofs.splits.check_split.Goals as goal

pub returns-in-Err : goal.returns-in-Err
returns-in-Err c =
    let t = facts_of c.args.slice.now in let lot = c.args.lot.now in let sublot = c.args.sublot.now in let target = c.args.target.now in
    refused_first (split_checks t lot sublot target c.args.amount) (sublot_bounds t lot target c.args.amount) c.in-Err.why
    (c.in-Err.ensures ∙ ap (λ b. verdict_of_checks ((b, Some SameSublot) ∷ scrap_checks t lot sublot c.args.amount)) c.if-eq.ensures)
