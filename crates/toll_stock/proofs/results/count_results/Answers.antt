use Rattle.std.proofs.Common.{◌≡◌, ◌&&◌, arith, ap, sym, ◌∙◌}
use Rattle.std.proofs.lemmas.Grind.{common_steps}
use Rattle.toll_stock.proofs.Common.{count_by, same_bytes, count, ResultRow}
use Rattle.toll_base.proofs.PutRules.{count-is, count-le-length}
use Rattle.toll_stock.proofs.Sums.{count-kept}
use Rattle.toll_stock.proofs.results.count_results.Goals as goal

pub returns-clause-count : goal.returns-clause-count
returns-clause-count c =
    let of_test = λ (row : ResultRow). same_bytes row.test c.args.test.now in
    let e : c.count.result ≡ count_by of_test c.results_of.result.now = grind (arith, common_steps) in
    e
    ∙ sym (count-is of_test c.results_of.result.now)
    ∙ ap (count of_test) c.results_of.ensures.rows
    ∙ count-kept (λ row. same_bytes row.lot c.args.lot.now) of_test c.args.slice.now.results

pub returns-clause-bound : goal.returns-clause-bound
returns-clause-bound c =
    let e = returns-clause-count c in
    let le = count-le-length (λ row. same_bytes row.lot c.args.lot.now && same_bytes row.test c.args.test.now) c.args.slice.now.results in
    omega (arith, e, le)
