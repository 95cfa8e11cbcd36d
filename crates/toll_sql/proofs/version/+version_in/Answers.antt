use Rattle.std.proofs.Common.{◌≡◌, ◌≢◌, codes, true, false, sym, ◌∙◌}
use Rattle.toll_sql.proofs.Common.{column, Text}
use Rattle.toll_sql.proofs.MetaLemmas.{after_first}
use Rattle.toll_sql.proofs.version.+version_in.Goals as goal

pub returns-else-is_office : goal.returns-else-is_office
returns-else-is_office t c =
    let other : column c.row-item.result 0 ≢ Text (codes "toll") = λ same. absurd (let f : true ≡ false = sym (c.is_office.ensures.1 same) ∙ c.if-is_office.false in cc) in
    after_first c.args.rows.now c.row-item.result c.version_in.result c.in-len1-up.len_at_least c.row-item.is other c.version_in.ensures
