use Rattle.std.proofs.Common.{◌∙◌, rules}
use Rattle.toll_sql.proofs.Common.{bytes_cmp, OwnerRow}
use Rattle.toll_sql.proofs.ListLemmas.{any_there}
use Rattle.toll_sql.proofs.slice_reading.is_known.Goals as goal

pub returns-else-eq : goal.returns-else-eq
returns-else-eq c =
    let there = c.is_among.ensures ∙ any_there bytes_cmp (λ (row : OwnerRow). row.owner) c.args.owners.now c.args.owner.now in
    let other = c.if-eq.false in
    let equal = c.eq.ensures in
    let house = c.house.ensures in
    search rules
