use Rattle.std.proofs.Common.{◌≡◌, ap, sym, ◌∙◌, map, drop, true, false, ◌∷◌}
use Rattle.csv.specs.Records.{fields_of}
use Rattle.toll_plant.proofs.FileLemmas.{none_first, empty_if_below_one, other_first, first_there, rest_whole}
use Rattle.toll_plant.proofs.actuals.under_header.Goals as goal

pub returns-in_default-clause-refused : goal.returns-in_default-clause-refused
returns-in_default-clause-refused c = λ refused. none_first c.args.records.now (empty_if_below_one c.args.records.now c.in_default.len_below)

pub returns-then-is_header-clause-under : goal.returns-then-is_header-clause-under
returns-then-is_header-clause-under c =
    let items = c.args.records.now in
    let first = c.first-item.result in
    let whole = first_there items first c.in-len1-up.len_at_least c.first-item.is in
    ap (map fields_of) whole ∙ (λ i. c.is_header.ensures.0 c.if-is_header.true i ∷ map fields_of (sym (rest_whole items) i))

pub returns-else-is_header-clause-refused : goal.returns-else-is_header-clause-refused
returns-else-is_header-clause-refused c = λ refused.
    let items = c.args.records.now in
    let first = c.first-item.result in
    other_first items first (drop 1 items) (first_there items first c.in-len1-up.len_at_least c.first-item.is)
    (λ is. let never : false ≡ true = sym c.if-is_header.false ∙ c.is_header.ensures.1 is in cc never)
