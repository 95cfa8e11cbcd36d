use Rattle.std.proofs.Common.{◌∙◌, rules, tests}
use Rattle.std.proofs.lemmas.Iterator.{YieldsList-from_slice}
use Rattle.std.proofs.lemmas.Iterator.Search.{find_from_yields_List}
use Rattle.toll_desk.proofs.Common.{UnitRow, same_bytes}
use Rattle.toll_desk.proofs.Found.{found_by}
use Rattle.toll_desk.proofs.units.find_unit.Goals as goal

pub returns : goal.returns
returns c =
    c.copied.ensures ∙ find_from_yields_List (λ (row : UnitRow). same_bytes c.args.unit.now row.unit) _ _ c.find.result c.find.ensures.ran (YieldsList-from_slice _ c.iter.ensures.rest) (λ x b q k. search (rules, tests))
    ∙ found_by (λ (row : UnitRow). row.unit) c.args.rows.now c.args.unit.now
