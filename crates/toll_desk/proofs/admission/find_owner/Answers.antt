use Rattle.std.proofs.Common.{◌∙◌, rules, tests}
use Rattle.std.proofs.lemmas.Iterator.{YieldsList-from_slice}
use Rattle.std.proofs.lemmas.Iterator.Search.{find_from_yields_List}
use Rattle.toll_desk.proofs.Common.{OwnerRow, same_bytes}
use Rattle.toll_desk.proofs.Found.{found_by}
use Rattle.toll_desk.proofs.admission.find_owner.Goals as goal

pub returns : goal.returns
returns c =
    c.copied.ensures ∙ find_from_yields_List (λ (row : OwnerRow). same_bytes c.args.owner.now row.owner) _ _ c.find.result c.find.ensures.ran (YieldsList-from_slice _ c.iter.ensures.rest) (λ x b q k. search (rules, tests))
    ∙ found_by (λ (row : OwnerRow). row.owner) c.args.rows.now c.args.owner.now
