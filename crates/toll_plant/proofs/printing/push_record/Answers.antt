use Rattle.std.proofs.Common.{◌++◌, ◌∷◌, [], ap, ◌∙◌}
use Rattle.std.specs.Fmt.{styled_decimal}
use Rattle.toll_plant.specs.ImportTexts.{outcome_text}
use Rattle.toll_plant.proofs.ColumnLemmas.{column_6, ok_added}
use Rattle.toll_plant.proofs.printing.push_record.Goals as goal

pub returns : goal.returns
returns c =
    let line = c.args.line.now in
    let number = ap (λ s. styled_decimal s line.number) c.laid_out.ensures ∙ column_6 line.number in
    ok_added c.extend_from_slice.result c.extend_from_slice.new.self.items _ _ c.args.text.now.items c.extend_from_slice.ensures.items
    (ap (λ bs. c.args.text.now.items ++ bs) (c.as_bytes.ensures.value ∙ (c.in_ok-shown.ensures.ok ∙ ap (λ bs. bs ++ (32 ∷ (outcome_text line.outcome ++ 10 ∷ []))) number)))
