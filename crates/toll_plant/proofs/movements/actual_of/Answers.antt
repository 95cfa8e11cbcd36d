use Rattle.std.proofs.Common.{◌∙◌, option_map, Some, ap}
use Rattle.toll_answers.specs.declared.actual_row.ActualRow.{ActualRow}
use Rattle.toll_answers.specs.declared.plant_cmd.PlantCmd.TheVariants as cmd
use Rattle.toll_plant.specs.Commands.{actual_command}
use Rattle.toll_plant.proofs.movements.actual_of.Goals as goal

pub returns : goal.returns
returns c =
    ap (λ (row : ActualRow). Some (cmd.Actual c.args.owner row)) c.actual_row-row.ensures
    ∙ ap (option_map (actual_command c.args.key c.args.owner c.args.order c.args.number c.args.segment)) c.in_ok-taken.ensures
