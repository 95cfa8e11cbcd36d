-- The command, as it is declared to `clap`.
use Rattle.std.specs.Prelude.{ℕ, true, Some, codes}
use Rattle.toll_plant.specs.Common.{Bytes}
use Rattle.clap.specs.Walk.{Rule}
use Rattle.clap.specs.Simple.{App, new_app, new_rule, on_top, with_rule}
use Rattle.clap.specs.declared.builder.action.ArgAction.TheVariants.{Set}

-- the rule of one argument that takes exactly this many values
abbrev pub values_rule : ℕ → Rule
values_rule count = record (new_rule (codes "VALUES")) {
  action = Some Set;
  required = true;
  range = Some (record { start_inclusive = count; end_inclusive = count });
}

-- the command with this one argument, and without help
abbrev pub values_app : Bytes → ℕ → App
values_app name count = with_rule (on_top (λ s. record s { disable_help_flag = true }) (new_app name)) (values_rule count)
