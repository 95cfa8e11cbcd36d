use Rattle.std.proofs.Common.{◌∙◌, List, map, ap, sym, subst}
use Rattle.std.specs.Prelude.{IsSome}
use Rattle.toll_base.specs.Bytes.{Bytes}
use Rattle.toll_plant.specs.Shown.{shown_line, shown_argument}
use Rattle.toll_plant.specs.Words.{command_with}
use Rattle.toll_plant.proofs.Common.{length-map}
use Rattle.toll_plant.proofs.TableLemmas.{line_gives_command, fits_line}
use Rattle.toll_plant.proofs.words.command_of.Goals as goal

pub values_of-requires : goal.values_of-requires
values_of-requires c =
    let fits = fits_line (map (λ w. w.now) c.args.words.now) (shown_line c.in-Some.line.now) (sym c.in-Some.ensures) in
    record { some = rw (sym (length-map c.in-Some.line.now.values.now shown_argument)) fits.0; fits = fits.1 }

pub read-requires : goal.read-requires
read-requires c =
    let given = c.in_ok-values-in-Some.ensures in
    let values = ap (map (λ v. v.now)) c.as_slice.ensures.value ∙ given in
    subst (λ (words : List Bytes). IsSome (command_with (shown_line c.in-Some.line.now) words)) (sym values)
    (line_gives_command (map (λ w. w.now) c.args.words.now) (shown_line c.in-Some.line.now) (sym c.in-Some.ensures))
