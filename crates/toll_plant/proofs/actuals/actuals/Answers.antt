use Rattle.std.proofs.Common.{ap, refl, sym, ◌∙◌, subst, map}
use Rattle.csv.specs.Records.{fields_of}
use Rattle.toll_plant.specs.Files.{command_in}
use Rattle.toll_plant.specs.ImportFaults.{IsNoActualsOf}
use Rattle.toll_plant.proofs.FileLemmas.{map-map, no_header, under_header}
use Rattle.toll_plant.proofs.actuals.actuals.Goals as goal

pub returns-in-Ok-clause-commands : goal.returns-in-Ok-clause-commands
returns-in-Ok-clause-commands c =
    let rest = c.in-Ok.rest.now in (
      map fields_of rest,
      under_header c.args.file.now c.in_ok-records.records.items rest c.in_ok-records.ensures (ap (map fields_of) (sym c.as_slice.ensures.value) ∙ c.in-Ok.ensures.under),
      c.in_ok-commands-in-Ok.ensures ∙ map-map fields_of command_in rest,
    )

pub returns-clause-fault : goal.returns-clause-fault
returns-clause-fault c =
    subst (IsNoActualsOf c.args.file.now) (sym c.in-Err.ensures.fault)
    (no_header c.args.file.now c.in_ok-records.records.items c.in_ok-records.ensures (λ rows same. c.in-Err.ensures.refused refl rows (ap (map fields_of) c.as_slice.ensures.value ∙ same)))
