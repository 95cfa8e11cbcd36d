-- Why the code read no values.
use Rattle.std.specs.Prelude.{◌≡◌, List, Result, Err}
use Rattle.toll_base.specs.declared.refusal.Refusal.{Refusal}
use Rattle.toll_plant.specs.declared.argument.ArgumentValue.{ArgumentValue}
use Rattle.toll_plant.specs.declared.values.ArgumentFault.{ArgumentFault}
use Rattle.toll_plant.specs.declared.values.ArgumentFault.TheVariants.{Memory, Refused}

-- A value can't be read, or there was no memory.
abbrev pub IsArgumentFault : Result (List ArgumentValue) Refusal → ArgumentFault → Type 0
IsArgumentFault values Memory = Unit {0}
IsArgumentFault values (Refused why) = values ≡ Err why
