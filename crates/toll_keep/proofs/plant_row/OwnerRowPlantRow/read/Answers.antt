use Rattle.toll_keep.proofs.plant_row.OwnerRowPlantRow.read.Goals as goal

pub returns-clause-alone : goal.returns-clause-alone
returns-clause-alone g c = λ os. (c.owners.ensures.alone os).reading

pub returns-clause-found : goal.returns-clause-found
returns-clause-found g c = λ os. (c.owners.ensures.alone os).reads
