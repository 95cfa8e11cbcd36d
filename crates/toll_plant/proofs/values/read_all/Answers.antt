use Rattle.std.proofs.lemmas.Slice.Zip.{either_empty_from_Zip}
use Rattle.toll_plant.specs.Shown.{shown_argument}
use Rattle.toll_plant.proofs.ReadLemmas.{all_read}
use Rattle.toll_plant.proofs.values.read_all.Goals as goal

pub returns-clause-values : goal.returns-clause-values
returns-clause-values g c =
    all_read shown_argument g.S.AsSlice.items _ c.loop-argument.values.items _ _ c.loop-argument.invariant
    (either_empty_from_Zip c.loop-argument.argument-iterator c.next.new.self c.next.result c.in-None.is c.next.ensures.steps)
