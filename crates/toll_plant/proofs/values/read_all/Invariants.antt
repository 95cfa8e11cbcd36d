-- The values so far, and those that are left.
use Rattle.std.proofs.Common.{◌≡◌}
use Rattle.std.specs.Iterator.Adapters.{zip_first, zip_second}
use Rattle.std.specs.Slice.Iter.{iter_rest}
use Rattle.toll_plant.specs.Shown.{shown_argument}
use Rattle.toll_plant.proofs.ReadLemmas.{read_over, with_front}
use Rattle.toll_plant.proofs.values.read_all.Given as goal

abbrev pub invariant-loop-argument : goal.invariant-loop-argument
invariant-loop-argument g l =
    read_over shown_argument g.S.AsSlice.items l.arguments l.words
    ≡ with_front l.values.items (read_over shown_argument g.S.AsSlice.items (iter_rest (zip_first l.argument-iterator)) (iter_rest (zip_second l.argument-iterator)))
