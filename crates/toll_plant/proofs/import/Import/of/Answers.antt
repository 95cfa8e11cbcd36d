use Rattle.std.proofs.Common.{sym, subst, arith}
use Rattle.std.specs.List.{AllByRecursion}
use Rattle.toll_plant.specs.Imports.{AreNumberedFrom, CanBeStaged, HasValidValues}
use Rattle.toll_plant.proofs.ActualLemmas.{all_staged, all_valid}
use Rattle.toll_plant.proofs.import.Import.of.Goals as goal

pub invariant_of-result : goal.invariant_of-result
invariant_of-result c =
    let read = c.in_ok-commands.ensures.commands in
    record {
      within = omega arith;
      can = subst (AllByRecursion CanBeStaged) (sym read.2) (all_staged read.0);
      valid = subst (AllByRecursion HasValidValues) (sym read.2) (all_valid read.0);
      room = omega (arith, c.in_ok-lines.ensures.len, c.in_ok-lines.ensures.capacity, c.len.ensures, c.in_ok-commands.commands.ok);
      buffer = omega (arith, c.in_ok-outcomes.ensures.capacity);
      numbered = subst (AreNumberedFrom 1) (sym c.in_ok-lines.ensures.items) tt;
    }
