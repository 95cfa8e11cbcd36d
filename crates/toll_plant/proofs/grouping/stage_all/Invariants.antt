use Rattle.std.proofs.Common.{◌≡◌, false, vec_len, vec_capacity}
use Rattle.std.specs.Prelude.{take}
use Rattle.toll_plant.proofs.Common.{list_any}
use Rattle.toll_plant.specs.Outcomes.{is_fault_outcome}
use Rattle.toll_plant.specs.StagedRecords.{AreRecordsStaged}
use Rattle.toll_plant.proofs.grouping.stage_all.Given as goal

-- The records so far met no fault and are staged.
abbrev pub invariant-loop-command : goal.invariant-loop-command
invariant-loop-command g l = record {
  count : vec_len l.outcomes ≡ l.command-index;
  capacity : vec_capacity l.outcomes ≡ vec_capacity l.fn.outcomes;
  calm : list_any is_fault_outcome l.outcomes.items ≡ false;
  staged : AreRecordsStaged g.K.Keep.meaning l.fn.keep (take l.command-index l.commands) l.outcomes.items (l.keep, l.pending);
}
