use Rattle.std.proofs.Common.{sym, ◌∙◌}
use Rattle.toll_files.proofs.LogLemmas.{part_is}
use Rattle.toll_files.proofs.log_end.salts_in.Goals as goal

pub returns : goal.returns
returns c = c.copy_from_slice.ensures.after ∙ sym (part_is _ 16 8)
