use Rattle.std.proofs.Common.{rules, ◌∙◌}
use Rattle.std.proofs.lemmas.Nat.{be_bytes_8}
use Rattle.toll_files.proofs.log_mark.u64_at.Goals as goal

pub returns : goal.returns
returns c = be_bytes_8 c.array_at.result _ (search rules) (λ i. search rules) c.from_be_bytes.ensures ∙ c.array_at.ensures
