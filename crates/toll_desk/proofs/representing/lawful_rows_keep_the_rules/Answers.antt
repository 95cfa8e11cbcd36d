use Rattle.toll_desk.proofs.KeptRules.{represented_keeps_rules}
use Rattle.toll_desk.proofs.representing.lawful_rows_keep_the_rules.Goals as goal

pub returns : goal.returns
returns c = represented_keeps_rules
