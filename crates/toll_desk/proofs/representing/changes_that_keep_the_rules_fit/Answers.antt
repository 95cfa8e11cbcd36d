use Rattle.toll_desk.proofs.Fitting.{kept_rules_fit}
use Rattle.toll_desk.proofs.representing.changes_that_keep_the_rules_fit.Goals as goal

pub returns : goal.returns
returns c = kept_rules_fit
