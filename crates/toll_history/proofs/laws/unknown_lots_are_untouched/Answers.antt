use Rattle.toll_history.specs.History.{acts}
use Rattle.toll_history.proofs.Untouched.{lot_undisposed, still_quarantined}
use Rattle.toll_history.proofs.laws.unknown_lots_are_untouched.Goals as goal

pub returns-clause-untouched : goal.returns-clause-untouched
returns-clause-untouched c = lot_undisposed

pub returns-clause-quarantined : goal.returns-clause-quarantined
returns-clause-quarantined c = λ H o l lawful none material. still_quarantined (acts o H) material l (lot_undisposed H o l lawful none)
