use Rattle.toll_desk.proofs.OccupiedLemmas.{unread_held}
use Rattle.toll_desk.proofs.staging.plant_stage.Goals as goal

pub returns-in-Unread-clause-held : goal.returns-in-Unread-clause-held
returns-in-Unread-clause-held g c = rw c.in-Unread.is (unread_held g.K.Keep.meaning (c.args.keep.now, c.args.pending.now) c.in-Unread.why)
