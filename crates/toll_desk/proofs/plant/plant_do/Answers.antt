use Rattle.toll_desk.proofs.PlantQuestions.{unread_step}
use Rattle.toll_desk.proofs.plant.plant_do.Goals as goal

pub returns-in-Unread-clause-step : goal.returns-in-Unread-clause-step
returns-in-Unread-clause-step g c = rw c.in-Unread.is (unread_step g.K.Keep.meaning g.met.K.Keep.settled c.args.keep.now c.in-Unread.why)
