use Rattle.std.proofs.lemmas.Result.{IfOk-weaker}
use Rattle.toll_desk.proofs.PlantShown.{orders_shown}
use Rattle.toll_desk.proofs.questions.orders_in.Goals as goal

pub returns : goal.returns
returns c H lawful rows = IfOk-weaker c.orders_text.result _ _ (λ text is. orders_shown H c.args.slice.now text.items c.orders-orders.ensures.order rows is) c.orders_text.ensures
