use Rattle.std.proofs.Common.{◌∙◌, sym, ap}
use Rattle.toll_work.proofs.Common.{is_actual, is_some_where, MoveRow}
use Rattle.toll_work.proofs.OwedWith.{owed_with}
use Rattle.toll_work.proofs.VoidLaw.{unknown_owes, giving_owes, taking_owes}
use Rattle.toll_work.proofs.voids.void_actual.Goals as goal

pub returns-in_default : goal.returns-in_default
returns-in_default c =
    let u = unknown_owes c.args.own.now c.args.house.now c.args.key (ap (is_some_where (λ (r : MoveRow). is_actual r.what)) (sym c.movement.ensures ∙ c.in_default.is)) in
    record { decides = u.decides; rules = u.rules; house_rules = λ other. u.house_rules; own = tt }

pub returns-in-None : goal.returns-in-None
returns-in-None c =
    let u = unknown_owes c.args.own.now c.args.house.now c.args.key (ap (is_some_where (λ (r : MoveRow). is_actual r.what)) (sym c.movement.ensures ∙ c.in-Some.is) ∙ c.use_of.ensures.other c.in-None.is) in
    record { decides = u.decides; rules = u.rules; house_rules = λ other. u.house_rules; own = tt }

pub returns-in-Some-Consumed-default : goal.returns-in-Some-Consumed-default
returns-in-Some-Consumed-default c =
    let u = c.in-Some-Consumed-default in let used = u.used in
    let owes = giving_owes c.args.own.now c.args.house.now c.args.key c.in-Some.row (sym c.movement.ensures ∙ c.in-Some.is) used.order used.number used.segment u.field-0-0 used.material used.lot used.sublot u.ensures.actual u.field-0-0-is in
    let o = owed_with c.give_back.ensures.plan owes c.owner-own.ensures.kept c.owner-house.ensures.kept in record { decides = o.decides; rules = o.rules; house_rules = o.house_rules; own = o.own }

pub returns-in-Some-Produced-default : goal.returns-in-Some-Produced-default
returns-in-Some-Produced-default c =
    let u = c.in-Some-Produced-default in let used = u.used in
    let owes = taking_owes c.args.own.now c.args.house.now c.args.key c.in-Some.row (sym c.movement.ensures ∙ c.in-Some.is) used.order used.number used.segment u.field-0-0 used.material used.lot used.sublot u.ensures.actual u.field-0-0-is in
    let o = owed_with c.take_out.ensures.plan owes c.owner-own.ensures.kept c.owner-house.ensures.kept in record { decides = o.decides; rules = o.rules; house_rules = o.house_rules; own = o.own }
