use Rattle.std.proofs.Common.{Some, [], Err, subst, sym}
use Rattle.toll_keep.specs.Meaning.{meaning_for}
use Rattle.toll_desk.specs.Translations.{meaning_of_reply}
use Rattle.toll_wire.proofs.Common.{Asks, By}
use Rattle.toll_wire.specs.Held.{IsHolding}
use Rattle.toll_wire.proofs.HeldReplies.{held_nothing, held_planned}
use Rattle.toll_wire.proofs.Served.{kept_told, kept_untold}
use Rattle.toll_wire.proofs.holding.hold.Goals as goal

pub returns-in-Unavailable-clause-holds : goal.returns-in-Unavailable-clause-holds
returns-in-Unavailable-clause-holds g c =
    let K = g.K.Keep in
    let o = c.args.owner.now in
    let key = c.args.key.now in
    let planned = c.owner_plan-planned in
    subst (λ fault. IsHolding K.meaning c.args.keep.now planned.new.keep (By o (Some key) (Asks c.args.request.now)) (Err fault) []) (sym c.fault_of.ensures)
    (held_nothing K.meaning c.args.keep.now planned.new.keep o key (Asks c.args.request.now) (meaning_of_reply planned.result.reply) planned.ensures.reads)

pub returns-in-Unavailable-clause-alone : goal.returns-in-Unavailable-clause-alone
returns-in-Unavailable-clause-alone g c = λ os mine.
    let m = meaning_for g.K.Keep.meaning g.K.Keep.part os in
    let o = c.args.owner.now in
    let key = c.args.key.now in
    let planned = c.owner_plan-planned in
    subst (λ fault. IsHolding m c.args.keep.now planned.new.keep (By o (Some key) (Asks c.args.request.now)) (Err fault) []) (sym c.fault_of.ensures)
    (held_nothing m c.args.keep.now planned.new.keep o key (Asks c.args.request.now) (meaning_of_reply planned.result.reply) (planned.ensures.alone os mine))

pub returns-in-Text-clause-holds : goal.returns-in-Text-clause-holds
returns-in-Text-clause-holds g c =
    let planned = c.owner_plan-planned in
    held_planned g.K.Keep.meaning c.args.keep.now planned.new.keep c.args.owner.now c.args.key.now c.args.request.now (meaning_of_reply planned.result.reply) c.in-Text.text
    planned.result.changes.items c.in-Text.ensures planned.ensures.reads planned.ensures.idle planned.ensures.plan

pub returns-in-Text-clause-alone : goal.returns-in-Text-clause-alone
returns-in-Text-clause-alone g c = λ os mine.
    let planned = c.owner_plan-planned in
    held_planned (meaning_for g.K.Keep.meaning g.K.Keep.part os) c.args.keep.now planned.new.keep c.args.owner.now c.args.key.now c.args.request.now
    (meaning_of_reply planned.result.reply) c.in-Text.text planned.result.changes.items c.in-Text.ensures (planned.ensures.alone os mine) (planned.ensures.quiet os mine) (planned.ensures.own os mine)

pub returns-in-Unavailable-clause-others : goal.returns-in-Unavailable-clause-others
returns-in-Unavailable-clause-others g c = λ os.
    let planned = c.owner_plan-planned in
    kept_untold (meaning_for g.K.Keep.meaning g.K.Keep.part os) c.args.keep.now planned.new.keep (meaning_of_reply planned.result.reply) (planned.ensures.others os) _ c.fault_of.ensures

pub returns-in-Text-clause-others : goal.returns-in-Text-clause-others
returns-in-Text-clause-others g c = λ os.
    let planned = c.owner_plan-planned in
    kept_told (meaning_for g.K.Keep.meaning g.K.Keep.part os) c.args.keep.now planned.new.keep (meaning_of_reply planned.result.reply) c.in-Text.text c.in-Text.ensures (planned.ensures.others os) _
