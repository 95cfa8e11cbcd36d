use Rattle.std.proofs.Common.{◌≡◌, Ok, Err, rules, subst, sym}
use Rattle.toll_keep.specs.Meaning.{meaning_for}
use Rattle.toll_wire.proofs.Common.{IsAnswered}
use Rattle.toll_wire.proofs.HeldReplies.{answered_held, answered_keeps, unanswered, unanswered_keeps}
use Rattle.toll_wire.specs.OutTexts.{out_of}
use Rattle.toll_wire.specs.Steps.{IsAnsweredKeeping}
use Rattle.toll_wire.proofs.answering.answer_with_router.Goals as goal

pub returns-in_err-held-clause-answered : goal.returns-in_err-held-clause-answered
returns-in_err-held-clause-answered g c = λ bytes is.
    let m = g.K.Keep.meaning in
    let old = c.args.keep.now in
    let new = c.hold_with_router.new.keep in
    let fault = c.in_err-held.field-0.0 in
    let failed : c.from_residual.result ≡ Err fault = search rules in
    subst (λ r. IsAnswered m old new bytes (out_of r)) (sym failed) (unanswered m old new fault g.met.K.Keep.settled bytes (c.in_err-held.ensures.held bytes is))

pub returns-in_err-commit-clause-answered : goal.returns-in_err-commit-clause-answered
returns-in_err-commit-clause-answered g c = λ bytes is.
    let m = g.K.Keep.meaning in
    let old = c.args.keep.now in
    let new = c.commit.new.keep in
    let fault = c.in_err-commit.field-0.0 in
    let failed : c.from_residual-in_err-commit.result ≡ Err fault = search rules in
    subst (λ r. IsAnswered m old new bytes (out_of r)) (sym failed) (answered_held m old c.hold_with_router.new.keep new c.in_ok-held.held _ c.deref.ensures.value (Err fault) g.met.K.Keep.settled bytes (c.in_ok-held.ensures.held bytes is) c.in_err-commit.ensures.made)

pub returns-clause-answered : goal.returns-clause-answered
returns-clause-answered g c = λ bytes is.
    let m = g.K.Keep.meaning in
    let old = c.args.keep.now in
    let new = c.commit.new.keep in
    answered_held m old c.hold_with_router.new.keep new c.in_ok-held.held _ c.deref.ensures.value (Ok c.in_ok-commit.field-0) g.met.K.Keep.settled bytes (c.in_ok-held.ensures.held bytes is) c.in_ok-commit.ensures.made

pub returns-in_err-held-clause-alone : goal.returns-in_err-held-clause-alone
returns-in_err-held-clause-alone g c = λ os bytes is its.
    let m = meaning_for g.K.Keep.meaning g.K.Keep.part os in
    let old = c.args.keep.now in
    let new = c.hold_with_router.new.keep in
    let fault = c.in_err-held.field-0.0 in
    let failed : c.from_residual.result ≡ Err fault = search rules in
    subst (λ r. IsAnswered m old new bytes (out_of r)) (sym failed) (unanswered m old new fault (g.met.K.Keep.settled_for os) bytes (c.in_err-held.ensures.alone os bytes is its))

pub returns-in_err-commit-clause-alone : goal.returns-in_err-commit-clause-alone
returns-in_err-commit-clause-alone g c = λ os bytes is its.
    let m = meaning_for g.K.Keep.meaning g.K.Keep.part os in
    let old = c.args.keep.now in
    let new = c.commit.new.keep in
    let fault = c.in_err-commit.field-0.0 in
    let failed : c.from_residual-in_err-commit.result ≡ Err fault = search rules in
    subst (λ r. IsAnswered m old new bytes (out_of r)) (sym failed) (answered_held m old c.hold_with_router.new.keep new c.in_ok-held.held _ c.deref.ensures.value (Err fault) (g.met.K.Keep.settled_for os) bytes (c.in_ok-held.ensures.alone os bytes is its) (c.in_err-commit.ensures.alone os))

pub returns-clause-alone : goal.returns-clause-alone
returns-clause-alone g c = λ os bytes is its.
    let m = meaning_for g.K.Keep.meaning g.K.Keep.part os in
    let old = c.args.keep.now in
    let new = c.commit.new.keep in
    answered_held m old c.hold_with_router.new.keep new c.in_ok-held.held _ c.deref.ensures.value (Ok c.in_ok-commit.field-0) (g.met.K.Keep.settled_for os) bytes (c.in_ok-held.ensures.alone os bytes is its) (c.in_ok-commit.ensures.alone os)

pub returns-in_err-held-clause-others : goal.returns-in_err-held-clause-others
returns-in_err-held-clause-others g c = λ os bytes is other.
    let m = meaning_for g.K.Keep.meaning g.K.Keep.part os in
    let old = c.args.keep.now in
    let new = c.hold_with_router.new.keep in
    let fault = c.in_err-held.field-0.0 in
    let failed : c.from_residual.result ≡ Err fault = search rules in
    subst (λ r. IsAnsweredKeeping m old new (out_of r)) (sym failed) (unanswered_keeps m old new fault os (c.in_err-held.ensures.others os bytes is other))

pub returns-in_err-commit-clause-others : goal.returns-in_err-commit-clause-others
returns-in_err-commit-clause-others g c = λ os bytes is other.
    let m = meaning_for g.K.Keep.meaning g.K.Keep.part os in
    let old = c.args.keep.now in
    let new = c.commit.new.keep in
    let fault = c.in_err-commit.field-0.0 in
    let failed : c.from_residual-in_err-commit.result ≡ Err fault = search rules in
    subst (λ r. IsAnsweredKeeping m old new (out_of r)) (sym failed) (answered_keeps m old c.hold_with_router.new.keep new c.in_ok-held.held _ c.deref.ensures.value (Err fault) os (c.in_ok-held.ensures.others os bytes is other) (c.in_err-commit.ensures.others os))

pub returns-clause-others : goal.returns-clause-others
returns-clause-others g c = λ os bytes is other.
    let m = meaning_for g.K.Keep.meaning g.K.Keep.part os in
    let old = c.args.keep.now in
    let new = c.commit.new.keep in
    answered_keeps m old c.hold_with_router.new.keep new c.in_ok-held.held _ c.deref.ensures.value (Ok c.in_ok-commit.field-0) os (c.in_ok-held.ensures.others os bytes is other) (c.in_ok-commit.ensures.others os)
