use Rattle.std.proofs.Common.{subst, sym}
use Rattle.toll_keep.specs.Meaning.{meaning_for}
use Rattle.toll_wire.proofs.Common.{IsAnswered}
use Rattle.toll_wire.specs.Steps.{IsAnsweredKeeping}
use Rattle.toll_wire.proofs.answering.reply_by_router.Goals as goal

pub returns-clause-answered : goal.returns-clause-answered
returns-clause-answered g c =
    subst (λ out. IsAnswered g.K.Keep.meaning c.args.keep.now c.answer_with_router.new.keep c.args.bytes.now out) (sym c.of.ensures)
    (c.answer_with_router.ensures.answered c.args.bytes.now c.parse_http.ensures)

pub returns-clause-alone : goal.returns-clause-alone
returns-clause-alone g c = λ os its.
    subst (λ out. IsAnswered (meaning_for g.K.Keep.meaning g.K.Keep.part os) c.args.keep.now c.answer_with_router.new.keep c.args.bytes.now out) (sym c.of.ensures)
    (c.answer_with_router.ensures.alone os c.args.bytes.now c.parse_http.ensures its)

pub returns-clause-others : goal.returns-clause-others
returns-clause-others g c = λ os other.
    subst (IsAnsweredKeeping (meaning_for g.K.Keep.meaning g.K.Keep.part os) c.args.keep.now c.answer_with_router.new.keep) (sym c.of.ensures)
    (c.answer_with_router.ensures.others os c.args.bytes.now c.parse_http.ensures other)
