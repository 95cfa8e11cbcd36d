use Rattle.std.proofs.Common.{subst, sym}
use Rattle.toll_keep.specs.CallEffects.{IsReading}
use Rattle.toll_keep.specs.HeldFor.{KeepsHeld}
use Rattle.toll_keep.specs.Meaning.{meaning_for}
use Rattle.toll_desk.specs.Translations.{meaning_of_reply}
use Rattle.toll_desk.proofs.tracing.plan_trace.Goals as goal

pub returns-clause-alone : goal.returns-clause-alone
returns-clause-alone g c = λ os own first have.
    subst (λ reply. IsReading (meaning_for g.K.Keep.meaning g.K.Keep.part os) first c.trace_own-reply.new.keep (meaning_of_reply reply)) (sym c.unchanged.ensures.reply) (c.trace_own-reply.ensures.alone os own first have)

pub returns-clause-others : goal.returns-clause-others
returns-clause-others g c = λ os first have.
    subst (λ reply. KeepsHeld (meaning_for g.K.Keep.meaning g.K.Keep.part os) first c.trace_own-reply.new.keep (meaning_of_reply reply)) (sym c.unchanged.ensures.reply) (c.trace_own-reply.ensures.others os first have)
