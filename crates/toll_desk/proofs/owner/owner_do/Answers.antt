use Rattle.std.proofs.Common.{refl, subst, sym}
use Rattle.toll_desk.proofs.Common.{IfOk-weaker, IsReply, after_reply}
use Rattle.toll_keep.specs.HeldFor.{KeepsHeld, PutsOutside}
use Rattle.toll_keep.specs.Meaning.{meaning_for}
use Rattle.toll_desk.specs.Translations.{may_change, meaning_of_reply, writes}
use Rattle.toll_desk.proofs.CommitLemmas.{and_false, commit_step, kept_on, unmade_after_fault, puts_outside}
use Rattle.toll_desk.proofs.OwnerPlans.{lawful_after_reply}
use Rattle.toll_desk.proofs.owner.owner_do.Goals as goal

pub returns-clause-step : goal.returns-clause-step
returns-clause-step g c =
    let K = g.K.Keep in
    let o = c.args.owner.now in
    let key = c.args.key.now in
    let q = c.args.request.now in
    let planned = c.owner_plan-planned in
    let reply = meaning_of_reply planned.result.reply in
    commit_step K.meaning g.met.K.Keep.settled c.args.keep.now planned.new.keep c.commit-made.new.keep reply (meaning_of_reply c.finished.result) planned.result.changes.items _ c.commit-made.result
    c.deref.ensures.value c.finished.ensures planned.ensures.reads c.commit-made.ensures.made (may_change q) (λ fault. and_false (writes q)) planned.ensures.idle.quiet
    (IsReply o key) (after_reply o key) q (λ H lawful. lawful_after_reply o key H q lawful c.keeps_bounds.ensures)
    (λ honest content H held stands lawful. IfOk-weaker reply _ _ (λ x plan. (plan.reply, plan.leads)) (planned.ensures.plan honest content H held stands lawful))
    _ refl _ (λ honest content held P stays none. record {
      quiet = stays;
      once = λ placing asks there. none (planned.ensures.idle.once honest content held placing asks there);
    })

pub returns-clause-alone : goal.returns-clause-alone
returns-clause-alone g c = λ os mine.
    let m = meaning_for g.K.Keep.meaning g.K.Keep.part os in
    let o = c.args.owner.now in
    let key = c.args.key.now in
    let q = c.args.request.now in
    let planned = c.owner_plan-planned in
    let reply = meaning_of_reply planned.result.reply in
    commit_step m (g.met.K.Keep.settled_for os) c.args.keep.now planned.new.keep c.commit-made.new.keep reply (meaning_of_reply c.finished.result) planned.result.changes.items _ c.commit-made.result
    c.deref.ensures.value c.finished.ensures (planned.ensures.alone os mine) (c.commit-made.ensures.alone os) (may_change q) (λ fault. and_false (writes q)) (planned.ensures.quiet os mine).quiet
    (IsReply o key) (after_reply o key) q (λ H lawful. lawful_after_reply o key H q lawful c.keeps_bounds.ensures)
    (λ honest content H held stands lawful. IfOk-weaker reply _ _ (λ x plan. (plan.reply, plan.leads)) (planned.ensures.own os mine honest content H held stands lawful))
    _ refl _ (λ honest content held P stays none. record {
      quiet = stays;
      once = λ placing asks there. none ((planned.ensures.quiet os mine).once honest content held placing asks there);
    })

pub returns-clause-others : goal.returns-clause-others
returns-clause-others g c = λ os other.
    let m = meaning_for g.K.Keep.meaning g.K.Keep.part os in
    let q = c.args.request.now in
    let planned = c.owner_plan-planned in
    let changes = planned.result.changes.items in
    let reply = meaning_of_reply planned.result.reply in
    let made = c.commit-made in
    let outside = puts_outside os c.args.owner.now changes other planned.ensures.puts in
    subst (λ reply. KeepsHeld m c.args.keep.now made.new.keep reply) (sym c.finished.ensures)
    (kept_on m c.args.keep.now planned.new.keep made.new.keep reply made.result (planned.ensures.others os)
    (unmade_after_fault m c.args.keep.now planned.new.keep made.new.keep reply changes _ made.result c.deref.ensures.value (made.ensures.alone os) (may_change q) (λ fault. and_false (writes q)) planned.ensures.idle.quiet)
    (made.ensures.others os (subst (PutsOutside os) (sym c.deref.ensures.value) outside)))
