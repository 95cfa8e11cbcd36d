use Rattle.std.proofs.Common.{◌≡◌, true, false, Contains, sym, subst, ◌∙◌}
use Rattle.toll_history.specs.OwnChanges.{PutsOnly}
use Rattle.toll_keep.proofs.Calls.{kept_fault, kept_of, kept_then}
use Rattle.toll_keep.specs.CallEffects.{IsReading}
use Rattle.toll_keep.specs.HeldFor.{KeepsHeld}
use Rattle.toll_keep.specs.Meaning.{meaning_for}
use Rattle.toll_desk.proofs.Common.{IfOk-weaker, is_some, IfSome, same_bytes, order_at, house_name, owner_known, has_owner_key, read_fault, reads_then}
use Rattle.toll_desk.specs.Translations.{meaning_of_reply}
use Rattle.toll_desk.specs.Plans.{IsPlanFor}
use Rattle.toll_desk.proofs.OwnerPlans.{right_key, wrong_key, key_known, not_house_by, plan_admitted, plan_forbidden}
use Rattle.toll_desk.proofs.owner.owner_plan.Goals as goal

pub returns-in-Ok-Some-clause-plan : goal.returns-in-Ok-Some-clause-plan
returns-in-Ok-Some-clause-plan g c honest content H held stands lawful =
    let o = c.args.owner.now in
    let key = c.args.key.now in
    let q = c.args.request.now in
    let changes = c.plan_for.result.changes.items in
    let before = c.plan_for.ensures.reads.goes.honest honest in
    let found = right_key o c.in-Ok-Some.owner (has_owner_key o key H) (sym c.in-Ok-Some.field-0-is ∙ c.in-Ok-Some.ensures.found before content held H stands) in
    let known = key_known content H o key stands found.0 in
    IfOk-weaker (meaning_of_reply c.plan_for.result.reply) _ _ (λ reported plan. plan_admitted content H o key q reported changes found.0 (subst (λ p. IsPlanFor content H p q reported changes) found.1 plan))
    (c.plan_for.ensures.plan honest content H ((c.in-Ok-Some.ensures.reads.keeps before).content content held) stands lawful (subst (λ p. owner_known H p ≡ true) (sym found.1) known)
    (subst (λ p. same_bytes p house_name ≡ false) (sym found.1) (not_house_by H o key found.0)))

pub returns-in-Ok-None-clause-plan : goal.returns-in-Ok-None-clause-plan
returns-in-Ok-None-clause-plan g c honest content H held stands lawful =
    let o = c.args.owner.now in
    let key = c.args.key.now in
    let wrong = wrong_key o (has_owner_key o key H) (sym c.in-Ok-None.field-0-is ∙ c.in-Ok-None.ensures.found honest content held H stands) in
    rw (c.unchanged.ensures.reply, c.unchanged.ensures.changes) (plan_forbidden content H o key c.args.request.now stands wrong)

pub returns-in-Ok-Some-clause-idle : goal.returns-in-Ok-Some-clause-idle
returns-in-Ok-Some-clause-idle g c = record {
  quiet = c.plan_for.ensures.idle.quiet;
  once = λ honest content held placing asks there.
      let before = c.plan_for.ensures.reads.goes.honest honest in
      let named = subst (λ found. IfSome found (λ name. name ≡ c.args.owner.now)) c.in-Ok-Some.field-0-is c.in-Ok-Some.ensures.named in
      c.plan_for.ensures.idle.once honest content ((c.in-Ok-Some.ensures.reads.keeps before).content content held) placing asks
      (subst (λ p. is_some (order_at (content.rows p) placing.order) ≡ true) (sym named) there);
}

pub returns-in-Ok-Some-clause-alone : goal.returns-in-Ok-Some-clause-alone
returns-in-Ok-Some-clause-alone g c = λ os mine.
    let named : c.in-Ok-Some.owner ≡ c.args.owner.now = subst (λ found. IfSome found (λ name. name ≡ c.args.owner.now)) c.in-Ok-Some.field-0-is c.in-Ok-Some.ensures.named in
    reads_then (meaning_for g.K.Keep.meaning g.K.Keep.part os) c.args.keep.now c.admit.new.keep c.plan_for.new.keep _ _ (c.in-Ok-Some.ensures.alone os) (c.plan_for.ensures.alone os (subst (Contains os) (sym named) mine))

pub returns-in-Ok-Some-clause-own : goal.returns-in-Ok-Some-clause-own
returns-in-Ok-Some-clause-own g c os mine honest content H held stands lawful =
    let o = c.args.owner.now in
    let key = c.args.key.now in
    let q = c.args.request.now in
    let changes = c.plan_for.result.changes.items in
    let named : c.in-Ok-Some.owner ≡ o = subst (λ found. IfSome found (λ name. name ≡ o)) c.in-Ok-Some.field-0-is c.in-Ok-Some.ensures.named in
    let its = subst (Contains os) (sym named) mine in
    let before = (c.plan_for.ensures.alone os its).goes.honest honest in
    let found = right_key o c.in-Ok-Some.owner (has_owner_key o key H) (sym c.in-Ok-Some.field-0-is ∙ c.in-Ok-Some.ensures.own os before content held H stands) in
    let known = key_known content H o key stands found.0 in
    IfOk-weaker (meaning_of_reply c.plan_for.result.reply) _ _ (λ reported plan. plan_admitted content H o key q reported changes found.0 (subst (λ p. IsPlanFor content H p q reported changes) found.1 plan))
    (c.plan_for.ensures.own os its honest content H (((c.in-Ok-Some.ensures.alone os).keeps before).content content held) stands lawful (subst (λ p. owner_known H p ≡ true) (sym found.1) known)
    (subst (λ p. same_bytes p house_name ≡ false) (sym found.1) (not_house_by H o key found.0)))

pub returns-in-Ok-None-clause-own : goal.returns-in-Ok-None-clause-own
returns-in-Ok-None-clause-own g c os mine honest content H held stands lawful =
    let o = c.args.owner.now in
    let key = c.args.key.now in
    let wrong = wrong_key o (has_owner_key o key H) (sym c.in-Ok-None.field-0-is ∙ c.in-Ok-None.ensures.own os honest content held H stands) in
    rw (c.unchanged.ensures.reply, c.unchanged.ensures.changes) (plan_forbidden content H o key c.args.request.now stands wrong)

pub returns-in-Ok-Some-clause-quiet : goal.returns-in-Ok-Some-clause-quiet
returns-in-Ok-Some-clause-quiet g c = λ os mine.
    let named : c.in-Ok-Some.owner ≡ c.args.owner.now = subst (λ found. IfSome found (λ name. name ≡ c.args.owner.now)) c.in-Ok-Some.field-0-is c.in-Ok-Some.ensures.named in
    let its = subst (Contains os) (sym named) mine in
    record {
      quiet = c.plan_for.ensures.idle.quiet;
      once = λ honest content held placing asks there.
          let before = (c.plan_for.ensures.alone os its).goes.honest honest in
          (c.plan_for.ensures.quiet os its).once honest content (((c.in-Ok-Some.ensures.alone os).keeps before).content content held) placing asks
          (subst (λ p. is_some (order_at (content.rows p) placing.order) ≡ true) (sym named) there);
    }

pub returns-in-Err-clause-alone : goal.returns-in-Err-clause-alone
returns-in-Err-clause-alone g c = λ os mine.
    let m = meaning_for g.K.Keep.meaning g.K.Keep.part os in
    let r = c.in-Err.ensures.alone os in
    subst (λ reply. IsReading m c.args.keep.now c.admit.new.keep (meaning_of_reply reply)) (sym c.unchanged-in-Err.ensures.reply) (read_fault m c.args.keep.now c.admit.new.keep c.in-Err.fault r.goes r.keeps r.whole)

pub returns-in-Ok-Some-clause-puts : goal.returns-in-Ok-Some-clause-puts
returns-in-Ok-Some-clause-puts g c =
    let named : c.in-Ok-Some.owner ≡ c.args.owner.now = subst (λ found. IfSome found (λ name. name ≡ c.args.owner.now)) c.in-Ok-Some.field-0-is c.in-Ok-Some.ensures.named in
    subst (λ o. PutsOnly o c.plan_for.result.changes.items) named c.plan_for.ensures.puts

pub returns-in-Ok-Some-clause-others : goal.returns-in-Ok-Some-clause-others
returns-in-Ok-Some-clause-others g c = λ os.
    let m = meaning_for g.K.Keep.meaning g.K.Keep.part os in
    kept_then m c.args.keep.now c.admit.new.keep c.plan_for.new.keep _ _ (kept_of m (c.in-Ok-Some.ensures.alone os)) (c.plan_for.ensures.others os)

pub returns-in-Err-clause-others : goal.returns-in-Err-clause-others
returns-in-Err-clause-others g c = λ os.
    let m = meaning_for g.K.Keep.meaning g.K.Keep.part os in
    subst (λ reply. KeepsHeld m c.args.keep.now c.admit.new.keep (meaning_of_reply reply)) (sym c.unchanged-in-Err.ensures.reply)
    (kept_fault m c.args.keep.now c.admit.new.keep c.in-Err.fault (kept_of m (c.in-Err.ensures.alone os)))
