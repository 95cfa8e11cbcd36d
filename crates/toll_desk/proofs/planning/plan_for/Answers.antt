use Rattle.std.proofs.Common.{◌≡◌, true, false, Contains, IfSome, sym, ap, subst, ◌∙◌}
use Rattle.toll_keep.proofs.Calls.{kept_as, kept_fault}
use Rattle.toll_keep.specs.CallEffects.{IsReading}
use Rattle.toll_keep.specs.HeldFor.{KeepsHeld}
use Rattle.toll_keep.specs.Meaning.{meaning_for}
use Rattle.toll_desk.proofs.Common.{false≢true, IfOk-weaker, read_fault, read_ok, order_at, owner_known, house_name, same_bytes, IsRowsOf, is_some}
use Rattle.toll_history.specs.OwnChanges.{PutsOnly}
use Rattle.toll_desk.specs.Translations.{meaning_of_reply}
use Rattle.toll_desk.proofs.OwnerPlans.{slice_read, unread_is_unknown, plan_lift}
use Rattle.toll_desk.proofs.planning.plan_for.Goals as goal

pub returns-in-Ok-clause-idle : goal.returns-in-Ok-clause-idle
returns-in-Ok-clause-idle g c = record {
  quiet = c.in-Ok.ensures.idle.quiet;
  once = λ honest content held placing asks is_there.
      let before = (c.plan_over.ensures.kept honest).0 in
      let is = slice_read content c.args.owner.now c.in-Ok-Some.slice (sym c.in-Ok-Some.field-0-is ∙ c.in-Ok-Some.ensures.reads before content held) in
      c.in-Ok.ensures.idle.once placing asks (subst (λ s. is_some (order_at s placing.order) ≡ true) (sym is) is_there);
}

pub returns-in-Ok-clause-plan : goal.returns-in-Ok-clause-plan
returns-in-Ok-clause-plan g c honest content H held stands lawful known other =
    let o = c.args.owner.now in
    let s = c.in-Ok-Some.slice in
    let before = (c.plan_over.ensures.kept honest).0 in
    let is = slice_read content o s (sym c.in-Ok-Some.field-0-is ∙ c.in-Ok-Some.ensures.reads before content held) in
    let named : s.owner ≡ o = ap (λ t. t.owner) is ∙ stands.own o in
    IfOk-weaker (meaning_of_reply c.in-Ok.planned.reply) _ _ (λ reported plan. plan_lift content H o c.args.request.now s reported c.in-Ok.planned.changes.items stands lawful known is plan)
    (c.in-Ok.ensures.over honest content H ((c.in-Ok-Some.ensures.reading.keeps before).content content held) stands lawful
    (subst (IsRowsOf H) (sym is) (stands.known o known)) (subst (λ p. owner_known H p ≡ true) (sym named) known) (subst (λ p. same_bytes p house_name ≡ false) (sym named) other))

pub returns-in-Ok-None-clause-plan : goal.returns-in-Ok-None-clause-plan
returns-in-Ok-None-clause-plan g c honest content H held stands lawful known other =
    absurd (false≢true (sym (unread_is_unknown content H c.args.owner.now stands (sym c.in-Ok-None.field-0-is ∙ c.in-Ok-None.ensures.reads honest content held)) ∙ known))

pub returns-in-Ok-clause-alone : goal.returns-in-Ok-clause-alone
returns-in-Ok-clause-alone g c = λ os mine.
    let read = (c.in-Ok-Some.ensures.alone os mine).reading in
    let named : c.in-Ok-Some.slice.owner ≡ c.args.owner.now = subst (λ found. IfSome found (λ s. s.owner ≡ c.args.owner.now)) c.in-Ok-Some.field-0-is c.in-Ok-Some.ensures.named in
    c.in-Ok.ensures.alone os (subst (Contains os) (sym named) mine) c.args.keep.now (read_ok (meaning_for g.K.Keep.meaning g.K.Keep.part os) c.args.keep.now c.slice.new.self _ tt read.goes read.keeps)

pub returns-in-Ok-clause-quiet : goal.returns-in-Ok-clause-quiet
returns-in-Ok-clause-quiet g c = λ os mine. record {
  quiet = c.in-Ok.ensures.idle.quiet;
  once = λ honest content held placing asks is_there.
      let before = (c.plan_over.ensures.stays os honest).0 in
      let is = slice_read content c.args.owner.now c.in-Ok-Some.slice (sym c.in-Ok-Some.field-0-is ∙ (c.in-Ok-Some.ensures.alone os mine).reads before content held) in
      c.in-Ok.ensures.idle.once placing asks (subst (λ s. is_some (order_at s placing.order) ≡ true) (sym is) is_there);
}

pub returns-in-Ok-clause-own : goal.returns-in-Ok-clause-own
returns-in-Ok-clause-own g c os mine honest content H held stands lawful known other =
    let o = c.args.owner.now in
    let s = c.in-Ok-Some.slice in
    let read = c.in-Ok-Some.ensures.alone os mine in
    let before = (c.plan_over.ensures.stays os honest).0 in
    let is = slice_read content o s (sym c.in-Ok-Some.field-0-is ∙ read.reads before content held) in
    let named : s.owner ≡ o = ap (λ t. t.owner) is ∙ stands.own o in
    IfOk-weaker (meaning_of_reply c.in-Ok.planned.reply) _ _ (λ reported plan. plan_lift content H o c.args.request.now s reported c.in-Ok.planned.changes.items stands lawful known is plan)
    (c.in-Ok.ensures.own os (subst (Contains os) (sym named) mine) honest content H ((read.reading.keeps before).content content held) stands lawful
    (subst (IsRowsOf H) (sym is) (stands.known o known)) (subst (λ p. owner_known H p ≡ true) (sym named) known) (subst (λ p. same_bytes p house_name ≡ false) (sym named) other))

pub returns-in-Ok-None-clause-own : goal.returns-in-Ok-None-clause-own
returns-in-Ok-None-clause-own g c os mine honest content H held stands lawful known other =
    absurd (false≢true (sym (unread_is_unknown content H c.args.owner.now stands (sym c.in-Ok-None.field-0-is ∙ (c.in-Ok-None.ensures.alone os mine).reads honest content held)) ∙ known))

pub returns-clause-alone : goal.returns-clause-alone
returns-clause-alone g c = λ os mine.
    let m = meaning_for g.K.Keep.meaning g.K.Keep.part os in
    let r = (c.in-Err.ensures.alone os mine).reading in
    subst (λ reply. IsReading m c.args.keep.now c.slice.new.self (meaning_of_reply reply)) (sym c.unchanged-in-Err.ensures.reply) (read_fault m c.args.keep.now c.slice.new.self c.in-Err.fault r.goes r.keeps r.whole)

pub returns-in-Ok-clause-puts : goal.returns-in-Ok-clause-puts
returns-in-Ok-clause-puts g c =
    let named : c.in-Ok-Some.slice.owner ≡ c.args.owner.now = subst (λ found. IfSome found (λ s. s.owner ≡ c.args.owner.now)) c.in-Ok-Some.field-0-is c.in-Ok-Some.ensures.named in
    subst (λ o. PutsOnly o c.in-Ok.planned.changes.items) named c.in-Ok.ensures.puts

pub returns-in-Ok-clause-others : goal.returns-in-Ok-clause-others
returns-in-Ok-clause-others g c = λ os.
    c.in-Ok.ensures.others os c.args.keep.now (kept_as (meaning_for g.K.Keep.meaning g.K.Keep.part os) c.args.keep.now c.slice.new.self _ tt (c.in-Ok-Some.ensures.others os))

pub returns-clause-others : goal.returns-clause-others
returns-clause-others g c = λ os.
    let m = meaning_for g.K.Keep.meaning g.K.Keep.part os in
    subst (λ reply. KeepsHeld m c.args.keep.now c.slice.new.self (meaning_of_reply reply)) (sym c.unchanged-in-Err.ensures.reply) (kept_fault m c.args.keep.now c.slice.new.self c.in-Err.fault (c.in-Err.ensures.others os))
