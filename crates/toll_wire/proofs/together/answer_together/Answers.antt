use Rattle.std.proofs.Common.{◌≡◌, length, Ok, arith, subst}
use Rattle.toll_keep.specs.Meaning.{meaning_for}
use Rattle.toll_desk.specs.Outcome.{finished}
use Rattle.toll_wire.proofs.Common.{IsKeepStep}
use Rattle.toll_wire.proofs.GroupSteps.{outs_of, replies_count, together_keeps, together_refused, together_step, undone_keeps}
use Rattle.toll_wire.specs.Groups.{LeavesHeld, group_steps}
use Rattle.toll_wire.proofs.together.answer_together.Goals as goal

pub returns-in-Ok-commit-clause-served : goal.returns-in-Ok-commit-clause-served
returns-in-Ok-commit-clause-served g c =
    let m = g.K.Keep.meaning in
    let group = c.in-Ok.group in
    let (sayings, is, holding) = c.in-Ok.ensures.holds in
    let step =
    subst (λ r. IsKeepStep m group_steps c.args.keep.now sayings (outs_of sayings (finished (Ok group.replies.items) r)) c.commit.new.keep) c.in-Ok-commit.is
    (together_step m g.met.K.Keep.settled c.args.keep.now c.hold_group.new.keep c.commit.new.keep is.first sayings is.said is.apart group.replies.items group.changes.items _ c.deref.ensures.value holding c.commit.result (c.commit.ensures.made)) in
    (sayings, is, step)

pub returns-in-Err-commit-clause-served : goal.returns-in-Err-commit-clause-served
returns-in-Err-commit-clause-served g c =
    let m = g.K.Keep.meaning in
    let group = c.in-Ok.group in
    let (sayings, is, holding) = c.in-Ok.ensures.holds in
    let step =
    subst (λ r. IsKeepStep m group_steps c.args.keep.now sayings (outs_of sayings (finished (Ok group.replies.items) r)) c.commit.new.keep) c.in-Err-commit.is
    (together_step m g.met.K.Keep.settled c.args.keep.now c.hold_group.new.keep c.commit.new.keep is.first sayings is.said is.apart group.replies.items group.changes.items _ c.deref.ensures.value holding c.commit.result (c.commit.ensures.made)) in
    let long = replies_count sayings group.replies.items holding.tells in
    let count : c.len.result ≡ length sayings = omega (arith, group.replies.ok) in
    (sayings, is, count, step, together_refused m g.met.K.Keep.settled c.args.keep.now c.hold_group.new.keep c.commit.new.keep is.first sayings is.said is.apart group.replies.items group.changes.items _ c.deref.ensures.value holding c.commit.result (c.commit.ensures.made) c.in-Err-commit.fault c.in-Err-commit.is)

pub returns-in-Ok-commit-clause-alone : goal.returns-in-Ok-commit-clause-alone
returns-in-Ok-commit-clause-alone g c = λ os each.
    let m = meaning_for g.K.Keep.meaning g.K.Keep.part os in
    let group = c.in-Ok.group in
    let (sayings, is, holding) = c.in-Ok.ensures.alone os each in
    let step =
    subst (λ r. IsKeepStep m group_steps c.args.keep.now sayings (outs_of sayings (finished (Ok group.replies.items) r)) c.commit.new.keep) c.in-Ok-commit.is
    (together_step m (g.met.K.Keep.settled_for os) c.args.keep.now c.hold_group.new.keep c.commit.new.keep is.first sayings is.said is.apart group.replies.items group.changes.items _ c.deref.ensures.value holding c.commit.result (c.commit.ensures.alone os)) in
    (sayings, is, step)

pub returns-in-Err-commit-clause-alone : goal.returns-in-Err-commit-clause-alone
returns-in-Err-commit-clause-alone g c = λ os each.
    let m = meaning_for g.K.Keep.meaning g.K.Keep.part os in
    let group = c.in-Ok.group in
    let (sayings, is, holding) = c.in-Ok.ensures.alone os each in
    let step =
    subst (λ r. IsKeepStep m group_steps c.args.keep.now sayings (outs_of sayings (finished (Ok group.replies.items) r)) c.commit.new.keep) c.in-Err-commit.is
    (together_step m (g.met.K.Keep.settled_for os) c.args.keep.now c.hold_group.new.keep c.commit.new.keep is.first sayings is.said is.apart group.replies.items group.changes.items _ c.deref.ensures.value holding c.commit.result (c.commit.ensures.alone os)) in
    let long = replies_count sayings group.replies.items holding.tells in
    let count : c.len.result ≡ length sayings = omega (arith, group.replies.ok) in
    (sayings, is, count, step, together_refused m (g.met.K.Keep.settled_for os) c.args.keep.now c.hold_group.new.keep c.commit.new.keep is.first sayings is.said is.apart group.replies.items group.changes.items _ c.deref.ensures.value holding c.commit.result (c.commit.ensures.alone os) c.in-Err-commit.fault c.in-Err-commit.is)

pub returns-in-Ok-commit-clause-others : goal.returns-in-Ok-commit-clause-others
returns-in-Ok-commit-clause-others g c = λ os each.
    let m = meaning_for g.K.Keep.meaning g.K.Keep.part os in
    subst (LeavesHeld m c.args.keep.now c.commit.new.keep) c.in-Ok-commit.is
    (together_keeps m c.args.keep.now c.hold_group.new.keep c.commit.new.keep os c.in-Ok.group _ c.deref.ensures.value c.commit.result (c.commit.ensures.alone os)
    (c.in-Ok.ensures.others os each) (c.commit.ensures.others os))

pub returns-in-Err-commit-clause-others : goal.returns-in-Err-commit-clause-others
returns-in-Err-commit-clause-others g c = λ os each.
    let m = meaning_for g.K.Keep.meaning g.K.Keep.part os in
    subst (LeavesHeld m c.args.keep.now c.commit.new.keep) c.in-Err-commit.is
    (together_keeps m c.args.keep.now c.hold_group.new.keep c.commit.new.keep os c.in-Ok.group _ c.deref.ensures.value c.commit.result (c.commit.ensures.alone os)
    (c.in-Ok.ensures.others os each) (c.commit.ensures.others os))

pub returns-in-Err-clause-others : goal.returns-in-Err-clause-others
returns-in-Err-clause-others g c = λ os each.
    undone_keeps (meaning_for g.K.Keep.meaning g.K.Keep.part os) c.args.keep.now c.hold_group.new.keep os c.in-Err.fault (c.in-Err.ensures.others os each)
