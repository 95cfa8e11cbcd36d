use Rattle.std.proofs.Common.{◌≡◌, ◌-◌, ◌∷◌, drop, reverse, ap, subst, sym, ◌∙◌, arith}
use Rattle.toll_sql.proofs.Common.{AllByRecursion, AreNoted, IsSublotValid, last_puts}
use Rattle.toll_sql.proofs.PutAgain.{one_before, one_kept, last_left}
use Rattle.toll_sql.proofs.last_puts.last_puts.Goals as goal

pub loop-i-preserved-in-Continue-branch-3 : goal.loop-i-preserved-in-Continue-branch-3
loop-i-preserved-in-Continue-branch-3 c =
    let changes = c.args.changes.now in
    let change = c.index-changes-i.result in
    let later = drop c.loop-i.i changes in
    let so_far = c.loop-i.invariant in
    let note = c.in_ok-note.ensures in
    let next : drop (c.loop-i.i - 1) changes ≡ change ∷ later = one_before changes c.loop-i.i change (omega (arith, c.loop-i-test.true)) (omega (arith, c.loop-i.auto.i)) c.index-changes-i.is in
    record {
      last = c.in_ok-push.ensures.items ∙ one_kept change later c.in_ok-note.field-0 (note.is_last later so_far.noted) c.loop-i.last.items so_far.last c.if-branch.true ∙ ap (λ left. reverse (last_puts left)) (sym next);
      noted = subst (λ left. AreNoted left c.note.new.noted) (sym next) (note.noted later so_far.noted);
      valid = subst (AllByRecursion IsSublotValid) (sym next) (note.valid, so_far.valid);
    }

pub loop-i-preserved : goal.loop-i-preserved
loop-i-preserved c =
    let changes = c.args.changes.now in
    let change = c.index-changes-i.result in
    let later = drop c.loop-i.i changes in
    let so_far = c.loop-i.invariant in
    let note = c.in_ok-note.ensures in
    let next : drop (c.loop-i.i - 1) changes ≡ change ∷ later = one_before changes c.loop-i.i change (omega (arith, c.loop-i-test.true)) (omega (arith, c.loop-i.auto.i)) c.index-changes-i.is in
    record {
      last = last_left change later c.in_ok-note.field-0 (note.is_last later so_far.noted) c.loop-i.last.items so_far.last c.if-branch.false ∙ ap (λ left. reverse (last_puts left)) (sym next);
      noted = subst (λ left. AreNoted left c.note.new.noted) (sym next) (note.noted later so_far.noted);
      valid = subst (AllByRecursion IsSublotValid) (sym next) (note.valid, so_far.valid);
    }
