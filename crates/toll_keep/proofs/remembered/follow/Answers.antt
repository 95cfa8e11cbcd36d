use Rattle.std.proofs.Common.{◌≡◌, false, sym, ap, ◌∙◌}
use Rattle.toll_keep.proofs.Common.{list_any, is_put_for}
use Rattle.toll_keep.proofs.RememberedLemmas.{none_put}
use Rattle.toll_keep.proofs.remembered.follow.Goals as goal

pub returns-then-not-has_put_for : goal.returns-then-not-has_put_for
returns-then-not-has_put_for c =
    let changes = c.args.changes.now in
    let slice = c.args.slice.now in
    let own = ap (λ o. list_any (is_put_for o) changes) (sym c.owner.ensures.owner) in
    let none : list_any (is_put_for slice.owner) changes ≡ false = own ∙ sym c.has_put_for.ensures ∙ c.if-not-has_put_for.true in
    sym (none_put changes slice none)
