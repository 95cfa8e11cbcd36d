use Rattle.std.proofs.Common.{rules, sym, ◌∙◌}
use Rattle.toll_base.proofs.Common.{get_or_from_slice_get, key_cmp_at}
use Rattle.std.proofs.lemmas.Fn.{always_returns_same}
use Rattle.toll_base.proofs.MovePlaces.{place_searched, behind_all, less_exact}
use Rattle.toll_base.proofs.move_rows.search.Goals as goal

pub returns-then-is_lt-clause-place : goal.returns-then-is_lt-clause-place
returns-then-is_lt-clause-place c =
    behind_all c.args.rows.now c.args.places.now c.requires c.args.key.now c.in-Some.last.now (sym (get_or_from_slice_get c.args.places.now _ c.in-Some.last.now 0 (sym c.in-Some.ensures.value))) (sym c.compare_at.ensures ∙ less_exact _ (sym (c.if-is_lt.ensures)))

pub returns-clause-place : goal.returns-clause-place
returns-clause-place c =
    let facts = c.binary_search_by.ensures in
    place_searched c.args.rows.now c.args.places.now c.requires c.args.key.now _ facts.bound (facts.position (key_cmp_at c.args.rows.now c.args.key.now) (always_returns_same _ _ _ (λ a r f called. search rules)))
