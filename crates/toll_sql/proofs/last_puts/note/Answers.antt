use Rattle.std.proofs.Common.{true, cond, ◌||◌, ap, ◌∙◌}
use Rattle.toll_sql.proofs.Common.{is_eq, are_putting, is_same, sublot_cmp}
use Rattle.toll_sql.proofs.PutAgain.{cond_or}
use Rattle.toll_sql.proofs.last_puts.note.Goals as goal

pub returns-in_ok-insert-in-Some-clause-noted : goal.returns-in_ok-insert-in-Some-clause-noted
returns-in_ok-insert-in-Some-clause-noted c later noted key =
    let own = c.in-Some.key in
    c.in_ok-insert-in-Some.ensures.updates.0 key
    ∙ ap (λ t. cond (is_eq (sublot_cmp own key)) true t) (noted key)
    ∙ cond_or (is_eq (sublot_cmp own key)) (are_putting later key)
    ∙ ap (λ put. is_same key put || are_putting later key) c.in-Some.ensures.key
