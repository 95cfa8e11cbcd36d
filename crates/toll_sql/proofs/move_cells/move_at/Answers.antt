use Rattle.std.proofs.Common.{◌≡◌, ℕ, pos, refl, ap, ◌∙◌}
use Rattle.toll_sql.proofs.Common.{Value, Int, column}
use Rattle.toll_sql.proofs.MoveKinds.{value_text, unshown}
use Rattle.toll_sql.proofs.move_cells.move_at.Goals as goal

number : (v : Value) (m n : ℕ) → v ≡ Int (pos m) → m ≡ n → v ≡ Int (pos n)
number v m n shown is = shown ∙ ap (λ n. Int (pos n)) is

pub returns-in_err-lot-in-2-clause-none : goal.returns-in_err-lot-in-2-clause-none
returns-in_err-lot-in-2-clause-none c none o m own =
    let row = c.args.row.now in
    unshown 2 o row m (number _ _ 2 c.in_ok-number_at.ensures.some c.in-2.is)
    (λ v s. c.in_err-lot-in-2.ensures.none refl o (value_text (column row 4)) (value_text (column row 5)) own v.0 v.1 (assumption s))

pub returns-in_err-lot-in-3-clause-none : goal.returns-in_err-lot-in-3-clause-none
returns-in_err-lot-in-3-clause-none c none o m own =
    let row = c.args.row.now in
    unshown 3 o row m (number _ _ 3 c.in_ok-number_at.ensures.some c.in-3.is)
    (λ v s. c.in_err-lot-in-3.ensures.none refl o (value_text (column row 4)) (value_text (column row 5)) own v.0 v.1 (assumption s))

pub returns-in-0-clause-none : goal.returns-in-0-clause-none
returns-in-0-clause-none c none o m own = unshown 0 o c.args.row.now m (number _ _ 0 c.in_ok-number_at.ensures.some c.in-0.is) (c.receipt_at.ensures.none none o _ _ _ own)

pub returns-in-1-clause-none : goal.returns-in-1-clause-none
returns-in-1-clause-none c none o m own = unshown 1 o c.args.row.now m (number _ _ 1 c.in_ok-number_at.ensures.some c.in-1.is) (c.split_at.ensures.none none o _ _ _ own)

pub returns-in-4-clause-none : goal.returns-in-4-clause-none
returns-in-4-clause-none c none o m own = unshown 4 o c.args.row.now m (number _ _ 4 c.in_ok-number_at.ensures.some c.in-4.is) (c.actual_at.ensures.none none o _ _ _ _ _ _)

pub returns-in-5-clause-none : goal.returns-in-5-clause-none
returns-in-5-clause-none c none o m own = unshown 5 o c.args.row.now m (number _ _ 5 c.in_ok-number_at.ensures.some c.in-5.is) (c.actual_at-in-5.ensures.none none o _ _ _ _ _ _)
