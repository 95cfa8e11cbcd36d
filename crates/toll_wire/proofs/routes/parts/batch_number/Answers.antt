use Rattle.std.proofs.Common.{◌∙◌, sym}
use Rattle.toll_wire.proofs.Numbers.{no_number, no_zero, number_read}
use Rattle.toll_wire.proofs.routes.parts.batch_number.Goals as goal

pub returns-then-starts_with : goal.returns-then-starts_with
returns-then-starts_with c n is = no_zero c.args.text.now n (sym c.starts_with.ensures.value ∙ c.if-starts_with.true) is

pub returns-in_err-number : goal.returns-in_err-number
returns-in_err-number c = rw c.from_residual.ensures (λ n is. no_number c.args.text.now n (sym c.in_err-number.ensures) is)

pub returns : goal.returns
returns c =
    rw c.ok.ensures.value
    (number_read c.args.text.now c.in_ok-number.field-0 c.new.result (sym c.in_ok-number.ensures)
    (sym c.starts_with.ensures.value ∙ c.if-starts_with.false) c.new.ensures.within)
