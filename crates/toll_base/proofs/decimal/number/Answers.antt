use Rattle.std.proofs.Common.{◌≡◌, ◌∙◌, sym, ap, true, refl}
use Rattle.std.specs.Result.{result_ok}
use Rattle.toll_base.specs.Values as value
use Rattle.toll_base.proofs.Digits.{digits_parsed, digits_are_text}
use Rattle.toll_base.proofs.decimal.number.Goals as goal

pub returns-in-Ok : goal.returns-in-Ok
returns-in-Ok c =
    let digits : value.is_text_of value.is_digit 1 10 c.args.bytes.now ≡ true = sym c.if-not-is_decimal.ensures in
    let read = digits_parsed c.in-Ok.digits.now c.parse.result (rw c.in-Ok.ensures.cases.0 digits) c.parse.ensures.value.0 in
    c.ok.ensures.value ∙ ap result_ok read ∙ rw (c.in-Ok.ensures.cases.0, digits) refl

pub returns-in-Err : goal.returns-in-Err
returns-in-Err c = absurd (c.in-Err.ensures.cases.0 (digits_are_text c.args.bytes.now (sym c.if-not-is_decimal.ensures)))
