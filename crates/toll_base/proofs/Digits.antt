-- Texts of decimal digits.
use Rattle.std.proofs.Common.{◌≡◌, ℕ, ◌≤◌, true, length, Result, Ok, nat_le, rules, arith}
use Rattle.toll_base.proofs.Common.{list_all, nat_tests, Bytes}
use Rattle.std.specs.Str.{IsUtf8}
use Rattle.std.specs.Str.Parse.{ParsesUnsigned, digits_value}
use Rattle.std.proofs.lemmas.Str.{IsUtf8-from_ascii}
use Rattle.std.proofs.lemmas.Str.Parse.{IsNumeralModel, IsDigitsTest, numerals_by_value, parse_gives, digits_value_short}
use Rattle.std.proofs.lemmas.Fmt.{IsAscii-from_digits}
use Rattle.toll_base.specs.Values.{is_digit, is_text_of}
use Rattle.toll_base.proofs.Bools.{all_three}

pub tests_digits : IsDigitsTest (λ ds. list_all is_digit ds ≡ true)
tests_digits = (search rules)

pub digits_model : IsNumeralModel (λ ds. list_all is_digit ds ≡ true) (digits_value 10)
digits_model = numerals_by_value _ tests_digits

-- what a text of 1 to 10 digits is
record IsShortNumeral (bytes : Bytes) : Type 0 where
  some : 1 ≤ length bytes
  few : length bytes ≤ 10
  digits : list_all is_digit bytes ≡ true

short_numeral : (bytes : Bytes) → is_text_of is_digit 1 10 bytes ≡ true → IsShortNumeral bytes
short_numeral bytes h =
    let parts = all_three (nat_le 1 (length bytes)) (nat_le (length bytes) 10) (list_all is_digit bytes) h in
    record { some = grind (arith, nat_tests, parts.0); few = grind (arith, nat_tests, parts.1); digits = parts.2 }

-- it is read as the number that they write
pub digits_parsed : {E : Type 0} (bytes : Bytes) (r : Result ℕ E) → is_text_of is_digit 1 10 bytes ≡ true → ParsesUnsigned 64 10 bytes r → r ≡ Ok (digits_value 10 bytes)
digits_parsed bytes r h read =
    let numeral = short_numeral bytes h in
    parse_gives digits_model 64 bytes r read numeral.digits (omega (arith, numeral.some)) (omega (arith, digits_value_short digits_model bytes 10 numeral.digits numeral.few))

pub digits_are_text : (bytes : Bytes) → is_text_of is_digit 1 10 bytes ≡ true → IsUtf8 bytes
digits_are_text bytes h = IsUtf8-from_ascii bytes (IsAscii-from_digits bytes (digits_model.to bytes (short_numeral bytes h).digits))
