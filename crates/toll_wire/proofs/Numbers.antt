-- The decimal texts of batches' numbers.
use Rattle.std.proofs.Common.{◌≡◌, ◌∙◌, ℕ, ◌<◌, ◌≤◌, true, false, Bool, [], ◌∷◌, length, take, get_or, refl, sym, ap, subst, arith, Some, None, Result, Ok, Err, nat_le, decimal, nat_eq, ◌&&◌, if◌then◌else◌}
use Rattle.toll_wire.proofs.Common.{OkIff, result_ok, list_all, and_parts, and_from, nat_tests, Decides-eqb, decimal-digits_value, decimal_nonempty, digits_decimal, digits_value-decimal, first_decimal, length-decimal-le, starts_is, Bytes, IsBatchNo, is_digit, is_text_of, number_of, IsNumberRead}
use Rattle.std.specs.Cmp.Lexicographic.{pointwise}
use Rattle.std.specs.Str.Parse.{digits_value}
use Rattle.std.proofs.lemmas.Str.Parse.{digits_value_short}
use Rattle.toll_base.specs.declared.refusal.Refusal.{Refusal}
pub use Rattle.toll_base.proofs.Digits.{digits_model}

-- ---- a zero in front

starts_zero : (text : Bytes) → pointwise nat_eq (48 ∷ []) (take 1 text) ≡ true → get_or text 0 0 ≡ 48
starts_zero text e = ap (λ t. get_or t 0 0) ((starts_is Decides-eqb text (48 ∷ []) (pointwise nat_eq (48 ∷ []) (take 1 text)) refl).0 e)

-- a number's text begins with no zero
pub no_zero : (text : Bytes) (n : ℕ) → pointwise nat_eq (48 ∷ []) (take 1 text) ≡ true → IsBatchNo n → text ≡ decimal n → ⊥
no_zero text n zero is e =
    let first = first_decimal n (omega arith) (omega arith) in
    let same : get_or text 0 0 ≡ get_or (decimal n) 0 0 = ap (λ t. get_or t 0 0) e in
    let begins = starts_zero text zero in
    omega arith

front_zero : (text : Bytes) → 0 < length text → get_or text 0 0 ≡ 48 → pointwise nat_eq (48 ∷ []) (take 1 text) ≡ true
front_zero [] some e = absurd (omega arith)
front_zero (b ∷ text) some e = rw e refl

-- ---- there and back

-- digits that are few
record IsFewDigits (text : Bytes) : Type 0 where
  some : 1 ≤ length text
  few : length text ≤ 10
  digits : list_all is_digit text ≡ true

few_digits : (text : Bytes) → is_text_of is_digit 1 10 text ≡ true → IsFewDigits text
few_digits text e =
    let outer = and_parts (nat_le 1 (length text) && nat_le (length text) 10) (list_all is_digit text) e in
    let inner = and_parts (nat_le 1 (length text)) (nat_le (length text) 10) outer.0 in
    record { some = grind (arith, nat_tests, inner.0); few = grind (arith, nat_tests, inner.1); digits = outer.1 }

number_of_decimal : (n : ℕ) → IsBatchNo n → number_of (decimal n) ≡ Some n
number_of_decimal n is =
    let nonempty = decimal_nonempty n (omega arith) in
    let short = length-decimal-le 2 n (omega arith) (omega arith) (omega arith) in
    let low : nat_le 1 (length (decimal n)) ≡ true = grind (arith, nat_tests) in
    let high : nat_le (length (decimal n)) 10 ≡ true = grind (arith, nat_tests) in
    let digits = digits_decimal digits_model n (omega arith) in
    let whole : is_text_of is_digit 1 10 (decimal n) ≡ true = and_from _ _ (and_from _ _ low high) digits in
    ap (λ b. if b then Some (digits_value 10 (decimal n)) else None) whole ∙ ap (λ k. Some k) (digits_value-decimal digits_model n (omega arith))

some_if_taken : (b : Bool) (n m : ℕ) → (if b then Some n else None) ≡ Some m → (b ≡ true) × (n ≡ m)
some_if_taken true n m e = (refl, cc e)
some_if_taken false n m e = cc e

decimal_of_number : (text : Bytes) (m : ℕ) → number_of text ≡ Some m → pointwise nat_eq (48 ∷ []) (take 1 text) ≡ false → text ≡ decimal m
decimal_of_number text m e none =
    let parts = some_if_taken (is_text_of is_digit 1 10 text) (digits_value 10 text) m e in
    let few = few_digits text parts.0 in
    let short = digits_value_short digits_model text 10 few.digits few.few in
    let front : get_or text 0 0 ≡ 48 → length text ≡ 1 = λ z. cc (front_zero text (omega (arith, few.some)) z, none) in
    sym (decimal-digits_value digits_model text few.digits (omega (arith, few.some)) front (omega (arith, short))) ∙ ap decimal parts.1

-- a text that is no number is no number's decimal text
pub no_number : (text : Bytes) (n : ℕ) → number_of text ≡ None → IsBatchNo n → text ≡ decimal n → ⊥
no_number text n none is e =
    let some = number_of_decimal n is in
    let same = ap number_of e in
    cc

-- a number that was read is within the bounds, or none that is has this text
pub number_read : (text : Bytes) (m : ℕ) (r : Result ℕ Refusal) → number_of text ≡ Some m → pointwise nat_eq (48 ∷ []) (take 1 text) ≡ false
    → OkIff r (IsBatchNo m) m → IsNumberRead text (result_ok r)
number_read text m (Err why) read front none = λ n is e.
    let some = number_of_decimal n is in
    let same = ap number_of e in
    let number : n ≡ m = cc in
    none (subst IsBatchNo number is)
number_read text m (Ok n) read front some = (subst IsBatchNo (sym some.1) some.0, decimal_of_number text m read front ∙ ap decimal (sym some.1))
