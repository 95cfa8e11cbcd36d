-- Names and measures are texts.
use Rattle.std.proofs.Common.{◌≡◌, ℕ, zero, suc, ◌<◌, Bool, true, [], ◌∷◌, refl, arith, Result, Ok, Err}
use Rattle.toll_wire.proofs.Common.{Bytes, is_letter, is_measure, is_name, is_name_byte}
use Rattle.std.specs.Prelude.{IsTrue, IsUtf8, MatchResult, IsOk}
use Rattle.std.specs.Str.{IsAscii}
use Rattle.std.specs.List.{list_all}
use Rattle.std.proofs.lemmas.Bool.Decides.{nat_tests}
use Rattle.std.proofs.lemmas.Str.{IsUtf8-from_ascii}

-- bytes that pass a test which only ASCII passes
ascii_if_passed : (passes : ℕ → Bool) → ((b : ℕ) → passes b ≡ true → b < 128) → (bytes : Bytes) → list_all passes bytes ≡ true → IsAscii bytes
ascii_if_passed passes below [] e = λ i. omega arith
ascii_if_passed passes below (b ∷ bytes) e = by_index (ascii_if_passed passes below bytes (grind (arith, nat_tests))) (below b (grind (arith, nat_tests)))
  where
    by_index : IsAscii bytes → b < 128 → IsAscii (b ∷ bytes)
    by_index later first zero = first
    by_index later first (suc i) = later i

name_byte : (b : ℕ) → is_name_byte b ≡ true → b < 128
name_byte b e = grind (arith, nat_tests)

letter : (b : ℕ) → is_letter b ≡ true → b < 128
letter b e = grind (arith, nat_tests)

pub name_is_utf8 : (name : Bytes) → IsTrue (is_name name) → IsUtf8 name
name_is_utf8 name is = IsUtf8-from_ascii name (ascii_if_passed is_name_byte name_byte name (grind (arith, nat_tests)))

pub measure_text : (measure : Bytes) → IsTrue (is_measure measure) → IsUtf8 measure
measure_text measure is = IsUtf8-from_ascii measure (ascii_if_passed is_letter letter measure (grind (arith, nat_tests)))

-- what is text is read as text
pub read_as_text : {T E : Type 0} (r : Result T E) {bytes : Bytes} (P : T → Type 0) (Q : E → Type 0) → IsUtf8 bytes
    → MatchResult r P (λ e. (¬ (IsUtf8 bytes)) × Q e) → IsOk r
read_as_text (Ok t) P Q text read = refl
read_as_text (Err e) P Q text read = absurd (read.0 text)
