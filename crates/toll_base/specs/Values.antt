-- The values of the office: which bytes and which numbers they are.
use Rattle.std.specs.Prelude.{ℕ, ◌≤◌, ℤ, ◌≤ℤ◌, Bool, false, not, ◌&&◌, ◌||◌, ◌==◌, nat_le, Option, Some, None, if◌then◌else◌, [], ◌∷◌, length, codes}
use Rattle.std.specs.List.{list_all}
use Rattle.std.specs.Str.Parse.{digits_value}
use Rattle.toll_base.specs.Bytes.{Bytes}
use Rattle.toll_base.specs.declared.bounded.TheConstants.{MOST_AMOUNT, MOST_DAY, MOST_SEGMENTS, MOST_BATCHES}
use Rattle.toll_base.specs.declared.value.TheConstants.{LEAST_VALUE, MOST_VALUE}

abbrev pub is_capital : ℕ → Bool
is_capital b = nat_le 65 b && nat_le b 90

abbrev pub is_small : ℕ → Bool
is_small b = nat_le 97 b && nat_le b 122

abbrev pub is_digit : ℕ → Bool
is_digit b = nat_le 48 b && nat_le b 57

abbrev pub is_letter : ℕ → Bool
is_letter b = is_capital b || is_small b

abbrev pub is_letter_or_digit : ℕ → Bool
is_letter_or_digit b = is_letter b || is_digit b

-- a capital letter, a digit or a dash
abbrev pub is_name_byte : ℕ → Bool
is_name_byte b = is_capital b || is_digit b || b == 45

-- there is a first byte, and it is no dash
abbrev pub begins_well : Bytes → Bool
begins_well [] = false
begins_well (b ∷ bs) = not (b == 45)

-- the text has a length from `least` to `most`, of bytes that all pass the test
abbrev pub is_text_of : (ℕ → Bool) → (least most : ℕ) → Bytes → Bool
is_text_of passes least most bytes = nat_le least (length bytes) && nat_le (length bytes) most && list_all passes bytes

-- a name: 1 to 16 capital letters, digits and dashes, the first no dash
abbrev pub is_name : Bytes → Bool
is_name bytes = is_text_of is_name_byte 1 16 bytes && begins_well bytes

-- an owner's key: 8 to 32 letters and digits
abbrev pub is_owner_key : Bytes → Bool
is_owner_key bytes = is_text_of is_letter_or_digit 8 32 bytes

-- a measure: 1 to 8 letters
abbrev pub is_measure : Bytes → Bool
is_measure bytes = is_text_of is_letter 1 8 bytes

-- the plant's own owner
abbrev pub house_name : Bytes
house_name = codes "HOUSE"

-- the number that these bytes write: 1 to 10 decimal digits, leading zeros allowed
abbrev pub number_of : Bytes → Option ℕ
number_of bytes = if is_text_of is_digit 1 10 bytes then Some (digits_value 10 bytes) else None

-- ---- numbers

-- an amount of material
abbrev pub IsAmount : ℕ → Type 0
IsAmount n = (1 ≤ n) × (n ≤ MOST_AMOUNT)

-- a day
abbrev pub IsDay : ℕ → Type 0
IsDay n = n ≤ MOST_DAY

-- a segment of a recipe, or how many it has
abbrev pub IsSegment : ℕ → Type 0
IsSegment n = (1 ≤ n) × (n ≤ MOST_SEGMENTS)

-- a batch of an order, or how many it has
abbrev pub IsBatchNo : ℕ → Type 0
IsBatchNo n = (1 ≤ n) × (n ≤ MOST_BATCHES)

-- a value of a test, or a limit of it
abbrev pub IsValue : ℤ → Type 0
IsValue z = (LEAST_VALUE ≤ℤ z) × (z ≤ℤ MOST_VALUE)
