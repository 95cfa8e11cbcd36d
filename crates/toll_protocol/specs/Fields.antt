-- The fields of a head, as pairs of a name and a value without the white space around it (RFC 9110, section 5).
use Rattle.std.specs.Prelude.{ℕ, ◌+◌, List, [], ◌∷◌, map, length, min, nat_lt, ◌&&◌, Bool, true, false, option_map, Option, Some, None, if◌then◌else◌}
use Rattle.std.specs.List.{filter}
use Rattle.std.specs.Str.{str_eq_ignore_ascii_case, all_ascii_digits}
use Rattle.std.specs.Str.Parse.{digits_value}
use Rattle.toll_protocol.specs.Limits.{body_limit}

abbrev pub Pair : Type 0
Pair = List ℕ × List ℕ

-- whether the field has this name, in any case of letters
abbrev pub is_named : List ℕ → Pair → Bool
is_named name field = str_eq_ignore_ascii_case field.0 name

-- the values of the fields with this name, in order
abbrev pub values_of : List ℕ → List Pair → List (List ℕ)
values_of name fields = map (λ f. f.1) (filter (is_named name) fields)

-- no value, one value, or several
pub data Seen : Type 0 where
  absent : Seen
  once : List ℕ → Seen
  several : Seen

abbrev pub found_among : List (List ℕ) → Seen
found_among [] = absent
found_among (v ∷ []) = once v
found_among (v ∷ w ∷ rest) = several

-- the fields with this name
abbrev pub fields_named : List ℕ → List Pair → Seen
fields_named name fields = found_among (values_of name fields)

abbrev pub is_present : Seen → Bool
is_present absent = false
is_present (once v) = true
is_present several = true

-- the value, if there is only one
abbrev pub value_if_once : Seen → Option (List ℕ)
value_if_once absent = None
value_if_once (once v) = Some v
value_if_once several = None

-- the number that one or more digits write
abbrev pub length_of : List ℕ → Option ℕ
length_of v = if nat_lt 0 (length v) && all_ascii_digits v then Some (digits_value 10 v) else None

-- the length of the body that the fields claim; 0 if there is none
abbrev pub length_claimed : Seen → Option ℕ
length_claimed absent = Some 0
length_claimed (once v) = length_of v
length_claimed several = None

-- a length; all lengths above the limit count as one above it
abbrev pub capped : Option ℕ → Option ℕ
capped len = option_map (λ n. min n (body_limit + 1)) len
