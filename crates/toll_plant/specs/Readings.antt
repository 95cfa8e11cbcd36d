-- How the values of a command are read.
use Rattle.std.specs.Prelude.{ℕ, ℤ, pos, neg_ℤ, nat_abs, ◌==◌, ◌&&◌, nat_le, [], ◌∷◌, find, codes, Option, Some, None, option_map, option_and_then, Result, Ok, Err, if◌then◌else◌}
use Rattle.toll_plant.specs.Common.{Bytes, same_bytes, where_so, Refusal, BadName, BadAmount}
use Rattle.toll_base.specs.States.{read_command}
use Rattle.toll_base.specs.ValueWords.{use_word}
use Rattle.toll_base.specs.Values.{is_measure, is_name, is_owner_key, number_of}
use Rattle.toll_base.specs.declared.bounded.TheConstants.{MOST_AMOUNT, MOST_BATCHES, MOST_DAY, MOST_SEGMENTS}
use Rattle.toll_base.specs.declared.role.Role.{Role}
use Rattle.toll_base.specs.declared.role.Role.TheVariants.{Consumed, Produced}
use Rattle.toll_base.specs.declared.value.TheConstants.{LEAST_VALUE, MOST_VALUE}
use Rattle.toll_trace.specs.declared.way.Way.{Way}
use Rattle.toll_trace.specs.declared.way.Way.TheVariants.{Back, Forward}
use Rattle.toll_plant.specs.declared.argument.ArgumentKind.{ArgumentKind}
use Rattle.toll_plant.specs.declared.argument.ArgumentKind.TheVariants as by
use Rattle.toll_plant.specs.declared.argument.ArgumentValue.{ArgumentValue}
use Rattle.toll_plant.specs.declared.argument.ArgumentValue.TheVariants as given

-- ---- words

-- the use of a material that the word names
abbrev pub role_of : Bytes → Option Role
role_of word = find (λ role. same_bytes word (use_word role)) (Consumed ∷ Produced ∷ [])

-- the word of a direction
abbrev pub way_word : Way → Bytes
way_word Back = codes "back"
way_word Forward = codes "forward"

-- the direction that the word names
abbrev pub way_of : Bytes → Option Way
way_of word = find (λ way. same_bytes word (way_word way)) (Back ∷ Forward ∷ [])

-- ---- numbers

-- the number that the bytes write, if it is within these bounds
abbrev pub number_within : (least most : ℕ) → Bytes → Option ℕ
number_within least most word = option_and_then (λ n. where_so (nat_le least n && nat_le n most) n) (number_of word)

-- the value of a test that the bytes write: a negative one has `M` before its size, and there is no negative 0
abbrev pub value_of : Bytes → Option ℤ
value_of [] = None
value_of (b ∷ word) =
    if b == 77
    then option_map (λ n. neg_ℤ (pos n)) (number_within 1 (nat_abs LEAST_VALUE) word)
    else option_map pos (number_within 0 (nat_abs MOST_VALUE) (b ∷ word))

-- ---- values

-- the value that was read, or this refusal if none was
abbrev pub or_refused : {A : Type 0} → Refusal → (A → ArgumentValue) → Option A → Result ArgumentValue Refusal
or_refused why made None = Err why
or_refused why made (Some value) = Ok (made value)

-- the value of a word that is read in this way, or the refusal of a word that can't be read
abbrev pub read_as : ArgumentKind → Bytes → Result ArgumentValue Refusal
read_as by.Name word = or_refused BadName given.Name (where_so (is_name word) word)
read_as by.OwnerKey word = or_refused BadName given.OwnerKey (where_so (is_owner_key word) word)
read_as by.Measure word = or_refused BadName given.Measure (where_so (is_measure word) word)
read_as by.Role word = or_refused BadName given.Role (role_of word)
read_as by.Way word = or_refused BadName given.Way (way_of word)
read_as by.StateCommand word = or_refused BadName given.StateCommand (read_command word)
read_as by.Amount word = or_refused BadAmount given.Amount (number_within 1 MOST_AMOUNT word)
read_as by.Day word = or_refused BadAmount given.Day (number_within 0 MOST_DAY word)
read_as by.Segment word = or_refused BadAmount given.Segment (number_within 1 MOST_SEGMENTS word)
read_as by.BatchNo word = or_refused BadAmount given.BatchNo (number_within 1 MOST_BATCHES word)
read_as by.Value word = or_refused BadAmount given.Value (value_of word)
