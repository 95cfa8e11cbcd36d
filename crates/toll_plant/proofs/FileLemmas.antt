-- How a file is read.
use Rattle.std.proofs.Common.{◌≡◌, ◌≤◌, ◌<◌, List, [], ◌∷◌, ◌-◌, length, take, drop, get_or, arith, map, refl, sym, ap, subst, ◌∙◌, Some, None}
use Rattle.std.specs.Prelude.{◌≢◌}
use Rattle.toll_plant.proofs.Common.{length-drop, take_all, AreRecords, Reached, Bytes}
use Rattle.csv.specs.Machine.{Read, next_record}
use Rattle.csv.specs.Records.{Row, fields_of}
use Rattle.csv.specs.declared.parser.Config.{Config}
use Rattle.csv.specs.declared.parser.State.{State}
use Rattle.toll_plant.specs.Files.{Fields, HasRecords, HasActuals, HasHeader, header}

-- A text has only one list of records.
one_list_of_records : (cfg : Config) (s : State) (text : Bytes) (rows others : List Fields) → AreRecords cfg s text rows → AreRecords cfg s text others → rows ≡ others
unfolding Reached
one_list_of_records cfg s text [] [] a b = refl
one_list_of_records cfg s text [] (q ∷ others) a b =
    let none : next_record cfg s [] [] text ≡ None = (λ i. next_record cfg (a.2.0 i) [] [] (a.2.1 i)) ∙ a.3 in
    let never : Some b.2.0 ≡ None = sym b.2.1 ∙ none in
    absurd (cc never)
one_list_of_records cfg s text (r ∷ rows) [] a b =
    let none : next_record cfg s [] [] text ≡ None = (λ i. next_record cfg (b.2.0 i) [] [] (b.2.1 i)) ∙ b.3 in
    let never : Some a.2.0 ≡ None = sym a.2.1 ∙ none in
    absurd (cc never)
one_list_of_records cfg s text (r ∷ rows) (q ∷ others) a b =
    let next : Some a.2.0 ≡ Some b.2.0 = sym a.2.1 ∙ b.2.1 in
    let same : a.2.0 ≡ b.2.0 = cc next in
    let first : r ≡ q = a.2.2 ∙ (ap (λ (p : Read). p.0) same ∙ sym b.2.2) in
    let rest = one_list_of_records cfg a.2.0.1 a.2.0.2 rows others (a.0, a.1, a.2.3, a.3) (subst (λ (p : Read). AreRecords cfg p.1 p.2 others) (sym same) (b.0, b.1, b.2.3, b.3)) in
    λ i. first i ∷ rest i

-- A file has only one list of records.
pub records_once : (file : Bytes) (rows others : List Fields) → HasRecords file rows → HasRecords file others → rows ≡ others
records_once file rows others = one_list_of_records _ _ _ rows others

-- The actuals follow the header.
pub under_header : (file : Bytes) (items rest : List Row) → HasRecords file (map fields_of items) → map fields_of items ≡ header ∷ map fields_of rest → HasActuals file (map fields_of rest)
under_header file items rest reads is = subst (HasRecords file) is reads

-- If the first record is not the header, the file hasn't the header.
pub no_header : (file : Bytes) (items : List Row) → HasRecords file (map fields_of items) → ((rows : List Fields) → map fields_of items ≢ header ∷ rows) → ¬ (HasHeader file)
no_header file items reads other has = other has.0 (records_once file (map fields_of items) (header ∷ has.0) reads has.1)

-- A file without records hasn't the header.
pub none_first : (items : List Row) → items ≡ [] → (rows : List Fields) → map fields_of items ≢ header ∷ rows
none_first items none rows same = let never : [] ≡ header ∷ rows = sym (ap (map fields_of) none) ∙ same in cc never

-- Neither has a file with another first record.
pub other_first : (items : List Row) (first : Row) (rest : List Row) → items ≡ first ∷ rest → ¬ (fields_of first ≡ header) → (rows : List Fields) → map fields_of items ≢ header ∷ rows
other_first items first rest whole is_not rows same =
    let both : fields_of first ∷ map fields_of rest ≡ header ∷ rows = sym (ap (map fields_of) whole) ∙ same in
    let first_same : fields_of first ≡ header = cc both in
    is_not first_same

-- the first row, and those after it
pub first_there : (items : List Row) (first : Row) → 1 ≤ length items → first ≡ get_or items 0 first → items ≡ first ∷ drop 1 items
first_there [] first some is = absurd (omega arith)
first_there (r ∷ items) first some is = λ i. sym is i ∷ items

pub rest_whole : (items : List Row) → take (length items - 1) (drop 1 items) ≡ drop 1 items
rest_whole items = take_all (length items - 1) (drop 1 items) (omega (arith, length-drop 1 items))

pub empty_if_below_one : (items : List Row) → length items < 1 → items ≡ []
empty_if_below_one [] none = refl
empty_if_below_one (r ∷ items) none = absurd (omega arith)

-- mapping over rows by way of their fields
pub map-map : {X Y Z : Type 0} (f : X → Y) (g : Y → Z) (xs : List X) → map (λ x. g (f x)) xs ≡ map g (map f xs)
map-map f g [] = refl
map-map f g (x ∷ xs) = ap (λ rest. g (f x) ∷ rest) (map-map f g xs)
