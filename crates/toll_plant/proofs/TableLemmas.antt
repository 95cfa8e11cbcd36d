-- Each line of the table makes a command of its values.
use Rattle.std.proofs.Common.{◌≡◌, ℕ, ℤ, ◌<◌, Bool, true, false, cond, List, [], ◌∷◌, length, drop, refl, subst, arith, Option, Some, None}
use Rattle.std.specs.Prelude.{◌==◌, ◌&&◌, IsSome, Result, Ok, Err, find, nat_le, option_and_then, nat_lt, if◌then◌else◌}
use Rattle.toll_plant.proofs.Common.{AllByRecursion, list_all, nat_tests, bytes_eq, leb-true, Bytes, IsAmount, is_measure, is_name, is_owner_key, number_of, where_so, Role, Refusal, BadName, BadAmount}
use Rattle.toll_base.specs.States.{read_command}
use Rattle.toll_base.specs.declared.state_command.StateCommand.{StateCommand}
use Rattle.toll_trace.specs.declared.way.Way.{Way}
use Rattle.toll_plant.specs.Commands.{command_from}
use Rattle.toll_plant.specs.Lines.{Argument, Line, line_named, fitting_line, takes_values}
use Rattle.toll_plant.specs.Readings.{number_within, or_refused, read_as, role_of, value_of, way_of}
use Rattle.toll_plant.specs.Table.{actual_line, command_lines}
use Rattle.toll_plant.specs.Words.{command_read, command_with, in_front, values_read}
use Rattle.toll_base.proofs.Bools.{both}
use Rattle.toll_base.proofs.Texts.{nat_eq-exact}
use Rattle.toll_plant.specs.declared.argument.ArgumentValue.{ArgumentValue}
use Rattle.toll_plant.specs.declared.argument.ArgumentValue.TheVariants as given
use Rattle.toll_plant.specs.declared.argument.ArgumentKind.{ArgumentKind}
use Rattle.toll_plant.specs.declared.argument.ArgumentKind.TheVariants as by

-- The fact holds of each value that is read in this way.
abbrev pub HoldsOfValues : ArgumentKind → (ArgumentValue → Type 0) → Type 0
HoldsOfValues by.Name P = (name : Bytes) → P (given.Name name)
HoldsOfValues by.OwnerKey P = (key : Bytes) → P (given.OwnerKey key)
HoldsOfValues by.Measure P = (measure : Bytes) → P (given.Measure measure)
HoldsOfValues by.Role P = (role : Role) → P (given.Role role)
HoldsOfValues by.Way P = (way : Way) → P (given.Way way)
HoldsOfValues by.StateCommand P = (command : StateCommand) → P (given.StateCommand command)
HoldsOfValues by.Amount P = (amount : ℕ) → IsAmount amount → P (given.Amount amount)
HoldsOfValues by.Day P = (day : ℕ) → P (given.Day day)
HoldsOfValues by.Segment P = (segment : ℕ) → P (given.Segment segment)
HoldsOfValues by.BatchNo P = (number : ℕ) → P (given.BatchNo number)
HoldsOfValues by.Value P = (value : ℤ) → P (given.Value value)

-- The fact holds of all lists of values that are read in these ways.
abbrev pub HoldsOfEach : List Argument → (List ArgumentValue → Type 0) → Type 0
HoldsOfEach [] P = P []
HoldsOfEach (a ∷ rest) P = HoldsOfValues a.reading (λ value. HoldsOfEach rest (λ values. P (value ∷ values)))

read_has : {A : Type 0} (why : Refusal) (made : A → ArgumentValue) (o : Option A) (P : ArgumentValue → Type 0) (v : ArgumentValue) → ((x : A) → P (made x)) → or_refused why made o ≡ Ok v → P v
read_has why made None P v all e = absurd (cc e)
read_has why made (Some x) P v all e = let same : made x ≡ v = cc in subst P same (all x)

-- An amount that was read is within its bounds.
amount_has : (word : Bytes) (o : Option ℕ) (P : ArgumentValue → Type 0) (v : ArgumentValue) → ((n : ℕ) → IsAmount n → P (given.Amount n))
    → or_refused BadAmount given.Amount (option_and_then (λ n. where_so (nat_le 1 n && nat_le n 1000000000) n) o) ≡ Ok v → P v
amount_has word None P v all e = absurd (cc e)
amount_has word (Some n) P v all e = on (nat_le 1 n && nat_le n 1000000000) refl e
  where
    on : (b : Bool) → (nat_le 1 n && nat_le n 1000000000) ≡ b → or_refused BadAmount given.Amount (where_so b n) ≡ Ok v → P v
    on true within is =
        let (least, most) = both (nat_le 1 n) (nat_le n 1000000000) within in
        let same : given.Amount n ≡ v = cc in
        subst P same (all n (leb-true 1 n least, leb-true n 1000000000 most))
    on false within is = absurd (cc is)

value_has : (r : ArgumentKind) (P : ArgumentValue → Type 0) (word : Bytes) (v : ArgumentValue) → HoldsOfValues r P → read_as r word ≡ Ok v → P v
value_has by.Name P word v all e = read_has BadName given.Name (where_so (is_name word) word) P v all e
value_has by.OwnerKey P word v all e = read_has BadName given.OwnerKey (where_so (is_owner_key word) word) P v all e
value_has by.Measure P word v all e = read_has BadName given.Measure (where_so (is_measure word) word) P v all e
value_has by.Role P word v all e = read_has BadName given.Role (role_of word) P v all e
value_has by.Way P word v all e = read_has BadName given.Way (way_of word) P v all e
value_has by.StateCommand P word v all e = read_has BadName given.StateCommand (read_command word) P v all e
value_has by.Amount P word v all e = amount_has word (number_of word) P v all e
value_has by.Day P word v all e = read_has BadAmount given.Day (number_within 0 9999999 word) P v all e
value_has by.Segment P word v all e = read_has BadAmount given.Segment (number_within 1 50 word) P v all e
value_has by.BatchNo P word v all e = read_has BadAmount given.BatchNo (number_within 1 99 word) P v all e
value_has by.Value P word v all e = read_has BadAmount given.Value (value_of word) P v all e

-- the first value and those after it, if all were read
record Parts (first : Result ArgumentValue Refusal) (behind : Result (List ArgumentValue) Refusal) (values : List ArgumentValue) : Type 0 where
  value : ArgumentValue
  others : List ArgumentValue
  read : first ≡ Ok value
  all_read : behind ≡ Ok others
  whole : value ∷ others ≡ values

parts : (first : Result ArgumentValue Refusal) (behind : Result (List ArgumentValue) Refusal) (values : List ArgumentValue) → in_front first behind ≡ Ok values → Parts first behind values
parts (Err why) behind values e = absurd (cc e)
parts (Ok value) (Err why) values e = absurd (cc e)
parts (Ok value) (Ok others) values e = record { value = value; others = others; read = refl; all_read = refl; whole = cc }

pub values_have : (arguments : List Argument) (P : List ArgumentValue → Type 0) (words : List Bytes) (values : List ArgumentValue) → length words ≡ length arguments
    → HoldsOfEach arguments P → values_read arguments words ≡ Ok values → P values
values_have [] P words values same all e = let whole : [] ≡ values = cc in subst P whole all
values_have (a ∷ rest) P [] values same all e = absurd (omega arith)
values_have (a ∷ rest) P (w ∷ words) values same all e =
    let p = parts (read_as a.reading w) (values_read rest words) values e in
    subst P p.whole
    (values_have rest (λ vs. P (p.value ∷ vs)) words p.others (omega arith)
    (value_has a.reading (λ v. HoldsOfEach rest (λ vs. P (v ∷ vs))) w p.value all p.read) p.all_read)

-- The values of the line make its command.
abbrev pub MakesCommand : Line → Type 0
MakesCommand l = HoldsOfEach l.values (λ values. IsSome (command_from l.command values))

-- a fact of one line, and of those after it
infixr 30 ◌and◌
◌and◌ : {A B : Type 0} → A → B → A × B
first and others = (first, others)

pub actual_makes : MakesCommand actual_line
actual_makes = λ key owner order number segment role material lot_owner lot sublot amount within day. refl

every_line : AllByRecursion MakesCommand command_lines
every_line =
    (λ owner key. refl)
    and (λ unit. refl)
    and (λ owner material measure. refl)
    and (λ owner material test low high. refl)
    and (λ owner recipe segments. refl)
    and (λ owner recipe segment role source material amount within. refl)
    and (λ order recipe batches. refl)
    and (λ order. refl)
    and (λ owner order unit. refl)
    and (λ owner order number command. refl)
    and (λ owner order number. refl)
    and (λ owner key material lot sublot amount within day. refl)
    and (λ owner key lot sublot target amount within day. refl)
    and (λ owner key lot sublot amount within day. refl)
    and (λ owner key lot sublot amount within day. refl)
    and (λ owner lot test value day. refl)
    and (λ lot. refl)
    and (λ lot. refl)
    and actual_makes
    and (λ owner key. refl)
    and (λ owner. refl)
    and (λ owner. refl)
    and (λ owner order number. refl)
    and (λ owner lot way. refl)
    and (λ owner lot. refl)
    and tt

found_has : {A : Type 0} (P : A → Type 0) (p : A → Bool) (xs : List A) (x : A) → AllByRecursion P xs → find p xs ≡ Some x → P x
found_has P p [] x all e = absurd (cc e)
found_has P p (y ∷ ys) x all e = on (p y) (found_has P p ys x all.1) e
  where
    on : (b : Bool) → (find p ys ≡ Some x → P x) → cond b (Some y) (find p ys) ≡ Some x → P x
    on true later e = let same : y ≡ x = cc in subst P same all.0
    on false later e = later e

table_all_so : {A : Type 0} (p : A → Bool) (xs : List A) → list_all p xs ≡ true → AllByRecursion (λ x. p x ≡ true) xs
table_all_so p [] so = tt
table_all_so p (x ∷ xs) so = let parts = both (p x) (list_all p xs) so in (parts.0, table_all_so p xs parts.1)

pub command_made : (l : Line) (words : List Bytes) (read : Result (List ArgumentValue) Refusal) → MakesCommand l → length words ≡ length l.values → values_read l.values words ≡ read
    → IsSome (command_read l.command read)
command_made l words (Err why) makes same e = refl
command_made l words (Ok values) makes same e = values_have l.values (λ vs. IsSome (command_from l.command vs)) words values same makes e

line_taken : (y : Option Line) (values : List Bytes) (l : Line)
    → option_and_then (λ m. if takes_values m values then Some m else None) y ≡ Some l → (y ≡ Some l) × (takes_values l values ≡ true)
line_taken None values l e = absurd (cc e)
line_taken (Some m) values l e = on (takes_values m values) refl e
  where
    on : (b : Bool) → takes_values m values ≡ b → (if b then Some m else None) ≡ Some l → (Some m ≡ Some l) × (takes_values l values ≡ true)
    on true is e = (e, let same : m ≡ l = cc in subst (λ (x : Line). takes_values x values ≡ true) same is)
    on false is e = absurd (cc e)

some_values : AllByRecursion (λ (l : Line). nat_lt 0 (length l.values) ≡ true) command_lines
some_values = table_all_so (λ (l : Line). nat_lt 0 (length l.values)) command_lines refl

-- Words that fit a line are its name and its values, of which there is at least one.
pub fits_line : (words : List Bytes) (l : Line) → fitting_line command_lines words ≡ Some l → (0 < length l.values) × (takes_values l (drop 1 words) ≡ true)
fits_line [] l e = absurd (cc e)
fits_line (name ∷ values) l e =
    let t = line_taken (line_named command_lines name) values l e in
    let some = found_has (λ (l : Line). nat_lt 0 (length l.values) ≡ true) (λ m. bytes_eq m.name name) command_lines l some_values t.0 in
    (grind (arith, nat_tests), t.1)

-- Words that fit a line ask for a command.
pub line_gives_command : (words : List Bytes) (l : Line) → fitting_line command_lines words ≡ Some l → IsSome (command_with l (drop 1 words))
line_gives_command [] l e = absurd (cc e)
line_gives_command (name ∷ values) l e =
    let t = line_taken (line_named command_lines name) values l e in
    let same = nat_eq-exact (length values) (length l.values) (both (length values == length l.values) _ t.1).0 in
    command_made l values (values_read l.values values) (found_has MakesCommand (λ m. bytes_eq m.name name) command_lines l every_line t.0) same refl
