-- The last of several puts of one sublot.
use Rattle.std.specs.Prelude.{◌≡◌, ◌^◌, nat_lt, Bool, false, if◌then◌else◌, Option, Some, None, IfSome, List, [], ◌∷◌}
use Rattle.std.specs.BTreeSet.{BTreeSet, contains}
use Rattle.std.specs.List.{list_any}
use Rattle.toll_sql.specs.Common.{Bytes, Ordering, SublotRow, bytes_cmp, is_eq}
use Rattle.std.specs.Ordering.{ordering_then}
use Rattle.toll_base.specs.declared.decision.Change.{Change}
use Rattle.toll_base.specs.declared.decision.Change.TheVariants.{Put}
use Rattle.toll_base.specs.declared.rows.Row.TheVariants as of
use Rattle.toll_sql.specs.Stores.{IsValidChange}
use Rattle.toll_sql.specs.declared.last_puts.SublotKey.{SublotKey}

-- the order of sublots: by the owner, then by the lot, then by the name
abbrev pub sublot_cmp : SublotKey → SublotKey → Ordering
sublot_cmp a b = ordering_then (bytes_cmp a.owner b.owner) (ordering_then (bytes_cmp a.lot b.lot) (bytes_cmp a.sublot b.sublot))

abbrev pub key_for : Bytes → SublotRow → SublotKey
key_for o row = record { owner = o; lot = row.lot; sublot = row.sublot }

-- the sublot that the change puts, if its amount fits a column
abbrev pub sublot_put : Change → Option SublotKey
sublot_put (Put o (of.Sublot row)) = if nat_lt row.amount (2 ^ 63) then Some (key_for o row) else None
sublot_put _ = None

abbrev pub is_same : SublotKey → Option SublotKey → Bool
is_same key None = false
is_same key (Some put) = is_eq (sublot_cmp put key)

-- whether one of these changes puts the sublot
abbrev pub are_putting : List Change → SublotKey → Bool
are_putting changes key = list_any (λ change. is_same key (sublot_put change)) changes

abbrev pub is_put_again : List Change → Option SublotKey → Bool
is_put_again later None = false
is_put_again later (Some key) = are_putting later key

-- the changes, in order, without the puts of a sublot that a later one puts again
abbrev pub last_puts : List Change → List Change
last_puts [] = []
last_puts (change ∷ later) = if is_put_again later (sublot_put change) then last_puts later else change ∷ last_puts later

-- A sublot that is put has valid values.
abbrev pub IsSublotValid : Change → Type 0
IsSublotValid change = IfSome (sublot_put change) (λ _. IsValidChange change)

-- The set has exactly the sublots that these changes put.
abbrev pub AreNoted : List Change → BTreeSet SublotKey → Type 0
AreNoted changes noted = (key : SublotKey) → contains sublot_cmp noted key ≡ are_putting changes key
