-- Histories: the accepted commands, the newest first, and an owner's part in them.
use Rattle.std.specs.Prelude.{ℕ, Bool, true, false, ◌||◌, Option, Some, None, List, map, filter}
use Rattle.toll_history.specs.Common.{list_any, Bytes, same_bytes, house_name, count, first_some}
use Rattle.toll_history.specs.Command.{Action, AddOwner, AddUnit, Command}

abbrev pub History : Type 0
History = List Command

-- the commands that concern this owner
unfoldable pub part : Bytes → History → History
part o H = filter (λ c. same_bytes c.owner o) H

-- what those commands do
unfoldable pub acts : Bytes → History → List Action
acts o H = map (λ c. c.action) (filter (λ c. same_bytes c.owner o) H)

-- ---- owners

abbrev pub key_added : Action → Option Bytes
key_added (AddOwner key) = Some key
key_added _ = None

abbrev pub adds_owner : Action → Bool
adds_owner (AddOwner key) = true
adds_owner _ = false

-- the key of an owner that was added
abbrev pub owner_key : List Action → Option Bytes
owner_key own = first_some key_added own

-- whether the owner is HOUSE or was added
abbrev pub owner_known : History → Bytes → Bool
owner_known H o = same_bytes o house_name || list_any adds_owner (acts o H)

-- how many owners were added
abbrev pub count_owners : History → ℕ
count_owners H = count (λ c. adds_owner c.action) H

-- ---- units, which are the plant's, whoever's command adds them

abbrev pub adds_unit : Bytes → Action → Bool
adds_unit unit (AddUnit u) = same_bytes u unit
adds_unit unit _ = false

abbrev pub adds_some_unit : Action → Bool
adds_some_unit (AddUnit u) = true
adds_some_unit _ = false

abbrev pub unit_known : History → Bytes → Bool
unit_known H unit = list_any (λ c. adds_unit unit c.action) H

-- how many units were added
abbrev pub count_units : History → ℕ
count_units H = count (λ c. adds_some_unit c.action) H
