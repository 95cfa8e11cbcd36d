-- What is so of calls that read a keep, over the histories that its content stands for.
use Rattle.std.specs.Prelude.{◌≡◌, Option, Some, None}
use Rattle.toll_desk.specs.Common.{History, IsLawful, Bytes, house_name, Slice, Meaning, Content, slice_of}
use Rattle.toll_desk.specs.Representing.{Represents}
use Rattle.toll_desk.specs.declared.deciding.Both.{Both}

-- whatever lawful history the content that was held stands for, this is so of the two
abbrev pub Over : {K : Type 0} → (meaning : Meaning K) → (old new : K) → (Content → History → Type 0) → Type 0
Over meaning old new P = meaning.is_honest new → (c : Content) (H : History) → meaning.holds old c → Represents c H → IsLawful H → P c H

-- these rows, and those of HOUSE as the content has them
abbrev pub both_with : Content → Slice → Both
both_with c own = record { own = own; house = c.rows house_name }

-- the rows of an owner and of HOUSE, as the content has them; none of an owner that it does not know
abbrev pub AreBoth : Content → Bytes → Option Both → Type 0
AreBoth c o None = None ≡ slice_of c o
AreBoth c o (Some both) = (Some both.own ≡ slice_of c o) × (both.house ≡ c.rows house_name)
