-- Statements over every lawful history that a slice has the rows of.
use Rattle.std.specs.Prelude.{◌≡◌, true}
use Rattle.toll_base.specs.Slice.{Slice}
use Rattle.toll_history.specs.History.{History, owner_known}
use Rattle.toll_history.specs.OwnerFacts.{IsRowsOf}
use Rattle.toll_history.specs.Verdict.{IsLawful}

abbrev pub OverRows : Slice → (History → Type 0) → Type 0
OverRows s P = (H : History) → IsLawful H → IsRowsOf H s → P H

-- The same, if the history knows the slice's owner.
abbrev pub OverOwnRows : Slice → (History → Type 0) → Type 0
OverOwnRows s P = (H : History) → IsLawful H → owner_known H s.owner ≡ true → IsRowsOf H s → P H
