-- What the decision on the opening of a batch owes. It sees one owner's rows, and two facts about the unit.
use Rattle.std.specs.Prelude.{◌≡◌, Bool, true, not, is_some}
use Rattle.toll_work.specs.Common.{Bytes, History, owner_known, unit_known, Slice, IsRowsOf, IsLawful, IsRightOver, Decision, OpenBatch, by}
use Rattle.toll_history.specs.Holders.{holder}

-- The facts about the unit are true: whether it is known, and whether no batch holds it.
pub record AreUnitFacts (H : History) (unit : Bytes) (is_known is_free : Bool) : Type 0 where
  pub known : is_known ≡ unit_known H unit
  pub free : is_free ≡ not (is_some (holder H unit))

-- Over every lawful history whose rows the owner's slice has, and for which the facts about the unit are true, the decision is right for
-- the opening.
unfoldable pub DecidesOpening : (order unit : Bytes) → (known free : Bool) → Slice → Decision → Type 0
DecidesOpening order unit known free own d = (H : History) → IsLawful H → owner_known H own.owner ≡ true → IsRowsOf H own → AreUnitFacts H unit known free → IsRightOver H (by own.owner (OpenBatch order unit)) d
