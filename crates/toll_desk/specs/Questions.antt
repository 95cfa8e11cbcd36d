-- What traces, recalls and questions of the plant look at.
use Rattle.std.specs.Prelude.{◌≡◌, ◌⊎◌, Bool, if◌then◌else◌, ◌&&◌, true, false, Option, Some, None, is_some, List, map, Contains, Result, Err, Vec}
use Rattle.toll_desk.specs.Common.{Global, Bytes, same_bytes, Slice, LotId, History, acts, owner_known, IsRowsOf, lot_row, Step, IsRecall, recall_line_of, RecallLine, Meaning, IsReading, HaveRead, KeepFault, Damaged}
use Rattle.toll_answers.specs.Views.{has_consumed}
use Rattle.toll_keep.specs.Slices.{has_slice}

-- ---- traces

-- the owner has the lot; a lot of HOUSE, a batch of the owner consumed
abbrev pub may_trace : History → Bytes → LotId → Bool
may_trace H o lot = if same_bytes lot.owner o then is_some (lot_row H o lot.lot) else has_consumed (acts o H) lot

-- ---- how a recall goes

module _ {K : Type 0} (meaning : Meaning K) (old new : K) where
  -- It goes as a reading call; or each call succeeded, and the result says that the rows are damaged.
  abbrev pub IsRecallEffect : {X : Type 0} → Result X KeepFault → Type 0
  IsRecallEffect result = IsReading meaning old new result ⊎ ((result ≡ Err Damaged) × HaveRead meaning old new)

-- ---- what a recall looks at

-- Each slice has the rows of its owner, and each known owner of these steps has a slice.
pub record AreSlicesFor (H : History) (steps : List Step) (slices : List Slice) : Type 0 where
  pub rows : (s : Slice) → Contains slices s → IsRowsOf H s
  pub every : (step : Step) → Contains steps step → owner_known H step.lot.owner ≡ true → has_slice slices step.lot.owner ≡ true

-- the line of a step; there is none of a lot that a known owner has not
abbrev pub IsLineOf : History → Step → Option RecallLine → Type 0
IsLineOf H step (Some line) = recall_line_of H step ≡ Some line
IsLineOf H step None = owner_known H step.lot.owner ≡ true → recall_line_of H step ≡ None

-- the lines of the steps; there are none where a step has none
abbrev pub AreLinesOf : History → List Step → Option (Vec RecallLine Global) → Type 0
AreLinesOf H steps (Some lines) = map (λ line. Some line) lines.items ≡ map (recall_line_of H) steps
AreLinesOf H steps None = (step : Step) × Contains steps step × IsLineOf H step None

-- the owner is known, and has the lot
abbrev pub is_known_lot : History → LotId → Bool
is_known_lot H lot = owner_known H lot.owner && is_some (lot_row H lot.owner lot.lot)

-- the recall of a lot that is known
abbrev pub IsRecallOf : History → LotId → Option (Vec RecallLine Global) → Type 0
IsRecallOf H lot (Some lines) = (is_known_lot H lot ≡ true) × IsRecall H lot lines.items
IsRecallOf H lot None = is_known_lot H lot ≡ false
