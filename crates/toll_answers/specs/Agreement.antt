-- What an owner's genealogy and the plant's have in common.
use Rattle.std.specs.Prelude.{◌≡◌, ◌↔◌, ◌⊎◌, true, is_some, List, map, Contains}
use Rattle.toll_answers.specs.Common.{Bytes, house_name, Edge, LotId, History, acts, part, lot_row, IsTrace, Step, Way}
use Rattle.toll_answers.specs.Edges.{IsOwnJoined, IsPlantJoined}
use Rattle.toll_answers.specs.FromHouse.{AreChainedFromHouse}
use Rattle.toll_answers.specs.Recall.{IsRecall}
use Rattle.toll_answers.specs.declared.genealogy.recall.RecallLine.{RecallLine}

-- the trace by an owner's edges, and the trace by all
abbrev pub IsOwnTrace : History → (o : Bytes) → Way → LotId → List Step → Type 0
IsOwnTrace H o way from steps = IsTrace (IsOwnJoined (acts o H) way) from steps

abbrev pub IsPlantTrace : History → Way → LotId → List Step → Type 0
IsPlantTrace H way from steps = IsTrace (IsPlantJoined H way) from steps

-- the edge leads to a lot of the owner, from one of the owner or of HOUSE
abbrev pub LeadsIntoOwn : (o : Bytes) → Edge → Type 0
LeadsIntoOwn o e = (e.to.owner ≡ o) × ((e.from.owner ≡ o) ⊎ (e.from.owner ≡ house_name))

-- both lots of the edge are known
abbrev pub AreKnown : History → Edge → Type 0
AreKnown H e = (is_some (lot_row H e.from.owner e.from.lot) ≡ true) × (is_some (lot_row H e.to.owner e.to.lot) ≡ true)

-- the plant's trace and the owner's have the same steps at the owner's lots
abbrev pub TracesAgree : History → (o : Bytes) → Way → LotId → Type 0
TracesAgree H o way from =
    (plants own : List Step) → IsPlantTrace H way from plants → IsOwnTrace H o way from own →
    (s : Step) → s.lot.owner ≡ o → Contains plants s ↔ Contains own s

-- the recall has, of the owner's lots, those that HOUSE's edges and then the owner's reach
abbrev pub IsRecallFromHouse : History → (o : Bytes) → LotId → Type 0
IsRecallFromHouse H o lot = (lines : List RecallLine) → IsRecall H lot lines → AreChainedFromHouse (acts house_name H) (acts o H) o lot (map (λ line. line.step) lines)

-- this is so if the owner's part and HOUSE's are the same in both
abbrev pub IfPartsAgree : (G H : History) → (o : Bytes) → Type 0 → Type 0
IfPartsAgree G H o P = part o G ≡ part o H → part house_name G ≡ part house_name H → P

-- if the lot is HOUSE's, its recalls have the same lines at the owner's lots
abbrev pub RecallsAgree : (G H : History) → (o : Bytes) → LotId → Type 0
RecallsAgree G H o lot =
    lot.owner ≡ house_name → (xs ys : List RecallLine) → IsRecall G lot xs → IsRecall H lot ys →
    (line : RecallLine) → line.step.lot.owner ≡ o → Contains xs line → Contains ys line
