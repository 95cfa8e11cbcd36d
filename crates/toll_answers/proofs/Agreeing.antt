-- Recalls of two histories that agree on an owner's commands and on HOUSE's.
use Rattle.std.proofs.Common.{◌≡◌, false, Option, Some, List, [], ◌∷◌, map, sym, ap, subst, ◌∙◌, inl, inr, Contains}
use Rattle.toll_answers.proofs.Common.{option_map, Bytes, same_bytes, house_name, History, part, acts, IsLawful, LotId, acts-part, Step, Forward, Contains-none, Contains-cases, Contains-map, Contains-from_map, IsPlantJoined}
use Rattle.toll_history.proofs.OwnAmounts.{on_hand-part, shipped-part}
use Rattle.toll_history.proofs.OwnFacts.{lot_row-part}
use Rattle.toll_answers.specs.Recall.{recall_line_of, IsRecall}
use Rattle.toll_answers.specs.declared.genealogy.recall.RecallLine.{RecallLine}
use Rattle.toll_answers.proofs.Recalls.{steps_along, chains_agree}

-- ---- the line of a step

-- what the parts give of an owner's lot, the histories give
line-part : (H : History) (o : Bytes) (s : Step) → IsLawful H → same_bytes o house_name ≡ false → s.lot.owner ≡ o → recall_line_of (part o H) s ≡ recall_line_of H s
line-part H o s lawful not_house at =
    subst (λ w. same_bytes w house_name ≡ false → recall_line_of (part w H) s ≡ recall_line_of H s) at
    (λ not_house i. option_map (λ row. record { step = s; disposition = row.disposition; totals = record { on_hand = on_hand-part s.lot.owner H lawful not_house s.lot.lot i; shipped = shipped-part s.lot.owner H lawful s.lot.lot i } }) (lot_row-part s.lot.owner H lawful s.lot.lot i))
    not_house

-- a line among those of a recall is its step's
own_line : (f : Step → Option RecallLine) (lines : List RecallLine) → map (λ line. Some line) lines ≡ map (λ line. f line.step) lines → (line : RecallLine) → Contains lines line → Some line ≡ f line.step
own_line f [] each line there = absurd (Contains-none line there)
own_line f (first ∷ lines) each line there =
    let now : Some first ≡ f first.step = (cc) in
    let rest : map (λ line. Some line) lines ≡ map (λ line. f line.step) lines = (cc) in
    elim (Contains-cases first lines line there) [
      | inl is ↦ subst (λ l. Some l ≡ f l.step) is now
      | inr later ↦ own_line f lines rest line later
    ]

module _ (G H : History) (lawful : IsLawful G) (lawful' : IsLawful H) (o : Bytes) (not_house : same_bytes o house_name ≡ false) (same : part o G ≡ part o H) (houses : part house_name G ≡ part house_name H) where
  -- what the owner did is the same, where its part is
  acts-same : (w : Bytes) → part w G ≡ part w H → acts w G ≡ acts w H
  acts-same w parts = sym (acts-part w G) ∙ ap (acts w) parts ∙ acts-part w H

  lines_same : (s : Step) → s.lot.owner ≡ o → recall_line_of G s ≡ recall_line_of H s
  lines_same s at = sym (line-part G o s lawful not_house at) ∙ ap (λ L. recall_line_of L s) same ∙ line-part H o s lawful' not_house at

  pub lines_agree : (lot : LotId) → lot.owner ≡ house_name → (xs ys : List RecallLine) → IsRecall G lot xs → IsRecall H lot ys → (line : RecallLine) → line.step.lot.owner ≡ o → Contains xs line → Contains ys line
  lines_agree lot at_house xs ys x y line at there =
      let step = steps_along (IsPlantJoined G Forward) (IsPlantJoined H Forward) lot (λ b. b.owner ≡ o)
      (λ n b end. chains_agree G H lawful lawful' o (acts-same o same) (acts-same house_name houses) lot n b at_house end)
      (λ n b end. chains_agree H G lawful' lawful o (sym (acts-same o same)) (sym (acts-same house_name houses)) lot n b at_house end)
      (map (λ line. line.step) xs) (map (λ line. line.step) ys) x.traced y.traced line.step at (Contains-map (λ (line : RecallLine). line.step) xs line there) in
      let other = Contains-from_map (λ (line : RecallLine). line.step) ys line.step step in
      let is : Some line ≡ Some other.0 =
      own_line (recall_line_of G) xs x.each line there ∙ lines_same line.step at ∙ ap (recall_line_of H) (sym other.2) ∙ sym (own_line (recall_line_of H) ys y.each other.0 other.1) in
      let it : other.0 ≡ line = (cc) in
      subst (Contains ys) it other.1
