-- What a slice shows of its sublots is what every lawful history gives of which it has the rows.
use Rattle.std.proofs.Common.{◌≡◌, true, Option, Some, None, is_some, [], refl, ap, ◌∙◌}
use Rattle.toll_answers.proofs.Common.{SublotShown, IsStockText, shown_in, shown_over, sublots_in, stock_text, option_map, option_map_or, option_and_then, lot_id}
use mathlib.Core.Bool.{false≢true}
use Rattle.toll_base.specs.Bytes.{Bytes}
use Rattle.toll_base.specs.Keys.{pair_cmp}
use Rattle.toll_base.specs.Slice.{Slice, lot_at, material_at}
use Rattle.toll_base.specs.Table.{IsInKeyOrder}
use Rattle.toll_base.specs.declared.rows.LotRow.{LotRow}
use Rattle.toll_base.specs.declared.rows.MaterialRow.{MaterialRow}
use Rattle.toll_base.specs.declared.rows.SublotRow.{SublotRow}
use Rattle.toll_base.proofs.Texts.{pair_cmp_total}
use Rattle.toll_history.specs.History.{History, acts}
use Rattle.toll_history.specs.Movements.{lot_made}
use Rattle.toll_history.specs.OwnerFacts.{OwnerFacts, IsRowsOf, lot_row, sublot_row, facts_given, lot_row_made}
use Rattle.toll_history.specs.Verdict.{IsLawful}
use Rattle.toll_history.specs.Work.{material_of, measure_of}
use Rattle.toll_history.proofs.LotMaterials.{lot_material}
use Rattle.toll_answers.proofs.MadeRows.{made_at, made_ordered}

abbrev shown_sublot : SublotRow → LotRow → Bytes → SublotShown
shown_sublot row lot measure = record { row = row; lot = lot; measure = measure }

abbrev shown_key : SublotShown → Bytes × Bytes
shown_key shown = (shown.row.lot, shown.row.sublot)

-- the row that is shown keeps its key
key_kept : (row : SublotRow) (lot : Option LotRow) (material_of : LotRow → Option MaterialRow) (made : SublotShown) → option_and_then (λ lot. option_map (λ material. shown_sublot row lot material.measure) (material_of lot)) lot ≡ Some made → shown_key made ≡ (row.lot, row.sublot)
key_kept row None material_of made is = (cc)
key_kept row (Some lot) material_of made is =
    elim (material_of lot) as (λ found. option_map (λ material. shown_sublot row lot material.measure) found ≡ Some made → shown_key made ≡ (row.lot, row.sublot)) [
      | None ↦ λ none. (cc)
      | Some material ↦ λ some. let same : made ≡ shown_sublot row lot material.measure = (cc) in ap shown_key same
    ] is

-- what tables show of a sublot
abbrev stock_shown_by : OwnerFacts → Bytes × Bytes → Option SublotShown
stock_shown_by t k = option_and_then (λ row. option_and_then (λ lot. option_map (λ material. shown_sublot row lot material.measure) (t.material lot.material)) (t.lot row.lot)) (t.sublot k)

measured : {X : Type 0} (make : Bytes → X) (material : Option MaterialRow) → is_some material ≡ true → option_map (λ row. make row.measure) material ≡ Some (make (option_map_or (λ row. row.measure) material []))
measured make None known = absurd (false≢true known)
measured make (Some row) known = refl

module _ (H : History) (lawful : IsLawful H) (o : Bytes) where
  of_lot : (row : SublotRow) → option_and_then (λ lot. option_map (λ material. shown_sublot row lot material.measure) (material_of (acts o H) lot.material)) (lot_row H o row.lot) ≡ option_map (λ lot. shown_sublot row lot (measure_of (acts o H) lot.material)) (lot_row H o row.lot)
  of_lot row =
      elim (lot_made H (lot_id o row.lot)) as (λ found. lot_made H (lot_id o row.lot) ≡ found → option_and_then (λ lot. option_map (λ material. shown_sublot row lot material.measure) (material_of (acts o H) lot.material)) (option_map (lot_row_made (acts o H) row.lot) found) ≡ option_map (λ lot. shown_sublot row lot (measure_of (acts o H) lot.material)) (option_map (lot_row_made (acts o H) row.lot) found)) [
        | None ↦ λ is. refl
        | Some made ↦ λ is. measured (shown_sublot row (lot_row_made (acts o H) row.lot made)) (material_of (acts o H) made.material) (lot_material H lawful (lot_id o row.lot) made is)
      ] refl

  by_history : (k : Bytes × Bytes) → stock_shown_by (facts_given H o) k ≡ shown_over H o k
  by_history k = λ i. option_and_then (λ row. of_lot row i) (sublot_row H o k)

shown_key_kept : (s : Slice) (row : SublotRow) (made : SublotShown) → shown_in s row ≡ Some made → shown_key made ≡ (row.lot, row.sublot)
shown_key_kept s row made is = key_kept row (lot_at s row.lot) (λ lot. material_at s lot.material) made is

pub stock_text_over : (s : Slice) (H : History) (text : Bytes) → IsInKeyOrder pair_cmp (λ row. (row.lot, row.sublot)) s.sublots → IsLawful H → IsRowsOf H s → text ≡ stock_text (sublots_in s) → IsStockText H s.owner text
stock_text_over s H text ordered lawful there is = record {
  shown = sublots_in s;
  given = record {
    ordered = made_ordered pair_cmp pair_cmp_total (λ row. (row.lot, row.sublot)) (shown_in s) shown_key (shown_key_kept s) s.sublots ordered;
    at = λ k. made_at pair_cmp pair_cmp_total (λ row. (row.lot, row.sublot)) (shown_in s) shown_key (shown_key_kept s) s.sublots k ordered ∙ ap (λ t. stock_shown_by t k) there ∙ by_history H lawful s.owner k;
  };
  is = is;
}
