-- What a search among movements by their places finds, and what a put there does.
use Rattle.std.proofs.Common.{◌≡◌, ℕ, ◌-◌, ◌<◌, ◌≤◌, true, List, [], ◌∷◌, ◌++◌, length, get_or, set, Some, Result, Ok, Err, refl, sym, ap, subst, ◌∙◌, arith}
use Rattle.std.specs.List.Sorted.{IsSearchInRange}
use Rattle.std.proofs.lemmas.List.{length-set, length-append}
use Rattle.std.proofs.lemmas.List.Edits.{length-insert}
use Rattle.toll_base.proofs.Common.{false≢true, is_lt, insert, nat_list_cmp_total, option_map_or, ordering_index, IsBinarySearchResult, IsNonDecreasingBy, MatchResult, Ordering, Less, Equal, Greater, slice_get-get_or, Bytes, bytes_cmp, rows_at, ArePlacesOf, key_cmp_at, row_at, put_row}
use Rattle.toll_base.proofs.KeyOrder.{comparisons_rise, row_at_found, put_at, put_in_gap}
use Rattle.toll_base.proofs.PlacedRows.{length-rows_at, get_or-rows_at, placed_has_row, have_inserted, inserted, have_set, set_at}
use Rattle.toll_base.specs.Places.{HasKeyAt, IsPlaceFor}
use Rattle.toll_base.specs.declared.movement.MoveRow.{MoveRow}

module _ (rows : List MoveRow) (places : List ℕ) (are : ArePlacesOf rows places) where
  abbrev seen : List MoveRow
  seen = rows_at rows places

  module _ (k : Bytes) where
    -- a place compares as its row does
    compares : (i e : ℕ) (d : MoveRow) → i < length places → key_cmp_at rows k (get_or places i e) ≡ bytes_cmp (get_or seen i d).key k
    compares i e d lt =
        ap (λ o. option_map_or (λ row. bytes_cmp row.key k) o Less) (slice_get-get_or rows (get_or places i e) d (placed_has_row rows places i e are.have lt))
        ∙ sym (ap (λ row. bytes_cmp row.key k) (get_or-rows_at rows places i d e are.have lt))

    rise : IsNonDecreasingBy (λ row. ordering_index (bytes_cmp row.key k)) seen
    rise = comparisons_rise bytes_cmp nat_list_cmp_total (λ row. row.key) seen k are.ordered

    rise_by : (d : MoveRow) (i j e : ℕ) → i ≤ j → j < length places → ordering_index (key_cmp_at rows k (get_or places i e)) ≤ ordering_index (key_cmp_at rows k (get_or places j e))
    rise_by d i j e le lt =
        let rises = rise i j d le (omega (arith, lt, length-rows_at rows places are.have)) in
        rw (compares i e d (omega (arith, le, lt)), compares j e d lt) rises

-- the comparisons rise along the places
places_rise : (rows : List MoveRow) (places : List ℕ) → ArePlacesOf rows places → (k : Bytes) → IsNonDecreasingBy (λ place. ordering_index (key_cmp_at rows k place)) places
places_rise [] places are k i j e le lt = absurd (omega (arith, are.all))
places_rise (row ∷ rows) places are k i j e le lt = rise_by (row ∷ rows) places are k row i j e le lt

-- a binary search among the places ends at the key or at its gap
pub place_searched : (rows : List MoveRow) (places : List ℕ) → ArePlacesOf rows places → (k : Bytes) (r : Result ℕ ℕ) → IsSearchInRange r (length places) → IsBinarySearchResult (key_cmp_at rows k) places r
    → MatchResult r (HasKeyAt bytes_cmp (λ row. row.key) (rows_at rows places) k) (IsPlaceFor bytes_cmp (λ row. row.key) (rows_at rows places) k)
place_searched rows places are k (Ok i) lt found = λ d. sym (compares rows places are k i 0 d lt) ∙ found 0
place_searched rows places are k (Err i) le found =
    let parts = found (places_rise rows places are k) in
    let len = length-rows_at rows places are.have in (
      (λ j d low high. sym (compares rows places are k j 0 d (omega (arith, high, le))) ∙ parts.0 j 0 low high),
      (λ j d low high. sym (compares rows places are k j 0 d (omega (arith, high, len))) ∙ parts.1 j 0 low (omega (arith, high, len))),
    )

-- where the last row's key is lower, all are
pub behind_all : (rows : List MoveRow) (places : List ℕ) → ArePlacesOf rows places → (k : Bytes) (last : ℕ) → last ≡ get_or places (length places - 1) 0 → key_cmp_at rows k last ≡ Less
    → IsPlaceFor bytes_cmp (λ row. row.key) (rows_at rows places) k (length places)
behind_all rows places are k last is lower =
    let len = length-rows_at rows places are.have in (
      (λ j d low high. sym (compares rows places are k j 0 d high) ∙ least _ (subst (λ r. ordering_index (key_cmp_at rows k (get_or places j 0)) ≤ ordering_index r) (ap (key_cmp_at rows k) (sym is) ∙ lower) (places_rise rows places are k j (length places - 1) 0 (omega (arith, high)) (omega (arith, high))))),
      (λ j d low high. absurd (omega (arith, low, high, len))),
    )
  where
    least : (r : Ordering) → ordering_index r ≤ 0 → r ≡ Less
    least Less le = refl
    least Equal le = absurd (omega (arith, le))
    least Greater le = absurd (omega (arith, le))

module _ (rows : List MoveRow) (places : List ℕ) (are : ArePlacesOf rows places) (new : MoveRow) (i : ℕ) where
  -- the row is written over the one with its key
  pub put_over : (place : ℕ) → i < length places → place ≡ get_or places i 0 → HasKeyAt bytes_cmp (λ row. row.key) (rows_at rows places) new.key i
      → record { same : rows_at (set rows place new) places ≡ put_row bytes_cmp (λ row. row.key) (rows_at rows places) new; are : ArePlacesOf (set rows place new) places }
  put_over place lt is found =
      let put = put_at bytes_cmp nat_list_cmp_total (λ row. row.key) (rows_at rows places) new new.key i refl are.ordered (omega (arith, lt, length-rows_at rows places are.have)) found in
      let set_is = set_at bytes_cmp nat_list_cmp_total (λ row. row.key) rows places new place i are.have are.ordered lt is in
      record {
        same = set_is ∙ put.same;
        are = record {
          have = have_set rows place new places are.have;
          all = are.all ∙ sym (length-set rows place new);
          ordered = rw set_is put.ordered;
        };
      }

  -- the row comes behind the others, and its place goes into the gap
  pub put_behind : i ≤ length places → IsPlaceFor bytes_cmp (λ row. row.key) (rows_at rows places) new.key i
      → record { same : rows_at (rows ++ new ∷ []) (insert places i (length rows)) ≡ put_row bytes_cmp (λ row. row.key) (rows_at rows places) new; are : ArePlacesOf (rows ++ new ∷ []) (insert places i (length rows)) }
  put_behind le gap =
      let put = put_in_gap bytes_cmp nat_list_cmp_total (λ row. row.key) (rows_at rows places) new new.key i refl are.ordered (omega (arith, le, length-rows_at rows places are.have)) gap in
      let inserted_is = inserted rows new places i are.have le in
      record {
        same = inserted_is ∙ put.same;
        are = record {
          have = have_inserted rows new places i are.have le;
          all = omega (arith, length-insert places i (length rows) le, length-append rows (new ∷ []), are.all);
          ordered = rw inserted_is put.ordered;
        };
      }

pub less_exact : (r : Ordering) → is_lt r ≡ true → r ≡ Less
less_exact Less h = refl
less_exact Equal h = absurd (false≢true h)
less_exact Greater h = absurd (false≢true h)

module _ (rows : List MoveRow) (places : List ℕ) (are : ArePlacesOf rows places) (k : Bytes) where
  -- the row at the place where the key is
  pub found_at : (i : ℕ) (row : MoveRow) → i < length places → HasKeyAt bytes_cmp (λ row. row.key) (rows_at rows places) k i → row ≡ get_or rows (get_or places i 0) row → row_at bytes_cmp (λ row. row.key) (rows_at rows places) k ≡ Some row
  found_at i row lt found is =
      row_at_found bytes_cmp nat_list_cmp_total (λ row. row.key) (rows_at rows places) k i row are.ordered (omega (arith, lt, length-rows_at rows places are.have)) found
      ∙ ap (λ x. Some x) (get_or-rows_at rows places i row 0 are.have lt ∙ sym is)

-- a bound of the rows that are seen is one of all rows
pub few : (rows : List MoveRow) (places : List ℕ) → ArePlacesOf rows places → (n : ℕ) → length (rows_at rows places) ≤ n → length rows ≤ n
few rows places are n le = omega (arith, le, are.all, length-rows_at rows places are.have)
