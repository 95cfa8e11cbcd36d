-- Stored rows that fit into a slice, one after another.
use Rattle.std.proofs.Common.{◌≡◌, ◌<◌, ◌+◌, ◌∙◌, ℕ, inl, inr, List, [], ◌∷◌, ◌++◌, length, take, drop, get_or, sym, ap, subst, Result, Ok, Err, OnOk}
use Rattle.toll_sql.proofs.Common.{take_more, take-append-drop, Row, Bytes, Slice, with_row, KeepsRules, Trees, KeepFault, Memory, columns_from, cells_for, table_for, AreAllTaken, AreTaken, FitsSlice, LacksRoom, LacksRoomIn, TakesRows, AreStoredOfOwner, RowKind, width_of, IsRow, TableKind}
use Rattle.toll_base.specs.declared.rows.Row.{Row as OfficeRow}

-- The row with these cells, which is put in or not.
module _ {X : Type 0} (kind : RowKind X) (stand : AreStoredOfOwner kind) (o : Bytes) (found : Row) (x : X) (valid : kind.is_valid x)
    (is : columns_from 0 (width_of kind.table) found ≡ kind.cells o x) (row : OfficeRow) (its : row ≡ kind.any_row x) (s t : Slice) where
  abbrev fits : KeepsRules (with_row s row) → FitsSlice kind.table o found s
  fits keeps = record {
    row = row;
    its_table = subst (λ row. table_for row ≡ kind.table) (sym its) (stand.its_table x);
    valid = subst IsRow (sym its) (stand.its_values x valid);
    cells = is ∙ sym (stand.its_cells o x) ∙ ap (cells_for o) (sym its);
    keeps = keeps;
  }

  pub takes_one : {Y : Type 0} (r : Result Y KeepFault) → OnOk r (t ≡ with_row s row) → OnOk r (KeepsRules (with_row s row)) → (r ≡ Err Memory → KeepsRules (with_row s row) × (t ≡ s)) → TakesRows kind.table o (found ∷ []) s t r
  takes_one {Y} r made keeps lacks = record { taken = taken r made keeps; lacks = λ is. (fits (lacks is).0, inl (lacks is).1) }
    where
      taken : (r : Result Y KeepFault) → OnOk r (t ≡ with_row s row) → OnOk r (KeepsRules (with_row s row)) → OnOk r (AreTaken kind.table o (found ∷ []) s t)
      taken (Ok y) made keeps = (fits keeps, made)
      taken (Err e) made keeps = tt

module _ (k : TableKind) (o : Bytes) where
  -- rows after rows
  pub taken_then : (rows more : List Row) (a b c : Slice) → AreTaken k o rows a b → AreTaken k o more b c → AreTaken k o (rows ++ more) a c
  taken_then [] more a b c is next = subst (λ s. AreTaken k o more s c) is next
  taken_then (row ∷ rows) more a b c all next = (all.0, taken_then rows more _ b c all.1 next)

  pub lacks_then : (rows more : List Row) (a b c : Slice) → AreTaken k o rows a b → LacksRoom k o more b c → LacksRoom k o (rows ++ more) a c
  lacks_then [] more a b c is next = subst (λ s. LacksRoom k o more s c) is next
  lacks_then (row ∷ rows) more a b c all next = (all.0, inr (lacks_then rows more _ b c all.1 next))

  -- rows after the one for which there was no memory
  pub lacks_before : (rows more : List Row) (a b : Slice) → LacksRoom k o rows a b → LacksRoom k o (rows ++ more) a b
  lacks_before [] more a b bad = absurd bad
  lacks_before (row ∷ rows) more a b (fits, inl is) = (fits, inl is)
  lacks_before (row ∷ rows) more a b (fits, inr later) = (fits, inr (lacks_before rows more _ b later))

module _ (k : TableKind) (o : Bytes) (rows : List Row) (i : ℕ) (row : Row) (lt : i < length rows) (is : row ≡ get_or rows i row) (a b c : Slice) where
  up_to : take i rows ++ row ∷ [] ≡ take (i + 1) rows
  up_to = ap (λ r. take i rows ++ r ∷ []) is ∙ sym (take_more rows i row lt)

  -- With the next row, one more is in.
  pub one_more_taken : AreTaken k o (take i rows) a b → AreTaken k o (row ∷ []) b c → AreTaken k o (take (i + 1) rows) a c
  one_more_taken all next = subst (λ found. AreTaken k o found a c) up_to (taken_then k o (take i rows) (row ∷ []) a b c all next)

  -- There was no memory for the next row.
  pub lacks_here : AreTaken k o (take i rows) a b → LacksRoom k o (row ∷ []) b c → LacksRoom k o rows a c
  lacks_here all next =
      let rest = drop (i + 1) rows in
      subst (λ found. LacksRoom k o found a c) (ap (λ front. front ++ rest) up_to ∙ take-append-drop (i + 1) rows) (lacks_before k o (take i rows ++ row ∷ []) rest a c (lacks_then k o (take i rows) (row ∷ []) a b c all next))

-- ---- tables one after another

module _ (o : Bytes) (db : Trees) where
  pub all_taken_then : (kinds more : List TableKind) (a b c : Slice) → AreAllTaken kinds o db a b → AreAllTaken more o db b c → AreAllTaken (kinds ++ more) o db a c
  all_taken_then [] more a b c is next = subst (λ s. AreAllTaken more o db s c) is next
  all_taken_then (k ∷ kinds) more a b c (rows, are, (between, taken, all)) next = (rows, are, (between, taken, all_taken_then kinds more between b c all next))

  pub lacks_in_then : (kinds more : List TableKind) (a b c : Slice) → AreAllTaken kinds o db a b → LacksRoomIn more o db b c → LacksRoomIn (kinds ++ more) o db a c
  lacks_in_then [] more a b c is next = subst (λ s. LacksRoomIn more o db s c) is next
  lacks_in_then (k ∷ kinds) more a b c (rows, are, (between, taken, all)) next = inr (rows, are, inr (between, taken, lacks_in_then kinds more between b c all next))

  pub lacks_in_before : (kinds more : List TableKind) (a b : Slice) → LacksRoomIn kinds o db a b → LacksRoomIn (kinds ++ more) o db a b
  lacks_in_before [] more a b bad = absurd bad
  lacks_in_before (k ∷ kinds) more a b (inl is) = inl is
  lacks_in_before (k ∷ kinds) more a b (inr (rows, are, inl lacks)) = inr (rows, are, inl lacks)
  lacks_in_before (k ∷ kinds) more a b (inr (rows, are, inr (between, taken, later))) = inr (rows, are, inr (between, taken, lacks_in_before kinds more between b later))
