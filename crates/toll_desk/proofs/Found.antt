-- A search among rows.
use Rattle.std.proofs.Common.{◌≡◌, true, false, not, ◌&&◌, is_some, cond, Option, Some, List, [], ◌∷◌, find, refl, sym, ap, ◌∙◌}
use Rattle.toll_desk.proofs.Common.{false≢true, nat_list_cmp_total, is_eq, Bytes, bytes_cmp, same_bytes, house_name, is_some_where, where_so, row_at, put_row, row_at-put_row, OwnerRow, same_bytes-exact, same_bytes-symm}
use Rattle.toll_desk.specs.Admission.{is_admitted}

module _ {R : Type 0} (key : R → Bytes) where
  -- the row with this key
  abbrev pub row_of : List R → Bytes → Option R
  row_of rows k = row_at bytes_cmp key rows k

  -- it is the first row that has this key
  pub found_by : (rows : List R) (k : Bytes) → find (λ row. same_bytes k (key row)) rows ≡ row_of rows k
  unfolding row_at
  found_by [] k = refl
  found_by (row ∷ rows) k = ap (cond (same_bytes k (key row)) (Some row)) (found_by rows k)

-- where a row was put, it is found by its key, and what is found by another is as it was
pub put_found : {R : Type 0} (key : R → Bytes) (rows : List R) (row : R) (k : Bytes) (found : Option R) → row_at bytes_cmp key rows k ≡ found → row_at bytes_cmp key (put_row bytes_cmp key rows row) k ≡ cond (same_bytes (key row) k) (Some row) found
put_found key rows row k found is =
    row_at-put_row bytes_cmp nat_list_cmp_total key rows row k
    ∙ ap (cond (is_eq (bytes_cmp k (key row))) (Some row)) is
    ∙ ap (λ b. cond b (Some row) found) (same_bytes-symm k (key row))

-- the owner of this name
abbrev pub owner_at : List OwnerRow → Bytes → Option OwnerRow
owner_at rows o = row_of (λ row. row.owner) rows o

-- ---- the admitted owner

-- the owner that is found has the name
found_named : (rows : List OwnerRow) (o : Bytes) (row : OwnerRow) → owner_at rows o ≡ Some row → row.owner ≡ o
unfolding row_at
found_named [] o row e = absurd (false≢true (ap is_some e))
found_named (x ∷ rows) o row e =
    elim (same_bytes o x.owner) as (λ b. same_bytes o x.owner ≡ b → cond b (Some x) (owner_at rows o) ≡ Some row → row.owner ≡ o) [
      | true ↦ λ same is. let it : x ≡ row = cc in sym (same_bytes-exact o x.owner same ∙ ap (λ r. r.owner) it)
      | false ↦ λ other is. found_named rows o row is
    ] refl e

pub admitted_row : (rows : List OwnerRow) (o key : Bytes) (row : OwnerRow) → owner_at rows o ≡ Some row → same_bytes o house_name ≡ false → same_bytes key row.key ≡ true → Some row.owner ≡ where_so (is_admitted rows o key) o
admitted_row rows o key row found house right =
    let so : is_admitted rows o key ≡ true =
    ap (λ h. not h && is_some_where (λ (r : OwnerRow). same_bytes key r.key) (owner_at rows o)) house
    ∙ ap (is_some_where (λ (r : OwnerRow). same_bytes key r.key)) found
    ∙ right in
    ap (λ name. Some name) (found_named rows o row found) ∙ ap (λ b. where_so b o) (sym so)
