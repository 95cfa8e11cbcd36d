-- Rows that are found.
use Rattle.std.proofs.Common.{◌≡◌, Bool, true, false, cond, Option, Some, None, is_some, is_none, List, [], ◌∷◌, refl, sym, ap, ◌∙◌}
use Rattle.toll_base.specs.Table.{replace_row, insert_row, put_row}
use Rattle.toll_work.proofs.Common.{false≢true, option_map, option_map_or, is_eq, Ordering, row_at}

-- A row that is found has the key.
pub row_at-key : {K R : Type 0} (cmp : K → K → Ordering) (key : R → K) (rows : List R) (k : K) (row : R) → row_at cmp key rows k ≡ Some row → is_eq (cmp k (key row)) ≡ true
unfolding row_at
row_at-key cmp key [] k row found = (cc)
row_at-key cmp key (x ∷ xs) k row found =
    elim (is_eq (cmp k (key x))) as (λ b. is_eq (cmp k (key x)) ≡ b → cond b (Some x) (row_at cmp key xs k) ≡ Some row → is_eq (cmp k (key row)) ≡ true) [
      | true ↦ λ hit is. let same : x ≡ row = (cc) in ap (λ r. is_eq (cmp k (key r))) (sym same) ∙ hit
      | false ↦ λ miss is. row_at-key cmp key xs k row is
    ] refl found

replaced_again : {K R : Type 0} (cmp : K → K → Ordering) (key : R → K) (rows : List R) (row : R) → row_at cmp key rows (key row) ≡ Some row → replace_row cmp key rows row ≡ rows
unfolding row_at
replaced_again cmp key [] row found = refl
replaced_again cmp key (x ∷ xs) row found =
    elim (is_eq (cmp (key row) (key x))) as (λ b. cond b (Some x) (row_at cmp key xs (key row)) ≡ Some row → cond b (row ∷ xs) (x ∷ replace_row cmp key xs row) ≡ x ∷ xs) [
      | true ↦ λ is. let same : x ≡ row = (cc) in ap (λ r. r ∷ xs) (sym same)
      | false ↦ λ is. ap (λ rest. x ∷ rest) (replaced_again cmp key xs row is)
    ] found

-- A known row that is put again changes nothing.
pub put_again : {K R : Type 0} (cmp : K → K → Ordering) (key : R → K) (rows : List R) (row : R) → row_at cmp key rows (key row) ≡ Some row → put_row cmp key rows row ≡ rows
unfolding put_row
put_again cmp key rows row found = ap (λ b. cond b (replace_row cmp key rows row) (insert_row cmp key rows row)) (ap is_some found) ∙ replaced_again cmp key rows row found

pub known_not_none : {X : Type 0} (x : Option X) → is_some x ≡ true → is_none x ≡ false
known_not_none (Some x) h = refl
known_not_none None h = sym h

-- A fact of the rows made of a known row holds of those made of one that isn't unknown.
pub so_of_known : {R Y : Type 0} (x : Option R) (make : R → List Y) (P : List Y → Type 0) → is_none x ≡ false → ((row : R) → x ≡ Some row → P (make row)) → P (option_map_or make x [])
so_of_known None make P known each = absurd (false≢true (sym known))
so_of_known (Some row) make P known each = each row refl

-- A known row that is changed if a test holds.
pub known_changed : {R : Type 0} (change : R → R) (b : Bool) (row : Option R) (known : R) → (b ≡ true → row ≡ Some known) → cond b (option_map change row) row ≡ cond b (Some (change known)) row
known_changed change true row known is = ap (option_map change) (is refl)
known_changed change false row known is = refl
