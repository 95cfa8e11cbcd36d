-- Stored rows, listed in the order in which they are read.
use Rattle.std.proofs.Common.{◌≡◌, ℕ, ◌+◌, ◌<◌, Bool, true, false, cond, ◌||◌, List, [], ◌∷◌, ◌++◌, map, take, length, get_or, Option, Some, is_some, refl, sym, ap, subst, ◌∙◌, Ordering}
use Rattle.toll_sql.proofs.Common.{AllByRecursion, list_any, is_eq, get_or-map, length-map, take_more, Row, row_at, map_push, AreStoredOfPlant, columns_from, width_of, PlantKind}
use Rattle.toll_sql.proofs.WriteLemmas.{whole_row}
use Rattle.toll_sql.proofs.SoFar.{value_at, first_item}

module _ {X : Type 0} (kind : PlantKind X) (alone : AreStoredOfPlant kind) (l : List X) (rows : List Row) (are : rows ≡ map kind.cells l) (valid : AllByRecursion kind.is_valid l) where
  list_as_many : length rows ≡ length l
  list_as_many = ap length are ∙ length-map l kind.cells

  module _ (i : ℕ) (lt : i < length rows) where
    list_inside : i < length l
    list_inside = subst (λ n. i < n) list_as_many lt

    pub list_item : X
    list_item = get_or l i (first_item l i list_inside)

    pub list_item_is : (d : Row) → get_or rows i d ≡ kind.cells list_item
    unfolding list_item
    list_item_is d = ap (λ (rs : List Row). get_or rs i d) are ∙ get_or-map kind.cells l i (first_item l i list_inside) d list_inside

    pub list_item_valid : kind.is_valid list_item
    unfolding list_item
    list_item_valid = value_at kind.is_valid l i (first_item l i list_inside) valid list_inside

    -- The row that is read is this one.
    pub read_it : (row : Row) (x : X) → row ≡ kind.cells list_item → kind.is_valid x → columns_from 0 (width_of kind.table) row ≡ kind.cells x → x ≡ list_item
    read_it row x is valid_x read = alone.reported x list_item valid_x list_item_valid (sym read ∙ ap (columns_from 0 (width_of kind.table)) is ∙ whole_row kind.table (kind.cells list_item) (alone.fills list_item))

    pub with_list_item : (listed : List X) (x : X) → listed ≡ take i l → x ≡ list_item → listed ++ x ∷ [] ≡ take (i + 1) l
    unfolding list_item
    with_list_item listed x so_far is = ap (λ xs. xs ++ x ∷ []) so_far ∙ ap (λ y. take i l ++ y ∷ []) is ∙ sym (take_more l i (first_item l i list_inside) list_inside)

-- ---- one more row

pub more_shown : {X : Type 0} (cells : X → Row) (show : Row → Row) (rows : List Row) (i : ℕ) → i < length rows → (row : Row) → row ≡ get_or rows i row → (listed : List X) (x : X) → map cells listed ≡ map show (take i rows) → show row ≡ cells x
    → map cells (listed ++ x ∷ []) ≡ map show (take (i + 1) rows)
more_shown cells show rows i lt row is listed x so_far read =
    map_push cells listed x
    ∙ ap (λ zs. zs ++ cells x ∷ []) so_far
    ∙ ap (λ z. map show (take i rows) ++ z ∷ []) (sym read ∙ ap show is)
    ∙ sym (map_push show (take i rows) (get_or rows i row))
    ∙ ap (map show) (sym (take_more rows i row lt))

-- ---- a row with the key is there

is_some_cond_rest : {R : Type 0} (b : Bool) (row : R) (rest : Option R) (there : Bool) → is_some rest ≡ there → is_some (cond b (Some row) rest) ≡ (b || there)
is_some_cond_rest true row rest there h = refl
is_some_cond_rest false row rest there h = h

pub any_there : {K R : Type 0} (cmp : K → K → Ordering) (key : R → K) (rows : List R) (k : K) → list_any (λ row. is_eq (cmp k (key row))) rows ≡ is_some (row_at cmp key rows k)
unfolding row_at
any_there cmp key [] k = refl
any_there cmp key (row ∷ rows) k = sym (is_some_cond_rest (is_eq (cmp k (key row))) row (row_at cmp key rows k) (list_any (λ row. is_eq (cmp k (key row))) rows) (sym (any_there cmp key rows k)))
