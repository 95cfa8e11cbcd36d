-- Rows that are checked one after another.
use Rattle.std.proofs.Common.{◌≡◌, ◌<◌, ◌≤◌, ◌+◌, ◌∙◌, ℕ, zero, suc, cond, inl, inr, List, [], ◌∷◌, ◌++◌, length, take, map, get_or, refl, sym, subst, arith, Ok, Err, Result, OnOk}
use Rattle.toll_sql.proofs.Common.{cases_Bool, take_more, IsPermutation-sym, AllByRecursion, is_eq, Row, column, value_cmp, Trees, Text, all-permutation, Bytes, owned_by, columns_from, AreOwnedBy, AreRowsOf, FirstIs, IsRowOfOwner, RowKind, AreOfOwner, tree_of, width_of, TableKind, Meta}
use Rattle.toll_sql.proofs.PutCommon.{compares_text_only}

-- A fact of each item of two lists holds of those of both, one after the other.
pub all_append : {X : Type 0} (P : X → Type 0) (xs ys : List X) → AllByRecursion P xs → AllByRecursion P ys → AllByRecursion P (xs ++ ys)
all_append P [] ys all more = more
all_append P (x ∷ xs) ys all more = (all.0, all_append P xs ys all.1 more)

-- With the next row, the fact holds of one more.
pub all_with_one_more : {X : Type 0} (P : X → Type 0) (xs : List X) (i : ℕ) (x : X) → i < length xs → x ≡ get_or xs i x → AllByRecursion P (take i xs) → P x → AllByRecursion P (take (i + 1) xs)
all_with_one_more P xs i x lt is all it = subst (AllByRecursion P) (sym (take_more xs i x lt)) (all_append P (take i xs) (get_or xs i x ∷ []) all (subst P is it, tt))

-- P holds of the first item if it holds of each so far and of the next one.
pub first_good : {X : Type 0} (P : X → Type 0) (xs : List X) (i : ℕ) (x : X) → i < length xs → x ≡ get_or xs i x → (1 ≤ i → FirstIs P xs) → P x → FirstIs P xs
first_good P [] i x lt is so_far it = absurd (omega (arith, lt))
first_good P (y ∷ ys) zero x lt is so_far it = subst P is it
first_good P (y ∷ ys) (suc i) x lt is so_far it = so_far (omega arith)

pub value_at : {X : Type 0} (P : X → Type 0) (xs : List X) (i : ℕ) (d : X) → AllByRecursion P xs → i < length xs → P (get_or xs i d)
value_at P [] i d all lt = absurd (omega (arith, lt))
value_at P (x ∷ xs) zero d all lt = all.0
value_at P (x ∷ xs) (suc i) d all lt = value_at P xs i d all.1 (omega (arith, lt))

pub first_item : {X : Type 0} (xs : List X) (i : ℕ) → i < length xs → X
first_item [] i lt = absurd (omega (arith, lt))
first_item (x ∷ xs) i lt = x

pub value_there : {X : Type 0} (P : X → Type 0) (xs : List X) (i : ℕ) (x : X) → i < length xs → x ≡ get_or xs i x → AllByRecursion P xs → P x
value_there P xs i x lt is all = subst P (sym is) (value_at P xs i x all lt)

-- ---- the cells of the owner's rows

first_column : (k : TableKind) (row : Row) → column (columns_from 1 (width_of k) row) 0 ≡ column row 1
first_column Meta row = refl
first_column _ row = refl

all_owned : (k : TableKind) (o : Bytes) (stored : List Row) → AreOwnedBy o (map (columns_from 1 (width_of k)) (owned_by o stored))
all_owned k o [] = tt
all_owned k o (row ∷ stored) = elim (cases_Bool (is_eq (value_cmp (column row 1) (Text o)))) [
  | inl own ↦ subst (λ b. AreOwnedBy o (map (columns_from 1 (width_of k)) (cond b (row ∷ owned_by o stored) (owned_by o stored)))) (sym own) (first_column k row ∙ compares_text_only (column row 1) o own, all_owned k o stored)
  | inr other ↦ subst (λ b. AreOwnedBy o (map (columns_from 1 (width_of k)) (cond b (row ∷ owned_by o stored) (owned_by o stored)))) (sym other) (all_owned k o stored)
]

pub read_owned : (k : TableKind) (o : Bytes) (db : Trees) (rows : List Row) → AreOfOwner k o db rows → AreOwnedBy o rows
read_owned k o db rows read = all-permutation (λ row. column row 0 ≡ Text o) (map (columns_from 1 (width_of k)) (owned_by o (db (tree_of k)))) rows read.same (all_owned k o (db (tree_of k)))

-- A fact of the rows that were read holds of those in the table.
pub stored_shown : {X : Type 0} (kind : RowKind X) (o : Bytes) (db : Trees) (rows : List Row) → AreOfOwner kind.table o db rows → AllByRecursion (IsRowOfOwner kind o) rows → AreRowsOf kind o db
stored_shown kind o db rows read all =
    let stored = map (columns_from 1 (width_of kind.table)) (owned_by o (db (tree_of kind.table))) in
    all-permutation (IsRowOfOwner kind o) rows stored (IsPermutation-sym stored rows read.same) all

pub when_ok : {X E : Type 0} (A : Type 0) (r : Result X E) → A → OnOk r A
when_ok A (Ok x) a = a
when_ok A (Err e) a = tt
