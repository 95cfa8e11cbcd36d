-- A query in the order of the key returns the rows of the table as a list.
use Rattle.std.proofs.Common.{◌≡◌, ℕ, zero, suc, ◌+◌, ◌<◌, ◌≤◌, Bool, true, false, ◌&&◌, ◌||◌, cond, inl, inr, List, [], ◌∷◌, map, length, get_or, refl, sym, ap, ap₂, subst, ◌∙◌, arith, Ordering, Less, IsSorted}
use Rattle.toll_sql.proofs.Common.{false≢true, IsTotalOrder, AllByRecursion, is_eq, is_lt, int_cmp, and_parts, cases_Bool, tied_itself, int_cmp_total, sorted_far, ranks_by, Row, column, IsAscending, Value, Null, Int, Text, all_has, Has, same_bytes-exact, same_bytes-refl, same_bytes, and_from, or_cases, or_left, or_right, Rises, NeverFalls, SameBag, total, cells_of, columns_from, fill, key_order, HasRows, AreSorted, table_of, width_of, TableKind, equal_of}
use Rattle.std.specs.FinMap.{int_cmp-IsAntisymmetric}
use Rattle.toll_sql.proofs.Bags.{total_permuted, total_map}
use Rattle.toll_sql.proofs.Keyed.{IsCell, cells_are}
use Rattle.toll_sql.proofs.Orders.{key_order_total}
use Rattle.toll_sql.proofs.WriteLemmas.{whole_row}

-- ---- rows are compared

abbrev is_same_value : Value → Value → Bool
is_same_value (Text s) (Text t) = same_bytes s t
is_same_value (Int m) (Int n) = is_eq (int_cmp m n)
is_same_value _ _ = false

value_exact : (a b : Value) → is_same_value a b ≡ true → a ≡ b
value_exact (Text s) (Text t) h = ap Text (same_bytes-exact s t h)
value_exact (Int m) (Int n) h = ap Int (int_cmp-IsAntisymmetric m n (equal_of _ h))
value_exact _ _ h = absurd (false≢true h)

value_itself : (v : Value) → IsCell v → is_same_value v v ≡ true
value_itself (Text t) h = same_bytes-refl t
value_itself (Int n) h = ap is_eq (tied_itself int_cmp_total n)
value_itself _ h = absurd h

abbrev pub same_row : Row → Row → Bool
same_row [] [] = true
same_row [] (b ∷ bs) = false
same_row (a ∷ more) [] = false
same_row (a ∷ more) (b ∷ bs) = is_same_value a b && same_row more bs

pub row_exact : (a b : Row) → same_row a b ≡ true → a ≡ b
row_exact [] [] h = refl
row_exact [] (b ∷ bs) h = absurd (false≢true h)
row_exact (a ∷ more) [] h = absurd (false≢true h)
row_exact (a ∷ more) (b ∷ bs) h = let parts = and_parts _ _ h in ap₂ (λ x xs. x ∷ xs) (value_exact a b parts.0) (row_exact more bs parts.1)

pub row_itself : (row : Row) → AllByRecursion IsCell row → same_row row row ≡ true
row_itself [] h = refl
row_itself (v ∷ row) h = and_from (is_same_value v v) (same_row row row) (value_itself v h.0) (row_itself row h.1)

-- ---- two lists with the same bag, one of which never falls while the other rises

abbrev pub IsItself : Row → Type 0
IsItself row = same_row row row ≡ true

module _ (cmp : Row → Row → Ordering) where
  abbrev count_at : Row → Row → ℕ
  count_at x v = cond (same_row v x) 1 0

  pub read_found : (x : Row) (ys : List Row) (n : ℕ) → suc n ≡ total (count_at x) ys → Has ys x
  read_found x [] n h = absurd (omega (arith, h))
  read_found x (y ∷ ys) n h = elim (cases_Bool (same_row y x)) [
    | inl hit ↦ inl (sym (row_exact y x hit))
    | inr miss ↦ (let out : count_at x y ≡ 0 = ap (λ b. cond b 1 0) miss in inr (read_found x ys n (omega (arith, h, out))))
  ]

  heads : (x y : Row) (xs ys : List Row) → NeverFalls cmp (x ∷ xs) → Rises cmp (y ∷ ys) → Has (y ∷ ys) x → Has (x ∷ xs) y → x ≡ y
  heads x y xs ys falls rises (inl same) there = same
  heads x y xs ys falls rises (inr later) (inl same) = sym same
  heads x y xs ys falls rises (inr later) (inr behind) =
      let below : cmp y x ≡ Less = all_has _ ys x rises.0 later in
      let high : is_lt (cmp y x) ≡ false = all_has _ xs y falls.0 behind in
      absurd (false≢true (sym high ∙ ap is_lt below))

  same_list : (xs ys : List Row) → AllByRecursion IsItself xs → AllByRecursion IsItself ys → NeverFalls cmp xs → Rises cmp ys → SameBag xs ys → xs ≡ ys
  same_list [] [] own other falls rises same = refl
  same_list [] (y ∷ ys) own other falls rises same = absurd (omega (arith, same (λ _. 1)))
  same_list (x ∷ xs) [] own other falls rises same = absurd (omega (arith, same (λ _. 1)))
  same_list (x ∷ xs) (y ∷ ys) own other falls rises same =
      let one : count_at x x ≡ 1 = ap (λ b. cond b 1 0) own.0 in
      let two : count_at y y ≡ 1 = ap (λ b. cond b 1 0) other.0 in
      let there = read_found x (y ∷ ys) (total (count_at x) xs) (omega (arith, same (count_at x), one)) in
      let here = read_found y (x ∷ xs) (total (count_at y) ys) (omega (arith, same (count_at y), two)) in
      let head : x ≡ y = heads x y xs ys falls rises there here in
      let rest : xs ≡ ys = same_list xs ys own.1 other.1 falls.1 rises.1 (λ f. omega (arith, same f, ap f head)) in
      rw (head, rest) refl

-- ---- order

all_at : {X : Type 0} (P : X → Type 0) (ys : List X) → ((j : ℕ) (d : X) → j < length ys → P (get_or ys j d)) → AllByRecursion P ys
all_at P [] h = tt
all_at P (y ∷ ys) h = (h 0 y (omega arith), all_at P ys (λ j d lt. h (suc j) d (omega arith)))

ascends : {X : Type 0} (R : X → X → Type 0) (xs : List X) → ((i j : ℕ) (d : X) → i ≤ j → j < length xs → R (get_or xs i d) (get_or xs j d)) → IsAscending R xs
ascends R [] h = tt
ascends R (x ∷ ys) h = (all_at (R x) ys (λ j d lt. h 0 (suc j) d (omega arith) (omega arith)), ascends R ys (λ i j d le lt. h (suc i) (suc j) d (omega arith) (omega arith)))

never_falls : {X : Type 0} (cmp : X → X → Ordering) (o : IsTotalOrder cmp) (xs : List X) → IsSorted cmp xs → NeverFalls cmp xs
never_falls cmp o xs sorted = ascends (λ a b. is_lt (cmp b a) ≡ false) xs (λ i j d le lt. sorted_far (λ a b. is_lt (cmp a b)) (ranks_by o (λ x. x)) xs sorted i j d le lt)

-- ---- each row that was read is one of the list

abbrev pub among : List Row → Row → Bool
among [] row = false
among (l ∷ ls) row = same_row l row || among ls row

has_among : (ls : List Row) (row : Row) → Has ls row → IsItself row → among ls row ≡ true
has_among [] row has own = absurd has
has_among (l ∷ ls) row (inl same) own = or_left (same_row l row) (among ls row) (ap (λ r. same_row r row) (sym same) ∙ own)
has_among (l ∷ ls) row (inr later) own = or_right (same_row l row) (among ls row) (has_among ls row later own)

among_itself : (ls : List Row) (row : Row) → AllByRecursion IsItself ls → among ls row ≡ true → IsItself row
among_itself [] row own h = absurd (false≢true h)
among_itself (l ∷ ls) row own h = elim (or_cases (same_row l row) (among ls row) h) [
  | inl hit ↦ subst IsItself (row_exact l row hit) own.0
  | inr later ↦ among_itself ls row own.1 later
]

abbrev pub stray : List Row → Row → ℕ
stray ls row = cond (among ls row) 0 1

pub none_stray : (ls : List Row) (some : List Row) → ((row : Row) → Has some row → Has ls row) → AllByRecursion IsItself some → total (stray ls) some ≡ 0
none_stray ls [] within own = refl
none_stray ls (row ∷ some) within own =
    let it : stray ls row ≡ 0 = ap (λ b. cond b 0 1) (has_among ls row (within row (inl refl)) own.0) in
    omega (arith, it, none_stray ls some (λ r has. within r (inr has)) own.1)

rows_themselves : (ls rows : List Row) → AllByRecursion IsItself ls → total (stray ls) rows ≡ 0 → AllByRecursion IsItself rows
rows_themselves ls [] own h = tt
rows_themselves ls (row ∷ rows) own h = elim (cases_Bool (among ls row)) [
  | inl hit ↦ (among_itself ls row own hit, rows_themselves ls rows own (omega (arith, h)))
  | inr miss ↦ (let one : stray ls row ≡ 1 = ap (λ b. cond b 0 1) miss in absurd (omega (arith, h, one)))
]

-- ---- the rows that are read

total_alike : {X : Type 0} (f g : X → ℕ) → ((x : X) → f x ≡ g x) → (xs : List X) → total f xs ≡ total g xs
total_alike f g p [] = refl
total_alike f g p (x ∷ xs) = ap₂ (λ a b. a + b) (p x) (total_alike f g p xs)

read_all_alike : {X : Type 0} (f g : X → ℕ) (P : X → Type 0) → ((x : X) → P x → f x ≡ g x) → (xs : List X) → AllByRecursion P xs → total f xs ≡ total g xs
read_all_alike f g P p [] all = refl
read_all_alike f g P p (x ∷ xs) all = ap₂ (λ a b. a + b) (p x all.0) (read_all_alike f g P p xs all.1)

cells_shown : (at n : ℕ) (row : Row) → columns_from (suc at) n row ≡ columns_from at n (cells_of row)
cells_shown at n [] = no_columns at n
  where
    no_columns : (at n : ℕ) → columns_from (suc at) n [] ≡ columns_from at n []
    no_columns at zero = refl
    no_columns at (suc n) = ap (λ cells. Null ∷ cells) (no_columns (suc at) n)
cells_shown at n (v ∷ row) = later at n
  where
    later : (at n : ℕ) → columns_from (suc at) n (v ∷ row) ≡ columns_from at n row
    later at zero = refl
    later at (suc n) = ap (λ cells. column row at ∷ cells) (later (suc at) n)

module _ (k : TableKind) (stored rows ls : List Row) (read : AreSorted k stored rows) (has : HasRows k ls stored) (fit : AllByRecursion (λ cells. fill k cells ≡ true) ls) where
  bags : SameBag rows ls
  bags f =
      let w = width_of k in
      let F : Row → ℕ = λ cells. f (columns_from 0 w cells) in
      sym (total_permuted f (map (columns_from 1 w) stored) rows read.same)
      ∙ total_map (columns_from 1 w) f stored
      ∙ total_alike (λ row. f (columns_from 1 w row)) (λ row. F (cells_of row)) (λ row. ap f (cells_shown 0 w row)) stored
      ∙ sym (total_map cells_of F stored)
      ∙ sym (has.same F)
      ∙ read_all_alike F f (λ cells. fill k cells ≡ true) (λ cells fits. ap f (whole_row k cells fits)) ls fit

  each_itself : (ls : List Row) → AllByRecursion (λ cells. fill k cells ≡ true) ls → AllByRecursion IsItself ls
  each_itself [] all = tt
  each_itself (cells ∷ ls) all = (row_itself cells (cells_are (table_of k).columns cells all.0), each_itself ls all.1)

  pub read_rows : rows ≡ ls
  read_rows =
      let itself = each_itself ls fit in
      same_list (key_order k) rows ls (rows_themselves ls rows itself (bags (stray ls) ∙ none_stray ls ls (λ row has. has) itself)) itself (never_falls (key_order k) (key_order_total k) rows read.sorted) has.rising bags
