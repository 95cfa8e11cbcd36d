-- Rows in key order, some of them taken out by their keys.
use Rattle.std.proofs.Common.{◌≡◌, ℕ, ◌+◌, Bool, true, false, not, cond, Option, Some, None, List, [], ◌∷◌, map, filter, refl, sym, ap, subst, ◌∙◌, arith}
use Rattle.toll_work.proofs.Common.{AllByRecursion, option_map, option_and_then, is_eq, Ordering, row_at, IsInKeyOrder, total, where_so}
use Rattle.std.specs.Cmp.{IsTotalOrder, Equal-is}
use Rattle.std.specs.List.Sorted.{IsStrictlySortedBy}
use Rattle.std.specs.declared.cmp.Ordering.TheVariants.{Less, Equal}
use Rattle.std.proofs.lemmas.Cmp.{tied_itself}
use Rattle.std.proofs.lemmas.List.Kept.{IsStrictlySortedBy-filter}
use Rattle.toll_work.proofs.FoundRow.{row_at-key}

cond_none_none : {X : Type 0} (b : Bool) → ◌≡◌ {A = Option X} (cond b None None) None
cond_none_none true = refl
cond_none_none false = refl

module _ {K R : Type 0} (cmp : K → K → Ordering) (key : R → K) where
  -- ---- a test of keys that holds of ties alike

  module _ (q : K → Bool) (alike : (k l : K) → is_eq (cmp k l) ≡ true → q k ≡ q l) where
    pub row_at-filter : (rows : List R) (k : K) → row_at cmp key (filter (λ row. q (key row)) rows) k ≡ cond (q k) (row_at cmp key rows k) None
    unfolding row_at
    row_at-filter [] k = sym (cond_none_none (q k))
    row_at-filter (x ∷ xs) k =
        elim (q (key x)) as (λ b. q (key x) ≡ b → row_at cmp key (cond b (x ∷ filter (λ row. q (key row)) xs) (filter (λ row. q (key row)) xs)) k ≡ cond (q k) (cond (is_eq (cmp k (key x))) (Some x) (row_at cmp key xs k)) None) [
          | true ↦ λ passes. elim (is_eq (cmp k (key x))) as (λ b. is_eq (cmp k (key x)) ≡ b → cond b (Some x) (row_at cmp key (filter (λ row. q (key row)) xs) k) ≡ cond (q k) (cond b (Some x) (row_at cmp key xs k)) None) [
            | true ↦ λ tied. ap (λ b. cond b (Some x) None) (sym (alike k (key x) tied ∙ passes))
            | false ↦ λ apart. row_at-filter xs k
          ] refl
          | false ↦ λ fails. elim (is_eq (cmp k (key x))) as (λ b. is_eq (cmp k (key x)) ≡ b → row_at cmp key (filter (λ row. q (key row)) xs) k ≡ cond (q k) (cond b (Some x) (row_at cmp key xs k)) None) [
            | true ↦ λ tied. let none : q k ≡ false = alike k (key x) tied ∙ fails in row_at-filter xs k ∙ ap (λ b. cond b (row_at cmp key xs k) None) none ∙ ap (λ b. cond b (Some x) None) (sym none)
            | false ↦ λ apart. row_at-filter xs k
          ] refl
        ] refl

    keys_filtered : (rows : List R) → map key (filter (λ row. q (key row)) rows) ≡ filter q (map key rows)
    keys_filtered [] = refl
    keys_filtered (x ∷ xs) =
        elim (q (key x)) as (λ b. map key (cond b (x ∷ filter (λ row. q (key row)) xs) (filter (λ row. q (key row)) xs)) ≡ cond b (key x ∷ filter q (map key xs)) (filter q (map key xs))) [
          | true ↦ ap (λ ks. key x ∷ ks) (keys_filtered xs)
          | false ↦ keys_filtered xs
        ]

    pub filter_ordered : (rows : List R) → IsInKeyOrder cmp key rows → IsInKeyOrder cmp key (filter (λ row. q (key row)) rows)
    filter_ordered rows ordered = subst (IsStrictlySortedBy cmp) (sym (keys_filtered rows)) (IsStrictlySortedBy-filter cmp q (map key rows) ordered)

  -- ---- rows mapped one by one

  module _ {L : Type 0} (make : R → L) (made_key : L → K) (same : (row : R) → made_key (make row) ≡ key row) where
    pub row_at-map : (rows : List R) (k : K) → row_at cmp made_key (map make rows) k ≡ option_map make (row_at cmp key rows k)
    unfolding row_at
    row_at-map [] k = refl
    row_at-map (x ∷ xs) k =
        ap (λ l. cond (is_eq (cmp k l)) (Some (make x)) (row_at cmp made_key (map make xs) k)) (same x)
        ∙ elim (is_eq (cmp k (key x))) as (λ b. cond b (Some (make x)) (row_at cmp made_key (map make xs) k) ≡ option_map make (cond b (Some x) (row_at cmp key xs k))) [
          | true ↦ refl
          | false ↦ row_at-map xs k
        ]

    keys_made : (rows : List R) → map made_key (map make rows) ≡ map key rows
    keys_made [] = refl
    keys_made (x ∷ xs) = λ i. same x i ∷ keys_made xs i

    pub map_ordered : (rows : List R) → IsInKeyOrder cmp key rows → IsInKeyOrder cmp made_key (map make rows)
    map_ordered rows ordered = subst (IsStrictlySortedBy cmp) (sym (keys_made rows)) ordered

    -- ---- and of each row that is left

    module _ (q : K → Bool) (alike : (k l : K) → is_eq (cmp k l) ≡ true → q k ≡ q l) where
      made_where : (k : K) (found : Option R) → ((row : R) → found ≡ Some row → q k ≡ q (key row)) → option_map make (cond (q k) found None) ≡ option_and_then (λ row. where_so (q (key row)) (make row)) found
      made_where k None tied = ap (option_map make) (cond_none_none (q k))
      made_where k (Some row) tied = ap (λ b. option_map make (cond b (Some row) None)) (tied row refl) ∙ some_where (q (key row)) row
        where
          some_where : (b : Bool) (row : R) → option_map make (cond b (Some row) None) ≡ where_so b (make row)
          some_where true row = refl
          some_where false row = refl

      pub keyed_made_at : (rows : List R) (k : K) → row_at cmp made_key (map make (filter (λ row. q (key row)) rows)) k ≡ option_and_then (λ row. where_so (q (key row)) (make row)) (row_at cmp key rows k)
      keyed_made_at rows k =
          row_at-map (filter (λ row. q (key row)) rows) k
          ∙ ap (option_map make) (row_at-filter q alike rows k)
          ∙ made_where k (row_at cmp key rows k) (λ row found. alike k (key row) (row_at-key cmp key rows k row found))

      pub keyed_made_ordered : (rows : List R) → IsInKeyOrder cmp key rows → IsInKeyOrder cmp made_key (map make (filter (λ row. q (key row)) rows))
      keyed_made_ordered rows ordered = map_ordered (filter (λ row. q (key row)) rows) (filter_ordered q alike rows ordered)

  -- ---- a row taken out

  module _ (o : IsTotalOrder cmp) where
    pub keyed_head_found : (x : R) (xs : List R) → row_at cmp key (x ∷ xs) (key x) ≡ Some x
    unfolding row_at
    keyed_head_found x xs = ap (λ r. cond (is_eq r) (Some x) (row_at cmp key xs (key x))) (tied_itself o (key x))

    none_taken : (k : K) (x : R) (xs : List R) → cmp k (key x) ≡ Equal → AllByRecursion (λ y. cmp (key x) y ≡ Less) (map key xs) → filter (λ row. not (is_eq (cmp k (key row)))) xs ≡ xs
    none_taken k x [] tied above = refl
    none_taken k x (y ∷ ys) tied above =
        ap (λ r. cond (not (is_eq r)) (y ∷ filter (λ row. not (is_eq (cmp k (key row)))) ys) (filter (λ row. not (is_eq (cmp k (key row)))) ys)) (o.congr k (key x) (key y) tied ∙ above.0)
        ∙ ap (λ zs. y ∷ zs) (none_taken k x ys tied above.1)

    -- A sum is that of the row with a key, and of the rows without it.
    pub total_taken : (f : R → ℕ) (rows : List R) (k : K) (row : R) → IsInKeyOrder cmp key rows → row_at cmp key rows k ≡ Some row → total f rows ≡ f row + total f (filter (λ r. not (is_eq (cmp k (key r)))) rows)
    unfolding row_at IsStrictlySortedBy
    total_taken f [] k row ordered found = (cc)
    total_taken f (x ∷ xs) k row ordered found =
        elim (is_eq (cmp k (key x))) as (λ b. is_eq (cmp k (key x)) ≡ b → cond b (Some x) (row_at cmp key xs k) ≡ Some row → f x + total f xs ≡ f row + total f (cond (not b) (x ∷ filter (λ r. not (is_eq (cmp k (key r)))) xs) (filter (λ r. not (is_eq (cmp k (key r)))) xs))) [
          | true ↦ λ tied is. let same : x ≡ row = (cc) in λ i. f (same i) + total f (sym (none_taken k x xs ((Equal-is _).0 tied) ordered.0) i)
          | false ↦ λ apart is. omega (arith, total_taken f xs k row ordered.1 is)
        ] refl found
