-- Lots and their numbers in a sorted list.
use Rattle.std.proofs.Common.{◌≡◌, ℕ, zero, suc, ◌+◌, ◌-◌, ◌<◌, ◌≤◌, false, List, [], ◌∷◌, ◌++◌, length, get_or, sym, ap, ◌∙◌, subst, Err, inl, inr, arith, Contains}
use Rattle.std.specs.List.Sorted.{IsBinarySearchResult, IsNonDecreasingBy}
use Rattle.toll_trace.proofs.Common.{false≢true, cases_lt, IsStrictlySortedBy, IsSortedByKey, is_lt, ordering_index, ordering_reverse, Ordering, Less, Equal, Greater, tied_itself, searchable_from_sorted, Contains-append_left, Contains-append_right, Contains-append_cases, LotId, lot_cmp, get_or_default, IsNumber, AreAllNumbers, HaveNumbers}
use Rattle.toll_trace.proofs.Members.{Contains-none, Contains-here, Contains-cases, member_of_all}
use Rattle.toll_trace.proofs.Orders.{lots_total, lots_exact}

-- ==== a sorted list by its places

pub below_at : {X : Type 0} (c : X → X → Ordering) (xs : List X) → IsStrictlySortedBy c xs → (i j : ℕ) (d : X) → i < j → j < length xs → c (get_or xs i d) (get_or xs j d) ≡ Less
unfolding IsStrictlySortedBy
below_at c [] sorted i j d lt in_xs = absurd (omega arith)
below_at c (x ∷ xs) sorted i zero d lt in_xs = absurd (omega arith)
below_at c (x ∷ xs) sorted zero (suc j) d lt in_xs = member_of_all (λ y. c x y ≡ Less) xs (get_or xs j d) sorted.0 (j, omega arith, get_or_default xs j (get_or xs j d) d (omega arith))
below_at c (x ∷ xs) sorted (suc i) (suc j) d lt in_xs = below_at c xs sorted.1 i j d (omega arith) (omega arith)

not_below_itself : (lot : LotId) → lot_cmp lot lot ≡ Less → ⊥
not_below_itself lot lt = let tie = tied_itself lots_total lot in cc

-- A lot has only one number.
pub one_number : (lots : List LotId) → IsStrictlySortedBy lot_cmp lots → (m n : ℕ) (lot : LotId) → IsNumber lots m lot → IsNumber lots n lot → m ≡ n
one_number lots sorted m n lot at_m at_n = elim (cases_lt m n) [
  | inl lt ↦ absurd (not_below_itself lot (subst (λ l. lot_cmp l lot ≡ Less) at_m.1 (subst (λ l. lot_cmp (get_or lots m lot) l ≡ Less) at_n.1 (below_at lot_cmp lots sorted m n lot lt at_n.0))))
  | inr le ↦ elim (cases_lt n m) [
    | inl lt ↦ absurd (not_below_itself lot (subst (λ l. lot_cmp l lot ≡ Less) at_n.1 (subst (λ l. lot_cmp (get_or lots n lot) l ≡ Less) at_m.1 (below_at lot_cmp lots sorted n m lot lt at_m.0))))
    | inr ge ↦ omega arith
  ]
]

-- A number is that of only one lot.
pub one_lot_numbered : (lots : List LotId) (n : ℕ) (a b : LotId) → IsNumber lots n a → IsNumber lots n b → a ≡ b
one_lot_numbered lots n a b at_a at_b = sym at_a.1 ∙ get_or_default lots n a b at_a.0 ∙ at_b.1

pub has_number : (lots : List LotId) (lot : LotId) → Contains lots lot → (n : ℕ) × IsNumber lots n lot
has_number lots lot (n, lt, e) = (n, (lt, e))

pub listed_number : (lots : List LotId) (n : ℕ) (lot : LotId) → IsNumber lots n lot → Contains lots lot
listed_number lots n lot at = (n, at.0, at.1)

-- the lot that has the number
pub lot_numbered : (lots : List LotId) (n : ℕ) (d : LotId) → n < length lots → IsNumber lots n (get_or lots n d)
lot_numbered lots n d lt = (lt, get_or_default lots n (get_or lots n d) d lt)

pub some_lot : (lots : List LotId) (n : ℕ) → n < length lots → (lot : LotId) × IsNumber lots n lot
some_lot [] n lt = absurd (omega arith)
some_lot (l ∷ lots) n lt = (get_or (l ∷ lots) n l, lot_numbered (l ∷ lots) n l lt)

-- ==== a search

reversed : (r s : Ordering) → s ≡ ordering_reverse r → r ≡ Less → is_lt s ≡ false
reversed Less s e lt = ap is_lt e
reversed Equal s e lt = absurd (cc)
reversed Greater s e lt = absurd (cc)

pub sorted_lots : (lots : List LotId) → IsStrictlySortedBy lot_cmp lots → IsSortedByKey (λ (l : LotId). l) lot_cmp lots
sorted_lots lots sorted k d low lt = reversed _ _ (lots_total.antisymm (get_or lots (k + 1) d) (get_or lots k d)) (below_at lot_cmp lots sorted k (k + 1) d (omega arith) lt)

lots_rise : (lots : List LotId) → IsStrictlySortedBy lot_cmp lots → (lot : LotId) → IsNonDecreasingBy (λ y. ordering_index (lot_cmp y lot)) lots
lots_rise lots sorted lot = searchable_from_sorted lots_total (λ (l : LotId). l) lots lot (sorted_lots lots sorted)

-- A lot that a search ends at has that place as its number.
pub lot_found_at : (lots : List LotId) (n : ℕ) (lot : LotId) → n < length lots → ((d : LotId) → lot_cmp (get_or lots n d) lot ≡ Equal) → IsNumber lots n lot
lot_found_at lots n lot lt equal = (lt, lots_exact (get_or lots n lot) lot (equal lot))

-- If a search ends between lots, the lot isn't in the list.
pub not_listed : (lots : List LotId) → IsStrictlySortedBy lot_cmp lots → (n : ℕ) (lot : LotId) → IsBinarySearchResult (λ y. lot_cmp y lot) lots (Err n) → Contains lots lot → ⊥
not_listed lots sorted n lot parted (k, lt, e) =
    let parts = parted (lots_rise lots sorted lot) in
    let tie : lot_cmp (get_or lots k lot) lot ≡ Equal = subst (λ l. lot_cmp l lot ≡ Equal) (sym e) (tied_itself lots_total lot) in
    elim (cases_lt k n) [
      | inl before ↦ (let less : lot_cmp (get_or lots k lot) lot ≡ Less = parts.0 k lot (omega arith) before in absurd (cc))
      | inr after ↦ (let greater : lot_cmp (get_or lots k lot) lot ≡ Greater = parts.1 k lot after lt in absurd (cc))
    ]

-- ==== a gap between neighbours

both_less : (a b : LotId) → lot_cmp a b ≡ Less → lot_cmp b a ≡ Less → ⊥
both_less a b ab ba = let not_less = reversed (lot_cmp b a) (lot_cmp a b) (lots_total.antisymm a b) ba in false≢true (sym not_less ∙ ap is_lt ab)

-- A lot at a place or after it isn't less than the lot there.
at_or_behind : (lots : List LotId) → IsStrictlySortedBy lot_cmp lots → (place k : ℕ) (lot : LotId) → place ≤ k → k < length lots → get_or lots k lot ≡ lot
    → lot_cmp lot (get_or lots place lot) ≡ Less → ⊥
at_or_behind lots sorted place k lot le lt e less =
    elim (cases_lt place k) [
      | inl before ↦ both_less lot (get_or lots place lot) less (subst (λ l. lot_cmp (get_or lots place lot) l ≡ Less) e (below_at lot_cmp lots sorted place k lot before lt))
      | inr after ↦ (let same : place ≡ k = omega arith in not_below_itself lot (subst (λ l. lot_cmp lot l ≡ Less) (ap (λ i. get_or lots i lot) same ∙ e) less))
    ]

-- A lot at a place or before it isn't greater than the lot there.
at_or_before : (lots : List LotId) → IsStrictlySortedBy lot_cmp lots → (place k : ℕ) (lot : LotId) → k ≤ place → place < length lots → get_or lots k lot ≡ lot
    → lot_cmp (get_or lots place lot) lot ≡ Less → ⊥
at_or_before lots sorted place k lot le lt e less =
    elim (cases_lt k place) [
      | inl before ↦ both_less lot (get_or lots place lot) (subst (λ l. lot_cmp l (get_or lots place lot) ≡ Less) e (below_at lot_cmp lots sorted k place lot before lt)) less
      | inr after ↦ (let same : place ≡ k = omega arith in not_below_itself lot (subst (λ l. lot_cmp l lot ≡ Less) (ap (λ i. get_or lots i lot) same ∙ e) less))
    ]

-- A lot between two neighbours isn't in the list.
pub not_in_gap : (lots : List LotId) → IsStrictlySortedBy lot_cmp lots → (place : ℕ) (lot : LotId)
    → ((k : ℕ) → k + 1 ≡ place → (k < length lots) × (lot_cmp (get_or lots k lot) lot ≡ Less))
    → (place < length lots → lot_cmp lot (get_or lots place lot) ≡ Less)
    → Contains lots lot → ⊥
not_in_gap lots sorted zero lot behind ahead (k, lt, e) = at_or_behind lots sorted zero k lot (omega arith) lt e (ahead (omega arith))
not_in_gap lots sorted (suc last) lot behind ahead (k, lt, e) =
    elim (cases_lt k (suc last)) [
      | inl before ↦ (let b = behind last (omega arith) in at_or_before lots sorted last k lot (omega arith) b.0 e b.1)
      | inr after ↦ at_or_behind lots sorted (suc last) k lot after lt e (ahead (omega arith))
    ]

-- the lot before a place, if the place has one
pub behind_it : (lots : List LotId) (place last : ℕ) (lot d : LotId) → 1 ≤ place → last ≡ place - 1 → last < length lots → lot_cmp (get_or lots last d) lot ≡ Less
    → (k : ℕ) → k + 1 ≡ place → (k < length lots) × (lot_cmp (get_or lots k lot) lot ≡ Less)
behind_it lots place last lot d one is lt less k at =
    let same : last ≡ k = omega arith in
    (omega arith, subst (λ i. lot_cmp (get_or lots i lot) lot ≡ Less) same (subst (λ l. lot_cmp l lot ≡ Less) (get_or_default lots last d lot lt) less))

pub behind_none : (lots : List LotId) (place : ℕ) (lot : LotId) → (1 ≤ place → ⊥) → (k : ℕ) → k + 1 ≡ place → (k < length lots) × (lot_cmp (get_or lots k lot) lot ≡ Less)
behind_none lots place lot none k at = absurd (none (omega arith))

-- ==== numbers of lots

module _ (lots those : List LotId) (lot : LotId) (numbers : List ℕ) (old : AreAllNumbers lots those numbers) where
  pub numbers_more : IsStrictlySortedBy lot_cmp lots → (n : ℕ) → IsNumber lots n lot → AreAllNumbers lots (those ++ lot ∷ []) (numbers ++ n ∷ [])
  numbers_more sorted n at = record {
    only = λ m i. elim (Contains-append_cases numbers (n ∷ []) m i) [
      | inl i ↦ let r = old.only m i in (r.0, r.1, Contains-append_left those (lot ∷ []) r.0 r.2)
      | inr i ↦ elim (Contains-cases n [] m i) [
        | inl same ↦ (lot, subst (λ k. IsNumber lots k lot) same at, Contains-append_right those (lot ∷ []) lot (Contains-here lot []))
        | inr none ↦ absurd (Contains-none m none)
      ]
    ];
    every = λ l m i at_m. elim (Contains-append_cases those (lot ∷ []) l i) [
      | inl i ↦ Contains-append_left numbers (n ∷ []) m (old.every l m i at_m)
      | inr i ↦ elim (Contains-cases lot [] l i) [
        | inl same ↦ Contains-append_right numbers (n ∷ []) m (subst (λ k. Contains (n ∷ []) k) (one_number lots sorted n m l (subst (λ k. IsNumber lots n k) same at) at_m) (Contains-here n []))
        | inr none ↦ absurd (Contains-none l none)
      ]
    ];
  }

  pub numbers_but : (Contains lots lot → ⊥) → AreAllNumbers lots (those ++ lot ∷ []) numbers
  numbers_but unlisted = record {
    only = λ m i. let r = old.only m i in (r.0, r.1, Contains-append_left those (lot ∷ []) r.0 r.2);
    every = λ l m i at_m. elim (Contains-append_cases those (lot ∷ []) l i) [
      | inl i ↦ old.every l m i at_m
      | inr i ↦ elim (Contains-cases lot [] l i) [
        | inl same ↦ absurd (unlisted (subst (λ k. Contains lots k) (sym same) (listed_number lots m l at_m)))
        | inr none ↦ absurd (Contains-none l none)
      ]
    ];
  }

-- ==== numbered uses

module _ {P : Type 0} (lots : List LotId) (uses : List (P × LotId)) (p : P) (lot : LotId) (all : List (P × ℕ)) (old : HaveNumbers lots uses all) where
  pub lot_numbered_more : IsStrictlySortedBy lot_cmp lots → (n : ℕ) → IsNumber lots n lot → HaveNumbers lots (uses ++ (p, lot) ∷ []) (all ++ (p, n) ∷ [])
  lot_numbered_more sorted n at = record {
    only = λ v i. elim (Contains-append_cases all ((p, n) ∷ []) v i) [
      | inl i ↦ let r = old.only v i in (r.0, r.1, Contains-append_left uses ((p, lot) ∷ []) (v.0, r.0) r.2)
      | inr i ↦ elim (Contains-cases (p, n) [] v i) [
        | inl same ↦ subst (λ (w : P × ℕ). (l : LotId) × IsNumber lots w.1 l × Contains (uses ++ (p, lot) ∷ []) (w.0, l)) same (lot, at, Contains-append_right uses ((p, lot) ∷ []) (p, lot) (Contains-here (p, lot) []))
        | inr none ↦ absurd (Contains-none v none)
      ]
    ];
    every = λ u m i at_m. elim (Contains-append_cases uses ((p, lot) ∷ []) u i) [
      | inl i ↦ Contains-append_left all ((p, n) ∷ []) (u.0, m) (old.every u m i at_m)
      | inr i ↦ elim (Contains-cases (p, lot) [] u i) [
        | inl same ↦
            let of_lot : IsNumber lots n u.1 = subst (λ (w : P × LotId). IsNumber lots n w.1) same at in
            let one : n ≡ m = one_number lots sorted n m u.1 of_lot at_m in
            subst (λ (w : P × LotId). Contains (all ++ (p, n) ∷ []) (w.0, m)) same (subst (λ k. Contains (all ++ (p, n) ∷ []) (p, k)) one (Contains-append_right all ((p, n) ∷ []) (p, n) (Contains-here (p, n) [])))
        | inr none ↦ absurd (Contains-none u none)
      ]
    ];
  }
