-- Of uses in order, those that are left: of each lot that a batch uses the first.
use Rattle.std.proofs.Common.{◌≡◌, ◌⊎◌, ℕ, suc, ◌<◌, ◌≤◌, Bool, true, false, cond, List, [], ◌∷◌, length, get_or, refl, sym, ap, ap₂, ◌∙◌, subst, inl, inr, arith, Contains}
use Rattle.toll_base.proofs.Texts.{same_bytes-exact, batch_cmp_total}
use Rattle.toll_trace.proofs.Common.{false≢true, IsTotalOrder, IsStrictWeakOrder, dedup, dedup_from, IsPermutation, IsSortedBy, nat_cmp, is_lt, ordering_then, MatchOrdering, Ordering, Less, Equal, Greater, and_parts, eqb-true, ranked, tied_itself, nat_cmp_total, then_total, on_total, Contains-from_dedup, Contains-permutation, IsPermutation-sym, ranks_by, IsStrictWeakOrder-flip, sorted_far, CmpEqualImpliesEq, exact_bytes, exact_unsigned, exact_pairs, bytes_cmp, batch_cmp, lot_cmp, LotId, LotUse, Batch, AreLeft, same_use}
use Rattle.toll_trace.proofs.Members.{Contains-none, Contains-here, Contains-later, Contains-cases}
use Rattle.toll_trace.proofs.Orders.{lots_total}

-- ==== what is left of a list in order

-- Each item has this relation to all that come after it.
abbrev pub Precedes : {X : Type 0} → (X → X → Type 0) → List X → Type 0
Precedes R [] = Unit {0}
Precedes {X} R (x ∷ xs) = ((y : X) → Contains xs y → R x y) × Precedes R xs

precedes_all : {X : Type 0} (R : X → X → Type 0) (xs : List X) → ((i j : ℕ) (d : X) → i ≤ j → j < length xs → R (get_or xs i d) (get_or xs j d)) → Precedes R xs
precedes_all R [] h = tt
precedes_all {X} R (x ∷ xs) h = (after, precedes_all R xs (λ i j d le lt. h (suc i) (suc j) d (omega arith) (omega arith)))
  where
    after : (y : X) → Contains xs y → R x y
    after y (k, lt, e) = subst (R x) e (h 0 (suc k) y (omega arith) (omega arith))

first_left : {X : Type 0} (same : X → X → Bool) (k : X) (xs : List X) → Contains (dedup_from same k xs) k
first_left same k [] = Contains-here k []
first_left {X} same k (x ∷ xs) = go (same x k) (first_left same k xs)
  where
    go : (b : Bool) → Contains (dedup_from same k xs) k → Contains (cond b (dedup_from same k xs) (k ∷ dedup_from same x xs)) k
    go true ih = ih
    go false ih = Contains-here k (dedup_from same x xs)

-- The item is left itself, or one that counts as the same and comes before it.
abbrev HasEqualBefore : {X : Type 0} → (X → X → Type 0) → (X → X → Bool) → List X → X → Type 0
HasEqualBefore {X} R same left x = (y : X) × Contains left y × ((y ≡ x) ⊎ ((same x y ≡ true) × R y x))

has_equal_before : {X : Type 0} (R : X → X → Type 0) (same : X → X → Bool) (k : X) (xs : List X) → Precedes R (k ∷ xs) → (x : X) → Contains (k ∷ xs) x → HasEqualBefore R same (dedup_from same k xs) x
has_equal_before R same k [] p x i = elim (Contains-cases k [] x i) [
  | inl e ↦ (k, Contains-here k [], inl e)
  | inr j ↦ absurd (Contains-none x j)
]
has_equal_before {X} R same k (z ∷ xs) p x i = go (same z k) refl (λ i. has_equal_before R same k xs ((λ y j. p.0 y (Contains-later z xs y j)), p.1.1) x i) (λ i. has_equal_before R same z xs p.1 x i)
  where
    go : (b : Bool) → same z k ≡ b → (Contains (k ∷ xs) x → HasEqualBefore R same (dedup_from same k xs) x) → (Contains (z ∷ xs) x → HasEqualBefore R same (dedup_from same z xs) x) → HasEqualBefore R same (cond b (dedup_from same k xs) (k ∷ dedup_from same z xs)) x
    go true e by_k by_z = elim (Contains-cases k (z ∷ xs) x i) [
      | inl kx ↦ by_k (subst (Contains (k ∷ xs)) kx (Contains-here k xs))
      | inr j ↦ elim (Contains-cases z xs x j) [
        | inl zx ↦ (k, first_left same k xs, inr (subst (λ w. same w k ≡ true) zx e, subst (R k) zx (p.0 z (Contains-here z xs))))
        | inr j ↦ by_k (Contains-later k xs x j)
      ]
    ]
    go false e by_k by_z = elim (Contains-cases k (z ∷ xs) x i) [
      | inl kx ↦ (k, Contains-here k (dedup_from same z xs), inl kx)
      | inr j ↦ let r = by_z j in (r.0, Contains-later k (dedup_from same z xs) r.0 r.1, r.2)
    ]

all_have_equal_before : {X : Type 0} (R : X → X → Type 0) (same : X → X → Bool) (xs : List X) → Precedes R xs → (x : X) → Contains xs x → HasEqualBefore R same (dedup same xs) x
all_have_equal_before R same [] p x i = absurd (Contains-none x i)
all_have_equal_before R same (k ∷ xs) p x i = has_equal_before R same k xs p x i

-- ==== uses

pub exact_batches : CmpEqualImpliesEq batch_cmp
exact_batches = exact_pairs bytes_cmp nat_cmp exact_bytes exact_unsigned

-- the order of uses: by their batch, then by their lot, then by their segment
abbrev pub use_cmp : Batch × LotUse → Batch × LotUse → Ordering
use_cmp u v = ordering_then (batch_cmp u.0 v.0) (ordering_then (lot_cmp u.1.lot v.1.lot) (nat_cmp u.1.segment v.1.segment))

uses_total : IsTotalOrder use_cmp
uses_total = then_total (on_total (λ (u : Batch × LotUse). u.0) batch_cmp_total) (then_total (on_total (λ (u : Batch × LotUse). u.1.lot) lots_total) (on_total (λ (u : Batch × LotUse). u.1.segment) nat_cmp_total))

exact_use : (u v : Batch × LotUse) → same_use u v ≡ true → (u.0 ≡ v.0) × (u.1.lot ≡ v.1.lot)
exact_use u v h =
    let both = and_parts _ _ h in
    let batch = and_parts _ _ both.0 in
    let lot = and_parts _ _ both.1 in
    let order : u.0.0 ≡ v.0.0 = same_bytes-exact u.0.0 v.0.0 batch.0 in
    let number : u.0.1 ≡ v.0.1 = eqb-true _ _ batch.1 in
    let owner : u.1.lot.owner ≡ v.1.lot.owner = same_bytes-exact u.1.lot.owner v.1.lot.owner lot.0 in
    let name : u.1.lot.lot ≡ v.1.lot.lot = same_bytes-exact u.1.lot.lot v.1.lot.lot lot.1 in
    (ap₂ {C = Batch} (λ a b. (a, b)) order number, ap₂ {C = LotId} (λ a b. record { owner = a; lot = b }) owner name)

pub not_below : (a b : ℕ) (r : Ordering) → MatchOrdering r (a < b) (a ≡ b) (b < a) → is_lt r ≡ false → b ≤ a
not_below a b Less m h = absurd (false≢true (sym h))
not_below a b Equal m h = omega arith
not_below a b Greater m h = omega arith

-- Of two uses of one lot by one batch, the one that isn't below the other is in no lower segment.
segments_rise : (u v : Batch × LotUse) → u.0 ≡ v.0 → u.1.lot ≡ v.1.lot → is_lt (use_cmp u v) ≡ false → v.1.segment ≤ u.1.segment
segments_rise u v batch lot h =
    let b : batch_cmp u.0 v.0 ≡ Equal = subst (λ w. batch_cmp u.0 w ≡ Equal) batch (tied_itself batch_cmp_total u.0) in
    let l : lot_cmp u.1.lot v.1.lot ≡ Equal = subst (λ w. lot_cmp u.1.lot w ≡ Equal) lot (tied_itself lots_total u.1.lot) in
    let s : is_lt (nat_cmp u.1.segment v.1.segment) ≡ false = sym (ap (λ r. is_lt (ordering_then r (ordering_then (lot_cmp u.1.lot v.1.lot) (nat_cmp u.1.segment v.1.segment)))) b ∙ ap (λ r. is_lt (ordering_then r (nat_cmp u.1.segment v.1.segment))) l) ∙ h in
    not_below u.1.segment v.1.segment _ (ranked u.1.segment v.1.segment _ refl) s

extremes_left : (so : ℕ → ℕ → Type 0) (R : Batch × LotUse → Batch × LotUse → Type 0) → ((n : ℕ) → so n n) → ((u v : Batch × LotUse) → v.0 ≡ u.0 → v.1.lot ≡ u.1.lot → R u v → so u.1.segment v.1.segment) → (uses sorted : List (Batch × LotUse)) → IsPermutation uses sorted → Precedes R sorted → AreLeft so uses (dedup same_use sorted)
extremes_left so R itself stands uses sorted moved p = record {
  none_new = λ u i. Contains-permutation sorted uses u (IsPermutation-sym uses sorted moved) (Contains-from_dedup same_use sorted u i);
  none_lost = λ batch lot segment i. found batch lot segment (all_have_equal_before R same_use sorted p (batch, record { segment = segment; lot = lot }) (Contains-permutation uses sorted _ moved i));
}
  where
    found : (batch : Batch) (lot : LotId) (segment : ℕ) → HasEqualBefore R same_use (dedup same_use sorted) (batch, record { segment = segment; lot = lot }) → (n : ℕ) × Contains (dedup same_use sorted) (batch, record { segment = n; lot = lot }) × so n segment
    found batch lot segment (y, i, inl e) = (segment, subst (Contains (dedup same_use sorted)) e i, itself segment)
    found batch lot segment (y, i, inr (same, r)) =
        let one = exact_use (batch, record { segment = segment; lot = lot }) y same in
        let is : y ≡ (batch, record { segment = y.1.segment; lot = lot }) = ap₂ {C = Batch × LotUse} (λ b l. (b, record { segment = y.1.segment; lot = l })) (sym one.0) (sym one.1) in
        (y.1.segment, subst (Contains (dedup same_use sorted)) is i, stands y (batch, record { segment = segment; lot = lot }) one.0 one.1 r)

uses_rise : IsStrictWeakOrder (λ u v. is_lt (use_cmp u v))
uses_rise = ranks_by uses_total (λ u. u)

pub uses_fall : IsStrictWeakOrder (λ u v. is_lt (use_cmp v u))
uses_fall = IsStrictWeakOrder-flip (λ u v. is_lt (use_cmp u v)) uses_rise

-- In order, the lowest segments are left; in reverse order, the highest.
pub lowest_left : (uses sorted : List (Batch × LotUse)) → IsPermutation uses sorted → IsSortedBy (λ u v. is_lt (use_cmp u v)) sorted → AreLeft (λ lowest segment. lowest ≤ segment) uses (dedup same_use sorted)
lowest_left uses sorted moved up = extremes_left (λ lowest segment. lowest ≤ segment) (λ u v. is_lt (use_cmp v u) ≡ false) (λ n. omega arith) (λ u v batch lot h. segments_rise v u batch lot h) uses sorted moved
    (precedes_all (λ u v. is_lt (use_cmp v u) ≡ false) sorted (λ i j d le lt. sorted_far (λ u v. is_lt (use_cmp u v)) uses_rise sorted up i j d le lt))

pub highest_left : (uses sorted : List (Batch × LotUse)) → IsPermutation uses sorted → IsSortedBy (λ u v. is_lt (use_cmp v u)) sorted → AreLeft (λ highest segment. segment ≤ highest) uses (dedup same_use sorted)
highest_left uses sorted moved down = extremes_left (λ highest segment. segment ≤ highest) (λ u v. is_lt (use_cmp u v) ≡ false) (λ n. omega arith) (λ u v batch lot h. segments_rise u v (sym batch) (sym lot) h) uses sorted moved
    (precedes_all (λ u v. is_lt (use_cmp u v) ≡ false) sorted (λ i j d le lt. sorted_far (λ u v. is_lt (use_cmp v u)) uses_fall sorted down i j d le lt))
