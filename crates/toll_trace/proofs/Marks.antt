-- Marks of lots, and lots by their numbers.
use Rattle.std.proofs.Common.{◌≡◌, ℕ, ◌<◌, Bool, true, false, List, [], ◌∷◌, ◌++◌, length, get_or, set, sym, ap, ◌∙◌, subst, inl, inr, Contains}
use Rattle.toll_trace.proofs.Common.{cases_eq, Contains-append_left, Contains-append_right, Contains-append_cases, LotId, get_or-set_same, get_or-set_other, length-set, AreAdded, IsNumber, AreMarked, AreWalked, is_marked}
use Rattle.toll_trace.proofs.Members.{Contains-none, Contains-here, Contains-cases}
use Rattle.toll_trace.proofs.Numbering.{one_lot_numbered}

pub marked_more : (old new : List Bool) (numbers : List ℕ) (n : ℕ) → n < length new → AreMarked old numbers new → AreMarked old (numbers ++ n ∷ []) (set new n true)
marked_more old new numbers n lt was = record {
  sized = length-set new n true ∙ was.sized;
  kept = λ m h. marks m (was.kept m h);
  added = λ m i. elim (Contains-append_cases numbers (n ∷ []) m i) [
    | inl i ↦ marks m (was.added m i)
    | inr i ↦ elim (Contains-cases n [] m i) [ inl same ↦ at m (sym same) | inr none ↦ absurd (Contains-none m none) ]
  ];
  only = λ m h. elim (cases_eq m n) [
    | inl same ↦ inr (Contains-append_right numbers (n ∷ []) m (subst (λ k. Contains (n ∷ []) k) (sym same) (Contains-here n [])))
    | inr other ↦ elim (was.only m (sym (get_or-set_other new n m true false other) ∙ h)) [ inl k ↦ inl k | inr i ↦ inr (Contains-append_left numbers (n ∷ []) m i) ]
  ];
}
  where
    at : (m : ℕ) → m ≡ n → is_marked (set new n true) m ≡ true
    at m same = ap (λ k. get_or (set new n true) k false) same ∙ get_or-set_same new n true false lt

    marks : (m : ℕ) → is_marked new m ≡ true → is_marked (set new n true) m ≡ true
    marks m h = elim (cases_eq m n) [ inl same ↦ at m same | inr other ↦ get_or-set_other new n m true false other ∙ h ]

-- The walk once the new lots are marked.
pub walked_marked : (targets lows front : List ℕ) (old new : List Bool) → AreWalked targets (is_marked old) lows front → AreMarked old front new → AreWalked targets (is_marked new) lows []
walked_marked targets lows front old new walked marked = record {
  low = walked.low;
  known = λ end x le i. elim (walked.known end x le i) [ inl h ↦ inl (marked.kept x h) | inr j ↦ inl (marked.added x j) ];
}

-- ==== lots by their numbers

pub added_more : (all before lots : List LotId) (numbers : List ℕ) (n : ℕ) (lot : LotId) → IsNumber all n lot → AreAdded all numbers before lots → AreAdded all (numbers ++ n ∷ []) before (lots ++ lot ∷ [])
added_more all before lots numbers n lot at was = record {
  kept = λ b i. Contains-append_left lots (lot ∷ []) b (was.kept b i);
  only = λ b i. elim (Contains-append_cases lots (lot ∷ []) b i) [
    | inl i ↦ elim (was.only b i) [ inl j ↦ inl j | inr r ↦ inr (r.0, Contains-append_left numbers (n ∷ []) r.0 r.1, r.2) ]
    | inr i ↦ elim (Contains-cases lot [] b i) [
      | inl same ↦ inr (n, Contains-append_right numbers (n ∷ []) n (Contains-here n []), subst (λ l. IsNumber all n l) same at)
      | inr none ↦ absurd (Contains-none b none)
    ]
  ];
  every = λ m b i at_m. elim (Contains-append_cases numbers (n ∷ []) m i) [
    | inl i ↦ Contains-append_left lots (lot ∷ []) b (was.every m b i at_m)
    | inr i ↦ elim (Contains-cases n [] m i) [
      | inl same ↦ Contains-append_right lots (lot ∷ []) b (subst (λ l. Contains (lot ∷ []) l) (one_lot_numbered all n lot b at (subst (λ k. IsNumber all k b) (sym same) at_m)) (Contains-here lot []))
      | inr none ↦ absurd (Contains-none m none)
    ]
  ];
}
