-- The fields of a record, one by one.
use Rattle.std.proofs.Common.{◌≡◌, ◌+◌, ◌<◌, ℕ, zero, suc, List, [], ◌∷◌, ◌++◌, length, get_or, take, drop, map, refl, sym, ap, subst, ◌∙◌, append_assoc, add-one, arith, Some, None}
use Rattle.toll_plant.proofs.Common.{append-nil, map-append, field_at, Bytes}

-- The field at a place comes first of those from this place on.
pub field_before : (fields : List Bytes) (i : ℕ) (field : Bytes) → field_at fields i ≡ Some field → drop i fields ≡ field ∷ drop (suc i) fields
unfolding field_at
field_before [] i field is = absurd (cc is)
field_before (f ∷ fields) zero field is = let same : f ≡ field = cc is in ap (λ g. g ∷ fields) same
field_before (f ∷ fields) (suc i) field is = field_before fields i field is

-- If there is no field at a place, none is left.
pub no_fields_left : (fields : List Bytes) (i : ℕ) → field_at fields i ≡ None → drop i fields ≡ []
unfolding field_at
no_fields_left [] zero is = refl
no_fields_left [] (suc i) is = refl
no_fields_left (f ∷ fields) zero is = absurd (cc is)
no_fields_left (f ∷ fields) (suc i) is = no_fields_left fields i is

module _ {S : Type 0} (bytes : S → Bytes) where
  -- One more field is taken from those that are left.
  pub field_one_more : (all : List Bytes) (taken more : List S) (i j : ℕ) (field : S) → map bytes taken ++ drop i all ≡ all → more ≡ taken ++ field ∷ [] → field_at all i ≡ Some (bytes field) → j ≡ i + 1
      → map bytes more ++ drop j all ≡ all
  field_one_more all taken more i j field before grown here next =
      rw (grown, next, add-one, map-append bytes taken (field ∷ []), append_assoc (map bytes taken) (bytes field ∷ []) (drop (suc i) all))
      (ap (λ rest. map bytes taken ++ rest) (sym (field_before all i (bytes field) here)) ∙ before)

  -- If no field is left, all were taken.
  pub all_there : (all : List Bytes) (taken : List S) (i : ℕ) → map bytes taken ++ drop i all ≡ all → field_at all i ≡ None → map bytes taken ≡ all
  all_there all taken i before none = sym (append-nil (map bytes taken)) ∙ (ap (λ rest. map bytes taken ++ rest) (sym (no_fields_left all i none)) ∙ before)

-- ---- a record's fields and other texts

-- the text at a place
pub text_at : {S : Type 0} (bytes : S → Bytes) (texts : List S) (i : ℕ) (d : S) → i < length texts → field_at (map bytes texts) i ≡ Some (bytes (get_or texts i d))
unfolding field_at
text_at bytes [] i d within = absurd (omega (arith, within))
text_at bytes (t ∷ texts) zero d within = refl
text_at bytes (t ∷ texts) (suc i) d within = text_at bytes texts i d (omega (arith, within))

-- Two lists that agree up to a place, and at this place, agree up to the next.
pub alike_more : (fields names : List Bytes) (i : ℕ) (name : Bytes) → field_at fields i ≡ Some name → field_at names i ≡ Some name → take i fields ≡ take i names → take (suc i) fields ≡ take (suc i) names
unfolding field_at
alike_more [] names i name has is same = absurd (cc has)
alike_more (f ∷ fields) [] i name has is same = absurd (cc is)
alike_more (f ∷ fields) (n ∷ names) zero name has is same =
    let first : f ≡ name = cc has in
    let other : n ≡ name = cc is in
    λ i. (first ∙ sym other) i ∷ []
alike_more (f ∷ fields) (n ∷ names) (suc i) name has is same =
    let first : f ≡ n = cc same in
    let rest : take i fields ≡ take i names = cc same in
    λ j. first j ∷ alike_more fields names i name has is rest j

module _ {S : Type 0} (bytes : S → Bytes) (texts : List S) (i j : ℕ) (d : S) (fields names : List Bytes) (texts_are : map bytes texts ≡ names) (within : i < length texts) (at : j ≡ i) where
  named : field_at names j ≡ Some (bytes (get_or texts i d))
  named = subst (λ k. field_at names k ≡ Some (bytes (get_or texts i d))) (sym at) (subst (λ all. field_at all i ≡ Some (bytes (get_or texts i d))) texts_are (text_at bytes texts i d within))

  -- The field at the place is the text there.
  pub alike_there : field_at fields j ≡ Some (bytes (get_or texts i d)) → take i fields ≡ take i names → take (i + 1) fields ≡ take (i + 1) names
  alike_there has = subst (λ k. take k fields ≡ take k names → take (k + 1) fields ≡ take (k + 1) names) at (rw add-one (alike_more fields names j (bytes (get_or texts i d)) has named))

  -- If the field at the place isn't the text there, the lists differ.
  pub unlike_there : ¬ (field_at fields j ≡ Some (bytes (get_or texts i d))) → ¬ (fields ≡ names)
  unlike_there other same = other (subst (λ all. field_at all j ≡ Some (bytes (get_or texts i d))) (sym same) named)
