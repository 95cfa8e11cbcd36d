-- Members of lists, and lists in order.
use Rattle.std.proofs.Common.{◌≡◌, ◌⊎◌, zero, suc, ◌+◌, ◌<◌, ◌≤◌, Bool, true, false, cond, Option, Some, None, List, [], ◌∷◌, ◌++◌, map, refl, sym, ap, ◌∙◌, subst, inl, inr, arith, Contains, Any, filter, if◌then◌else◌}
use Rattle.toll_trace.proofs.Common.{false≢true, CmpEqualImpliesEq, tells_apart, count, IsTotalOrder, AllByRecursion, filter_map, cons_option, flat_map, Contains-append_left, Contains-append_right, Contains-append_cases, IsStrictlySortedBy, is_eq, ordering_reverse, Ordering, Less, Greater, tied_itself, IsInOrder}

pub Contains-none : {X : Type 0} (x : X) → Contains [] x → ⊥
Contains-none x (k, lt, e) = omega arith

pub Contains-here : {X : Type 0} (x : X) (xs : List X) → Contains (x ∷ xs) x
Contains-here x xs = (0, omega arith, refl)

pub Contains-later : {X : Type 0} (y : X) (xs : List X) (x : X) → Contains xs x → Contains (y ∷ xs) x
Contains-later y xs x (k, lt, e) = (suc k, omega arith, e)

pub Contains-cases : {X : Type 0} (y : X) (xs : List X) (x : X) → Contains (y ∷ xs) x → (y ≡ x) ⊎ Contains xs x
Contains-cases y xs x (zero, lt, e) = inl e
Contains-cases y xs x (suc k, lt, e) = inr (k, omega arith, e)

pub Contains-map : {X Y : Type 0} (f : X → Y) (xs : List X) (x : X) → Contains xs x → Contains (map f xs) (f x)
Contains-map f [] x h = absurd (Contains-none x h)
Contains-map f (y ∷ xs) x h = elim (Contains-cases y xs x h) [
  | inl e ↦ subst (λ z. Contains (f y ∷ map f xs) z) (ap f e) (Contains-here (f y) (map f xs))
  | inr h ↦ Contains-later (f y) (map f xs) (f x) (Contains-map f xs x h)
]

pub Contains-from_map : {X Y : Type 0} (f : X → Y) (xs : List X) (y : Y) → Contains (map f xs) y → (x : X) × Contains xs x × (f x ≡ y)
Contains-from_map f [] y h = absurd (Contains-none y h)
Contains-from_map f (x ∷ xs) y h = elim (Contains-cases (f x) (map f xs) y h) [
  | inl e ↦ (x, Contains-here x xs, e)
  | inr h ↦ let r = Contains-from_map f xs y h in (r.0, Contains-later x xs r.0 r.1, r.2)
]

pub Contains-filter : {X : Type 0} (p : X → Bool) (xs : List X) (x : X) → Contains xs x → p x ≡ true → Contains (filter p xs) x
Contains-filter p [] x h t = h
Contains-filter p (y ∷ xs) x h t = go (p y) refl (Contains-cases y xs x h) (λ h. Contains-filter p xs x h t)
  where
    go : (b : Bool) → p y ≡ b → (y ≡ x) ⊎ Contains xs x → (Contains xs x → Contains (filter p xs) x) → Contains (cond b (y ∷ filter p xs) (filter p xs)) x
    go true e (inl yx) ih = subst (λ z. Contains (y ∷ filter p xs) z) yx (Contains-here y (filter p xs))
    go true e (inr h) ih = Contains-later y (filter p xs) x (ih h)
    go false e (inl yx) ih = absurd (false≢true (sym e ∙ ap p yx ∙ t))
    go false e (inr h) ih = ih h

pub Contains-from_filter : {X : Type 0} (p : X → Bool) (xs : List X) (x : X) → Contains (filter p xs) x → Contains xs x × (p x ≡ true)
Contains-from_filter p [] x h = absurd (Contains-none x h)
Contains-from_filter p (y ∷ xs) x h = go (p y) refl h (Contains-from_filter p xs x)
  where
    go : (b : Bool) → p y ≡ b → Contains (cond b (y ∷ filter p xs) (filter p xs)) x → (Contains (filter p xs) x → Contains xs x × (p x ≡ true)) → Contains (y ∷ xs) x × (p x ≡ true)
    go true e h ih = elim (Contains-cases y (filter p xs) x h) [
      | inl yx ↦ (subst (λ z. Contains (y ∷ xs) z) yx (Contains-here y xs), ap p (sym yx) ∙ e)
      | inr h ↦ (Contains-later y xs x (ih h).0, (ih h).1)
    ]
    go false e h ih = (Contains-later y xs x (ih h).0, (ih h).1)

pub Contains-filter_map : {X Y : Type 0} (h : X → Option Y) (xs : List X) (x : X) (y : Y) → Contains xs x → h x ≡ Some y → Contains (filter_map h xs) y
Contains-filter_map h [] x y i e = absurd (Contains-none x i)
Contains-filter_map h (z ∷ xs) x y i e = go (h z) refl (Contains-cases z xs x i) (λ j. Contains-filter_map h xs x y j e)
  where
    go : (o : Option _) → h z ≡ o → (z ≡ x) ⊎ Contains xs x → (Contains xs x → Contains (filter_map h xs) y) → Contains (cons_option o (filter_map h xs)) y
    go None n (inl zx) ih = let w : h x ≡ None = subst (λ v. h v ≡ None) zx n in cc
    go None n (inr j) ih = ih j
    go (Some w) n (inl zx) ih = let same : w ≡ y = (let v : h x ≡ Some w = subst (λ v. h v ≡ Some w) zx n in cc) in subst (λ v. Contains (w ∷ filter_map h xs) v) same (Contains-here w (filter_map h xs))
    go (Some w) n (inr j) ih = Contains-later w (filter_map h xs) y (ih j)

pub Contains-from_filter_map : {X Y : Type 0} (h : X → Option Y) (xs : List X) (y : Y) → Contains (filter_map h xs) y → (x : X) × Contains xs x × (h x ≡ Some y)
Contains-from_filter_map h [] y i = absurd (Contains-none y i)
Contains-from_filter_map {X} h (z ∷ xs) y i = go (h z) refl i (Contains-from_filter_map h xs y)
  where
    go : (o : Option _) → h z ≡ o → Contains (cons_option o (filter_map h xs)) y → (Contains (filter_map h xs) y → (x : X) × Contains xs x × (h x ≡ Some y)) → (x : X) × Contains (z ∷ xs) x × (h x ≡ Some y)
    go None n i ih = let r = ih i in (r.0, Contains-later z xs r.0 r.1, r.2)
    go (Some w) n i ih = elim (Contains-cases w (filter_map h xs) y i) [
      | inl e ↦ (z, Contains-here z xs, n ∙ ap (λ v. Some v) e)
      | inr j ↦ let r = ih j in (r.0, Contains-later z xs r.0 r.1, r.2)
    ]

pub Contains-flat_map : {X Y : Type 0} (f : X → List Y) (xs : List X) (x : X) (y : Y) → Contains xs x → Contains (f x) y → Contains (flat_map f xs) y
Contains-flat_map f [] x y i j = absurd (Contains-none x i)
Contains-flat_map f (z ∷ xs) x y i j = elim (Contains-cases z xs x i) [
  | inl zx ↦ Contains-append_left (f z) (flat_map f xs) y (subst (λ v. Contains (f v) y) (sym zx) j)
  | inr i ↦ Contains-append_right (f z) (flat_map f xs) y (Contains-flat_map f xs x y i j)
]

pub Contains-from_flat_map : {X Y : Type 0} (f : X → List Y) (xs : List X) (y : Y) → Contains (flat_map f xs) y → (x : X) × Contains xs x × Contains (f x) y
Contains-from_flat_map f [] y i = absurd (Contains-none y i)
Contains-from_flat_map f (z ∷ xs) y i = elim (Contains-append_cases (f z) (flat_map f xs) y i) [
  | inl j ↦ (z, Contains-here z xs, j)
  | inr j ↦ let r = Contains-from_flat_map f xs y j in (r.0, Contains-later z xs r.0 r.1, r.2)
]

-- ==== lists in order

pub all_of_members : {X : Type 0} (P : X → Type 0) (xs : List X) → ((x : X) → Contains xs x → P x) → AllByRecursion P xs
all_of_members P [] h = tt
all_of_members P (x ∷ xs) h = (h x (Contains-here x xs), all_of_members P xs (λ y k. h y (Contains-later x xs y k)))

pub member_of_all : {X : Type 0} (P : X → Type 0) (xs : List X) (x : X) → AllByRecursion P xs → Contains xs x → P x
member_of_all P [] x all h = absurd (Contains-none x h)
member_of_all P (y ∷ xs) x all h = elim (Contains-cases y xs x h) [ inl e ↦ subst P e all.0 | inr h ↦ member_of_all P xs x all.1 h ]

pub sorted_append : {X : Type 0} (c : X → X → Ordering) (xs ys : List X) → IsStrictlySortedBy c xs → IsStrictlySortedBy c ys → ((x y : X) → Contains xs x → Contains ys y → c x y ≡ Less) → IsStrictlySortedBy c (xs ++ ys)
unfolding IsStrictlySortedBy
sorted_append c [] ys h k below = k
sorted_append c (x ∷ xs) ys h k below = (both xs h.0 (λ y i. below x y (Contains-here x xs) i), sorted_append c xs ys h.1 k (λ z y i j. below z y (Contains-later x xs z i) j))
  where
    both : (zs : List _) → AllByRecursion (λ y. c x y ≡ Less) zs → ((y : _) → Contains ys y → c x y ≡ Less) → AllByRecursion (λ y. c x y ≡ Less) (zs ++ ys)
    both [] a b = all_of_members (λ y. c x y ≡ Less) ys b
    both (z ∷ zs) a b = (a.0, both zs a.1 b)

-- Two lists in order with the same members are equal.
pub same_sorted : {X : Type 0} (c : X → X → Ordering) → IsTotalOrder c → (xs ys : List X) → IsStrictlySortedBy c xs → IsStrictlySortedBy c ys → ((x : X) → Contains xs x → Contains ys x) → ((y : X) → Contains ys y → Contains xs y) → xs ≡ ys
unfolding IsStrictlySortedBy
same_sorted c o [] [] h k to from = refl
same_sorted c o [] (y ∷ ys) h k to from = absurd (Contains-none y (from y (Contains-here y ys)))
same_sorted c o (x ∷ xs) [] h k to from = absurd (Contains-none x (to x (Contains-here x xs)))
same_sorted {X} c o (x ∷ xs) (y ∷ ys) h k to from = go (same_sorted c o xs ys h.1 k.1)
  where
    -- No value is below itself.
    apart : (a b : X) → c a b ≡ Less → a ≡ b → ⊥
    apart a b lt e = let tie = tied_itself o a in let lt' : c a a ≡ Less = subst (λ z. c a z ≡ Less) (sym e) lt in cc

    same : x ≡ y
    same = elim (Contains-cases y ys x (to x (Contains-here x xs))) [
      | inl e ↦ sym e
      | inr i ↦ elim (Contains-cases x xs y (from y (Contains-here y ys))) [
        | inl e ↦ e
        | inr j ↦
            let above : c y x ≡ Less = member_of_all (λ z. c y z ≡ Less) ys x k.0 i in
            let below : c x y ≡ Less = member_of_all (λ z. c x z ≡ Less) xs y h.0 j in
            let turned : Less ≡ Greater = sym below ∙ o.antisymm x y ∙ ap ordering_reverse above in
            cc
      ]
    ]

    go : (((z : X) → Contains xs z → Contains ys z) → ((z : X) → Contains ys z → Contains xs z) → xs ≡ ys) → (x ∷ xs) ≡ (y ∷ ys)
    go rest =
        let e : x ≡ y = same in
        let tails : xs ≡ ys = rest
        (λ z i. elim (Contains-cases y ys z (to z (Contains-later x xs z i))) [ inl yz ↦ absurd (apart x z (member_of_all (λ w. c x w ≡ Less) xs z h.0 i) (e ∙ yz)) | inr j ↦ j ])
        (λ z i. elim (Contains-cases x xs z (from z (Contains-later y ys z i))) [ inl xz ↦ absurd (apart y z (member_of_all (λ w. c y w ≡ Less) ys z k.0 i) (sym e ∙ xz)) | inr j ↦ j ]) in
        cc

-- A list put in order keeps each item, if only equal values compare equal.
pub kept_in_order : {X : Type 0} (cmp : X → X → Ordering) → CmpEqualImpliesEq cmp → (items sorted : List X) → IsInOrder cmp items sorted → (x : X) → Contains items x → Contains sorted x
kept_in_order cmp exact items sorted order x i = go (order.none_lost x i)
  where
    go : Any (λ y. is_eq (cmp x y) ≡ true) sorted → Contains sorted x
    go (k, y, lt, at, e) = subst (λ z. Contains sorted z) (sym (tells_apart exact x y e)) (k, lt, at)

-- ==== counts

pub count-le : {X : Type 0} (p q : X → Bool) (xs : List X) → ((x : X) → p x ≡ true → q x ≡ true) → count p xs ≤ count q xs
count-le p q [] h = omega arith
count-le p q (x ∷ xs) h = go (p x) (q x) (h x) (count-le p q xs h)
  where
    go : (s t : Bool) → (s ≡ true → t ≡ true) → count p xs ≤ count q xs → (if s then 1 else 0) + count p xs ≤ (if t then 1 else 0) + count q xs
    go true true k ih = omega arith
    go true false k ih = absurd (false≢true (k refl))
    go false true k ih = omega arith
    go false false k ih = omega arith

pub count-lt : {X : Type 0} (p q : X → Bool) (xs : List X) → ((x : X) → p x ≡ true → q x ≡ true) → (x : X) → Contains xs x → p x ≡ false → q x ≡ true → count p xs < count q xs
count-lt p q [] h x i np nq = absurd (Contains-none x i)
count-lt p q (y ∷ xs) h x i np nq = go (p y) (q y) refl refl (h y) (Contains-cases y xs x i) (count-le p q xs h) (λ j. count-lt p q xs h x j np nq)
  where
    go : (s t : Bool) → p y ≡ s → q y ≡ t → (s ≡ true → t ≡ true) → (y ≡ x) ⊎ Contains xs x → count p xs ≤ count q xs → (Contains xs x → count p xs < count q xs) → (if s then 1 else 0) + count p xs < (if t then 1 else 0) + count q xs
    go true true ep eq k (inl e) le ih = absurd (false≢true (sym np ∙ ap p (sym e) ∙ ep))
    go true true ep eq k (inr j) le ih = let lt = ih j in omega arith
    go true false ep eq k w le ih = absurd (false≢true (k refl))
    go false true ep eq k w le ih = omega arith
    go false false ep eq k (inl e) le ih = absurd (false≢true (sym eq ∙ ap q e ∙ nq))
    go false false ep eq k (inr j) le ih = let lt = ih j in omega arith

-- A value that is there only if a test holds.
pub some_by_test : {X : Type 0} (b : Bool) (x y : X) → (if b then Some x else None) ≡ Some y → (b ≡ true) × (x ≡ y)
some_by_test true x y h = (refl, (cc))
some_by_test false x y h = absurd (cc)
