-- A trace grows by levels: what a level adds, and that the levels end.
use Rattle.std.proofs.Common.{◌≡◌, ◌⊎◌, ℕ, zero, suc, ◌+◌, ◌<◌, ◌≤◌, nat_eq, Bool, true, false, not, ◌||◌, cond, List, [], ◌∷◌, ◌++◌, map, length, refl, sym, ap, ◌∙◌, subst, inl, inr, arith, Contains}
use Rattle.toll_trace.proofs.Common.{false≢true, count, IsStrictlySortedBy, nat_cmp, is_eq, ordering_then, Less, cases_lt, or_cases, or_left, or_right, eqb-false, lt-ltb, not-true, not_from_true, not_from_false, false_from_ne_true, tied_itself, nat_cmp_total, eq_by_cmp_equiv, tells_apart, Contains-append_left, Contains-append_right, Contains-append_cases, LotId, lot_cmp, Step, IsChain, lots_of, IsTrace, IsInOrder, step_at, is_found, IsLevel}
use Rattle.toll_trace.specs.Order.{step_cmp}
use Rattle.toll_trace.proofs.Members.{Contains-none, Contains-here, Contains-later, Contains-cases, Contains-from_map, all_of_members, member_of_all, sorted_append, kept_in_order, count-lt}
use Rattle.toll_trace.proofs.Orders.{lots_total, lots_exact}

-- ==== the test and the list of lots

pub lot_is_found : (found : List Step) (b : LotId) → Contains (lots_of found) b → is_found found b ≡ true
lot_is_found [] b h = absurd (Contains-none b h)
lot_is_found (s ∷ found) b h = elim (Contains-cases s.lot (lots_of found) b h) [
  | inl e ↦ or_left _ _ (subst (λ l. is_eq (lot_cmp l s.lot) ≡ true) e (ap is_eq (tied_itself lots_total s.lot)))
  | inr h ↦ or_right (is_eq (lot_cmp b s.lot)) _ (lot_is_found found b h)
]

pub level_found_lot : (found : List Step) (b : LotId) → is_found found b ≡ true → Contains (lots_of found) b
level_found_lot [] b h = absurd (false≢true h)
level_found_lot (s ∷ found) b h = elim (or_cases _ _ h) [
  | inl e ↦ subst (λ l. Contains (s.lot ∷ lots_of found) l) (sym (tells_apart lots_exact b s.lot e)) (Contains-here s.lot (lots_of found))
  | inr h ↦ Contains-later s.lot (lots_of found) b (level_found_lot found b h)
]

pub not_found_lot : (found : List Step) (b : LotId) → is_found found b ≡ false → Contains (lots_of found) b → ⊥
not_found_lot found b h i = false≢true (sym h ∙ lot_is_found found b i)

-- One more step finds one more lot.
pub is_found-push : (found : List Step) (s : Step) (b : LotId) → is_found (found ++ s ∷ []) b ≡ cond (is_eq (lot_cmp s.lot b)) true (is_found found b)
is_found-push [] s b = ap (λ t. t || false) ((eq_by_cmp_equiv lots_total).symm b s.lot) ∙ go (is_eq (lot_cmp s.lot b))
  where
    go : (t : Bool) → (t || false) ≡ cond t true false
    go true = refl
    go false = refl
is_found-push (r ∷ found) s b = ap (λ t. is_eq (lot_cmp b r.lot) || t) (is_found-push found s b) ∙ go (is_eq (lot_cmp b r.lot)) (is_eq (lot_cmp s.lot b)) (is_found found b)
  where
    go : (t u v : Bool) → (t || cond u true v) ≡ cond u true (t || v)
    go true true v = refl
    go true false v = refl
    go false true v = refl
    go false false v = refl

-- ==== lots found after so many levels

pub lots_more : (found : List Step) (k : ℕ) (lots : List LotId) → lots_of (found ++ map (step_at k) lots) ≡ lots_of found ++ lots
lots_more [] k [] = refl
lots_more [] k (b ∷ lots) = ap (λ l. b ∷ l) (lots_more [] k lots)
lots_more (s ∷ found) k lots = ap (λ l. s.lot ∷ l) (lots_more found k lots)

-- All lots that end a chain of at most k edges are found, each with its fewest edges.
pub record IsReached (E : LotId → LotId → Type 0) (a : LotId) (found : List Step) (k : ℕ) : Type 0 where
  pub only : (s : Step) → Contains found s → IsChain E a s.steps s.lot
  pub fewest : (s : Step) → Contains found s → (n : ℕ) → IsChain E a n s.lot → s.steps ≤ n
  pub within : (s : Step) → Contains found s → s.steps ≤ k
  pub every : (b : LotId) (n : ℕ) → n ≤ k → IsChain E a n b → Contains (lots_of found) b
  pub ordered : IsStrictlySortedBy step_cmp found

sorted_one : (s : Step) → IsStrictlySortedBy step_cmp (s ∷ [])
unfolding IsStrictlySortedBy
sorted_one s = (tt, tt)

pub reached_start : (E : LotId → LotId → Type 0) (a : LotId) → IsReached E a (step_at 0 a ∷ []) 0
reached_start E a = record {
  only = λ s h. subst (λ t. IsChain E a t.steps t.lot) (first s h) refl;
  fewest = λ s h n c. subst (λ t. t.steps ≤ n) (first s h) (omega arith);
  within = λ s h. subst (λ t. t.steps ≤ 0) (first s h) (omega arith);
  every = every;
  ordered = sorted_one (step_at 0 a);
}
  where
    first : (s : Step) → Contains (step_at 0 a ∷ []) s → step_at 0 a ≡ s
    first s h = elim (Contains-cases (step_at 0 a) [] s h) [ inl e ↦ e | inr h ↦ absurd (Contains-none s h) ]

    every : (b : LotId) (n : ℕ) → n ≤ 0 → IsChain E a n b → Contains (a ∷ []) b
    every b zero le c = subst (λ l. Contains (a ∷ []) l) c (Contains-here a [])
    every b (suc n) le c = absurd (omega arith)

-- If a level is empty, all lots are found.
every_lot_found : (E : LotId → LotId → Type 0) (a : LotId) (found : List Step) (k : ℕ) → IsReached E a found k → IsLevel E found [] → (b : LotId) (n : ℕ) → IsChain E a n b → Contains (lots_of found) b
every_lot_found E a found k reached level b zero c = reached.every b zero (omega arith) c
every_lot_found E a found k reached level b (suc n) c =
    elim (level.every c.0 b (every_lot_found E a found k reached level c.0 n c.1) c.2) [ inl h ↦ absurd (Contains-none b h) | inr f ↦ f ]

pub trace_done : (E : LotId → LotId → Type 0) (a : LotId) (found : List Step) (k : ℕ) → IsReached E a found k → IsLevel E found [] → IsTrace E a found
trace_done E a found k reached level = record {
  only = reached.only;
  fewest = reached.fewest;
  every = every_lot_found E a found k reached level;
  ordered = reached.ordered;
}

sorted_level : (k : ℕ) (lots : List LotId) → IsStrictlySortedBy lot_cmp lots → IsStrictlySortedBy step_cmp (map (step_at k) lots)
unfolding IsStrictlySortedBy
sorted_level k [] h = tt
sorted_level k (b ∷ lots) h = (all_of_members (λ t. step_cmp (step_at k b) t ≡ Less) (map (step_at k) lots) (λ t i. later t (Contains-from_map (step_at k) lots t i)), sorted_level k lots h.1)
  where
    later : (t : Step) → (x : LotId) × Contains lots x × (step_at k x ≡ t) → step_cmp (step_at k b) t ≡ Less
    later t r = subst (λ t. step_cmp (step_at k b) t ≡ Less) r.2 (ap (λ o. ordering_then o (lot_cmp b r.0)) (tied_itself nat_cmp_total k) ∙ member_of_all (λ y. lot_cmp b y ≡ Less) lots r.0 h.0 r.1)

nat_less : (m n : ℕ) → m < n → nat_cmp m n ≡ Less
nat_less m n lt = simp (lt-ltb m n lt)

-- The level after k is added.
pub reached_more : (E : LotId → LotId → Type 0) (a : LotId) (found : List Step) (k : ℕ) (lots : List LotId) → IsReached E a found k → IsLevel E found lots → IsReached E a (found ++ map (step_at (k + 1)) lots) (k + 1)
reached_more E a found k lots reached level = record {
  only = λ s h. elim (Contains-append_cases found fresh s h) [ inl i ↦ reached.only s i | inr i ↦ subst (λ t. IsChain E a t.steps t.lot) (of s i).2 (chain (of s i).0 (of s i).1) ];
  fewest = λ s h n c. elim (Contains-append_cases found fresh s h) [ inl i ↦ reached.fewest s i n c | inr i ↦ fewest s n c (of s i) ];
  within = λ s h. elim (Contains-append_cases found fresh s h) [ inl i ↦ let le = reached.within s i in omega arith | inr i ↦ subst (λ t. t.steps ≤ k + 1) (of s i).2 (omega arith) ];
  every = every;
  ordered = sorted_append step_cmp found fresh reached.ordered (sorted_level (k + 1) lots level.ordered) later;
}
  where
    fresh : List Step
    fresh = map (step_at (k + 1)) lots

    of : (s : Step) → Contains fresh s → (b : LotId) × Contains lots b × (step_at (k + 1) b ≡ s)
    of s i = Contains-from_map (step_at (k + 1)) lots s i

    later : (s t : Step) → Contains found s → Contains fresh t → step_cmp s t ≡ Less
    later s t i j = let le = reached.within s i in let lt : s.steps < t.steps = subst (λ t. s.steps < t.steps) (of t j).2 (omega arith) in ap (λ o. ordering_then o (lot_cmp s.lot t.lot)) (nat_less s.steps t.steps lt)

    -- A new lot has no chain of k edges or fewer.
    far : (b : LotId) → Contains lots b → (n : ℕ) → IsChain E a n b → k + 1 ≤ n
    far b i n c = elim (cases_lt k n) [ inl lt ↦ omega arith | inr le ↦ absurd (level.not_found b i (reached.every b n le c)) ]

    chain : (b : LotId) → Contains lots b → IsChain E a (k + 1) b
    chain b i =
        let from = level.led_to b i in
        let s = Contains-from_map (λ (s : Step). s.lot) found from.0 from.1 in
        let c : IsChain E a (suc s.0.steps) b = (s.0.lot, reached.only s.0 s.1, subst (λ l. E l b) (sym s.2) from.2) in
        let le = reached.within s.0 s.1 in
        let ge = far b i (suc s.0.steps) c in
        let e : suc s.0.steps ≡ k + 1 = omega arith in
        subst (λ n. IsChain E a n b) e c

    fewest : (s : Step) (n : ℕ) → IsChain E a n s.lot → (b : LotId) × Contains lots b × (step_at (k + 1) b ≡ s) → s.steps ≤ n
    fewest s n c r = let le = far r.0 r.1 n (subst (λ t. IsChain E a n t.lot) (sym r.2) c) in subst (λ t. t.steps ≤ n) r.2 le

    old : (b : LotId) → Contains (lots_of found) b ⊎ Contains lots b → Contains (lots_of (found ++ fresh)) b
    old b h = subst (λ l. Contains l b) (sym (lots_more found (k + 1) lots)) (elim h [ inl h ↦ Contains-append_left (lots_of found) lots b h | inr h ↦ Contains-append_right (lots_of found) lots b h ])

    every : (b : LotId) (n : ℕ) → n ≤ k + 1 → IsChain E a n b → Contains (lots_of (found ++ fresh)) b
    every b zero le c = old b (inl (reached.every b zero (omega arith) c))
    every b (suc n) le c = elim (level.every c.0 b (reached.every c.0 n (omega arith) c.1) c.2) [ inl h ↦ old b (inr h) | inr h ↦ old b (inl h) ]

-- ==== each level finds a lot that an edge leads to and that was not found

-- how many of these lots are not found
abbrev pub count_unfound : List Step → List LotId → ℕ
count_unfound found lots = count (λ b. not (is_found found b)) lots

pub fewer_unfound : (E : LotId → LotId → Type 0) (found : List Step) (k : ℕ) (lots targets : List LotId) → IsLevel E found lots → ((a b : LotId) → E a b → Contains targets b) → 0 < length lots → count_unfound (found ++ map (step_at k) lots) targets < count_unfound found targets
fewer_unfound E found k [] targets level all lt = absurd (omega arith)
fewer_unfound E found k (b ∷ lots) targets level all lt =
    let from = level.led_to b (Contains-here b lots) in
    count-lt (λ x. not (is_found more x)) (λ x. not (is_found found x)) targets still b (all from.0 b from.2)
    (not_from_true _ (lot_is_found more b (subst (λ l. Contains l b) (sym (lots_more found k (b ∷ lots))) (Contains-append_right (lots_of found) (b ∷ lots) b (Contains-here b lots)))))
    (not_from_false _ (false_from_ne_true _ (λ t. level.not_found b (Contains-here b lots) (level_found_lot found b t))))
  where
    more : List Step
    more = found ++ map (step_at k) (b ∷ lots)

    still : (x : LotId) → not (is_found more x) ≡ true → not (is_found found x) ≡ true
    still x t = not_from_false _ (false_from_ne_true _ (λ h. not_found_lot more x (not-true _ t) (subst (λ l. Contains l x) (sym (lots_more found k (b ∷ lots))) (Contains-append_left (lots_of found) (b ∷ lots) x (level_found_lot found x h)))))

-- ==== a level from the lots that the edges lead on to

pub level_of : (E : LotId → LotId → Type 0) (found : List Step) (lots sorted : List LotId) → ((b : LotId) → Contains lots b → (is_found found b ≡ false) × ((a : LotId) × Contains (lots_of found) a × E a b)) → ((a b : LotId) → Contains (lots_of found) a → E a b → is_found found b ≡ false → Contains lots b) → IsInOrder lot_cmp lots sorted → IsLevel E found sorted
level_of E found lots sorted only enough order = record {
  led_to = λ b i. (only b (order.none_new b i)).1;
  not_found = λ b i. not_found_lot found b (only b (order.none_new b i)).0;
  every = λ a b i j. every a b i j (is_found found b) refl;
  ordered = order.ordered;
}
  where
    every : (a b : LotId) → Contains (lots_of found) a → E a b → (t : Bool) → is_found found b ≡ t → Contains sorted b ⊎ Contains (lots_of found) b
    every a b i j true e = inr (level_found_lot found b e)
    every a b i j false e = inl (kept_in_order lot_cmp lots_exact lots sorted order b (enough a b i j e))

-- A level that isn't empty has lots.
pub some_lots : (count n : ℕ) → count ≡ n → nat_eq count 0 ≡ false → 0 < n
some_lots count n is some = let z = eqb-false count 0 some in omega arith
