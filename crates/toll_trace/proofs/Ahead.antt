-- Uses in the order of a direction: the places of those ahead of a place.
use Rattle.std.proofs.Common.{◌≡◌, ◌↔◌, ℕ, ◌+◌, ◌-◌, ◌<◌, ◌≤◌, Bool, true, false, List, [], ◌∷◌, ◌++◌, map, length, get_or, take, drop, refl, sym, ap, ◌∙◌, subst, inl, inr, arith, Contains, slice_range}
use Rattle.toll_base.proofs.Texts.{batch_cmp_total}
use Rattle.toll_trace.proofs.Common.{false≢true, cases_lt, IsTotalOrder, IsStrictWeakOrder, IsPermutation, IsSortedBy, IsSortedByKey, nat_cmp, is_le, is_lt, ordering_reverse, ordering_then, MatchOrdering, Ordering, Less, Equal, Greater, ranked, tied_itself, nat_cmp_total, then_total, on_total, CmpEqualImpliesEq, exact_unsigned, exact_pairs, Contains-permutation, IsPermutation-sym, ranks_by, Contains-append_left, Contains-append_right, Contains-append_cases, batch_cmp, take-map, drop-map, length-map, Span, Way, Back, Forward, leaving, AreWithin, LeadsThrough, Chain, ChainSegment, chain_cmp, chain_segment_cmp, order_along, IsAhead, PassesThrough, IsAheadOf, AreAhead}
use Rattle.toll_trace.proofs.Extremes.{exact_batches, not_below}
use Rattle.toll_trace.proofs.Members.{Contains-none, Contains-here, Contains-cases, Contains-map, Contains-from_map}
use Rattle.toll_trace.proofs.Runs.{run_below, up_to, IsEndOf}
use Rattle.toll_trace.proofs.Walks.{at_from_range, range_from_at}

-- ==== orders

pub flip_total : {K : Type 0} (R : K → K → Ordering) → IsTotalOrder R → IsTotalOrder (λ x y. R y x)
flip_total R o = record {
  antisymm = λ x y. o.antisymm y x;
  trans = λ x y z p q. o.trans z y x q p;
  congr = λ x y z e. o.antisymm z x ∙ ap ordering_reverse (sym (o.congr y x z e)) ∙ sym (o.antisymm z y);
}

flip_exact : {K : Type 0} (R : K → K → Ordering) → CmpEqualImpliesEq R → CmpEqualImpliesEq (λ x y. R y x)
flip_exact R exact a b h = sym (exact b a h)

chains_total : IsTotalOrder chain_cmp
chains_total = then_total (on_total (λ (c : Chain). c.0) nat_cmp_total) (on_total (λ (c : Chain). c.1) batch_cmp_total)

exact_chains : CmpEqualImpliesEq chain_cmp
exact_chains = exact_pairs nat_cmp batch_cmp exact_unsigned exact_batches

places_total : IsTotalOrder chain_segment_cmp
places_total = then_total (on_total (λ (p : ChainSegment). p.0) chains_total) (on_total (λ (p : ChainSegment). p.1) nat_cmp_total)

pub along_total : (way : Way) → IsTotalOrder (order_along way chain_segment_cmp)
along_total Back = flip_total chain_segment_cmp places_total
along_total Forward = places_total

pub chains_along_total : (way : Way) → IsTotalOrder (order_along way chain_cmp)
chains_along_total Back = flip_total chain_cmp chains_total
chains_along_total Forward = chains_total

exact_along : (way : Way) → CmpEqualImpliesEq (order_along way chain_cmp)
exact_along Back = flip_exact chain_cmp exact_chains
exact_along Forward = exact_chains

-- The order of places is that of chains, then that of segments.
along_is : (way : Way) (p q : ChainSegment) → order_along way chain_segment_cmp p q ≡ ordering_then (order_along way chain_cmp p.0 q.0) (order_along way nat_cmp p.1 q.1)
along_is Back p q = refl
along_is Forward p q = refl

pub uses_along : (way : Way) → IsStrictWeakOrder (λ (u v : ChainSegment × ℕ). is_lt (order_along way chain_segment_cmp u.0 v.0))
uses_along way = ranks_by (along_total way) (λ (u : ChainSegment × ℕ). u.0)

is_lt_false : (a b : ℕ) (r : Ordering) → MatchOrdering r (a < b) (a ≡ b) (b < a) → b ≤ a → is_lt r ≡ false
is_lt_false a b Less m le = absurd (omega arith)
is_lt_false a b Equal m le = refl
is_lt_false a b Greater m le = refl

-- What isn't below, in the order of the direction, is ahead.
ahead : (way : Way) (s t : ℕ) → is_lt (order_along way nat_cmp t s) ≡ false → IsAhead way s t
ahead Back s t h = not_below s t _ (ranked s t _ refl) h
ahead Forward s t h = not_below t s _ (ranked t s _ refl) h

not_lower : (way : Way) (s t : ℕ) → IsAhead way s t → is_lt (order_along way nat_cmp t s) ≡ false
not_lower Back s t le = is_lt_false s t _ (ranked s t _ refl) le
not_lower Forward s t le = is_lt_false t s _ (ranked t s _ refl) le

-- ==== the places of the uses ahead of a place

then_not_less : (r s : Ordering) → is_lt (ordering_then r s) ≡ false → is_lt r ≡ false
then_not_less Less s h = h
then_not_less Equal s h = refl
then_not_less Greater s h = refl

pub chains_sorted : (way : Way) (uses : List (ChainSegment × ℕ)) → IsSortedBy (λ (u v : ChainSegment × ℕ). is_lt (order_along way chain_segment_cmp u.0 v.0)) uses → IsSortedByKey (λ (u : ChainSegment × ℕ). u.0.0) (order_along way chain_cmp) uses
chains_sorted way uses sorted k d low lt = then_not_less _ _ (sym (ap is_lt (along_is way (get_or uses (k + 1) d).0 (get_or uses k d).0)) ∙ sorted k d low lt)

-- A place that isn't below another, in a chain that isn't above the other's, is in the same chain and not below it there.
one_chain : (r s : Ordering) → is_lt (ordering_then r s) ≡ false → is_le r ≡ true → (r ≡ Equal) × (is_lt s ≡ false)
one_chain Less s h l = absurd (false≢true (sym h))
one_chain Equal s h l = (refl, h)
one_chain Greater s h l = absurd (false≢true l)

module _ (way : Way) (uses : List (ChainSegment × ℕ)) (place : ChainSegment) (start end : ℕ) where
  abbrev place_below : ChainSegment × ℕ → Bool
  place_below = run_below (order_along way chain_segment_cmp) (λ (u : ChainSegment × ℕ). u.0) place

  abbrev chain_up_to : ChainSegment × ℕ → Bool
  chain_up_to = up_to (order_along way chain_cmp) (λ (u : ChainSegment × ℕ). u.0.0) place.0

  pub span_ahead : IsEndOf (order_along way chain_segment_cmp) (λ (u : ChainSegment × ℕ). u.0) place place_below uses start → IsEndOf (order_along way chain_cmp) (λ (u : ChainSegment × ℕ). u.0.0) place.0 chain_up_to uses end → end ≤ length uses → IsAheadOf way uses place (record { start = start; end = end })
  span_ahead starts ends within = record { within = within; only = only; every = every }
    where
      only : (v : ChainSegment × ℕ) → Contains (slice_range uses start end) v → Contains uses v × (place.0 ≡ v.0.0) × IsAhead way place.1 v.0.1
      only v i =
          let (k, ge, lt, in_uses, at) = at_from_range uses start end v i in
          let not_below : place_below v ≡ false = subst (λ u. place_below u ≡ false) at (starts.1 k v ge in_uses) in
          let up : chain_up_to v ≡ true = subst (λ u. chain_up_to u ≡ true) at (ends.0 k v (omega arith) lt) in
          let both = one_chain (order_along way chain_cmp v.0.0 place.0) (order_along way nat_cmp v.0.1 place.1) (sym (ap is_lt (along_is way v.0 place)) ∙ not_below) up in
          ((k, in_uses, at), sym (exact_along way v.0.0 place.0 both.0), ahead way place.1 v.0.1 both.1)

      every : (v : ChainSegment × ℕ) → Contains uses v → place.0 ≡ v.0.0 → IsAhead way place.1 v.0.1 → Contains (slice_range uses start end) v
      every v (k, in_uses, at) same is_ahead = range_from_at uses start end k v from_start before_end in_uses at
        where
          tied : order_along way chain_cmp v.0.0 place.0 ≡ Equal
          tied = subst (λ c. order_along way chain_cmp v.0.0 c ≡ Equal) (sym same) (tied_itself (chains_along_total way) v.0.0)

          not_lt : place_below v ≡ false
          not_lt = ap is_lt (along_is way v.0 place) ∙ ap (λ r. is_lt (ordering_then r (order_along way nat_cmp v.0.1 place.1))) tied ∙ not_lower way place.1 v.0.1 is_ahead

          up : chain_up_to v ≡ true
          up = ap is_le tied

          from_start : start ≤ k
          from_start = elim (cases_lt k start) [
            | inl lt ↦ absurd (false≢true (sym not_lt ∙ subst (λ u. place_below u ≡ true) at (starts.0 k v (omega arith) lt)))
            | inr le ↦ le
          ]

          before_end : k < end
          before_end = elim (cases_lt k end) [
            | inl lt ↦ lt
            | inr le ↦ absurd (false≢true (sym (subst (λ u. chain_up_to u ≡ false) at (ends.1 k v le in_uses)) ∙ up))
          ]

-- ==== entries ahead

pub ahead_more : (way : Way) (entering leaving : List (ChainSegment × ℕ)) (u : ChainSegment × ℕ) (span : Span) (sources : List (ℕ × Span)) → AreAhead way entering leaving sources → IsAheadOf way leaving u.0 span → AreAhead way (entering ++ u ∷ []) leaving (sources ++ (u.1, span) ∷ [])
ahead_more way entering leaving u span sources old is = record {
  only = λ entry i. elim (Contains-append_cases sources ((u.1, span) ∷ []) entry i) [
    | inl i ↦ let r = old.only entry i in (r.0, Contains-append_left entering (u ∷ []) r.0 r.1, r.2, r.3)
    | inr i ↦ elim (Contains-cases (u.1, span) [] entry i) [
      | inl same ↦ (u, Contains-append_right entering (u ∷ []) u (Contains-here u []), ap (λ (e : ℕ × Span). e.0) same, subst (λ (e : ℕ × Span). IsAheadOf way leaving u.0 e.1) same is)
      | inr none ↦ absurd (Contains-none entry none)
    ]
  ];
  every = λ v i. elim (Contains-append_cases entering (u ∷ []) v i) [
    | inl i ↦ let r = old.every v i in (r.0, Contains-append_left sources ((u.1, span) ∷ []) (v.1, r.0) r.1, r.2)
    | inr i ↦ elim (Contains-cases u [] v i) [
      | inl same ↦ subst (λ (w : ChainSegment × ℕ). (s : Span) × Contains (sources ++ (u.1, span) ∷ []) (w.1, s) × IsAheadOf way leaving w.0 s) same (span, Contains-append_right sources ((u.1, span) ∷ []) (u.1, span) (Contains-here (u.1, span) []), is)
      | inr none ↦ absurd (Contains-none v none)
    ]
  ];
}

-- ==== joints of uses

range_map : {X Y : Type 0} (f : X → Y) (xs : List X) (i j : ℕ) → slice_range (map f xs) i j ≡ map f (slice_range xs i j)
range_map f xs i j = ap (take (j - i)) (drop-map f i xs) ∙ take-map f (j - i) (drop i xs)

module _ (way : Way) (entering before sorted : List (ChainSegment × ℕ)) (sources index : List (ℕ × Span)) (targets : List ℕ) (moved : IsPermutation before sorted) (lots : targets ≡ map (λ (u : ChainSegment × ℕ). u.1) sorted) (all : AreAhead way entering sorted sources) (listed : IsPermutation sources index) where
  entry_listed : (entry : ℕ × Span) → Contains index entry → Contains sources entry
  entry_listed entry i = Contains-permutation index sources entry (IsPermutation-sym sources index listed) i

  pub uses_within : AreWithin targets index
  uses_within entry i =
      let r = all.only entry (entry_listed entry i) in
      let le = r.3.within in
      let n = ap length lots in
      let m = length-map sorted (λ (u : ChainSegment × ℕ). u.1) in
      omega arith

  pub uses_joined : (a b : ℕ) → LeadsThrough index targets a b ↔ PassesThrough way entering before a b
  uses_joined a b = (to, from)
    where
      to : LeadsThrough index targets a b → PassesThrough way entering before a b
      to leads =
          let r = all.only (a, leads.0) (entry_listed (a, leads.0) leads.1) in
          let out = subst (λ xs. Contains (leaving xs leads.0) b) lots leads.2 in
          let v = Contains-from_map (λ (u : ChainSegment × ℕ). u.1) (leaving sorted leads.0) b (subst (λ xs. Contains xs b) (range_map (λ (u : ChainSegment × ℕ). u.1) sorted leads.0.start leads.0.end) out) in
          let passed = r.3.only v.0 v.1 in
          (r.0, v.0, r.1, Contains-permutation sorted before v.0 (IsPermutation-sym before sorted moved) passed.0, r.2, v.2, passed.1, passed.2)

      from : PassesThrough way entering before a b → LeadsThrough index targets a b
      from (u, v, i, j, left, right, same, is_ahead) =
          let r = all.every u i in
          let in_span = r.2.every v (Contains-permutation before sorted v moved j) same is_ahead in
          let out = subst (λ xs. Contains xs v.1) (sym (range_map (λ (u : ChainSegment × ℕ). u.1) sorted r.0.start r.0.end)) (Contains-map (λ (u : ChainSegment × ℕ). u.1) (leaving sorted r.0) v in_span) in
          (r.0, Contains-permutation sources index (a, r.0) listed (subst (λ l. Contains sources (l, r.0)) left r.1), subst (λ xs. Contains (leaving xs r.0) b) (sym lots) (subst (λ l. Contains (leaving (map (λ (u : ChainSegment × ℕ). u.1) sorted) r.0) l) right out))

-- Each exit is that of a use that leaves.
pub uses_exits : (before sorted : List (ChainSegment × ℕ)) (targets : List ℕ) → IsPermutation before sorted → targets ≡ map (λ (u : ChainSegment × ℕ). u.1) sorted → (n : ℕ) → Contains targets n → (v : ChainSegment × ℕ) × Contains before v × (v.1 ≡ n)
uses_exits before sorted targets moved are n i =
    let r = Contains-from_map (λ (u : ChainSegment × ℕ). u.1) sorted n (subst (λ xs. Contains xs n) are i) in
    (r.0, Contains-permutation sorted before r.0 (IsPermutation-sym before sorted moved) r.1, r.2)
