-- The places at which lots are used: segments of batches. A batch is a chain of segments.
use Rattle.std.specs.Prelude.{◌≡◌, ◌⊎◌, ℕ, ◌+◌, ◌<◌, ◌≤◌, List, length, Contains, slice_range}
use Rattle.toll_trace.specs.Common.{nat_cmp, ordering_then, Ordering, LotId}
use Rattle.toll_base.specs.Keys.{batch_cmp}
use Rattle.toll_trace.specs.declared.edges.LotUse.{LotUse}
use Rattle.toll_trace.specs.declared.edge_index.Span.{Span}
use Rattle.toll_trace.specs.declared.way.Way.{Way}
use Rattle.toll_trace.specs.declared.way.Way.TheVariants.{Back, Forward}
use Rattle.toll_trace.specs.Uses.{Batch}

-- a batch of one of several slices: which of them, and the batch
abbrev pub Chain : Type 0
Chain = ℕ × Batch

-- a segment of a chain
abbrev pub ChainSegment : Type 0
ChainSegment = Chain × ℕ

abbrev pub chain_cmp : Chain → Chain → Ordering
chain_cmp a b = ordering_then (nat_cmp a.0 b.0) (batch_cmp a.1 b.1)

-- places by their chain, then by their segment
abbrev pub chain_segment_cmp : ChainSegment → ChainSegment → Ordering
chain_segment_cmp a b = ordering_then (chain_cmp a.0 b.0) (nat_cmp a.1 b.1)

-- the order, reversed for `Back`
abbrev pub order_along : {X : Type 0} → Way → (X → X → Ordering) → X → X → Ordering
order_along Back cmp a b = cmp b a
order_along Forward cmp a b = cmp a b

-- What enters in segment s leads in this direction to what leaves in segment t.
abbrev pub IsAhead : Way → ℕ → ℕ → Type 0
IsAhead Back s t = t ≤ s
IsAhead Forward s t = s ≤ t

-- a use of a lot, with the number of its slice
abbrev pub placed_use : ℕ → Batch × LotUse → ChainSegment × LotId
placed_use number used = (((number, used.0), used.1.segment), used.1.lot)

-- In one chain, `a` enters, and `b` leaves ahead of it.
abbrev pub PassesThrough : {X : Type 0} → Way → List (ChainSegment × X) → List (ChainSegment × X) → X → X → Type 0
PassesThrough {X} way entering leaving a b =
    (u : ChainSegment × X) × (v : ChainSegment × X) × Contains entering u × Contains leaving v × (u.1 ≡ a) × (v.1 ≡ b) × (u.0.0 ≡ v.0.0) × IsAhead way u.0.1 v.0.1

-- The span has exactly the uses that are ahead of the place, in its chain.
pub record IsAheadOf (way : Way) (uses : List (ChainSegment × ℕ)) (place : ChainSegment) (span : Span) : Type 0 where
  pub within : span.end ≤ length uses
  pub only : (v : ChainSegment × ℕ) → Contains (slice_range uses span.start span.end) v → Contains uses v × (place.0 ≡ v.0.0) × IsAhead way place.1 v.0.1
  pub every : (v : ChainSegment × ℕ) → Contains uses v → place.0 ≡ v.0.0 → IsAhead way place.1 v.0.1 → Contains (slice_range uses span.start span.end) v

-- The numbers of the slices are below the number of uses.
abbrev pub AreSliceNumbersInRange : List (ChainSegment × LotId) → List (ChainSegment × LotId) → Type 0
AreSliceNumbersInRange consumptions productions = (u : ChainSegment × LotId) → Contains consumptions u ⊎ Contains productions u → u.0.0.0 < length consumptions + length productions

-- The entries have, for each use at which a lot enters, the lot with the span of the uses ahead of it.
pub record AreAhead (way : Way) (entering leaving : List (ChainSegment × ℕ)) (sources : List (ℕ × Span)) : Type 0 where
  pub only : (entry : ℕ × Span) → Contains sources entry → (u : ChainSegment × ℕ) × Contains entering u × (u.1 ≡ entry.0) × IsAheadOf way leaving u.0 entry.1
  pub every : (u : ChainSegment × ℕ) → Contains entering u → (span : Span) × Contains sources (u.1, span) × IsAheadOf way leaving u.0 span
