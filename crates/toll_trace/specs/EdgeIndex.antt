-- Joints, which lead from lots to lots without a pair for each two of them.
use Rattle.std.specs.Prelude.{◌≤◌, List, length, Contains, slice_range}
use Rattle.toll_trace.specs.declared.edge_index.Span.{Span}

-- what leaves at the joints of the span
abbrev pub leaving : {X : Type 0} → List X → Span → List X
leaving targets span = slice_range targets span.start span.end

-- The spans end within the joints.
abbrev pub AreWithin : {K X : Type 0} → List X → List (K × Span) → Type 0
AreWithin {K} targets sources = (entry : K × Span) → Contains sources entry → entry.1.end ≤ length targets

-- A step leads from `a` to `b`: `a` enters a span, and `b` leaves at one of its joints.
abbrev pub LeadsThrough : {K X : Type 0} → List (K × Span) → List X → K → X → Type 0
LeadsThrough sources targets a b = (span : Span) × Contains sources (a, span) × Contains (leaving targets span) b
