-- A walk through joints, each once.
use Rattle.std.specs.Prelude.{◌≡◌, ◌⊎◌, ℕ, ◌+◌, ◌≤◌, Bool, true, false, List, map, length, Contains, slice_index, slice_index_or, slice_range}
use Rattle.toll_trace.specs.Common.{IsStrictlySortedBy, LotId, lot_cmp}
use Rattle.toll_trace.specs.declared.edge_index.EdgeIndex.{EdgeIndex}
use Rattle.toll_trace.specs.declared.edge_index.Span.{Span}
use Rattle.toll_trace.specs.declared.search.Part.{Part}
use Rattle.toll_trace.specs.EdgeIndex.{leaving, LeadsThrough}
use Rattle.toll_trace.specs.Leads.{IsIndexedStep}
use Rattle.toll_trace.specs.Numbers.{AreAdded, AreAllNumbers, AreBelow, IsNumber}

-- Each place has a low. Of the joints before the place, those from its low on were walked: what leaves there is old or among the new ones.
pub record AreWalked {X : Type 0} (targets : List X) (is_old : X → Bool) (lows : List ℕ) (new : List X) : Type 0 where
  pub low : (end : ℕ) → slice_index lows end ≤ end
  pub known : (end : ℕ) (x : X) → end ≤ length targets → Contains (slice_range targets (slice_index lows end) end) x → (is_old x ≡ true) ⊎ Contains new x

-- These are the new ones from before and those that leave the entered spans.
pub record AreEntered {K X : Type 0} (targets : List X) (is_old : X → Bool) (sources : List (K × Span)) (lows : List ℕ) (before new : List X) : Type 0 where
  pub walked : AreWalked targets is_old lows new
  pub kept : (x : X) → Contains before x → Contains new x
  pub only : (x : X) → Contains new x → Contains before x ⊎ ((is_old x ≡ false) × ((entry : K × Span) × Contains sources entry × Contains (leaving targets entry.1) x))
  pub every : (entry : K × Span) (x : X) → Contains sources entry → Contains (leaving targets entry.1) x → (is_old x ≡ true) ⊎ Contains new x

-- These are the new ones that a step through the joints leads to from the front.
pub record AreLedOn {X : Type 0} (is_old : X → Bool) (front : List X) (sources : List (X × Span)) (targets : List X) (lows : List ℕ) (new : List X) : Type 0 where
  pub walked : AreWalked targets is_old lows new
  pub only : (n : X) → Contains new n → (is_old n ≡ false) × ((m : X) × Contains front m × LeadsThrough sources targets m n)
  pub every : (m n : X) → Contains front m → LeadsThrough sources targets m n → (is_old n ≡ true) ⊎ Contains new n

-- whether the lot with this number is marked
abbrev pub is_marked : List Bool → ℕ → Bool
is_marked marks n = slice_index_or marks n false

-- These numbers are marked too.
pub record AreMarked (old : List Bool) (numbers : List ℕ) (new : List Bool) : Type 0 where
  pub sized : length new ≡ length old
  pub kept : (n : ℕ) → is_marked old n ≡ true → is_marked new n ≡ true
  pub added : (n : ℕ) → Contains numbers n → is_marked new n ≡ true
  pub only : (n : ℕ) → is_marked new n ≡ true → (is_marked old n ≡ true) ⊎ Contains numbers n

-- the lots and joints of these parts
abbrev pub all_steps : List Part → List (List LotId × EdgeIndex)
all_steps parts = map (λ part. (part.lots.now, part.joints.now)) parts

-- A step through some of these joints leads from `a` to `b`.
abbrev pub LeadThrough : List (List LotId × EdgeIndex) → LotId → LotId → Type 0
LeadThrough all a b = (one : List LotId × EdgeIndex) × Contains all one × IsIndexedStep one.0 one.1 a b

-- The lots are in order, each number is of one of them, and each place has its low.
pub record IsSound (part : Part) : Type 0 where
  pub sorted : IsStrictlySortedBy lot_cmp part.lots.now
  pub targets : AreBelow (length part.lots.now) part.joints.now.targets.items
  pub front : AreBelow (length part.lots.now) part.front.items
  pub marks : length part.marks.items ≡ length part.lots.now
  pub lows : length part.lows.items ≡ length part.joints.now.targets.items + 1

-- Exactly the known lots are marked. What leaves the walked joints is marked or at the front.
pub record IsStepped (known : LotId → Bool) (part : Part) : Type 0 where
  pub sound : IsSound part
  pub marked : (n : ℕ) (lot : LotId) → IsNumber part.lots.now n lot → is_marked part.marks.items n ≡ known lot
  pub walked : AreWalked part.joints.now.targets.items (is_marked part.marks.items) part.lows.items part.front.items

-- The same, and the front has exactly those of these lots that are the part's.
pub record IsWalked (known : LotId → Bool) (front : List LotId) (part : Part) : Type 0 where
  pub stepped : IsStepped known part
  pub faces : AreAllNumbers part.lots.now front part.front.items

-- A step was taken from the front to these lots, which are added to those before.
pub record IsLedOn (old new : Part) (before lots : List LotId) : Type 0 where
  pub same_lots : new.lots.now ≡ old.lots.now
  pub same_joints : new.joints.now ≡ old.joints.now
  pub sound : IsSound new
  pub marked : AreMarked old.marks.items old.front.items new.marks.items
  pub led : AreLedOn (is_marked new.marks.items) old.front.items new.joints.now.sources new.joints.now.targets.items new.lows.items new.front.items
  pub added : AreAdded new.lots.now new.front.items before lots

-- The front has exactly those of these lots that are the part's, and nothing else changed.
pub record IsFaced (lots : List LotId) (old new : Part) : Type 0 where
  pub same_lots : new.lots.now ≡ old.lots.now
  pub same_joints : new.joints.now ≡ old.joints.now
  pub same_marks : new.marks.items ≡ old.marks.items
  pub same_lows : new.lows.items ≡ old.lows.items
  pub faces : AreAllNumbers new.lots.now lots new.front.items

-- Each of these parts is one of the old ones, with these lots at its front.
abbrev pub AreFaced : List LotId → List Part → List Part → Type 0
AreFaced lots old new = (part : Part) → Contains new part → (before : Part) × Contains old before × IsFaced lots before part

-- These are the new lots that a step through joints of the parts leads to from the front, in order.
pub record AreLedTo (known : LotId → Bool) (front : List LotId) (parts : List Part) (lots : List LotId) : Type 0 where
  pub walked : (part : Part) → Contains parts part → IsWalked known lots part
  pub only : (b : LotId) → Contains lots b → (known b ≡ false) × ((a : LotId) × Contains front a × LeadThrough (all_steps parts) a b)
  pub every : (a b : LotId) → Contains front a → LeadThrough (all_steps parts) a b → (known b ≡ true) ⊎ Contains lots b
  pub ordered : IsStrictlySortedBy lot_cmp lots
