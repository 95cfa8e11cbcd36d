-- Changes: those of a decision, and what they make of a slice.
use Rattle.std.specs.Prelude.{◌≡◌, if◌then◌else◌, List, [], ◌∷◌}
use Rattle.toll_base.specs.Bytes.{same_bytes}
use Rattle.toll_base.specs.Slice.{Slice, with_row}
use Rattle.toll_base.specs.declared.decision.Change.{Change}
use Rattle.toll_base.specs.declared.decision.Change.TheVariants.{Put}
use Rattle.toll_base.specs.declared.decision.Decision.{Decision}
use Rattle.toll_base.specs.declared.decision.Decision.TheVariants.{Accept, Repeated, Refuse}

-- the changes of a decision; what isn't accepted has none
abbrev pub changes_of : Decision → List Change
changes_of (Accept changes) = changes.items
changes_of _ = []

-- the command is done by these changes, in order
abbrev pub IsAccepted : List Change → Decision → Type 0
IsAccepted changes (Accept made) = made.items ≡ changes
IsAccepted changes Repeated = ⊥
IsAccepted changes (Refuse why) = ⊥

-- a slice after changes, in order: of the rows that are put, it takes those of its owner
abbrev pub after_change : Change → Slice → Slice
after_change (Put owner row) s = if same_bytes owner s.owner then with_row s row else s
after_change _ s = s

abbrev pub after_changes : List Change → Slice → Slice
after_changes [] s = s
after_changes (change ∷ changes) s = after_changes changes (after_change change s)
