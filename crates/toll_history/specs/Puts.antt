-- What an accepted movement puts: the movement, and the sublot that it brings into or takes from.
use Rattle.std.specs.Prelude.{ℕ, ◌+◌, ◌-◌, List, map}
use Rattle.toll_history.specs.Common.{sublot_row_of, Bytes, Change, Put, SublotRow}
use Rattle.toll_base.specs.declared.rows.Row.{Row}
use Rattle.toll_history.specs.OwnerFacts.{OwnerFacts}
use Rattle.toll_history.specs.Verdict.{amount_in}

-- these rows are put, of this owner
abbrev pub puts_of : Bytes → List Row → List Change
puts_of o rows = map (Put o) rows

-- the sublot with so much more in it
abbrev pub gained : (lot sublot : Bytes) → ℕ → OwnerFacts → SublotRow
gained lot sublot amount t = sublot_row_of lot sublot (amount_in t lot sublot + amount)

-- the sublot with so much less in it
abbrev pub less_in_sublot : (lot sublot : Bytes) → ℕ → OwnerFacts → SublotRow
less_in_sublot lot sublot amount t = sublot_row_of lot sublot (amount_in t lot sublot - amount)
