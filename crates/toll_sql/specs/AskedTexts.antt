-- The texts that select pairs of movements and the batch on a unit.
use Rattle.std.specs.Prelude.{ℕ, List, codes}

-- pairs of one owner's movements
abbrev pub owners_text : List ℕ
owners_text = codes "SELECT c.lot_owner, c.lot, p.lot_owner, p.lot FROM moves AS c JOIN moves AS p ON p.owner = c.owner AND p.ord = c.ord AND p.number = c.number LEFT JOIN voids AS v ON v.owner = c.owner AND v.mkey = c.mkey LEFT JOIN voids AS w ON w.owner = p.owner AND w.mkey = p.mkey WHERE c.owner = ?1 AND c.kind = 4 AND p.kind = 5 AND c.segment <= p.segment AND v.mkey IS NULL AND w.mkey IS NULL"

-- pairs of all owners' movements
abbrev pub all_text : List ℕ
all_text = codes "SELECT c.lot_owner, c.lot, p.lot_owner, p.lot FROM moves AS c JOIN moves AS p ON p.owner = c.owner AND p.ord = c.ord AND p.number = c.number LEFT JOIN voids AS v ON v.owner = c.owner AND v.mkey = c.mkey LEFT JOIN voids AS w ON w.owner = p.owner AND w.mkey = p.mkey WHERE c.kind = 4 AND p.kind = 5 AND c.segment <= p.segment AND v.mkey IS NULL AND w.mkey IS NULL"

-- the batches that hold a unit
abbrev pub unit_text : List ℕ
unit_text = codes "SELECT owner, ord, number, unit, state, closed FROM batches WHERE unit = ?1 AND closed = 0"
