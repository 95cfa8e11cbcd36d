use Rattle.std.proofs.Common.{◌≡◌, ◌<◌, ℕ, List, Some, true, map}
use Rattle.toll_plant.proofs.Common.{Reached, Ready, default_config, is_flexible, source_of, strip_bom, fields_of}
use Rattle.csv.specs.declared.parser.State.TheVariants as st
use Rattle.csv.specs.declared.reader.Trim.TheVariants as trim
use Rattle.toll_plant.proofs.records.records.Given as goal

abbrev pub invariant-loop-row : goal.invariant-loop-row
invariant-loop-row l = (l.row-iterator.rdr.trim ≡ trim.None) × Ready l.row-iterator.rdr × (0 < l.row-iterator.left) × (l.row-iterator.rdr.config ≡ default_config)
    × (y : List ℕ) × (source_of (λ s. Some s.now) l.row-iterator.rdr ≡ Some y)
    × Reached default_config st.StartRecord (strip_bom l.fn.file) (map fields_of l.records.items) l.row-iterator.rdr.state y
    × (is_flexible l.row-iterator.rdr ≡ true)
