-- Movements that stay where they were put, and the order in which they are read.
use Rattle.std.specs.Prelude.{◌≡◌, ℕ, ◌<◌, List, length, filter_map, slice_get}
use Rattle.std.specs.List.{AllByRecursion}
use Rattle.std.specs.Option.{option_map_or}
use Rattle.std.specs.declared.cmp.Ordering.{Ordering}
use Rattle.std.specs.declared.cmp.Ordering.TheVariants.{Less}
use Rattle.toll_base.specs.Bytes.{Bytes, bytes_cmp}
use Rattle.toll_base.specs.Places.{HasKeyAt, IsPlaceFor}
use Rattle.toll_base.specs.Table.{IsInKeyOrder}
use Rattle.toll_base.specs.declared.movement.MoveRow.{MoveRow}

-- the rows at these places, in the places' order
abbrev pub rows_at : {R : Type 0} → List R → List ℕ → List R
rows_at rows places = filter_map (slice_get rows) places

-- each place has a row
abbrev pub HaveRows : {R : Type 0} → List R → List ℕ → Type 0
HaveRows rows places = AllByRecursion (λ place. place < length rows) places

-- there is a place for each row, and the rows at them are in the order of their keys
pub record ArePlacesOf (rows : List MoveRow) (places : List ℕ) : Type 0 where
  pub have : HaveRows rows places
  pub all : length places ≡ length rows
  pub ordered : IsInKeyOrder bytes_cmp (λ row. row.key) (rows_at rows places)

-- the row at this one of the places has the key
abbrev pub HasPlacedKey : List MoveRow → List ℕ → Bytes → ℕ → Type 0
HasPlacedKey rows places key = HasKeyAt bytes_cmp (λ row. row.key) (rows_at rows places) key

-- the key would go here among the places
abbrev pub IsPlaceAmong : List MoveRow → List ℕ → Bytes → ℕ → Type 0
IsPlaceAmong rows places key = IsPlaceFor bytes_cmp (λ row. row.key) (rows_at rows places) key

-- how the key of the row at a place compares with this one
abbrev pub key_cmp_at : List MoveRow → Bytes → ℕ → Ordering
key_cmp_at rows key place = option_map_or (λ row. bytes_cmp row.key key) (slice_get rows place) Less
