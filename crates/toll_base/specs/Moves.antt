-- Movements: which are equal.
use Rattle.std.specs.Prelude.{Bool, false, ◌&&◌, ◌==◌}
use Rattle.toll_base.specs.Bytes.{same_bytes}
use Rattle.toll_base.specs.Lots.{same_lot}
use Rattle.toll_base.specs.Roles.{same_role}
use Rattle.toll_base.specs.declared.movement.MoveRow.{MoveRow}
use Rattle.toll_base.specs.declared.movement.Move.{Move}
use Rattle.toll_base.specs.declared.movement.Move.TheVariants.{Receive, Split, Ship, Scrap, Actual}

-- equal kind and fields
abbrev pub same_what : Move → Move → Bool
same_what (Receive m l s) (Receive m' l' s') = same_bytes m m' && same_bytes l l' && same_bytes s s'
same_what (Split l s t) (Split l' s' t') = same_bytes l l' && same_bytes s s' && same_bytes t t'
same_what (Ship l s) (Ship l' s') = same_bytes l l' && same_bytes s s'
same_what (Scrap l s) (Scrap l' s') = same_bytes l l' && same_bytes s s'
same_what (Actual o n g r m l s) (Actual o' n' g' r' m' l' s') = same_bytes o o' && n == n' && g == g' && same_role r r' && same_bytes m m' && same_lot l l' && same_bytes s s'
same_what _ _ = false

-- equal kind, fields, amount and day
abbrev pub same_movement : MoveRow → MoveRow → Bool
same_movement a b = same_bytes a.key b.key && same_what a.what b.what && a.amount == b.amount && a.day == b.day
